use Rattle.mm_job_laws.proofs.ItemLemmas.{replacements_are_answered}
use Rattle.mm_job_laws.proofs.answers.replacements_are_answered.Goals as goal

pub returns : goal.returns
returns c = replacements_are_answered
