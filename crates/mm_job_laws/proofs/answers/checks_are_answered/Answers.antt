use Rattle.mm_job_laws.proofs.ItemLemmas.{checks_are_answered}
use Rattle.mm_job_laws.proofs.answers.checks_are_answered.Goals as goal

pub returns : goal.returns
returns c = checks_are_answered
