use Rattle.mm_job_laws.proofs.VerdictLemmas.{verdicts_are_meant}
use Rattle.mm_job_laws.proofs.answers.verdicts_are_meant.Goals as goal

pub returns : goal.returns
returns c = verdicts_are_meant
