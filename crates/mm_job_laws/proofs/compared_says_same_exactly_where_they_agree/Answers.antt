use Rattle.mm_job_laws.proofs.AgreementLemmas.{same_exactly_where_they_agree}
use Rattle.mm_job_laws.proofs.compared_says_same_exactly_where_they_agree.Goals as goal

pub returns : goal.returns
returns c = same_exactly_where_they_agree
