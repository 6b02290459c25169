use Rattle.mm_checker.proofs.AnswerLemmas.{passing_is_right}
use Rattle.mm_checker.proofs.laws.passing_certificates_are_right.Goals as goal

pub returns : goal.returns
returns c = passing_is_right
