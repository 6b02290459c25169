use Rattle.mm_least.proofs.AnswerLemmas.{first_sets_of_rows}
use Rattle.mm_least.proofs.laws.rows_are_first_sets.Goals as goal

pub returns : goal.returns
returns c = first_sets_of_rows
