use Rattle.mm_logic_laws.proofs.SizeLawLemmas.{rows_of_decide}
use Rattle.mm_logic_laws.proofs.rows_of_decide_are_nodes.Goals as goal

pub returns : goal.returns
returns c = rows_of_decide
