use Rattle.mm_logic_laws.proofs.RowLemmas.{format-one_valid}
use Rattle.mm_logic_laws.proofs.format_one_is_valid.Goals as goal

pub returns : goal.returns
returns c = format-one_valid
