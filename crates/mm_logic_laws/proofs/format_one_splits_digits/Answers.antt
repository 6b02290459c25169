use Rattle.mm_logic_laws.proofs.RowLemmas.{format-one}
use Rattle.mm_logic_laws.proofs.format_one_splits_digits.Goals as goal

pub returns : goal.returns
returns c = format-one
