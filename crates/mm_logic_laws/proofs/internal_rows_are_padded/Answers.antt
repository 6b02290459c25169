use Rattle.mm_logic_laws.proofs.RowLemmas.{internal-rows}
use Rattle.mm_logic_laws.proofs.internal_rows_are_padded.Goals as goal

pub returns : goal.returns
returns c = internal-rows
