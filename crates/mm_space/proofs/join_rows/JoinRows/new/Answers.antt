use Rattle.mm_space.proofs.MarkLemmas.{marked-none}
use Rattle.mm_space.proofs.join_rows.JoinRows.new.Goals as goal

pub returns : goal.returns
returns c = marked-none 24 _
