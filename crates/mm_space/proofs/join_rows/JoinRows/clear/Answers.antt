use Rattle.mm_space.proofs.MarkLemmas.{marked-none}
use Rattle.mm_space.proofs.join_rows.JoinRows.clear.Goals as goal

pub returns : goal.returns
returns c = marked-none 24 c.self.inside.rows
