use Rattle.std.proofs.Common.{take}
use Rattle.mm_checker.proofs.TableLemmas.{AreAdded}
use Rattle.mm_checker.proofs.nodes.Table.add_all.Given as goal

abbrev pub invariant-loop-i : goal.invariant-loop-i
invariant-loop-i l = AreAdded (take l.i l.rows) l.self.rows.entries
