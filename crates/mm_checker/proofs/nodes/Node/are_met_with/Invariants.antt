use Rattle.std.proofs.Common.{◌≡◌, true, map, List}
use Rattle.std.specs.List.{list_all, range_with_len}
use Rattle.mm_checker.specs.NodeLines.{choice, is_met, TreeLine, Rooted}
use Rattle.mm_checker.specs.KeptNodes.{IsNode, IsTable, with_set, sets_of}
use Rattle.mm_checker.specs.declared.nodes.Row.{Row}
use Rattle.mm_checker.proofs.nodes.Node.are_met_with.Given as goal

abbrev pub invariant-loop-y : goal.invariant-loop-y
invariant-loop-y l =
    (trees : List Rooted) (node : TreeLine) (rows : List Row) → IsNode l.self trees node → IsTable rows true l.table.rows.entries
    → list_all (λ y. is_met (map (with_set (sets_of l.self)) rows) (choice l.least l.claims.leaves.entries l.claims.glues.entries trees node l.x y)) (range_with_len 0 l.y) ≡ true
