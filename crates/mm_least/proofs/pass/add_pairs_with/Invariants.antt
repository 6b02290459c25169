use Rattle.std.proofs.Common.{◌≡◌, take}
use Rattle.mm_logic.specs.JoinRule.{join_type}
use Rattle.mm_logic.specs.Growth.{type_at}
use Rattle.mm_least.specs.Rows.{shown}
use Rattle.mm_least.specs.Candidates.{typed, types_of, pairs_with}
use Rattle.mm_least.specs.Passes.{Passed}
use Rattle.mm_least.specs.Transitions.{Told}
use Rattle.mm_least.specs.FoundTypes.{IsFound, names_of, rows_of}
use Rattle.mm_least.proofs.pass.add_pairs_with.Given as goal

abbrev pub invariant-loop-k : goal.invariant-loop-k
invariant-loop-k g l =
    (g.A.Automaton.shape l.automaton ≡ g.A.Automaton.shape l.fn.automaton) × (g.A.Automaton.field l.automaton ≡ g.A.Automaton.field l.fn.automaton)
    × (g.A.Automaton.marked l.automaton ≡ g.A.Automaton.marked l.fn.automaton)
    × Passed (g.A.Automaton.shape l.fn.automaton) (g.A.Automaton.lists l.fn.automaton) (g.A.Automaton.lists l.automaton)
    (pairs_with (join_type l.fn.op.f (g.A.Automaton.shape l.fn.automaton) l.fn.op.op) (type_at (g.A.Automaton.shape l.fn.automaton) (g.A.Automaton.lists l.fn.automaton) l.fn.left.id, l.fn.left.weight) l.fn.place
    (typed (g.A.Automaton.shape l.fn.automaton) (g.A.Automaton.lists l.fn.automaton) (shown (take l.k l.fn.right))) 0) (rows_of l.fn.found) (rows_of l.found) l.fn.room l.room
    × Told (g.A.Automaton.shape l.fn.automaton) (g.A.Automaton.lists l.fn.automaton) (g.A.Automaton.lists l.automaton) (names_of l.fn.found) (names_of l.found)
    (types_of (pairs_with (join_type l.fn.op.f (g.A.Automaton.shape l.fn.automaton) l.fn.op.op) (type_at (g.A.Automaton.shape l.fn.automaton) (g.A.Automaton.lists l.fn.automaton) l.fn.left.id, l.fn.left.weight) l.fn.place
    (typed (g.A.Automaton.shape l.fn.automaton) (g.A.Automaton.lists l.fn.automaton) (shown (take l.k l.fn.right))) 0))
    × IsFound l.found × g.A.Automaton.IsOpen l.fn.op l.automaton
