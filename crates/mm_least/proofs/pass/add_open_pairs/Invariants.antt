use Rattle.std.proofs.Common.{◌≡◌, take}
use Rattle.mm_logic.specs.JoinRule.{join_type}
use Rattle.mm_least.specs.Rows.{shown}
use Rattle.mm_least.specs.Candidates.{typed, types_of, pairs_of}
use Rattle.mm_least.specs.Passes.{Passed}
use Rattle.mm_least.specs.Transitions.{Told}
use Rattle.mm_least.specs.FoundTypes.{IsFound, names_of, rows_of}
use Rattle.mm_least.proofs.pass.add_open_pairs.Given as goal

abbrev pub invariant-loop-k : goal.invariant-loop-k
invariant-loop-k g l =
    (g.A.Automaton.shape l.automaton ≡ g.A.Automaton.shape l.fn.automaton) × (g.A.Automaton.field l.automaton ≡ g.A.Automaton.field l.fn.automaton)
    × (g.A.Automaton.marked l.automaton ≡ g.A.Automaton.marked l.fn.automaton)
    × Passed (g.A.Automaton.shape l.fn.automaton) (g.A.Automaton.lists l.fn.automaton) (g.A.Automaton.lists l.automaton)
    (pairs_of (join_type l.fn.op.f (g.A.Automaton.shape l.fn.automaton) l.fn.op.op) (typed (g.A.Automaton.shape l.fn.automaton) (g.A.Automaton.lists l.fn.automaton) (shown (take l.k l.fn.left))) 0
    (typed (g.A.Automaton.shape l.fn.automaton) (g.A.Automaton.lists l.fn.automaton) (shown l.fn.right))) (rows_of l.fn.found) (rows_of l.found) l.fn.room l.room
    × Told (g.A.Automaton.shape l.fn.automaton) (g.A.Automaton.lists l.fn.automaton) (g.A.Automaton.lists l.automaton) (names_of l.fn.found) (names_of l.found)
    (types_of (pairs_of (join_type l.fn.op.f (g.A.Automaton.shape l.fn.automaton) l.fn.op.op) (typed (g.A.Automaton.shape l.fn.automaton) (g.A.Automaton.lists l.fn.automaton) (shown (take l.k l.fn.left))) 0
    (typed (g.A.Automaton.shape l.fn.automaton) (g.A.Automaton.lists l.fn.automaton) (shown l.fn.right))))
    × IsFound l.found × g.A.Automaton.IsOpen l.fn.op l.automaton
