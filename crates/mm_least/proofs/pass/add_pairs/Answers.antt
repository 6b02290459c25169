use Rattle.std.proofs.Common.{◌≡◌, ◌+◌, length, sym, ◌∙◌}
use Rattle.std.specs.Prelude.{OnOk}
use Rattle.mm_logic.specs.Occurrence.{nodes as parts, list_cells}
use Rattle.mm_logic.specs.JoinRule.{join_type}
use Rattle.mm_states.specs.Letters as letters
use Rattle.mm_states.specs.Calls.{IsRoomy}
use Rattle.mm_nodes.specs.Demands.{IsExact}
use Rattle.mm_least.specs.Rows.{shown}
use Rattle.mm_least.specs.Candidates.{types_of, typed, pairs_of}
use Rattle.mm_least.specs.Transitions.{AreIn, Told}
use Rattle.mm_least.specs.FoundTypes.{names_of, rows_of}
use Rattle.mm_least.specs.Passes.{AreOperands, AreWithin, Passes}
use Rattle.mm_least.proofs.WalkLemmas.{of_same}
use Rattle.mm_least.proofs.pass.add_pairs.Goals as goal

pub add_open_pairs-requires-clause-whole : goal.add_open_pairs-requires-clause-whole
add_open_pairs-requires-clause-whole g c =
    of_same (λ F f ls. c.args.whole ≡ c.args.room.now + length (rows_of c.args.found.now) + list_cells (parts F) ls)
    (g.A.Automaton.shape c.args.automaton.now) (g.A.Automaton.shape c.open.new.self) (g.A.Automaton.field c.args.automaton.now) (g.A.Automaton.field c.open.new.self) (g.A.Automaton.lists c.args.automaton.now) (g.A.Automaton.lists c.open.new.self) c.in-Ok.ensures.shape c.in-Ok.ensures.field c.in-Ok.ensures.lists c.requires.whole

pub add_open_pairs-requires-clause-over : goal.add_open_pairs-requires-clause-over
add_open_pairs-requires-clause-over g c =
    of_same (λ F f ls. letters.IsOver F f c.args.op.now.f)
    (g.A.Automaton.shape c.args.automaton.now) (g.A.Automaton.shape c.open.new.self) (g.A.Automaton.field c.args.automaton.now) (g.A.Automaton.field c.open.new.self) (g.A.Automaton.lists c.args.automaton.now) (g.A.Automaton.lists c.open.new.self) c.in-Ok.ensures.shape c.in-Ok.ensures.field c.in-Ok.ensures.lists c.requires.over

pub add_open_pairs-requires-clause-left : goal.add_open_pairs-requires-clause-left
add_open_pairs-requires-clause-left g c =
    of_same (λ F f ls. AreOperands F c.args.op.now.f c.args.op.now.op.t1 ls (shown c.args.left.now))
    (g.A.Automaton.shape c.args.automaton.now) (g.A.Automaton.shape c.open.new.self) (g.A.Automaton.field c.args.automaton.now) (g.A.Automaton.field c.open.new.self) (g.A.Automaton.lists c.args.automaton.now) (g.A.Automaton.lists c.open.new.self) c.in-Ok.ensures.shape c.in-Ok.ensures.field c.in-Ok.ensures.lists c.requires.left

pub add_open_pairs-requires-clause-right : goal.add_open_pairs-requires-clause-right
add_open_pairs-requires-clause-right g c =
    of_same (λ F f ls. AreOperands F c.args.op.now.f c.args.op.now.op.t2 ls (shown c.args.right.now))
    (g.A.Automaton.shape c.args.automaton.now) (g.A.Automaton.shape c.open.new.self) (g.A.Automaton.field c.args.automaton.now) (g.A.Automaton.field c.open.new.self) (g.A.Automaton.lists c.args.automaton.now) (g.A.Automaton.lists c.open.new.self) c.in-Ok.ensures.shape c.in-Ok.ensures.field c.in-Ok.ensures.lists c.requires.right

pub add_open_pairs-requires-clause-roomy : goal.add_open_pairs-requires-clause-roomy
add_open_pairs-requires-clause-roomy g c =
    of_same (λ F f ls. IsRoomy F ls c.args.room.now)
    (g.A.Automaton.shape c.args.automaton.now) (g.A.Automaton.shape c.open.new.self) (g.A.Automaton.field c.args.automaton.now) (g.A.Automaton.field c.open.new.self) (g.A.Automaton.lists c.args.automaton.now) (g.A.Automaton.lists c.open.new.self) c.in-Ok.ensures.shape c.in-Ok.ensures.field c.in-Ok.ensures.lists c.requires.roomy

pub add_open_pairs-requires-clause-exact : goal.add_open_pairs-requires-clause-exact
add_open_pairs-requires-clause-exact g c =
    of_same (λ F f ls. IsExact F ls)
    (g.A.Automaton.shape c.args.automaton.now) (g.A.Automaton.shape c.open.new.self) (g.A.Automaton.field c.args.automaton.now) (g.A.Automaton.field c.open.new.self) (g.A.Automaton.lists c.args.automaton.now) (g.A.Automaton.lists c.open.new.self) c.in-Ok.ensures.shape c.in-Ok.ensures.field c.in-Ok.ensures.lists c.requires.exact

pub add_open_pairs-requires-clause-within : goal.add_open_pairs-requires-clause-within
add_open_pairs-requires-clause-within g c =
    of_same (λ F f ls. AreWithin F ls (shown (rows_of c.args.found.now)))
    (g.A.Automaton.shape c.args.automaton.now) (g.A.Automaton.shape c.open.new.self) (g.A.Automaton.field c.args.automaton.now) (g.A.Automaton.field c.open.new.self) (g.A.Automaton.lists c.args.automaton.now) (g.A.Automaton.lists c.open.new.self) c.in-Ok.ensures.shape c.in-Ok.ensures.field c.in-Ok.ensures.lists c.requires.within

pub add_open_pairs-requires-clause-listed : goal.add_open_pairs-requires-clause-listed
add_open_pairs-requires-clause-listed g c =
    of_same (λ F f ls. AreIn F ls (names_of c.args.found.now))
    (g.A.Automaton.shape c.args.automaton.now) (g.A.Automaton.shape c.open.new.self) (g.A.Automaton.field c.args.automaton.now) (g.A.Automaton.field c.open.new.self) (g.A.Automaton.lists c.args.automaton.now) (g.A.Automaton.lists c.open.new.self) c.in-Ok.ensures.shape c.in-Ok.ensures.field c.in-Ok.ensures.lists c.requires.listed

pub returns-in-Ok-clause-shape : goal.returns-in-Ok-clause-shape
returns-in-Ok-clause-shape g c = c.add_open_pairs.ensures.shape ∙ c.in-Ok.ensures.shape

pub returns-in-Ok-clause-field : goal.returns-in-Ok-clause-field
returns-in-Ok-clause-field g c = c.add_open_pairs.ensures.field ∙ c.in-Ok.ensures.field

pub returns-in-Ok-clause-marked : goal.returns-in-Ok-clause-marked
returns-in-Ok-clause-marked g c = c.add_open_pairs.ensures.marked ∙ c.in-Ok.ensures.marked

pub returns-in-Ok-clause-passes : goal.returns-in-Ok-clause-passes
returns-in-Ok-clause-passes g c =
    of_same (λ F f ls. Passes F ls (g.A.Automaton.lists c.add_open_pairs.new.automaton) (pairs_of (join_type c.args.op.now.f F c.args.op.now.op) (typed F ls (shown c.args.left.now)) 0 (typed F ls (shown c.args.right.now))) (rows_of c.args.found.now) (rows_of c.add_open_pairs.new.found) c.args.room.now c.add_open_pairs.new.room c.add_open_pairs.result)
    (g.A.Automaton.shape c.open.new.self) (g.A.Automaton.shape c.args.automaton.now) (g.A.Automaton.field c.open.new.self) (g.A.Automaton.field c.args.automaton.now) (g.A.Automaton.lists c.open.new.self) (g.A.Automaton.lists c.args.automaton.now) (sym c.in-Ok.ensures.shape) (sym c.in-Ok.ensures.field) (sym c.in-Ok.ensures.lists) c.add_open_pairs.ensures.passes

pub returns-in-Ok-clause-told : goal.returns-in-Ok-clause-told
returns-in-Ok-clause-told g c =
    of_same (λ F f ls. OnOk c.add_open_pairs.result (Told F ls (g.A.Automaton.lists c.add_open_pairs.new.automaton) (names_of c.args.found.now) (names_of c.add_open_pairs.new.found) (types_of (pairs_of (join_type c.args.op.now.f F c.args.op.now.op) (typed F ls (shown c.args.left.now)) 0 (typed F ls (shown c.args.right.now))))))
    (g.A.Automaton.shape c.open.new.self) (g.A.Automaton.shape c.args.automaton.now) (g.A.Automaton.field c.open.new.self) (g.A.Automaton.field c.args.automaton.now) (g.A.Automaton.lists c.open.new.self) (g.A.Automaton.lists c.args.automaton.now) (sym c.in-Ok.ensures.shape) (sym c.in-Ok.ensures.field) (sym c.in-Ok.ensures.lists) c.add_open_pairs.ensures.told
