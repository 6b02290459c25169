use Rattle.std.proofs.Common.{◌≡◌, ◌≤◌, ◌+◌, pos, [], length, slice_index_or, nat_abs, refl, sym, ◌∙◌, subst}
use Rattle.mm_logic.specs.Formula.{Formula}
use Rattle.mm_logic.specs.Occurrence.{nodes as parts, list_cells}
use Rattle.mm_logic.specs.JoinRule.{join_type}
use Rattle.mm_logic.specs.Growth.{type_at}
use Rattle.mm_states.specs.Calls.{IsOperand}
use Rattle.mm_nodes.specs.Demands.{IsExact}
use Rattle.mm_least.specs.declared.row.Row.{Row}
use Rattle.mm_least.specs.declared.row.Origin.TheVariants.{Out}
use Rattle.mm_least.specs.Rows.{shown}
use Rattle.mm_least.specs.Candidates.{types_of, typed, pairs_with}
use Rattle.mm_least.specs.Transitions.{AreIn, Told}
use Rattle.mm_least.specs.FoundTypes.{names_of, rows_of}
use Rattle.mm_least.specs.Passes.{Passed, AreTooMany, AreOperands, most_sum}
use Rattle.mm_least.proofs.WalkLemmas.{passed_none, told_none, still_exact, begins, fit_at, operand_stays, operands_stay, of_step, of_told, of_full}
use Rattle.mm_least.proofs.pass.add_open_pairs.Goals as goal

abbrev none : Row
none = record { id = 0; weight = pos 0; origin = Out }

pub loop-k-init : goal.loop-k-init
loop-k-init g c = (refl, refl, refl, passed_none _ _ (rows_of c.args.found.now) c.args.room.now c.requires.exact c.requires.within, told_none _ _ (names_of c.args.found.now) c.requires.listed, c.requires.found, c.requires.open)

pub add_pairs_with-requires-clause-whole : goal.add_pairs_with-requires-clause-whole
add_pairs_with-requires-clause-whole g c =
    subst (λ (G : Formula). c.args.whole ≡ c.loop-k.room + length (rows_of c.loop-k.found) + list_cells (parts G) (g.A.Automaton.lists c.loop-k.automaton)) (sym c.loop-k.invariant.0)
    (c.requires.whole ∙ sym c.loop-k.invariant.3.taken)

pub add_pairs_with-requires-clause-left : goal.add_pairs_with-requires-clause-left
add_pairs_with-requires-clause-left g c =
    let op = c.args.op.now in
    let F = g.A.Automaton.shape c.args.automaton.now in
    subst (λ (G : Formula). IsOperand G op.f op.op.t1 (g.A.Automaton.lists c.loop-k.automaton) (slice_index_or c.args.left.now c.loop-k.k none).id) (sym c.loop-k.invariant.0)
    (operand_stays F op.f op.op.t1 _ _ _ (begins F _ _ _ [] [] _ _ _ _ c.loop-k.invariant.3)
    (fit_at (λ q. IsOperand F op.f op.op.t1 (g.A.Automaton.lists c.args.automaton.now) q.0) c.args.left.now c.loop-k.k none c.requires.left c.loop-k-test.true))

pub add_pairs_with-requires-clause-left_light : goal.add_pairs_with-requires-clause-left_light
add_pairs_with-requires-clause-left_light g c = fit_at (λ q. nat_abs q.1 ≤ most_sum) c.args.left.now c.loop-k.k none c.requires.left_light c.loop-k-test.true

pub add_pairs_with-requires-clause-right : goal.add_pairs_with-requires-clause-right
add_pairs_with-requires-clause-right g c =
    let op = c.args.op.now in
    let F = g.A.Automaton.shape c.args.automaton.now in
    subst (λ (G : Formula). AreOperands G op.f op.op.t2 (g.A.Automaton.lists c.loop-k.automaton) (shown c.args.right.now)) (sym c.loop-k.invariant.0)
    (operands_stay F op.f op.op.t2 _ _ (shown c.args.right.now) (begins F _ _ _ [] [] _ _ _ _ c.loop-k.invariant.3) c.requires.right)

pub add_pairs_with-requires-clause-exact : goal.add_pairs_with-requires-clause-exact
add_pairs_with-requires-clause-exact g c =
    subst (λ (G : Formula). IsExact G (g.A.Automaton.lists c.loop-k.automaton)) (sym c.loop-k.invariant.0) (still_exact _ _ _ _ [] [] _ _ _ _ c.loop-k.invariant.3 c.requires.exact)

pub returns-in-Err-clause-passes : goal.returns-in-Err-clause-passes
returns-in-Err-clause-passes g c = λ full.
    let op = c.args.op.now in
    let lists = g.A.Automaton.lists c.loop-k.automaton in
    let left = c.args.left.now in
    let right = c.args.right.now in
    of_full (g.A.Automaton.shape c.args.automaton.now) op (g.A.Automaton.lists c.args.automaton.now) lists left right c.loop-k.k none c.loop-k-test.true c.requires.left c.requires.right
    (rows_of c.args.found.now) (rows_of c.loop-k.found) (rows_of c.loop-k.found) c.args.room.now c.loop-k.room c.loop-k.room c.loop-k.invariant.3
    (subst (λ (G : Formula). AreTooMany G lists (pairs_with (join_type op.f G op.op) (type_at G lists (slice_index_or left c.loop-k.k none).id, (slice_index_or left c.loop-k.k none).weight) c.loop-k.k (typed G lists (shown right)) 0) (rows_of c.loop-k.found) c.loop-k.room)
    c.loop-k.invariant.0 (c.in-Err.ensures.passes full))

pub loop-k-preserved : goal.loop-k-preserved
loop-k-preserved g c =
    let op = c.args.op.now in
    let lists = g.A.Automaton.lists c.loop-k.automaton in
    let nows = g.A.Automaton.lists c.add_pairs_with.new.automaton in
    let left = c.args.left.now in
    let right = c.args.right.now in (
      c.in-Ok.ensures.shape ∙ c.loop-k.invariant.0,
      c.in-Ok.ensures.field ∙ c.loop-k.invariant.1,
      c.in-Ok.ensures.marked ∙ c.loop-k.invariant.2,
      of_step (g.A.Automaton.shape c.args.automaton.now) op (g.A.Automaton.lists c.args.automaton.now) lists left right c.loop-k.k none c.loop-k-test.true c.requires.left c.requires.right
          (rows_of c.args.found.now) (rows_of c.loop-k.found) (rows_of c.add_pairs_with.new.found) c.args.room.now c.loop-k.room c.add_pairs_with.new.room c.loop-k.invariant.3 nows
          (subst (λ (G : Formula). Passed G lists nows (pairs_with (join_type op.f G op.op) (type_at G lists (slice_index_or left c.loop-k.k none).id, (slice_index_or left c.loop-k.k none).weight) c.loop-k.k (typed G lists (shown right)) 0) (rows_of c.loop-k.found) (rows_of c.add_pairs_with.new.found) c.loop-k.room c.add_pairs_with.new.room)
          c.loop-k.invariant.0 c.in-Ok.ensures.passes),
      of_told (g.A.Automaton.shape c.args.automaton.now) op (g.A.Automaton.lists c.args.automaton.now) lists left right c.loop-k.k none c.loop-k-test.true c.requires.left c.requires.right
          (rows_of c.args.found.now) (rows_of c.loop-k.found) (rows_of c.add_pairs_with.new.found) c.args.room.now c.loop-k.room c.add_pairs_with.new.room c.loop-k.invariant.3 nows (names_of c.args.found.now) (names_of c.loop-k.found) (names_of c.add_pairs_with.new.found) c.loop-k.invariant.4
          (subst (λ (G : Formula). Told G lists nows (names_of c.loop-k.found) (names_of c.add_pairs_with.new.found) (types_of (pairs_with (join_type op.f G op.op) (type_at G lists (slice_index_or left c.loop-k.k none).id, (slice_index_or left c.loop-k.k none).weight) c.loop-k.k (typed G lists (shown right)) 0)))
          c.loop-k.invariant.0 c.in-Ok.ensures.told),
      c.in-Ok.ensures.found,
      c.in-Ok.ensures.open,
    )

pub add_pairs_with-requires-clause-listed : goal.add_pairs_with-requires-clause-listed
add_pairs_with-requires-clause-listed g c =
    subst (λ (G : Formula). AreIn G (g.A.Automaton.lists c.loop-k.automaton) (names_of c.loop-k.found)) (sym c.loop-k.invariant.0) c.loop-k.invariant.4.within
