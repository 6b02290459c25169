use Rattle.std.proofs.Common.{◌≡◌, ◌≤◌, ◌+◌, ◌+ℤ◌, pos, [], ◌∷◌, length, slice_index_or, nat_abs, refl, sym, ◌∙◌, subst}
use Rattle.mm_field.specs.declared.Field.{Field}
use Rattle.mm_logic.specs.Formula.{Formula}
use Rattle.mm_logic.specs.Occurrence.{nodes as parts, list_cells}
use Rattle.mm_states.specs.Calls.{CanJoin, IsOperand, value_of_join}
use Rattle.mm_nodes.specs.Demands.{IsExact}
use Rattle.mm_least.specs.declared.row.Row.{Row}
use Rattle.mm_least.specs.declared.row.Origin.TheVariants.{Out, Pair}
use Rattle.mm_least.specs.Candidates.{types_of, candidate}
use Rattle.mm_least.specs.Transitions.{AreIn, Told}
use Rattle.mm_least.specs.FoundTypes.{names_of, rows_of}
use Rattle.mm_least.specs.Passes.{Passed, AreTooMany, most_sum}
use Rattle.mm_least.proofs.WalkLemmas.{passed_none, told_none, still_exact, begins, still_roomy, fit_at, operand_stays, with_step, with_told, with_full}
use Rattle.mm_least.proofs.pass.add_pairs_with.Goals as goal

abbrev none : Row
none = record { id = 0; weight = pos 0; origin = Out }

pub loop-k-init : goal.loop-k-init
loop-k-init g c = (refl, refl, refl, passed_none _ _ (rows_of c.args.found.now) c.args.room.now c.requires.exact c.requires.within, told_none _ _ (names_of c.args.found.now) c.requires.listed, c.requires.found, c.requires.open)

pub add_pair-requires-clause-whole : goal.add_pair-requires-clause-whole
add_pair-requires-clause-whole g c =
    subst (λ (G : Formula). c.args.whole ≡ c.loop-k.room + length (rows_of c.loop-k.found) + list_cells (parts G) (g.A.Automaton.lists c.loop-k.automaton)) (sym c.loop-k.invariant.0)
    (c.requires.whole ∙ sym c.loop-k.invariant.3.taken)

pub add_pair-requires-clause-can : goal.add_pair-requires-clause-can
add_pair-requires-clause-can g c =
    let p = c.loop-k.invariant.3 in
    let F = g.A.Automaton.shape c.args.automaton.now in
    let lists = g.A.Automaton.lists c.loop-k.automaton in
    let op = c.args.op.now in
    let b = begins F _ _ _ [] [] _ _ _ _ p in
    subst (λ (G : Formula). CanJoin G (g.A.Automaton.field c.loop-k.automaton) lists op c.args.left.now.id (slice_index_or c.args.right.now c.loop-k.k none).id c.loop-k.room) (sym c.loop-k.invariant.0)
    (subst (λ (h : Field). CanJoin F h lists op c.args.left.now.id (slice_index_or c.args.right.now c.loop-k.k none).id c.loop-k.room) (sym c.loop-k.invariant.1)
    (record {
      field = c.requires.over;
      left_operand = operand_stays F op.f op.op.t1 _ _ c.args.left.now.id b c.requires.left;
      right_operand = operand_stays F op.f op.op.t2 _ _ _ b (fit_at (λ q. IsOperand F op.f op.op.t2 (g.A.Automaton.lists c.args.automaton.now) q.0) c.args.right.now c.loop-k.k none c.requires.right c.loop-k-test.true);
      roomy = still_roomy F _ _ _ [] [] _ _ _ _ p c.requires.roomy;
    }))

pub add_pair-requires-clause-exact : goal.add_pair-requires-clause-exact
add_pair-requires-clause-exact g c =
    subst (λ (G : Formula). IsExact G (g.A.Automaton.lists c.loop-k.automaton)) (sym c.loop-k.invariant.0) (still_exact _ _ _ _ [] [] _ _ _ _ c.loop-k.invariant.3 c.requires.exact)

pub add_pair-requires-clause-right : goal.add_pair-requires-clause-right
add_pair-requires-clause-right g c = fit_at (λ q. nat_abs q.1 ≤ most_sum) c.args.right.now c.loop-k.k none c.requires.right_light c.loop-k-test.true

pub returns-in-Err-clause-passes : goal.returns-in-Err-clause-passes
returns-in-Err-clause-passes g c = λ full.
    let F = g.A.Automaton.shape c.args.automaton.now in
    let op = c.args.op.now in
    let olds = g.A.Automaton.lists c.args.automaton.now in
    let lists = g.A.Automaton.lists c.loop-k.automaton in
    let left = c.args.left.now in
    let right = c.args.right.now in
    with_full F op olds lists left c.args.place right c.loop-k.k none c.loop-k-test.true c.requires.left.within c.requires.right
    (rows_of c.args.found.now) (rows_of c.loop-k.found) (rows_of c.loop-k.found) c.args.room.now c.loop-k.room c.loop-k.room c.loop-k.invariant.3
    (subst (λ (G : Formula). AreTooMany G lists (candidate (value_of_join G lists op left.id (slice_index_or right c.loop-k.k none).id) (left.weight +ℤ (slice_index_or right c.loop-k.k none).weight) (Pair c.args.place c.loop-k.k) ∷ []) (rows_of c.loop-k.found) c.loop-k.room)
    c.loop-k.invariant.0 (c.in-Err.ensures.passes full))

pub loop-k-preserved : goal.loop-k-preserved
loop-k-preserved g c =
    let F = g.A.Automaton.shape c.args.automaton.now in
    let op = c.args.op.now in
    let olds = g.A.Automaton.lists c.args.automaton.now in
    let lists = g.A.Automaton.lists c.loop-k.automaton in
    let nows = g.A.Automaton.lists c.add_pair.new.automaton in
    let left = c.args.left.now in
    let right = c.args.right.now in (
      c.in-Ok.ensures.shape ∙ c.loop-k.invariant.0,
      c.in-Ok.ensures.field ∙ c.loop-k.invariant.1,
      c.in-Ok.ensures.marked ∙ c.loop-k.invariant.2,
      with_step F op olds lists left c.args.place right c.loop-k.k none c.loop-k-test.true c.requires.left.within c.requires.right
          (rows_of c.args.found.now) (rows_of c.loop-k.found) (rows_of c.add_pair.new.found) c.args.room.now c.loop-k.room c.add_pair.new.room c.loop-k.invariant.3 nows
          (subst (λ (G : Formula). Passed G lists nows (candidate (value_of_join G lists op left.id (slice_index_or right c.loop-k.k none).id) (left.weight +ℤ (slice_index_or right c.loop-k.k none).weight) (Pair c.args.place c.loop-k.k) ∷ []) (rows_of c.loop-k.found) (rows_of c.add_pair.new.found) c.loop-k.room c.add_pair.new.room)
          c.loop-k.invariant.0 c.in-Ok.ensures.passes),
      with_told F op olds lists left c.args.place right c.loop-k.k none c.loop-k-test.true c.requires.left.within c.requires.right
          (rows_of c.args.found.now) (rows_of c.loop-k.found) (rows_of c.add_pair.new.found) c.args.room.now c.loop-k.room c.add_pair.new.room c.loop-k.invariant.3 nows (names_of c.args.found.now) (names_of c.loop-k.found) (names_of c.add_pair.new.found) c.loop-k.invariant.4
          (subst (λ (G : Formula). Told G lists nows (names_of c.loop-k.found) (names_of c.add_pair.new.found) (types_of (candidate (value_of_join G lists op left.id (slice_index_or right c.loop-k.k none).id) (left.weight +ℤ (slice_index_or right c.loop-k.k none).weight) (Pair c.args.place c.loop-k.k) ∷ [])))
          c.loop-k.invariant.0 c.in-Ok.ensures.told),
      c.in-Ok.ensures.found,
      c.in-Ok.ensures.open,
    )

pub add_pair-requires-clause-listed : goal.add_pair-requires-clause-listed
add_pair-requires-clause-listed g c =
    subst (λ (G : Formula). AreIn G (g.A.Automaton.lists c.loop-k.automaton) (names_of c.loop-k.found)) (sym c.loop-k.invariant.0) c.loop-k.invariant.4.within
