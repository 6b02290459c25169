use Rattle.std.proofs.Common.{◌≡◌, ◌+◌, ◌++◌, ◌∷◌, [], map, length, refl, sym, ap, subst, ◌∙◌, arith}
use Rattle.std.specs.Prelude.{MatchOption, vec_len}
use Rattle.mm_present.proofs.StackLemmas.{stacks, stacked, stack_done, popped, popped_count, none_left}
use Rattle.mm_present.proofs.present.stack.Goals as goal
use Rattle.mm_present.proofs.present.stack.Goals.{in-Some+in_ok-push_row, in_default}

pub loop-init : goal.loop-init
loop-init c = record {
  count = omega arith;
  stacking = record { matrix = refl; whole = refl; each = c.requires };
}

pub push_row-requires : goal.push_row-requires
push_row-requires c =
    let left = map (λ r. r.items) c.loop.rows.items in
    let rest = map (λ r. r.items) c.pop.new.self.items in
    stacks c.args.matrix c.loop.matrix (map (λ r. r.items) c.args.rows.items) left rest c.deref.result.now c.loop.invariant.stacking
    (popped c.loop.rows.items c.pop.new.self.items c.pop.result c.in-Some.row c.pop.ensures.items c.in-Some.is
    ∙ ap (λ v. rest ++ v ∷ []) (sym c.deref.ensures.value))

pub loop-preserved : goal.loop-preserved
loop-preserved c =
    let left = map (λ r. r.items) c.loop.rows.items in
    let rest = map (λ r. r.items) c.pop.new.self.items in
    let all = map (λ r. r.items) c.args.rows.items in
    let count = c.loop.invariant.count in
    elim c.match-pop.branch [
      | in-Some+in_ok-push_row w ↦
          let minus_multiple = popped_count c.loop.rows.items c.pop.new.self.items c.pop.result w.in-Some.row c.pop.ensures.items w.in-Some.is in
          record {
            count = omega arith;
            stacking = stacked c.args.matrix c.loop.matrix c.match-pop.matrix all left rest w.deref.result.now c.loop.invariant.stacking
                (popped c.loop.rows.items c.pop.new.self.items c.pop.result w.in-Some.row c.pop.ensures.items w.in-Some.is
                ∙ ap (λ v. rest ++ v ∷ []) (sym w.deref.ensures.value))
                (w.matrix-is ∙ w.in_ok-push_row.ensures.ok);
          }
      | in_default w ↦
          let none = subst (λ o. MatchOption o ((vec_len c.loop.rows ≡ 0) × (vec_len c.pop.new.self ≡ 0)) (λ _. vec_len c.pop.new.self + 1 ≡ vec_len c.loop.rows))
          w.in_default.is c.pop.ensures.cases in
          let left : length c.loop.rows.items ≡ 0 = sym c.loop.rows.ok.0 ∙ none.0 in
          let test = c.loop-test.true in
          absurd (omega (arith, c.len-end.ensures))
    ]

pub returns : goal.returns
returns c =
    let count = c.loop.invariant.count in
    stack_done c.args.matrix c.loop.matrix (map (λ r. r.items) c.args.rows.items) (map (λ r. r.items) c.loop.rows.items) c.loop.invariant.stacking
    (none_left c.loop.rows.items (omega (arith, c.len-end.ensures)))
