use Rattle.std.proofs.Common.{ℕ, ◌≡◌, ◌+◌, ◌++◌, [], get_or, map, length, take, subst, sym, ap, ◌∙◌, arith, length-set}
use Rattle.mm_field.specs.Vectors.{IsVector, zeros}
use Rattle.mm_linear.specs.Eliminate.{residue}
use Rattle.mm_linear.specs.Echelons.{EndsAt}
use Rattle.mm_space.specs.JoinForms.{normal, moved}
use Rattle.mm_space.proofs.FormLemmas.{IsVector-moved}
use Rattle.mm_space.proofs.JoinSteps.{stored_moved, form_step, form_end, moved_ends}
use Rattle.std.proofs.lemmas.List.{get_or-set_other, take_all, length-map}
use Rattle.mm_space.proofs.joining.normal_rows.Goals as goal

row_is : (c : goal.After-row-1) → c.moved_row-row.result ≡ moved c.args.r (get_or c.args.g.now c.loop-i.i [])
row_is c =
    let more = c.loop-i-test.true in
    let count = c.rows-i-end.ensures in
    let hv = c.requires.vectors c.loop-i.i [] (omega arith) in
    c.moved_row-row.ensures ∙ ap (λ s. zeros 6 ++ take 18 s) c.stored.ensures
    ∙ stored_moved c.args.f c.args.r (get_or c.args.g.now c.loop-i.i []) c.requires.short hv

pub reduced-requires-clause-vector : goal.reduced-requires-clause-vector
reduced-requires-clause-vector c =
    let more = c.loop-i-test.true in
    let count = c.rows-i-end.ensures in
    let hv = c.requires.vectors c.loop-i.i [] (omega arith) in
    subst (λ x. IsVector c.args.f 24 x) (sym (row_is c)) (IsVector-moved c.args.f c.args.r (get_or c.args.g.now c.loop-i.i []) c.requires.short hv)

pub reduced-requires-clause-ends : goal.reduced-requires-clause-ends
reduced-requires-clause-ends c =
    let more = c.loop-i-test.true in
    let count = c.rows-i-end.ensures in
    let hv = c.requires.vectors c.loop-i.i [] (omega arith) in
    subst (λ x. EndsAt 24 (6 + c.args.r) x) (sym (row_is c)) (moved_ends c.args.r (get_or c.args.g.now c.loop-i.i []) c.requires.short hv.len)

pub loop-i-preserved : goal.loop-i-preserved
loop-i-preserved c =
    let more = c.loop-i-test.true in
    let count = c.rows-i-end.ensures in
    let few = c.requires.few in
    let size = c.loop-i.invariant.size in
    let f = c.args.f in
    let r = c.args.r in
    let held = c.args.held.now in
    let v = get_or c.args.g.now c.loop-i.i [] in
    let hv = c.requires.vectors c.loop-i.i [] (omega arith) in
    let row = c.moved_row-row.ensures ∙ ap (λ s. zeros 6 ++ take 18 s) c.stored.ensures ∙ stored_moved f r v c.requires.short hv in
    record {
      low = omega arith;
      size = length-set c.loop-i.out c.loop-i.i c.reduced.result ∙ size;
      rest = λ k low l.
          get_or-set_other c.loop-i.out c.loop-i.i k c.reduced.result [] (λ e. absurd (omega arith)) ∙ c.loop-i.invariant.rest k (omega arith) l;
      done = form_step (normal f r held) c.args.g.now c.loop-i.out c.loop-i.i c.reduced.result (omega arith) (omega arith) c.loop-i.invariant.done
          (c.reduced.ensures.residue ∙ ap (λ x. residue f 24 x held) row);
    }

pub returns : goal.returns
returns c =
    let h = normal c.args.f c.args.r c.args.held.now in
    let g = c.args.g.now in
    let i = c.loop-i.invariant in
    let low = i.low in
    let ended = c.loop-i-test.false in
    let count = c.rows-i-end.ensures in
    let e : c.loop-i.i ≡ length g = omega (arith, low, ended, count) in
    form_end h g c.loop-i.out c.requires.few i.size
    (subst (λ (n : ℕ). take n c.loop-i.out ≡ map h g) e (i.done ∙ take_all c.loop-i.i (map h g) (omega (arith, length-map g h, e))))
    (λ k l m. i.rest k (omega (arith, l, e)) m)
