use Rattle.std.proofs.Common.{ℕ, List, ◌-◌, ◌≡◌, [], take, length, subst, sym, ◌∙◌, arith}
use Rattle.std.proofs.lemmas.List.{length-map, get_or-map}
use Rattle.mm_field.specs.Vectors.{IsVector, combination}
use Rattle.mm_field.proofs.CombinationLemmas.{IsVector-combination}
use Rattle.mm_linear.specs.Echelons.{EndsAt}
use Rattle.mm_space.specs.JoinForms.{form_images}
use Rattle.mm_space.proofs.JoinSteps.{combination_ends, form_images_are, images_independent, apart_start, apart_step, apart_fails}
use Rattle.mm_space.proofs.joining.insert_apart.Goals as goal

pub loop-i-init : goal.loop-i-init
loop-i-init c =
    let key = c.args.key.now in
    apart_start c.args.f 24 c.args.width c.args.rows.now (form_images c.args.f key.t c.args.form.now key.rows) c.rank-i.result
    (c.rank-i.ensures.count ∙ sym (length-map key.rows (λ b. combination c.args.f 24 b (take key.t c.args.form.now))))
    c.requires.held

pub insert-requires-clause-vector : goal.insert-requires-clause-vector
insert-requires-clause-vector c =
    subst (λ v. IsVector c.args.f 24 v) (sym c.times_rows.ensures) (IsVector-combination c.args.f 24 _ _ c.requires.vectors)

pub insert-requires-clause-ends : goal.insert-requires-clause-ends
insert-requires-clause-ends c =
    subst (λ v. EndsAt 24 c.args.width v) (sym c.times_rows.ensures)
    (combination_ends c.args.f c.args.width _ _ c.requires.vectors c.requires.ends)

pub returns-then-not-insert-clause-meet : goal.returns-then-not-insert-clause-meet
returns-then-not-insert-clause-meet c = λ no.
    let f = c.args.f in
    let key = c.args.key.now in
    let form = c.args.form.now in
    let R = form_images f key.t form key.rows in
    let times = λ (b : List ℕ). combination f 24 b (take key.t form) in
    let red = c.rank-i.ensures.reduced in
    let few = red.narrow in
    let told : length form ≡ 6 = c.told-form in
    let low = c.loop-i.invariant.low in
    apart_fails f 24 c.args.width c.args.rows.now R c.loop-i.i c.times_rows.result c.loop-i.rows c.requires.held.echelon.each
    (form_images_are f key.t form key.rows c.requires.vectors)
    (images_independent f form key red c.requires.field (omega arith) c.requires.vectors c.requires.independent)
    (omega arith) c.loop-i.invariant
    (c.times_rows.ensures ∙ sym (get_or-map times key.rows (c.loop-i.i - 1) [] [] (omega (arith, length-map key.rows times))))
    (c.insert.ensures.inside c.if-not-insert.true)

pub loop-i-preserved : goal.loop-i-preserved
loop-i-preserved c =
    let f = c.args.f in
    let key = c.args.key.now in
    let form = c.args.form.now in
    let R = form_images f key.t form key.rows in
    let times = λ (b : List ℕ). combination f 24 b (take key.t form) in
    let low = c.loop-i.invariant.low in
    apart_step f 24 c.args.width c.args.rows.now R c.loop-i.i c.times_rows.result c.loop-i.rows c.insert.new.self c.requires.held.echelon.each
    (form_images_are f key.t form key.rows c.requires.vectors) (omega arith) c.loop-i.invariant
    (c.times_rows.ensures ∙ sym (get_or-map times key.rows (c.loop-i.i - 1) [] [] (omega (arith, length-map key.rows times))))
    c.insert.ensures.inserted (c.insert.ensures.outside c.if-not-insert.false)
