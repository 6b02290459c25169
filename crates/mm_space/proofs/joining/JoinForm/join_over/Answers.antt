use Rattle.std.proofs.Common.{ℕ, length, map, reverse, subst, sym, ap, ◌∙◌}
use Rattle.std.specs.Prelude.{Some, None}
use Rattle.mm_space.specs.JoinForms.{FormValue, Joins, third_rows}
use Rattle.mm_space.specs.KeyValue.{IsKeyOf}
use Rattle.mm_space.specs.SpaceValue.{corner}
use Rattle.mm_space.proofs.JoinSteps.{beside_of, form_over, held_of_form, form_rows_are, second_independent, meet_of_images, key_of_join, value_over}
use Rattle.mm_space.proofs.joining.JoinForm.join_over.Goals as goal

pub insert_images-requires-clause-vectors : goal.insert_images-requires-clause-vectors
insert_images-requires-clause-vectors c =
    let f = c.args.f in
    let s = c.self.inside in
    let form = form_over f s c.args.self.now c.self.invariant c.self.view_is c.requires.field in
    let left_length = c.requires.left_length ∙ ap (λ (v : FormValue). length v.g1) (sym c.self.view_is) in
    (form_rows_are f s.r c.args.left.now.t s.g3 s.g1 (third_rows f s.g3) s.first (beside_of f s.r s.g1 s.g2 s.g3 s.first s.second form)
    (held_of_form f s.r s.g1 s.g2 s.g3 s.first s.second form) form.each1 left_length form.first_is).vectors

pub insert_images-requires-clause-ends : goal.insert_images-requires-clause-ends
insert_images-requires-clause-ends c =
    let f = c.args.f in
    let s = c.self.inside in
    let form = form_over f s c.args.self.now c.self.invariant c.self.view_is c.requires.field in
    let left_length = c.requires.left_length ∙ ap (λ (v : FormValue). length v.g1) (sym c.self.view_is) in
    (form_rows_are f s.r c.args.left.now.t s.g3 s.g1 (third_rows f s.g3) s.first (beside_of f s.r s.g1 s.g2 s.g3 s.first s.second form)
    (held_of_form f s.r s.g1 s.g2 s.g3 s.first s.second form) form.each1 left_length form.first_is).ends

pub insert_apart-requires-clause-vectors : goal.insert_apart-requires-clause-vectors
insert_apart-requires-clause-vectors c =
    let f = c.args.f in
    let s = c.self.inside in
    let form = form_over f s c.args.self.now c.self.invariant c.self.view_is c.requires.field in
    let right_length = c.requires.right_length ∙ ap (λ (v : FormValue). length v.g2) (sym c.self.view_is) in
    (form_rows_are f s.r c.args.right.now.t s.g3 s.g2 (third_rows f s.g3) s.second (beside_of f s.r s.g1 s.g2 s.g3 s.first s.second form)
    (held_of_form f s.r s.g1 s.g2 s.g3 s.first s.second form) form.each2 right_length form.second_is).vectors

pub insert_apart-requires-clause-ends : goal.insert_apart-requires-clause-ends
insert_apart-requires-clause-ends c =
    let f = c.args.f in
    let s = c.self.inside in
    let form = form_over f s c.args.self.now c.self.invariant c.self.view_is c.requires.field in
    let right_length = c.requires.right_length ∙ ap (λ (v : FormValue). length v.g2) (sym c.self.view_is) in
    (form_rows_are f s.r c.args.right.now.t s.g3 s.g2 (third_rows f s.g3) s.second (beside_of f s.r s.g1 s.g2 s.g3 s.first s.second form)
    (held_of_form f s.r s.g1 s.g2 s.g3 s.first s.second form) form.each2 right_length form.second_is).ends

pub insert_apart-requires-clause-independent : goal.insert_apart-requires-clause-independent
insert_apart-requires-clause-independent c =
    let f = c.args.f in
    let s = c.self.inside in
    let form = form_over f s c.args.self.now c.self.invariant c.self.view_is c.requires.field in
    let right_length = c.requires.right_length ∙ ap (λ (v : FormValue). length v.g2) (sym c.self.view_is) in
    second_independent f s.r c.args.right.now.t s.g1 s.g2 s.g3 s.first s.second form right_length

pub returns-then-insert_apart : goal.returns-then-insert_apart
returns-then-insert_apart c =
    let f = c.args.f in
    let s = c.self.inside in
    let left = c.args.left.now in
    let right = c.args.right.now in
    let all = c.insert_apart.new.rows in
    let L = c.insert_images.new.rows in
    let form = form_over f s c.args.self.now c.self.invariant c.self.view_is c.requires.field in
    let left_length = c.requires.left_length ∙ ap (λ (v : FormValue). length v.g1) (sym c.self.view_is) in
    let right_length = c.requires.right_length ∙ ap (λ (v : FormValue). length v.g2) (sym c.self.view_is) in
    let apart = c.insert_apart.ensures.apart c.if-insert_apart.true in
    subst (λ (v : FormValue). Joins v left right (Some c.key.result)) (value_over f s c.args.self.now c.self.view_is c.requires.field) (
      (meet_of_images f s.r left.t right.t s.g1 s.g2 s.g3 s.first s.second left.rows right.rows L form left_length right_length
          (record { left = c.insert_images.ensures.span; each = c.insert_images.ensures.held.echelon.each })).0 apart.meet,
      key_of_join f s.r left.t right.t s.g1 s.g2 s.g3 s.first s.second left.rows right.rows L all c.key.result form left_length right_length
          (record { left = c.insert_images.ensures.span; each = c.insert_images.ensures.held.echelon.each }) apart
          (subst (λ (n : ℕ). IsKeyOf f n (map reverse (corner n all)) c.key.result) c.rows.ensures c.key.ensures),
    )

pub returns-else-insert_apart : goal.returns-else-insert_apart
returns-else-insert_apart c =
    let f = c.args.f in
    let s = c.self.inside in
    let left = c.args.left.now in
    let right = c.args.right.now in
    let form = form_over f s c.args.self.now c.self.invariant c.self.view_is c.requires.field in
    let left_length = c.requires.left_length ∙ ap (λ (v : FormValue). length v.g1) (sym c.self.view_is) in
    let right_length = c.requires.right_length ∙ ap (λ (v : FormValue). length v.g2) (sym c.self.view_is) in
    subst (λ (v : FormValue). Joins v left right None) (value_over f s c.args.self.now c.self.view_is c.requires.field)
    (λ m.
    c.insert_apart.ensures.meet c.if-insert_apart.false
    ((meet_of_images f s.r left.t right.t s.g1 s.g2 s.g3 s.first s.second left.rows right.rows c.insert_images.new.rows form left_length right_length
    (record { left = c.insert_images.ensures.span; each = c.insert_images.ensures.held.echelon.each })).1 m))
