use Rattle.std.proofs.Common.{◌≡◌, true, false, not, cond, [], ◌∷◌, ◌++◌, map, filter, sym, ap, ap₂, ◌∙◌, rules, append-nil, append_assoc}
use Rattle.std.specs.List.{range_with_len}
use Rattle.std.proofs.lemmas.List.{map_push}
use Rattle.mm_linear.specs.Coordinates.{unit, is_pivot}
use Rattle.mm_linear.proofs.BasisLemmas.{free_next}
use Rattle.mm_reference_meaning.specs.Rows.{rows_of}
use Rattle.mm_reference_meaning.proofs.ColumnLemmas.{cut_at_length}
use Rattle.mm_reference_meaning.proofs.tree.completed.Goals as goal
use Rattle.mm_reference_meaning.proofs.tree.completed.Goals.{then-not-branch+in_ok-unit+in_ok-push, else-not-branch}

pub loop-k-init : goal.loop-k-init
loop-k-init c = c.in_ok-basis.ensures ∙ cut_at_length c.args.f c.args.r (rows_of c.args.rows.now) c.requires ∙ sym (append-nil (rows_of c.args.rows.now))

pub loop-k-preserved : goal.loop-k-preserved
loop-k-preserved c =
    let f = c.args.f in
    let r = c.args.r in
    let k = c.loop-k.k in
    let g = rows_of c.args.rows.now in
    let us = map (unit r) (filter (λ j. not (is_pivot f g j)) (range_with_len 0 k)) in
    let next = free_next f r k g c.in_ok-is_pivot.field-0 c.in_ok-is_pivot.ensures in
    elim c.if-not-branch.branch [
      | then-not-branch+in_ok-unit+in_ok-push w ↦
          let b : c.in_ok-is_pivot.field-0 ≡ false = search rules in
          ap (λ v. rows_of v.items) w.basis-is
          ∙ ap rows_of w.in_ok-push.ensures.items
          ∙ map_push (λ v. v.items) c.loop-k.basis.items w.in_ok-unit.field-0
          ∙ ap₂ (λ x y. x ++ (y ∷ [])) c.loop-k.invariant w.in_ok-unit.ensures
          ∙ append_assoc g us (unit r k ∷ [])
          ∙ sym (ap (λ x. g ++ x) (next ∙ ap (λ b. us ++ cond (not b) (unit r k ∷ []) []) b))
      | else-not-branch w ↦
          let b : c.in_ok-is_pivot.field-0 ≡ true = search rules in
          ap (λ v. rows_of v.items) w.basis-is
          ∙ c.loop-k.invariant
          ∙ sym (ap (λ x. g ++ x) (next ∙ ap (λ b. us ++ cond (not b) (unit r k ∷ []) []) b ∙ append-nil us))
    ]
