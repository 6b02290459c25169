use Rattle.std.proofs.Common.{◌≡◌, ◌≤◌, ◌+◌, ◌++◌, [], length, take, get_or, sym, ap, ap₂, subst, ◌∙◌, arith, take_all}
use Rattle.mm_field.specs.Digits.{negative}
use Rattle.mm_field.specs.Vectors.{IsVector, multiple}
use Rattle.mm_field.proofs.PartLemmas.{IsVector-append}
use Rattle.mm_field.proofs.VectorLemmas.{IsVector-multiple}
use Rattle.mm_linear.specs.Coordinates.{unit}
use Rattle.mm_linear.proofs.BasisLemmas.{IsVector-unit}
use Rattle.mm_present.specs.Bases.{beside, negative_units}
use Rattle.mm_present.proofs.CoordinateLemmas.{augmented_next}
use Rattle.mm_present.proofs.GrowLemmas.{matrix, row_fits}
use Rattle.mm_present.proofs.coordinates.augmented.Goals as goal

pub push_row-requires : goal.push_row-requires
push_row-requires c =
    let f = c.args.f in
    let r = c.args.r in
    let t = c.rows-t.result in
    let k = c.loop-k.k in
    let g = c.args.g.now in
    let row_is : c.deref-in-loop-k.result.now ≡ get_or g k [] ++ multiple f (negative f 1) (unit t k) =
    c.deref-in-loop-k.ensures.value ∙ c.in_ok-extend_from_slice.ensures.items
    ∙ ap₂ (λ u v. u ++ v) (c.in_ok-row.ensures ∙ c.row.ensures) (c.deref.ensures.value ∙ c.in_ok-negative_unit.ensures) in
    let lt : k + 1 ≤ t = omega arith in
    row_fits f (r + t) c.loop-k.rows (beside (take k g) (negative_units f t k)) c.deref-in-loop-k.result.now c.loop-k.invariant
    (subst (λ v. IsVector f (r + t) v) (sym row_is)
    (IsVector-append f r t (get_or g k []) (multiple f (negative f 1) (unit t k)) (c.requires.rows k [] (omega arith))
    (IsVector-multiple f t (negative f 1) (unit t k) (IsVector-unit f t k (omega arith)).len)))

pub loop-k-preserved : goal.loop-k-preserved
loop-k-preserved c =
    augmented_next c.args.f c.args.r c.rows-t.result c.loop-k.k c.args.g.now c.loop-k.rows c.push_row.new.self c.deref-in-loop-k.result.now (omega arith)
    c.loop-k.invariant
    (c.deref-in-loop-k.ensures.value ∙ c.in_ok-extend_from_slice.ensures.items
    ∙ ap₂ (λ u v. u ++ v) (c.in_ok-row.ensures ∙ c.row.ensures) (c.deref.ensures.value ∙ c.in_ok-negative_unit.ensures))
    c.in_ok-push_row.ensures.ok

pub returns : goal.returns
returns c =
    let g = c.args.g.now in
    let done : c.loop-k.k ≡ length g = omega arith in
    c.loop-k.invariant
    ∙ ap₂ (λ k t. matrix c.args.f (c.args.r + t) (beside (take k g) (negative_units c.args.f t k))) done c.rows-t.ensures
    ∙ ap (λ vs. matrix c.args.f (c.args.r + length g) (beside vs (negative_units c.args.f (length g) (length g)))) (take_all (length g) g (omega arith))
