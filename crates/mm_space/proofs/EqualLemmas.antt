-- Two values are equal exactly where the same vectors are in them.
use Rattle.std.proofs.Common.{ℕ, ◌≡◌, ◌↔◌, List, ◌++◌, map, get_or, sym, ap, ◌∙◌, subst}
use Rattle.std.proofs.lemmas.List.Elements.{All-append, All-map}
use Rattle.mm_field.specs.declared.Field.{Field}
use Rattle.mm_field.specs.Vectors.{times_matrix, IsVector, AreVectors, InSpan, SameRowSpace}
use Rattle.mm_field.proofs.CombinationLemmas.{InSpan-within, IsWithin-itself, IsVector-combination}
use Rattle.mm_linear.specs.Echelons.{IsEchelon}
use Rattle.mm_linear.specs.Sums.{InSum}
use Rattle.mm_linear.specs.ReducedEchelon.{reduced_basis}
use Rattle.mm_linear.proofs.EchelonLemmas.{echelon_unique}
use Rattle.mm_linear.proofs.ReducedEchelonLemmas.{reduced_basis-same}
use Rattle.mm_linear.proofs.SpanLemmas.{InSum-from_append, append_from_InSum, span_of_images, image_of_span}
use Rattle.mm_space.specs.SpaceValue.{SpaceValue, IsIn, IsImage, IsSpanOf}
use Rattle.mm_space.specs.SpaceValue as spaces
use Rattle.mm_space.specs.KeyValue.{KeyValue}
use Rattle.mm_space.specs.KeyValue as keys
use Rattle.mm_space.specs.KeyView.{IsReduced}

-- rows of which the same vectors are combinations have one row space
same_rows : (f : Field) (n : ℕ) (rows sows : List (List ℕ)) → AreVectors f n rows → AreVectors f n sows →
    ((v : List ℕ) → IsVector f n v → InSpan f n rows v ↔ InSpan f n sows v) → SameRowSpace f n rows sows
same_rows f n rows sows hr hs same = (
  (λ k d l. (same (get_or rows k d) (hr k d l)).0 (IsWithin-itself f n rows hr k d l)),
  (λ k d l. (same (get_or sows k d) (hs k d l)).1 (IsWithin-itself f n sows hs k d l)),
)

-- ---- spaces

abbrev space_of : Field → ℕ → List (List ℕ) → SpaceValue
space_of f r rows = record { f = f; r = r; rows = rows }

pub equal_spaces : (s u : SpaceValue) → IsEchelon s.f s.r s.rows → IsEchelon u.f u.r u.rows → u.f ≡ s.f →
    (s ≡ u) ↔ ((u.r ≡ s.r) × spaces.HaveSameVectors s u)
equal_spaces s u a b ef = (
  (λ e. (ap (λ (x : SpaceValue). x.r) (sym e), (λ v hv. subst (λ (x : SpaceValue). IsIn s v ↔ IsIn x v) e ((λ p. p), (λ p. p))))),
  (λ q.
      let er = q.0 in
      let b' = subst (λ g. IsEchelon g s.r u.rows) ef (subst (λ n. IsEchelon u.f n u.rows) er b) in
      let same = λ (v : List ℕ) (hv : IsVector s.f s.r v).
      subst (λ g. InSpan s.f s.r s.rows v ↔ InSpan g s.r u.rows v) ef
      (subst (λ n. InSpan s.f s.r s.rows v ↔ InSpan u.f n u.rows v) er (q.1 v hv)) in
      let rows_are = echelon_unique s.f s.r s.rows u.rows a b' (same_rows s.f s.r s.rows u.rows a.each b'.each same) in
      ap (space_of s.f s.r) rows_are ∙ ap (λ n. space_of s.f n u.rows) (sym er) ∙ ap (λ g. space_of g u.r u.rows) (sym ef)),
)

-- ---- keys

abbrev key_of : Field → ℕ → List (List ℕ) → KeyValue
key_of f t rows = record { f = f; t = t; rows = rows }

pub equal_keys : (k u : KeyValue) → IsReduced k → IsReduced u → u.f ≡ k.f → (k ≡ u) ↔ ((u.t ≡ k.t) × keys.HaveSameVectors k u)
equal_keys k u a b ef = (
  (λ e. (
    ap (λ (x : KeyValue). x.t) (sym e),
    (λ v hv. subst (λ (x : KeyValue). InSpan k.f k.t k.rows v ↔ InSpan x.f x.t x.rows v) e ((λ p. p), (λ p. p))),
  )),
  (λ q.
      let et = q.0 in
      let each = subst (λ g. AreVectors g k.t u.rows) ef (subst (λ n. AreVectors u.f n u.rows) et b.each) in
      let basis = subst (λ g. reduced_basis g k.t u.rows ≡ u.rows) ef (subst (λ n. reduced_basis u.f n u.rows ≡ u.rows) et b.basis) in
      let same = λ (v : List ℕ) (hv : IsVector k.f k.t v).
      subst (λ g. InSpan k.f k.t k.rows v ↔ InSpan g k.t u.rows v) ef
      (subst (λ n. InSpan k.f k.t k.rows v ↔ InSpan u.f n u.rows v) et (q.1 v hv)) in
      let rows_are =
      sym a.basis ∙ reduced_basis-same k.f k.t k.rows u.rows a.each each (same_rows k.f k.t k.rows u.rows a.each each same) ∙ basis in
      ap (key_of k.f k.t) rows_are ∙ ap (λ n. key_of k.f n u.rows) (sym et) ∙ ap (λ g. key_of g u.t u.rows) (sym ef)),
)

-- ---- sums and images, vector by vector

pub sums_of : (s : SpaceValue) (more : List (List ℕ)) (new : SpaceValue) → AreVectors s.f s.r s.rows → AreVectors s.f s.r more →
    IsSpanOf s.f s.r (s.rows ++ more) new → (z : List ℕ) → IsIn new z ↔ InSum s.f (IsIn s) (InSpan s.f s.r more) z
sums_of s more new hs hm span z =
    let here : IsIn new z ↔ InSpan s.f s.r new.rows z =
    subst (λ g. IsIn new z ↔ InSpan g s.r new.rows z) span.field
    (subst (λ n. IsIn new z ↔ InSpan new.f n new.rows z) span.length ((λ p. p), (λ p. p))) in
    let both = All-append (λ v. IsVector s.f s.r v) s.rows more hs hm in (
      (λ p. InSum-from_append s.f s.r s.rows more z hm
          (InSpan-within s.f s.r new.rows (s.rows ++ more) z both span.span.1 (here.0 p))),
      (λ p. here.1 (InSpan-within s.f s.r (s.rows ++ more) new.rows z span.each span.span.0
          (append_from_InSum s.f s.r s.rows more z hm p))),
    )

pub images_of : (f : Field) (t r : ℕ) (rows g : List (List ℕ)) (new : SpaceValue) → AreVectors f t rows → AreVectors f r g →
    IsSpanOf f r (map (times_matrix f r g) rows) new → (z : List ℕ) → IsIn new z ↔ IsImage f t r rows g z
images_of f t r rows g new hr hg span z =
    let here : IsIn new z ↔ InSpan f r new.rows z =
    subst (λ h. IsIn new z ↔ InSpan h r new.rows z) span.field
    (subst (λ n. IsIn new z ↔ InSpan new.f n new.rows z) span.length ((λ p. p), (λ p. p))) in
    let images = map (times_matrix f r g) rows in
    let hi : AreVectors f r images = All-map (λ v. IsVector f r v) (times_matrix f r g) rows (λ i d m. IsVector-combination f r (get_or rows i d) g hg) in (
      (λ p.
          let q = span_of_images f t r rows g z hr hg (InSpan-within f r new.rows images z hi span.span.1 (here.0 p)) in
          record { source = q.source; inside = q.inside; gives = q.gives }),
      (λ q. here.1 (InSpan-within f r images new.rows z span.each span.span.0
          (subst (λ v. InSpan f r images v) q.gives (image_of_span f t r rows g q.source hr hg q.inside)))),
    )
