-- Spanning rows of a list, put in one by one from the last to the first.
use Rattle.std.proofs.Common.{ℕ, ◌+◌, ◌-◌, ◌<◌, ◌≤◌, ◌≡◌, List, [], ◌∷◌, length, map, get_or, drop, replicate, refl, sym, ap, ap₂, ◌∙◌, subst, arith}
use Rattle.std.proofs.lemmas.List.{drop_more, drop_all, get_or-map, length-map, ext_get_or}
use Rattle.std.proofs.lemmas.List.Elements.{All-nil, All-drop, All-replicate, All-map}
use Rattle.mm_field.specs.declared.Field.{Field}
use Rattle.mm_field.specs.Digits.{times}
use Rattle.mm_field.specs.Vectors.{zeros, vector_sum, multiple, combination, times_matrix, IsVector, AreVectors, InSpan, SameRowSpace}
use Rattle.mm_field.proofs.Tables.{times-zero}
use Rattle.mm_field.proofs.VectorLemmas.{vector_sum_comm}
use Rattle.mm_field.proofs.CombinationLemmas.{IsVector-combination}
use Rattle.mm_field.proofs.PartLemmas.{AreVectors-map}
use Rattle.mm_linear.specs.Echelons.{EndsAt}
use Rattle.mm_linear.specs.Padded.{padded}
use Rattle.mm_linear.proofs.EchelonLemmas.{combination_entry_zero}
use Rattle.mm_linear.proofs.SpaceLemmas.{IsVector-padded, padded_past}
use Rattle.mm_linear.proofs.SubspaceLemmas.{pad, combination-pad}
use Rattle.mm_linear.proofs.SumLemmas.{next_rows, same_more}
use Rattle.mm_space.specs.Images.{wide_images}
use Rattle.mm_space.specs.Insertion.{IsHeld, IsInserted}
use Rattle.mm_space.specs.SpaceValue.{IsSpanOf, corner}
use Rattle.mm_space.proofs.KeptLemmas.{zero_in_none, zero_held, padded_is, corner_each, held_spans}

-- all has the span of the list from row i on
pub record IsGathering (f : Field) (n r : ℕ) (rows : List (List ℕ)) (i : ℕ) (all : List (List ℕ)) : Type 0 where
  pub low : i ≤ length rows
  pub held : IsHeld f n r all
  pub span : SameRowSpace f n (drop i rows) all

pub gathering_start : (f : Field) (n r : ℕ) (rows : List (List ℕ)) (i : ℕ) (all : List (List ℕ)) → r ≤ n → i ≡ length rows →
    all ≡ replicate n (zeros n) → IsGathering f n r rows i all
gathering_start f n r rows i all l e none = subst (λ m. IsGathering f n r rows i m) (sym none) (record {
  low = omega arith;
  held = zero_held f n r l;
  span = subst (λ X. SameRowSpace f n X (replicate n (zeros n))) (sym (drop_all i rows (omega arith))) (
    All-nil (λ v. InSpan f n (replicate n (zeros n)) v),
    All-replicate (λ v. InSpan f n [] v) n (zeros n) (zero_in_none f n),
  );
})

pub gathering_step : (f : Field) (n r : ℕ) (rows : List (List ℕ)) (i : ℕ) (v : List ℕ) (all new : List (List ℕ)) → AreVectors f n rows → 0 < i →
    IsGathering f n r rows i all → v ≡ get_or rows (i - 1) [] → IsInserted f n r v all new → IsGathering f n r rows (i - 1) new
gathering_step f n r rows i v all new h p g e ins =
    let low = g.low in
    let narrow = g.held.narrow in
    let hv : IsVector f n v = subst (λ u. IsVector f n u) (sym e) (h (i - 1) [] (omega arith)) in
    record {
      low = omega arith;
      held = record { narrow = narrow; echelon = ins.echelon; within = ins.within };
      span =
          subst (λ X. SameRowSpace f n X new) (ap (λ u. u ∷ drop i rows) e ∙ sym (next_rows rows i p low))
          (same_more f n v (drop i rows) all new hv (All-drop (λ u. IsVector f n u) i rows h) g.held.echelon.each ins.echelon.each g.span ins.span);
    }

pub gathering_end : (f : Field) (n r : ℕ) (rows : List (List ℕ)) (i : ℕ) (all : List (List ℕ)) → i ≡ 0 → IsGathering f n r rows i all →
    SameRowSpace f n rows all
gathering_end f n r rows i all e g = subst (λ k. SameRowSpace f n (drop k rows) all) e g.span

-- ---- a row times a matrix, from its last digit to its first

pub times_start : (f : Field) (n t : ℕ) (b : List ℕ) (rows : List (List ℕ)) → length b ≡ t → zeros n ≡ combination f n (drop t b) (drop t rows)
times_start f n t b rows e = sym (ap (λ x. combination f n x (drop t rows)) (drop_all t b (omega arith)))

pub times_step : (f : Field) (n : ℕ) (b : List ℕ) (rows : List (List ℕ)) (j : ℕ) (out : List ℕ) (a : ℕ) (x new : List ℕ) → 0 < j → j ≤ length b →
    j ≤ length rows → out ≡ combination f n (drop j b) (drop j rows) → a ≡ get_or b (j - 1) 0 → x ≡ get_or rows (j - 1) [] →
    new ≡ vector_sum f out (multiple f a x) → new ≡ combination f n (drop (j - 1) b) (drop (j - 1) rows)
times_step f n b rows j out a x new p lb lr out_is a_is x_is new_is =
    let e : j - 1 + 1 ≡ j = omega arith in
    let next : drop (j - 1) b ≡ get_or b (j - 1) 0 ∷ drop j b = drop_more b (j - 1) 0 (omega arith) ∙ ap (λ k. get_or b (j - 1) 0 ∷ drop k b) e in
    new_is
    ∙ vector_sum_comm f out (multiple f a x)
    ∙ ap₂ (λ u w. vector_sum f u w) (ap₂ (λ c v. multiple f c v) a_is x_is) out_is
    ∙ sym (ap₂ (λ cs vs. combination f n cs vs) next (next_rows rows j p lr))

-- ---- the image

pub map_same : (h k : List ℕ → List ℕ) (rows : List (List ℕ)) → ((i : ℕ) → i < length rows → h (get_or rows i []) ≡ k (get_or rows i [])) →
    map h rows ≡ map k rows
map_same h k rows e =
    let lh = length-map rows h in
    let lk = length-map rows k in
    ext_get_or [] (map h rows) (map k rows) (lh ∙ sym lk)
    (λ i l.
    let li : i < length rows = omega arith in
    get_or-map h rows i [] [] li ∙ e i li ∙ sym (get_or-map k rows i [] [] li))

pub wide_rows : (f : Field) (r : ℕ) (g : List (List ℕ)) → r ≤ 24 → AreVectors f r g → AreVectors f 24 (map (padded 24) g)
wide_rows f r g l h = AreVectors-map f r 24 (padded 24) (λ u hu. IsVector-padded f 24 u (let e : length u ≡ r = hu.len in omega arith) hu.digits) g h

pub wide_images_are : (f : Field) (r : ℕ) (g rows : List (List ℕ)) → r ≤ 24 → AreVectors f r g → AreVectors f 24 (wide_images f g rows)
wide_images_are f r g rows l h =
    All-map (λ v. IsVector f 24 v) (λ b. combination f 24 b (map (padded 24) g)) rows
    (λ k d m. IsVector-combination f 24 (get_or rows k d) (map (padded 24) g) (wide_rows f r g l h))

pub wide_image_ends : (f : Field) (r : ℕ) (g : List (List ℕ)) (b : List ℕ) → r ≤ 24 → AreVectors f r g →
    EndsAt 24 r (combination f 24 b (map (padded 24) g))
wide_image_ends f r g b l h j low m =
    combination_entry_zero f 24 b (map (padded 24) g) j (wide_rows f r g l h) m
    (λ i li.
    let lg : i < length g = omega (arith, length-map g (padded 24)) in
    let v = get_or g i [] in
    let hv : length v ≡ r = (h i [] lg).len in
    ap (times f (get_or b i 0)) (ap (λ x. get_or x j 0) (get_or-map (padded 24) g i [] [] lg) ∙ padded_past 24 v j (omega arith) m)
    ∙ times-zero f (get_or b i 0))

pub wide_image_is : (f : Field) (r : ℕ) (g : List (List ℕ)) (b : List ℕ) → r ≤ 24 → AreVectors f r g →
    combination f 24 b (map (padded 24) g) ≡ pad (24 - r) (times_matrix f r g b)
wide_image_is f r g b l h =
    let w : r + (24 - r) ≡ 24 = omega arith in
    ap (combination f 24 b) (map_same (padded 24) (pad (24 - r)) g (λ i li. padded_is 24 r (get_or g i []) (h i [] li).len))
    ∙ subst (λ m. combination f m b (map (pad (24 - r)) g) ≡ pad (24 - r) (combination f r b g)) w (combination-pad f r (24 - r) b g h)

pub image_is : (f : Field) (r : ℕ) (g rows all : List (List ℕ)) → r ≤ 24 → AreVectors f r g → IsHeld f 24 r all →
    SameRowSpace f 24 (wide_images f g rows) all → IsSpanOf f r (map (times_matrix f r g) rows) (record { f = f; r = r; rows = corner r all })
image_is f r g rows all l h k same =
    let hv : AreVectors f r (map (times_matrix f r g) rows) =
    All-map (λ v. IsVector f r v) (times_matrix f r g) rows (λ i d m. IsVector-combination f r (get_or rows i d) g h) in
    let wide : wide_images f g rows ≡ map (pad (24 - r)) (map (times_matrix f r g) rows) =
    map_same (λ b. combination f 24 b (map (padded 24) g)) (λ b. pad (24 - r) (times_matrix f r g b)) rows
    (λ i li. wide_image_is f r g (get_or rows i []) l h)
    ∙ map_twice rows in
    record {
      field = refl;
      length = refl;
      each = corner_each f 24 r all k;
      span = held_spans f 24 r (map (times_matrix f r g) rows) all k hv (subst (λ X. SameRowSpace f 24 X all) wide same);
    }
  where
    map_twice : (rows : List (List ℕ)) → map (λ b. pad (24 - r) (times_matrix f r g b)) rows ≡ map (pad (24 - r)) (map (times_matrix f r g) rows)
    map_twice [] = refl
    map_twice (b ∷ bs) = ap (λ x. pad (24 - r) (times_matrix f r g b) ∷ x) (map_twice bs)
