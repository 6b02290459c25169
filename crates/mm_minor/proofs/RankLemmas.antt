-- Rows are independent exactly where they have as many reduced echelon rows, and so it is told of chosen columns.
use Rattle.std.proofs.Common.{ℕ, zero, suc, ◌+◌, ◌≤◌, ◌≡◌, ◌⊎◌, inl, inr, cond, ◌==◌, eqb, Bool, true, false, List, [], ◌∷◌, length, map, reverse, get_or, refl, sym, ap, ap₂, ◌∙◌, subst, arith, All, ◌<◌}
use Rattle.std.specs.Prelude.{Option, Some, None, is_some}
use Rattle.std.proofs.lemmas.Bool.{and_from, eqb-true, eq-eqb, false_from_ne_true, cases_Bool}
use Rattle.std.specs.List.{range_with_len, items_where_true}
use Rattle.std.proofs.lemmas.List.{length-map, get_or-replicate}
use Rattle.std.proofs.lemmas.List.FromFn.{length-range_with_len, get_or-range_with_len}
use Rattle.mm_field.specs.declared.Field.{Field}
use Rattle.mm_field.specs.Vectors.{zeros, IsVector, AreVectors, AreIndependent}
use Rattle.mm_field.proofs.CombinationLemmas.{first_row, other_rows}
use Rattle.mm_linear.specs.Echelons.{entry, IsEchelon}
use Rattle.mm_linear.specs.Decide.{row_for, put_at, new_place, echelon_of, is_independent}
use Rattle.mm_linear.specs.ReducedEchelon.{reversed_rows, reduced_basis}
use Rattle.mm_linear.proofs.InsertLemmas.{new_row}
use Rattle.mm_linear.proofs.RankLemmas.{rank_to, rank_inserted}
use Rattle.mm_linear.proofs.DecideLemmas.{IsRowsOf, echelon_of_is, new_place-some, is_independent_decides, no_rows_independent}
use Rattle.mm_linear.proofs.BasisLemmas.{rank_of_independent}
use Rattle.mm_linear.proofs.ReducedEchelonLemmas.{combination-reversed, AreVectors-reversed, reverse-zeros}
use Rattle.mm_logic.proofs.ChosenLemmas.{chosen-map}
use Rattle.mm_matrix.specs.MatrixValue.{MatrixValue, IsMatrix, reduced}
use Rattle.mm_matrix.specs.Columns.{column}
use Rattle.mm_matrix.proofs.DimensionLemmas.{dimension}
use Rattle.mm_minor.specs.MinorFormula.{subset, has_independent}
use Rattle.mm_minor.proofs.SubsetLemmas.{All-chosen}

-- rows have at most their number as rank, and this rank only where they are independent
record IsRanked (f : Field) (n : ℕ) (vs : List (List ℕ)) : Type 0 where
  most : rank_to n (echelon_of f n vs) ≤ length vs
  full : rank_to n (echelon_of f n vs) ≡ length vs → is_independent f n vs ≡ true

ranked : (f : Field) (n : ℕ) (vs : List (List ℕ)) → AreVectors f n vs → IsRanked f n vs
unfolding echelon_of is_independent
ranked f n [] h =
    let r : rank_to n (echelon_of f n []) ≡ 0 = rank_of_independent f n [] h (no_rows_independent f n) in
    record { most = omega (arith, r); full = λ e. no_rows_independent f n }
ranked f n (v ∷ vs) h =
    let hs = other_rows f n v vs h in
    go (first_row f n v vs h) (echelon_of_is f n vs hs) (ranked f n vs hs) (new_place f n v (echelon_of f n vs)) refl
  where
    go : IsVector f n v → IsRowsOf f n vs (echelon_of f n vs) → IsRanked f n vs → (o : Option ℕ) → new_place f n v (echelon_of f n vs) ≡ o
        → IsRanked f n (v ∷ vs)
    go hv r ih None e =
        let m = ih.most in
        let same : rank_to n (echelon_of f n (v ∷ vs)) ≡ rank_to n (echelon_of f n vs) = ap (λ o. rank_to n (put_at f n v (echelon_of f n vs) o)) e in
        record { most = omega (arith, m, same); full = λ q. absurd (omega (arith, m, same, q)) }
    go hv r ih (Some p) e =
        let m = ih.most in
        let last = new_place-some f n v (echelon_of f n vs) p e in
        let new = new_row f n p v (echelon_of f n vs) r.echelon hv last.place last.nonzero last.late in
        let more : rank_to n (echelon_of f n (v ∷ vs)) ≡ suc (rank_to n (echelon_of f n vs)) =
        ap (λ o. rank_to n (put_at f n v (echelon_of f n vs) o)) e
        ∙ rank_inserted f n p (row_for f n p v (echelon_of f n vs)) (echelon_of f n vs) r.echelon new in
        record {
          most = omega (arith, m, more);
          full = λ q.
              and_from (is_independent f n vs) (is_some (new_place f n v (echelon_of f n vs)))
              (ih.full (omega (arith, more, q))) (ap is_some e);
        }

count_at : (d m : ℕ) (rows : List (List ℕ)) (r : List ℕ) → (d ≡ 0) ⊎ (d ≡ 1) → length rows ≡ m →
    length (cond (d == 0) rows (r ∷ rows)) ≡ d + m
count_at d m rows r (inl e) h =
    subst (λ (x : ℕ). length (cond (x == 0) rows (r ∷ rows)) ≡ x + m) (sym e) (h ∙ omega arith)
count_at d m rows r (inr e) h =
    subst (λ (x : ℕ). length (cond (x == 0) rows (r ∷ rows)) ≡ x + m) (sym e) (ap suc h ∙ omega arith)

reversed_count : (f : Field) (n k : ℕ) (E : List (List ℕ)) → IsEchelon f n E → k ≤ n → length (reversed_rows E k) ≡ rank_to k E
reversed_count f n zero E h l = refl
reversed_count f n (suc k) E h l =
    count_at (entry E k k) (rank_to k E) (reversed_rows E k) (reverse (get_or E k [])) (digit (h.pivot k (omega arith)))
    (reversed_count f n k E h (omega arith))
  where
    digit : (get_or E k [] ≡ zeros n) ⊎ (entry E k k ≡ 1) → (entry E k k ≡ 0) ⊎ (entry E k k ≡ 1)
    digit (inl z) = inl (ap (λ (v : List ℕ). get_or v k 0) z ∙ get_or-replicate n k 0 0 (omega arith))
    digit (inr e) = inr e

-- rows that are independent when they are turned round are independent
independent_turned : (f : Field) (n : ℕ) (rows : List (List ℕ)) → AreVectors f n rows → AreIndependent f n (map reverse rows) → AreIndependent f n rows
independent_turned f n rows h ind cs each e =
    let l = length-map rows reverse in
    ind cs (record { len = each.len ∙ sym l; digits = each.digits })
    (combination-reversed f n cs rows h ∙ ap reverse e ∙ reverse-zeros n)
    ∙ ap zeros l

independent_from_rank : (f : Field) (n : ℕ) (rows : List (List ℕ)) → AreVectors f n rows → length (reduced_basis f n rows) ≡ length rows
    → AreIndependent f n rows
unfolding reduced_basis
independent_from_rank f n rows h e =
    let ht = AreVectors-reversed f n rows h in
    let r = echelon_of_is f n (map reverse rows) ht in
    let same : rank_to n (echelon_of f n (map reverse rows)) ≡ length (map reverse rows) =
    sym (reversed_count f n n (echelon_of f n (map reverse rows)) r.echelon (omega arith)) ∙ e ∙ sym (length-map rows reverse) in
    independent_turned f n rows h
    ((is_independent_decides f n (map reverse rows) ht).0 ((ranked f n (map reverse rows) ht).full same))

pub rank_tells : (f : Field) (n : ℕ) (rows : List (List ℕ)) → AreVectors f n rows
    → eqb (length (reduced_basis f n rows)) (length rows) ≡ is_independent f n rows
rank_tells f n rows h = elim (cases_Bool (is_independent f n rows)) [
  | inl t ↦ eq-eqb (length (reduced_basis f n rows)) (length rows) (dimension f n rows h ((is_independent_decides f n rows h).0 t)) ∙ sym t
  | inr q ↦
      false_from_ne_true (eqb (length (reduced_basis f n rows)) (length rows))
      (λ t. no (is_independent f n rows) q
      ((is_independent_decides f n rows h).1 (independent_from_rank f n rows h (eqb-true (length (reduced_basis f n rows)) (length rows) t))))
      ∙ sym q
]
  where
    no : (b : Bool) → b ≡ false → b ≡ true → ⊥
    no true q t = let e : true ≡ false = q in cc
    no false q t = let e : false ≡ true = t in cc

-- ---- chosen columns

pub places_within : (k s : ℕ) → All (λ j. j < k) (items_where_true (subset k s) (range_with_len 0 k))
places_within k s =
    All-chosen (λ j. j < k) (subset k s) (range_with_len 0 k)
    (λ i d l. let li : i < k = omega (arith, l, length-range_with_len 0 k) in omega (arith, li, get_or-range_with_len 0 k i d li))

pub independence_is_told : (n columns space : MatrixValue) (s rank count : ℕ) (places : List ℕ)
    → places ≡ items_where_true (subset n.cols s) (range_with_len 0 n.cols)
    → columns ≡ record { f = n.f; cols = length n.rows; rows = map (column n.rows) places }
    → IsMatrix columns → space ≡ reduced columns → rank ≡ length space.rows → count ≡ length places
    → eqb rank count ≡ has_independent n s
independence_is_told n columns space s rank count places p c m e r q =
    let full : rank ≡ length (reduced_basis columns.f columns.cols columns.rows) = r ∙ ap (λ (x : MatrixValue). length x.rows) e in
    let all : count ≡ length columns.rows =
    q ∙ sym (length-map places (column n.rows)) ∙ ap (λ (x : MatrixValue). length x.rows) (sym c) in
    ap₂ (λ (x y : ℕ). eqb x y) full all
    ∙ rank_tells columns.f columns.cols columns.rows m
    ∙ ap (λ (x : MatrixValue). is_independent x.f x.cols x.rows) c
    ∙ ap (λ (vs : List (List ℕ)). is_independent n.f (length n.rows) vs)
    (ap (map (column n.rows)) p ∙ sym (chosen-map (column n.rows) (subset n.cols s) (range_with_len 0 n.cols)))
