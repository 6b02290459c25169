-- The matrix of a join by rows, and the words of its third boundary.
use Rattle.std.proofs.Common.{◌≡◌, ◌<◌, ℕ, suc, ◌+◌, ◌-◌, List, [], ◌∷◌, ◌++◌, length, map, get_or, take, drop, refl, sym, ap, ap₂, subst, ◌∙◌, arith, length-drop, take-append-drop}
use Rattle.std.proofs.lemmas.List.{length-replicate, map-append, get_or-append-add, get_or_append_left, get_or-drop, get_or-replicate}
use Rattle.mm_field.specs.declared.Field.{Field}
use Rattle.mm_field.specs.Vectors.{zeros, combination, AreVectors, times_matrix}
use Rattle.mm_field.proofs.CombinationLemmas.{IsVector-combination, combination-append}
use Rattle.mm_field.proofs.PartLemmas.{IsVector-take, IsVector-drop}
use Rattle.mm_linear.specs.Coordinates.{unit, free_columns, completed, coordinates, in_coordinates}
use Rattle.mm_linear.specs.ReducedEchelon.{reduced_basis}
use Rattle.mm_linear.proofs.BasisLemmas.{completed_is_basis, AreVectors-free, pivot_from_span}
use Rattle.mm_linear.proofs.CoordinateLemmas.{IsVector-coordinates}
use Rattle.mm_linear.proofs.ReducedEchelonLemmas.{reduced_basis_is, pivots_of_basis}
use Rattle.mm_linear.proofs.PivotLemmas.{row_at_lead}
use Rattle.mm_linear.proofs.FirstUnits.{combination-first_units, first_units_independent, first_units_are, first_units_count}
use Rattle.mm_logic_laws.specs.MatrixLaws.{InternalRowsArePadded, FormatOneSplitsDigits, FormatOneIsValid, PivotsAreMeant}
use Rattle.mm_logic_laws.proofs.MatrixLemmas.{length-columns, columns_are}
use Rattle.mm_logic.specs.Operator.{IsBoundary, row_length}
use Rattle.mm_logic.specs.PresentMatrix.{internal, left_column, right_column, columns}
use Rattle.mm_logic.specs.Tree.{boundary}

-- ---- by rows

map-map-same : (g k : List ℕ → ℕ) (h : List ℕ → List ℕ) (xs : List (List ℕ)) →
    ((i : ℕ) (d : List ℕ) → i < length xs → g (h (get_or xs i d)) ≡ k (get_or xs i d)) → map g (map h xs) ≡ map k xs
map-map-same g k h [] e = refl
map-map-same g k h (x ∷ xs) e = ap₂ (λ a b. a ∷ b) (e 0 x (omega arith)) (map-map-same g k h xs (λ i d l. e (suc i) d (omega arith)))

pub map-zero : (xs : List (List ℕ)) → map (λ u. 0) xs ≡ zeros (length xs)
map-zero [] = refl
map-zero (x ∷ xs) = ap (λ a. 0 ∷ a) (map-zero xs)

after_coordinates : (f : Field) (r i : ℕ) (rows : List (List ℕ)) (u : List ℕ) → length rows ≡ r →
    get_or (in_coordinates f r rows u) (r + i) 0 ≡ get_or u (r + i) 0
after_coordinates f r i rows u e =
    let cs = coordinates f r rows (take r u) in
    let lc : length cs ≡ r = (IsVector-coordinates f r rows (take r u)).len ∙ e in
    ap (λ n. get_or (cs ++ drop r u) (n + i) 0) (sym lc)
    ∙ get_or-append-add cs (drop r u) i 0
    ∙ get_or-drop r u i 0

after_front : (x y : List ℕ) (r i : ℕ) → length x ≡ r → get_or (x ++ y) (r + i) 0 ≡ get_or y i 0
after_front x y r i e = ap (λ n. get_or (x ++ y) (n + i) 0) (sym e) ∙ get_or-append-add x y i 0

low_part : (t m i : ℕ) (v y : List ℕ) → length v ≡ t + m → i < m → get_or (drop t v ++ y) i 0 ≡ get_or v (t + i) 0
low_part t m i v y e l =
    get_or_append_left (drop t v) y 0 i (let d : length (drop t v) ≡ length v - t = length-drop t v in omega arith) ∙ get_or-drop t v i 0

low_end : (t m i : ℕ) (v y : List ℕ) → length v ≡ t + m → get_or (drop t v ++ y) (m + i) 0 ≡ get_or y i 0
low_end t m i v y e = after_front (drop t v) y m i (length-drop t v ∙ omega arith)

zeros_at : (m i : ℕ) (y : List ℕ) → i < m → get_or (zeros m ++ y) i 0 ≡ 0
zeros_at m i y l =
    get_or_append_left (zeros m) y 0 i (let d : length (zeros m) ≡ m = length-replicate m 0 in omega arith) ∙ get_or-replicate m i 0 0 l

pub internal-rows : InternalRowsArePadded
internal-rows f op l r ok i =
    let rr = row_length op in
    let m1 = internal l in
    let m2 = internal r in
    let basis = completed_is_basis f rr op.g3 ok.0.third.rows ok.0.third.independent in
    let rows = completed f rr op.g3 in
    let ic = in_coordinates f rr rows in
    let lc = left_column f op.t1 rr op.g1 m2 in
    let rc = right_column f op.t2 rr op.g2 m1 in
    let ls = columns f l in
    let rs = columns f r in
    let left_length = λ (k : ℕ) (d : List ℕ) (m : k < length ls). (columns_are f l ok.3 k d m).len ∙ ap (λ t. t + m1) ok.1 in
    let right_length = λ (k : ℕ) (d : List ℕ) (m : k < length rs). (columns_are f r ok.4 k d m).len ∙ ap (λ t. t + m2) ok.2 in
    let top = λ (g : List (List ℕ)) (b : List ℕ) (h : AreVectors f rr g). (IsVector-combination f rr b g h).len in
    let split = λ (n : ℕ). ap (λ cs. map (λ u. get_or u n 0) cs) (map-append ic (map lc ls) (map rc rs))
    ∙ map-append (λ u. get_or u n 0) (map ic (map lc ls)) (map ic (map rc rs)) in
    let in_both = λ (n j : ℕ) (e : n ≡ rr + j).
    ap₂ (λ a b. a ++ b)
    (map-map-same (λ u. get_or u n 0) (λ u. get_or u (rr + j) 0) ic (map lc ls)
    (λ k d m. ap (λ x. get_or (ic (get_or (map lc ls) k d)) x 0) e ∙ after_coordinates f rr j rows (get_or (map lc ls) k d) basis.count))
    (map-map-same (λ u. get_or u n 0) (λ u. get_or u (rr + j) 0) ic (map rc rs)
    (λ k d m. ap (λ x. get_or (ic (get_or (map rc rs) k d)) x 0) e ∙ after_coordinates f rr j rows (get_or (map rc rs) k d) basis.count)) in (
      (λ li.
          let e : op.t3 + (op.c + i) ≡ rr + i = omega arith in
          split (op.t3 + (op.c + i))
          ∙ in_both (op.t3 + (op.c + i)) i e
          ∙ ap₂ (λ a b. a ++ b)
          (map-map-same (λ u. get_or u (rr + i) 0) (λ u. get_or u (boundary l + i) 0) lc ls
          (λ k d m.
          let v = get_or ls k d in
          after_front (times_matrix f rr op.g1 (take op.t1 v)) (drop op.t1 v ++ zeros m2) rr i (top op.g1 (take op.t1 v) ok.0.first.rows)
          ∙ low_part op.t1 m1 i v (zeros m2) (left_length k d m) li
          ∙ ap (λ t. get_or v (t + i) 0) (sym ok.1)))
          (map-map-same (λ u. get_or u (rr + i) 0) (λ u. 0) rc rs
          (λ k d m.
          let v = get_or rs k d in
          after_front (times_matrix f rr op.g2 (take op.t2 v)) (zeros m1 ++ drop op.t2 v) rr i (top op.g2 (take op.t2 v) ok.0.second.rows)
          ∙ zeros_at m1 i (drop op.t2 v) li)
          ∙ map-zero rs ∙ ap zeros (length-columns f r))),
      (λ li.
          let e : op.t3 + (op.c + (m1 + i)) ≡ rr + (m1 + i) = omega arith in
          split (op.t3 + (op.c + (m1 + i)))
          ∙ in_both (op.t3 + (op.c + (m1 + i))) (m1 + i) e
          ∙ ap₂ (λ a b. a ++ b)
          (map-map-same (λ u. get_or u (rr + (m1 + i)) 0) (λ u. 0) lc ls
          (λ k d m.
          let v = get_or ls k d in
          after_front (times_matrix f rr op.g1 (take op.t1 v)) (drop op.t1 v ++ zeros m2) rr (m1 + i) (top op.g1 (take op.t1 v) ok.0.first.rows)
          ∙ low_end op.t1 m1 i v (zeros m2) (left_length k d m)
          ∙ get_or-replicate m2 i 0 0 li)
          ∙ map-zero ls ∙ ap zeros (length-columns f l))
          (map-map-same (λ u. get_or u (rr + (m1 + i)) 0) (λ u. get_or u (boundary r + i) 0) rc rs
          (λ k d m.
          let v = get_or rs k d in
          after_front (times_matrix f rr op.g2 (take op.t2 v)) (zeros m1 ++ drop op.t2 v) rr (m1 + i) (top op.g2 (take op.t2 v) ok.0.second.rows)
          ∙ after_front (zeros m1) (drop op.t2 v) m1 i (length-replicate m1 0)
          ∙ get_or-drop op.t2 v i 0
          ∙ ap (λ t. get_or v (t + i) 0) (sym ok.2)))),
    )

-- ---- format 1

pub format-one : FormatOneSplitsDigits
format-one f op ok e x hx =
    let r = op.t3 + op.c in
    let us = map (unit r) (free_columns f r op.g3) in
    let hb = IsVector-take f op.t3 op.c x hx in
    record {
      boundary_digits = hb;
      internal_digits = IsVector-drop f op.t3 op.c x hx;
      sum =
          sym (ap (λ g. combination f r x (completed f r g)) e ∙ combination-first_units f op.t3 op.c x hx)
          ∙ ap (λ z. combination f r z (op.g3 ++ us)) (sym (take-append-drop op.t3 x))
          ∙ combination-append f r (take op.t3 x) (drop op.t3 x) op.g3 us (hb.len ∙ sym ok.third.count) (AreVectors-free f r op.g3);
    }

pub format-one_valid : FormatOneIsValid
format-one_valid f op e =
    subst (λ g. IsBoundary f op.t3 (op.t3 + op.c) g) (sym e)
    (record {
      count = first_units_count (op.t3 + op.c) op.t3;
      rows = first_units_are f op.t3 op.c;
      independent = first_units_independent f op.t3 op.c;
    })

-- ---- pivot columns

pub pivots-meant : PivotsAreMeant
pivots-meant f n g h k l =
    let b = reduced_basis_is f n g h in (
      (λ t.
          let c = (pivots_of_basis f n g h k l).0 t in
          let r = row_at_lead n 0 (reduced_basis f n g) b.leads b.echelon k c.0 c.1 c.2 in
          (r.0, r.1, r.2)),
      (λ p. pivot_from_span f n k g (get_or (reduced_basis f n g) p.0 []) l h (b.span.1 p.0 [] p.1) p.2),
    )
