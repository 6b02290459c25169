-- The columns of a join from those of its children, and its first rows as combinations of their boundary rows.
use Rattle.std.proofs.Common.{◌≡◌, ◌<◌, ◌≤◌, ℕ, suc, zero, ◌+◌, List, [], ◌∷◌, ◌++◌, length, map, get_or, take, drop, All, refl, sym, ap, ap₂, subst, ◌∙◌, arith, append_assoc, length-append, take-append-drop}
use Rattle.std.specs.List.{range_with_len}
use Rattle.std.proofs.lemmas.List.{map-append, get_or_append_left, get_or-append-add, get_or-map, get_or-replicate, length-map, take_at, drop_at}
use Rattle.std.proofs.lemmas.List.Elements.{All-head, All-tail}
use Rattle.std.proofs.lemmas.Simd.{map-map}
use Rattle.mm_field.specs.declared.Field.{Field}
use Rattle.mm_field.specs.Digits.{plus, times}
use Rattle.mm_field.specs.Vectors.{zeros, vector_sum, multiple, combination, times_matrix, IsVector, AreVectors}
use Rattle.mm_field.proofs.Tables.{times_comm}
use Rattle.mm_field.proofs.VectorLemmas.{step_entry}
use Rattle.mm_field.proofs.CombinationLemmas.{IsVector-combination, first_row, other_rows}
use Rattle.mm_field.proofs.PartLemmas.{AreVectors-map}
use Rattle.mm_linear.specs.Coordinates.{coordinates, in_coordinates, IsBasis, completed}
use Rattle.mm_linear.proofs.CoordinateLemmas.{IsVector-coordinates, coordinates_times_matrix, front_digit}
use Rattle.mm_linear.proofs.BasisLemmas.{completed_is_basis}
use Rattle.mm_logic.specs.Operator.{Op, row_length, IsValidOp}
use Rattle.mm_logic.specs.PresentMatrix.{internal, left_column, right_column, columns, column_of, row_of, first_rows, column_digits}
use Rattle.mm_logic.specs.Tree.{size}
use Rattle.mm_logic_laws.specs.MatrixLaws.{IsColumnOfJoin, ColumnsOfJoinArePadded, RowsOfJoinAreCombined}
use Rattle.mm_logic_laws.proofs.MatrixLemmas.{length-columns, columns_are, one_column}
use Rattle.mm_logic_laws.proofs.RowLemmas.{map-zero}

-- ---- columns

-- a vector x of the space of a join with old internal digits after it, as a column of the join
column_in_join : (f : Field) (op : Op) (x old : List ℕ) → IsValidOp f op → IsVector f (row_length op) x →
    IsColumnOfJoin f op x old (in_coordinates f (row_length op) (completed f (row_length op) op.g3) (x ++ old))
column_in_join f op x old ok hx =
    let r = row_length op in
    let rows = completed f r op.g3 in
    let cs = column_digits f op x in
    record {
      b = take op.t3 cs;
      y = drop op.t3 cs;
      column = (one_column f op ok x hx).0;
      digits =
          ap₂ (λ u w. coordinates f r rows u ++ w) (take_at x old r hx.len) (drop_at x old r hx.len)
          ∙ ap (λ z. z ++ old) (sym (take-append-drop op.t3 cs))
          ∙ append_assoc (take op.t3 cs) (drop op.t3 cs) old;
    }

pub columns_padded : ColumnsOfJoinArePadded
columns_padded f op l r ok i =
    let rr = row_length op in
    let ic = in_coordinates f rr (completed f rr op.g3) in
    let lc = left_column f op.t1 rr op.g1 (internal r) in
    let rc = right_column f op.t2 rr op.g2 (internal l) in
    let ls = columns f l in
    let rs = columns f r in
    let nl : length (map lc ls) ≡ size l = length-map ls lc ∙ length-columns f l in
    let nr : length (map rc rs) ≡ size r = length-map rs rc ∙ length-columns f r in
    let both : length (map lc ls ++ map rc rs) ≡ length (map lc ls) + length (map rc rs) = length-append (map lc ls) (map rc rs) in
    let cl : length ls ≡ size l = length-columns f l in
    let cr : length rs ≡ size r = length-columns f r in (
      (λ li.
          let v = column_of f l i in
          subst (λ u. IsColumnOfJoin f op (times_matrix f rr op.g1 (take op.t1 v)) (drop op.t1 v ++ zeros (internal r)) u)
          (sym (get_or-map ic (map lc ls ++ map rc rs) i [] [] (omega arith)
          ∙ ap ic (get_or_append_left (map lc ls) (map rc rs) [] i (omega arith) ∙ get_or-map lc ls i [] [] (omega arith))))
          (column_in_join f op (times_matrix f rr op.g1 (take op.t1 v)) (drop op.t1 v ++ zeros (internal r)) ok.0
          (IsVector-combination f rr (take op.t1 v) op.g1 ok.0.first.rows))),
      (λ li.
          let v = column_of f r i in
          subst (λ u. IsColumnOfJoin f op (times_matrix f rr op.g2 (take op.t2 v)) (zeros (internal l) ++ drop op.t2 v) u)
          (sym (get_or-map ic (map lc ls ++ map rc rs) (size l + i) [] [] (omega arith)
          ∙ ap ic (ap (λ n. get_or (map lc ls ++ map rc rs) (n + i) []) (sym nl) ∙ get_or-append-add (map lc ls) (map rc rs) i [] ∙ get_or-map rc rs i [] [] (omega arith))))
          (column_in_join f op (times_matrix f rr op.g2 (take op.t2 v)) (zeros (internal l) ++ drop op.t2 v) ok.0
          (IsVector-combination f rr (take op.t2 v) op.g2 ok.0.second.rows))),
    )

-- ---- rows

-- two functions that agree at each member have the same list of values
map_same : {X : Type 0} (P : X → Type 0) (g h : X → ℕ) (xs : List X) → All P xs → ((x : X) → P x → g x ≡ h x) → map g xs ≡ map h xs
map_same P g h [] hs e = refl
map_same P g h (x ∷ xs) hs e = ap₂ (λ a b. a ∷ b) (e x (All-head P x xs hs)) (map_same P g h xs (All-tail P x xs hs) e)

sum_of_values : (f : Field) (a : ℕ) (g h : List ℕ → ℕ) (cs : List (List ℕ)) →
    vector_sum f (multiple f a (map g cs)) (map h cs) ≡ map (λ u. plus f (times f a (g u)) (h u)) cs
sum_of_values f a g h [] = refl
sum_of_values f a g h (u ∷ cs) = ap (λ v. plus f (times f a (g u)) (h u) ∷ v) (sum_of_values f a g h cs)

take-drop : (n j : ℕ) (u : List ℕ) → j < length u → take (suc n) (drop j u) ≡ get_or u j 0 ∷ take n (drop (suc j) u)
take-drop n j [] l = absurd (omega arith)
take-drop n zero (d ∷ u) l = refl
take-drop n (suc j) (d ∷ u) l = take-drop n j u (omega arith)

take-next : (n j : ℕ) (u : List ℕ) → j < length u → take (suc n) (drop j u) ≡ get_or u j 0 ∷ take n (drop (j + 1) u)
take-next n j u l = let e : suc j ≡ j + 1 = omega arith in take-drop n j u l ∙ ap (λ (i : ℕ). get_or u j 0 ∷ take n (drop i u)) e

-- digit k of the combinations of m by the digits of some columns from place j on
by_rows : (f : Field) (r k w j : ℕ) (m cs : List (List ℕ)) → AreVectors f r m → AreVectors f w cs → k < r → j + length m ≤ w →
    map (λ u. get_or (combination f r (take (length m) (drop j u)) m) k 0) cs
    ≡ combination f (length cs) (row_of m k) (map (row_of cs) (range_with_len j (length m)))
by_rows f r k w j [] cs hm hc lk lw =
    map_same (λ u. IsVector f w u) (λ u. get_or (zeros r) k 0) (λ u. 0) cs hc (λ u hu. get_or-replicate r k 0 0 lk) ∙ map-zero cs
by_rows f r k w j (v ∷ m) cs hm hc lk lw =
    let hv : length v ≡ r = (first_row f r v m hm).len in
    let rest : List ℕ → ℕ = λ u. get_or (combination f r (take (length m) (drop (j + 1) u)) m) k 0 in
    let whole : List ℕ → ℕ = λ u. get_or (combination f r (take (suc (length m)) (drop j u)) (v ∷ m)) k 0 in
    let each : (u : List ℕ) → IsVector f w u → whole u ≡ plus f (times f (get_or v k 0) (get_or u j 0)) (rest u) = λ u hu.
    let long : length u ≡ w = hu.len in
    let made : length (combination f r (take (length m) (drop (j + 1) u)) m) ≡ r =
    (IsVector-combination f r (take (length m) (drop (j + 1) u)) m (other_rows f r v m hm)).len in
    ap (λ (ds : List ℕ). get_or (combination f r ds (v ∷ m)) k 0) (take-next (length m) j u (omega arith))
    ∙ step_entry f r (get_or u j 0) v (combination f r (take (length m) (drop (j + 1) u)) m) k hv made lk
    ∙ ap (λ d. plus f d (rest u)) (times_comm f (get_or u j 0) (get_or v k 0)) in
    map_same (λ u. IsVector f w u) whole (λ u. plus f (times f (get_or v k 0) (get_or u j 0)) (rest u)) cs hc each
    ∙ sym (sum_of_values f (get_or v k 0) (λ u. get_or u j 0) rest cs)
    ∙ ap (λ row. vector_sum f (multiple f (get_or v k 0) (row_of cs j)) row)
    (by_rows f r k w (j + 1) m cs (other_rows f r v m hm) hc lk (omega arith))

-- row k of a join at the elements of one child, whose columns are cs
side_row : (f : Field) (r t m k : ℕ) (basis g cs : List (List ℕ)) (tail : List ℕ → List ℕ) →
    IsBasis f r basis → AreVectors f r g → length g ≡ t → AreVectors f (t + m) cs → k < r →
    map (λ u. get_or (in_coordinates f r basis (times_matrix f r g (take t u) ++ tail u)) k 0) cs
    ≡ combination f (length cs) (row_of (map (coordinates f r basis) g) k) (first_rows t cs)
side_row f r t m k basis g cs tail hb hg hl hc lk =
    let into : List ℕ → List ℕ = coordinates f r basis in
    let made : AreVectors f r (map into g) =
    AreVectors-map f r r into (λ x hx. subst (λ n. IsVector f n (into x)) hb.count (IsVector-coordinates f r basis x)) g hg in
    let long : length (map into g) ≡ t = length-map g into ∙ hl in
    map_same (λ u. IsVector f (t + m) u) (λ u. get_or (in_coordinates f r basis (times_matrix f r g (take t u) ++ tail u)) k 0)
    (λ u. get_or (combination f r (take t u) (map into g)) k 0) cs hc
    (λ u hu.
    front_digit f r k basis (times_matrix f r g (take t u)) (tail u) hb.count (IsVector-combination f r (take t u) g hg).len lk
    ∙ ap (λ z. get_or z k 0) (coordinates_times_matrix f r basis g (take t u) hb hg))
    ∙ subst
    (λ n. map (λ u. get_or (combination f r (take n u) (map into g)) k 0) cs
    ≡ combination f (length cs) (row_of (map into g) k) (map (row_of cs) (range_with_len 0 n)))
    long
    (by_rows f r k (t + m) 0 (map into g) cs made hc lk (omega arith))

pub rows_combined : RowsOfJoinAreCombined
rows_combined f op l r ok k lk =
    let rr = row_length op in
    let basis = completed f rr op.g3 in
    let is_basis : IsBasis f rr basis = completed_is_basis f rr op.g3 ok.0.third.rows ok.0.third.independent in
    let digit : List ℕ → ℕ = λ u. get_or (in_coordinates f rr basis u) k 0 in
    let lc = left_column f op.t1 rr op.g1 (internal r) in
    let rc = right_column f op.t2 rr op.g2 (internal l) in
    let ls = columns f l in
    let rs = columns f r in
    map-map (λ u. get_or u k 0) (in_coordinates f rr basis) (map lc ls ++ map rc rs)
    ∙ map-append digit (map lc ls) (map rc rs)
    ∙ ap₂ (λ a b. a ++ b)
    (map-map digit lc ls
    ∙ side_row f rr op.t1 (internal l) k basis op.g1 ls (λ u. drop op.t1 u ++ zeros (internal r)) is_basis ok.0.first.rows ok.0.first.count
    (subst (λ t. AreVectors f (t + internal l) ls) ok.1 (columns_are f l ok.3)) lk
    ∙ ap₂ (λ n t. combination f n (row_of (map (coordinates f rr basis) op.g1) k) (first_rows t ls)) (length-columns f l) (sym ok.1))
    (map-map digit rc rs
    ∙ side_row f rr op.t2 (internal r) k basis op.g2 rs (λ u. zeros (internal l) ++ drop op.t2 u) is_basis ok.0.second.rows ok.0.second.count
    (subst (λ t. AreVectors f (t + internal r) rs) ok.2 (columns_are f r ok.4)) lk
    ∙ ap₂ (λ n t. combination f n (row_of (map (coordinates f rr basis) op.g2) k) (first_rows t rs)) (length-columns f r) (sym ok.2))
