-- The projections of the unit vectors at the free columns are a basis of the vectors that are orthogonal to reduced rows.
use Rattle.std.proofs.Common.{ℕ, zero, suc, ◌+◌, ◌-◌, ◌<◌, ◌≤◌, ◌≡◌, ◌≢◌, inl, inr, Bool, true, false, not, cond, List, [], ◌∷◌, ◌++◌, length, map, filter, get_or, refl, sym, ap, ap₂, ◌∙◌, subst, arith, ext_get_or, Contains, zero-add, ◌↔◌}
use Rattle.std.proofs.Common.{Result, Ok, Err, Vec, Global}
use Rattle.std.specs.Prelude.{IfOk}
use Rattle.std.specs.List.{range_with_len, All}
use Rattle.std.proofs.lemmas.Bool.{cases_eq, both_ways}
use Rattle.std.proofs.lemmas.List.{length-map, get_or-map, length-replicate, get_or-replicate, get_or_default}
use Rattle.std.proofs.lemmas.List.FromFn.{get_or-range_with_len, length-range_with_len}
use Rattle.std.proofs.lemmas.List.Elements.{All-head, All-tail, All-cons, All-nil, All-filter}
use Rattle.mm_field.specs.declared.Field.{Field}
use Rattle.mm_field.specs.Digits.{plus, negative}
use Rattle.mm_field.specs.Vectors.{zeros, vector_sum, multiple, combination, IsVector, AreVectors, InSpan, IsWithin, AreIndependent, SameRowSpace}
use Rattle.mm_field.proofs.Tables.{negative-times, plus_zero_digit}
use Rattle.mm_field.proofs.VectorLemmas.{opposite-vector_sum, vector_sum-zeros, zero-multiple, one-multiple, zeros-vector_sum, get_or-vector_sum}
use Rattle.mm_field.proofs.CombinationLemmas.{first_row, other_rows, combination-multiple, combination-zeros, IsVector-combination, InSpan-zeros, InSpan-within, IsWithin-itself}
use Rattle.mm_field.proofs.PartLemmas.{combination-map}
use Rattle.mm_linear.specs.Coordinates.{unit, is_pivot, free_columns}
use Rattle.mm_linear.proofs.SubspaceTests.{Contains-filter, Contains-map}
use Rattle.mm_linear.proofs.EchelonLemmas.{zero_not_one}
use Rattle.mm_linear.proofs.IndependenceLemmas.{independent_more}
use Rattle.mm_linear.proofs.IndependenceLemmas.{none_independent}
use Rattle.mm_linear.proofs.PivotLemmas.{pivots_are_leads, count_leads}
use Rattle.mm_linear.proofs.BasisLemmas.{IsVector-unit, get_or-unit, get_or-unit_other, completed_is_basis, free_count}
use Rattle.mm_linear.specs.ReducedEchelon.{Leads, reduced_basis}
use Rattle.mm_linear.proofs.ReducedEchelonLemmas.{reduced_basis_is}
use Rattle.mm_linear.proofs.LeftUnique.{basis_of_reduced}
use Rattle.mm_matrix.specs.MatrixValue.{MatrixValue}
use Rattle.mm_matrix.specs.Residues.{AreReduced, IsResidue, IsResidueBy}
use Rattle.mm_base.specs.declared.failure.NoMemory.{NoMemory}
use Rattle.mm_matrix.specs.Orthogonal.{dot, IsOrthogonal, IsNullOf, IsOrthogonalBasis}
use Rattle.mm_matrix.specs.Projections.{units, shares, projected, kernel_vector, kernel_vectors}
use Rattle.mm_matrix.proofs.DotLemmas.{dot-comm, dot-unit, dot-combination, dot-zeros, all_zero, orthogonal_within}
use Rattle.mm_matrix.proofs.DimensionLemmas.{dimension}
use Rattle.mm_matrix.proofs.NullLemmas.{AreVectors-units, IsVector-projected, projected-vector_sum, projected-multiple, projected-zeros, projected_same, projected_orthogonal, at_leads, leads_inside}

-- ---- places

pub range_inside : (n : ℕ) → All (λ k. k < n) (range_with_len 0 n)
range_inside n = λ i d l.
    let m : i < n = (let e = length-range_with_len 0 n in omega arith) in
    subst (λ (k : ℕ). k < n) (sym (get_or-range_with_len 0 n i d m ∙ zero-add i)) m

pub free_inside : (f : Field) (n : ℕ) (g : List (List ℕ)) → All (λ k. k < n) (free_columns f n g)
free_inside f n g = All-filter (λ k. not (is_pivot f g k)) (λ k. k < n) (range_with_len 0 n) (range_inside n)

pub AreVectors-kernel_vectors : (f : Field) (n : ℕ) (rows : List (List ℕ)) (ks js : List ℕ) → All (λ k. k < n) ks → All (λ k. k < n) js →
    AreVectors f n (map (kernel_vector f n rows ks) js)
AreVectors-kernel_vectors f n rows ks [] h hj = All-nil (λ v. IsVector f n v)
AreVectors-kernel_vectors f n rows ks (j ∷ js) h hj =
    All-cons (λ v. IsVector f n v) _ _ (IsVector-projected f n rows ks (unit n j) h (IsVector-unit f n j (All-head (λ k. k < n) j js hj)))
    (AreVectors-kernel_vectors f n rows ks js h (All-tail (λ k. k < n) j js hj))

-- ---- at a lead the projection is zero

pub combination-unit : (f : Field) (n i : ℕ) (rows : List (List ℕ)) → AreVectors f n rows → i < length rows →
    combination f n (unit (length rows) i) rows ≡ get_or rows i []
combination-unit f n i [] h l = absurd (omega arith)
combination-unit f n zero (v ∷ rows) h l =
    let hv = first_row f n v rows h in
    ap₂ (vector_sum f) (one-multiple f v hv.digits) (combination-zeros f n (suc (length rows) - 1) rows (other_rows f n v rows h))
    ∙ vector_sum-zeros f n v hv
combination-unit f n (suc i) (v ∷ rows) h l =
    let hv = first_row f n v rows h in
    let hs = other_rows f n v rows h in
    let e : suc (length rows) - suc (suc i) ≡ length rows - suc i = omega arith in
    ap (λ (m : ℕ). combination f n (0 ∷ (zeros i ++ (1 ∷ zeros m))) (v ∷ rows)) e
    ∙ ap (λ u. vector_sum f u (combination f n (unit (length rows) i) rows)) (zero-multiple f v ∙ ap zeros hv.len)
    ∙ zeros-vector_sum f n (combination f n (unit (length rows) i) rows) (IsVector-combination f n (unit (length rows) i) rows hs)
    ∙ combination-unit f n i rows hs (omega arith)

-- column k of the rows, at the i-th lead
pub column_at_lead : (f : Field) (n i : ℕ) (rows : List (List ℕ)) (ks : List ℕ) → AreReduced f n rows ks → i < length ks →
    map (λ v. get_or v (get_or ks i 0) 0) rows ≡ unit (length rows) i
column_at_lead f n i rows ks h l =
    let c = count_leads n 0 rows ks h.leads_are in
    let g : List ℕ → ℕ = λ v. get_or v (get_or ks i 0) 0 in
    let hu = IsVector-unit f (length rows) i (omega arith) in
    ext_get_or 0 (map g rows) (unit (length rows) i) (length-map rows g ∙ sym hu.len)
    (λ m lm.
    let lr : m < length rows = (let e = length-map rows g in omega arith) in
    let all = at_leads f n m rows ks h (omega arith) in
    get_or-map g rows m [] 0 lr
    ∙ sym (get_or-map (λ k. get_or (get_or rows m []) k 0) ks i 0 0 l) ∙ ap (λ (x : List ℕ). get_or x i 0) all
    ∙ turn m i (length ks) (length rows) lr l (sym c))
  where
    turn : (m i a b : ℕ) → m < b → i < a → a ≡ b → get_or (unit a m) i 0 ≡ get_or (unit b i) m 0
    turn m i a b lm li e = elim (cases_eq i m) [
      | inl q ↦
          subst (λ (x : ℕ). get_or (unit a m) x 0 ≡ get_or (unit b x) m 0) (sym q) (get_or-unit a m (omega arith) ∙ sym (get_or-unit b m lm))
      | inr ne ↦
          get_or-unit_other m (a - suc m) i ne (omega arith)
          ∙ sym (get_or-unit_other i (b - suc i) m (λ q. ne (sym q)) (omega arith))
    ]

shares-unit : (f : Field) (n k : ℕ) (rows : List (List ℕ)) → AreVectors f n rows → k < n →
    shares f rows (unit n k) ≡ multiple f (negative f 1) (map (λ v. get_or v k 0) rows)
shares-unit f n k [] h l = refl
shares-unit f n k (v ∷ rows) h l =
    ap₂ (λ a b. a ∷ b) (ap (negative f) (dot-unit f n k v (first_row f n v rows h) l) ∙ negative-times f (get_or v k 0))
    (shares-unit f n k rows (other_rows f n v rows h) l)

lead_vanishes : (f : Field) (n i : ℕ) (rows : List (List ℕ)) (ks : List ℕ) → AreReduced f n rows ks → i < length ks →
    kernel_vector f n rows ks (get_or ks i 0) ≡ zeros n
lead_vanishes f n i rows ks h l =
    let k = get_or ks i 0 in
    let hk = leads_inside f n rows ks h in
    let lk : k < n = hk i 0 l in
    let hu = AreVectors-units f n ks hk in
    let c = count_leads n 0 rows ks h.leads_are in
    let lu = length-map ks (unit n) in
    let m = negative f 1 in
    ap (λ cs. vector_sum f (unit n k) (combination f n cs (units n ks)))
    (shares-unit f n k rows h.each lk ∙ ap (multiple f m) (column_at_lead f n i rows ks h l ∙ ap (λ (x : ℕ). unit x i) (c ∙ sym lu)))
    ∙ ap (vector_sum f (unit n k))
    (combination-multiple f n m (unit (length (units n ks)) i) (units n ks)
    ∙ ap (multiple f m) (combination-unit f n i (units n ks) hu (omega arith) ∙ get_or-map (unit n) ks i 0 [] l))
    ∙ opposite-vector_sum f (unit n k) ∙ ap zeros (IsVector-unit f n k lk).len

-- ---- the span

pub member_in_span : (f : Field) (n : ℕ) (rows : List (List ℕ)) (v : List ℕ) → AreVectors f n rows → Contains rows v → InSpan f n rows v
member_in_span f n rows v h c = subst (λ (u : List ℕ). InSpan f n rows u) c.2 (IsWithin-itself f n rows h c.0 v c.1)

pub is_lead : (f : Field) (n k : ℕ) (rows : List (List ℕ)) (ks : List ℕ) → AreReduced f n rows ks → k < n → (is_pivot f rows k ≡ true) ↔ Contains ks k
is_lead f n k rows ks h l =
    let it = IsWithin-itself f n rows h.each in
    pivots_are_leads f n 0 rows rows ks h.each h.each (it, it) h.leads_are k l

-- what has 0 at each lead has 0 at each pivot column
pub residue_by_pivots : (f : Field) (n : ℕ) (rows : List (List ℕ)) (ks v : List ℕ) → AreReduced f n rows ks → (r : Result (Vec ℕ Global) NoMemory) →
    IfOk r (λ rest. IsResidue f n rows ks v rest.items) → IfOk r (λ rest. IsResidueBy (record { f = f; cols = n; rows = rows }) v rest.items)
residue_by_pivots f n rows ks v h (Err e) left = tt
residue_by_pivots f n rows ks v h (Ok rest) left = record {
  vector = left.vector;
  part = left.part;
  inside = left.inside;
  sum = left.sum;
  zero = λ k l p.
      let at = (is_lead f n k rows ks h l).0 p in
      ap (λ (i : ℕ). get_or rest.items i 0) (sym at.2) ∙ left.zero at.0 k at.1;
}

projection_in_span : (f : Field) (n k : ℕ) (rows : List (List ℕ)) (ks : List ℕ) → AreReduced f n rows ks → k < n →
    InSpan f n (kernel_vectors f n rows ks) (kernel_vector f n rows ks k)
projection_in_span f n k rows ks h l = go (is_pivot f rows k) refl
  where
    hk : All (λ k. k < n) ks
    hk = leads_inside f n rows ks h

    all : AreVectors f n (kernel_vectors f n rows ks)
    all = AreVectors-kernel_vectors f n rows ks (free_columns f n rows) hk (free_inside f n rows)

    go : (b : Bool) → is_pivot f rows k ≡ b → InSpan f n (kernel_vectors f n rows ks) (kernel_vector f n rows ks k)
    go true e =
        let c = (is_lead f n k rows ks h l).0 e in
        let at : get_or ks c.0 0 ≡ k = get_or_default ks c.0 0 k c.1 ∙ c.2 in
        subst (λ (v : List ℕ). InSpan f n (kernel_vectors f n rows ks) v)
        (sym (lead_vanishes f n c.0 rows ks h c.1) ∙ ap (kernel_vector f n rows ks) at)
        (InSpan-zeros f n (kernel_vectors f n rows ks) all)
    go false e =
        let in_range : Contains (range_with_len 0 n) k =
        (k, (let s = length-range_with_len 0 n in omega arith), get_or-range_with_len 0 n k k l ∙ zero-add k) in
        let free = Contains-filter (λ j. not (is_pivot f rows j)) (range_with_len 0 n) k in_range (ap not e) in
        member_in_span f n (kernel_vectors f n rows ks) (kernel_vector f n rows ks k) all
        (Contains-map (kernel_vector f n rows ks) (free_columns f n rows) k free)

-- what is orthogonal to the rows is a combination of the projections
pub orthogonal_is_null : (f : Field) (n : ℕ) (rows : List (List ℕ)) (ks x : List ℕ) → AreReduced f n rows ks → IsVector f n x →
    IsOrthogonal f rows x → InSpan f n (kernel_vectors f n rows ks) x
orthogonal_is_null f n rows ks x h hx orth =
    let none = All-nil (λ v. IsVector f n v) in
    let p = (completed_is_basis f n [] none (none_independent f n)).all x hx in
    let L = free_columns f n [] in
    let hL = free_inside f n [] in
    let hk = leads_inside f n rows ks h in
    let hu = AreVectors-units f n L hL in
    let g = projected f n rows ks in
    let image : combination f n p.coefficients (map g (units n L)) ≡ x =
    combination-map f n n g (λ u v hu hv. projected-vector_sum f n rows ks u v hu hv) (λ c u hu. projected-multiple f n c rows ks u)
    (projected-zeros f n rows ks hk) p.coefficients (units n L) hu
    ∙ ap g p.sum ∙ projected_same f n rows ks x hk hx orth in
    let all = AreVectors-kernel_vectors f n rows ks (free_columns f n rows) hk (free_inside f n rows) in
    InSpan-within f n (map g (units n L)) (kernel_vectors f n rows ks) x all
    (within L hL)
    (record {
      coefficients = p.coefficients;
      each = record { len = p.each.len ∙ sym (length-map (units n L) g); digits = p.each.digits };
      sum = image;
    })
  where
    within : (L : List ℕ) → All (λ k. k < n) L → IsWithin f n (map (projected f n rows ks) (units n L)) (kernel_vectors f n rows ks)
    within [] hL = All-nil (λ v. InSpan f n (kernel_vectors f n rows ks) v)
    within (k ∷ L) hL =
        All-cons (λ v. InSpan f n (kernel_vectors f n rows ks) v) _ _
        (projection_in_span f n k rows ks h (All-head (λ k. k < n) k L hL)) (within L (All-tail (λ k. k < n) k L hL))

-- and the other way round
pub null_is_orthogonal : (f : Field) (n : ℕ) (rows : List (List ℕ)) (ks x : List ℕ) → AreReduced f n rows ks →
    InSpan f n (kernel_vectors f n rows ks) x → IsOrthogonal f rows x
null_is_orthogonal f n rows ks x h p = λ m d l.
    let hk = leads_inside f n rows ks h in
    let v = get_or rows m d in
    let N = kernel_vectors f n rows ks in
    let all = AreVectors-kernel_vectors f n rows ks (free_columns f n rows) hk (free_inside f n rows) in
    ap (dot f v) (sym p.sum) ∙ dot-combination f n v p.coefficients N all
    ∙ all_zero f p.coefficients (map (dot f v) N) (each m d l (free_columns f n rows) (free_inside f n rows))
  where
    each : (m : ℕ) (d : List ℕ) → m < length rows → (js : List ℕ) → All (λ k. k < n) js →
        All (λ (a : ℕ). a ≡ 0) (map (dot f (get_or rows m d)) (map (kernel_vector f n rows ks) js))
    each m d l [] hj = All-nil (λ a. a ≡ 0)
    each m d l (j ∷ js) hj =
        All-cons (λ (a : ℕ). a ≡ 0) _ _
        (projected_orthogonal f n rows ks (unit n j) h (IsVector-unit f n j (All-head (λ k. k < n) j js hj)) m d l)
        (each m d l js (All-tail (λ k. k < n) j js hj))

-- ---- how many there are

-- at a column that is no lead, a projection is as the unit vector
pub entry_off_leads : (f : Field) (n a j : ℕ) (rows : List (List ℕ)) (ks : List ℕ) → All (λ k. k < n) ks → All (λ k. k ≢ a) ks → a < n → j < n →
    get_or (kernel_vector f n rows ks j) a 0 ≡ get_or (unit n j) a 0
entry_off_leads f n a j rows ks hk ne la lj =
    let cs = shares f rows (unit n j) in
    let hu = AreVectors-units f n ks hk in
    let w = combination f n cs (units n ks) in
    let hw = IsVector-combination f n cs (units n ks) hu in
    let hj = IsVector-unit f n j lj in
    let ha = IsVector-unit f n a la in
    let zero : get_or w a 0 ≡ 0 =
    sym (dot-unit f n a w hw la) ∙ dot-comm f w (unit n a) ∙ dot-combination f n (unit n a) cs (units n ks) hu
    ∙ all_zero f cs (map (dot f (unit n a)) (units n ks)) (off ks hk ne ha) in
    let lw = hw.len in
    get_or-vector_sum f (unit n j) w a (hj.len ∙ sym lw) (omega arith)
    ∙ ap (plus f (get_or (unit n j) a 0)) zero
    ∙ plus_zero_digit f (get_or (unit n j) a 0) (hj.digits a 0 (let e = hj.len in omega arith))
  where
    off : (ks : List ℕ) → All (λ k. k < n) ks → All (λ k. k ≢ a) ks → IsVector f n (unit n a) →
        All (λ (d : ℕ). d ≡ 0) (map (dot f (unit n a)) (units n ks))
    off [] hk ne ha = All-nil (λ d. d ≡ 0)
    off (k ∷ ks) hk ne ha =
        let lk = All-head (λ k. k < n) k ks hk in
        All-cons (λ (d : ℕ). d ≡ 0) _ _
        (dot-unit f n k (unit n a) ha lk ∙ get_or-unit_other a (n - suc a) k (All-head (λ k. k ≢ a) k ks ne) (omega arith))
        (off ks (All-tail (λ k. k < n) k ks hk) (All-tail (λ k. k ≢ a) k ks ne) ha)

pub not_a_lead : (f : Field) (n a : ℕ) (rows : List (List ℕ)) (ks : List ℕ) → AreReduced f n rows ks → a < n → is_pivot f rows a ≡ false →
    All (λ k. k ≢ a) ks
not_a_lead f n a rows ks h l e = λ i d m q.
    both_ways (is_pivot f rows a) e ((is_lead f n a rows ks h l).1 (i, m, get_or_default ks i a d m ∙ q))

later_zero : (f : Field) (n a : ℕ) (rows : List (List ℕ)) (ks js : List ℕ) → All (λ k. k < n) ks → All (λ k. k ≢ a) ks → a < n →
    All (λ j. (a < j) × (j < n)) js → All (λ (v : List ℕ). get_or v a 0 ≡ 0) (map (kernel_vector f n rows ks) js)
later_zero f n a rows ks [] hk ne la hj = All-nil (λ v. get_or v a 0 ≡ 0)
later_zero f n a rows ks (j ∷ js) hk ne la hj =
    let b = All-head (λ j. (a < j) × (j < n)) j js hj in
    All-cons (λ (v : List ℕ). get_or v a 0 ≡ 0) _ _
    (entry_off_leads f n a j rows ks hk ne la b.1
    ∙ get_or-unit_other j (n - suc j) a (λ q. absurd (let s = b.0 in omega arith)) (let s = b.1 in omega arith))
    (later_zero f n a rows ks js hk ne la (All-tail (λ j. (a < j) × (j < n)) j js hj))

pub zero_in_span : (f : Field) (n a : ℕ) (rows : List (List ℕ)) (v : List ℕ) → AreVectors f n rows → a < n →
    All (λ (u : List ℕ). get_or u a 0 ≡ 0) rows → InSpan f n rows v → get_or v a 0 ≡ 0
zero_in_span f n a rows v h l z p =
    let hv : IsVector f n v = subst (λ u. IsVector f n u) p.sum (IsVector-combination f n p.coefficients rows h) in
    sym (dot-unit f n a v hv l) ∙ dot-comm f v (unit n a) ∙ ap (dot f (unit n a)) (sym p.sum)
    ∙ dot-combination f n (unit n a) p.coefficients rows h
    ∙ all_zero f p.coefficients (map (dot f (unit n a)) rows) (each rows h z)
  where
    each : (rows : List (List ℕ)) → AreVectors f n rows → All (λ (u : List ℕ). get_or u a 0 ≡ 0) rows →
        All (λ (d : ℕ). d ≡ 0) (map (dot f (unit n a)) rows)
    each [] h z = All-nil (λ d. d ≡ 0)
    each (u ∷ rows) h z =
        All-cons (λ (d : ℕ). d ≡ 0) _ _
        (dot-comm f (unit n a) u ∙ dot-unit f n a u (first_row f n u rows h) l ∙ All-head (λ (w : List ℕ). get_or w a 0 ≡ 0) u rows z)
        (each rows (other_rows f n u rows h) (All-tail (λ (w : List ℕ). get_or w a 0 ≡ 0) u rows z))

range_bounds : (n a m : ℕ) → a + m ≤ n → All (λ j. (a ≤ j) × (j < n)) (range_with_len a m)
range_bounds n a m l = λ i d li.
    let k : i < m = (let e = length-range_with_len a m in omega arith) in
    subst (λ (j : ℕ). (a ≤ j) × (j < n)) (sym (get_or-range_with_len a m i d k)) (omega arith, omega arith)

independent_from : (f : Field) (n : ℕ) (rows : List (List ℕ)) (ks : List ℕ) → AreReduced f n rows ks → (m a : ℕ) → a + m ≡ n →
    AreIndependent f n (map (kernel_vector f n rows ks) (filter (λ k. not (is_pivot f rows k)) (range_with_len a m)))
independent_from f n rows ks h zero a e = none_independent f n
independent_from f n rows ks h (suc m) a e =
    go (is_pivot f rows a) refl (independent_from f n rows ks h m (a + 1) (omega arith))
  where
    hk : All (λ k. k < n) ks
    hk = leads_inside f n rows ks h

    p : ℕ → Bool
    p = λ k. not (is_pivot f rows k)

    bounds : All (λ j. (a < j) × (j < n)) (filter p (range_with_len (a + 1) m))
    bounds = All-filter p (λ j. (a < j) × (j < n)) (range_with_len (a + 1) m)
        (λ i d l. (let b = range_bounds n (a + 1) m (omega arith) i d l in let c : a + 1 ≤ get_or (range_with_len (a + 1) m) i d = b.0 in (omega arith, b.1)))

    go : (b : Bool) → is_pivot f rows a ≡ b →
        AreIndependent f n (map (kernel_vector f n rows ks) (filter p (range_with_len (a + 1) m))) →
        AreIndependent f n (map (kernel_vector f n rows ks) (cond (not b) (a ∷ filter p (range_with_len (a + 1) m)) (filter p (range_with_len (a + 1) m))))
    go true t ih = ih
    go false t ih =
        let la : a < n = omega arith in
        let js = filter p (range_with_len (a + 1) m) in
        let ne = not_a_lead f n a rows ks h la t in
        let hrest = AreVectors-kernel_vectors f n rows ks js hk (λ i d l. (bounds i d l).1) in
        independent_more f n (kernel_vector f n rows ks a) (map (kernel_vector f n rows ks) js)
        (IsVector-projected f n rows ks (unit n a) hk (IsVector-unit f n a la)) hrest ih
        (λ q. zero_not_one (get_or (kernel_vector f n rows ks a) a 0)
        (zero_in_span f n a (map (kernel_vector f n rows ks) js) (kernel_vector f n rows ks a) hrest la (later_zero f n a rows ks js hk ne la bounds) q)
        (entry_off_leads f n a a rows ks hk ne la la ∙ get_or-unit n a la))

pub independent_kernel_vectors : (f : Field) (n : ℕ) (rows : List (List ℕ)) (ks : List ℕ) → AreReduced f n rows ks →
    AreIndependent f n (kernel_vectors f n rows ks)
independent_kernel_vectors f n rows ks h = independent_from f n rows ks h n 0 (omega arith)

-- reduced rows are independent
pub reduced_independent : (f : Field) (n : ℕ) (rows : List (List ℕ)) (ks : List ℕ) → AreReduced f n rows ks → AreIndependent f n rows
reduced_independent f n rows ks h cs each e =
    let c = count_leads n 0 rows ks h.leads_are in
    let l = each.len in
    ext_get_or 0 cs (zeros (length rows)) (l ∙ sym (length-replicate (length rows) 0))
    (λ i li.
    let lr : i < length rows = omega arith in
    let lk : i < length ks = omega arith in
    let k = get_or ks i 0 in
    let kn : k < n = leads_inside f n rows ks h i 0 lk in
    sym (dot-unit f (length rows) i cs each lr)
    ∙ ap (dot f cs) (sym (column_at_lead f n i rows ks h lk) ∙ sym (dots rows h.each k kn))
    ∙ sym (dot-combination f n (unit n k) cs rows h.each) ∙ ap (dot f (unit n k)) e ∙ dot-zeros f n (unit n k)
    ∙ sym (get_or-replicate (length rows) i 0 0 lr))
  where
    dots : (rows : List (List ℕ)) → AreVectors f n rows → (k : ℕ) → k < n → map (dot f (unit n k)) rows ≡ map (λ v. get_or v k 0) rows
    dots [] h k l = refl
    dots (v ∷ rows) h k l =
        ap₂ (λ a b. a ∷ b) (dot-comm f (unit n k) v ∙ dot-unit f n k v (first_row f n v rows h) l) (dots rows (other_rows f n v rows h) k l)

few_rows : (n from : ℕ) (rows : List (List ℕ)) (ks : List ℕ) → Leads n from rows ks → from ≤ n → length rows + from ≤ n
few_rows n from [] [] h l = omega arith
few_rows n from [] (k ∷ ks) h l = absurd h
few_rows n from (v ∷ vs) [] h l = absurd h
few_rows n from (v ∷ vs) (k ∷ ks) h l =
    let a : from ≤ k = h.0 in
    let b : k < n = h.1 in
    let r = few_rows n (suc k) vs ks h.3 (omega arith) in
    omega arith

pub count_kernel_vectors : (f : Field) (n : ℕ) (rows : List (List ℕ)) (ks : List ℕ) → AreReduced f n rows ks →
    length (kernel_vectors f n rows ks) + length rows ≡ n
count_kernel_vectors f n rows ks h =
    let few = few_rows n 0 rows ks h.leads_are (omega arith) in
    let c = n - length rows in
    let e : length rows + c ≡ n = omega arith in
    let count : length (free_columns f n rows) ≡ c =
    subst (λ (x : ℕ). length (free_columns f x rows) ≡ c) e
    (free_count f (length rows) c rows refl (subst (λ (x : ℕ). AreVectors f x rows) (sym e) h.each)
    (subst (λ (x : ℕ). AreIndependent f x rows) (sym e) (reduced_independent f n rows ks h))) in
    let m = length-map (free_columns f n rows) (kernel_vector f n rows ks) in
    omega arith

-- ---- the reduced basis of the projections

pub basis_of_null : (m null : MatrixValue) (rows basis : List (List ℕ)) → AreVectors null.f null.cols null.rows →
    AreVectors m.f m.cols rows → AreVectors m.f m.cols m.rows → rows ≡ reduced_basis m.f m.cols m.rows → SameRowSpace m.f m.cols m.rows rows →
    IsNullOf (record { f = m.f; cols = m.cols; rows = rows }) null → basis ≡ reduced_basis null.f null.cols null.rows →
    IsOrthogonalBasis m (record { f = null.f; cols = null.cols; rows = basis })
basis_of_null m null rows basis hnull hrows hm is same n b =
    let f = m.f in
    let c = m.cols in
    let hn : AreVectors f c null.rows =
    subst (λ (k : ℕ). AreVectors f k null.rows) n.cols (subst (λ (g : Field). AreVectors g null.cols null.rows) n.field hnull) in
    let bn : basis ≡ reduced_basis f c null.rows =
    b ∙ ap (λ (g : Field). reduced_basis g null.cols null.rows) n.field ∙ ap (λ (k : ℕ). reduced_basis f k null.rows) n.cols in
    let left_basis = reduced_basis_is f c null.rows hn in
    let B = reduced_basis f c null.rows in
    record {
      field = n.field;
      cols = n.cols;
      reduced = bn ∙ sym (ap (reduced_basis f c) bn ∙ basis_of_reduced f c B left_basis.leads left_basis.each left_basis.echelon left_basis.reduced);
      exactly = λ x hx. (
        (λ p. orthogonal_within f c m.rows rows x hrows same.0
            ((n.exactly x hx).0 (InSpan-within f c B null.rows x hn left_basis.span.1 (subst (λ (r : List (List ℕ)). InSpan f c r x) bn p)))),
        (λ o. subst (λ (r : List (List ℕ)). InSpan f c r x) (sym bn)
            (InSpan-within f c null.rows B x left_basis.each left_basis.span.0 ((n.exactly x hx).1 (orthogonal_within f c rows m.rows x hm same.1 o)))),
      );
      count =
          let d = dimension f c null.rows hn n.independent in
          let k = n.count in
          omega (arith, ap length bn, ap length is);
    }
