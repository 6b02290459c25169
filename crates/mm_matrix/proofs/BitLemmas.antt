-- Rows over GF(2) as bits, and rows that are reduced by one another in turn.
use Rattle.std.proofs.Common.{ℕ, zero, suc, ◌+◌, ◌*◌, ◌/◌, ◌%◌, ◌^◌, ◌<◌, ◌≤◌, ◌≡◌, ◌≢◌, inl, inr, Vec, Global, List, [], ◌∷◌, ◌++◌, length, get_or, map, bit_xor, bit_or, refl, sym, ap, ap₂, ◌∙◌, subst, arith, eqb-true}
use Rattle.std.proofs.Math.Nat.{eq-or-lt_of_le}
use Rattle.std.specs.Int.{bit_at}
use Rattle.std.specs.List.{range_with_len}
use Rattle.std.proofs.Common.{◌-◌, ◌↔◌, Bool, true, false, not, Option, Some, None, rules, set, take, zero-add}
use Rattle.std.specs.Bool.{IsTrue}
use Rattle.std.specs.Option.{IfSome, IfNone, is_some}
use Rattle.std.specs.Vec.{with_items}
use Rattle.std.proofs.lemmas.Bool.{cases_eq}
use Rattle.std.proofs.lemmas.Nat.{one_shl}
use Rattle.std.proofs.lemmas.List.{length-map, get_or-map, get_or_push, get_or_append_left, length-append, ext_get_or, get_or-replicate, get_or-set_same, get_or-set_other, take_more, get_or_default, with_items_is}
use Rattle.std.proofs.lemmas.List.Elements.{All-cons, All-nil, All-push, All-take}
use Rattle.std.proofs.lemmas.List.FromFn.{length-range_with_len, get_or-range_with_len}
use Rattle.std.proofs.lemmas.Nat.Bits.{bit_at-lt, bit_at_xor, bit_at_or, bit_at-zero, bit_at-pow_same, bit_at-pow_other}
use Rattle.mm_field.specs.declared.Field.TheVariants.{Two}
use Rattle.mm_field.specs.Digits.{plus, times, negative}
use Rattle.mm_field.specs.declared.Field.{Field}
use Rattle.mm_field.specs.Vectors.{zeros, vector_sum, multiple, combination, IsVector, AreDigits, AreVectors, InSpan, IsWithin, SameRowSpace}
use Rattle.mm_field.proofs.Tables.{plus_digits, times_comm, times_one_digit, times-zero, opp_digit, zero_digit, one_digit, plus_zero_digit}
use Rattle.mm_field.proofs.VectorLemmas.{axpy_from_entries, zeros_from_entries, add_no_multiple, vector_sum_assoc, vector_sum-zeros, length-multiple, IsVector-vector_sum, sum_entry, step_entry, zero-multiple, zeros-vector_sum}
use Rattle.mm_field.proofs.CombinationLemmas.{first_row, other_rows, combination-none, IsVector-combination, InSpan-vector_sum, InSpan-multiple, InSpan-zeros, InSpan-first, InSpan-within, IsWithin-itself, IsWithin-within}
use Rattle.mm_linear.specs.Eliminate.{cleared}
use Rattle.mm_linear.proofs.InsertLemmas.{cleared_at, sum_of_zeros}
use Rattle.mm_matrix.specs.BitRows.{bit_of, bits, bit_rows, IsWide, AreStairs}
use Rattle.mm_matrix.specs.Residues.{IsResidue}
use Rattle.mm_linear.proofs.SumLemmas.{more_within}
use Rattle.mm_matrix.proofs.ResidueLemmas.{IsResidueUpTo}
use Rattle.mm_matrix.proofs.ReducedLemmas.{rest_span, span_trans, nothing_new}

abbrev pub bits_of_row : ℕ → Vec ℕ Global → List ℕ
bits_of_row n r = bits n r.items

pub length-bits : (n : ℕ) (ws : List ℕ) → length (bits n ws) ≡ n
length-bits n ws = length-map (range_with_len 0 n) (bit_of ws) ∙ length-range_with_len 0 n

pub get_or-bits : (n k d : ℕ) (ws : List ℕ) → k < n → get_or (bits n ws) k d ≡ bit_of ws k
get_or-bits n k d ws l =
    get_or-map (bit_of ws) (range_with_len 0 n) k 0 d (let e = length-range_with_len 0 n in omega (arith, e))
    ∙ ap (bit_of ws) (get_or-range_with_len 0 n k 0 l ∙ zero-add k)

pub bit_of-lt : (ws : List ℕ) (k : ℕ) → bit_of ws k < 2
bit_of-lt ws k = bit_at-lt (get_or ws (k / 64) 0) (k % 64)

pub IsVector-bits : (n : ℕ) (ws : List ℕ) → IsVector Two n (bits n ws)
IsVector-bits n ws = record {
  len = length-bits n ws;
  digits = λ k d l. subst (λ (x : ℕ). x < 2) (sym (get_or-bits n k d ws (let e = length-bits n ws in omega (arith, e)))) (bit_of-lt ws k);
}

-- packed words with these digits
pub bits_are : (n : ℕ) (ws row : List ℕ) → length row ≡ n → ((k : ℕ) → k < n → bit_of ws k ≡ get_or row k 0) → bits n ws ≡ row
bits_are n ws row e h =
    ext_get_or 0 (bits n ws) row (length-bits n ws ∙ sym e)
    (λ k l. let s : k < n = (let b = length-bits n ws in omega (arith, b)) in get_or-bits n k 0 ws s ∙ h k s)

-- ---- sums

bit_sum : (a b i : ℕ) → bit_at (bit_xor b a) i ≡ plus Two (bit_at b i) (times Two 1 (bit_at a i))
bit_sum a b i =
    bit_at_xor b a i ∙ sym (plus_digits Two (bit_at b i) (bit_at a i) (bit_at-lt b i) (bit_at-lt a i))
    ∙ ap (plus Two (bit_at b i)) (sym (times_comm Two 1 (bit_at a i) ∙ times_one_digit Two (bit_at a i) (bit_at-lt a i)))

pub bits-sum : (n : ℕ) (x y z : List ℕ) →
    ((k : ℕ) → k < n → get_or z (k / 64) 0 ≡ bit_xor (get_or y (k / 64) 0) (get_or x (k / 64) 0)) →
    bits n z ≡ vector_sum Two (bits n y) (multiple Two 1 (bits n x))
bits-sum n x y z h =
    axpy_from_entries Two 1 (bits n x) (bits n y) (bits n z) (length-bits n x ∙ sym (length-bits n y)) (length-bits n z ∙ sym (length-bits n y))
    (λ k l. let s : k < n = (let b = length-bits n y in omega (arith, b)) in
    get_or-bits n k 0 z s ∙ ap (λ (w : ℕ). bit_at w (k % 64)) (h k s) ∙ bit_sum (get_or x (k / 64) 0) (get_or y (k / 64) 0) (k % 64)
    ∙ ap₂ (λ (a b : ℕ). plus Two b (times Two 1 a)) (sym (get_or-bits n k 0 x s)) (sym (get_or-bits n k 0 y s)))

-- a row without its part along another, where its digit is 1, and where it is 0
pub cleared_where_one : (n p : ℕ) (w v z : List ℕ) → p < n → bit_of v p ≢ 0 →
    z ≡ vector_sum Two (bits n v) (multiple Two 1 (bits n w)) → z ≡ cleared Two p (bits n w) (bits n v)
cleared_where_one n p w v z l some e =
    let small = bit_of-lt v p in
    let one : 1 ≡ bit_of v p = omega arith in
    let factor : 1 ≡ negative Two (get_or (bits n v) p 0) =
    sym (opp_digit Two 1 (one_digit Two)) ∙ ap (negative Two) (one ∙ sym (get_or-bits n p 0 v l)) in
    e ∙ ap (λ (c : ℕ). vector_sum Two (bits n v) (multiple Two c (bits n w))) factor

pub cleared_where_zero : (n p : ℕ) (w v : List ℕ) → p < n → bit_of v p ≡ 0 → bits n v ≡ cleared Two p (bits n w) (bits n v)
cleared_where_zero n p w v l none =
    let factor : negative Two (get_or (bits n v) p 0) ≡ 0 =
    ap (negative Two) (get_or-bits n p 0 v l ∙ none) ∙ opp_digit Two 0 (zero_digit Two) in
    add_no_multiple Two (negative Two (get_or (bits n v) p 0)) (bits n w) (bits n v) factor (length-bits n w ∙ sym (length-bits n v))
    (IsVector-bits n v).digits

-- ---- one step of the reduction

pub stairs_start : (n : ℕ) (rows : List (List ℕ)) (ks v : List ℕ) → AreVectors Two n rows → IsVector Two n v →
    IsResidueUpTo Two n rows ks v v 0
stairs_start n rows ks v h hv = record {
  vector = hv;
  part = zeros n;
  inside = InSpan-zeros Two n rows h;
  sum = vector_sum-zeros Two n v hv;
  zero = λ k l. absurd (omega arith);
}

pub stairs_step : (n i : ℕ) (rows : List (List ℕ)) (ks v u : List ℕ) → AreStairs n rows ks → i < length rows →
    IsResidueUpTo Two n rows ks v u i →
    IsResidueUpTo Two n rows ks v (cleared Two (get_or ks i 0) (get_or rows i []) u) (i + 1)
stairs_step n i rows ks v u h l rest =
    let p = get_or ks i 0 in
    let c = negative Two (get_or u p 0) in
    let r = get_or rows i [] in
    let hr : IsVector Two n r = h.each i [] l in
    record {
      vector = IsVector-vector_sum Two n u (multiple Two c r) rest.vector.len (length-multiple Two c r ∙ hr.len);
      part = vector_sum Two rest.part (multiple Two c r);
      inside = InSpan-vector_sum Two n rows rest.part (multiple Two c r) rest.inside (InSpan-multiple Two n c rows r (IsWithin-itself Two n rows h.each i [] l));
      sum = sym (vector_sum_assoc Two v rest.part (multiple Two c r)) ∙ ap (λ x. vector_sum Two x (multiple Two c r)) rest.sum;
      zero = λ k m. at_pivot n i rows ks u h rest.vector l rest.zero k m;
    }
  where
    at_pivot : (n i : ℕ) (rows : List (List ℕ)) (ks u : List ℕ) → AreStairs n rows ks → IsVector Two n u → i < length rows →
        ((k : ℕ) → k < i → get_or u (get_or ks k 0) 0 ≡ 0) → (k : ℕ) → k < i + 1 →
        get_or (cleared Two (get_or ks i 0) (get_or rows i []) u) (get_or ks k 0) 0 ≡ 0
    at_pivot n i rows ks u h hu l before k m =
        let a = get_or u (get_or ks i 0) 0 in
        let r = get_or rows i [] in
        let lr : length r ≡ n = (h.each i [] l).len in
        elim (eq-or-lt_of_le {n = k} {m = i} (omega arith)) [
          | inl e ↦
              subst (λ (x : ℕ). get_or (vector_sum Two u (multiple Two (negative Two a) r)) (get_or ks x 0) 0 ≡ 0) (sym e)
              (sum_entry Two n (negative Two a) u r (get_or ks i 0) hu.len lr (h.inside i l)
              ∙ cleared_at Two a (get_or r (get_or ks i 0) 0) (h.one i l))
          | inr s ↦
              sum_entry Two n (negative Two a) u r (get_or ks k 0) hu.len lr (h.inside k (omega arith))
              ∙ sum_of_zeros Two (get_or u (get_or ks k 0) 0) _ (before k s)
              (ap (times Two (negative Two a)) (h.zero k i s l) ∙ times-zero Two (negative Two a))
        ]

pub stairs_end : (n : ℕ) (rows : List (List ℕ)) (ks v rest : List ℕ) → AreStairs n rows ks →
    IsResidueUpTo Two n rows ks v rest (length rows) → IsResidue Two n rows ks v rest
stairs_end n rows ks v rest s h = record {
  vector = h.vector;
  part = h.part;
  inside = h.inside;
  sum = h.sum;
  zero = λ k d l. ap (λ (x : ℕ). get_or rest x 0) (get_or_default ks k d 0 l) ∙ h.zero k (let e = s.count in omega arith);
}

-- ---- a combination with 0 at all pivots is zero

zero_column : (n j : ℕ) (cs : List ℕ) (rows : List (List ℕ)) → AreVectors Two n rows → j < n →
    ((i : ℕ) → i < length rows → get_or (get_or rows i []) j 0 ≡ 0) → get_or (combination Two n cs rows) j 0 ≡ 0
zero_column n j [] rows h l z = get_or-replicate n j 0 0 l
zero_column n j (c ∷ cs) [] h l z = get_or-replicate n j 0 0 l
zero_column n j (c ∷ cs) (v ∷ vs) h l z =
    let hs = other_rows Two n v vs h in
    step_entry Two n c v (combination Two n cs vs) j (first_row Two n v vs h).len (IsVector-combination Two n cs vs hs).len l
    ∙ sum_of_zeros Two (times Two c (get_or v j 0)) (get_or (combination Two n cs vs) j 0)
    (ap (times Two c) (z 0 (omega arith)) ∙ times-zero Two c)
    (zero_column n j cs vs hs l (λ i m. z (suc i) (omega arith)))

fewer_stairs : (n k : ℕ) (v : List ℕ) (vs : List (List ℕ)) (ks : List ℕ) → AreStairs n (v ∷ vs) (k ∷ ks) → AreStairs n vs ks
fewer_stairs n k v vs ks h = record {
  each = other_rows Two n v vs h.each;
  count = (let e = h.count in omega arith);
  inside = λ i l. h.inside (suc i) (omega arith);
  one = λ i l. h.one (suc i) (omega arith);
  zero = λ j i m l. h.zero (suc j) (suc i) (omega arith) (omega arith);
}

pub zero_at_pivots : (n : ℕ) (rows : List (List ℕ)) (ks cs : List ℕ) → AreStairs n rows ks → AreDigits Two cs →
    ((i : ℕ) → i < length rows → get_or (combination Two n cs rows) (get_or ks i 0) 0 ≡ 0) → combination Two n cs rows ≡ zeros n
zero_at_pivots n [] ks cs h d z = combination-none Two n cs
zero_at_pivots n (v ∷ vs) ks [] h d z = refl
zero_at_pivots n (v ∷ vs) [] (c ∷ cs) h d z = absurd (let e = h.count in omega arith)
zero_at_pivots n (v ∷ vs) (k ∷ ks) (c ∷ cs) h d z =
    let hs = other_rows Two n v vs h.each in
    let hv = first_row Two n v vs h.each in
    let more = combination Two n cs vs in
    let hm : IsVector Two n more = IsVector-combination Two n cs vs hs in
    let small : c < 2 = d 0 0 (omega arith) in
    let place : k < n = h.inside 0 (omega arith) in
    let one : get_or v k 0 ≡ 1 = h.one 0 (omega arith) in
    let later : get_or more k 0 ≡ 0 = zero_column n k cs vs hs place (λ i l. h.zero 0 (suc i) (omega arith) (omega arith)) in
    let none : c ≡ 0 =
    sym (ap₂ (plus Two) (ap (times Two c) one ∙ times_one_digit Two c small) later ∙ plus_zero_digit Two c small)
    ∙ sym (step_entry Two n c v more k hv.len hm.len place) ∙ z 0 (omega arith) in
    let same : combination Two n (c ∷ cs) (v ∷ vs) ≡ more =
    ap (λ (x : ℕ). vector_sum Two (multiple Two x v) more) none
    ∙ ap (λ (x : List ℕ). vector_sum Two x more) (zero-multiple Two v ∙ ap zeros hv.len) ∙ zeros-vector_sum Two n more hm in
    same ∙ zero_at_pivots n vs ks cs (fewer_stairs n k v vs ks h) (λ i e l. d (suc i) e (omega arith))
    (λ i l. ap (λ (x : List ℕ). get_or x (get_or ks i 0) 0) (sym same) ∙ z (suc i) (omega arith))

-- what is left of a combination of the rows is zero
pub rest_is_zero : (n : ℕ) (rows : List (List ℕ)) (ks v u : List ℕ) → AreStairs n rows ks → IsResidue Two n rows ks v u →
    InSpan Two n rows v → u ≡ zeros n
rest_is_zero n rows ks v u h rest p =
    let inside : InSpan Two n rows u =
    subst (λ (x : List ℕ). InSpan Two n rows x) rest.sum (InSpan-vector_sum Two n rows v rest.part p rest.inside) in
    sym inside.sum
    ∙ zero_at_pivots n rows ks inside.coefficients h inside.each.digits
    (λ i l. ap (λ (x : List ℕ). get_or x (get_or ks i 0) 0) inside.sum ∙ rest.zero i 0 (let e = h.count in omega arith))

pub stands_outside : (n p : ℕ) (rows : List (List ℕ)) (ks v ws : List ℕ) → AreStairs n rows ks → IsResidue Two n rows ks v (bits n ws) →
    p < n → bit_of ws p ≡ 1 → InSpan Two n rows v → ⊥
stands_outside n p rows ks v ws h rest l one inside =
    let z : get_or (bits n ws) p 0 ≡ get_or (zeros n) p 0 = ap (λ (x : List ℕ). get_or x p 0) (rest_is_zero n rows ks v (bits n ws) h rest inside) in
    let a = get_or-bits n p 0 ws l in
    let b : get_or (zeros n) p 0 ≡ 0 = get_or-replicate n p 0 0 l in
    omega (arith, z, a, b, one)

-- ---- one more row

pub stairs_more : (n p : ℕ) (rows : List (List ℕ)) (ks v u : List ℕ) → AreStairs n rows ks → IsResidue Two n rows ks v u → p < n →
    get_or u p 0 ≡ 1 → AreStairs n (rows ++ u ∷ []) (ks ++ p ∷ [])
stairs_more n p rows ks v u h rest place one =
    let R = rows ++ u ∷ [] in
    let K = ks ++ p ∷ [] in
    let lr : length R ≡ length rows + 1 = length-append rows (u ∷ []) in
    let lk : length K ≡ length ks + 1 = length-append ks (p ∷ []) in
    let e = h.count in
    let old_k : (i : ℕ) → i < length rows → get_or K i 0 ≡ get_or ks i 0 = λ i l. get_or_append_left ks (p ∷ []) 0 i (omega arith) in
    let old_r : (i : ℕ) → i < length rows → get_or R i [] ≡ get_or rows i [] = λ i l. get_or_append_left rows (u ∷ []) [] i l in
    let new_k : (i : ℕ) → i ≡ length rows → get_or K i 0 ≡ p = λ i q. get_or_push ks p 0 i (e ∙ sym q) in
    let new_r : (i : ℕ) → i ≡ length rows → get_or R i [] ≡ u = λ i q. get_or_push rows u [] i (sym q) in
    record {
      each = All-push (λ x. IsVector Two n x) rows u h.each rest.vector;
      count = omega (arith, lr, lk, e);
      inside = λ i l. elim (eq-or-lt_of_le {n = i} {m = length rows} (omega arith)) [
        | inl q ↦ subst (λ (x : ℕ). x < n) (sym (new_k i q)) place
        | inr s ↦ subst (λ (x : ℕ). x < n) (sym (old_k i s)) (h.inside i s)
      ];
      one = λ i l. elim (eq-or-lt_of_le {n = i} {m = length rows} (omega arith)) [
        | inl q ↦ ap₂ (λ (x : List ℕ) (k : ℕ). get_or x k 0) (new_r i q) (new_k i q) ∙ one
        | inr s ↦ ap₂ (λ (x : List ℕ) (k : ℕ). get_or x k 0) (old_r i s) (old_k i s) ∙ h.one i s
      ];
      zero = λ k i m l. elim (eq-or-lt_of_le {n = i} {m = length rows} (omega arith)) [
        | inl q ↦
            ap₂ (λ (x : List ℕ) (j : ℕ). get_or x j 0) (new_r i q) (old_k k (omega arith)) ∙ rest.zero k 0 (omega arith)
        | inr s ↦ ap₂ (λ (x : List ℕ) (j : ℕ). get_or x j 0) (old_r i s) (old_k k (omega arith)) ∙ h.zero k i m s
      ];
    }

turned : (f : Field) (n : ℕ) (u : List ℕ) (rows : List (List ℕ)) → IsVector f n u → AreVectors f n rows →
    SameRowSpace f n (u ∷ rows) (rows ++ u ∷ [])
turned f n u rows hu h =
    let all = rows ++ u ∷ [] in
    let it = IsWithin-itself f n all (All-push (λ x. IsVector f n x) rows u h hu) in
    let long : length all ≡ length rows + 1 = length-append rows (u ∷ []) in
    let rows_in : IsWithin f n rows all = λ k d l.
    subst (λ (x : List ℕ). InSpan f n all x) (get_or_append_left rows (u ∷ []) d k l) (it k d (omega arith)) in
    let u_in : InSpan f n all u =
    subst (λ (x : List ℕ). InSpan f n all x) (get_or_push rows u [] (length rows) refl) (it (length rows) [] (omega arith)) in (
      All-cons (λ x. InSpan f n all x) u rows u_in rows_in,
      All-push (λ x. InSpan f n (u ∷ rows) x) rows u (more_within f n u rows hu h) (InSpan-first f n u rows hu h),
    )

pub stairs_span : (n : ℕ) (rows : List (List ℕ)) (ks v u : List ℕ) → AreVectors Two n rows → IsVector Two n v →
    IsResidue Two n rows ks v u → SameRowSpace Two n (v ∷ rows) (rows ++ u ∷ [])
stairs_span n rows ks v u h hv rest =
    span_trans Two n (v ∷ rows) (u ∷ rows) (rows ++ u ∷ []) (All-cons (λ x. IsVector Two n x) v rows hv h)
    (All-push (λ x. IsVector Two n x) rows u h rest.vector) (rest_span Two n rows ks v u h hv rest) (turned Two n u rows rest.vector h)

-- a vector without a rest
pub stairs_kept : (n : ℕ) (rows : List (List ℕ)) (ks v u : List ℕ) → AreVectors Two n rows → IsVector Two n v →
    IsResidue Two n rows ks v u → u ≡ zeros n → SameRowSpace Two n (v ∷ rows) rows
stairs_kept n rows ks v u h hv rest z = (
  All-cons (λ x. InSpan Two n rows x) v rows (nothing_new Two n rows ks v u h hv rest z) (IsWithin-itself Two n rows h),
  more_within Two n v rows hv h,
)

-- ---- row by row

pub span_more : (f : Field) (n i : ℕ) (given rows more : List (List ℕ)) → AreVectors f n given → AreVectors f n rows → AreVectors f n more →
    i < length given → SameRowSpace f n (take i given) rows → SameRowSpace f n (get_or given i [] ∷ rows) more →
    SameRowSpace f n (take (i + 1) given) more
span_more f n i given rows more hg hr hm l before step =
    let v = get_or given i [] in
    let hv : IsVector f n v = hg i [] l in
    let first = take i given in
    let hf : AreVectors f n first = All-take (λ x. IsVector f n x) i given hg in
    let vr = v ∷ rows in
    let hvr : AreVectors f n vr = All-cons (λ x. IsVector f n x) v rows hv hr in
    let vf = v ∷ first in
    let hvf : AreVectors f n vf = All-cons (λ x. IsVector f n x) v first hv hf in
    let there : SameRowSpace f n vf vr = (
      All-cons (λ x. InSpan f n vr x) v first (InSpan-first f n v rows hv hr) (IsWithin-within f n first rows vr hvr before.0 (more_within f n v rows hv hr)),
      All-cons (λ x. InSpan f n vf x) v rows (InSpan-first f n v first hv hf) (IsWithin-within f n rows first vf hvf before.1 (more_within f n v first hv hf)),
    ) in
    let t = turned f n v first hv hf in
    subst (λ (x : List (List ℕ)). SameRowSpace f n x more) (sym (take_more given i [] l))
    (span_trans f n (first ++ v ∷ []) vr more (All-push (λ x. IsVector f n x) first v hf hv) hm
    (span_trans f n (first ++ v ∷ []) vf vr (All-push (λ x. IsVector f n x) first v hf hv) hvr (t.1, t.0) there) step)

-- ---- packing

shifted_same : (d m : ℕ) → d < 2 → m < 64 → bit_at (d * 2 ^ m % 18446744073709551616) m ≡ d
shifted_same zero m l s = ap (λ (x : ℕ). bit_at x m) (let e : 0 * 2 ^ m % 18446744073709551616 ≡ 0 = omega arith in e) ∙ bit_at-zero m
shifted_same (suc zero) m l s = ap (λ (x : ℕ). bit_at x m) (one_shl m 64 s) ∙ bit_at-pow_same m
shifted_same (suc (suc d)) m l s = absurd (omega arith)

shifted_other : (d m i : ℕ) → d < 2 → m < 64 → i ≢ m → bit_at (d * 2 ^ m % 18446744073709551616) i ≡ 0
shifted_other zero m i l s a = ap (λ (x : ℕ). bit_at x i) (let e : 0 * 2 ^ m % 18446744073709551616 ≡ 0 = omega arith in e) ∙ bit_at-zero i
shifted_other (suc zero) m i l s a = ap (λ (x : ℕ). bit_at x i) (one_shl m 64 s) ∙ bit_at-pow_other m i a
shifted_other (suc (suc d)) m i l s a = absurd (omega arith)

-- the words with digit d put in at place k, where there is 0
abbrev pub with_bit : List ℕ → ℕ → ℕ → ℕ → List ℕ
with_bit ws k d w = set ws (k / 64) (bit_or w (d * 2 ^ (k % 64) % 18446744073709551616))

pub bit_put : (ws : List ℕ) (k d w : ℕ) → d < 2 → k / 64 < length ws → w ≡ get_or ws (k / 64) 0 → bit_of ws k ≡ 0 →
    bit_of (with_bit ws k d w) k ≡ d
bit_put ws k d w small l e none =
    let m = k % 64 in
    let s = d * 2 ^ m % 18446744073709551616 in
    let a = bit_at_or w s m in
    let b : bit_at w m ≡ 0 = ap (λ (x : ℕ). bit_at x m) e ∙ none in
    let c : bit_at s m ≡ d = shifted_same d m small (omega arith) in
    ap (λ (x : ℕ). bit_at x m) (get_or-set_same ws (k / 64) (bit_or w s) 0 l) ∙ omega (arith, a, b, c)

pub bit_kept : (ws : List ℕ) (k d w j : ℕ) → d < 2 → k / 64 < length ws → w ≡ get_or ws (k / 64) 0 → j ≢ k →
    bit_of (with_bit ws k d w) j ≡ bit_of ws j
bit_kept ws k d w j small l e apart = elim (cases_eq (j / 64) (k / 64)) [
  | inl q ↦
      let m = j % 64 in
      let s = d * 2 ^ (k % 64) % 18446744073709551616 in
      let other : m ≢ k % 64 = λ same. apart (omega (arith, q, same)) in
      let a = bit_at_or w s m in
      let c : bit_at s m ≡ 0 = shifted_other d (k % 64) m small (omega arith) other in
      let here : bit_at w m ≡ bit_of ws j = ap (λ (x : ℕ). bit_at x m) (e ∙ ap (λ (i : ℕ). get_or ws i 0) (sym q)) in
      ap (λ (i : ℕ). bit_at (get_or (with_bit ws k d w) i 0) m) q
      ∙ ap (λ (x : ℕ). bit_at x m) (get_or-set_same ws (k / 64) (bit_or w s) 0 l) ∙ omega (arith, a, c, here)
  | inr other ↦ ap (λ (x : ℕ). bit_at x (j % 64)) (get_or-set_other ws (k / 64) (j / 64) (bit_or w (d * 2 ^ (k % 64) % 18446744073709551616)) 0 other)
]

-- ---- what is left of a row, as the code keeps it

pub rest_in_place : (n : ℕ) (row : List ℕ) (r : Vec ℕ Global) (w : List ℕ) → IsVector Two n row → IsWide (length row) r.items → IsWide n w →
    (with_items r w).items ≡ w
rest_in_place n row r w h a b = with_items_is r w (b ∙ ap (λ (k : ℕ). k / 64 + 1) (sym h.len) ∙ sym a ∙ sym r.ok.0)

pub rest_of_row : (n : ℕ) (row : List ℕ) (rows : List (List ℕ)) (ks : List ℕ) (r : Vec ℕ Global) (v w : List ℕ) → IsVector Two n row →
    bits (length row) r.items ≡ row → v ≡ r.items → IsResidue Two n rows ks (bits n v) (bits n w) → IsResidue Two n rows ks row (bits n w)
rest_of_row n row rows ks r v w h packed e rest =
    subst (λ (x : List ℕ). IsResidue Two n rows ks x (bits n w))
    (ap (bits n) e ∙ ap (λ (k : ℕ). bits k r.items) (sym h.len) ∙ packed) rest

pub rest_decides : (n : ℕ) (rows : List (List ℕ)) (ks v ws : List ℕ) → AreStairs n rows ks → IsVector Two n v →
    IsResidue Two n rows ks v (bits n ws) → (o : Option ℕ) → IfSome o (λ p. (p < n) × (bit_of ws p ≡ 1)) → IfNone o (bits n ws ≡ zeros n) →
    (b : Bool) → is_some o ≡ not b → (IsTrue b ↔ InSpan Two n rows v)
rest_decides n rows ks v ws h hv rest None found none true e =
    ((λ t. nothing_new Two n rows ks v (bits n ws) h.each hv rest none), (λ q. search rules))
rest_decides n rows ks v ws h hv rest None found none false e = cc
rest_decides n rows ks v ws h hv rest (Some p) found none true e = cc
rest_decides n rows ks v ws h hv rest (Some p) found none false e =
    ((λ t. absurd (search rules)), (λ q. absurd (stands_outside n p rows ks v ws h rest found.0 found.1 q)))

-- the same of rows with the same span
pub decides_of_others : (n k j : ℕ) (others : List (List ℕ)) (rows : List (Vec ℕ Global)) (v : List ℕ) (b : Bool) → j ≡ n → k ≡ n →
    AreVectors Two n others → AreVectors Two j (bit_rows j rows) → SameRowSpace Two j others (bit_rows j rows) →
    (IsTrue b ↔ InSpan Two k (bit_rows k rows) v) → (IsTrue b ↔ InSpan Two n others v)
decides_of_others n k j others rows v b ej ek ho hr s d =
    let R = bit_rows n rows in
    let each : AreVectors Two n R = subst (λ (x : ℕ). AreVectors Two x (bit_rows x rows)) ej hr in
    let same : SameRowSpace Two n others R = subst (λ (x : ℕ). SameRowSpace Two x others (bit_rows x rows)) ej s in
    let told : IsTrue b ↔ InSpan Two n R v = subst (λ (x : ℕ). IsTrue b ↔ InSpan Two x (bit_rows x rows) v) ek d in
    ((λ t. InSpan-within Two n R others v ho same.1 (told.0 t)), (λ q. told.1 (InSpan-within Two n others R v each same.0 q)))
