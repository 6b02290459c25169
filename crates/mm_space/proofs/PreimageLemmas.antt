-- The preimage of a space under a matrix: tagged rows without their part along the space are eliminated.
use Rattle.std.proofs.Common.{ℕ, zero, suc, ◌+◌, ◌-◌, ◌<◌, ◌≤◌, ◌≡◌, ◌↔◌, inl, inr, Bool, eqb, eqb-true, set, List, [], ◌∷◌, ◌++◌, length, map, get_or, take, drop, reverse, refl, sym, ap, ap₂, ◌∙◌, subst, arith, append_assoc, length-append, take-append-drop}
use Rattle.std.specs.List.{range_with_len}
use Rattle.std.proofs.lemmas.List.{length-map, get_or-map, reverse-reverse, length-replicate, take-replicate, take_at, drop_at, ext_get_or, length-take-le, get_or-take, get_or-append_right, get_or_append_left}
use Rattle.std.proofs.lemmas.List.FromFn.{length-range_with_len, get_or-range_with_len}
use Rattle.std.proofs.lemmas.List.Elements.{All-map, All-from_get_or}
use Rattle.mm_field.specs.declared.Field.{Field}
use Rattle.mm_field.specs.declared.Field.TheVariants.{Two}
use Rattle.mm_field.specs.Digits.{order, negative}
use Rattle.mm_field.specs.Vectors.{zeros, vector_sum, multiple, combination, times_matrix, IsVector, AreVectors, InSpan, IsWithin, SameRowSpace}
use Rattle.std.proofs.lemmas.Bool.{cases_lt}
use Rattle.mm_field.proofs.Tables.{passes_at2, times_comm, plus_zero_digit, times_one_digit}
use Rattle.mm_field.proofs.VectorLemmas.{vector_sum_middle, multiple-vector_sum, multiple-times, multiple-zeros, zeros-vector_sum, IsVector-zeros}
use Rattle.mm_field.proofs.CombinationLemmas.{zeros_twice, combination-vector_sum, combination-multiple, combination-zeros, IsVector-combination, vector_sum-append, multiple-append, drop-vector_sum, drop-multiple, InSpan-within}
use Rattle.mm_field.proofs.PartLemmas.{combination-map, IsVector-take, IsVector-append, append_parts, zeros-append}
use Rattle.mm_linear.specs.Echelons.{IsEchelon, EndsAt}
use Rattle.mm_linear.specs.Padded.{padded}
use Rattle.mm_linear.specs.Eliminate.{residue}
use Rattle.mm_linear.specs.Coordinates.{unit}
use Rattle.mm_linear.specs.Decide.{is_in_span}
use Rattle.mm_linear.specs.ReducedEchelon.{reduced_basis}
use Rattle.mm_linear.specs.Subspaces.{preimage}
use Rattle.mm_linear.proofs.BasisLemmas.{combination_cut, IsVector-unit}
use Rattle.mm_linear.proofs.HeadLemmas.{IsEchelon-head, InSpan-head}
use Rattle.mm_linear.proofs.InsertLemmas.{IsVector-residue, no_residue, in_span_with_no_residue}
use Rattle.mm_linear.proofs.MeetTest.{is_in_span_decides}
use Rattle.mm_linear.proofs.ReducedEchelonLemmas.{reverse-cons, IsVector-reverse, AreVectors-reversed, reduced_basis_is}
use Rattle.mm_linear.proofs.SpaceLemmas.{padded_past, IsVector-padded}
use Rattle.mm_linear.proofs.SubspaceLemmas.{pad}
use Rattle.mm_linear.proofs.SubspaceTests.{subspace-of_rows}
use Rattle.mm_space.specs.Insertion.{IsHeld}
use Rattle.mm_space.specs.SpaceValue.{corner}
use Rattle.mm_space.specs.KeyValue.{KeyValue, IsKeyOf}
use Rattle.mm_space.specs.Preimages.{IsPreimage, tagged_row, tagged_rows}
use Rattle.mm_space.proofs.RowLemmas.{residue_ends}
use Rattle.mm_space.proofs.KeptLemmas.{padded_is, ended_is_padded, held_span, corner_each}
use Rattle.mm_space.proofs.Gathering.{wide_rows, wide_image_is}
use Rattle.mm_space.proofs.ReversedLemmas.{InSpan-reversed_back, reduced_basis-twice}

-- ---- tags

-- the last t unit vectors among the first t of six digits, from the last to the first
abbrev pub falling : ℕ → List (List ℕ)
falling zero = []
falling (suc t) = unit 6 t ∷ falling t

falling-length : (t : ℕ) → length (falling t) ≡ t
falling-length zero = refl
falling-length (suc t) = ap suc (falling-length t)

falling-get : (t i : ℕ) → i < t → get_or (falling t) i [] ≡ unit 6 (t - 1 - i)
falling-get zero i l = absurd (omega arith)
falling-get (suc t) zero l = let e : t ≡ suc t - 1 - 0 = omega arith in ap (unit 6) e
falling-get (suc t) (suc i) l = falling-get t i (omega arith) ∙ let e : t - 1 - i ≡ suc t - 1 - suc i = omega arith in ap (unit 6) e

-- tags with coefficients are the coefficients turned round
falling-combination : (f : Field) (t : ℕ) (cs : List ℕ) → IsVector f t cs → t ≤ 6 →
    combination f 6 cs (falling t) ≡ reverse cs ++ zeros (6 - t)
falling-combination f zero [] h l = refl
falling-combination f zero (c ∷ cs) h l = absurd (let a = h.len in omega arith)
falling-combination f (suc t) [] h l = absurd (let a = h.len in omega arith)
falling-combination f (suc t) (c ∷ cs) h l =
    let hc : IsVector f t cs = record { len = (let a = h.len in omega arith); digits = λ i d m. h.digits (suc i) d (omega arith) } in
    let lc : c < order f = h.digits 0 0 (omega arith) in
    let hr = IsVector-reverse f t cs hc in
    let m = 6 - suc t in
    let e : 6 - t ≡ suc m = omega arith in
    ap₂ (λ x y. vector_sum f x y)
    (multiple-append f c (zeros t) (1 ∷ zeros m)
    ∙ ap₂ (λ x y. x ++ y) (multiple-zeros f c t) (ap₂ (λ x y. x ∷ y) (times_one_digit f c lc) (multiple-zeros f c m)))
    (falling-combination f t cs hc (omega arith) ∙ ap (λ k. reverse cs ++ zeros k) e)
    ∙ vector_sum-append f (zeros t) (c ∷ zeros m) (reverse cs) (0 ∷ zeros m) (length-replicate t 0 ∙ sym hr.len)
    ∙ ap₂ (λ x y. x ++ y) (zeros-vector_sum f t (reverse cs) hr) (ap₂ (λ x y. x ∷ y) (plus_zero_digit f c lc) (zeros_twice f m))
    ∙ sym (append_assoc (reverse cs) (c ∷ []) (zeros m))
    ∙ ap (λ x. x ++ zeros m) (sym (reverse-cons c cs))

-- ---- what is left beside a space is linear

pub residue-vector_sum : (f : Field) (n : ℕ) (u v : List ℕ) (W : List (List ℕ)) → length u ≡ length v →
    residue f n (vector_sum f u v) W ≡ vector_sum f (residue f n u W) (residue f n v W)
residue-vector_sum f n u v W e =
    let m = negative f 1 in
    ap (λ x. vector_sum f (vector_sum f u v) (multiple f m x)) (combination-vector_sum f n u v W e)
    ∙ ap (vector_sum f (vector_sum f u v)) (multiple-vector_sum f m (combination f n u W) (combination f n v W))
    ∙ vector_sum_middle f u v (multiple f m (combination f n u W)) (multiple f m (combination f n v W))

pub residue-multiple : (f : Field) (n c : ℕ) (u : List ℕ) (W : List (List ℕ)) → residue f n (multiple f c u) W ≡ multiple f c (residue f n u W)
residue-multiple f n c u W =
    let m = negative f 1 in
    let w = combination f n u W in
    ap (λ x. vector_sum f (multiple f c u) (multiple f m x)) (combination-multiple f n c u W)
    ∙ ap (vector_sum f (multiple f c u)) (sym (multiple-times f m c w) ∙ ap (λ a. multiple f a w) (times_comm f m c) ∙ multiple-times f c m w)
    ∙ sym (multiple-vector_sum f c u (multiple f m w))

pub residue-zeros : (f : Field) (n : ℕ) (W : List (List ℕ)) → AreVectors f n W → residue f n (zeros n) W ≡ zeros n
residue-zeros f n W h =
    ap (λ x. vector_sum f (zeros n) (multiple f (negative f 1) x)) (combination-zeros f n n W h)
    ∙ ap (vector_sum f (zeros n)) (multiple-zeros f (negative f 1) n)
    ∙ zeros_twice f n

pub residue-combination : (f : Field) (n : ℕ) (cs : List ℕ) (W rows : List (List ℕ)) → AreVectors f n W → AreVectors f n rows →
    combination f n cs (map (λ v. residue f n v W) rows) ≡ residue f n (combination f n cs rows) W
residue-combination f n cs W rows hw hr =
    combination-map f n n (λ v. residue f n v W)
    (λ u v hu hv. residue-vector_sum f n u v W (hu.len ∙ sym hv.len))
    (λ c u hu. residue-multiple f n c u W)
    (residue-zeros f n W hw) cs rows hr

-- ---- the tagged rows

-- what is left of b*G
abbrev pub rest_of : Field → ℕ → List (List ℕ) → List (List ℕ) → List ℕ → List ℕ
rest_of f r g W b = take 18 (residue f 24 (pad (24 - r) (times_matrix f r g b)) W)

pub length-tagged : (f : Field) (t : ℕ) (g W : List (List ℕ)) → length (tagged_rows f t g W) ≡ t
length-tagged f t g W = length-map (range_with_len 0 t) (tagged_row f t g W) ∙ length-range_with_len 0 t

pub tagged-get : (f : Field) (t : ℕ) (g W : List (List ℕ)) (i : ℕ) → i < t → get_or (tagged_rows f t g W) i [] ≡ tagged_row f t g W i
tagged-get f t g W i l =
    get_or-map (tagged_row f t g W) (range_with_len 0 t) i 0 [] (omega (arith, length-range_with_len 0 t))
    ∙ ap (tagged_row f t g W) (get_or-range_with_len 0 t i 0 l ∙ omega arith)

unit-length : (k : ℕ) → k < 6 → length (unit 6 k) ≡ 6
unit-length k l = (IsVector-unit Two 6 k l).len

pub tag_is_vector : (f : Field) (place : ℕ) (x : List ℕ) → place < 6 → IsVector f 24 x → IsVector f 24 (unit 6 place ++ take 18 x)
tag_is_vector f place x l hx =
    IsVector-append f 6 18 (unit 6 place) (take 18 x) (IsVector-unit f 6 place l) (IsVector-take f 18 6 x hx)

pub tag_ends : (r place : ℕ) (x : List ℕ) → place < 6 → EndsAt 24 r x → EndsAt 24 (6 + r) (unit 6 place ++ take 18 x)
tag_ends r place x l ends j low m =
    get_or-append_right (unit 6 place) (take 18 x) 6 j 0 (unit-length place l) (omega arith)
    ∙ get_or-take 18 x (j - 6) 0 (omega arith)
    ∙ ends (j - 6) (omega arith) (omega arith)

pub tagged_are : (f : Field) (r t : ℕ) (g W : List (List ℕ)) → t ≤ 6 → r ≤ 24 → length g ≡ t → AreVectors f r g → IsEchelon f 24 W →
    AreVectors f 24 (tagged_rows f t g W)
tagged_are f r t g W lt lr count hg hw =
    All-from_get_or (λ v. IsVector f 24 v) (tagged_rows f t g W) []
    (λ i l.
    let li : i < t = omega (arith, length-tagged f t g W) in
    let wide = padded_vector i li in
    subst (λ v. IsVector f 24 v) (sym (tagged-get f t g W i li))
    (tag_is_vector f (t - 1 - i) (residue f 24 (padded 24 (get_or g i [])) W) (omega arith)
    (IsVector-residue f 24 (padded 24 (get_or g i [])) W hw.each wide)))
  where
    padded_vector : (i : ℕ) → i < t → IsVector f 24 (padded 24 (get_or g i []))
    padded_vector i l =
        let hv = hg i [] (omega arith) in
        IsVector-padded f 24 (get_or g i []) (let e : length (get_or g i []) ≡ r = hv.len in omega arith) hv.digits

tags_are_falling : (f : Field) (t : ℕ) (g W : List (List ℕ)) → t ≤ 6 → map (take 6) (tagged_rows f t g W) ≡ falling t
tags_are_falling f t g W lt =
    let L = tagged_rows f t g W in
    let ll = length-map L (take 6) ∙ length-tagged f t g W in
    ext_get_or [] (map (take 6) L) (falling t) (ll ∙ sym (falling-length t))
    (λ i l.
    let li : i < t = omega arith in
    get_or-map (take 6) L i [] [] (omega (arith, length-tagged f t g W))
    ∙ ap (take 6) (tagged-get f t g W i li)
    ∙ take_at (unit 6 (t - 1 - i)) (take 18 (residue f 24 (padded 24 (get_or g i [])) W)) 6 (unit-length (t - 1 - i) (omega arith))
    ∙ sym (falling-get t i li))

rests_are : (f : Field) (t : ℕ) (g W : List (List ℕ)) → t ≤ 6 → length g ≡ t →
    map (drop 6) (tagged_rows f t g W) ≡ map (take 18) (map (λ v. residue f 24 v W) (map (padded 24) g))
rests_are f t g W lt count =
    let L = tagged_rows f t g W in
    let P = map (padded 24) g in
    let H = map (λ v. residue f 24 v W) P in
    let ll = length-map L (drop 6) ∙ length-tagged f t g W in
    let lp : length P ≡ t = length-map g (padded 24) ∙ count in
    let lh : length H ≡ t = length-map P (λ v. residue f 24 v W) ∙ lp in
    ext_get_or [] (map (drop 6) L) (map (take 18) H) (ll ∙ sym (length-map H (take 18) ∙ lh))
    (λ i l.
    let li : i < t = omega arith in
    get_or-map (drop 6) L i [] [] (omega (arith, length-tagged f t g W))
    ∙ ap (drop 6) (tagged-get f t g W i li)
    ∙ drop_at (unit 6 (t - 1 - i)) (take 18 (residue f 24 (padded 24 (get_or g i [])) W)) 6 (unit-length (t - 1 - i) (omega arith))
    ∙ ap (λ v. take 18 (residue f 24 v W)) (sym (get_or-map (padded 24) g i [] [] (omega arith)))
    ∙ ap (take 18) (sym (get_or-map (λ v. residue f 24 v W) P i [] [] (omega arith)))
    ∙ sym (get_or-map (take 18) H i [] [] (omega arith)))

-- a combination of the tagged rows: the coefficients turned round, and what is left of b*G
pub tagged-combination : (f : Field) (r t : ℕ) (g W : List (List ℕ)) → t ≤ 6 → r ≤ 24 → length g ≡ t → AreVectors f r g → IsEchelon f 24 W →
    (b : List ℕ) → IsVector f t b → combination f 24 b (tagged_rows f t g W) ≡ (reverse b ++ zeros (6 - t)) ++ rest_of f r g W b
tagged-combination f r t g W lt lr count hg hw b hb =
    let L = tagged_rows f t g W in
    let hL = tagged_are f r t g W lt lr count hg hw in
    let P = map (padded 24) g in
    let hP = wide_rows f r g lr hg in
    let H = map (λ v. residue f 24 v W) P in
    let hH : AreVectors f 24 H = All-map (λ v. IsVector f 24 v) (λ v. residue f 24 v W) P (λ k d l. IsVector-residue f 24 (get_or P k d) W hw.each (hP k d l)) in
    let z = combination f 24 b L in
    let front : take 6 z ≡ reverse b ++ zeros (6 - t) =
    sym (combination_cut f 24 6 b L (omega arith) hL)
    ∙ ap (combination f 6 b) (tags_are_falling f t g W lt)
    ∙ falling-combination f t b hb lt in
    let back : drop 6 z ≡ rest_of f r g W b =
    sym (combination-map f 24 18 (drop 6)
    (λ u v hu hv. drop-vector_sum f 6 u v (hu.len ∙ sym hv.len)) (λ c u hu. drop-multiple f c 6 u) refl b L hL)
    ∙ ap (combination f 18 b) (rests_are f t g W lt count)
    ∙ combination_cut f 24 18 b H (omega arith) hH
    ∙ ap (take 18) (residue-combination f 24 b W P hw.each hP ∙ ap (λ v. residue f 24 v W) (wide_image_is f r g b lr hg)) in
    sym (take-append-drop 6 z) ∙ ap₂ (λ x y. x ++ y) front back

-- nothing is left exactly where b*G is in the space
nothing_left : (f : Field) (r : ℕ) (g W : List (List ℕ)) → r ≤ 18 → AreVectors f r g → IsHeld f 24 r W → (b : List ℕ) →
    (rest_of f r g W b ≡ zeros 18) ↔ InSpan f r (corner r W) (times_matrix f r g b)
nothing_left f r g W lr hg h b =
    let v = times_matrix f r g b in
    let hv = IsVector-combination f r b g hg in
    let p = pad (24 - r) v in
    let w : r + (24 - r) ≡ 24 = omega arith in
    let hp : IsVector f 24 p = subst (λ k. IsVector f k p) w (IsVector-append f r (24 - r) v (zeros (24 - r)) hv (IsVector-zeros f (24 - r))) in
    let ends : EndsAt 24 r p = λ j low m. ap (λ x. get_or x j 0) (sym (padded_is 24 r v hv.len)) ∙ padded_past 24 v j (let e : length v ≡ r = hv.len in omega arith) m in
    let u = residue f 24 p W in
    let hu = IsVector-residue f 24 p W h.echelon.each hp in
    let u_ends : EndsAt 24 18 u = λ j low m. residue_ends f 24 r p W h.echelon hp h.within ends j (omega arith) m in
    let same = held_span f 24 r W h v hv in (
      (λ none. same.1 (in_span_with_no_residue f 24 p W h.echelon hp
          (ended_is_padded 24 18 u hu.len u_ends ∙ ap (pad 6) none ∙ zeros-append 18 6))),
      (λ q. ap (take 18) (no_residue f 24 p W h.echelon hp (same.0 q)) ∙ take-replicate 18 24 0 (omega arith)),
    )

pub target_is : (b : List ℕ) (t : ℕ) → t ≤ 6 → (b ++ zeros (6 - t)) ++ zeros 18 ≡ b ++ zeros (24 - t)
target_is b t l =
    append_assoc b (zeros (6 - t)) (zeros 18)
    ∙ ap (λ x. b ++ x) (zeros-append (6 - t) 18 ∙ let e : 6 - t + 18 ≡ 24 - t = omega arith in ap zeros e)

-- the turned corner of the eliminated tagged rows is the preimage
pub preimage_decides : (f : Field) (r t : ℕ) (g W E : List (List ℕ)) → t ≤ 6 → r ≤ 18 → length g ≡ t → AreVectors f r g → IsHeld f 24 r W →
    IsEchelon f 24 E → SameRowSpace f 24 (tagged_rows f t g W) E → (b : List ℕ) → IsVector f t b →
    InSpan f t (map reverse (corner t E)) b ↔ InSpan f r (corner r W) (times_matrix f r g b)
preimage_decides f r t g W E lt lr count hg h he same b hb =
    let L = tagged_rows f t g W in
    let l24 : r ≤ 24 = omega arith in
    let hL = tagged_are f r t g W lt l24 count hg h.echelon in
    let hC = IsEchelon-head f 24 t E he (omega arith) in
    let reversed = InSpan-reversed_back f t (corner t E) b hC.each in
    let hr = IsVector-reverse f t b hb in
    let head = InSpan-head f 24 t E he (omega arith) (reverse b) hr in
    let left = nothing_left f r g W lr hg h in
    let target = target_is (reverse b) t lt in (
      (λ p.
          let q = InSpan-within f 24 E L (reverse b ++ zeros (24 - t)) hL same.1 (head.0 (reversed.0 p)) in
          let cs = q.coefficients in
          let hcs : IsVector f t cs = subst (λ k. IsVector f k cs) (length-tagged f t g W) q.each in
          let hcr = IsVector-reverse f t cs hcs in
          let both : (reverse cs ++ zeros (6 - t)) ++ rest_of f r g W cs ≡ (reverse b ++ zeros (6 - t)) ++ zeros 18 =
          sym (tagged-combination f r t g W lt l24 count hg h.echelon cs hcs) ∙ q.sum ∙ sym target in
          let lens : length (reverse cs ++ zeros (6 - t)) ≡ length (reverse b ++ zeros (6 - t)) =
          length-append (reverse cs) (zeros (6 - t)) ∙ ap (λ k. k + length (zeros (6 - t))) (hcr.len ∙ sym hr.len)
          ∙ sym (length-append (reverse b) (zeros (6 - t))) in
          let parts = append_parts (reverse cs ++ zeros (6 - t)) (reverse b ++ zeros (6 - t)) (rest_of f r g W cs) (zeros 18) lens both in
          let tags = append_parts (reverse cs) (reverse b) (zeros (6 - t)) (zeros (6 - t)) (hcr.len ∙ sym hr.len) parts.0 in
          let cs_is : cs ≡ b = sym (reverse-reverse cs) ∙ ap reverse tags.0 ∙ reverse-reverse b in
          subst (λ x. InSpan f r (corner r W) (times_matrix f r g x)) cs_is ((left cs).0 parts.1)),
      (λ p.
          let sum : combination f 24 b L ≡ reverse b ++ zeros (24 - t) =
          tagged-combination f r t g W lt l24 count hg h.echelon b hb
          ∙ ap (λ x. (reverse b ++ zeros (6 - t)) ++ x) ((left b).1 p) ∙ target in
          let q : InSpan f 24 L (reverse b ++ zeros (24 - t)) = record {
            coefficients = b;
            each = subst (λ k. IsVector f k b) (sym (length-tagged f t g W)) hb;
            sum = sum;
          } in
          reversed.1 (head.1 (InSpan-within f 24 L E (reverse b ++ zeros (24 - t)) he.each same.0 q))),
    )

-- what the code's preimage owes
pub preimage_of_corner : (f : Field) (r t : ℕ) (g W E : List (List ℕ)) (key : KeyValue) → t ≤ 6 → r ≤ 18 → length g ≡ t → AreVectors f r g →
    IsHeld f 24 r W → IsEchelon f 24 E → SameRowSpace f 24 (tagged_rows f t g W) E → IsKeyOf f t (map reverse (corner t E)) key →
    IsPreimage (record { f = f; r = r; rows = corner r W }) g t key
unfolding preimage
preimage_of_corner f r t g W E key lt lr count hg h he same k =
    let hC = IsEchelon-head f 24 t E he (omega arith) in
    let R = map reverse (corner t E) in
    let hR = AreVectors-reversed f t (corner t E) hC.each in
    let decides = preimage_decides f r t g W E lt lr count hg h he same in
    let b = reduced_basis_is f t R hR in
    let hcorner = corner_each f 24 r W h in
    let tests = λ (b : List ℕ). is_in_span_decides f r (corner r W) (times_matrix f r g b) hcorner (IsVector-combination f r b g hg) in
    record {
      field = k.field;
      length = k.length;
      each = k.each;
      reduced = ap (reduced_basis f t) k.basis ∙ reduced_basis-twice f t R hR ∙ sym k.basis;
      all = λ b hb. (
        (λ p. (decides b hb).0 (InSpan-within f t key.rows R b hR (subst (λ X. IsWithin f t X R) (sym k.basis) (reduced_basis_is f t R hR).span.1) p)),
        (λ p. InSpan-within f t R key.rows b k.each (subst (λ X. IsWithin f t R X) (sym k.basis) (reduced_basis_is f t R hR).span.0) ((decides b hb).1 p)),
      );
      rows =
          k.basis
          ∙ sym (subspace-of_rows f t (λ b. is_in_span f r (corner r W) (times_matrix f r g b)) R hR
          (λ b hb. ((λ p. (tests b).1 ((decides b hb).0 p)), (λ p. (decides b hb).1 ((tests b).0 p)))));
    }

-- ---- one tagged row in its array

abbrev unit_test : ℕ → ℕ → Bool
unit_test p i = eqb (get_or (set (zeros 24) p 1) i 0) (get_or (unit 6 p) i 0)

pub unit_in_array : (p i : ℕ) → p < 6 → i < 6 → get_or (set (zeros 24) p 1) i 0 ≡ get_or (unit 6 p) i 0
unit_in_array p i lp li = eqb-true _ _ (passes_at2 6 unit_test refl p i lp li)

pub tag_from_entries : (p : ℕ) (x out : List ℕ) → p < 6 → length x ≡ 24 → length out ≡ 24 →
    ((i : ℕ) → i < 6 → get_or out i 0 ≡ get_or (unit 6 p) i 0) → ((i : ℕ) → i < 18 → get_or out (6 + i) 0 ≡ get_or x i 0) →
    out ≡ unit 6 p ++ take 18 x
tag_from_entries p x out lp lx lo front back =
    let lu = unit-length p lp in
    let lt : length (take 18 x) ≡ 18 = length-take-le 18 x (omega arith) in
    let la : length (unit 6 p ++ take 18 x) ≡ 24 = length-append (unit 6 p) (take 18 x) ∙ omega arith in
    ext_get_or 0 out (unit 6 p ++ take 18 x) (lo ∙ sym la)
    (λ i l.
    elim (cases_lt i 6) [
      | inl early ↦ front i early ∙ sym (get_or_append_left (unit 6 p) (take 18 x) 0 i (omega arith))
      | inr late ↦
          let e : 6 + (i - 6) ≡ i = omega arith in
          ap (λ k. get_or out k 0) (sym e)
          ∙ back (i - 6) (omega arith)
          ∙ sym (get_or-append_right (unit 6 p) (take 18 x) 6 i 0 lu late ∙ get_or-take 18 x (i - 6) 0 (omega arith))
    ])
