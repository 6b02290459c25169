-- The normal form of a row beside the tagged rows of g3: it sends zero alone to zero, and b*G3 to the tags of -b.
use Rattle.std.proofs.Common.{ℕ, ◌+◌, ◌-◌, ◌<◌, ◌≤◌, ◌≡◌, ◌↔◌, inl, inr, List, [], ◌++◌, length, map, get_or, take, drop, reverse, refl, sym, ap, ap₂, ◌∙◌, subst, arith, append_assoc, length-append}
use Rattle.std.proofs.lemmas.Bool.{cases_lt}
use Rattle.std.proofs.lemmas.List.{length-replicate, reverse-reverse, take_at, drop_at, get_or-replicate, get_or-append_right}
use Rattle.mm_field.specs.declared.Field.{Field}
use Rattle.mm_field.specs.Digits.{negative, times}
use Rattle.mm_field.specs.Vectors.{zeros, vector_sum, multiple, combination, times_matrix, IsVector, AreVectors, InSpan, AreIndependent, SameRowSpace}
use Rattle.mm_field.proofs.Tables.{times-zero}
use Rattle.mm_field.proofs.VectorLemmas.{multiple-zeros, vector_sum-zeros, zeros-vector_sum, vector_sum_comm, opposite-vector_sum, IsVector-zeros, IsVector-multiple}
use Rattle.mm_field.proofs.CombinationLemmas.{zeros_twice, combination-zeros, combination-zero_rows, IsVector-combination, vector_sum-append, multiple-append, InSpan-within, InSpan-multiple}
use Rattle.mm_field.proofs.PartLemmas.{IsVector-append, append_parts, zeros-append}
use Rattle.mm_linear.specs.Eliminate.{residue}
use Rattle.mm_linear.specs.Echelons.{IsEchelon, entry}
use Rattle.mm_linear.proofs.EchelonLemmas.{zero-times, same_vector, row_at, entry_of_zero_row, combination_entry_zero}
use Rattle.mm_linear.proofs.InsertLemmas.{IsVector-residue, no_residue, in_span_with_no_residue}
use Rattle.mm_linear.proofs.ReducedEchelonLemmas.{reverse-zeros, IsVector-reverse}
use Rattle.mm_linear.proofs.SpaceLemmas.{IsEchelon-zeros}
use Rattle.mm_linear.proofs.SubspaceLemmas.{from_sum, drop_of_end}
use Rattle.mm_field.proofs.CombinationLemmas.{IsWithin-itself}
use Rattle.mm_space.specs.JoinForms.{moved, normal, no_rows}
use Rattle.mm_space.specs.Preimages.{tagged_rows}
use Rattle.mm_space.proofs.FaithfulLemmas.{IsFaithful, span_mapped}
use Rattle.mm_space.proofs.PreimageLemmas.{residue-vector_sum, residue-multiple, residue-zeros, rest_of, length-tagged, tagged_are, tagged-combination, target_is}

-- ---- rows with room before them

pub moved-zeros : (r : ℕ) → r ≤ 18 → moved r (zeros r) ≡ zeros 24
moved-zeros r l =
    let e : r + (18 - r) ≡ 18 = omega arith in
    ap (λ x. zeros 6 ++ x) (zeros-append r (18 - r) ∙ ap zeros e) ∙ zeros-append 6 18

IsVector-late : (f : Field) (r : ℕ) (u : List ℕ) → r ≤ 18 → IsVector f r u → IsVector f 18 (u ++ zeros (18 - r))
IsVector-late f r u l hu =
    let e : r + (18 - r) ≡ 18 = omega arith in
    subst (λ n. IsVector f n (u ++ zeros (18 - r))) e (IsVector-append f r (18 - r) u (zeros (18 - r)) hu (IsVector-zeros f (18 - r)))

pub IsVector-moved : (f : Field) (r : ℕ) (u : List ℕ) → r ≤ 18 → IsVector f r u → IsVector f 24 (moved r u)
IsVector-moved f r u l hu =
    IsVector-append f 6 18 (zeros 6) (u ++ zeros (18 - r)) (IsVector-zeros f 6) (IsVector-late f r u l hu)

moved-sum : (f : Field) (r : ℕ) (u v : List ℕ) → length u ≡ length v →
    moved r (vector_sum f u v) ≡ vector_sum f (moved r u) (moved r v)
moved-sum f r u v e =
    let k = 18 - r in
    sym
    (vector_sum-append f (zeros 6) (u ++ zeros k) (zeros 6) (v ++ zeros k) refl
    ∙ ap₂ (λ x y. x ++ y) (zeros_twice f 6)
    (vector_sum-append f u (zeros k) v (zeros k) e ∙ ap (λ y. vector_sum f u v ++ y) (zeros_twice f k)))

moved-multiple : (f : Field) (r c : ℕ) (u : List ℕ) → moved r (multiple f c u) ≡ multiple f c (moved r u)
moved-multiple f r c u =
    let k = 18 - r in
    sym
    (multiple-append f c (zeros 6) (u ++ zeros k)
    ∙ ap₂ (λ x y. x ++ y) (multiple-zeros f c 6) (multiple-append f c u (zeros k) ∙ ap (λ y. multiple f c u ++ y) (multiple-zeros f c k)))

-- ---- what the tagged rows span

pub residue_none : (f : Field) (x : List ℕ) → IsVector f 24 x → residue f 24 x no_rows ≡ x
residue_none f x hx =
    ap (λ y. vector_sum f x (multiple f (negative f 1) y)) (combination-zero_rows f 24 24 x)
    ∙ ap (vector_sum f x) (multiple-zeros f (negative f 1) 24)
    ∙ vector_sum-zeros f 24 x hx

rest_is : (f : Field) (r : ℕ) (g : List (List ℕ)) (b : List ℕ) → r ≤ 18 → AreVectors f r g →
    rest_of f r g no_rows b ≡ times_matrix f r g b ++ zeros (18 - r)
rest_is f r g b l hg =
    let v = times_matrix f r g b in
    let hv = IsVector-combination f r b g hg in
    let w : r + (24 - r) ≡ 24 = omega arith in
    let s : 18 - r + 6 ≡ 24 - r = omega arith in
    let hp : IsVector f 24 (v ++ zeros (24 - r)) = subst (λ k. IsVector f k (v ++ zeros (24 - r))) w (IsVector-append f r (24 - r) v (zeros (24 - r)) hv (IsVector-zeros f (24 - r))) in
    let len : length (v ++ zeros (18 - r)) ≡ 18 =
    length-append v (zeros (18 - r)) ∙ ap₂ (λ x y. x + y) hv.len (length-replicate (18 - r) 0) ∙ let e : r + (18 - r) ≡ 18 = omega arith in e in
    ap (take 18) (residue_none f (v ++ zeros (24 - r)) hp)
    ∙ ap (λ x. take 18 (v ++ x)) (sym (zeros-append (18 - r) 6 ∙ ap zeros s))
    ∙ ap (take 18) (sym (append_assoc v (zeros (18 - r)) (zeros 6)))
    ∙ take_at (v ++ zeros (18 - r)) (zeros 6) 18 len

-- echelon rows of the tagged rows of g
pub record IsBeside (f : Field) (r : ℕ) (g E : List (List ℕ)) : Type 0 where
  pub narrow : r ≤ 18
  pub few : length g ≤ 6
  pub each : AreVectors f r g
  pub independent : AreIndependent f r g
  pub echelon : IsEchelon f 24 E
  pub span : SameRowSpace f 24 (tagged_rows f (length g) g no_rows) E

record IsTagged (f : Field) (r : ℕ) (g : List (List ℕ)) (x : List ℕ) : Type 0 where
  cs : List ℕ
  vector : IsVector f (length g) cs
  sum : combination f 24 cs (tagged_rows f (length g) g no_rows) ≡ x
  parts : x ≡ (reverse cs ++ zeros (6 - length g)) ++ (times_matrix f r g cs ++ zeros (18 - r))

tagged_vectors : (f : Field) (r : ℕ) (g E : List (List ℕ)) → IsBeside f r g E → AreVectors f 24 (tagged_rows f (length g) g no_rows)
tagged_vectors f r g E h =
    let l = h.narrow in
    tagged_are f r (length g) g no_rows h.few (omega arith) refl h.each (IsEchelon-zeros f 24)

combined : (f : Field) (r : ℕ) (g E : List (List ℕ)) → IsBeside f r g E → (cs : List ℕ) → IsVector f (length g) cs →
    combination f 24 cs (tagged_rows f (length g) g no_rows) ≡ (reverse cs ++ zeros (6 - length g)) ++ (times_matrix f r g cs ++ zeros (18 - r))
combined f r g E h cs hcs =
    let l = h.narrow in
    tagged-combination f r (length g) g no_rows h.few (omega arith) refl h.each (IsEchelon-zeros f 24) cs hcs
    ∙ ap (λ x. (reverse cs ++ zeros (6 - length g)) ++ x) (rest_is f r g cs l h.each)

tagged_of : (f : Field) (r : ℕ) (g E : List (List ℕ)) → IsBeside f r g E → (x : List ℕ) → InSpan f 24 E x → IsTagged f r g x
tagged_of f r g E h x p =
    let q = InSpan-within f 24 E (tagged_rows f (length g) g no_rows) x (tagged_vectors f r g E h) h.span.1 p in
    let hcs : IsVector f (length g) q.coefficients = subst (λ k. IsVector f k q.coefficients) (length-tagged f (length g) g no_rows) q.each in
    record { cs = q.coefficients; vector = hcs; sum = q.sum; parts = sym q.sum ∙ combined f r g E h q.coefficients hcs }

none_combined : (f : Field) (r : ℕ) (g E : List (List ℕ)) → IsBeside f r g E → (x : List ℕ) → (t : IsTagged f r g x) →
    t.cs ≡ zeros (length g) → x ≡ zeros 24
none_combined f r g E h x t e =
    sym t.sum ∙ ap (λ cs. combination f 24 cs (tagged_rows f (length g) g no_rows)) e
    ∙ combination-zeros f 24 (length g) (tagged_rows f (length g) g no_rows) (tagged_vectors f r g E h)

tag_length : (f : Field) (t : ℕ) (b : List ℕ) → t ≤ 6 → IsVector f t b → length (reverse b ++ zeros (6 - t)) ≡ 6
tag_length f t b l hb =
    length-append (reverse b) (zeros (6 - t)) ∙ ap₂ (λ x y. x + y) (IsVector-reverse f t b hb).len (length-replicate (6 - t) 0)
    ∙ let e : t + (6 - t) ≡ 6 = omega arith in e

-- where no digits but tags are left, nothing is
early_is_zero : (f : Field) (r : ℕ) (g E : List (List ℕ)) → IsBeside f r g E → (x : List ℕ) → InSpan f 24 E x → drop 6 x ≡ zeros 18 → x ≡ zeros 24
early_is_zero f r g E h x p e =
    let l = h.narrow in
    let t = tagged_of f r g E h x p in
    let A = reverse t.cs ++ zeros (6 - length g) in
    let B = times_matrix f r g t.cs ++ zeros (18 - r) in
    let back : B ≡ zeros 18 = sym (ap (drop 6) t.parts ∙ drop_at A B 6 (tag_length f (length g) t.cs h.few t.vector)) ∙ e in
    let w : r + (18 - r) ≡ 18 = omega arith in
    let hv = IsVector-combination f r t.cs g h.each in
    let none = (append_parts (times_matrix f r g t.cs) (zeros r) (zeros (18 - r)) (zeros (18 - r)) (hv.len ∙ sym (length-replicate r 0))
    (back ∙ sym (zeros-append r (18 - r) ∙ ap zeros w))).0 in
    none_combined f r g E h x t (h.independent t.cs t.vector none)

normal_apart : (f : Field) (r : ℕ) (g E : List (List ℕ)) → IsBeside f r g E → (u : List ℕ) → IsVector f r u → normal f r E u ≡ zeros 24 → u ≡ zeros r
normal_apart f r g E h u hu e =
    let l = h.narrow in
    let few = h.few in
    let hm = IsVector-moved f r u l hu in
    let t = tagged_of f r g E h (moved r u) (in_span_with_no_residue f 24 (moved r u) E h.echelon hm e) in
    let n = length g in
    let A = reverse t.cs ++ zeros (6 - n) in
    let B = times_matrix f r g t.cs ++ zeros (18 - r) in
    let w : n + (6 - n) ≡ 6 = omega arith in
    let front = (append_parts (zeros 6) A (u ++ zeros (18 - r)) B (sym (tag_length f n t.cs few t.vector)) t.parts).0 in
    let hr = IsVector-reverse f n t.cs t.vector in
    let tags = (append_parts (reverse t.cs) (zeros n) (zeros (6 - n)) (zeros (6 - n)) (hr.len ∙ sym (length-replicate n 0))
    (sym front ∙ sym (zeros-append n (6 - n) ∙ ap zeros w))).0 in
    let none = none_combined f r g E h (moved r u) t (sym (reverse-reverse t.cs) ∙ ap reverse tags ∙ reverse-zeros n) in
    let back = (append_parts (zeros 6) (zeros 6) (u ++ zeros (18 - r)) (zeros r ++ zeros (18 - r)) refl (none ∙ sym (moved-zeros r l))).1 in
    (append_parts u (zeros r) (zeros (18 - r)) (zeros (18 - r)) (hu.len ∙ sym (length-replicate r 0)) back).0

pub normal_is_faithful : (f : Field) (r : ℕ) (g E : List (List ℕ)) → IsBeside f r g E → IsFaithful f r 24 (normal f r E)
normal_is_faithful f r g E h = record {
  linear = record {
    vectors = λ u hu. IsVector-residue f 24 (moved r u) E h.echelon.each (IsVector-moved f r u h.narrow hu);
    sums = λ u v hu hv.
        ap (λ x. residue f 24 x E) (moved-sum f r u v (hu.len ∙ sym hv.len))
        ∙ residue-vector_sum f 24 (moved r u) (moved r v) E ((IsVector-moved f r u h.narrow hu).len ∙ sym (IsVector-moved f r v h.narrow hv).len);
    multiples = λ c u hu. ap (λ x. residue f 24 x E) (moved-multiple f r c u) ∙ residue-multiple f 24 c (moved r u) E;
    zero_kept = ap (λ x. residue f 24 x E) (moved-zeros r h.narrow) ∙ residue-zeros f 24 E h.echelon.each;
  };
  apart = normal_apart f r g E h;
}

-- ---- b*G3 in its normal form

tag_stays : (f : Field) (r : ℕ) (g E : List (List ℕ)) → IsBeside f r g E → (A : List ℕ) → IsVector f 6 A →
    residue f 24 (A ++ zeros 18) E ≡ A ++ zeros 18
tag_stays f r g E h A hA =
    let x = A ++ zeros 18 in
    let hx = IsVector-append f 6 18 A (zeros 18) hA (IsVector-zeros f 18) in
    let he = h.echelon in
    let none : combination f 24 x E ≡ zeros 24 =
    same_vector f 24 (combination f 24 x E) (zeros 24) (IsVector-combination f 24 x E he.each) (IsVector-zeros f 24)
    (λ j lj.
    combination_entry_zero f 24 x E j he.each lj
    (λ i li.
    let c : length E ≡ 24 = he.count in
    let ni : i < 24 = omega arith in
    elim (cases_lt i 6) [
      | inl early ↦
          let row = get_or E i [] in
          let zero_row = early_is_zero f r g E h row (IsWithin-itself f 24 E he.each i [] li)
          (drop_of_end 24 6 row (row_at f 24 E he i ni).len (λ k low m. he.after i k (omega arith) m)) in
          ap (times f (get_or x i 0)) (entry_of_zero_row 24 E i j lj zero_row) ∙ times-zero f (get_or x i 0)
      | inr late ↦
          ap (λ a. times f a (entry E i j)) (get_or-append_right A (zeros 18) 6 i 0 hA.len late ∙ get_or-replicate 18 (i - 6) 0 0 (omega arith))
          ∙ zero-times f (entry E i j)
    ])
    ∙ sym (get_or-replicate 24 j 0 0 lj)) in
    ap (λ y. vector_sum f x (multiple f (negative f 1) y)) none
    ∙ ap (vector_sum f x) (multiple-zeros f (negative f 1) 24)
    ∙ vector_sum-zeros f 24 x hx

pub normal_of_third : (f : Field) (r : ℕ) (g E : List (List ℕ)) → IsBeside f r g E → (b : List ℕ) → IsVector f (length g) b →
    normal f r E (times_matrix f r g b) ≡ multiple f (negative f 1) (reverse b ++ zeros (24 - length g))
normal_of_third f r g E h b hb =
    let n = length g in
    let few = h.few in
    let A = reverse b ++ zeros (6 - n) in
    let w : n + (6 - n) ≡ 6 = omega arith in
    let hA : IsVector f 6 A = subst (λ k. IsVector f k A) w (IsVector-append f n (6 - n) (reverse b) (zeros (6 - n)) (IsVector-reverse f n b hb) (IsVector-zeros f (6 - n))) in
    let tag = A ++ zeros 18 in
    let htag = IsVector-append f 6 18 A (zeros 18) hA (IsVector-zeros f 18) in
    let z = times_matrix f r g b in
    let hz = IsVector-combination f r b g h.each in
    let v = moved r z in
    let hv = IsVector-moved f r z h.narrow hz in
    let B = z ++ zeros (18 - r) in
    let hB = IsVector-late f r z h.narrow hz in
    let T = tagged_rows f n g no_rows in
    let q = combination f 24 b T in
    let q_is : q ≡ vector_sum f tag v =
    combined f r g E h b hb
    ∙ sym (vector_sum-append f A (zeros 18) (zeros 6) B hA.len
    ∙ ap₂ (λ x y. x ++ y) (vector_sum-zeros f 6 A hA) (zeros-vector_sum f 18 B hB)) in
    let hq = IsVector-combination f 24 b T (tagged_vectors f r g E h) in
    let inside = InSpan-within f 24 T E q h.echelon.each h.span.0
    (record { coefficients = b; each = subst (λ k. IsVector f k b) (sym (length-tagged f n g no_rows)) hb; sum = refl }) in
    let rest = residue f 24 v E in
    let hrest = IsVector-residue f 24 v E h.echelon.each hv in
    let gone : vector_sum f rest tag ≡ zeros 24 =
    vector_sum_comm f rest tag
    ∙ ap (λ x. vector_sum f x rest) (sym (tag_stays f r g E h A hA))
    ∙ sym (residue-vector_sum f 24 tag v E (htag.len ∙ sym hv.len))
    ∙ ap (λ x. residue f 24 x E) (sym q_is)
    ∙ no_residue f 24 q E h.echelon hq inside in
    sym (from_sum f 24 rest tag (zeros 24) hrest htag gone)
    ∙ zeros-vector_sum f 24 (multiple f (negative f 1) tag) (IsVector-multiple f 24 (negative f 1) tag htag.len)
    ∙ ap (multiple f (negative f 1)) (target_is (reverse b) n few)

twice_opposite : (f : Field) (n : ℕ) (x : List ℕ) → IsVector f n x → multiple f (negative f 1) (multiple f (negative f 1) x) ≡ x
twice_opposite f n x hx =
    let m = multiple f (negative f 1) x in
    let hm = IsVector-multiple f n (negative f 1) x hx.len in
    sym (zeros-vector_sum f n (multiple f (negative f 1) m) (IsVector-multiple f n (negative f 1) m hm.len))
    ∙ from_sum f n x m (zeros n) hx hm (opposite-vector_sum f x ∙ ap zeros hx.len)

-- b turned round, with zeros after it, is in the span of rows in their normal form exactly where b*G3 is in that of the rows
pub third_decides : (f : Field) (r : ℕ) (g E : List (List ℕ)) → IsBeside f r g E → (rows : List (List ℕ)) → AreVectors f r rows →
    (b : List ℕ) → IsVector f (length g) b →
    InSpan f 24 (map (normal f r E) rows) (reverse b ++ zeros (24 - length g)) ↔ InSpan f r rows (times_matrix f r g b)
third_decides f r g E h rows hr b hb =
    let few = h.few in
    let n = length g in
    let z = times_matrix f r g b in
    let hz = IsVector-combination f r b g h.each in
    let x = reverse b ++ zeros (24 - n) in
    let w : n + (24 - n) ≡ 24 = omega arith in
    let hx : IsVector f 24 x = subst (λ k. IsVector f k x) w (IsVector-append f n (24 - n) (reverse b) (zeros (24 - n)) (IsVector-reverse f n b hb) (IsVector-zeros f (24 - n))) in
    let M = map (normal f r E) rows in
    let both = span_mapped f r 24 (normal f r E) (normal_is_faithful f r g E h) rows hr z hz in
    let e = normal_of_third f r g E h b hb in (
      (λ p. both.0 (subst (λ y. InSpan f 24 M y) (sym e) (InSpan-multiple f 24 (negative f 1) M x p))),
      (λ p. subst (λ y. InSpan f 24 M y) (ap (multiple f (negative f 1)) e ∙ twice_opposite f 24 x hx)
          (InSpan-multiple f 24 (negative f 1) M (normal f r E z) (both.1 p))),
    )
