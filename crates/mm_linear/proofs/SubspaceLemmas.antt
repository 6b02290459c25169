-- Heads, padding, equality and meets of subspaces.
use Rattle.std.proofs.Common.{ℕ, suc, ◌+◌, ◌-◌, ◌<◌, ◌≤◌, ◌≡◌, ◌↔◌, inl, inr, List, [], ◌∷◌, ◌++◌, length, map, get_or, take, drop, refl, sym, ap, ap₂, ◌∙◌, subst, arith, length-drop, take-append-drop}
use Rattle.std.proofs.lemmas.Bool.{cases_eq}
use Rattle.std.proofs.lemmas.List.{length-map, length-take-le, get_or-take, get_or-drop}
use Rattle.std.proofs.lemmas.List.Elements.{All-take, All-drop, All-from_get_or}
use Rattle.mm_field.specs.declared.Field.{Field}
use Rattle.mm_field.specs.Digits.{order, times, negative, inverse}
use Rattle.mm_field.specs.Vectors.{zeros, vector_sum, multiple, combination, IsVector, AreVectors, InSpan, IsWithin}
use Rattle.mm_field.proofs.Tables.{times-zero, times_comm, times-inverse}
use Rattle.mm_field.proofs.VectorLemmas.{vector_sum_assoc, vector_sum-zeros, zeros-vector_sum, opposite-vector_sum, multiple-zeros, zero-multiple, one-multiple, multiple-times, zeros_from_entries, IsVector-multiple}
use Rattle.mm_field.proofs.CombinationLemmas.{zeros_twice, InSpan-first, combination-append, combination-zeros, IsVector-combination, IsWithin-itself, InSpan-within, InSpan-vector_sum, InSpan-multiple, InSpan-one_more, vector_sum-append, multiple-append}
use Rattle.mm_field.proofs.PartLemmas.{combination-map, zeros-append, append_parts}
use Rattle.mm_linear.specs.Echelons.{entry, IsEchelon, ZeroFrom, EndsAt}
use Rattle.mm_linear.specs.Padded.{padded}
use Rattle.mm_linear.specs.Sums.{InSum, MeetTrivially, MeetNontrivially}
use Rattle.mm_linear.proofs.EchelonLemmas.{combination_entry_zero, span_is_fixed, echelon_unique, zero_not_one}

pub drop_of_end : (n c : ℕ) (v : List ℕ) → length v ≡ n → EndsAt n c v → drop c v ≡ zeros (n - c)
drop_of_end n c v e h =
    let l : length (drop c v) ≡ n - c = length-drop c v ∙ ap (λ x. x - c) e in
    zeros_from_entries (drop c v) (λ k lk. get_or-drop c v k 0 ∙ h (c + k) (omega arith) (omega arith)) ∙ ap zeros l

-- What is in the span and ends at c is in the span of the first c rows.
pub front_span : (f : Field) (n c : ℕ) (rows : List (List ℕ)) → IsEchelon f n rows → c ≤ n → (v : List ℕ) → IsVector f n v →
    EndsAt n c v → InSpan f n rows v → InSpan f n (take c rows) v
front_span f n c rows h l v hv e p =
    let lr : length rows ≡ n = h.count in
    let lv : length v ≡ n = hv.len in
    let lt : length (take c v) ≡ c = length-take-le c v (omega arith) in
    let lq : length (take c rows) ≡ c = length-take-le c rows (omega arith) in
    let hd = All-drop (λ u. IsVector f n u) c rows h.each in
    let ht = All-take (λ u. IsVector f n u) c rows h.each in
    record {
      coefficients = take c v;
      each = record { len = lt ∙ sym lq; digits = All-take (λ d. d < order f) c v hv.digits };
      sum =
          sym (vector_sum-zeros f n (combination f n (take c v) (take c rows)) (IsVector-combination f n (take c v) (take c rows) ht))
          ∙ ap (λ x. vector_sum f (combination f n (take c v) (take c rows)) x)
          (sym (combination-zeros f n (n - c) (drop c rows) hd)
          ∙ ap (λ x. combination f n x (drop c rows)) (sym (drop_of_end n c v lv e)))
          ∙ sym (combination-append f n (take c v) (drop c v) (take c rows) (drop c rows) (lt ∙ sym lq) hd)
          ∙ ap₂ (λ x y. combination f n x y) (take-append-drop c v) (take-append-drop c rows)
          ∙ span_is_fixed f n rows h v p;
    }

-- The span of the first c rows is in the span, and its vectors end at c.
pub span_of_front : (f : Field) (n c : ℕ) (rows : List (List ℕ)) → IsEchelon f n rows → (v : List ℕ) →
    InSpan f n (take c rows) v → InSpan f n rows v
span_of_front f n c rows h v p =
    InSpan-within f n (take c rows) rows v h.each
    (All-take (λ u. InSpan f n rows u) c rows (IsWithin-itself f n rows h.each)) p

pub span_of_front_ends : (f : Field) (n c : ℕ) (rows : List (List ℕ)) → IsEchelon f n rows → c ≤ n → (v : List ℕ) →
    InSpan f n (take c rows) v → EndsAt n c v
span_of_front_ends f n c rows h l v p j lj mj =
    let lr : length rows ≡ n = h.count in
    let lq : length (take c rows) ≡ c = length-take-le c rows (omega arith) in
    ap (λ u. get_or u j 0) (sym p.sum)
    ∙ combination_entry_zero f n p.coefficients (take c rows) j (All-take (λ u. IsVector f n u) c rows h.each) mj
    (λ i li.
    let li' : i < c = omega arith in
    ap (times f (get_or p.coefficients i 0))
    (ap (λ r. get_or r j 0) (get_or-take c rows i [] li') ∙ h.after i j (omega arith) mj)
    ∙ times-zero f (get_or p.coefficients i 0))

-- Padding.
abbrev pub pad : ℕ → List ℕ → List ℕ
pad k v = v ++ zeros k

pub combination-pad : (f : Field) (t k : ℕ) (cs : List ℕ) (rows : List (List ℕ)) → AreVectors f t rows →
    combination f (t + k) cs (map (pad k) rows) ≡ pad k (combination f t cs rows)
combination-pad f t k cs rows h =
    combination-map f t (t + k) (pad k)
    (λ u v hu hv.
    ap (λ x. vector_sum f u v ++ x) (sym (zeros_twice f k))
    ∙ sym (vector_sum-append f u (zeros k) v (zeros k) (hu.len ∙ sym hv.len)))
    (λ c u hu. ap (λ x. multiple f c u ++ x) (sym (multiple-zeros f c k)) ∙ sym (multiple-append f c u (zeros k)))
    (zeros-append t k) cs rows h

pub InSpan-pad : (f : Field) (t k : ℕ) (rows : List (List ℕ)) (v : List ℕ) → AreVectors f t rows → IsVector f t v →
    InSpan f t rows v ↔ InSpan f (t + k) (map (pad k) rows) (pad k v)
InSpan-pad f t k rows v h hv = (
  (λ p. record {
    coefficients = p.coefficients;
    each = record { len = p.each.len ∙ sym (length-map rows (pad k)); digits = p.each.digits };
    sum = combination-pad f t k p.coefficients rows h ∙ ap (pad k) p.sum;
  }),
  (λ p. record {
    coefficients = p.coefficients;
    each = record { len = p.each.len ∙ length-map rows (pad k); digits = p.each.digits };
    sum =
        (append_parts (combination f t p.coefficients rows) v (zeros k) (zeros k)
        ((IsVector-combination f t p.coefficients rows h).len ∙ sym hv.len)
        (sym (combination-pad f t k p.coefficients rows h) ∙ p.sum)).0;
  }),
)

-- Two spaces with the same vectors are the same rows.
row_is_padded : (f : Field) (n r : ℕ) (v : List ℕ) → r ≤ n → IsVector f n v → EndsAt n r v → padded n (take r v) ≡ v
row_is_padded f n r v l hv e =
    let lv : length v ≡ n = hv.len in
    let lt : length (take r v) ≡ r = length-take-le r v (omega arith) in
    ap (λ x. take r v ++ zeros (n - x)) lt
    ∙ ap (λ x. take r v ++ x) (sym (drop_of_end n r v lv e))
    ∙ take-append-drop r v

within_by_vectors : (f : Field) (n r : ℕ) (A B : List (List ℕ)) → r ≤ n → IsEchelon f n A → ZeroFrom n r A →
    ((v : List ℕ) → IsVector f r v → InSpan f n A (padded n v) → InSpan f n B (padded n v)) → IsWithin f n A B
within_by_vectors f n r A B l a z h =
    All-from_get_or (λ v. InSpan f n B v) A []
    (λ i li.
    let la : length A ≡ n = a.count in
    let li' : i < n = omega arith in
    let v = get_or A i [] in
    let hv = a.each i [] li in
    let lv : length v ≡ n = hv.len in
    let e = row_is_padded f n r v l hv (λ j lj mj. z i j li' lj mj) in
    subst (λ u. InSpan f n B u) e
    (h (take r v)
    (record { len = length-take-le r v (omega arith); digits = All-take (λ d. d < order f) r v hv.digits })
    (subst (λ u. InSpan f n A u) (sym e) (IsWithin-itself f n A a.each i [] li))))

pub equal_by_vectors : (f : Field) (n r : ℕ) (A B : List (List ℕ)) → r ≤ n → IsEchelon f n A → IsEchelon f n B →
    ZeroFrom n r A → ZeroFrom n r B →
    ((v : List ℕ) → IsVector f r v → InSpan f n A (padded n v) ↔ InSpan f n B (padded n v)) → A ≡ B
equal_by_vectors f n r A B l a b za zb h =
    echelon_unique f n A B a b (
      within_by_vectors f n r A B l a za (λ v hv. (h v hv).0),
      within_by_vectors f n r B A l b zb (λ v hv. (h v hv).1),
    )

-- Meets.
pub record Split (f : Field) (n : ℕ) (b : List ℕ) (S : List (List ℕ)) (z : List ℕ) : Type 0 where
  pub factor : ℕ
  pub digit : factor < order f
  pub rest : List ℕ
  pub in_rest : InSpan f n S rest
  pub sum : vector_sum f (multiple f factor b) rest ≡ z

-- what is in the span of b and S is a multiple of b plus something of S
pub split_first : (f : Field) (n : ℕ) (b : List ℕ) (S : List (List ℕ)) (z : List ℕ) → InSpan f n (b ∷ S) z → Split f n b S z
split_first f n b S z p = go p.coefficients p.each p.sum
  where
    go : (cs : List ℕ) → IsVector f (suc (length S)) cs → combination f n cs (b ∷ S) ≡ z → Split f n b S z
    go [] h e = absurd (let a = h.len in omega arith)
    go (c ∷ cs) h e = record {
      factor = c;
      digit = h.digits 0 0 (omega arith);
      rest = combination f n cs S;
      in_rest = record {
        coefficients = cs;
        each = record {
          len = (let a = h.len in omega arith);
          digits = λ k d l. h.digits (suc k) d (omega arith);
        };
        sum = refl;
      };
      sum = e;
    }

-- u + w = z gives u = z - w
pub from_sum : (f : Field) (n : ℕ) (u w z : List ℕ) → IsVector f n u → IsVector f n w → vector_sum f u w ≡ z →
    vector_sum f z (multiple f (negative f 1) w) ≡ u
from_sum f n u w z hu hw e =
    ap (λ x. vector_sum f x (multiple f (negative f 1) w)) (sym e)
    ∙ vector_sum_assoc f u w (multiple f (negative f 1) w)
    ∙ ap (λ x. vector_sum f u x) (opposite-vector_sum f w ∙ ap zeros hw.len)
    ∙ vector_sum-zeros f n u hu

pub IsVector-in_span : (f : Field) (n : ℕ) (rows : List (List ℕ)) (v : List ℕ) → AreVectors f n rows → InSpan f n rows v → IsVector f n v
IsVector-in_span f n rows v h p = subst (λ x. IsVector f n x) p.sum (IsVector-combination f n p.coefficients rows h)

-- where the part along b is zero, the rest is all
pub rest_is_all : (f : Field) (n : ℕ) (b : List ℕ) (S : List (List ℕ)) (z : List ℕ) → AreVectors f n S → (s : Split f n b S z) →
    multiple f s.factor b ≡ zeros n → s.rest ≡ z
rest_is_all f n b S z hs s e =
    sym (zeros-vector_sum f n s.rest (IsVector-in_span f n S s.rest hs s.in_rest)) ∙ ap (λ x. vector_sum f x s.rest) (sym e) ∙ s.sum

-- Where b is outside the span of A and S, b and S meet A in zero alone if S does.
pub meet_more : (f : Field) (n : ℕ) (A S E : List (List ℕ)) (b : List ℕ) → AreVectors f n A → AreVectors f n S → AreVectors f n E →
    IsVector f n b → IsWithin f n A E → IsWithin f n S E → (InSpan f n E b → ⊥) → MeetTrivially n (InSpan f n A) (InSpan f n S) → MeetTrivially n (InSpan f n A) (InSpan f n (b ∷ S))
meet_more f n A S E b ha hs he hb wa ws out meet z p q =
    let s = split_first f n b S z q in
    let hrest = IsVector-in_span f n S s.rest hs s.in_rest in
    elim (cases_eq s.factor 0) [
      | inl e ↦
          let z_is = rest_is_all f n b S z hs s (ap (λ c. multiple f c b) e ∙ zero-multiple f b ∙ ap zeros hb.len) in
          meet z p (subst (λ x. InSpan f n S x) z_is s.in_rest)
      | inr ne ↦
          let cb = from_sum f n (multiple f s.factor b) s.rest z (IsVector-multiple f n s.factor b hb.len) hrest s.sum in
          let b_is : multiple f (inverse f s.factor) (vector_sum f z (multiple f (negative f 1) s.rest)) ≡ b =
          ap (multiple f (inverse f s.factor)) cb
          ∙ sym (multiple-times f (inverse f s.factor) s.factor b)
          ∙ ap (λ c. multiple f c b) (times_comm f (inverse f s.factor) s.factor ∙ times-inverse f s.factor s.digit ne)
          ∙ one-multiple f b hb.digits in
          absurd (out (subst (λ x. InSpan f n E x) b_is
          (InSpan-multiple f n (inverse f s.factor) E (vector_sum f z (multiple f (negative f 1) s.rest))
          (InSpan-vector_sum f n E z (multiple f (negative f 1) s.rest)
          (InSpan-within f n A E z he wa p)
          (InSpan-multiple f n (negative f 1) E s.rest (InSpan-within f n S E s.rest he ws s.in_rest))))))
    ]

-- Where b is in the sum of the spans of A and S and not in that of S, its part along A is other than zero and in both spans.
pub common_of_sum : (f : Field) (n : ℕ) (A S : List (List ℕ)) (b : List ℕ) → AreVectors f n A → AreVectors f n S → IsVector f n b →
    InSum f (InSpan f n A) (InSpan f n S) b → (InSpan f n S b → ⊥) → MeetNontrivially n (InSpan f n A) (InSpan f n (b ∷ S))
common_of_sum f n A S b ha hs hb s out =
    let hone = IsVector-in_span f n A s.one ha s.in_first in
    let hother = IsVector-in_span f n S s.other hs s.in_second in
    let one_is = from_sum f n s.one s.other b hone hother s.sum in
    record {
      common = s.one;
      in_first = s.in_first;
      in_second =
          subst (λ x. InSpan f n (b ∷ S) x) one_is
          (InSpan-vector_sum f n (b ∷ S) b (multiple f (negative f 1) s.other)
          (InSpan-first f n b S hb hs)
          (InSpan-multiple f n (negative f 1) (b ∷ S) s.other (InSpan-one_more f n b S s.other hb hs s.in_second)));
      nonzero = λ zero.
          out (subst (λ x. InSpan f n S x)
          (sym (zeros-vector_sum f n s.other hother) ∙ ap (λ x. vector_sum f x s.other) (sym zero) ∙ s.sum) s.in_second);
    }

pub meet_fails : (f : Field) (n : ℕ) (A S : List (List ℕ)) (b : List ℕ) → AreVectors f n A → AreVectors f n S → IsVector f n b →
    InSum f (InSpan f n A) (InSpan f n S) b → (InSpan f n S b → ⊥) → MeetTrivially n (InSpan f n A) (InSpan f n (b ∷ S)) → ⊥
meet_fails f n A S b ha hs hb s out meet =
    let w = common_of_sum f n A S b ha hs hb s out in w.nonzero (meet w.common w.in_first w.in_second)

-- a row that ends at i is outside the span of the rows after it
pub outside_later : (f : Field) (n : ℕ) (rows : List (List ℕ)) → IsEchelon f n rows → (i : ℕ) → i < n → entry rows i i ≡ 1 →
    InSpan f n (drop (i + 1) rows) (get_or rows i []) → ⊥
outside_later f n rows h i l one p =
    let lr : length rows ≡ n = h.count in
    zero_not_one (entry rows i i)
    (ap (λ u. get_or u i 0) (sym p.sum)
    ∙ combination_entry_zero f n p.coefficients (drop (i + 1) rows) i (All-drop (λ u. IsVector f n u) (i + 1) rows h.each) l
    (λ k lk.
    let ld : length (drop (i + 1) rows) ≡ n - (i + 1) = length-drop (i + 1) rows ∙ ap (λ x. x - (i + 1)) lr in
    ap (times f (get_or p.coefficients k 0))
    (ap (λ r. get_or r i 0) (get_or-drop (i + 1) rows k [])
    ∙ h.clear (i + 1 + k) i (omega arith) l (λ e. absurd (omega arith)) one)
    ∙ times-zero f (get_or p.coefficients k 0)))
    one
