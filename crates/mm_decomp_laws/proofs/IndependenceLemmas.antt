-- Independent rows side by side, and the vectors that the columns of a join are coordinates in.
use Rattle.std.proofs.Common.{ℕ, ◌+◌, ◌≡◌, List, ◌++◌, length, take, drop, refl, sym, ap, ap₂, subst, ◌∙◌, length-append, take-append-drop}
use Rattle.std.proofs.lemmas.List.{length-replicate}
use Rattle.std.proofs.lemmas.List.Elements.{All-append}
use Rattle.mm_field.specs.declared.Field.{Field}
use Rattle.mm_field.specs.Digits.{negative}
use Rattle.mm_field.specs.Vectors.{zeros, vector_sum, multiple, combination, IsVector, AreVectors, InSpan, AreIndependent, IsWithin}
use Rattle.mm_field.proofs.VectorLemmas.{vector_sum_comm, vector_sum_assoc, vector_sum-zeros, zeros-vector_sum, opposite-vector_sum, IsVector-zeros, IsVector-vector_sum, IsVector-multiple}
use Rattle.mm_field.proofs.CombinationLemmas.{combination-append, combination-multiple, combination-zeros, IsVector-combination, zeros_twice, InSpan-vector_sum, InSpan-multiple, InSpan-zeros, InSpan-within}
use Rattle.mm_linear.proofs.SpanLemmas.{InSum-from_append, append_from_InSum}
use Rattle.mm_decomp.proofs.CutLemmas.{opposite}
use Rattle.mm_field.proofs.PartLemmas.{IsVector-take, IsVector-drop, IsVector-append, zeros-append, append_parts}

-- rows of which every combination that is also one of the others is zero are independent together
pub independent_beside : (f : Field) (n : ℕ) (A B : List (List ℕ)) → AreVectors f n A → AreVectors f n B → AreIndependent f n A → AreIndependent f n B →
    ((v : List ℕ) → InSpan f n A v → InSpan f n B v → v ≡ zeros n) → AreIndependent f n (A ++ B)
independent_beside f n A B hA hB iA iB apart cs each e =
    let a = length A in
    let b = length B in
    let hc : IsVector f (a + b) cs = record { len = each.len ∙ length-append A B; digits = each.digits } in
    let x = take a cs in
    let y = drop a cs in
    let hx = IsVector-take f a b cs hc in
    let hy = IsVector-drop f a b cs hc in
    let u = combination f n x A in
    let w = combination f n y B in
    let hu = IsVector-combination f n x A hA in
    let hw = IsVector-combination f n y B hB in
    let z : vector_sum f u w ≡ zeros n =
    sym (combination-append f n x y A B hx.len hB) ∙ ap (λ c. combination f n c (A ++ B)) (take-append-drop a cs) ∙ e in
    let inB : InSpan f n B u = subst (λ v. InSpan f n B v) (opposite f n u w hu hw z) (InSpan-multiple f n (negative f 1) B w (record { coefficients = y; each = hy; sum = refl })) in
    let uz : u ≡ zeros n = apart u (record { coefficients = x; each = hx; sum = refl }) inB in
    let wz : w ≡ zeros n = sym (zeros-vector_sum f n w hw) ∙ ap (λ v. vector_sum f v w) (sym uz) ∙ z in
    sym (take-append-drop a cs) ∙ ap₂ (λ s t. s ++ t) (iA x hx uz) (iB y hy wz) ∙ zeros-append a b ∙ ap zeros (sym (length-append A B))

-- in independent rows the spans of two parts have zero alone in common
pub apart : (f : Field) (n : ℕ) (A B : List (List ℕ)) → AreVectors f n A → AreVectors f n B → AreIndependent f n (A ++ B) →
    (v : List ℕ) → InSpan f n A v → InSpan f n B v → v ≡ zeros n
apart f n A B hA hB ind v p q =
    let a = length A in
    let b = length B in
    let x = p.coefficients in
    let y = multiple f (negative f 1) q.coefficients in
    let hy : IsVector f b y = IsVector-multiple f b (negative f 1) q.coefficients q.each.len in
    let hv : IsVector f n v = subst (λ u. IsVector f n u) p.sum (IsVector-combination f n x A hA) in
    let sum : combination f n (x ++ y) (A ++ B) ≡ zeros n =
    combination-append f n x y A B p.each.len hB
    ∙ ap₂ (λ s t. vector_sum f s t) p.sum (combination-multiple f n (negative f 1) q.coefficients B ∙ ap (multiple f (negative f 1)) q.sum)
    ∙ opposite-vector_sum f v ∙ ap zeros hv.len in
    let all : x ++ y ≡ zeros (length (A ++ B)) =
    ind (x ++ y) (subst (λ k. IsVector f k (x ++ y)) (sym (length-append A B)) (IsVector-append f a b x y p.each hy)) sum in
    let parts = append_parts x (zeros a) y (zeros b) (p.each.len ∙ sym (length-replicate a 0)) (all ∙ ap zeros (length-append A B) ∙ sym (zeros-append a b)) in
    sym p.sum ∙ ap (λ c. combination f n c A) parts.0 ∙ combination-zeros f n a A hA

-- (e + s) with e = t - s is t
pub again : (f : Field) (n : ℕ) (t s : List ℕ) → IsVector f n t → IsVector f n s → vector_sum f (vector_sum f t (multiple f (negative f 1) s)) s ≡ t
again f n t s ht hs =
    vector_sum_assoc f t (multiple f (negative f 1) s) s
    ∙ ap (vector_sum f t) (vector_sum_comm f (multiple f (negative f 1) s) s ∙ opposite-vector_sum f s ∙ ap zeros hs.len)
    ∙ vector_sum-zeros f n t ht

-- s - (s - t) is t
pub back : (f : Field) (n : ℕ) (s t : List ℕ) → IsVector f n s → IsVector f n t →
    vector_sum f s (multiple f (negative f 1) (vector_sum f s (multiple f (negative f 1) t))) ≡ t
back f n s t hs ht =
    let m = negative f 1 in
    let d = vector_sum f s (multiple f m t) in
    let hd = IsVector-vector_sum f n s (multiple f m t) hs.len (IsVector-multiple f n m t ht.len).len in
    ap (λ u. vector_sum f u (multiple f m d)) (sym (again f n s t hs ht) ∙ vector_sum_comm f d t)
    ∙ vector_sum_assoc f t d (multiple f m d)
    ∙ ap (vector_sum f t) (opposite-vector_sum f d ∙ ap zeros hd.len)
    ∙ vector_sum-zeros f n t ht

pub difference : (f : Field) (n : ℕ) (a b c d : List ℕ) → IsVector f n a → IsVector f n b → IsVector f n c → IsVector f n d →
    vector_sum f a b ≡ vector_sum f c d → vector_sum f a (multiple f (negative f 1) c) ≡ vector_sum f d (multiple f (negative f 1) b)
difference f n a b c d ha hb hc hd e =
    let m = negative f 1 in
    let mb = multiple f m b in
    let mc = multiple f m c in
    let hmb = IsVector-multiple f n m b hb.len in
    let hmc = IsVector-multiple f n m c hc.len in
    let a_is : vector_sum f (vector_sum f c d) mb ≡ a =
    ap (λ u. vector_sum f u mb) (sym e) ∙ vector_sum_assoc f a b mb ∙ ap (vector_sum f a) (opposite-vector_sum f b ∙ ap zeros hb.len) ∙ vector_sum-zeros f n a ha in
    ap (λ u. vector_sum f u mc) (sym a_is ∙ vector_sum_assoc f c d mb ∙ vector_sum_comm f c (vector_sum f d mb))
    ∙ vector_sum_assoc f (vector_sum f d mb) c mc
    ∙ ap (vector_sum f (vector_sum f d mb)) (opposite-vector_sum f c ∙ ap zeros hc.len)
    ∙ vector_sum-zeros f n (vector_sum f d mb) (IsVector-vector_sum f n d mb hd.len hmb.len)

-- The frame of a join: a list that spans no more than both boundaries, then the inner vectors of both children. What the children
-- have in common is in both boundaries.
pub record AreFrames (f : Field) (n : ℕ) (list basis1 inner1 basis2 inner2 : List (List ℕ)) : Type 0 where
  pub each : AreVectors f n list
  pub each1 : AreVectors f n basis1
  pub each2 : AreVectors f n basis2
  pub eachi1 : AreVectors f n inner1
  pub eachi2 : AreVectors f n inner2
  pub independent : AreIndependent f n list
  pub independent1 : AreIndependent f n (basis1 ++ inner1)
  pub independent2 : AreIndependent f n (basis2 ++ inner2)
  pub small : IsWithin f n list (basis1 ++ basis2)
  pub common : (v : List ℕ) → InSpan f n (basis1 ++ inner1) v → InSpan f n (basis2 ++ inner2) v → InSpan f n basis1 v × InSpan f n basis2 v

-- what is in both is zero where the first part is in the boundary and the rest in the inner vectors
pub in_front : (f : Field) (n : ℕ) (A B : List (List ℕ)) → AreVectors f n A → AreVectors f n B → (v : List ℕ) → InSpan f n A v → InSpan f n (A ++ B) v
in_front f n A B hA hB v p = append_from_InSum f n A B v hB (record {
  one = v;
  other = zeros n;
  in_first = p;
  in_second = InSpan-zeros f n B hB;
  sum = vector_sum-zeros f n v (subst (λ u. IsVector f n u) p.sum (IsVector-combination f n p.coefficients A hA));
})

pub in_back : (f : Field) (n : ℕ) (A B : List (List ℕ)) → AreVectors f n A → AreVectors f n B → (v : List ℕ) → InSpan f n B v → InSpan f n (A ++ B) v
in_back f n A B hA hB v p = append_from_InSum f n A B v hB (record {
  one = zeros n;
  other = v;
  in_first = InSpan-zeros f n A hA;
  in_second = p;
  sum = zeros-vector_sum f n v (subst (λ u. IsVector f n u) p.sum (IsVector-combination f n p.coefficients B hB));
})

pub inner_independent : (f : Field) (n : ℕ) (list basis1 inner1 basis2 inner2 : List (List ℕ)) → AreFrames f n list basis1 inner1 basis2 inner2 →
    AreIndependent f n inner1 → AreIndependent f n inner2 → AreIndependent f n (inner1 ++ inner2)
inner_independent f n list b1 i1 b2 i2 h ind1 ind2 =
    independent_beside f n i1 i2 h.eachi1 h.eachi2 ind1 ind2 (λ v p q.
    let c = h.common v (in_back f n b1 i1 h.each1 h.eachi1 v p) (in_back f n b2 i2 h.each2 h.eachi2 v q) in
    apart f n b1 i1 h.each1 h.eachi1 h.independent1 v c.0 p)

pub frame_independent : (f : Field) (n : ℕ) (list basis1 inner1 basis2 inner2 : List (List ℕ)) → AreFrames f n list basis1 inner1 basis2 inner2 →
    AreIndependent f n inner1 → AreIndependent f n inner2 → AreIndependent f n (list ++ (inner1 ++ inner2))
frame_independent f n list b1 i1 b2 i2 h ind1 ind2 =
    let inner = i1 ++ i2 in
    let hi = All-append (λ v. IsVector f n v) i1 i2 h.eachi1 h.eachi2 in
    let hb = All-append (λ v. IsVector f n v) b1 b2 h.each1 h.each2 in
    independent_beside f n list inner h.each hi h.independent (inner_independent f n list b1 i1 b2 i2 h ind1 ind2) (λ v p q.
    let s = InSum-from_append f n b1 b2 v h.each2 (InSpan-within f n list (b1 ++ b2) v hb h.small p) in
    let t = InSum-from_append f n i1 i2 v h.eachi2 q in
    let hs1 : IsVector f n s.one = vec b1 h.each1 s.one s.in_first in
    let hs2 : IsVector f n s.other = vec b2 h.each2 s.other s.in_second in
    let ht1 : IsVector f n t.one = vec i1 h.eachi1 t.one t.in_first in
    let ht2 : IsVector f n t.other = vec i2 h.eachi2 t.other t.in_second in
    let m = negative f 1 in
    -- s.one + s.other = t.one + t.other, so s.one - t.one = t.other - s.other is in both
    let d = vector_sum f s.one (multiple f m t.one) in
    let e = vector_sum f t.other (multiple f m s.other) in
    let same : d ≡ e = difference f n s.one s.other t.one t.other hs1 hs2 ht1 ht2 (s.sum ∙ sym t.sum) in
    let in1 : InSpan f n (b1 ++ i1) d =
    append_from_InSum f n b1 i1 d h.eachi1 (record { one = s.one; other = multiple f m t.one; in_first = s.in_first; in_second = InSpan-multiple f n m i1 t.one t.in_first; sum = refl }) in
    let in2 : InSpan f n (b2 ++ i2) e =
    append_from_InSum f n b2 i2 e h.eachi2 (record { one = multiple f m s.other; other = t.other; in_first = InSpan-multiple f n m b2 s.other s.in_second; in_second = t.in_second; sum = vector_sum_comm f (multiple f m s.other) t.other }) in
    let c = h.common d in1 (subst (λ u. InSpan f n (b2 ++ i2) u) (sym same) in2) in
    let z1 : t.one ≡ zeros n =
    apart f n b1 i1 h.each1 h.eachi1 h.independent1 t.one
    (subst (λ u. InSpan f n b1 u) (back f n s.one t.one hs1 ht1) (InSpan-vector_sum f n b1 s.one (multiple f m d) s.in_first (InSpan-multiple f n m b1 d c.0))) t.in_first in
    let z2 : t.other ≡ zeros n =
    apart f n b2 i2 h.each2 h.eachi2 h.independent2 t.other
    (subst (λ u. InSpan f n b2 u) (again f n t.other s.other ht2 hs2) (InSpan-vector_sum f n b2 e s.other (subst (λ u. InSpan f n b2 u) same c.1) s.in_second)) t.in_second in
    sym t.sum ∙ ap₂ (λ x y. vector_sum f x y) z1 z2 ∙ zeros_twice f n)
  where
    vec : (A : List (List ℕ)) → AreVectors f n A → (v : List ℕ) → InSpan f n A v → IsVector f n v
    vec A hA v p = subst (λ u. IsVector f n u) p.sum (IsVector-combination f n p.coefficients A hA)

-- the last of independent rows are independent
pub independent_back : (f : Field) (n : ℕ) (A B : List (List ℕ)) → AreVectors f n A → AreVectors f n B → AreIndependent f n (A ++ B) → AreIndependent f n B
independent_back f n A B hA hB ind cs each e =
    let a = length A in
    let b = length B in
    let hz = IsVector-zeros f a in
    let all = ind (zeros a ++ cs) (subst (λ k. IsVector f k (zeros a ++ cs)) (sym (length-append A B)) (IsVector-append f a b (zeros a) cs hz each))
    (combination-append f n (zeros a) cs A B hz.len hB ∙ ap₂ (λ x y. vector_sum f x y) (combination-zeros f n a A hA) e ∙ zeros_twice f n) in
    (append_parts (zeros a) (zeros a) cs (zeros b) refl (all ∙ ap zeros (length-append A B) ∙ sym (zeros-append a b))).1

-- the first of independent rows are independent
pub independent_front : (f : Field) (n : ℕ) (A B : List (List ℕ)) → AreVectors f n A → AreVectors f n B → AreIndependent f n (A ++ B) → AreIndependent f n A
independent_front f n A B hA hB ind cs each e =
    let a = length A in
    let b = length B in
    let hz = IsVector-zeros f b in
    let all = ind (cs ++ zeros b) (subst (λ k. IsVector f k (cs ++ zeros b)) (sym (length-append A B)) (IsVector-append f a b cs (zeros b) each hz))
    (combination-append f n cs (zeros b) A B each.len hB ∙ ap₂ (λ x y. vector_sum f x y) e (combination-zeros f n b B hB) ∙ zeros_twice f n) in
    (append_parts cs (zeros a) (zeros b) (zeros b) (each.len ∙ sym (length-replicate a 0)) (all ∙ ap zeros (length-append A B) ∙ sym (zeros-append a b))).0

pub independent_swapped : (f : Field) (n : ℕ) (A B : List (List ℕ)) → AreVectors f n A → AreVectors f n B → AreIndependent f n (A ++ B) →
    AreIndependent f n (B ++ A)
independent_swapped f n A B hA hB ind =
    independent_beside f n B A hB hA (independent_back f n A B hA hB ind) (independent_front f n A B hA hB ind)
    (λ v p q. apart f n A B hA hB ind v q p)
