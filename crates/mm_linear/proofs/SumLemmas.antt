-- Steps of the sum and the meet of two spaces. A has the rows of the one, S those of the other that were taken so far.
use Rattle.std.proofs.Common.{ℕ, ◌+◌, ◌-◌, ◌<◌, ◌≤◌, ◌≡◌, inl, inr, List, [], ◌∷◌, ◌++◌, length, get_or, drop, sym, ap, ◌∙◌, subst, arith}
use Rattle.std.proofs.lemmas.List.{drop_more, drop_all, get_or-replicate}
use Rattle.std.proofs.lemmas.List.Elements.{All-head, All-tail, All-cons, All-append, All-drop, All-weaker}
use Rattle.mm_field.specs.declared.Field.{Field}
use Rattle.mm_field.specs.Vectors.{zeros, multiple, combination, IsVector, AreVectors, InSpan, IsWithin, SameRowSpace}
use Rattle.mm_field.proofs.VectorLemmas.{multiple-zeros, IsVector-zeros}
use Rattle.mm_field.proofs.CombinationLemmas.{IsWithin-itself, IsWithin-within, InSpan-within, InSpan-zeros, InSpan-first, InSpan-one_more}
use Rattle.mm_linear.proofs.SpanLemmas.{InSum-from_append, InSum-swapped, append_left_in, append_right_in}
use Rattle.mm_linear.specs.Echelons.{entry, IsEchelon}
use Rattle.mm_linear.specs.Sums.{MeetTrivially}
use Rattle.mm_linear.proofs.EchelonLemmas.{zero_not_one}
use Rattle.mm_linear.proofs.SubspaceLemmas.{split_first, meet_more, meet_fails, outside_later, rest_is_all}

pub next_rows : (B : List (List ℕ)) (i : ℕ) → 0 < i → i ≤ length B → drop (i - 1) B ≡ get_or B (i - 1) [] ∷ drop i B
next_rows B i p l =
    drop_more B (i - 1) [] (omega arith)
    ∙ let e : i - 1 + 1 ≡ i = omega arith in ap (λ k. get_or B (i - 1) [] ∷ drop k B) e

pub more_within : (f : Field) (n : ℕ) (b : List ℕ) (X : List (List ℕ)) → IsVector f n b → AreVectors f n X → IsWithin f n X (b ∷ X)
more_within f n b X hb h =
    All-weaker (λ u. InSpan f n X u) (λ u. InSpan f n (b ∷ X) u) (λ u q. InSpan-one_more f n b X u hb h q) X (IsWithin-itself f n X h)

pub same_more : (f : Field) (n : ℕ) (b : List ℕ) (X E E' : List (List ℕ)) → IsVector f n b → AreVectors f n X → AreVectors f n E →
    AreVectors f n E' → SameRowSpace f n X E → SameRowSpace f n (b ∷ E) E' → SameRowSpace f n (b ∷ X) E'
same_more f n b X E E' hb hx he he' s t =
    let hbx : AreVectors f n (b ∷ X) = All-cons (λ u. IsVector f n u) b X hb hx in (
      All-cons (λ u. InSpan f n E' u) b X (All-head (λ u. InSpan f n E' u) b E t.0)
          (IsWithin-within f n X E E' he' s.0 (All-tail (λ u. InSpan f n E' u) b E t.0)),
      IsWithin-within f n E' (b ∷ E) (b ∷ X) hbx t.1
          (All-cons (λ u. InSpan f n (b ∷ X) u) b E (InSpan-first f n b X hb hx)
          (IsWithin-within f n E X (b ∷ X) hbx s.1 (more_within f n b X hb hx))),
    )

pub same_zero : (f : Field) (n : ℕ) (b : List ℕ) (X E : List (List ℕ)) → AreVectors f n X → AreVectors f n E → b ≡ zeros n →
    SameRowSpace f n X E → SameRowSpace f n (b ∷ X) E
same_zero f n b X E hx he e s =
    let hb : IsVector f n b = subst (λ u. IsVector f n u) (sym e) (IsVector-zeros f n) in
    let hbx : AreVectors f n (b ∷ X) = All-cons (λ u. IsVector f n u) b X hb hx in (
      All-cons (λ u. InSpan f n E u) b X (subst (λ u. InSpan f n E u) (sym e) (InSpan-zeros f n E he)) s.0,
      IsWithin-within f n E X (b ∷ X) hbx s.1 (more_within f n b X hb hx),
    )

pub same_itself : (f : Field) (n : ℕ) (X : List (List ℕ)) → AreVectors f n X → SameRowSpace f n X X
same_itself f n X h = (IsWithin-itself f n X h, IsWithin-itself f n X h)

pub meet_zero : (f : Field) (n : ℕ) (A S : List (List ℕ)) (b : List ℕ) → AreVectors f n S → b ≡ zeros n →
    MeetTrivially n (InSpan f n A) (InSpan f n S) → MeetTrivially n (InSpan f n A) (InSpan f n (b ∷ S))
meet_zero f n A S b hs e meet z p q =
    let s = split_first f n b S z q in
    let z_is = rest_is_all f n b S z hs s (ap (multiple f s.factor) e ∙ multiple-zeros f s.factor n) in
    meet z p (subst (λ x. InSpan f n S x) z_is s.in_rest)

pub meet_none : (f : Field) (n : ℕ) (A : List (List ℕ)) → MeetTrivially n (InSpan f n A) (InSpan f n [])
meet_none f n A z p q = go q.coefficients q.sum
  where
    go : (cs : List ℕ) → combination f n cs [] ≡ z → z ≡ zeros n
    go [] e = sym e
    go (c ∷ cs) e = sym e

pub zero_row : (f : Field) (n : ℕ) (B : List (List ℕ)) → IsEchelon f n B → (i : ℕ) → i < n → entry B i i ≡ 0 → get_or B i [] ≡ zeros n
zero_row f n B h i l e =
    elim (h.pivot i l) [ inl z ↦ z | inr one ↦ absurd (zero_not_one (entry B i i) e one) ]

pub one_row : (f : Field) (n : ℕ) (B : List (List ℕ)) → IsEchelon f n B → (i : ℕ) → i < n → (entry B i i ≡ 0 → ⊥) → entry B i i ≡ 1
one_row f n B h i l ne =
    elim (h.pivot i l) [
      | inl z ↦ absurd (ne (ap (λ r. get_or r i 0) z ∙ get_or-replicate n i 0 0 l))
      | inr one ↦ one
    ]

-- a row that is already in the sum shows that the spaces meet
pub meet_refuted : (f : Field) (n : ℕ) (A B E : List (List ℕ)) (i : ℕ) → IsEchelon f n B → AreVectors f n A → 0 < i → i ≤ n →
    (entry B (i - 1) (i - 1) ≡ 0 → ⊥) → SameRowSpace f n (drop i B ++ A) E → InSpan f n E (get_or B (i - 1) []) →
    MeetTrivially n (InSpan f n A) (InSpan f n B) → ⊥
meet_refuted f n A B E i h ha p l ne s inside meet =
    let lb : length B ≡ n = h.count in
    let l' : i - 1 < n = omega arith in
    let b = get_or B (i - 1) [] in
    let S = drop i B in
    let hb : IsVector f n b = h.each (i - 1) [] (omega arith) in
    let hs = All-drop (λ u. IsVector f n u) i B h.each in
    let one = one_row f n B h (i - 1) l' ne in
    let in_both = InSpan-within f n E (S ++ A) b (All-append (λ u. IsVector f n u) S A hs ha) s.1 inside in
    let sum = InSum-from_append f n S A b ha in_both in
    let e : i - 1 + 1 ≡ i = omega arith in
    let next = next_rows B i p (omega arith) in
    meet_fails f n A S b ha hs hb
    (InSum-swapped f (InSpan f n S) (InSpan f n A) b sum)
    (λ q. outside_later f n B h (i - 1) l' one (subst (λ k. InSpan f n (drop k B) b) (sym e) q))
    (λ z za zs. meet z za
    (InSpan-within f n (drop (i - 1) B) B z h.each
    (All-drop (λ u. InSpan f n B u) (i - 1) B (IsWithin-itself f n B h.each))
    (subst (λ X. InSpan f n X z) (sym next) zs)))

pub meet_next : (f : Field) (n : ℕ) (A B E : List (List ℕ)) (i : ℕ) → IsEchelon f n B → AreVectors f n A → AreVectors f n E →
    0 < i → i ≤ n → SameRowSpace f n (drop i B ++ A) E → (InSpan f n E (get_or B (i - 1) []) → ⊥) →
    MeetTrivially n (InSpan f n A) (InSpan f n (drop i B)) → MeetTrivially n (InSpan f n A) (InSpan f n (drop (i - 1) B))
meet_next f n A B E i h ha he p l s out meet =
    let lb : length B ≡ n = h.count in
    let S = drop i B in
    let hs = All-drop (λ u. IsVector f n u) i B h.each in
    let wa = λ (k : ℕ) (d : List ℕ) (lk : k < length A).
    InSpan-within f n (S ++ A) E (get_or A k d) he s.0 (append_right_in f n S A (get_or A k d) hs ha (IsWithin-itself f n A ha k d lk)) in
    let ws = λ (k : ℕ) (d : List ℕ) (lk : k < length S).
    InSpan-within f n (S ++ A) E (get_or S k d) he s.0 (append_left_in f n S A (get_or S k d) hs ha (IsWithin-itself f n S hs k d lk)) in
    subst (λ X. MeetTrivially n (InSpan f n A) (InSpan f n X)) (sym (next_rows B i p (omega arith)))
    (meet_more f n A S E (get_or B (i - 1) []) ha hs he (h.each (i - 1) [] (omega arith)) wa ws out meet)

pub meet_next_zero : (f : Field) (n : ℕ) (A B : List (List ℕ)) (i : ℕ) → IsEchelon f n B → 0 < i → i ≤ n →
    entry B (i - 1) (i - 1) ≡ 0 → MeetTrivially n (InSpan f n A) (InSpan f n (drop i B)) → MeetTrivially n (InSpan f n A) (InSpan f n (drop (i - 1) B))
meet_next_zero f n A B i h p l e meet =
    let lb : length B ≡ n = h.count in
    subst (λ X. MeetTrivially n (InSpan f n A) (InSpan f n X)) (sym (next_rows B i p (omega arith)))
    (meet_zero f n A (drop i B) (get_or B (i - 1) []) (All-drop (λ u. IsVector f n u) i B h.each)
    (zero_row f n B h (i - 1) (omega arith) e) meet)

pub span_next : (f : Field) (n : ℕ) (A B E E' : List (List ℕ)) (i : ℕ) → IsEchelon f n B → AreVectors f n A → AreVectors f n E →
    AreVectors f n E' → 0 < i → i ≤ n → SameRowSpace f n (drop i B ++ A) E → SameRowSpace f n (get_or B (i - 1) [] ∷ E) E' →
    SameRowSpace f n (drop (i - 1) B ++ A) E'
span_next f n A B E E' i h ha he he' p l s t =
    let lb : length B ≡ n = h.count in
    let hs = All-drop (λ u. IsVector f n u) i B h.each in
    subst (λ X. SameRowSpace f n (X ++ A) E') (sym (next_rows B i p (omega arith)))
    (same_more f n (get_or B (i - 1) []) (drop i B ++ A) E E' (h.each (i - 1) [] (omega arith))
    (All-append (λ u. IsVector f n u) (drop i B) A hs ha) he he' s t)

pub span_next_zero : (f : Field) (n : ℕ) (A B E : List (List ℕ)) (i : ℕ) → IsEchelon f n B → AreVectors f n A → AreVectors f n E →
    0 < i → i ≤ n → entry B (i - 1) (i - 1) ≡ 0 → SameRowSpace f n (drop i B ++ A) E →
    SameRowSpace f n (drop (i - 1) B ++ A) E
span_next_zero f n A B E i h ha he p l e s =
    let lb : length B ≡ n = h.count in
    let hs = All-drop (λ u. IsVector f n u) i B h.each in
    subst (λ X. SameRowSpace f n (X ++ A) E) (sym (next_rows B i p (omega arith)))
    (same_zero f n (get_or B (i - 1) []) (drop i B ++ A) E
    (All-append (λ u. IsVector f n u) (drop i B) A hs ha) he (zero_row f n B h (i - 1) (omega arith) e) s)

pub span_start : (f : Field) (n : ℕ) (A B : List (List ℕ)) → length B ≡ n → AreVectors f n A → SameRowSpace f n (drop n B ++ A) A
span_start f n A B e h =
    subst (λ X. SameRowSpace f n (X ++ A) A) (sym (drop_all n B (omega arith))) (same_itself f n A h)

pub meet_start : (f : Field) (n : ℕ) (A B : List (List ℕ)) → length B ≡ n → MeetTrivially n (InSpan f n A) (InSpan f n (drop n B))
meet_start f n A B e = subst (λ X. MeetTrivially n (InSpan f n A) (InSpan f n X)) (sym (drop_all n B (omega arith))) (meet_none f n A)
