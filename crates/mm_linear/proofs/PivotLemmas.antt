-- The pivot columns are those at which rows in echelon form from the left have their first digits other than 0.
use Rattle.std.proofs.Common.{ℕ, zero, suc, ◌+◌, ◌-◌, ◌<◌, ◌≤◌, ◌≡◌, ◌↔◌, inl, inr, true, List, [], ◌∷◌, ◌++◌, length, map, get_or, take, refl, sym, ap, ap₂, ◌∙◌, subst, arith, append_assoc, Contains}
use Rattle.std.proofs.lemmas.Bool.{cases_eq, cases_lt}
use Rattle.std.proofs.lemmas.List.{length-replicate, length-map, take_at, take-replicate, get_or-replicate, get_or_push, get_or-take}
use Rattle.mm_field.specs.declared.Field.{Field}
use Rattle.mm_field.specs.Digits.{times}
use Rattle.mm_field.specs.Vectors.{zeros, vector_sum, multiple, combination, IsVector, AreVectors, InSpan, SameRowSpace}
use Rattle.mm_field.proofs.Tables.{times_one_digit, one_digit}
use Rattle.mm_field.proofs.VectorLemmas.{vector_sum-zeros, multiple-zeros, zero-multiple, IsVector-multiple}
use Rattle.mm_field.proofs.CombinationLemmas.{first_row, other_rows, take-vector_sum, take-multiple, multiple-append, combination-none, InSpan-within}
use Rattle.mm_field.proofs.PartLemmas.{zeros-append}
use Rattle.mm_linear.specs.Coordinates.{is_pivot}
use Rattle.mm_linear.specs.ReducedEchelon.{Leads}
use Rattle.mm_linear.proofs.EchelonLemmas.{zero_not_one}
use Rattle.mm_linear.proofs.SubspaceLemmas.{split_first, rest_is_all}
use Rattle.mm_linear.proofs.MeetTest.{is_in_span_decides}
use Rattle.mm_linear.proofs.BasisLemmas.{ended, IsVector-ended, AreVectors-cut, combination_cut, combination_late, pivot_from_span}

-- ended k 1 cut at an earlier place is zeros
pub cut-ended : (k m : ℕ) → m ≤ k → take m (ended k 1) ≡ zeros m
cut-ended k m l =
    let e : m + (k - m) ≡ k = omega arith in
    ap (λ x. take m (x ++ (1 ∷ []))) (sym (zeros-append m (k - m) ∙ ap zeros e))
    ∙ ap (take m) (append_assoc (zeros m) (zeros (k - m)) (1 ∷ []))
    ∙ take_at (zeros m) (zeros (k - m) ++ (1 ∷ [])) m (length-replicate m 0)

pub last-ended : (k a : ℕ) → get_or (ended k a) k 0 ≡ a
last-ended k a = get_or_push (zeros k) a 0 k (length-replicate k 0)

pub not_zeros : (k : ℕ) (u : List ℕ) → take (suc k) u ≡ zeros (suc k) → take (suc k) u ≡ ended k 1 → ⊥
not_zeros k u z e =
    zero_not_one (get_or (take (suc k) u) k 0)
    (ap (λ x. get_or x k 0) z ∙ get_or-replicate (suc k) k 0 0 (omega arith))
    (ap (λ x. get_or x k 0) e ∙ last-ended k 1)

pub take-shorter : (m k : ℕ) (u : List ℕ) → m ≤ k → take m (take k u) ≡ take m u
take-shorter zero k u l = refl
take-shorter (suc m) zero u l = absurd (omega arith)
take-shorter (suc m) (suc k) [] l = refl
take-shorter (suc m) (suc k) (x ∷ u) l = ap (λ y. x ∷ y) (take-shorter m k u (omega arith))

pub count_leads : (n from : ℕ) (rows : List (List ℕ)) (ks : List ℕ) → Leads n from rows ks → length rows ≡ length ks
count_leads n from [] [] h = refl
count_leads n from [] (x ∷ ks) h = absurd h
count_leads n from (v ∷ vs) [] h = absurd h
count_leads n from (v ∷ vs) (x ∷ ks) h = ap suc (count_leads n (suc x) vs ks h.3)

-- rows whose leads come later are zero up to there
pub late_rows : (n from : ℕ) (rows : List (List ℕ)) (ks : List ℕ) → Leads n from rows ks →
    (k : ℕ) (d : List ℕ) → k < length rows → take from (get_or rows k d) ≡ zeros from
late_rows n from [] [] h k d l = absurd (omega arith)
late_rows n from [] (x ∷ ks) h k d l = absurd h
late_rows n from (v ∷ vs) [] h k d l = absurd h
late_rows n from (v ∷ vs) (x ∷ ks) h zero d l =
    sym (take-shorter from (suc x) v (let a : from ≤ x = h.0 in omega arith)) ∙ ap (take from) h.2 ∙ cut-ended x from h.0
late_rows n from (v ∷ vs) (x ∷ ks) h (suc k) d l =
    let later = late_rows n (suc x) vs ks h.3 k d (omega arith) in
    sym (take-shorter from (suc x) (get_or vs k d) (let a : from ≤ x = h.0 in omega arith))
    ∙ ap (take from) later ∙ take-replicate from (suc x) 0 (let a : from ≤ x = h.0 in omega arith)

pub entry_of_cut : (x : ℕ) (w u : List ℕ) → take (suc x) w ≡ u → get_or w x 0 ≡ get_or u x 0
entry_of_cut x w u e = sym (get_or-take (suc x) w x 0 (omega arith)) ∙ ap (λ y. get_or y x 0) e

-- a vector of the span, cut after the first lead, is its multiple of the first row there
cut_at_lead : (f : Field) (n from x : ℕ) (v : List ℕ) (vs : List (List ℕ)) (ks : List ℕ) → Leads n from (v ∷ vs) (x ∷ ks) →
    AreVectors f n (v ∷ vs) → (w : List ℕ) (p : InSpan f n (v ∷ vs) w) →
    take (suc x) w ≡ multiple f (split_first f n v vs w p).factor (ended x 1)
cut_at_lead f n from x v vs ks h hr w p =
    let s = split_first f n v vs w p in
    let lx : x < n = h.1 in
    let low : take (suc x) s.rest ≡ zeros (suc x) =
    ap (take (suc x)) (sym s.in_rest.sum) ∙ combination_late f n (suc x) s.in_rest.coefficients vs (omega arith) (late_rows n (suc x) vs ks h.3) in
    ap (take (suc x)) (sym s.sum) ∙ take-vector_sum f (suc x) (multiple f s.factor v) s.rest
    ∙ ap₂ (λ a b. vector_sum f a b) (take-multiple f s.factor (suc x) v ∙ ap (multiple f s.factor) h.2) low
    ∙ vector_sum-zeros f (suc x) (multiple f s.factor (ended x 1)) (IsVector-multiple f (suc x) s.factor (ended x 1) (IsVector-ended f x 1 (one_digit f)).len)

-- a vector of the span that has 0 at the first lead is in the span of the other rows
pub tail_when_zero : (f : Field) (n from x : ℕ) (v : List ℕ) (vs : List (List ℕ)) (ks : List ℕ) → Leads n from (v ∷ vs) (x ∷ ks) →
    AreVectors f n (v ∷ vs) → (w : List ℕ) → InSpan f n (v ∷ vs) w → get_or w x 0 ≡ 0 → InSpan f n vs w
tail_when_zero f n from x v vs ks h hr w p z =
    let hv = first_row f n v vs hr in
    let hs = other_rows f n v vs hr in
    let s = split_first f n v vs w p in
    let zero_factor : s.factor ≡ 0 =
    sym (times_one_digit f s.factor s.digit)
    ∙ sym (entry_of_cut x w (multiple f s.factor (ended x 1)) (cut_at_lead f n from x v vs ks h hr w p)
    ∙ ap (λ u. get_or u x 0) (multiple-append f s.factor (zeros x) (1 ∷ []) ∙ ap (λ y. y ++ (times f s.factor 1 ∷ [])) (multiple-zeros f s.factor x))
    ∙ last-ended x (times f s.factor 1))
    ∙ z in
    subst (λ y. InSpan f n vs y) (rest_is_all f n v vs w hs s (ap (λ a. multiple f a v) zero_factor ∙ zero-multiple f v ∙ ap zeros hv.len)) s.in_rest

-- a combination has its first digit other than 0 at one of the leads
pub lead_of_combination : (f : Field) (n from : ℕ) (rows : List (List ℕ)) (ks : List ℕ) → Leads n from rows ks → AreVectors f n rows →
    (w : List ℕ) (k : ℕ) → k < n → InSpan f n rows w → take (suc k) w ≡ ended k 1 → Contains ks k
lead_of_combination f n from [] [] h hr w k l p e =
    absurd (not_zeros k w (ap (take (suc k)) (sym p.sum ∙ combination-none f n p.coefficients) ∙ take-replicate (suc k) n 0 (omega arith)) e)
lead_of_combination f n from [] (x ∷ ks) h hr w k l p e = absurd h
lead_of_combination f n from (v ∷ vs) [] h hr w k l p e = absurd h
lead_of_combination f n from (v ∷ vs) (x ∷ ks) h hr w k l p e =
    elim (cases_eq k x) [
      | inl q ↦ (0, omega arith, sym q)
      | inr ne ↦ elim (cases_lt k x) [
        | inl lt ↦
            let factor = (split_first f n v vs w p).factor in
            absurd (not_zeros k w
            (sym (take-shorter (suc k) (suc x) w (omega arith)) ∙ ap (take (suc k)) (cut_at_lead f n from x v vs ks h hr w p)
            ∙ take-multiple f factor (suc k) (ended x 1) ∙ ap (multiple f factor) (cut-ended x (suc k) (omega arith)) ∙ multiple-zeros f factor (suc k)) e)
        | inr ge ↦
            let none : take (suc x) w ≡ zeros (suc x) =
            sym (take-shorter (suc x) (suc k) w (omega arith)) ∙ ap (take (suc x)) e ∙ cut-ended k (suc x) (omega arith) in
            let zero_here = entry_of_cut x w (zeros (suc x)) none ∙ get_or-replicate (suc x) x 0 0 (omega arith) in
            let c = lead_of_combination f n (suc x) vs ks h.3 (other_rows f n v vs hr) w k l (tail_when_zero f n from x v vs ks h hr w p zero_here) e in
            (suc c.0, (let a : c.0 < length ks = c.1 in omega arith), c.2)
      ]
    ]

pub row_at_lead : (n from : ℕ) (rows : List (List ℕ)) (ks : List ℕ) → Leads n from rows ks → (k i : ℕ) → i < length ks → get_or ks i k ≡ k →
    (j : ℕ) × (j < length rows) × (take (suc k) (get_or rows j []) ≡ ended k 1) × (k < n)
row_at_lead n from [] [] h k i l e = absurd (omega arith)
row_at_lead n from [] (x ∷ ks) h k i l e = absurd h
row_at_lead n from (v ∷ vs) [] h k i l e = absurd h
row_at_lead n from (v ∷ vs) (x ∷ ks) h k zero l e =
    (0, omega arith, subst (λ y. take (suc y) v ≡ ended y 1) e h.2, subst (λ y. y < n) e h.1)
row_at_lead n from (v ∷ vs) (x ∷ ks) h k (suc i) l e =
    let r = row_at_lead n (suc x) vs ks h.3 k i (omega arith) e in
    (suc r.0, (let a : r.0 < length vs = r.1 in omega arith), r.2, r.3)

-- where rows in echelon form have the row space of g, the pivot columns of g are their leads
pub pivots_are_leads : (f : Field) (n from : ℕ) (g rows : List (List ℕ)) (ks : List ℕ) → AreVectors f n g → AreVectors f n rows →
    SameRowSpace f n g rows → Leads n from rows ks → (k : ℕ) → k < n → (is_pivot f g k ≡ true) ↔ Contains ks k
unfolding is_pivot
pivots_are_leads f n from g rows ks hg hr same h k l = (
  (λ t.
      let p = (is_in_span_decides f (suc k) (map (take (suc k)) g) (ended k 1) (AreVectors-cut f n (suc k) g (omega arith) hg)
      (IsVector-ended f k 1 (one_digit f))).0 t in
      let w = combination f n p.coefficients g in
      let each : IsVector f (length g) p.coefficients = record { len = p.each.len ∙ length-map g (take (suc k)); digits = p.each.digits } in
      lead_of_combination f n from rows ks h hr w k l
      (InSpan-within f n g rows w hr same.0 (record { coefficients = p.coefficients; each = each; sum = refl }))
      (sym (combination_cut f n (suc k) p.coefficients g (omega arith) hg) ∙ p.sum)),
  (λ c.
      let r = row_at_lead n from rows ks h k c.0 c.1 c.2 in
      pivot_from_span f n k g (get_or rows r.0 []) l hg (same.1 r.0 [] r.1) r.2),
)
