-- A row space has one list of reduced echelon rows from the left.
use Rattle.std.proofs.Common.{ℕ, zero, suc, ◌<◌, ◌≤◌, ◌≡◌, inl, inr, List, [], ◌∷◌, length, get_or, take, refl, sym, ap, ap₂, ◌∙◌, subst, arith, Contains}
use Rattle.std.proofs.lemmas.Bool.{cases_eq, cases_lt}
use Rattle.std.proofs.lemmas.List.{get_or-replicate}
use Rattle.std.proofs.lemmas.List.Elements.{All-nil}
use Rattle.mm_field.specs.declared.Field.{Field}
use Rattle.mm_field.specs.Digits.{plus, times, negative}
use Rattle.mm_field.specs.Vectors.{zeros, vector_sum, multiple, AreVectors, InSpan, IsWithin, SameRowSpace, IsVector}
use Rattle.mm_field.proofs.Tables.{times-zero}
use Rattle.mm_field.proofs.VectorLemmas.{zeros-vector_sum, one-multiple, sum_entry}
use Rattle.mm_field.proofs.CombinationLemmas.{first_row, other_rows, combination-none, InSpan-vector_sum, InSpan-multiple, IsWithin-itself}
use Rattle.mm_linear.specs.ReducedEchelon.{Leads, Clear, reduced_basis}
use Rattle.mm_linear.proofs.BasisLemmas.{ended, minus_and_plus}
use Rattle.mm_linear.proofs.PivotLemmas.{cut-ended, last-ended, not_zeros, take-shorter, late_rows, lead_of_combination, entry_of_cut, tail_when_zero}
use Rattle.mm_linear.proofs.ReducedEchelonLemmas.{reduced_basis_is}
use Rattle.mm_linear.proofs.InsertLemmas.{cleared_at, sum_of_zeros}

pub zero_at_leads : (f : Field) (n from : ℕ) (rows : List (List ℕ)) (ks : List ℕ) → Leads n from rows ks → AreVectors f n rows →
    (w : List ℕ) → InSpan f n rows w → ((i d : ℕ) → i < length ks → get_or w (get_or ks i d) 0 ≡ 0) → w ≡ zeros n
zero_at_leads f n from [] [] h hr w p z = sym p.sum ∙ combination-none f n p.coefficients
zero_at_leads f n from [] (x ∷ ks) h hr w p z = absurd h
zero_at_leads f n from (v ∷ vs) [] h hr w p z = absurd h
zero_at_leads f n from (v ∷ vs) (x ∷ ks) h hr w p z =
    zero_at_leads f n (suc x) vs ks h.3 (other_rows f n v vs hr) w
    (tail_when_zero f n from x v vs ks h hr w p (z 0 0 (omega arith)))
    (λ i d l. z (suc i) d (omega arith))

pub leads_above : (n from : ℕ) (rows : List (List ℕ)) (ks : List ℕ) → Leads n from rows ks → (i d : ℕ) → i < length ks →
    (from ≤ get_or ks i d) × (get_or ks i d < n)
leads_above n from [] [] h i d l = absurd (omega arith)
leads_above n from [] (x ∷ ks) h i d l = absurd h
leads_above n from (v ∷ vs) [] h i d l = absurd h
leads_above n from (v ∷ vs) (x ∷ ks) h zero d l = (h.0, h.1)
leads_above n from (v ∷ vs) (x ∷ ks) h (suc i) d l =
    let r = leads_above n (suc x) vs ks h.3 i d (omega arith) in
    let a : suc x ≤ get_or ks i d = r.0 in
    let b : from ≤ x = h.0 in
    (omega arith, r.1)

one_lead : (x y : ℕ) (v : List ℕ) → take (suc x) v ≡ ended x 1 → take (suc y) v ≡ ended y 1 → x < y → ⊥
one_lead x y v e g l =
    not_zeros x v (sym (take-shorter (suc x) (suc y) v (omega arith)) ∙ ap (take (suc x)) g ∙ cut-ended y (suc x) (omega arith)) e

same_lead : (x y : ℕ) (v : List ℕ) → take (suc x) v ≡ ended x 1 → take (suc y) v ≡ ended y 1 → x ≡ y
same_lead x y v e g = elim (cases_lt x y) [
  | inl l ↦ absurd (one_lead x y v e g l)
  | inr m ↦ elim (cases_eq x y) [
    | inl q ↦ q
    | inr ne ↦ absurd (one_lead y x v g e (omega arith))
  ]
]

leads_same : (n a b : ℕ) (rows : List (List ℕ)) (ks ls : List ℕ) → Leads n a rows ks → Leads n b rows ls → ks ≡ ls
leads_same n a b [] [] [] h g = refl
leads_same n a b [] [] (y ∷ ls) h g = absurd g
leads_same n a b [] (x ∷ ks) ls h g = absurd h
leads_same n a b (v ∷ vs) [] ls h g = absurd h
leads_same n a b (v ∷ vs) (x ∷ ks) [] h g = absurd g
leads_same n a b (v ∷ vs) (x ∷ ks) (y ∷ ls) h g =
    ap₂ (λ p q. p ∷ q) (same_lead x y v h.2 g.2) (leads_same n (suc x) (suc y) vs ks ls h.3 g.3)

none_in_nothing : (f : Field) (n k : ℕ) (w : List ℕ) → k < n → InSpan f n [] w → take (suc k) w ≡ ended k 1 → ⊥
none_in_nothing f n k w l p e = go (lead_of_combination f n 0 [] [] tt (λ i d m. absurd (omega arith)) w k l p e)
  where
    go : Contains [] k → ⊥
    go c = let a : c.0 < 0 = c.1 in omega arith

least_lead : (f : Field) (n from x l : ℕ) (v w : List ℕ) (vs : List (List ℕ)) (ks : List ℕ) → Leads n from (v ∷ vs) (x ∷ ks) →
    AreVectors f n (v ∷ vs) → l < n → InSpan f n (v ∷ vs) w → take (suc l) w ≡ ended l 1 → x ≤ l
least_lead f n from x l v w vs ks h hr m p e =
    let from_x : Leads n x (v ∷ vs) (x ∷ ks) = (omega arith, h.1, h.2, h.3) in
    let c = lead_of_combination f n x (v ∷ vs) (x ∷ ks) from_x hr w l m p e in
    subst (λ y. x ≤ y) c.2 (leads_above n x (v ∷ vs) (x ∷ ks) from_x c.0 l c.1).0

tails_within : (f : Field) (n a b x : ℕ) (v w : List ℕ) (vs us : List (List ℕ)) (ks ls : List ℕ) → Leads n a (v ∷ vs) (x ∷ ks) →
    Leads n b (w ∷ us) (x ∷ ls) → AreVectors f n (w ∷ us) → IsWithin f n (v ∷ vs) (w ∷ us) → IsWithin f n vs us
tails_within f n a b x v w vs us ks ls h g hu within = λ k d l.
    tail_when_zero f n b x w us ls g hu (get_or vs k d) (within (suc k) d (omega arith))
    (entry_of_cut x (get_or vs k d) (zeros (suc x)) (late_rows n (suc x) vs ks h.3 k d l) ∙ get_or-replicate (suc x) x 0 0 (omega arith))

pub left_unique : (f : Field) (n a b : ℕ) (R S : List (List ℕ)) (ks ls : List ℕ) → Leads n a R ks → Clear R ks → Leads n b S ls → Clear S ls →
    AreVectors f n R → AreVectors f n S → SameRowSpace f n R S → R ≡ S
left_unique f n a b [] [] ks ls h c g d hr hs same = refl
left_unique f n a b [] (w ∷ us) ks [] h c g d hr hs same = absurd g
left_unique f n a b [] (w ∷ us) ks (y ∷ ls) h c g d hr hs same = absurd (none_in_nothing f n y w g.1 (same.1 0 [] (omega arith)) g.2)
left_unique f n a b (v ∷ vs) [] [] ls h c g d hr hs same = absurd h
left_unique f n a b (v ∷ vs) [] (x ∷ ks) ls h c g d hr hs same = absurd (none_in_nothing f n x v h.1 (same.0 0 [] (omega arith)) h.2)
left_unique f n a b (v ∷ vs) (w ∷ us) [] ls h c g d hr hs same = absurd h
left_unique f n a b (v ∷ vs) (w ∷ us) (x ∷ ks) [] h c g d hr hs same = absurd g
left_unique f n a b (v ∷ vs) (w ∷ us) (x ∷ ks) (y ∷ ls) h c g d hr hs same =
    let low = least_lead f n a x y v w vs ks h hr g.1 (same.1 0 [] (omega arith)) g.2 in
    let high = least_lead f n b y x w v us ls g hs h.1 (same.0 0 [] (omega arith)) h.2 in
    let q : y ≡ x = omega arith in
    let g' : Leads n b (w ∷ us) (x ∷ ls) = subst (λ (k : ℕ). Leads n b (w ∷ us) (k ∷ ls)) q g in
    let hvs = other_rows f n v vs hr in
    let hus = other_rows f n w us hs in
    let hv = first_row f n v vs hr in
    let hw = first_row f n w us hs in
    let tails = left_unique f n (suc x) (suc x) vs us ks ls h.3 c.1 g'.3 d.1 hvs hus (
      tails_within f n a b x v w vs us ks ls h g' hs same.0,
      tails_within f n b a x w v us vs ls ks g' h hr same.1,
    ) in
    let leads : ks ≡ ls = leads_same n (suc x) (suc x) us ks ls (subst (λ rs. Leads n (suc x) rs ks) tails h.3) g'.3 in
    let minus = multiple f (negative f 1) w in
    let z = vector_sum f v minus in
    let entry_z = λ (k : ℕ) (l : k < n). sum_entry f n (negative f 1) v w k hv.len hw.len l in
    let z_all = InSpan-vector_sum f n (w ∷ us) v minus (same.0 0 [] (omega arith))
    (InSpan-multiple f n (negative f 1) (w ∷ us) w (IsWithin-itself f n (w ∷ us) hs 0 [] (omega arith))) in
    let at_x : get_or z x 0 ≡ 0 =
    entry_z x h.1
    ∙ ap (λ s. plus f s (times f (negative f 1) (get_or w x 0))) (entry_of_cut x v (ended x 1) h.2 ∙ last-ended x 1)
    ∙ cleared_at f 1 (get_or w x 0) (entry_of_cut x w (ended x 1) g'.2 ∙ last-ended x 1) in
    let z_tail = tail_when_zero f n b x w us ls g' hs z z_all at_x in
    let z_zero = zero_at_leads f n (suc x) us ls g'.3 hus z z_tail
    (λ i e l.
    let k = get_or ls i e in
    let v_zero : get_or v k 0 ≡ 0 = (subst (λ js. (i e : ℕ) → i < length js → get_or v (get_or js i e) 0 ≡ 0) leads c.0) i e l in
    let w_zero : get_or w k 0 ≡ 0 = d.0 i e l in
    entry_z k (leads_above n (suc x) us ls g'.3 i e l).1
    ∙ sum_of_zeros f (get_or v k 0) _ v_zero (ap (times f (negative f 1)) w_zero ∙ times-zero f (negative f 1))) in
    let heads : v ≡ w =
    sym (minus_and_plus f n 1 v w hv hw.len)
    ∙ ap₂ (λ s t. vector_sum f s t) z_zero (one-multiple f w hw.digits)
    ∙ zeros-vector_sum f n w hw in
    ap₂ (λ s t. s ∷ t) heads tails

-- reduced rows are the basis of their span
pub basis_of_reduced : (f : Field) (n : ℕ) (rows : List (List ℕ)) (ks : List ℕ) → AreVectors f n rows → Leads n 0 rows ks → Clear rows ks →
    reduced_basis f n rows ≡ rows
basis_of_reduced f n rows ks h leads clear =
    let b = reduced_basis_is f n rows h in
    left_unique f n 0 0 (reduced_basis f n rows) rows b.leads ks b.echelon b.reduced leads clear b.each h (b.span.1, b.span.0)

pub basis_of_none : (f : Field) (n : ℕ) → reduced_basis f n [] ≡ []
basis_of_none f n = basis_of_reduced f n [] [] (All-nil (λ v. IsVector f n v)) tt tt
