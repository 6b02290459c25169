-- A row that is put in at the place of its lead keeps reduced rows reduced, and the span grows by it.
use Rattle.std.proofs.Common.{ℕ, zero, suc, ◌<◌, ◌≤◌, ◌≡◌, List, [], ◌∷◌, ◌++◌, length, get_or, map, take, drop, sym, ap, ap₂, ◌∙◌, subst, arith}
use Rattle.std.proofs.lemmas.List.Elements.{All-cons, All-append, All-take, All-drop, All-head, All-tail}
use Rattle.std.specs.List.{All}
use Rattle.mm_field.specs.declared.Field.{Field}
use Rattle.mm_field.specs.Digits.{times, negative}
use Rattle.mm_field.specs.Vectors.{zeros, vector_sum, multiple, IsVector, AreVectors, InSpan, IsWithin, SameRowSpace}
use Rattle.mm_field.proofs.Tables.{times-zero, one_digit}
use Rattle.mm_field.proofs.VectorLemmas.{vector_sum-zeros, multiple-zeros}
use Rattle.mm_field.proofs.CombinationLemmas.{first_row, other_rows, take-vector_sum, take-multiple, InSpan-vector_sum, InSpan-multiple, InSpan-first, InSpan-one_more, InSpan-within, IsWithin-itself}
use Rattle.mm_linear.specs.Eliminate.{cleared}
use Rattle.mm_linear.specs.ReducedEchelon.{Leads, Clear}
use Rattle.mm_linear.proofs.BasisLemmas.{ended, IsVector-ended, minus_and_plus}
use Rattle.mm_linear.proofs.PivotLemmas.{cut-ended, last-ended, take-shorter, count_leads, entry_of_cut}
use Rattle.mm_linear.proofs.LeftUnique.{leads_above}
use Rattle.mm_linear.proofs.InsertLemmas.{IsVector-cleared, cleared_entry, sum_of_zeros, cleared_at as cleared_digit}
use Rattle.mm_matrix.specs.Residues.{AreReduced, IsNew, IsPlaceOf}

-- ---- the new row

-- what the code does with the rows and the leads
abbrev pub with_row : Field → ℕ → List ℕ → ℕ → List (List ℕ) → List (List ℕ)
with_row f p w place rows = map (cleared f p w) (take place rows) ++ w ∷ drop place rows

abbrev pub with_lead : ℕ → ℕ → List ℕ → List ℕ
with_lead p place leads = take place leads ++ p ∷ drop place leads

pub one_of_new : (f : Field) (n p : ℕ) (w ks : List ℕ) → IsNew f n p w ks → get_or w p 0 ≡ 1
one_of_new f n p w ks new = entry_of_cut p w (ended p 1) new.lead ∙ last-ended p 1

cleared_at : (f : Field) (n p : ℕ) (w v : List ℕ) → IsVector f n w → IsVector f n v → p < n → get_or w p 0 ≡ 1 →
    get_or (cleared f p w v) p 0 ≡ 0
cleared_at f n p w v hw hv l e =
    cleared_entry f n p w v hw hv p l ∙ cleared_digit f (get_or v p 0) (get_or w p 0) e

cleared_kept : (f : Field) (n p j : ℕ) (w v : List ℕ) → IsVector f n w → IsVector f n v → j < n → get_or w j 0 ≡ 0 → get_or v j 0 ≡ 0 →
    get_or (cleared f p w v) j 0 ≡ 0
cleared_kept f n p j w v hw hv l zw zv =
    let c = negative f (get_or v p 0) in
    cleared_entry f n p w v hw hv j l ∙ sum_of_zeros f (get_or v j 0) _ zv (ap (times f c) zw ∙ times-zero f c)

-- ---- places

later_place : (p x q : ℕ) (ks : List ℕ) → IsPlaceOf p (x ∷ ks) (suc q) → IsPlaceOf p ks q
later_place p x q ks h = record {
  within = let w : suc q ≤ suc (length ks) = h.within in omega arith;
  before = λ k l. h.before (suc k) (omega arith);
  next = λ l. h.next (omega arith);
}

-- ---- leads

pub Leads-with_row : (f : Field) (n from p place : ℕ) (w : List ℕ) (rows : List (List ℕ)) (ks : List ℕ) → AreVectors f n rows →
    Leads n from rows ks → IsNew f n p w ks → from ≤ p → IsPlaceOf p ks place →
    Leads n from (with_row f p w place rows) (with_lead p place ks)
Leads-with_row f n from p zero w [] [] hr h new l at = (l, new.inside, new.lead, tt)
Leads-with_row f n from p zero w [] (x ∷ ks) hr h new l at = absurd h
Leads-with_row f n from p zero w (v ∷ vs) [] hr h new l at = absurd h
Leads-with_row f n from p zero w (v ∷ vs) (x ∷ ks) hr h new l at =
    let m : p < x = at.next (omega arith) in
    (l, new.inside, new.lead, (omega arith, h.1, h.2, h.3))
Leads-with_row f n from p (suc q) w [] [] hr h new l at = absurd (let a : suc q ≤ 0 = at.within in omega arith)
Leads-with_row f n from p (suc q) w [] (x ∷ ks) hr h new l at = absurd h
Leads-with_row f n from p (suc q) w (v ∷ vs) [] hr h new l at = absurd h
Leads-with_row f n from p (suc q) w (v ∷ vs) (x ∷ ks) hr h new l at =
    let m : x < p = at.before 0 (omega arith) in
    let hv = first_row f n v vs hr in
    let c = negative f (get_or v p 0) in
    let low : take (suc x) w ≡ zeros (suc x) =
    sym (take-shorter (suc x) (suc p) w (omega arith)) ∙ ap (take (suc x)) new.lead ∙ cut-ended p (suc x) (omega arith) in
    let cut : take (suc x) (cleared f p w v) ≡ ended x 1 =
    take-vector_sum f (suc x) v (multiple f c w)
    ∙ ap₂ (λ a b. vector_sum f a b) h.2 (take-multiple f c (suc x) w ∙ ap (multiple f c) low ∙ multiple-zeros f c (suc x))
    ∙ vector_sum-zeros f (suc x) (ended x 1) (IsVector-ended f x 1 (one_digit f)) in (
      h.0,
      h.1,
      cut,
      Leads-with_row f n (suc x) p q w vs ks (other_rows f n v vs hr) h.3
          (record { vector = new.vector; inside = new.inside; lead = new.lead; zero = All-tail (λ k. get_or w k 0 ≡ 0) x ks new.zero })
          (omega arith) (later_place p x q ks at),
    )

-- ---- the other leads are clear

clear_of : (f : Field) (n p : ℕ) (w v : List ℕ) (ks : List ℕ) → IsVector f n w → IsVector f n v → All (λ k. k < n) ks →
    All (λ k. get_or w k 0 ≡ 0) ks → All (λ k. get_or v k 0 ≡ 0) ks → All (λ k. get_or (cleared f p w v) k 0 ≡ 0) ks
clear_of f n p w v ks hw hv hk zw zv = λ i d l. cleared_kept f n p (get_or ks i d) w v hw hv (hk i d l) (zw i d l) (zv i d l)

pub Clear-with_row : (f : Field) (n p place : ℕ) (w : List ℕ) (rows : List (List ℕ)) (ks : List ℕ) → AreVectors f n rows →
    length rows ≡ length ks → Clear rows ks → All (λ k. k < n) ks → IsNew f n p w ks → IsPlaceOf p ks place →
    Clear (with_row f p w place rows) (with_lead p place ks)
Clear-with_row f n p zero w rows ks hr e h hk new at = (new.zero, h)
Clear-with_row f n p (suc q) w [] [] hr e h hk new at = absurd (let a : suc q ≤ 0 = at.within in omega arith)
Clear-with_row f n p (suc q) w [] (x ∷ ks) hr e h hk new at = absurd (let a : 0 ≡ suc (length ks) = e in omega arith)
Clear-with_row f n p (suc q) w (v ∷ vs) [] hr e h hk new at = absurd (let a : suc (length vs) ≡ 0 = e in omega arith)
Clear-with_row f n p (suc q) w (v ∷ vs) (x ∷ ks) hr e h hk new at =
    let hv = first_row f n v vs hr in
    let hs = All-tail (λ k. k < n) x ks hk in
    let zs = All-tail (λ k. get_or w k 0 ≡ 0) x ks new.zero in
    let P : ℕ → Type 0 = λ k. get_or (cleared f p w v) k 0 ≡ 0 in
    let all : All P ks = clear_of f n p w v ks new.vector hv hs zs h.0 in (
      All-append P (take q ks) (p ∷ drop q ks) (All-take P q ks all)
          (All-cons P p (drop q ks) (cleared_at f n p w v new.vector hv new.inside (one_of_new f n p w (x ∷ ks) new)) (All-drop P q ks all)),
      Clear-with_row f n p q w vs ks (other_rows f n v vs hr) (let a : suc (length vs) ≡ suc (length ks) = e in omega arith) h.1 hs
          (record { vector = new.vector; inside = new.inside; lead = new.lead; zero = zs }) (later_place p x q ks at),
    )

-- ---- the span

pub AreVectors-with_row : (f : Field) (n p place : ℕ) (w : List ℕ) (rows : List (List ℕ)) → IsVector f n w → AreVectors f n rows →
    AreVectors f n (with_row f p w place rows)
AreVectors-with_row f n p zero w rows hw hr = All-cons (λ v. IsVector f n v) w rows hw hr
AreVectors-with_row f n p (suc q) w [] hw hr = All-cons (λ v. IsVector f n v) w [] hw hr
AreVectors-with_row f n p (suc q) w (v ∷ vs) hw hr =
    All-cons (λ u. IsVector f n u) (cleared f p w v) (with_row f p w q vs) (IsVector-cleared f n p w v hw (first_row f n v vs hr))
    (AreVectors-with_row f n p q w vs hw (other_rows f n v vs hr))

within_with_row : (f : Field) (n p place : ℕ) (w : List ℕ) (rows : List (List ℕ)) → IsVector f n w → AreVectors f n rows →
    IsWithin f n (w ∷ rows) (with_row f p w place rows)
within_with_row f n p zero w rows hw hr = IsWithin-itself f n (w ∷ rows) (All-cons (λ v. IsVector f n v) w rows hw hr)
within_with_row f n p (suc q) w [] hw hr = IsWithin-itself f n (w ∷ []) (All-cons (λ v. IsVector f n v) w [] hw hr)
within_with_row f n p (suc q) w (v ∷ vs) hw hr =
    let hv = first_row f n v vs hr in
    let hs = other_rows f n v vs hr in
    let v' = cleared f p w v in
    let hv' = IsVector-cleared f n p w v hw hv in
    let more = with_row f p w q vs in
    let hm = AreVectors-with_row f n p q w vs hw hs in
    let ih = within_with_row f n p q w vs hw hs in
    let lift : (u : List ℕ) → InSpan f n more u → InSpan f n (v' ∷ more) u = λ u s. InSpan-one_more f n v' more u hv' hm s in
    let in_w : InSpan f n (v' ∷ more) w = lift w (All-head (λ u. InSpan f n more u) w vs ih) in
    let in_v : InSpan f n (v' ∷ more) v =
    subst (λ u. InSpan f n (v' ∷ more) u) (minus_and_plus f n (get_or v p 0) v w hv hw.len)
    (InSpan-vector_sum f n (v' ∷ more) v' (multiple f (get_or v p 0) w) (InSpan-first f n v' more hv' hm)
    (InSpan-multiple f n (get_or v p 0) (v' ∷ more) w in_w)) in
    All-cons (λ u. InSpan f n (v' ∷ more) u) w (v ∷ vs) in_w
    (All-cons (λ u. InSpan f n (v' ∷ more) u) v vs in_v
    (λ k d l. lift (get_or vs k d) (All-tail (λ u. InSpan f n more u) w vs ih k d l)))

with_row_within : (f : Field) (n p place : ℕ) (w : List ℕ) (rows : List (List ℕ)) → IsVector f n w → AreVectors f n rows →
    IsWithin f n (with_row f p w place rows) (w ∷ rows)
with_row_within f n p zero w rows hw hr = IsWithin-itself f n (w ∷ rows) (All-cons (λ v. IsVector f n v) w rows hw hr)
with_row_within f n p (suc q) w [] hw hr = IsWithin-itself f n (w ∷ []) (All-cons (λ v. IsVector f n v) w [] hw hr)
with_row_within f n p (suc q) w (v ∷ vs) hw hr =
    let hv = first_row f n v vs hr in
    let hs = other_rows f n v vs hr in
    let P : List ℕ → Type 0 = λ u. InSpan f n (w ∷ v ∷ vs) u in
    let hall = All-cons (λ u. IsVector f n u) w (v ∷ vs) hw hr in
    let all = IsWithin-itself f n (w ∷ v ∷ vs) hall in
    let c = negative f (get_or v p 0) in
    let in_w : P w = all 0 [] (omega arith) in
    let in_v : P v = all 1 [] (omega arith) in
    let small : IsWithin f n (w ∷ vs) (w ∷ v ∷ vs) = All-cons P w vs in_w (λ k d l. all (suc (suc k)) d (omega arith)) in
    let ih = with_row_within f n p q w vs hw hs in
    All-cons P (cleared f p w v) (with_row f p w q vs)
    (InSpan-vector_sum f n (w ∷ v ∷ vs) v (multiple f c w) in_v (InSpan-multiple f n c (w ∷ v ∷ vs) w in_w))
    (λ k d l. InSpan-within f n (w ∷ vs) (w ∷ v ∷ vs) (get_or (with_row f p w q vs) k d) hall small (ih k d l))

pub span-with_row : (f : Field) (n p place : ℕ) (w : List ℕ) (rows : List (List ℕ)) → IsVector f n w → AreVectors f n rows →
    SameRowSpace f n (w ∷ rows) (with_row f p w place rows)
span-with_row f n p place w rows hw hr = (within_with_row f n p place w rows hw hr, with_row_within f n p place w rows hw hr)

-- ---- both together

pub inserted_reduced : (f : Field) (n p place : ℕ) (w : List ℕ) (rows : List (List ℕ)) (ks : List ℕ) → AreReduced f n rows ks →
    IsNew f n p w ks → IsPlaceOf p ks place → AreReduced f n (with_row f p w place rows) (with_lead p place ks)
inserted_reduced f n p place w rows ks h new is = record {
  each = AreVectors-with_row f n p place w rows new.vector h.each;
  leads_are = Leads-with_row f n 0 p place w rows ks h.each h.leads_are new (omega arith) is;
  clear =
      Clear-with_row f n p place w rows ks h.each (count_leads n 0 rows ks h.leads_are) h.clear
      (λ i d l. (leads_above n 0 rows ks h.leads_are i d l).1) new is;
}
