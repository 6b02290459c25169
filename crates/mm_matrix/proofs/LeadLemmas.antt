-- Rows before their leads: there they are zero, and taking away a multiple of a row changes nothing.
use Rattle.std.proofs.Common.{ℕ, zero, suc, ◌<◌, ◌≤◌, ◌≡◌, List, [], ◌∷◌, ◌++◌, length, take, drop, get_or, sym, ap, ap₂, ◌∙◌, arith, take-append-drop}
use Rattle.std.proofs.lemmas.List.{length-take-le, length-replicate}
use Rattle.std.proofs.lemmas.List.Elements.{All-take}
use Rattle.mm_field.specs.declared.Field.{Field}
use Rattle.mm_field.specs.Digits.{order}
use Rattle.mm_field.specs.Vectors.{zeros, vector_sum, multiple, IsVector}
use Rattle.mm_field.proofs.VectorLemmas.{multiple-zeros, vector_sum-zeros}
use Rattle.mm_field.proofs.CombinationLemmas.{vector_sum-append, multiple-append}
use Rattle.mm_linear.specs.ReducedEchelon.{Leads}
use Rattle.mm_linear.proofs.PivotLemmas.{take-shorter, cut-ended}

pub zero_before : (k : ℕ) (v : List ℕ) → take (suc k) v ≡ zeros k ++ (1 ∷ []) → take k v ≡ zeros k
zero_before k v e = sym (take-shorter k (suc k) v (omega arith)) ∙ ap (take k) e ∙ cut-ended k k (omega arith)

pub zero_before_lead : (n from : ℕ) (rows : List (List ℕ)) (ks : List ℕ) → Leads n from rows ks → (i d : ℕ) → i < length ks →
    take (get_or ks i d) (get_or rows i []) ≡ zeros (get_or ks i d)
zero_before_lead n from [] [] h i d l = absurd (omega arith)
zero_before_lead n from [] (x ∷ ks) h i d l = absurd h
zero_before_lead n from (v ∷ vs) [] h i d l = absurd h
zero_before_lead n from (v ∷ vs) (x ∷ ks) h zero d l = zero_before x v h.2
zero_before_lead n from (v ∷ vs) (x ∷ ks) h (suc i) d l = zero_before_lead n (suc x) vs ks h.3 i d (omega arith)

pub sum_from_lead : (f : Field) (n p c : ℕ) (w row : List ℕ) → IsVector f n row → p ≤ n → take p w ≡ zeros p →
    take p row ++ vector_sum f (drop p row) (multiple f c (drop p w)) ≡ vector_sum f row (multiple f c w)
sum_from_lead f n p c w row h l z =
    let first : IsVector f p (take p row) =
    record { len = length-take-le p row (let e = h.len in omega arith); digits = All-take (λ d. d < order f) p row h.digits } in
    let same : multiple f c w ≡ zeros p ++ multiple f c (drop p w) =
    ap (multiple f c) (sym (take-append-drop p w)) ∙ multiple-append f c (take p w) (drop p w)
    ∙ ap (λ u. u ++ multiple f c (drop p w)) (ap (multiple f c) z ∙ multiple-zeros f c p) in
    ap (λ u. u ++ vector_sum f (drop p row) (multiple f c (drop p w))) (sym (vector_sum-zeros f p (take p row) first))
    ∙ sym (vector_sum-append f (take p row) (drop p row) (zeros p) (multiple f c (drop p w)) (first.len ∙ sym (length-replicate p 0)))
    ∙ ap₂ (vector_sum f) (take-append-drop p row) (sym same)
