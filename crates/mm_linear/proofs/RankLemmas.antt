-- The rank of echelon rows: the sum of the digits at the places i of rows i, each 0 or 1.
use Rattle.std.proofs.Common.{ℕ, zero, suc, ◌+◌, ◌<◌, ◌≤◌, ◌≡◌, ◌≢◌, inl, inr, List, get_or, refl, ap, ap₂, ◌∙◌, arith}
use Rattle.std.proofs.lemmas.Bool.{cases_eq}
use Rattle.mm_field.specs.declared.Field.{Field}
use Rattle.mm_field.specs.Digits.{plus, times, negative}
use Rattle.mm_field.specs.Vectors.{IsWithin}
use Rattle.mm_field.proofs.Tables.{times-zero, plus_zero_digit}
use Rattle.mm_linear.specs.Echelons.{entry, IsEchelon}
use Rattle.mm_linear.specs.Eliminate.{inserted}
use Rattle.mm_linear.proofs.EchelonLemmas.{entry_digit, entry_of_zero_row, pivot_kept}
use Rattle.mm_linear.proofs.InsertLemmas.{IsNewRow, inserted_new, inserted_entry, kept_where_zero, place_is_free}

abbrev pub rank_to : ℕ → List (List ℕ) → ℕ
rank_to zero rows = 0
rank_to (suc k) rows = entry rows k k + rank_to k rows

pub rank_same : (k : ℕ) (A B : List (List ℕ)) → ((i : ℕ) → i < k → entry A i i ≡ entry B i i) → rank_to k A ≡ rank_to k B
rank_same zero A B h = refl
rank_same (suc k) A B h = ap₂ (λ x y. x + y) (h k (omega arith)) (rank_same k A B (λ i l. h i (omega arith)))

pub rank_more : (k p : ℕ) (A B : List (List ℕ)) → p < k → ((i : ℕ) → i < k → i ≢ p → entry A i i ≡ entry B i i) →
    entry A p p ≡ 1 → entry B p p ≡ 0 → rank_to k A ≡ suc (rank_to k B)
rank_more zero p A B l h a b = absurd (omega arith)
rank_more (suc k) p A B l h a b =
    elim (cases_eq k p) [
      | inl e ↦
          let a' : entry A k k ≡ 1 = ap (λ m. entry A m m) e ∙ a in
          let b' : entry B k k ≡ 0 = ap (λ m. entry B m m) e ∙ b in
          let r : rank_to k A ≡ rank_to k B = rank_same k A B (λ i li. h i (omega arith) (λ q. absurd (omega arith))) in
          omega arith
      | inr ne ↦
          let s : entry A k k ≡ entry B k k = h k (omega arith) ne in
          let r : rank_to k A ≡ suc (rank_to k B) = rank_more k p A B (omega arith) (λ i li q. h i (omega arith) q) a b in
          omega arith
    ]

pub rank_at_most : (k : ℕ) (A B : List (List ℕ)) → ((i : ℕ) → i < k → entry A i i ≤ entry B i i) → rank_to k A ≤ rank_to k B
rank_at_most zero A B h = omega arith
rank_at_most (suc k) A B h =
    let s : entry A k k ≤ entry B k k = h k (omega arith) in
    let r : rank_to k A ≤ rank_to k B = rank_at_most k A B (λ i l. h i (omega arith)) in
    omega arith

-- a space within another has at most its rank
pub rank_within : (f : Field) (n : ℕ) (A B : List (List ℕ)) → IsEchelon f n A → IsEchelon f n B → IsWithin f n A B →
    rank_to n A ≤ rank_to n B
rank_within f n A B a b w =
    rank_at_most n A B
    (λ i l. elim (a.pivot i l) [
      | inl z ↦ (let e : entry A i i ≡ 0 = entry_of_zero_row n A i i l z in omega arith)
      | inr one ↦ (let e : entry B i i ≡ 1 = pivot_kept f n A B a b w i l one in omega arith)
    ])

-- one more row is one more rank
pub rank_inserted : (f : Field) (n p : ℕ) (w : List ℕ) (rows : List (List ℕ)) → IsEchelon f n rows → IsNewRow f n rows p w →
    rank_to n (inserted f p w rows) ≡ suc (rank_to n rows)
rank_inserted f n p w rows h new =
    rank_more n p (inserted f p w rows) rows new.place
    (λ i l ne.
    inserted_entry f n p w rows h new.vector i i l l ne
    ∙ elim (h.pivot i l) [
      | inl z ↦
          ap (λ x. plus f (entry rows i i) x)
          (kept_where_zero f (entry rows i p) (get_or w i 0) (entry_of_zero_row n rows i p new.place z))
          ∙ plus_zero_digit f (entry rows i i) (entry_digit f n rows h i i l l)
      | inr one ↦
          ap (λ x. plus f (entry rows i i) x)
          (ap (times f (negative f (entry rows i p))) (new.clean i l one) ∙ times-zero f (negative f (entry rows i p)))
          ∙ plus_zero_digit f (entry rows i i) (entry_digit f n rows h i i l l)
    ])
    (ap (λ r. get_or r p 0) (inserted_new f n p w rows h.count new.place) ∙ new.one)
    (entry_of_zero_row n rows p p new.place (place_is_free f n p w rows h new))
