-- What a reader of vectors owes, over plain lists.
use Rattle.std.proofs.Common.{set, subst, ℕ, ◌+◌, ◌-◌, ◌<◌, ◌≤◌, ◌≡◌, List, [], ◌∷◌, inl, inr, length, map, get_or, take, refl, sym, ap, ◌∙◌, arith, length-append}
use Rattle.std.proofs.lemmas.List.{get_or-set_same, get_or-set_other, length-map, get_or-map, length-replicate, length-take-le, get_or-take, get_or_append_left, ext_get_or}
use Rattle.std.proofs.lemmas.List.Elements.{All-from_get_or}
use Rattle.std.proofs.lemmas.Bool.{cases_lt, cases_eq}
use Rattle.mm_linear.proofs.SpaceLemmas.{padded_past}
use Rattle.mm_field.specs.declared.Field.{Field}
use Rattle.mm_field.specs.Digits.{order}
use Rattle.mm_field.specs.Vectors.{zeros}
use Rattle.mm_linear.specs.Padded.{padded}
use Rattle.mm_space.specs.VectorText.{vector_text, IsVectorText}
use Rattle.mm_space.specs.StoredDigits.{ZeroAfter}

-- an array that has zeros from place n on is its first n digits and then zeros
pub stored_back : (n : ℕ) (digits : List ℕ) → n ≤ 24 → length digits ≡ 24 → ZeroAfter n digits → padded 24 (take n digits) ≡ digits
stored_back n digits l e none =
    let lk : length (take n digits) ≡ n = length-take-le n digits (omega arith) in
    let lz : length (zeros (24 - length (take n digits))) ≡ 24 - length (take n digits) = length-replicate (24 - length (take n digits)) 0 in
    let lp : length (padded 24 (take n digits)) ≡ 24 = length-append (take n digits) (zeros (24 - length (take n digits))) ∙ omega arith in
    ext_get_or 0 (padded 24 (take n digits)) digits (lp ∙ sym e)
    (λ k less.
    elim (cases_lt k n) [
      | inl before ↦ get_or_append_left (take n digits) (zeros (24 - length (take n digits))) 0 k (omega arith) ∙ get_or-take n digits k 0 before
      | inr ge ↦ padded_past 24 (take n digits) k (omega arith) (omega arith) ∙ sym (none k ge (omega arith))
    ])

pub vector_text-digits : (v : List ℕ) → 0 < length v → vector_text v ≡ map (λ x. 48 + x) v
vector_text-digits [] l = absurd (omega arith)
vector_text-digits (d ∷ v) l = refl

-- one byte or more that show digits are the text of these digits
pub text_of_digits : (f : Field) (v bytes : List ℕ) → 0 < length bytes → length bytes ≤ 18 → length v ≡ length bytes →
    ((k : ℕ) → k < length bytes → (get_or v k 0 < order f) × (get_or v k 0 + 48 ≡ get_or bytes k 0)) → IsVectorText f v bytes
text_of_digits f v bytes some short same each = record {
  digits = All-from_get_or (λ d. d < order f) v 0 (λ k l. (each k (omega arith)).0);
  short = omega arith;
  text =
      ext_get_or 0 bytes (map (λ x. 48 + x) v) (sym same ∙ sym (length-map v (λ x. 48 + x)))
      (λ k l. let e = (each k l).1 in omega arith ∙ sym (get_or-map (λ x. 48 + x) v k 0 0 (omega arith)))
      ∙ sym (vector_text-digits v (omega arith));
}

-- the text of a vector of some digits is as long as the vector, and each byte of it shows a digit
pub digits_of_text : (f : Field) (v bytes : List ℕ) → IsVectorText f v bytes → (bytes ≡ 45 ∷ [] → ⊥) →
    (length v ≡ length bytes) × ((k : ℕ) → k < length bytes → (48 ≤ get_or bytes k 0) × (get_or bytes k 0 < 48 + order f))
digits_of_text f [] bytes h not_dash = absurd (not_dash h.text)
digits_of_text f (d ∷ v) bytes h not_dash =
    let same : length bytes ≡ length (d ∷ v) = ap length h.text ∙ length-map (d ∷ v) (λ x. 48 + x) in (
      sym same,
      (λ k l.
          let small = h.digits k 0 (omega arith) in
          let e : get_or bytes k 0 ≡ 48 + get_or (d ∷ v) k 0 =
          ap (λ b. get_or b k 0) h.text ∙ get_or-map (λ x. 48 + x) (d ∷ v) k 0 0 (omega arith) in
          (omega arith, omega arith)),
    )

-- one digit more
pub one_digit_more : (f : Field) (digits bytes : List ℕ) (i d : ℕ) → i < length digits → d < order f → d + 48 ≡ get_or bytes i 0 →
    ((k : ℕ) → k < i → (get_or digits k 0 < order f) × (get_or digits k 0 + 48 ≡ get_or bytes k 0)) →
    (k : ℕ) → k < i + 1 → (get_or (set digits i d) k 0 < order f) × (get_or (set digits i d) k 0 + 48 ≡ get_or bytes k 0)
one_digit_more f digits bytes i d room below shows done k l =
    elim (cases_eq k i) [
      | inl e ↦
          subst (λ j. (get_or (set digits i d) j 0 < order f) × (get_or (set digits i d) j 0 + 48 ≡ get_or bytes j 0)) (sym e)
          (subst (λ x. (x < order f) × (x + 48 ≡ get_or bytes i 0)) (sym (get_or-set_same digits i d 0 room)) (below, shows))
      | inr ne ↦
          subst (λ x. (x < order f) × (x + 48 ≡ get_or bytes k 0)) (sym (get_or-set_other digits i k d 0 ne)) (done k (omega arith))
    ]
