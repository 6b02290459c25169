-- The first digit of a column that is not 0.
use Rattle.std.proofs.Common.{ℕ, zero, suc, ◌+◌, ◌<◌, ◌≡◌, ◌≢◌, Bool, true, false, ◌==◌, List, [], ◌∷◌, length, get_or, refl, ap, ◌∙◌, arith, Some}
use Rattle.std.specs.Prelude.{if◌then◌else◌}
use Rattle.std.proofs.lemmas.Bool.{eqb-true}
use Rattle.std.proofs.lemmas.List.Elements.{All-nil, All-cons}
use Rattle.mm_field.specs.declared.Field.{Field}
use Rattle.mm_field.specs.Digits.{order}
use Rattle.mm_field.specs.Vectors.{zeros}
use Rattle.mm_space.specs.DigitTexts.{vector_of}
use Rattle.mm_space.proofs.DigitTextLemmas.{vector_of_text}
use Rattle.mm_decomp.specs.BuiltTree.{first_digit}

skip : (b : Bool) (d : ℕ) (ds : List ℕ) → (d == 0) ≡ b → b ≡ true → first_digit (d ∷ ds) ≡ first_digit ds
skip b d ds e t = ap (λ (c : Bool). if c then first_digit ds else d ∷ []) (e ∙ t)

pub first_digit_none : (n : ℕ) → first_digit (zeros n) ≡ []
first_digit_none zero = refl
first_digit_none (suc n) = first_digit_none n

pub first_digit_at : (ds : List ℕ) (p : ℕ) → p < length ds → get_or ds p 0 ≢ 0 → ((k : ℕ) → k < p → get_or ds k 0 ≡ 0) →
    first_digit ds ≡ get_or ds p 0 ∷ []
first_digit_at [] p l ne z = absurd (omega arith)
first_digit_at (d ∷ ds) zero l ne z = go (d == 0) refl
  where
    go : (b : Bool) → (d == 0) ≡ b → first_digit (d ∷ ds) ≡ d ∷ []
    go true e = absurd (ne (eqb-true d 0 e))
    go false e = ap (λ (c : Bool). if c then first_digit ds else d ∷ []) e
first_digit_at (d ∷ ds) (suc p) l ne z =
    ap (λ (x : ℕ). if x == 0 then first_digit ds else x ∷ []) (z 0 (omega arith))
    ∙ first_digit_at ds p (omega arith) ne (λ k lk. z (suc k) (omega arith))

pub digit_read : (f : Field) (d shown : ℕ) → d < order f → shown ≡ 48 + d → vector_of f (shown ∷ []) ≡ Some (d ∷ [])
digit_read f d shown l e =
    vector_of_text f (d ∷ []) (shown ∷ []) (record {
      digits = All-cons (λ x. x < order f) d [] l (All-nil (λ x. x < order f));
      short = omega arith;
      text = ap (λ x. x ∷ []) e;
    })

pub dash_read : (f : Field) (shown : ℕ) → shown ≡ 45 → vector_of f (shown ∷ []) ≡ Some []
dash_read f shown e =
    vector_of_text f [] (shown ∷ []) (record { digits = All-nil (λ x. x < order f); short = omega arith; text = ap (λ x. x ∷ []) e })
