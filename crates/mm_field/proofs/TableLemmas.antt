-- The code's tables hold the sums, products, negatives and inverses of digits.
use Rattle.std.proofs.Common.{ℕ, ◌+◌, ◌-◌, ◌<◌, ◌≡◌, List, [], Bool, true, eqb, eqb-true, get_or, refl, sym, ◌∙◌, arith}
use Rattle.mm_field.specs.declared.Field.{Field}
use Rattle.mm_field.specs.declared.Field.TheVariants.{Two, Three, Four, Five}
use Rattle.mm_field.specs.declared.field_tables.TheConstants.{SUMS, PRODUCTS, NEGATIVES, INVERSES}
use Rattle.mm_field.specs.Digits.{order, digit_sum, digit_product, digit_negative, digit_inverse, plus, times, negative, inverse}
use Rattle.mm_field.proofs.Tables.{passes_below, passes_at1, passes_at2, plus_digits, times_digits, opp_digit, inverse_digit}

-- entry b of row a of a field's table
abbrev table_entry : List (List (List ℕ)) → ℕ → ℕ → ℕ → ℕ
table_entry table row a b = get_or (get_or (get_or table row []) a []) b 0

abbrev sums_test : Field → ℕ → ℕ → Bool
sums_test f a b = eqb (table_entry SUMS (order f - 2) a b) (digit_sum f a b)

sums_pass : (f : Field) → passes_below (order f) (λ a. passes_below (order f) (λ b. sums_test f a b)) ≡ true
sums_pass Two = refl
sums_pass Three = refl
sums_pass Four = refl
sums_pass Five = refl

pub sums_hold : (f : Field) (row a b : ℕ) → row + 2 ≡ order f → a < order f → b < order f → table_entry SUMS row a b ≡ plus f a b
sums_hold f row a b here la lb =
    let place : row ≡ order f - 2 = omega arith in
    rw place (eqb-true _ _ (passes_at2 (order f) (sums_test f) (sums_pass f) a b la lb) ∙ sym (plus_digits f a b la lb))

abbrev products_test : Field → ℕ → ℕ → Bool
products_test f a b = eqb (table_entry PRODUCTS (order f - 2) a b) (digit_product f a b)

products_pass : (f : Field) → passes_below (order f) (λ a. passes_below (order f) (λ b. products_test f a b)) ≡ true
products_pass Two = refl
products_pass Three = refl
products_pass Four = refl
products_pass Five = refl

pub products_hold : (f : Field) (row a b : ℕ) → row + 2 ≡ order f → a < order f → b < order f → table_entry PRODUCTS row a b ≡ times f a b
products_hold f row a b here la lb =
    let place : row ≡ order f - 2 = omega arith in
    rw place (eqb-true _ _ (passes_at2 (order f) (products_test f) (products_pass f) a b la lb) ∙ sym (times_digits f a b la lb))

abbrev negatives_test : Field → ℕ → Bool
negatives_test f a = eqb (get_or (get_or NEGATIVES (order f - 2) []) a 0) (digit_negative f a)

negatives_pass : (f : Field) → passes_below (order f) (λ a. negatives_test f a) ≡ true
negatives_pass Two = refl
negatives_pass Three = refl
negatives_pass Four = refl
negatives_pass Five = refl

pub negatives_hold : (f : Field) (row a : ℕ) → row + 2 ≡ order f → a < order f → get_or (get_or NEGATIVES row []) a 0 ≡ negative f a
negatives_hold f row a here la =
    let place : row ≡ order f - 2 = omega arith in
    rw place (eqb-true _ _ (passes_at1 (order f) (negatives_test f) (negatives_pass f) a la) ∙ sym (opp_digit f a la))

abbrev inverses_test : Field → ℕ → Bool
inverses_test f a = eqb (get_or (get_or INVERSES (order f - 2) []) a 0) (digit_inverse f a)

inverses_pass : (f : Field) → passes_below (order f) (λ a. inverses_test f a) ≡ true
inverses_pass Two = refl
inverses_pass Three = refl
inverses_pass Four = refl
inverses_pass Five = refl

pub inverses_hold : (f : Field) (row a : ℕ) → row + 2 ≡ order f → a < order f → get_or (get_or INVERSES row []) a 0 ≡ inverse f a
inverses_hold f row a here la =
    let place : row ≡ order f - 2 = omega arith in
    rw place (eqb-true _ _ (passes_at1 (order f) (inverses_test f) (inverses_pass f) a la) ∙ sym (inverse_digit f a la))
