-- What makes the digits with their sum and product a field.
use Rattle.std.specs.Prelude.{ℕ, ◌<◌, ◌≡◌, ◌≢◌}
use Rattle.mm_field.specs.declared.Field.{Field}
use Rattle.mm_field.specs.Digits.{order, plus, times, negative, inverse}

-- The digits of f are a field: sums and products are associative and commutative, products distribute over sums, 0 and 1 are
-- neutral and differ, each digit has a negative, and each digit other than 0 an inverse.
pub record IsField (f : Field) : Type 0 where
  pub zero_and_one : 1 < order f
  pub sums : (a b : ℕ) → plus f a b < order f
  pub products : (a b : ℕ) → times f a b < order f
  pub negatives : (a : ℕ) → negative f a < order f
  pub inverses : (a : ℕ) → inverse f a < order f
  pub sum_associates : (a b c : ℕ) → plus f (plus f a b) c ≡ plus f a (plus f b c)
  pub sum_commutes : (a b : ℕ) → plus f a b ≡ plus f b a
  pub zero_is_neutral : (a : ℕ) → a < order f → plus f a 0 ≡ a
  pub negative_cancels : (a : ℕ) → plus f a (negative f a) ≡ 0
  pub product_associates : (a b c : ℕ) → times f (times f a b) c ≡ times f a (times f b c)
  pub product_commutes : (a b : ℕ) → times f a b ≡ times f b a
  pub one_is_neutral : (a : ℕ) → a < order f → times f a 1 ≡ a
  pub inverse_cancels : (a : ℕ) → a < order f → a ≢ 0 → times f a (inverse f a) ≡ 1
  pub product_distributes : (a b c : ℕ) → times f a (plus f b c) ≡ plus f (times f a b) (times f a c)
