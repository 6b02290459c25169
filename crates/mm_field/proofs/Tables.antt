-- Laws of the four fields, each by a test over the whole table.
use Rattle.std.proofs.Common.{ℕ, ◌%◌, ◌<◌, ◌≡◌, ◌≢◌, inl, inr, Bool, true, ◌&&◌, ◌||◌, eqb, eqb-true, ltb, ltb-true, refl, arith, zero, suc, lit<, ◌≤◌}
use Rattle.std.proofs.lemmas.Bool.{and_parts, or_cases, cases_eq}
use Rattle.mm_field.specs.declared.Field.{Field}
use Rattle.mm_field.specs.declared.Field.TheVariants.{Two, Three, Four, Five}
use Rattle.mm_field.specs.Digits.{order, digit_sum, digit_product, digit_negative, digit_inverse, plus, times, negative, inverse}

-- whether a test passes at every number below n
abbrev pub passes_below : ℕ → (ℕ → Bool) → Bool
passes_below zero p = true
passes_below (suc n) p = p n && passes_below n p

pub passes_at : (n : ℕ) (p : ℕ → Bool) → passes_below n p ≡ true → (k : ℕ) → k < n → p k ≡ true
passes_at zero p h k l = absurd (omega arith)
passes_at (suc n) p h k l =
    let both = and_parts (p n) (passes_below n p) h in
    elim (cases_eq k n) [
      | inl e ↦ rw e both.0
      | inr ne ↦ passes_at n p both.1 k (omega arith)
    ]

pub passes_at3 : (n : ℕ) (p : ℕ → ℕ → ℕ → Bool) →
    passes_below n (λ a. passes_below n (λ b. passes_below n (λ c. p a b c))) ≡ true →
    (a b c : ℕ) → a < n → b < n → c < n → p a b c ≡ true
passes_at3 n p h a b c la lb lc =
    passes_at n (λ c. p a b c)
    (passes_at n (λ b. passes_below n (λ c. p a b c))
    (passes_at n (λ a. passes_below n (λ b. passes_below n (λ c. p a b c))) h a la) b lb) c lc

pub passes_at2 : (n : ℕ) (p : ℕ → ℕ → Bool) → passes_below n (λ a. passes_below n (λ b. p a b)) ≡ true →
    (a b : ℕ) → a < n → b < n → p a b ≡ true
passes_at2 n p h a b la lb =
    passes_at n (λ b. p a b) (passes_at n (λ a. passes_below n (λ b. p a b)) h a la) b lb

pub order-most : (f : Field) → order f ≤ 5
order-most Two = omega arith
order-most Three = omega arith
order-most Four = omega arith
order-most Five = omega arith

pub digit_below : (f : Field) (a : ℕ) → a % order f < order f
digit_below Two a = omega arith
digit_below Three a = omega arith
digit_below Four a = omega arith
digit_below Five a = omega arith

pub digit_same : (f : Field) (a : ℕ) → a < order f → a % order f ≡ a
digit_same Two a l = omega arith
digit_same Three a l = omega arith
digit_same Four a l = omega arith
digit_same Five a l = omega arith

pub passes_at1 : (n : ℕ) (p : ℕ → Bool) → passes_below n (λ a. p a) ≡ true → (a : ℕ) → a < n → p a ≡ true
passes_at1 n p h a l = passes_at n (λ a. p a) h a l

abbrev plus_assoc_at : Field → ℕ → ℕ → ℕ → Bool
plus_assoc_at f a b c = eqb (digit_sum f (digit_sum f a b % order f) c) (digit_sum f a (digit_sum f b c % order f))

plus_assoc_test : (f : Field) → passes_below (order f) (λ a. passes_below (order f) (λ b. passes_below (order f) (λ c. plus_assoc_at f a b c))) ≡ true
plus_assoc_test Two = refl
plus_assoc_test Three = refl
plus_assoc_test Four = refl
plus_assoc_test Five = refl

pub plus_assoc : (f : Field) (a b c : ℕ) → plus f (plus f a b) c ≡ plus f a (plus f b c)
unfolding plus
plus_assoc f a b c =
    eqb-true _ _ (passes_at3 (order f) (plus_assoc_at f) (plus_assoc_test f) (a % order f) (b % order f) (c % order f) (digit_below f a) (digit_below f b) (digit_below f c))

abbrev plus_comm_at : Field → ℕ → ℕ → Bool
plus_comm_at f a b = eqb (digit_sum f a b) (digit_sum f b a)

plus_comm_test : (f : Field) → passes_below (order f) (λ a. passes_below (order f) (λ b. plus_comm_at f a b)) ≡ true
plus_comm_test Two = refl
plus_comm_test Three = refl
plus_comm_test Four = refl
plus_comm_test Five = refl

pub plus_comm : (f : Field) (a b : ℕ) → plus f a b ≡ plus f b a
unfolding plus
plus_comm f a b =
    eqb-true _ _ (passes_at2 (order f) (plus_comm_at f) (plus_comm_test f) (a % order f) (b % order f) (digit_below f a) (digit_below f b))

abbrev times_assoc_at : Field → ℕ → ℕ → ℕ → Bool
times_assoc_at f a b c = eqb (digit_product f (digit_product f a b % order f) c) (digit_product f a (digit_product f b c % order f))

times_assoc_test : (f : Field) → passes_below (order f) (λ a. passes_below (order f) (λ b. passes_below (order f) (λ c. times_assoc_at f a b c))) ≡ true
times_assoc_test Two = refl
times_assoc_test Three = refl
times_assoc_test Four = refl
times_assoc_test Five = refl

pub times_assoc : (f : Field) (a b c : ℕ) → times f (times f a b) c ≡ times f a (times f b c)
unfolding times
times_assoc f a b c =
    eqb-true _ _ (passes_at3 (order f) (times_assoc_at f) (times_assoc_test f) (a % order f) (b % order f) (c % order f) (digit_below f a) (digit_below f b) (digit_below f c))

abbrev times_comm_at : Field → ℕ → ℕ → Bool
times_comm_at f a b = eqb (digit_product f a b) (digit_product f b a)

times_comm_test : (f : Field) → passes_below (order f) (λ a. passes_below (order f) (λ b. times_comm_at f a b)) ≡ true
times_comm_test Two = refl
times_comm_test Three = refl
times_comm_test Four = refl
times_comm_test Five = refl

pub times_comm : (f : Field) (a b : ℕ) → times f a b ≡ times f b a
unfolding times
times_comm f a b =
    eqb-true _ _ (passes_at2 (order f) (times_comm_at f) (times_comm_test f) (a % order f) (b % order f) (digit_below f a) (digit_below f b))

abbrev times-plus_at : Field → ℕ → ℕ → ℕ → Bool
times-plus_at f a b c = eqb (digit_product f a (digit_sum f b c % order f)) (digit_sum f (digit_product f a b % order f) (digit_product f a c % order f))

times-plus_test : (f : Field) → passes_below (order f) (λ a. passes_below (order f) (λ b. passes_below (order f) (λ c. times-plus_at f a b c))) ≡ true
times-plus_test Two = refl
times-plus_test Three = refl
times-plus_test Four = refl
times-plus_test Five = refl

pub times-plus : (f : Field) (a b c : ℕ) → times f a (plus f b c) ≡ plus f (times f a b) (times f a c)
unfolding plus times
times-plus f a b c =
    eqb-true _ _ (passes_at3 (order f) (times-plus_at f) (times-plus_test f) (a % order f) (b % order f) (c % order f) (digit_below f a) (digit_below f b) (digit_below f c))

abbrev times-zero_at : Field → ℕ → Bool
times-zero_at f a = eqb (digit_product f a (0 % order f)) (0)

times-zero_test : (f : Field) → passes_below (order f) (λ a. times-zero_at f a) ≡ true
times-zero_test Two = refl
times-zero_test Three = refl
times-zero_test Four = refl
times-zero_test Five = refl

pub times-zero : (f : Field) (a : ℕ) → times f a 0 ≡ 0
unfolding times
times-zero f a =
    eqb-true _ _ (passes_at1 (order f) (times-zero_at f) (times-zero_test f) (a % order f) (digit_below f a))

abbrev plus-opp_at : Field → ℕ → Bool
plus-opp_at f a = eqb (digit_sum f a (digit_negative f a % order f)) (0)

plus-opp_test : (f : Field) → passes_below (order f) (λ a. plus-opp_at f a) ≡ true
plus-opp_test Two = refl
plus-opp_test Three = refl
plus-opp_test Four = refl
plus-opp_test Five = refl

pub plus-negative : (f : Field) (a : ℕ) → plus f a (negative f a) ≡ 0
unfolding plus negative
plus-negative f a =
    eqb-true _ _ (passes_at1 (order f) (plus-opp_at f) (plus-opp_test f) (a % order f) (digit_below f a))

abbrev negative-times_at : Field → ℕ → Bool
negative-times_at f a = eqb (digit_negative f a) (digit_product f (digit_negative f (1 % order f) % order f) a)

negative-times_test : (f : Field) → passes_below (order f) (λ a. negative-times_at f a) ≡ true
negative-times_test Two = refl
negative-times_test Three = refl
negative-times_test Four = refl
negative-times_test Five = refl

pub negative-times : (f : Field) (a : ℕ) → negative f a ≡ times f (negative f 1) a
unfolding negative times
negative-times f a =
    eqb-true _ _ (passes_at1 (order f) (negative-times_at f) (negative-times_test f) (a % order f) (digit_below f a))

abbrev plus_below_at : Field → ℕ → ℕ → Bool
plus_below_at f a b = ltb (digit_sum f a b) (order f)

plus_below_test : (f : Field) → passes_below (order f) (λ a. passes_below (order f) (λ b. plus_below_at f a b)) ≡ true
plus_below_test Two = refl
plus_below_test Three = refl
plus_below_test Four = refl
plus_below_test Five = refl

pub plus_below : (f : Field) (a b : ℕ) → plus f a b < order f
unfolding plus
plus_below f a b =
    ltb-true _ _ (passes_at2 (order f) (plus_below_at f) (plus_below_test f) (a % order f) (b % order f) (digit_below f a) (digit_below f b))

abbrev times_below_at : Field → ℕ → ℕ → Bool
times_below_at f a b = ltb (digit_product f a b) (order f)

times_below_test : (f : Field) → passes_below (order f) (λ a. passes_below (order f) (λ b. times_below_at f a b)) ≡ true
times_below_test Two = refl
times_below_test Three = refl
times_below_test Four = refl
times_below_test Five = refl

pub times_below : (f : Field) (a b : ℕ) → times f a b < order f
unfolding times
times_below f a b =
    ltb-true _ _ (passes_at2 (order f) (times_below_at f) (times_below_test f) (a % order f) (b % order f) (digit_below f a) (digit_below f b))

abbrev opp_below_at : Field → ℕ → Bool
opp_below_at f a = ltb (digit_negative f a) (order f)

opp_below_test : (f : Field) → passes_below (order f) (λ a. opp_below_at f a) ≡ true
opp_below_test Two = refl
opp_below_test Three = refl
opp_below_test Four = refl
opp_below_test Five = refl

pub negative_below : (f : Field) (a : ℕ) → negative f a < order f
unfolding negative
negative_below f a =
    ltb-true _ _ (passes_at1 (order f) (opp_below_at f) (opp_below_test f) (a % order f) (digit_below f a))

abbrev inverse_below_at : Field → ℕ → Bool
inverse_below_at f a = ltb (digit_inverse f a) (order f)

inverse_below_test : (f : Field) → passes_below (order f) (λ a. inverse_below_at f a) ≡ true
inverse_below_test Two = refl
inverse_below_test Three = refl
inverse_below_test Four = refl
inverse_below_test Five = refl

pub inverse_below : (f : Field) (a : ℕ) → inverse f a < order f
unfolding inverse
inverse_below f a =
    ltb-true _ _ (passes_at1 (order f) (inverse_below_at f) (inverse_below_test f) (a % order f) (digit_below f a))

abbrev plus_zero_digit_at : Field → ℕ → Bool
plus_zero_digit_at f a = eqb (digit_sum f (a % order f) (0 % order f)) (a)

plus_zero_digit_test : (f : Field) → passes_below (order f) (λ a. plus_zero_digit_at f a) ≡ true
plus_zero_digit_test Two = refl
plus_zero_digit_test Three = refl
plus_zero_digit_test Four = refl
plus_zero_digit_test Five = refl

pub plus_zero_digit : (f : Field) (a : ℕ) → a < order f → plus f a 0 ≡ a
unfolding plus
plus_zero_digit f a l =
    eqb-true _ _ (passes_at1 (order f) (plus_zero_digit_at f) (plus_zero_digit_test f) a l)

abbrev times_one_digit_at : Field → ℕ → Bool
times_one_digit_at f a = eqb (digit_product f (a % order f) (1 % order f)) (a)

times_one_digit_test : (f : Field) → passes_below (order f) (λ a. times_one_digit_at f a) ≡ true
times_one_digit_test Two = refl
times_one_digit_test Three = refl
times_one_digit_test Four = refl
times_one_digit_test Five = refl

pub times_one_digit : (f : Field) (a : ℕ) → a < order f → times f a 1 ≡ a
unfolding times
times_one_digit f a l =
    eqb-true _ _ (passes_at1 (order f) (times_one_digit_at f) (times_one_digit_test f) a l)

abbrev plus_digits_are_at : Field → ℕ → Bool
plus_digits_are_at f a = eqb (a) (a % order f)

plus_digits_are_test : (f : Field) → passes_below (order f) (λ a. plus_digits_are_at f a) ≡ true
plus_digits_are_test Two = refl
plus_digits_are_test Three = refl
plus_digits_are_test Four = refl
plus_digits_are_test Five = refl

pub plus_digits_are : (f : Field) (a : ℕ) → a < order f → a ≡ a % order f
plus_digits_are f a l =
    eqb-true _ _ (passes_at1 (order f) (plus_digits_are_at f) (plus_digits_are_test f) a l)

abbrev times-inverse_at : Field → ℕ → Bool
times-inverse_at f a = eqb a 0 || eqb (digit_product f (a % order f) (digit_inverse f (a % order f) % order f)) 1

times-inverse_test : (f : Field) → passes_below (order f) (λ a. times-inverse_at f a) ≡ true
times-inverse_test Two = refl
times-inverse_test Three = refl
times-inverse_test Four = refl
times-inverse_test Five = refl

pub times-inverse : (f : Field) (a : ℕ) → a < order f → a ≢ 0 → times f a (inverse f a) ≡ 1
unfolding times inverse
times-inverse f a l ne =
    elim (or_cases (eqb a 0) _ (passes_at1 (order f) (times-inverse_at f) (times-inverse_test f) a l)) [
      | inl z ↦ absurd (ne (eqb-true _ _ z))
      | inr e ↦ eqb-true _ _ e
    ]

pub zero_digit : (f : Field) → 0 < order f
zero_digit Two = lit< tt
zero_digit Three = lit< tt
zero_digit Four = lit< tt
zero_digit Five = lit< tt

pub one_digit : (f : Field) → 1 < order f
one_digit Two = lit< tt
one_digit Three = lit< tt
one_digit Four = lit< tt
one_digit Five = lit< tt

pub plus_digits : (f : Field) (a b : ℕ) → a < order f → b < order f → plus f a b ≡ digit_sum f a b
unfolding plus
plus_digits f a b la lb = rw (digit_same f a la, digit_same f b lb)

pub times_digits : (f : Field) (a b : ℕ) → a < order f → b < order f → times f a b ≡ digit_product f a b
unfolding times
times_digits f a b la lb = rw (digit_same f a la, digit_same f b lb)

pub opp_digit : (f : Field) (a : ℕ) → a < order f → negative f a ≡ digit_negative f a
unfolding negative
opp_digit f a la = rw (digit_same f a la)

pub inverse_digit : (f : Field) (a : ℕ) → a < order f → inverse f a ≡ digit_inverse f a
unfolding inverse
inverse_digit f a la = rw (digit_same f a la)
