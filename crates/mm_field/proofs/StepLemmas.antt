-- One entry of a kernel: b + c*a, as each field's loop computes it.
use Rattle.std.proofs.Common.{ℕ, ◌+◌, ◌-◌, ◌*◌, ◌%◌, ◌<◌, ◌≤◌, ◌≡◌, Bool, eqb, eqb-true, bit_xor, refl, subst, arith, sym, ap, ◌∙◌}
use Rattle.std.proofs.Math.Nat.{add-mod-mod}
use Rattle.mm_field.specs.declared.Field.{Field}
use Rattle.mm_field.specs.declared.Field.TheVariants.{Two, Three, Four, Five}
use Rattle.mm_field.specs.Digits.{order, digit_sum, digit_product, plus, times}
use Rattle.mm_field.proofs.Tables.{passes_at2, passes_at3}

-- b + c*a by the rules of the field, of digits
abbrev step : Field → ℕ → ℕ → ℕ → ℕ
step f c a b = digit_sum f (b % order f) (digit_product f (c % order f) (a % order f) % order f)

abbrev two_test : ℕ → ℕ → Bool
two_test a b = eqb (bit_xor b a) (step Two 1 a b)

pub two_step : (a b : ℕ) → a < 2 → b < 2 → bit_xor b a ≡ plus Two b (times Two 1 a)
unfolding plus times
two_step a b la lb = eqb-true _ _ (passes_at2 2 two_test refl a b la lb)

abbrev three_test : ℕ → ℕ → ℕ → Bool
three_test c a b = eqb ((b + c * a) % 3) (step Three c a b)

pub three_step : (c a b : ℕ) → c < 3 → a < 3 → b < 3 → (b + c * a) % 3 ≡ plus Three b (times Three c a)
unfolding plus times
three_step c a b lc la lb = eqb-true _ _ (passes_at3 3 three_test refl c a b lc la lb)

-- ---- over GF(4)

abbrev four_sum_test : ℕ → ℕ → Bool
four_sum_test b p = eqb (bit_xor b p) (digit_sum Four (b % 4) (p % 4))

pub four_sum : (b p : ℕ) → b < 4 → p < 4 → bit_xor b p ≡ plus Four b p
unfolding plus
four_sum b p lb lp = eqb-true _ _ (passes_at2 4 four_sum_test refl b p lb lp)

pub four_once : (a : ℕ) → a < 4 → a ≡ times Four 1 a
unfolding times
four_once a l = eqb-true _ _ (passes_at2 4 (λ (x y : ℕ). eqb x (digit_product Four 1 (x % 4))) refl a a l l)

pub four_low : (a : ℕ) → a < 2 → a + a ≡ times Four 2 a
unfolding times
four_low a l = eqb-true _ _ (passes_at2 2 (λ (x y : ℕ). eqb (x + x) (digit_product Four 2 (x % 4))) refl a a l l)

pub four_high : (a : ℕ) → 2 ≤ a → a < 4 → bit_xor (a + a) 7 ≡ times Four 2 a
unfolding times
four_high a m l =
    let e : a - 2 + 2 ≡ a = omega arith in
    let small : a - 2 < 2 = omega arith in
    subst (λ (x : ℕ). bit_xor (x + x) 7 ≡ digit_product Four 2 (x % 4)) e
    (eqb-true _ _ (passes_at2 2 (λ (x y : ℕ). eqb (bit_xor (x + 2 + (x + 2)) 7) (digit_product Four 2 ((x + 2) % 4))) refl (a - 2) (a - 2) small small))

pub four_thrice : (a p : ℕ) → a < 4 → p ≡ times Four 2 a → bit_xor a p ≡ times Four 3 a
unfolding times
four_thrice a p l e =
    ap (bit_xor a) e ∙ eqb-true _ _ (passes_at2 4 (λ (x y : ℕ). eqb (bit_xor x (digit_product Four 2 (x % 4))) (digit_product Four 3 (x % 4))) refl a a l l)

abbrev five_test : ℕ → ℕ → ℕ → Bool
five_test c a b = eqb ((b + c * a) % 5) (step Five c a b)

pub five_step : (c a b : ℕ) → c < 5 → a < 5 → b < 5 → (b + c * a) % 5 ≡ plus Five b (times Five c a)
unfolding plus times
five_step c a b lc la lb = eqb-true _ _ (passes_at3 5 five_test refl c a b lc la lb)

-- in a sum, a number may stand for another with the same remainder
pub same_rest : (q b m n : ℕ) → m % q ≡ n % q → (b + m) % q ≡ (b + n) % q
same_rest q b m n e = sym (add-mod-mod b m q) ∙ ap (λ k. (b + k) % q) e ∙ add-mod-mod b n q
