-- The variables of the minor formula are variables, and all different.
use Rattle.std.proofs.Common.{◌≡◌, ℕ, zero, suc, ◌<◌, ◌≤◌, ◌+◌, Bool, true, false, ◌||◌, List, map, refl, ap, ap₂, arith, get_or}
use Rattle.std.specs.Prelude.{if◌then◌else◌, Some, None}
use Rattle.std.specs.List.{range_with_len}
use Rattle.std.specs.Str.{bytes_eq}
use Rattle.std.proofs.lemmas.Slice.Eq.{bytes_eq-Decides}
use Rattle.std.proofs.lemmas.Bool.{false_from_ne_true}
use Rattle.mm_formula.specs.Variables.{is_var, is_reserved, var_of}
use Rattle.mm_formula.specs.Repeats.{has}
use Rattle.mm_minor.specs.MinorFormula.{contracted, element}

pub contracted_is_var : is_var contracted ≡ true
unfolding is_reserved
contracted_is_var = refl

pub element_is_var : (i : ℕ) → i < 5 → is_var (element i) ≡ true
unfolding is_reserved
element_is_var zero l = refl
element_is_var (suc zero) l = refl
element_is_var (suc (suc zero)) l = refl
element_is_var (suc (suc (suc zero))) l = refl
element_is_var (suc (suc (suc (suc zero)))) l = refl
element_is_var (suc (suc (suc (suc (suc i))))) l = absurd (omega arith)

pub element_is_read : (i : ℕ) → i < 5 → var_of (element i) ≡ Some (element i)
element_is_read i l = ap (λ (b : Bool). if b then Some (element i) else None) (element_is_var i l)

pub elements_apart : (i j : ℕ) → (i ≡ j → ⊥) → bytes_eq (element i) (element j) ≡ false
elements_apart i j ne =
    false_from_ne_true (bytes_eq (element i) (element j))
    (λ t. let e : 49 + i ≡ 49 + j = ap (λ (v : List ℕ). get_or v 1 0) ((bytes_eq-Decides (element i) (element j)).0 t) in ne (omega (arith, e)))

pub element_same : (i : ℕ) → bytes_eq (element i) (element i) ≡ true
element_same i = (bytes_eq-Decides (element i) (element i)).1 refl

-- an element is none of those after it
pub element_not_after : (m a i : ℕ) → i < a → has (element i) (map element (range_with_len a m)) ≡ false
element_not_after zero a i l = refl
element_not_after (suc m) a i l =
    ap₂ (λ x y. x || y) (elements_apart i a (λ e. omega (arith, e, l))) (element_not_after m (a + 1) i (omega (arith, l)))

-- and none of those before it
pub element_not_before : (m a i : ℕ) → a + m ≤ i → has (element i) (map element (range_with_len a m)) ≡ false
element_not_before zero a i l = refl
element_not_before (suc m) a i l =
    ap₂ (λ x y. x || y) (elements_apart i a (λ e. omega (arith, e, l))) (element_not_before m (a + 1) i (omega (arith, l)))

-- the contracted set is no element
pub contracted_not_element : (m a : ℕ) → has contracted (map element (range_with_len a m)) ≡ false
contracted_not_element zero a = refl
contracted_not_element (suc m) a = contracted_not_element m (a + 1)

pub element_not_contracted : (i : ℕ) → bytes_eq (element i) contracted ≡ false
element_not_contracted i = refl
