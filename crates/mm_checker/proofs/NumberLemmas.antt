-- The set of a list of numbers that does not fall: each number once.
use Rattle.std.proofs.Common.{◌≡◌, ◌≢◌, ◌==◌, ℕ, Bool, true, false, not, if◌then◌else◌, suc, ◌+◌, ◌-◌, ◌<◌, ◌≤◌, List, [], ◌∷◌, ◌++◌, length, take, refl, sym, ap, ◌∙◌, subst, arith}
use Rattle.std.specs.Prelude.{slice_index_or}
use Rattle.std.specs.List.Sorted.{IsNonDecreasingBy, IsPermutation}
use Rattle.std.specs.Ordering.{nat_cmp}
use Rattle.std.specs.Cmp.{nat_cmp_total}
use Rattle.std.specs.FinMap.{nat_cmp-IsAntisymmetric}
use Rattle.std.specs.declared.cmp.Ordering.{Ordering}
use Rattle.std.specs.declared.cmp.Ordering.TheVariants.{Less, Equal, Greater}
use Rattle.std.proofs.lemmas.List.{get_or-take, length-take-le}
use Rattle.std.proofs.lemmas.List.Sorted.{list_any-IsPermutation}
use Rattle.std.proofs.Math.Seq.{take-suc}
use Rattle.mm_logic.specs.Order.{insert, normal, by_order}
use Rattle.mm_logic.proofs.SetLemmas.{normal-same}

less : (x y : ℕ) → x < y → nat_cmp x y ≡ Less
less x y l = grind arith

tied : (y : ℕ) → nat_cmp y y ≡ Equal
tied y = grind arith

insert_push : (x y : ℕ) (ws : List ℕ) → x < y → insert nat_cmp x (ws ++ y ∷ []) ≡ insert nat_cmp x ws ++ y ∷ []
insert_push x y [] l = ap (λ r. by_order r (x ∷ y ∷ []) (y ∷ []) (y ∷ insert nat_cmp x [])) (less x y l)
insert_push x y (w ∷ ws) l = by (insert_push x y ws l) (nat_cmp x w)
  where
    by : insert nat_cmp x (ws ++ y ∷ []) ≡ insert nat_cmp x ws ++ y ∷ [] → (r : Ordering) → by_order r (x ∷ w ∷ (ws ++ y ∷ [])) (w ∷ (ws ++ y ∷ [])) (w ∷ insert nat_cmp x (ws ++ y ∷ [])) ≡ by_order r (x ∷ w ∷ ws) (w ∷ ws) (w ∷ insert nat_cmp x ws) ++ y ∷ []
    by ih Less = refl
    by ih Equal = refl
    by ih Greater = ap (λ zs. w ∷ zs) ih

-- a number above all others comes last
normal_push : (xs : List ℕ) (y : ℕ) → ((i : ℕ) → i < length xs → slice_index_or xs i 0 < y) → normal nat_cmp (xs ++ y ∷ []) ≡ normal nat_cmp xs ++ y ∷ []
normal_push [] y h = refl
normal_push (x ∷ xs) y h =
    ap (insert nat_cmp x) (normal_push xs y (λ i l. h (suc i) (omega (arith, l))))
    ∙ insert_push x y (normal nat_cmp xs) (h 0 (omega arith))

normal_front : (xs ys zs : List ℕ) → normal nat_cmp ys ≡ normal nat_cmp zs → normal nat_cmp (xs ++ ys) ≡ normal nat_cmp (xs ++ zs)
normal_front [] ys zs h = h
normal_front (x ∷ xs) ys zs h = ap (insert nat_cmp x) (normal_front xs ys zs h)

append_two : (xs : List ℕ) (y z : ℕ) → (xs ++ y ∷ []) ++ z ∷ [] ≡ xs ++ y ∷ z ∷ []
append_two [] y z = refl
append_two (x ∷ xs) y z = ap (λ zs. x ∷ zs) (append_two xs y z)

-- a number again adds none
normal_again : (xs : List ℕ) (y : ℕ) → normal nat_cmp ((xs ++ y ∷ []) ++ y ∷ []) ≡ normal nat_cmp (xs ++ y ∷ [])
normal_again xs y =
    ap (normal nat_cmp) (append_two xs y y)
    ∙ normal_front xs (y ∷ y ∷ []) (y ∷ []) (ap (λ r. by_order r (y ∷ y ∷ []) (y ∷ []) (y ∷ insert nat_cmp y [])) (tied y))

-- ---- a list that does not fall, up to its number i

below_next : (xs : List ℕ) (i : ℕ) → IsNonDecreasingBy (λ n. n) xs → i + 1 < length xs → slice_index_or xs i 0 ≢ slice_index_or xs (i + 1) 0
    → (k : ℕ) → k < length (take (i + 1) xs) → slice_index_or (take (i + 1) xs) k 0 < slice_index_or xs (i + 1) 0
below_next xs i up l other k m =
    let short : length (take (i + 1) xs) ≡ i + 1 = length-take-le (i + 1) xs (omega (arith, l)) in
    let at : slice_index_or (take (i + 1) xs) k 0 ≡ slice_index_or xs k 0 = get_or-take (i + 1) xs k 0 (omega (arith, m, short)) in
    let low : slice_index_or xs k 0 ≤ slice_index_or xs i 0 = up k i 0 (omega (arith, m, short)) (omega (arith, l)) in
    let next : slice_index_or xs i 0 ≤ slice_index_or xs (i + 1) 0 = up i (i + 1) 0 (omega arith) l in
    grind (arith, at, low, next, other)

suc_is : (n : ℕ) → n + 1 ≡ suc n
suc_is n = grind arith

-- the first number is a new one
pub once_first : (xs : List ℕ) (i : ℕ) → i ≡ 0 → i < length xs → normal nat_cmp (take (i + 1) xs) ≡ normal nat_cmp (take i xs) ++ slice_index_or xs i 0 ∷ []
once_first xs i e l =
    subst (λ k. normal nat_cmp (take (k + 1) xs) ≡ normal nat_cmp (take k xs) ++ slice_index_or xs k 0 ∷ []) (sym e) (at xs (subst (λ k. k < length xs) e l))
  where
    at : (ys : List ℕ) → 0 < length ys → normal nat_cmp (take 1 ys) ≡ slice_index_or ys 0 0 ∷ []
    at [] m = absurd (omega (arith, m))
    at (y ∷ ys) m = refl

-- and another is one where it is not the number before it
pub once_next : (xs : List ℕ) (i : ℕ) → IsNonDecreasingBy (λ n. n) xs → i ≢ 0 → i < length xs → (b : Bool)
    → b ≡ not (slice_index_or xs (i - 1) 0 == slice_index_or xs i 0)
    → normal nat_cmp (take (i + 1) xs) ≡ (if b then normal nat_cmp (take i xs) ++ slice_index_or xs i 0 ∷ [] else normal nat_cmp (take i xs))
once_next xs i up some l b e =
    let before : (i - 1) + 1 ≡ i = grind (arith, some) in
    subst (λ k. normal nat_cmp (take (k + 1) xs) ≡ (if b then normal nat_cmp (take k xs) ++ slice_index_or xs k 0 ∷ [] else normal nat_cmp (take k xs))) before
    (at (i - 1) (subst (λ k. k < length xs) (sym before) l) b (e ∙ ap (λ k. not (slice_index_or xs (i - 1) 0 == slice_index_or xs k 0)) (sym before)))
  where
    at : (k : ℕ) → k + 1 < length xs → (b : Bool) → b ≡ not (slice_index_or xs k 0 == slice_index_or xs (k + 1) 0)
        → normal nat_cmp (take ((k + 1) + 1) xs) ≡ (if b then normal nat_cmp (take (k + 1) xs) ++ slice_index_or xs (k + 1) 0 ∷ [] else normal nat_cmp (take (k + 1) xs))
    at k m true e =
        let other : slice_index_or xs k 0 ≢ slice_index_or xs (k + 1) 0 = grind (arith, e) in
        ap (λ n. normal nat_cmp (take n xs)) (suc_is (k + 1))
        ∙ ap (normal nat_cmp) (take-suc xs (k + 1) 0 m)
        ∙ normal_push (take (k + 1) xs) (slice_index_or xs (k + 1) 0) (below_next xs k up m other)
    at k m false e =
        let same : slice_index_or xs k 0 ≡ slice_index_or xs (k + 1) 0 = grind (arith, e) in
        let last : take (k + 1) xs ≡ take k xs ++ slice_index_or xs k 0 ∷ [] = ap (λ n. take n xs) (suc_is k) ∙ take-suc xs k 0 (omega (arith, m)) in
        ap (λ n. normal nat_cmp (take n xs)) (suc_is (k + 1))
        ∙ ap (normal nat_cmp) (take-suc xs (k + 1) 0 m ∙ (λ j. last j ++ sym same j ∷ []))
        ∙ normal_again (take k xs) (slice_index_or xs k 0)
        ∙ sym (ap (normal nat_cmp) last)

-- ---- the numbers in another order

pub once_sorted : (xs ys : List ℕ) → IsPermutation xs ys → normal nat_cmp ys ≡ normal nat_cmp xs
once_sorted xs ys h = normal-same nat_cmp_total nat_cmp-IsAntisymmetric ys xs (λ p. sym (list_any-IsPermutation p xs ys h))
