-- The subtrees of a tree, and the weights of sets.
use Rattle.std.proofs.Common.{◌≡◌, ◌≤◌, ◌+◌, ◌*◌, ℕ, suc, Bool, true, false, ℤ, ◌+ℤ◌, nat_abs, List, [], ◌∷◌, ◌++◌, length, get_or, All, refl, ap, ◌∙◌, arith, length-append}
use Rattle.std.specs.Prelude.{FitsSigned}
use Rattle.std.specs.Int.{w64}
use Rattle.std.proofs.lemmas.Int.{ints}
use Rattle.std.proofs.lemmas.List.{get_or_append_left, get_or-append-add, get_or_default}
use Rattle.std.proofs.lemmas.List.Elements.{All-nil, All-cons, All-append, All-head, All-tail}
use Rattle.mm_logic.specs.Least.{weight}
use Rattle.mm_logic.specs.Tree.{Tree, IsValid, subtrees}
use Rattle.mm_logic.specs.Tree.Tree.{Elem, Void, Join}
use Rattle.mm_logic_laws.specs.TreeLaws.{SubtreesAreValid, SubtreesAreInOrder, WeightsFit}

pub subtrees_valid : SubtreesAreValid
subtrees_valid f (Elem vec) ok = All-cons (IsValid f) (Elem vec) [] ok (All-nil (IsValid f))
subtrees_valid f (Void t) ok = All-cons (IsValid f) (Void t) [] ok (All-nil (IsValid f))
subtrees_valid f (Join op l r) ok =
    All-cons (IsValid f) (Join op l r) (subtrees l ++ subtrees r) ok
    (All-append (IsValid f) (subtrees l) (subtrees r) (subtrees_valid f l ok.3) (subtrees_valid f r ok.4))

next : (T : Tree) (Ts : List Tree) (k : ℕ) (d : Tree) → get_or (T ∷ Ts) (1 + k) d ≡ get_or Ts k d
next T Ts k d = ap (λ n. get_or (T ∷ Ts) n d) (let e : 1 + k ≡ suc k = omega arith in e)

pub subtrees_in_order : SubtreesAreInOrder
subtrees_in_order op l r =
    let T : Tree = Join op l r in
    let below : length (subtrees l ++ subtrees r) ≡ length (subtrees l) + length (subtrees r) = length-append (subtrees l) (subtrees r) in (
      omega arith,
      refl,
      (λ k h. next T (subtrees l ++ subtrees r) k T ∙ get_or_append_left (subtrees l) (subtrees r) T k h ∙ get_or_default (subtrees l) k T l h),
      (λ k h. next T (subtrees l ++ subtrees r) (length (subtrees l) + k) T ∙ get_or-append-add (subtrees l) (subtrees r) k T ∙ get_or_default (subtrees r) k T r h),
    )

-- ---- weights

abbrev most : ℕ
most = 1000000000000

both_within : (a b : ℤ) (m n : ℕ) → nat_abs a ≤ m → nat_abs b ≤ n → nat_abs (a +ℤ b) ≤ m + n
both_within a b m n h k = grind (arith, ints)

-- the weight of a set of some elements
weight-within : (ws : List ℤ) → All (λ w. nat_abs w ≤ 1000000000000) ws → (X : List Bool) → nat_abs (weight ws X) ≤ length ws * 1000000000000
weight-within [] h X = omega arith
weight-within (w ∷ ws) h [] = omega arith
weight-within (w ∷ ws) h (true ∷ X) =
    let rest = weight-within ws (All-tail (λ w. nat_abs w ≤ 1000000000000) w ws h) X in
    let own = All-head (λ w. nat_abs w ≤ 1000000000000) w ws h in
    let sum = both_within w (weight ws X) 1000000000000 (length ws * 1000000000000) own rest in
    omega arith
weight-within (w ∷ ws) h (false ∷ X) =
    let rest = weight-within ws (All-tail (λ w. nat_abs w ≤ 1000000000000) w ws h) X in omega arith

fits : (z : ℤ) → nat_abs z ≤ 8192000000000000 → FitsSigned w64 z
fits z h = grind (arith, ints)

pub weights_fit : WeightsFit
weights_fit ws few h X =
    let w = weight-within ws h X in
    let small : nat_abs (weight ws X) ≤ 8192000000000000 = omega arith in
    (small, fits (weight ws X) small)
