-- The laws of the nodes of a tree, and of the weights of its elements.
use Rattle.std.specs.Prelude.{◌≡◌, ◌≤◌, ◌<◌, ℕ, ◌+◌, Bool, ℤ, nat_abs, FitsSigned, List, length, All, slice_index_or}
use Rattle.std.specs.Int.{w64}
use Rattle.mm_field.specs.declared.Field.{Field}
use Rattle.mm_logic.specs.Operator.{Op}
use Rattle.mm_logic.specs.Tree.{Tree, IsValid, subtrees}
use Rattle.mm_logic.specs.Tree.Tree.{Join}
use Rattle.mm_logic.specs.Least.{weight}

-- Each subtree of a valid tree is valid.
abbrev pub SubtreesAreValid : Type 0
SubtreesAreValid = (f : Field) (T : Tree) → IsValid f T → All (IsValid f) (subtrees T)

-- Subtree k of a tree, by the order of its nodes.
abbrev pub subtree : Tree → ℕ → Tree
subtree T k = slice_index_or (subtrees T) k T

-- The subtrees of a join are, in this order, the join itself, those of its left child, and those of its right child.
abbrev pub SubtreesAreInOrder : Type 0
SubtreesAreInOrder =
    (op : Op) (l r : Tree)
    → (length (subtrees (Join op l r)) ≡ 1 + (length (subtrees l) + length (subtrees r)))
    × (subtree (Join op l r) 0 ≡ Join op l r)
    × ((k : ℕ) → k < length (subtrees l) → subtree (Join op l r) (1 + k) ≡ subtree l k)
    × ((k : ℕ) → k < length (subtrees r) → subtree (Join op l r) (1 + (length (subtrees l) + k)) ≡ subtree r k)

-- The weight of a set of at most 8192 elements, each of a weight from -10^12 to 10^12, is at most 8192 times 10^12 up and down, and fits
-- an i64.
abbrev pub WeightsFit : Type 0
WeightsFit =
    (ws : List ℤ) → length ws ≤ 8192 → All (λ w. nat_abs w ≤ 1000000000000) ws → (X : List Bool)
    → (nat_abs (weight ws X) ≤ 8192000000000000) × FitsSigned w64 (weight ws X)
