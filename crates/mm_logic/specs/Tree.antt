-- Parse trees of represented matroids, without names and weights.
use Rattle.std.specs.Prelude.{◌≡◌, ◌≤◌, ℕ, ◌+◌, List, [], ◌∷◌, ◌++◌, length}
use Rattle.mm_field.specs.declared.Field.{Field}
use Rattle.mm_field.specs.Vectors.{AreDigits}
use Rattle.mm_logic.specs.Operator.{Op, IsValidOp}

-- A tree is a leaf with one element, whose boundary vector is given; a leaf without an element and with a boundary of t digits;
-- or the join of two trees by an operator.
pub data Tree : Type 0 where
  Elem : (vec : List ℕ) → Tree
  Void : (t : ℕ) → Tree
  Join : Op → Tree → Tree → Tree

-- How many elements a tree has. They are ordered from left to right, and this order is the leaf order.
abbrev pub size : Tree → ℕ
size (Elem vec) = 1
size (Void t) = 0
size (Join op l r) = size l + size r

-- How many digits the boundary of a tree has.
abbrev pub boundary : Tree → ℕ
boundary (Elem vec) = length vec
boundary (Void t) = t
boundary (Join op l r) = op.t3

-- A tree over f is valid where its vectors have digits of f, each leaf's boundary is at most 6, each operator is valid, and the
-- children of each join have the boundaries that its operator takes.
abbrev pub IsValid : Field → Tree → Type 0
IsValid f (Elem vec) = AreDigits f vec × (length vec ≤ 6)
IsValid f (Void t) = t ≤ 6
IsValid f (Join op l r) =
    IsValidOp f op × (boundary l ≡ op.t1) × (boundary r ≡ op.t2) × IsValid f l × IsValid f r

-- The trees below the nodes of a tree, one for each node: the tree itself, then those of its left and of its right child.
abbrev pub subtrees : Tree → List Tree
subtrees (Elem vec) = Elem vec ∷ []
subtrees (Void t) = Void t ∷ []
subtrees (Join op l r) = Join op l r ∷ (subtrees l ++ subtrees r)
