-- Sets of elements split at a join.
use Rattle.std.specs.Prelude.{◌≡◌, ◌<◌, ℕ, ◌+◌, ◌-◌, nat_lt, Bool, if◌then◌else◌, List, ◌++◌, length}
use Rattle.mm_logic.specs.Marks.{none, only}
use Rattle.mm_logic.specs.Operator.{Op}
use Rattle.mm_logic.specs.Tree.{Tree, size}
use Rattle.mm_logic.specs.Tree.Tree.{Join}

-- P of the left child and Q of the right child together are X
pub record IsSplit (l r : Tree) (X P Q : List Bool) : Type 0 where
  pub left : length P ≡ size l
  pub right : length Q ≡ size r
  pub whole : P ++ Q ≡ X

-- A set of elements of a join is a set of elements of the left child with one of the right child, in exactly one way.
abbrev pub SetsSplitOnce : Type 0
SetsSplitOnce =
    (op : Op) (l r : Tree) (X : List Bool) → length X ≡ size (Join op l r)
    → (P Q : List Bool) × IsSplit l r X P Q × ((P' Q' : List Bool) → IsSplit l r X P' Q' → (P' ≡ P) × (Q' ≡ Q))

-- An element of a child of a join, by its number there.
pub data ChildElement : Type 0 where
  OfLeft : ℕ → ChildElement
  OfRight : ℕ → ChildElement

-- Element k of a join is this one: the elements of the right child come after those of the left.
abbrev pub IsElement : Tree → Tree → ℕ → ChildElement → Type 0
IsElement l r k (OfLeft i) = (i < size l) × (k ≡ i)
IsElement l r k (OfRight i) = (i < size r) × (k ≡ size l + i)

-- k of the left child where k is below the number of its elements, else k less that number of the right child
abbrev pub element_at : Tree → ℕ → ChildElement
element_at l k = if nat_lt k (size l) then OfLeft k else OfRight (k - size l)

-- Each element of a join is exactly one element of one child, by its position.
abbrev pub ElementsSplitOnce : Type 0
ElementsSplitOnce =
    (op : Op) (l r : Tree) (k : ℕ) → k < size (Join op l r)
    → IsElement l r k (element_at l k) × ((other : ChildElement) → IsElement l r k other → other ≡ element_at l k)

-- The set of element i of the left child alone is, in the join, that set with no element of the right child; and the other way round.
abbrev pub SinglesSplitOnce : Type 0
SinglesSplitOnce =
    (op : Op) (l r : Tree) (i : ℕ)
    → (i < size l → only (size (Join op l r)) i ≡ only (size l) i ++ none (size r))
    × (i < size r → only (size (Join op l r)) (size l + i) ≡ none (size l) ++ only (size r) i)
