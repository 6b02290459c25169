-- The nodes of a tree in the order of its lines, and what a certificate says of each.
use Rattle.std.specs.Prelude.{ℕ, zero, suc, ◌+◌, Bool, true, false, ◌&&◌, ◌||◌, ◌==◌, not, nat_lt, ℤ, pos, ◌+ℤ◌, int_lt, List, [], ◌∷◌, ◌++◌, map, length, slice_get, Option, Some, None, if◌then◌else◌}
use Rattle.std.specs.List.{list_any, list_all, range_with_len}
use Rattle.mm_logic.specs.Operator.{Op}
use Rattle.mm_tree.specs.NamedTree.{Tree}
use Rattle.mm_tree.specs.NamedTree.Tree.{Elem, Void, Join}
use Rattle.mm_checker.specs.Claims.{LeafClaims, GlueClaims, at_leaf, at_glue, has_element}

-- ---- the lines of a tree

-- A leaf with its number, or the join of the last two trees by an operator with its name.
pub data TreeLine : Type 0 where
  OfLeaf : ℕ → Tree → TreeLine
  OfJoin : List ℕ → Op → TreeLine

-- the leaves of a tree, from left to right
abbrev pub leaves : Tree → List Tree
leaves (Elem name vec weight) = Elem name vec weight ∷ []
leaves (Void name t) = Void name t ∷ []
leaves (Join name op left right) = leaves left ++ leaves right

-- the nodes of a tree, each join after both its children; the leaves are numbered from k
abbrev pub lines_from : ℕ → Tree → List TreeLine
lines_from k (Elem name vec weight) = OfLeaf k (Elem name vec weight) ∷ []
lines_from k (Void name t) = OfLeaf k (Void name t) ∷ []
lines_from k (Join name op left right) = lines_from k left ++ (lines_from (k + length (leaves left)) right ++ OfJoin name op ∷ [])

-- ---- rows

-- A type of a node, and the lightest set that has it: the number of the type, the weight and the set, and where the set is from. At a
-- leaf x is 1 where its element is taken; at a join the set is that of row x of the left child with that of row y of the right one.
pub record Row : Type 0 where
  pub value : ℕ
  pub weight : ℤ
  pub x : ℕ
  pub y : ℕ
  pub set : List Bool

-- a tree with the rows of its root
pub record Rooted : Type 0 where
  pub tree : Tree
  pub rows : List Row

-- A set that a node may have, and the number of its type, where a claim gives it.
pub record Choice : Type 0 where
  pub value : Option ℕ
  pub weight : ℤ
  pub x : ℕ
  pub y : ℕ
  pub set : List Bool

-- the set of no element of a leaf
abbrev pub nothing_of : Tree → List Bool
nothing_of leaf = if has_element leaf then false ∷ [] else []

abbrev pub taken_at : Bool → LeafClaims → ℕ → Tree → Option Choice
taken_at true claims k (Elem name vec weight) = Some (record { value = at_leaf claims 0 k 1; weight = weight; x = 1; y = 0; set = true ∷ [] })
taken_at least claims k leaf = None

-- What may be chosen at leaf k: its element is left out, or it is taken, where a least set is sought.
abbrev pub leaf_choice : Bool → LeafClaims → ℕ → Tree → (x y : ℕ) → Option Choice
leaf_choice least claims k leaf zero zero =
    Some (record { value = at_leaf claims 0 k 0; weight = pos 0; x = 0; y = 0; set = nothing_of leaf })
leaf_choice least claims k leaf (suc zero) zero = taken_at least claims k leaf
leaf_choice least claims k leaf x y = None

-- What may be chosen at a join: a row of each child.
abbrev pub pair_of : GlueClaims → List ℕ → (x y : ℕ) → Option Row → Option Row → Option Choice
pair_of claims name x y (Some a) (Some b) = Some (record {
  value = at_glue claims 0 name a.value b.value;
  weight = a.weight +ℤ b.weight;
  x = x;
  y = y;
  set = a.set ++ b.set;
})
pair_of claims name x y a b = None

-- What may be chosen as (x, y) at a node, where the last trees stand first.
abbrev pub choice : Bool → LeafClaims → GlueClaims → List Rooted → TreeLine → (x y : ℕ) → Option Choice
choice least leaves glues trees (OfLeaf k leaf) x y = leaf_choice least leaves k leaf x y
choice least leaves glues (right ∷ left ∷ trees) (OfJoin name op) x y =
    pair_of glues name x y (slice_get left.rows x) (slice_get right.rows y)
choice least leaves glues trees (OfJoin name op) x y = None

-- how many x and how many y there are
abbrev pub lefts : Bool → List Rooted → TreeLine → ℕ
lefts least trees (OfLeaf k leaf) = if least && has_element leaf then 2 else 1
lefts least (right ∷ left ∷ trees) (OfJoin name op) = length left.rows
lefts least trees (OfJoin name op) = 0

abbrev pub rights : List Rooted → TreeLine → ℕ
rights trees (OfLeaf k leaf) = 1
rights (right ∷ left ∷ trees) (OfJoin name op) = length right.rows
rights trees (OfJoin name op) = 0

-- ---- what a node's rows must be

abbrev pub is_number : Option ℕ → ℕ → Bool
is_number None n = false
is_number (Some m) n = m == n

-- (x, y) is before (x', y')
abbrev pub is_earlier : (x y x' y' : ℕ) → Bool
is_earlier x y x' y' = nat_lt x x' || ((x == x') && nat_lt y y')

-- A row is at least as good as a choice where it has the same type and weighs less, or as much and does not come later.
abbrev pub is_as_good : Choice → Row → Bool
is_as_good c r =
    is_number c.value r.value
    && (int_lt r.weight c.weight || (not (int_lt c.weight r.weight) && not (is_earlier c.x c.y r.x r.y)))

-- A choice is met where some row is at least as good.
abbrev pub is_met : List Row → Option Choice → Bool
is_met rows None = false
is_met rows (Some c) = list_any (is_as_good c) rows

abbrev pub are_different : List ℕ → Bool
are_different [] = true
are_different (n ∷ ns) = not (list_any (λ m. n == m) ns) && are_different ns

module _ (least : Bool) (leaves : LeafClaims) (glues : GlueClaims) (trees : List Rooted) (node : TreeLine) where
  abbrev pub are_all_met : List Row → Bool
  are_all_met rows =
      list_all (λ x. list_all (λ y. is_met rows (choice least leaves glues trees node x y)) (range_with_len 0 (rights trees node)))
      (range_with_len 0 (lefts least trees node))

  -- A node passes where the types of its rows are all different and all its choices are met. (Where the formula is decided a node has
  -- one choice, and so one row.)
  abbrev pub node_passes : List Row → Bool
  node_passes rows = are_different (map (λ r. r.value) rows) && are_all_met rows

-- whether (x, y) comes after all rows
abbrev pub is_after : List Row → (x y : ℕ) → Bool
is_after rows x y = list_all (λ r. is_earlier r.x r.y x y) rows

abbrev pub row_if : Bool → (v x y : ℕ) → Choice → Option Row
row_if false v x y c = None
row_if true v x y c = Some (record { value = v; weight = c.weight; x = x; y = y; set = c.set })

-- The row (x, y) that a `has` line adds to others: it is a choice of the node that comes after theirs, with the value that a claim
-- gives and this weight.
abbrev pub next_row : List Row → (x y : ℕ) → Option Choice → (v : ℕ) → ℤ → Option Row
next_row rows x y None v w = None
next_row rows x y (Some c) v w =
    row_if (is_number c.value v && not (int_lt c.weight w) && not (int_lt w c.weight) && is_after rows x y) v x y c

-- the trees after a node, with these rows
abbrev pub with_node : List Rooted → TreeLine → List Row → List Rooted
with_node trees (OfLeaf k leaf) rows = record { tree = leaf; rows = rows } ∷ trees
with_node (right ∷ left ∷ trees) (OfJoin name op) rows = record { tree = Join name op left.tree right.tree; rows = rows } ∷ trees
with_node trees (OfJoin name op) rows = trees
