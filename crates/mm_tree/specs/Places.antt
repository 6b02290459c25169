-- Places of nodes: by their numbers, and some steps above a leaf.
use Rattle.std.specs.Prelude.{ℕ, zero, suc, ◌+◌, ◌-◌, ◌≡◌, ◌<◌, ◌≤◌, nat_lt, nat_le, true, false, List, [], ◌∷◌, length, take, Option, Some, None, if◌then◌else◌}
use Rattle.mm_tree.specs.NamedTree.{Tree, nodes}
use Rattle.mm_tree.specs.NamedTree.Tree.{Elem, Void, Join}
use Rattle.mm_tree.specs.Paths.{Path, path_to, number_at}
use Rattle.mm_tree.specs.declared.place.Place.{Place}
use Rattle.mm_tree.specs.declared.place.Reached.{Reached}
use Rattle.mm_tree.specs.declared.place.Reached.TheVariants.{Absent, Above, At}

-- The way to the node of a number: each join is counted before its left subtree, and this before the right one.
unfoldable pub path_of : ℕ → Tree → Path
path_of zero tree = []
path_of (suc k) (Elem n vec weight) = []
path_of (suc k) (Void n t) = []
path_of (suc k) (Join n op left right) = if nat_lt k (nodes left) then true ∷ path_of k left else false ∷ path_of (k - nodes left) right

-- The place is one of a node of the tree.
pub record IsPlaceOf (tree : Tree) (place : Place) : Type 0 where
  pub within : place.number < nodes tree
  pub deep : place.depth ≡ length (path_of place.number tree)

-- the way without its last steps, where it has so many
abbrev pub less_steps : ℕ → Option Path → Option Path
less_steps up None = None
less_steps up (Some path) = if nat_le up (length path) then Some (take (length path - up) path) else None

-- The way to the node so many steps above the leaf of a name. There is none where no leaf has the name or it is less deep.
abbrev pub path_above : List ℕ → ℕ → Tree → Option Path
path_above name up tree = less_steps up (path_to name tree)

-- the place at the end of a way
abbrev pub place_at : Tree → Path → Place
place_at tree path = record { number = number_at tree path; depth = length path }

abbrev pub place_at_end : Tree → Option Path → Option Place
place_at_end tree None = None
place_at_end tree (Some path) = Some (place_at tree path)

-- What a search for the node so many steps above a leaf finds below a node with this place: where no leaf has the name, how many nodes
-- there are; else how many steps are left above the node, or the place that was sought.
unfoldable pub IsReached : Tree → Place → ℕ → Option Path → Reached → Type 0
IsReached tree here up None (Absent passed) = passed ≡ nodes tree
IsReached tree here up (Some path) (Above steps) = (1 ≤ steps) × (length path + steps ≡ up)
IsReached tree here up (Some path) (At place) =
    (up ≤ length path) × (place.number ≡ here.number + number_at tree (take (length path - up) path)) × (place.depth ≡ here.depth + (length path - up))
IsReached tree here up path reached = ⊥

-- The way leads to a node of the tree.
unfoldable pub IsPath : Tree → Path → Type 0
IsPath tree [] = Unit {0}
IsPath (Join n op left right) (true ∷ path) = IsPath left path
IsPath (Join n op left right) (false ∷ path) = IsPath right path
IsPath tree (step ∷ path) = ⊥
