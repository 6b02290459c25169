-- Whether a tree may take the place of a node.
use Rattle.std.specs.Prelude.{ℕ, Bool, false, ◌==◌, not, List, [], ◌∷◌, length, Option, Some, None, nat_le, ◌≡◌, Ok, Err, if◌then◌else◌}
use Rattle.std.specs.declared.result.Result.{Result}
use Rattle.mm_tree.specs.NamedTree.{Tree, boundary, leaf_names, depth, is_one_of}
use Rattle.mm_tree.specs.NamedTree.Tree.{Elem, Void, Join}
use Rattle.mm_tree.specs.ValidTree.{most_leaves, most_depth}
use Rattle.mm_tree.specs.Paths.{Path, node_at, with_node, names_outside}
use Rattle.mm_tree.specs.declared.replace.ReplaceFault.{ReplaceFault}
use Rattle.mm_tree.specs.declared.replace.ReplaceFault.TheVariants.{Boundary, NameTaken, TooManyLeaves, TooDeep, NoMemory}

-- the first of some names that is taken
abbrev pub first_taken : (taken names : List (List ℕ)) → Option (List ℕ)
first_taken taken [] = None
first_taken taken (name ∷ names) = if is_one_of name taken then Some name else first_taken taken names

-- a tree is too large
abbrev pub size_fault : Tree → Option ReplaceFault
size_fault tree =
    if not (nat_le (length (leaf_names tree)) most_leaves) then Some TooManyLeaves else (
    if not (nat_le (depth tree) most_depth) then Some TooDeep else None)

abbrev pub name_fault : Option (List ℕ) → Option ReplaceFault → Option ReplaceFault
name_fault None other = other
name_fault (Some name) other = Some (NameTaken name)

-- Why the leaves of a tree may not take the place of those below a node: one outside the node has the name of one of them, or there would
-- be too many.
abbrev pub leaves_fault : Tree → Path → Tree → Option ReplaceFault
leaves_fault tree path new =
    name_fault (first_taken (names_outside tree path) (leaf_names new))
    (if not (nat_le (length (leaf_names (with_node tree path new))) most_leaves) then Some TooManyLeaves else None)

-- whether a tree is a leaf with the name of a leaf of another tree
abbrev pub is_leaf_of : (new old : Tree) → Bool
is_leaf_of (Elem name vec weight) old = is_one_of name (leaf_names old)
is_leaf_of (Void name t) old = is_one_of name (leaf_names old)
is_leaf_of (Join name op left right) old = false

-- Why a tree may not take the place of the node at the end of a way, the first that applies: their boundaries differ; a leaf outside
-- the node has the name of a leaf of the new tree; the tree would have too many leaves; or a leaf of it would be too deep.
unfoldable pub replace_fault : Tree → Path → Tree → Option ReplaceFault
replace_fault tree path new =
    if not (boundary (node_at tree path) == boundary new) then Some (Boundary (boundary (node_at tree path)) (boundary new)) else
    name_fault (first_taken (names_outside tree path) (leaf_names new)) (size_fault (with_node tree path new))

-- What a call that may take a tree in the place of a node answers; memory may be missing at any time.
abbrev pub Answers : Result (Unit {0}) ReplaceFault → Option ReplaceFault → Type 0
Answers (Ok u) fault = fault ≡ None
Answers (Err NoMemory) fault = Unit {0}
Answers (Err e) fault = fault ≡ Some e
