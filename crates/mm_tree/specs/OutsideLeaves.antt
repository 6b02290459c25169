-- What a walk has seen of the leaves outside a node: how many they are, and which of some names they have first.
use Rattle.std.specs.Prelude.{ℕ, ◌≡◌, ◌<◌, ◌+◌, List, Option, Some, None, fold, min}
use Rattle.std.specs.List.{position}
use Rattle.std.specs.Str.{bytes_eq}
use Rattle.mm_tree.specs.NamedTree.{Tree, leaf_names, nodes}
use Rattle.mm_tree.specs.Places.{path_of}
use Rattle.mm_tree.specs.Paths.{names_outside}
use Rattle.mm_tree.specs.declared.replace.Outside.{Outside}

-- the first of two places, where there are some
abbrev pub first_place : Option ℕ → Option ℕ → Option ℕ
first_place None j = j
first_place (Some i) None = Some i
first_place (Some i) (Some j) = Some (min i j)

-- One leaf more was seen. What is taken is the first place at which one of the leaves has one of the names.
abbrev pub with_leaf : (names : List (List ℕ)) → Outside → List ℕ → Outside
with_leaf names seen leaf = record { leaves = seen.leaves + 1; taken = first_place seen.taken (position (bytes_eq leaf) names) }

abbrev pub with_leaves : (names : List (List ℕ)) → Outside → List (List ℕ) → Outside
with_leaves names seen leaves = fold (with_leaf names) seen leaves

-- Below a tree with the node of this number, the leaves outside this node were seen, and there is no such node after it. Below any other
-- tree all leaves were seen, and the number is counted on.
abbrev pub IsSeen : Tree → Option ℕ → (names : List (List ℕ)) → (old new : Outside) → Option ℕ → Type 0
IsSeen tree None names old new None = new ≡ with_leaves names old (leaf_names tree)
IsSeen tree None names old new (Some rest) = ⊥
IsSeen tree (Some at) names old new None = (at < nodes tree) × (new ≡ with_leaves names old (names_outside tree (path_of at tree)))
IsSeen tree (Some at) names old new (Some rest) = (at ≡ nodes tree + rest) × (new ≡ with_leaves names old (leaf_names tree))

abbrev pub IsOneLess : (at less : Option ℕ) → Type 0
IsOneLess None None = Unit {0}
IsOneLess (Some k) (Some j) = k ≡ j + 1
IsOneLess at less = ⊥
