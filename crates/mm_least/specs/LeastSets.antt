-- The sets that rows stand for, and the least set of a tree.
use Rattle.std.specs.Prelude.{◌≡◌, ◌⊎◌, ◌<◌, ◌≤◌, ◌<ℤ◌, ℕ, Bool, true, false, Option, Some, None, List, [], ◌∷◌, ◌++◌, map, length, slice_index_or}
use Rattle.std.specs.List.{items_where_true}
use Rattle.mm_field.specs.declared.Field.{Field}
use Rattle.mm_logic.specs.Formula.{Formula}
use Rattle.mm_logic.specs.Value.{Value}
use Rattle.mm_logic.specs.Marks.{assign, unmarked}
use Rattle.mm_logic.specs.Tree.{size}
use Rattle.mm_logic.specs.JoinRule.{joined, lettered}
use Rattle.mm_logic.specs.Acceptance.{accepts}
use Rattle.mm_logic.specs.Growth.{type_at}
use Rattle.mm_logic.specs.Least.{weight, precedes, IsFirst, AreFirsts}
use Rattle.mm_states.specs.Lists.{AllFit}
use Rattle.mm_tree.specs.NamedTree.{Tree, shape, weights, element_names}
use Rattle.mm_nodes.specs.KeptTrees.{KeptTree, top}
use Rattle.mm_nodes.specs.KeptTrees.KeptTree.{One, Two}
use Rattle.mm_least.specs.declared.best.Best.{Best}
use Rattle.mm_least.specs.declared.row.Row.{Row}
use Rattle.mm_least.specs.declared.row.Origin.{Origin}
use Rattle.mm_least.specs.declared.row.Origin.TheVariants.{Out, Taken, Pair}
use Rattle.mm_least.specs.NodeRowsValue.{NodeValue}
use Rattle.mm_least.specs.EmptySets.{ComesAt, ComesFromBoth}
use Rattle.mm_least.specs.LeastCalls.{StandFor}

-- ---- what is sought

-- the type of a set of elements of a tree, joined from the leaves upwards
abbrev pub type_of_set : Field → Formula → Tree → List Bool → Value
type_of_set f F T A = joined f F (lettered (shape T) (assign 0 A (unmarked (size (shape T)))))

-- The first, by weight and then by leaf word, of the sets of elements whose type is accepted, with its weight and the names of its elements
-- in leaf order.
pub record IsFirstAccepted (f : Field) (F : Formula) (T : Tree) (best : Best) : Type 0 where
  pub set : List Bool
  pub first : IsFirst (weights T) (size (shape T)) (λ A. accepts F (type_of_set f F T A) ≡ true) set
  pub weighs : best.weight ≡ weight (weights T) set
  pub named : best.names ≡ items_where_true set (element_names T)

-- the least set of a tree, or none where no set of elements has an accepted type
abbrev pub IsBest : Field → Formula → Tree → Option Best → Type 0
IsBest f F T (Some best) = IsFirstAccepted f F T best
IsBest f F T None = (A : List Bool) → length A ≡ size (shape T) → accepts F (type_of_set f F T A) ≡ false

-- the answer for whatever tree the rows stand for
abbrev pub IsBestOfRows : Formula → List (List Value) → KeptTree NodeValue → Option Best → Type 0
IsBestOfRows F lists R best = (f : Field) (T : Tree) → StandFor f F lists T R → IsBest f F T best

-- ---- the sets of rows

-- what a row of a join has: that of the left row that it comes from, and then that of the right one
abbrev pub of_origin : {X : Type 0} → (left right : List (List X)) → Origin → List X
of_origin left right (Pair i j) = slice_index_or left i [] ++ slice_index_or right j []
of_origin left right Out = []
of_origin left right Taken = []

-- what each row of the root has at the leaves that it comes from, from left to right
module _ {X : Type 0} (at_leaf : Option (List ℕ) → Origin → List X) where
  abbrev pub gathered : KeptTree NodeValue → List (List X)
  gathered (One n) = map (λ r. at_leaf n.name r.origin) n.rows
  gathered (Two n a b) = map (λ r. of_origin (gathered a) (gathered b) r.origin) n.rows

-- whether the element of a leaf is taken, where it has one
abbrev pub set_at_leaf : Option (List ℕ) → Origin → List Bool
set_at_leaf None o = []
set_at_leaf (Some name) Out = false ∷ []
set_at_leaf (Some name) Taken = true ∷ []
set_at_leaf (Some name) (Pair i j) = false ∷ []

-- the name of the element of a leaf, where it is taken
abbrev pub name_at_leaf : Option (List ℕ) → Origin → List (List ℕ)
name_at_leaf None o = []
name_at_leaf (Some name) Out = []
name_at_leaf (Some name) Taken = name ∷ []
name_at_leaf (Some name) (Pair i j) = []

-- the set of each row of the root
abbrev pub sets_of : KeptTree NodeValue → List (List Bool)
sets_of R = gathered set_at_leaf R

-- the names of the elements of the set of each row of the root
abbrev pub names_of : KeptTree NodeValue → List (List (List ℕ))
names_of R = gathered name_at_leaf R

-- each set precedes all later ones
abbrev pub IsAscending : List (List Bool) → Type 0
IsAscending [] = Unit {0}
IsAscending (X ∷ Xs) = AllFit (λ Y. precedes X Y ≡ true) Xs × IsAscending Xs

-- The rows of the root of what stands for a tree are the first sets of all types, each of its own type, in the order of their leaf words.
abbrev pub RowsAreFirstSets : Type 0
RowsAreFirstSets =
    (f : Field) (F : Formula) (lists : List (List Value)) (T : Tree) (R : KeptTree NodeValue) → StandFor f F lists T R
    → AreFirsts (weights T) (size (shape T)) (type_of_set f F T) (sets_of R)
    × (map (type_of_set f F T) (sets_of R) ≡ map (λ r. type_at F lists r.id) (top R).rows)
    × (map (weight (weights T)) (sets_of R) ≡ map (λ r. r.weight) (top R).rows)
    × IsAscending (sets_of R)

-- ---- how the least set is found

-- the two rows that a row of a join comes from are there
abbrev pub ComesFrom : (left right : ℕ) → Origin → Type 0
ComesFrom left right (Pair i j) = (i < left) × (j < right)
ComesFrom left right Out = Unit {0}
ComesFrom left right Taken = Unit {0}

-- each row comes from rows that are there, and what is known of an empty set is so
abbrev pub AreLinked : KeptTree NodeValue → Type 0
AreLinked (One n) = ComesAt n.rows Out n.nothing
AreLinked (Two n a b) =
    AllFit (λ r. ComesFrom (length (top a).rows) (length (top b).rows) r.origin) n.rows × AreLinked a × AreLinked b
    × ComesFromBoth (top a).nothing (top b).nothing n.rows n.nothing

-- whether the type of a row is accepted
abbrev pub is_accepted : Formula → List (List Value) → Row → Bool
is_accepted F lists r = accepts F (type_at F lists r.id)

-- row k is the first of the lightest of those before n that pass a test
pub record IsLightest (p : Row → Bool) (rows : List Row) (n k : ℕ) : Type 0 where
  pub within : k < n
  pub passes : (d : Row) → p (slice_index_or rows k d) ≡ true
  pub best : (j : ℕ) (d : Row) → j < n → p (slice_index_or rows j d) ≡ true
      → ((slice_index_or rows k d).weight <ℤ (slice_index_or rows j d).weight)
      ⊎ (((slice_index_or rows k d).weight ≡ (slice_index_or rows j d).weight) × (k ≤ j))

-- the first of the lightest of the rows before n that pass a test, or none where none passes
abbrev pub IsLightestBefore : (Row → Bool) → List Row → ℕ → Option ℕ → Type 0
IsLightestBefore p rows n None = (j : ℕ) (d : Row) → j < n → p (slice_index_or rows j d) ≡ false
IsLightestBefore p rows n (Some k) = IsLightest p rows n k
