-- Least sets: the first of the sets of elements that satisfy a formula, by weight and then by leaf word.
use Rattle.std.specs.Prelude.{◌≡◌, ◌⊎◌, ℕ, Bool, true, false, ℤ, pos, ◌+ℤ◌, ◌<ℤ◌, int_lt, if◌then◌else◌, ◌&&◌, ◌||◌, not, Option, Some, None, List, [], ◌∷◌, length, filter, All, Contains}
use Rattle.mm_field.specs.declared.Field.{Field}
use Rattle.mm_logic.specs.Formula.{Formula}
use Rattle.mm_logic.specs.Marks.{assign, unmarked, sets}
use Rattle.mm_logic.specs.Tree.{Tree, size}
use Rattle.mm_logic.specs.Meaning.{Holds, holds}
use Rattle.mm_logic.specs.Value.{Value}

-- The weight of a set is the sum of the weights of its elements; ws are the weights of all elements, in leaf order.
abbrev pub weight : List ℤ → List Bool → ℤ
weight [] X = pos 0
weight (w ∷ ws) [] = pos 0
weight (w ∷ ws) (true ∷ X) = w +ℤ weight ws X
weight (w ∷ ws) (false ∷ X) = weight ws X

-- X precedes Y where it lacks the first element, in leaf order, at which they differ: its leaf word is the lesser.
abbrev pub precedes : List Bool → List Bool → Bool
precedes [] Y = false
precedes (x ∷ X) [] = false
precedes (false ∷ X) (true ∷ Y) = true
precedes (true ∷ X) (false ∷ Y) = false
precedes (false ∷ X) (false ∷ Y) = precedes X Y
precedes (true ∷ X) (true ∷ Y) = precedes X Y

-- X is before Y where it weighs less, or as much and precedes it.
abbrev pub IsBefore : List ℤ → List Bool → List Bool → Type 0
IsBefore ws X Y = (weight ws X <ℤ weight ws Y) ⊎ ((weight ws X ≡ weight ws Y) × (precedes X Y ≡ true))

-- X is the first of the sets of n elements with the property P: it has P, and it is before each other set with P.
pub record IsFirst (ws : List ℤ) (n : ℕ) (P : List Bool → Type 0) (X : List Bool) : Type 0 where
  pub size : length X ≡ n
  pub member : P X
  pub best : (Y : List Bool) → length Y ≡ n → P Y → (X ≡ Y) ⊎ IsBefore ws X Y

-- each of the sets is the first of its type, and each set of n elements has the type of one of them
pub record AreFirsts (ws : List ℤ) (n : ℕ) (type : List Bool → Value) (rows : List (List Bool)) : Type 0 where
  pub firsts : All (λ A. IsFirst ws n (λ Y. type Y ≡ type A) A) rows
  pub complete : (Y : List Bool) → length Y ≡ n → (A : List Bool) × Contains rows A × (type A ≡ type Y)

-- the same, decided
abbrev pub is_before : List ℤ → List Bool → List Bool → Bool
is_before ws X Y = int_lt (weight ws X) (weight ws Y) || (not (int_lt (weight ws Y) (weight ws X)) && precedes X Y)

-- the first of X and more sets
abbrev pub first_of : List ℤ → List Bool → List (List Bool) → List Bool
first_of ws X [] = X
first_of ws X (Y ∷ Ys) = first_of ws (if is_before ws Y X then Y else X) Ys

abbrev pub first_set : List ℤ → List (List Bool) → Option (List Bool)
first_set ws [] = None
first_set ws (X ∷ Xs) = Some (first_of ws X Xs)

-- the sets that satisfy F as its sought variable, which is slot 0
abbrev pub Satisfies : Field → Formula → Tree → List Bool → Type 0
Satisfies f F T A = Holds f F T (assign 0 A (unmarked (size T)))

-- The least set of a formula: the first of the sets that satisfy it.
abbrev pub IsLeastSet : Field → Formula → Tree → List ℤ → List Bool → Type 0
IsLeastSet f F T ws A = IsFirst ws (size T) (Satisfies f F T) A

-- whether A satisfies F
abbrev pub holds_of : Field → Formula → Tree → List Bool → Bool
holds_of f F T A = holds f F T (assign 0 A (unmarked (size T)))

-- The least set, by listing all sets, or nothing where no set satisfies F.
abbrev pub least : Field → Formula → Tree → List ℤ → Option (List Bool)
least f F T ws = first_set ws (filter (holds_of f F T) (sets (size T)))
