-- What the program says of least sets.
use Rattle.std.specs.Prelude.{◌≡◌, ℕ, Bool, ℤ, Option, Some, None, List, [], length, filter, slice_index_or}
use Rattle.mm_field.specs.declared.Field.{Field}
use Rattle.mm_logic.specs.Formula.{Formula}
use Rattle.mm_logic.specs.Least.{Satisfies, IsLeastSet, holds_of}
use Rattle.mm_logic.specs.Marks.{sets}
use Rattle.mm_logic.specs.Tree.{Tree, size}
use Rattle.mm_reference_meaning.specs.declared.first_sets.LeastSet.{LeastSet}
use Rattle.mm_reference_meaning.specs.declared.first_sets.LeastSet.TheVariants.{Missing, Found}

-- What is found is the least set; it is missing where no set satisfies the formula.
abbrev pub IsAnswer : Field → Formula → Tree → List ℤ → LeastSet → Type 0
IsAnswer f F T ws Missing = (A : List Bool) → length A ≡ size T → Satisfies f F T A → ⊥
IsAnswer f F T ws (Found A) = IsLeastSet f F T ws A.items

-- the set at a place, where there is one
abbrev pub set_at : List (List Bool) → Option ℕ → Option (List Bool)
set_at sets None = None
set_at sets (Some i) = Some (slice_index_or sets i [])

-- the sets that satisfy a formula, in the order of their leaf words
abbrev pub satisfying_sets : Field → Formula → Tree → List (List Bool)
satisfying_sets f F T = filter (holds_of f F T) (sets (size T))
