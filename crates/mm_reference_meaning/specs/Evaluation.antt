-- Unions and truth, of what the program holds: a formula on a tree, where marks give the assignment.
use Rattle.std.specs.Prelude.{ℕ, Bool, true, false, List, map}
use Rattle.std.specs.List.{list_any, list_all}
use Rattle.mm_field.specs.declared.Field.{Field}
use Rattle.mm_logic.specs.Marks.{assign, sets, singles, unmarked}
use Rattle.mm_logic.specs.Meaning as meaning
use Rattle.mm_logic.specs.Tree.{size}
use Rattle.mm_reference_meaning.specs.Formulas.{term_of, formula_of, marks_of}
use Rattle.mm_reference_meaning.specs.Trees.{tree_of}
use Rattle.mm_reference_meaning.specs.declared.meaning.Domain.{Domain}
use Rattle.mm_reference_meaning.specs.declared.meaning.Domain.TheVariants.{Sets, Elements}
use Rattle.mm_reference_meaning.specs.declared.meaning.Formula.{Formula}
use Rattle.mm_reference_meaning.specs.declared.meaning.Term.{Term}
use Rattle.mm_reference_meaning.specs.declared.tree.Tree.{Tree}

-- the elements of the union of a term
abbrev pub union_of : Term → List (List Bool) → List Bool
union_of t ms = meaning.union (term_of t) (map marks_of ms)

-- whether a formula holds with the set X as slot k
abbrev pub holds_with : Field → Formula → Tree → ℕ → List (List Bool) → List Bool → Bool
holds_with f F T k ms X = meaning.holds f (formula_of F) (tree_of T) (assign k X (map marks_of ms))

-- a formula without free variables holds
abbrev pub HoldsOn : Field → Formula → Tree → Type 0
HoldsOn f F T = meaning.Holds f (formula_of F) (tree_of T) (unmarked (size (tree_of T)))

-- what a quantifier ranges over, for n elements: all sets of them, or the sets of one
abbrev pub choices_of : Domain → ℕ → List (List Bool)
choices_of Sets n = sets n
choices_of Elements n = singles n

-- The truth of a quantifier over some sets: with true, whether some of them passes the test; with false, whether each does.
abbrev pub truth_of : Bool → (List Bool → Bool) → List (List Bool) → Bool
truth_of true p Xs = list_any p Xs
truth_of false p Xs = list_all p Xs
