-- Types, of what the program holds: a formula on a tree, where marks give the assignment.
use Rattle.std.specs.Prelude.{ℕ, Bool, List, map}
use Rattle.mm_field.specs.declared.Field.{Field}
use Rattle.mm_logic.specs.Marks.{assign}
use Rattle.mm_logic.specs.Types as types
use Rattle.mm_logic.specs.Value.{Value}
use Rattle.mm_reference_meaning.specs.Formulas.{formula_of, marks_of}
use Rattle.mm_reference_meaning.specs.Trees.{tree_of}
use Rattle.mm_reference_meaning.specs.declared.meaning.Formula.{Formula}
use Rattle.mm_reference_meaning.specs.declared.tree.Tree.{Tree}

-- the type of a formula
abbrev pub type_at : Field → Formula → Tree → List (List Bool) → Value
type_at f F T ms = types.type_of f (formula_of F) (tree_of T) (map marks_of ms)

-- the type of a formula with the set X as slot k
abbrev pub type_with : Field → Formula → Tree → ℕ → List (List Bool) → List Bool → Value
type_with f F T k ms X = types.type_of f (formula_of F) (tree_of T) (assign k X (map marks_of ms))
