-- Counts, and what is asked of a tree.
use Rattle.std.specs.Prelude.{◌≡◌, ◌<◌, ◌≤◌, ◌^◌, ℕ, Option, Some, None, List}
use Rattle.mm_field.specs.declared.Field.{Field}
use Rattle.mm_logic.specs.StateSize.{Query, types, state_size}
use Rattle.mm_logic.specs.Value.{Value}
use Rattle.mm_reference_meaning.specs.Asked.{CanAsk}
use Rattle.mm_reference_meaning.specs.Formulas.{formula_of}
use Rattle.mm_reference_meaning.specs.Trees.{tree_of}
use Rattle.mm_reference_meaning.specs.declared.meaning.Formula.{Formula}
use Rattle.mm_reference.specs.declared.sizes.Question.{Question}
use Rattle.mm_reference.specs.declared.sizes.Question.TheVariants.{Decide, Least}
use Rattle.mm_reference_meaning.specs.declared.tree.Tree.{Tree}

-- a count of n, which is nothing where n is 2^64 or more
abbrev pub IsCount : ℕ → Option ℕ → Type 0
IsCount n (Some k) = k ≡ n
IsCount n None = 2 ^ 64 ≤ n

-- the question, of the formula
abbrev pub query_of : Question → Formula → Query
query_of Decide F = Query.Decide (formula_of F)
query_of Least F = Query.Least (formula_of F)

-- the types at all nodes of the tree
abbrev pub types_of : Field → Question → Formula → Tree → List Value
types_of f Q F T = types f (query_of Q F) (tree_of T)

-- the state size of the tree
abbrev pub size_of : Field → Question → Formula → Tree → ℕ
size_of f Q F T = state_size f (query_of Q F) (tree_of T)

-- The program may not be asked, or the state size is 2^64 or more.
abbrev pub CannotCount : Field → Question → Formula → Tree → Type 0
CannotCount f Q F T = CanAsk f F (tree_of T) → size_of f Q F T < 2 ^ 64 → ⊥
