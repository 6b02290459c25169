-- The boundary space of all elements of a tree.
use Rattle.std.specs.Prelude.{◌≡◌, Option, Some, None, IfSome, replicate, true}
use Rattle.mm_field.specs.declared.Field.{Field}
use Rattle.mm_logic.specs.BoundarySpaces.{ind_type}
use Rattle.mm_logic.specs.Tree.{Tree, size, boundary}
use Rattle.mm_logic.specs.Value.{Value}
use Rattle.mm_logic.specs.Value.Value.{Dead, Span}
use Rattle.mm_space.specs.KeyValue.{KeyValue}

-- the value of `ind` that a space stands for; there is none where elements are dependent
abbrev pub value_of_space : Option KeyValue → Value
value_of_space None = Dead
value_of_space (Some key) = Span key.t key.rows

-- The space is the boundary space of all elements of the tree; there is none exactly where they are dependent.
pub record IsWholeSpace (f : Field) (T : Tree) (space : Option KeyValue) : Type 0 where
  pub value : value_of_space space ≡ ind_type f T (replicate (size T) true)
  pub over : IfSome space (λ key. (key.f ≡ f) × (key.t ≡ boundary T))
