-- When the program may be asked.
use Rattle.std.specs.Prelude.{◌≡◌, ◌<◌, ◌^◌, ℕ, List}
use Rattle.mm_field.specs.declared.Field.{Field}
use Rattle.mm_logic.specs.Marks.{Marks, unmarked}
use Rattle.mm_logic.specs.PresentMatrix.{internal}
use Rattle.mm_logic.specs.Tree.{Tree, IsValid, size}
use Rattle.mm_reference_meaning.specs.Formulas.{SlotsBelow}
use Rattle.mm_reference_meaning.specs.declared.meaning.Formula.{Formula}

-- The tree is valid and has fewer than 2^32 internal rows, and the formula names no slot but those that an element has marks for.
pub record CanAsk (f : Field) (F : Formula) (T : Tree) : Type 0 where
  pub valid : IsValid f T
  pub small : internal T < 2 ^ 32
  pub slots : SlotsBelow 16 F

-- The program may be asked, and no element of the tree has a mark.
pub record IsAsked (f : Field) (F : Formula) (T : Tree) (ms : List Marks) : Type 0 where
  pub can : CanAsk f F T
  pub marks : ms ≡ unmarked (size T)

-- The program may not be asked, or n is not the number of elements of the tree.
abbrev pub CannotAskWith : Field → Formula → Tree → ℕ → Type 0
CannotAskWith f F T n = CanAsk f F T → n ≡ size T → ⊥
