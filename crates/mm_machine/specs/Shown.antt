-- The type of an atom with a number, as it is shown.
use Rattle.std.specs.Prelude.{ℕ, List, ◌∷◌, slice_index_or}
use Rattle.mm_logic.specs.Value.Value.{Dead}
use Rattle.mm_base_auto.specs.Atoms.{shown}
use Rattle.mm_base_auto.specs.declared.value.AtomValue.{AtomValue}
use Rattle.mm_base_auto.specs.declared.value.AtomValue.TheVariants as shown_as
use Rattle.mm_machine.specs.Parts.{Block}

abbrev pub shown_in : List Block → ℕ → AtomValue
shown_in (Block.Atom F g t ∷ ps) id = shown g F (slice_index_or t.values id Dead)
shown_in _ id = shown_as.Unit
