-- Parts made from a formula: each goes before those that it stands on, and its table is empty.
use Rattle.std.specs.Prelude.{◌≡◌, ℕ, ◌+◌, Bool, true, false, List, [], ◌∷◌, ◌++◌, map, length, take, drop}
use Rattle.mm_field.specs.declared.Field.{Field}
use Rattle.mm_logic.specs.Formula.{Formula}
use Rattle.mm_logic.specs.Occurrence.{nodes}
use Rattle.mm_states.specs.Lists.{AllFit}
use Rattle.mm_states.specs.Memos.{joins_answer, no_answers}
use Rattle.mm_base_auto.specs.declared.atom.Atom.{Atom}
use Rattle.mm_base_auto.specs.OneAtom.{atom_shape, atom_field, atom_values, atom_marked}
use Rattle.mm_machine.specs.declared.part.Part.{Part}
use Rattle.mm_machine.specs.declared.part.Node.{Node}
use Rattle.mm_machine.specs.declared.part.Node.TheVariants as node
use Rattle.mm_machine.specs.declared.part.Quantifier.{Quantifier}
use Rattle.mm_machine.specs.Parts.{views, IsSound, IsFormulaOver}
use Rattle.mm_machine.specs.Blocks.{blocks_of, cuts_of}
use Rattle.mm_machine.specs.Empties.{emptied}
use Rattle.mm_machine.specs.Shapes.{head_shape, shapes}
use Rattle.mm_machine.specs.Machines.{IsPartOf}

-- an atom over f without values
pub record IsNewAtom (f : Field) (a : Atom) : Type 0 where
  pub over : IsFormulaOver (atom_shape a) (atom_field a) f
  pub values : atom_values a ≡ []
  pub marked : atom_marked a ≡ []

-- the node of a quantifier over sets, or over elements, without values
abbrev pub IsNewQuantifier : Quantifier → (sets : Bool) → (slot : ℕ) → Node → Type 0
IsNewQuantifier q true k (node.Set r s t) = (r ≡ q) × (s.number ≡ k) × (t ≡ record { values = []; mark = 0 })
IsNewQuantifier q false k (node.One r s t) = (r ≡ q) × (s.number ≡ k) × (t ≡ record { values = []; mark = 0 })
IsNewQuantifier q sets k n = ⊥

-- a part with this node, which remembers nothing, was put last
pub record Pushes (n : Node) (olds news : List Part) : Type 0 where
  pub part : Part
  pub node : part.node ≡ n
  pub memo : joins_answer part.memo ≡ no_answers
  pub last : news ≡ olds ++ part ∷ []

-- the tables of the parts are empty, now and at the last mark, and nothing is remembered
pub record AreNew (ps : List Part) : Type 0 where
  pub blocks : blocks_of [] ps ≡ map emptied (blocks_of [] ps)
  pub cuts : cuts_of [] ps ≡ blocks_of [] ps

-- the parts of F over f, put before others
pub record Built (f : Field) (F : Formula) (olds news : List Part) : Type 0 where
  pub shape : head_shape (shapes news) ≡ F
  pub behind : drop (length (nodes F)) news ≡ olds
  pub long : length news ≡ length (nodes F) + length olds
  pub new : AreNew olds → AreNew news
  pub sound : IsSound (blocks_of [] olds) → IsSound (blocks_of [] news)
  pub over : AllFit (IsPartOf F f) (take (length (nodes F)) (views (blocks_of [] news)))
