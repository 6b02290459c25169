-- What a change of the operators' numbers leaves: the tables, and parts that are sound.
use Rattle.std.specs.Prelude.{◌≡◌, List, map}
use Rattle.mm_states.specs.Lists.{AllFit}
use Rattle.mm_states.specs.Memos.{joins_answer, no_answers}
use Rattle.mm_machine.specs.declared.part.Part.{Part}
use Rattle.mm_machine.specs.declared.part.Parts.{Parts}
use Rattle.mm_machine.specs.declared.part.Node.{Node}
use Rattle.mm_machine.specs.Parts.{IsSound}
use Rattle.mm_machine.specs.Blocks.{blocks, cuts}

abbrev pub node_of : Part → Node
node_of p = p.node

-- no joins are remembered
abbrev pub AreForgotten : List Part → Type 0
AreForgotten ps = AllFit (λ (p : Part). joins_answer p.memo ≡ no_answers) ps

-- The nodes stay with their tables, and parts that were sound are, now and at the last mark.
pub record KeepsTables (ps qs : Parts) : Type 0 where
  pub nodes : map node_of qs.list.items ≡ map node_of ps.list.items
  pub sound : IsSound (blocks ps) → IsSound (blocks qs)
  pub marked : IsSound (cuts ps) → IsSound (cuts qs)
