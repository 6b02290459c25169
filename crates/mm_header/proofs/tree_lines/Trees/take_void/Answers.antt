use Rattle.std.proofs.Common.{ℕ, sym, subst}
use Rattle.mm_header.specs.State.TreeStates.{IsCounted}
use Rattle.mm_header.proofs.TreeLineLemmas.{void_counted}
use Rattle.mm_header.proofs.tree_lines.Trees.take_void.Goals as goal

-- the leaves stay counted
pub invariant_of-self : goal.invariant_of-self
invariant_of-self c =
    subst (λ (k : ℕ). IsCounted k c.void-answer.new.self.trees) (sym c.counted-self-inside.ensures)
    (void_counted c.self.inside.leaves c.self.inside.builder c.void-answer.new.self c.in_ok-name.field-0.name c.in_ok-name.field-0.t
    c.void-answer.result c.void-answer.ensures.answers c.void-answer.ensures.ok c.void-answer.ensures.err c.self.invariant)
