use Rattle.std.proofs.Common.{ℕ, sym, subst, ap, ◌∙◌}
use Rattle.mm_field.specs.declared.Field.{Field}
use Rattle.mm_field.specs.Vectors.{AreDigits}
use Rattle.mm_tree.specs.Building.{BuilderValue}
use Rattle.mm_header.specs.State.TreeStates.{IsCounted}
use Rattle.mm_header.proofs.TreeLineLemmas.{element_counted, element_kept}
use Rattle.mm_header.proofs.tree_lines.Trees.take_element.Goals as goal

pub elem-answer-requires-clause-digits : goal.elem-answer-requires-clause-digits
elem-answer-requires-clause-digits c =
    subst (λ (f : Field). AreDigits f c.in_ok-name.field-0.vec) (sym (ap (λ (b : BuilderValue). b.f) c.self.view_is ∙ c.requires.field))
    (element_kept c.args.f c.args.line.now c.in_ok-name.field-0 c.in_ok-name.ensures).digits

pub elem-answer-requires-clause-short : goal.elem-answer-requires-clause-short
elem-answer-requires-clause-short c = (element_kept c.args.f c.args.line.now c.in_ok-name.field-0 c.in_ok-name.ensures).short

-- the leaves stay counted
pub invariant_of-self : goal.invariant_of-self
invariant_of-self c =
    subst (λ (k : ℕ). IsCounted k c.elem-answer.new.self.trees) (sym c.counted-self-inside.ensures)
    (element_counted c.self.inside.leaves c.self.inside.builder c.elem-answer.new.self c.in_ok-name.field-0.name c.in_ok-name.field-0.vec _
    c.elem-answer.result c.elem-answer.ensures.answers c.elem-answer.ensures.ok c.elem-answer.ensures.err c.self.invariant)
