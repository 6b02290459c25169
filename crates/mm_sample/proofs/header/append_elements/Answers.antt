use Rattle.std.proofs.Common.{List, ℕ, [], ◌∷◌, ◌++◌, ◌+◌, ap, ◌∙◌}
use Rattle.mm_sample.specs.SampleTree.{element_name}
use Rattle.mm_sample.proofs.HeaderLemmas.{elements_grow}
use Rattle.mm_sample.proofs.header.append_elements.Goals as goal

pub loop-i-preserved : goal.loop-i-preserved
loop-i-preserved c =
    c.in_ok-append_element.ensures
    ∙ ap (λ (t : List ℕ). t ++ element_name (c.loop-i.i + 1)) (c.in_ok-append-2.ensures.ok ∙ ap (λ (t : List ℕ). t ++ 32 ∷ []) c.loop-i.invariant)
    ∙ elements_grow c.args.text.now c.loop-i.i
