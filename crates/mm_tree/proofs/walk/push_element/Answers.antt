use Rattle.std.proofs.Common.{◌++◌, sym, ap, ◌∙◌, append-nil}
use Rattle.mm_tree.proofs.ElementLemmas.{no_element}
use Rattle.mm_tree.proofs.walk.push_element.Goals as goal

pub returns-in-None : goal.returns-in-None
returns-in-None c =
    let old = c.args.names.now in
    sym (ap (λ names. old ++ names) (no_element c.args.leaf.now c.in-None.is) ∙ append-nil old)
