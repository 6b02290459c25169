use Rattle.std.proofs.Common.{◌∙◌, ap, arith, length, ◌<◌, ◌-◌}
use Rattle.mm_nodes.specs.KeptTrees.{top}
use Rattle.mm_nodes.specs.KeptNodes.{tree_of}
use Rattle.mm_nodes.specs.Walks.{highest}
use Rattle.mm_nodes.proofs.MadeLemmas.{last_is}
use Rattle.mm_nodes.proofs.remake.last_made.Goals as goal

pub returns-in-Some : goal.returns-in-Some
returns-in-Some g c =
    let some : 0 < length c.deref.result.now = c.in-Some.ensures.item.3.0 in
    let other = top (tree_of c.args.new.now) in
    c.in-Some.ensures.item.1 ∙ last_is c.deref.result.now (length c.deref.result.now - 1) c.in-Some.entry.now other (omega (arith, some)) ∙ ap (λ ms. highest ms other) c.deref.ensures.value
