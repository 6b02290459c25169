use Rattle.std.proofs.Common.{drop, ◌+◌, ◌∙◌, sym, ap}
use Rattle.mm_machine.specs.Shapes.{head_shape, shapes, over_sets, over_elements}
use Rattle.mm_machine.proofs.AcceptLemmas.{set_head, one_head}
use Rattle.mm_machine.proofs.accepts.quantifier_at.Goals as goal

pub returns-clause-sets : goal.returns-clause-sets
returns-clause-sets c b =
    let h = set_head c.args.parts.now.ops c.args.parts.now.list.items c.args.at c.index.result.now c.requires c.index.ensures b in
    (h.0, h.1 ∙ ap (λ q. over_sets q h.0 (head_shape (drop (c.args.at + 1) (shapes c.args.parts.now.list.items)))) (sym c.quantifier_of.ensures))

pub returns-clause-elements : goal.returns-clause-elements
returns-clause-elements c b =
    let h = one_head c.args.parts.now.ops c.args.parts.now.list.items c.args.at c.index.result.now c.requires c.index.ensures b in
    (h.0, h.1 ∙ ap (λ q. over_elements q h.0 (head_shape (drop (c.args.at + 1) (shapes c.args.parts.now.list.items)))) (sym c.quantifier_of.ensures))
