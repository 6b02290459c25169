use Rattle.std.proofs.Common.{drop, ◌+◌, ◌∙◌, sym, ap}
use Rattle.mm_logic.specs.Formula.Formula.{Bin}
use Rattle.mm_formula.specs.Scope.{connective}
use Rattle.mm_machine.specs.Shapes.{head_shape, shapes}
use Rattle.mm_machine.proofs.AcceptLemmas.{pair_head}
use Rattle.mm_machine.proofs.accepts.connective_at.Goals as goal

pub returns : goal.returns
returns c skip b =
    pair_head c.args.parts.now.ops c.args.parts.now.list.items c.args.at c.index.result.now c.requires c.index.ensures skip b
    ∙ ap (λ o. Bin (connective o) (head_shape (drop (c.args.at + 1) (shapes c.args.parts.now.list.items))) (head_shape (drop (c.args.at + 1 + skip) (shapes c.args.parts.now.list.items)))) (sym c.connective_of.ensures)
