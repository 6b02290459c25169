use Rattle.std.proofs.Common.{ap, ◌∙◌}
use Rattle.mm_machine.specs.Blocks.{memory}
use Rattle.mm_machine.proofs.BlockLemmas.{memo_at}
use Rattle.mm_machine.proofs.remember.remembers_at.Goals as goal

pub returns : goal.returns
returns c h =
    ap (λ m. m.ops) (memo_at c.args.parts.now.ops c.args.parts.now.list.items c.args.at c.index.result.now c.requires c.index.ensures)
    ∙ ap (λ m. m.ops) (c.remembers.ensures h (memory c.args.parts.now.ops c.index.result.now.memo))
