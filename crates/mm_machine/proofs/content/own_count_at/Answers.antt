use Rattle.std.proofs.Common.{sym, ◌∙◌}
use Rattle.mm_machine.specs.Looks.{count_in}
use Rattle.mm_machine.proofs.BlockLemmas.{node_at}
use Rattle.mm_machine.proofs.LookLemmas.{count_head, node_count}
use Rattle.mm_machine.proofs.content.own_count_at.Goals as goal

pub returns : goal.returns
returns c =
    let p = c.args.parts.now in
    c.own_count.ensures ∙ sym (node_at count_in count_head node_count p.ops p.list.items c.args.at c.index.result.now c.requires c.index.ensures)
