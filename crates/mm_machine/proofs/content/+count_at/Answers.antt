use Rattle.std.proofs.Common.{length, ap, ◌∙◌, arith}
use Rattle.mm_machine.specs.Blocks.{blocks}
use Rattle.mm_machine.proofs.JoinCallLemmas.{within_parts}
use Rattle.mm_machine.proofs.LookLemmas.{not_look, not_count}
use Rattle.mm_machine.proofs.content.+count_at.Goals as goal

pub count_at-requires : goal.count_at-requires
count_at-requires t c =
    let p = c.args.parts.now in (
      omega (arith, c.decreases, within_parts p.ops p.list.items c.args.at c.requires.some),
      not_look (blocks p) c.args.at c.in-Not.ensures c.requires,
    )

pub returns-in-Not : goal.returns-in-Not
returns-in-Not t c = c.count_at.ensures ∙ ap length (not_count (blocks c.args.parts.now) c.args.at c.in-Not.ensures)
