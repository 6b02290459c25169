use Rattle.std.proofs.Common.{◌<◌, length, refl, ap, ◌∙◌, arith}
use Rattle.std.proofs.lemmas.List.{length-set}
use Rattle.mm_machine.specs.Shapes.{sign}
use Rattle.mm_machine.specs.Blocks.{block_of}
use Rattle.mm_machine.specs.Remembers.{bare}
use Rattle.mm_machine.proofs.BlockLemmas.{stays_at}
use Rattle.mm_machine.proofs.MarkLemmas.{mark_step, mark_end, blocks_at}
use Rattle.mm_machine.proofs.marks.mark_list.Goals as goal

pub loop-i-init : goal.loop-i-init
loop-i-init c = ((λ ops. (refl, refl)), refl, refl)

pub loop-i-preserved : goal.loop-i-preserved
loop-i-preserved c =
    let l = c.loop-i.list in
    let d = c.index_mut.result.now in
    let e = c.index_mut.ensures.value in
    let w : c.loop-i.i < length l.items = omega (arith, c.loop-i-test.true, c.len-i-end.ensures, c.args.list.now.ok, c.loop-i.invariant.1) in (
      (λ ops. (
        blocks_at ops l.items c.loop-i.i d c.mark_part.new.part w (c.mark_part.ensures.block ops ∙ ap (block_of ops) e) ∙ (c.loop-i.invariant.0 ops).0,
        mark_step ops c.args.list.now.items l.items c.loop-i.i d c.mark_part.new.part w (c.loop-i.invariant.0 ops).0 (c.loop-i.invariant.0 ops).1 (c.mark_part.ensures.cut ops ∙ ap (λ z. bare (block_of ops z)) e),
      )),
      length-set l.items c.loop-i.i c.mark_part.new.part ∙ c.loop-i.invariant.1,
      stays_at sign l.items c.loop-i.i d c.mark_part.new.part w (c.mark_part.ensures.sign ∙ ap sign e) ∙ c.loop-i.invariant.2,
    )

pub returns-clause-cuts : goal.returns-clause-cuts
returns-clause-cuts c ops = mark_end ops c.args.list.now.items c.loop-i.list.items c.loop-i.i (omega (arith, c.loop-i-test.false, c.loop-i.auto.i-end, c.len-i-end.ensures, c.args.list.now.ok)) (c.loop-i.invariant.0 ops).1
