use Rattle.std.proofs.Common.{◌<◌, length, refl, ap, ◌∙◌, arith}
use Rattle.std.proofs.lemmas.List.{length-set}
use Rattle.mm_machine.specs.Operators.{node_of}
use Rattle.mm_machine.proofs.BlockLemmas.{stays_at}
use Rattle.mm_machine.proofs.NodeLemmas.{forgotten_step, forgotten_all}
use Rattle.mm_machine.proofs.numbers.forget_list.Goals as goal

pub loop-i-init : goal.loop-i-init
loop-i-init c = (refl, tt, refl)

pub loop-i-preserved : goal.loop-i-preserved
loop-i-preserved c =
    let l = c.loop-i.list in
    let d = c.index_mut.result.now in
    let w : c.loop-i.i < length l.items = omega (arith, c.loop-i-test.true, c.len-i-end.ensures, c.args.list.now.ok, c.loop-i.invariant.2) in (
      stays_at node_of l.items c.loop-i.i d (record { node = d.node; memo = c.clear.new.self }) w (ap node_of c.index_mut.ensures.value) ∙ c.loop-i.invariant.0,
      forgotten_step l.items c.loop-i.i (record { node = d.node; memo = c.clear.new.self }) w c.clear.ensures c.loop-i.invariant.1,
      length-set l.items c.loop-i.i (record { node = d.node; memo = c.clear.new.self }) ∙ c.loop-i.invariant.2,
    )

pub returns-clause-forgotten : goal.returns-clause-forgotten
returns-clause-forgotten c = forgotten_all c.loop-i.list.items c.loop-i.i (omega (arith, c.loop-i-test.false, c.len-i-end.ensures, c.args.list.now.ok, c.loop-i.invariant.2)) c.loop-i.invariant.1
