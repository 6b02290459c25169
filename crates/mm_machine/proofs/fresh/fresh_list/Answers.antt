use Rattle.mm_machine.specs.Shapes.{sign}
use Rattle.mm_machine.proofs.EmptyLemmas.{fresh_block, fresh_cut, fresh_sign}
use Rattle.mm_machine.proofs.fresh.fresh_list.Goals as goal

pub loop-i-preserved : goal.loop-i-preserved
loop-i-preserved c = (
  fresh_block c.loop-i.fresh.items c.push.new.self.items c.args.list.now c.loop-i.i c.index-list-i.result c.in_ok-node.node c.new-memo.result c.loop-i-test.true c.in_ok-push.ensures.items c.new-memo.ensures c.in_ok-node.ensures.block c.loop-i.invariant.0,
  fresh_cut c.loop-i.fresh.items c.push.new.self.items c.args.list.now c.loop-i.i c.index-list-i.result c.in_ok-node.node c.new-memo.result c.loop-i-test.true c.in_ok-push.ensures.items c.in_ok-node.ensures.cut c.loop-i.invariant.1,
  fresh_sign c.loop-i.fresh.items c.push.new.self.items c.args.list.now c.loop-i.i c.index-list-i.result c.in_ok-node.node c.new-memo.result c.loop-i-test.true c.in_ok-push.ensures.items sign c.in_ok-node.ensures.shape c.loop-i.invariant.2,
)
