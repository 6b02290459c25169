use Rattle.std.proofs.Common.{arith}
use Rattle.mm_space.proofs.EqualDigits.{agree_more, none_more, equal_by_difference}
use Rattle.mm_space.proofs.vector.are_equal.Goals as goal

pub loop-k-preserved : goal.loop-k-preserved
loop-k-preserved c = record {
  same = agree_more c.loop-k.difference c.loop-k.k c.args.a.now c.args.b.now c.loop-k.invariant.same;
  none = none_more c.loop-k.difference c.loop-k.k c.args.a.now c.args.b.now c.loop-k.invariant.none;
}

pub returns : goal.returns
returns c =
    let whole = c.loop-k-test.false in
    let within = c.loop-k.auto.k-end in
    equal_by_difference c.loop-k.difference c.loop-k.k c.args.a.now c.args.b.now (omega (arith, c.told-a, whole, within))
    (omega (arith, c.told-b, whole, within)) c.loop-k.invariant.same c.loop-k.invariant.none
