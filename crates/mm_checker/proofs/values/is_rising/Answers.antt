use Rattle.std.proofs.Common.{sym, arith}
use Rattle.mm_checker.proofs.RisingLemmas.{rising_from, rising_fails}
use Rattle.mm_checker.proofs.values.is_rising.Goals as goal

pub returns-then-numbers-i : goal.returns-then-numbers-i
returns-then-numbers-i c = sym (rising_fails c.args.numbers.now c.loop-i.i (omega (arith, c.loop-i.auto.i)) c.loop-i-test.true c.if-numbers-i.true)

pub returns : goal.returns
returns c = sym (rising_from c.args.numbers.now (λ k l. c.loop-i.invariant k (omega (arith, l, c.loop-i-test.false))))
