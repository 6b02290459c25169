use Rattle.std.proofs.Common.{arith}
use Rattle.std.proofs.lemmas.Int.Digits.{digits_value_more}
use Rattle.mm_lines.proofs.DecimalLemmas.{digit_is, value_step, value_fits}
use Rattle.mm_lines.proofs.numbers.value.Goals as goal

pub overflow_mul-n : goal.overflow_mul-n
overflow_mul-n c = omega (arith, value_fits c.loop-b.n c.loop-b.b-index c.loop-b.invariant.bound (omega arith))

pub overflow_add-n : goal.overflow_add-n
overflow_add-n c =
    let d = digit_is c.args.digits.now c.loop-b.b-index c.loop-b-test.true c.requires.digits in
    omega (arith, value_fits c.loop-b.n c.loop-b.b-index c.loop-b.invariant.bound (omega arith), d.0, d.1)

pub loop-b-preserved : goal.loop-b-preserved
loop-b-preserved c =
    let ds = c.args.digits.now in
    let i = c.loop-b.b-index in
    let d = digit_is ds i c.loop-b-test.true c.requires.digits in
    record {
      value = omega (arith, c.loop-b.invariant.value, d.0, digits_value_more 10 ds i c.loop-b-test.true);
      bound = value_step c.loop-b.n c.from.result i c.loop-b.invariant.bound (omega (arith, d.0, d.1));
    }
