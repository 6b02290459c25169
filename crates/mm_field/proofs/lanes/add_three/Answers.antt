use Rattle.std.proofs.Common.{arith}
use Rattle.mm_field.specs.declared.Field.TheVariants.{Three}
use Rattle.mm_field.proofs.VectorLemmas.{axpy_from_entries}
use Rattle.mm_field.proofs.lanes.add_three.Goals as goal

pub returns : goal.returns
returns c =
    axpy_from_entries Three c.args.c c.args.x.now c.args.y.now c.loop-i.y c.requires.same_length c.loop-i.auto.y
    (λ k lt. c.loop-i.invariant.done k (omega arith))
