use Rattle.std.proofs.Common.{arith, sym, ap, ◌∙◌}
use Rattle.mm_field.proofs.VectorLemmas.{multiple_from_entries, one-multiple}
use Rattle.mm_field.specs.Vectors.{multiple}
use Rattle.mm_field.proofs.lanes.scale.Goals as goal

pub returns : goal.returns
returns c =
    multiple_from_entries c.args.f c.args.c c.args.x.now c.loop-e.x c.loop-e.auto.x
    (λ k lt. c.loop-e.invariant.done k (omega arith))

pub returns-then-c-eq1 : goal.returns-then-c-eq1
returns-then-c-eq1 c = sym (ap (λ k. multiple c.args.f k c.args.x.now) c.if-c-eq1.true ∙ one-multiple c.args.f c.args.x.now c.requires.digits)
