use Rattle.mm_field.proofs.VectorLemmas.{add_no_multiple}
use Rattle.mm_field.proofs.lanes.axpy.Goals as goal

pub returns-then-c-eq0 : goal.returns-then-c-eq0
returns-then-c-eq0 c =
    add_no_multiple c.args.f c.args.c c.args.x.now c.args.y.now c.if-c-eq0.true c.requires.same_length c.requires.digits_y
