use Rattle.std.proofs.Common.{sym, subst}
use Rattle.mm_field.specs.Vectors.{AreVectors}
use Rattle.mm_logic.specs.Operator.{row_length}
use Rattle.mm_present.proofs.join_cache.JoinDigits.of.Goals as goal

pub digits_in_join-requires-clause-rows : goal.digits_in_join-requires-clause-rows
digits_in_join-requires-clause-rows c =
    let op = c.args.op.now in
    subst (λ g. AreVectors op.f (row_length op.op) g) (sym c.g1.ensures) c.field.ensures.valid.first.rows

pub digits_in_join-requires-2-clause-rows : goal.digits_in_join-requires-2-clause-rows
digits_in_join-requires-2-clause-rows c =
    let op = c.args.op.now in
    subst (λ g. AreVectors op.f (row_length op.op) g) (sym c.g2.ensures) c.field.ensures.valid.second.rows
