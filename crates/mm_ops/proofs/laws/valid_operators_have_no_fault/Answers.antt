use Rattle.mm_ops.proofs.ValidOps.{valid_ops_exactly}
use Rattle.mm_ops.proofs.laws.valid_operators_have_no_fault.Goals as goal

pub returns : goal.returns
returns c = valid_ops_exactly
