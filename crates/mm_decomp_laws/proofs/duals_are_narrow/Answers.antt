use Rattle.mm_decomp_laws.proofs.DualLawLemmas.{duals_are_narrow}
use Rattle.mm_decomp_laws.proofs.duals_are_narrow.Goals as goal

pub returns : goal.returns
returns c = duals_are_narrow
