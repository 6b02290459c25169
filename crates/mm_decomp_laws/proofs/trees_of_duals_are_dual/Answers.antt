use Rattle.mm_decomp_laws.proofs.DualLawLemmas.{trees_are_dual}
use Rattle.mm_decomp_laws.proofs.trees_of_duals_are_dual.Goals as goal

pub returns : goal.returns
returns c = trees_are_dual
