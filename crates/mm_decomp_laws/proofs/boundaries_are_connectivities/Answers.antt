use Rattle.mm_decomp_laws.proofs.ConnectivityLemmas.{boundaries_law}
use Rattle.mm_decomp_laws.proofs.boundaries_are_connectivities.Goals as goal

pub returns : goal.returns
returns c = boundaries_law
