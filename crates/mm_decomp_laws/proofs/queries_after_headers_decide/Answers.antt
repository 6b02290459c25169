use Rattle.mm_decomp_laws.proofs.AfterDualLemmas.{queries_decide}
use Rattle.mm_decomp_laws.proofs.queries_after_headers_decide.Goals as goal

pub returns : goal.returns
returns c = queries_decide
