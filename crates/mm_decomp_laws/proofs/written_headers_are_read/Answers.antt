use Rattle.mm_decomp_laws.proofs.WrittenHeaderLemmas.{written_headers}
use Rattle.mm_decomp_laws.proofs.written_headers_are_read.Goals as goal

pub returns : goal.returns
returns c = written_headers
