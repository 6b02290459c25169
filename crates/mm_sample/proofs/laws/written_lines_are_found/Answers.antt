use Rattle.mm_sample.proofs.WrittenLemmas.{written_are_found}
use Rattle.mm_sample.proofs.laws.written_lines_are_found.Goals as goal

pub returns : goal.returns
returns c = written_are_found
