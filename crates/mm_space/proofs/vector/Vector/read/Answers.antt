use Rattle.mm_space.proofs.DigitTextLemmas.{vector_read}
use Rattle.mm_space.proofs.vector.Vector.read.Goals as goal

pub returns-clause-exact : goal.returns-clause-exact
returns-clause-exact c = vector_read c.args.f c.args.bytes.now c.read_digits.result c.read_digits.ensures.text c.read_digits.ensures.none
