use Rattle.mm_space.proofs.DigitTextLemmas.{vectors_read}
use Rattle.mm_space.proofs.generator.Gen.read.Goals as goal

pub returns-clause-exact : goal.returns-clause-exact
returns-clause-exact c = vectors_read c.args.f c.args.bytes.now c.read_rows.result c.read_rows.ensures.text c.read_rows.ensures.none
