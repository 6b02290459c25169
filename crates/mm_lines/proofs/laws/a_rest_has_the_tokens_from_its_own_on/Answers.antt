use Rattle.mm_lines.specs.LineBytes.{bytes_of}
use Rattle.mm_lines.proofs.RestLemmas.{rest_tokens}
use Rattle.mm_lines.proofs.laws.a_rest_has_the_tokens_from_its_own_on.Goals as goal

pub returns : goal.returns
returns c = rest_tokens c.args._k (bytes_of c.args._line.now)
