use Rattle.std.proofs.Common.{◌≡◌, ◌∷◌, length, ap, arith}
use Rattle.mm_lines.specs.Tokens.{tokens}
use Rattle.mm_lines.specs.LineBytes.{bytes_of}
use Rattle.mm_lines.proofs.TokenLemmas.{tokens_are_few}
use Rattle.mm_lines.proofs.line.Line.count.Goals as goal

pub overflow_add-count : goal.overflow_add-count
overflow_add-count c =
    let few = tokens_are_few c.bytes-bytes.result.now in
    let same : length (tokens c.bytes-bytes.result.now) ≡ length (tokens (bytes_of c.args.self.now)) = ap (λ l. length (tokens l)) c.bytes-bytes.ensures in
    let left : length c.tokens.tokens ≡ length (c.in-Some.field-0.now ∷ c.next.new.self) = ap length c.in-Some.ensures in
    omega (arith, few, same, left, c.tokens.invariant)
