use Rattle.std.proofs.Common.{◌≡◌, ◌+◌, length}
use Rattle.mm_lines.specs.Tokens.{tokens}
use Rattle.mm_lines.specs.LineBytes.{bytes_of}
use Rattle.mm_lines.proofs.line.Line.count.Given as goal

abbrev pub invariant-tokens : goal.invariant-tokens
invariant-tokens l = l.count + length l.tokens ≡ length (tokens (bytes_of l.self))

abbrev pub decreases-tokens : goal.decreases-tokens
decreases-tokens l = length l.tokens
