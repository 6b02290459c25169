use Rattle.std.proofs.Common.{◌≡◌}
use Rattle.mm_lines.specs.Tokens.{skip_blanks, skip_tokens}
use Rattle.mm_lines.specs.LineBytes.{bytes_of}
use Rattle.mm_lines.proofs.line.Line.rest.Given as goal

abbrev pub invariant-tokens : goal.invariant-tokens
invariant-tokens l = skip_tokens l.before l.rest ≡ skip_tokens l.k (skip_blanks (bytes_of l.self))

abbrev pub decreases-tokens : goal.decreases-tokens
decreases-tokens l = l.before
