use Rattle.std.proofs.Common.{◌≡◌, drop}
use Rattle.mm_lines.specs.Tokens.{tokens}
use Rattle.mm_lines.specs.LineBytes.{bytes_of}
use Rattle.mm_lines.proofs.line.Line.token.Given as goal

abbrev pub invariant-before-2 : goal.invariant-before-2
invariant-before-2 l = l.tokens ≡ drop l.counter (tokens (bytes_of l.self))
