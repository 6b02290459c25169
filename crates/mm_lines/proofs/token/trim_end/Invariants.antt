use Rattle.std.proofs.Common.{◌≡◌, length}
use Rattle.mm_lines.specs.Tokens.{trim_end}
use Rattle.mm_lines.proofs.token.trim_end.Given as goal

abbrev pub invariant-blanks : goal.invariant-blanks
invariant-blanks l = trim_end l.rest ≡ trim_end l.line

abbrev pub decreases-blanks : goal.decreases-blanks
decreases-blanks l = length l.rest
