use Rattle.std.proofs.Common.{◌≡◌, length}
use Rattle.mm_lines.specs.Tokens.{skip_blanks, tokens}
use Rattle.mm_lines.proofs.token.skip_blanks.Given as goal

abbrev pub invariant-blanks : goal.invariant-blanks
invariant-blanks l = record {
  value : skip_blanks l.rest ≡ skip_blanks l.line;
  tokens : tokens l.rest ≡ tokens l.line;
}

abbrev pub decreases-blanks : goal.decreases-blanks
decreases-blanks l = length l.rest
