use Rattle.std.proofs.Common.{◌≡◌, length}
use Rattle.mm_lines.specs.Tokens.{skip_token}
use Rattle.mm_lines.proofs.token.skip_token.Given as goal

abbrev pub invariant-token : goal.invariant-token
invariant-token l = skip_token l.rest ≡ skip_token l.line

abbrev pub decreases-token : goal.decreases-token
decreases-token l = length l.rest
