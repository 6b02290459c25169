use Rattle.std.proofs.Common.{◌≡◌, ◌∙◌, ap, arith}
use Rattle.std.proofs.lemmas.Bool.Decides.{nat_tests}
use Rattle.mm_lines.specs.Tokens.{rest_of, skip_tokens, trim_end}
use Rattle.mm_lines.proofs.SkipLemmas.{skip_nothing, skip_no_token}
use Rattle.mm_lines.proofs.line.Line.rest.Goals as goal
use Rattle.mm_lines.proofs.line.Line.rest.Goals.{then-tokens-test+else-not-is_empty, else-tokens-test}

pub returns : goal.returns
unfolding rest_of
returns c =
    let done : c.tokens.rest.now ≡ skip_tokens c.tokens.before c.tokens.rest.now = elim c.tokens-test.branch [
      | then-tokens-test+else-not-is_empty w ↦ skip_nothing c.tokens.before c.tokens.rest.now (grind (arith, nat_tests))
      | else-tokens-test w ↦ skip_no_token c.tokens.before c.tokens.rest.now (omega (arith, w.tokens-test.false))
    ] in
    c.trim_end.ensures ∙ ap trim_end (done ∙ c.tokens.invariant)
