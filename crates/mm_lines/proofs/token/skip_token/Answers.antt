use Rattle.std.proofs.Common.{◌∙◌, sym}
use Rattle.mm_lines.proofs.SkipLemmas.{skip_token_step}
use Rattle.mm_lines.proofs.token.skip_token.Goals as goal

pub token-preserved : goal.token-preserved
token-preserved c = skip_token_step c.token.rest.now c.in-len1-up.len_at_least (sym c.is_blank.ensures ∙ c.if-is_blank.false) ∙ c.token.invariant
