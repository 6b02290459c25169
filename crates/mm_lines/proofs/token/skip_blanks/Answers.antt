use Rattle.std.proofs.Common.{◌∙◌, sym}
use Rattle.mm_lines.proofs.TokenLemmas.{tokens_step}
use Rattle.mm_lines.proofs.SkipLemmas.{skip_blanks_step}
use Rattle.mm_lines.proofs.token.skip_blanks.Goals as goal

pub blanks-preserved : goal.blanks-preserved
blanks-preserved c =
    let blank = sym c.is_blank.ensures ∙ c.if-not-is_blank.false in
    record {
      value = skip_blanks_step c.blanks.rest.now c.in-len1-up.len_at_least blank ∙ c.blanks.invariant.value;
      tokens = tokens_step c.blanks.rest.now c.in-len1-up.len_at_least blank ∙ c.blanks.invariant.tokens;
    }
