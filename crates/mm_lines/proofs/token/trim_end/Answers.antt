use Rattle.std.proofs.Common.{◌∙◌, sym}
use Rattle.mm_lines.proofs.SkipLemmas.{trim_end_step}
use Rattle.mm_lines.proofs.token.trim_end.Goals as goal

pub blanks-preserved : goal.blanks-preserved
blanks-preserved c = trim_end_step c.blanks.rest.now c.in-len1-up.len_at_least (sym c.is_blank.ensures ∙ c.if-not-is_blank.false) ∙ c.blanks.invariant
