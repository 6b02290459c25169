use Rattle.std.proofs.Common.{◌≡◌, ◌<◌, ◌-◌, length, slice_index_or, slice_set, ap, subst, ◌∙◌, arith}
use Rattle.mm_job_text.proofs.DigitLemmas.{shown_next}
use Rattle.mm_job_text.proofs.digits.shown.Goals as goal

pub loop-digit-preserved : goal.loop-digit-preserved
loop-digit-preserved c =
    let i = c.loop-digit.digit-index in
    let bytes = c.args.bytes.now in
    let long : i < length bytes = grind (arith) in
    ap (λ items. slice_set items i (slice_index_or items i 0 - 48)) c.loop-digit.invariant ∙ shown_next bytes i long
