use Rattle.std.proofs.Common.{◌≡◌, ◌++◌, map, take, drop}
use Rattle.mm_space.specs.DigitTexts.{digit_of}
use Rattle.mm_job_text.proofs.digits.shown.Given as goal

abbrev pub invariant-loop-digit : goal.invariant-loop-digit
invariant-loop-digit l = l.digit-items ≡ map digit_of (take l.digit-index l.bytes) ++ drop l.digit-index l.bytes
