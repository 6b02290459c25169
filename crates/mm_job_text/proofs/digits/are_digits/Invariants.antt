use Rattle.std.proofs.Common.{◌≡◌, take}
use Rattle.std.specs.List.{list_all}
use Rattle.mm_space.specs.DigitTexts.{is_digit}
use Rattle.mm_job_text.proofs.digits.are_digits.Given as goal

abbrev pub invariant-loop-b : goal.invariant-loop-b
invariant-loop-b l = l.all ≡ list_all (is_digit l.f) (take l.b-index l.bytes)
