use Rattle.std.proofs.Common.{◌≡◌, true}
use Rattle.std.specs.List.{list_all}
use Rattle.mm_space.specs.DigitTexts.{is_digit}
use Rattle.mm_space.proofs.DigitTextLemmas.{small_digits}
use Rattle.mm_job_text.proofs.digits.read_digits.Goals as goal

pub returns-clause-digits : goal.returns-clause-digits
returns-clause-digits c =
    let all : list_all (is_digit c.args.f) c.args.bytes.now ≡ true = cc in
    small_digits c.args.f c.args.bytes.now c.in_ok-shown.field-0.items all c.in_ok-shown.ensures
