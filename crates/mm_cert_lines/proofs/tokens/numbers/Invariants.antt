use Rattle.std.proofs.Common.{◌≡◌, ◌++◌, length, Some}
use Rattle.mm_cert_lines.specs.Fields.{◌>>=◌, numbers_of}
use Rattle.mm_cert_lines.proofs.tokens.numbers.Given as goal

abbrev pub invariant-numbers : goal.invariant-numbers
invariant-numbers l = numbers_of l.initial.tokens ≡ (numbers_of l.tokens >>= λ ns. Some (l.all ++ ns))

abbrev pub decreases-numbers : goal.decreases-numbers
decreases-numbers l = length l.tokens
