use Rattle.std.proofs.Common.{◌≡◌, ◌<◌, ℕ, false, length}
use Rattle.mm_linear.specs.Coordinates.{minus_multiple}
use Rattle.mm_linear.specs.Decide.{is_in_span}
use Rattle.mm_reference_meaning.specs.Rows.{rows_of}
use Rattle.mm_reference_meaning.proofs.combinations.+in_span.Given as goal

abbrev pub decreases-in_span : goal.decreases-in_span
decreases-in_span l = length l.rows.now

abbrev pub invariant-loop-c : goal.invariant-loop-c
invariant-loop-c l = (d : ℕ) → d < l.c → is_in_span l.f (length l.v) (rows_of l.others) (minus_multiple l.f l.v d l.first.items) ≡ false
