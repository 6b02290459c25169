use Rattle.std.proofs.Common.{◌≡◌, ◌≤◌, ◌-◌, length}
use Rattle.mm_lines.specs.Lines.{most_bytes}
use Rattle.bench_types.proofs.text_of.Given as goal

abbrev pub invariant-pieces : goal.invariant-pieces
invariant-pieces g l = record { size : length l.text ≡ l.total; within : l.total ≤ most_bytes }

abbrev pub decreases-pieces : goal.decreases-pieces
decreases-pieces g l = most_bytes - l.total
