use Rattle.std.proofs.Common.{◌≡◌, ◌≤◌, ◌-◌, length, false}
use Rattle.mm_lines.specs.Lines.{most_bytes}
use Rattle.bench_lines.proofs.framed.Given as goal

abbrev pub invariant-pieces : goal.invariant-pieces
invariant-pieces g l = record {
  size : length l.framer.bytes ≡ l.total;
  within : l.total ≤ most_bytes;
  goes_on : l.framer.ended ≡ false;
}

abbrev pub decreases-pieces : goal.decreases-pieces
decreases-pieces g l = most_bytes - l.total
