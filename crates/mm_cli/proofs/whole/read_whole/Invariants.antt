use Rattle.std.proofs.Common.{◌≡◌, ◌≤◌, ◌+◌, ◌-◌, length}
use Rattle.std.specs.Io.KnownBytes.{Consumes}
use Rattle.mm_lines.specs.Lines.{most_bytes}
use Rattle.mm_cli.proofs.whole.read_whole.Given as goal

abbrev pub invariant-pieces : goal.invariant-pieces
invariant-pieces g l = record {
  took : Consumes (g.S.Source.left l.initial.source) (g.S.Source.left l.source) l.text;
  count : length l.text ≡ l.taken;
  room : l.taken ≤ most_bytes + 1;
  later : g.S.Source.faults l.initial.source ≤ g.S.Source.faults l.source;
}

abbrev pub decreases-pieces : goal.decreases-pieces
decreases-pieces g l = most_bytes + 1 - l.taken
