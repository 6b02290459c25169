use Rattle.std.proofs.Common.{◌≡◌, ◌≤◌, ◌-◌, length, take}
use Rattle.std.specs.Io.KnownBytes.{Appends}
use Rattle.mm_base.proofs.sink.write_all.Given as goal

abbrev pub invariant-loop-at : goal.invariant-loop-at
invariant-loop-at g l = record {
  within : l.at ≤ length l.bytes;
  grew : Appends (g.K.Sink.held l.initial.out) (g.K.Sink.held l.out) (take l.at l.bytes);
  untouched : l.at ≡ 0 → l.out ≡ l.initial.out;
  later : g.K.Sink.faults l.initial.out ≤ g.K.Sink.faults l.out;
}

abbrev pub decreases-loop-at : goal.decreases-loop-at
decreases-loop-at g l = length l.bytes - l.at
