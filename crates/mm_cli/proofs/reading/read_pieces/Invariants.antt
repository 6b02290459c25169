use Rattle.std.proofs.Common.{◌≡◌, ◌≤◌, ◌+◌, ◌-◌, true, length}
use Rattle.mm_lines.specs.Lines.{most_bytes}
use Rattle.mm_job.specs.Work.{settled_work}
use Rattle.mm_cli.specs.Going.{IsFar}
use Rattle.mm_cli.proofs.reading.read_pieces.Given as goal

abbrev pub ghost-read_piece : goal.ghost-read_piece
ghost-read_piece g a = g.start

abbrev pub invariant-pieces : goal.invariant-pieces
invariant-pieces g l = record {
  far : IsFar g.start (g.S.Source.left l.source) (g.K.Sink.held l.sink) l.job;
  count : length l.job.text ≡ l.taken;
  settings : l.job.settings ≡ l.initial.job.settings;
  live : l.job.live ≡ true;
  source_later : g.S.Source.faults l.initial.source ≤ g.S.Source.faults l.source;
  sink_later : g.K.Sink.faults l.initial.sink ≤ g.K.Sink.faults l.sink;
  steps : l.steps ≤ l.initial.steps + settled_work l.job.text l.initial.job.settings;
}

abbrev pub decreases-pieces : goal.decreases-pieces
decreases-pieces g l = most_bytes + 1 - l.taken
