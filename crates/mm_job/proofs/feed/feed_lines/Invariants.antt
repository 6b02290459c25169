use Rattle.std.proofs.Common.{◌≡◌, ◌≤◌, length}
use Rattle.mm_job.specs.State.Feeding.{Fed, IsWithin, left}
use Rattle.mm_job.specs.State.Spending.{Spends}
use Rattle.mm_job.specs.State.Stages.{IsKeptAt, work_from_stage}
use Rattle.mm_job.proofs.feed.feed_lines.Given as goal

abbrev pub invariant-lines : goal.invariant-lines
invariant-lines g l = record {
  kept : IsKeptAt l.state.stage;
  fed : Fed l.initial.settings l.initial.state l.state (left l.initial.framer) (left l.framer) (g.K.Sink.held l.initial.out) (g.K.Sink.held l.out);
  spends : Spends (work_from_stage l.initial.settings l.initial.state.stage) (work_from_stage l.initial.settings l.state.stage) (left l.initial.framer) (left l.framer) l.initial.steps l.steps;
  later : g.K.Sink.faults l.initial.out ≤ g.K.Sink.faults l.out;
  within : IsWithin l.framer;
  bytes : l.framer.bytes ≡ l.initial.framer.bytes;
  ended : l.framer.ended ≡ l.initial.framer.ended;
}

abbrev pub decreases-lines : goal.decreases-lines
decreases-lines g l = length (left l.framer)
