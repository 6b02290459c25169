use Rattle.std.proofs.Common.{arith}
use Rattle.std.proofs.lemmas.Grind.{common_steps}
use Rattle.std.specs.Prelude.{◌++◌}
use Rattle.mm_job.specs.Output.{More, Over}
use Rattle.mm_job.specs.State.Standing.{written_at}
use Rattle.mm_job.proofs.FeedLemmas.{cause_after, on_err}
use Rattle.mm_job.proofs.StandingLemmas.{last_front, last_grew, last_status}
use Rattle.mm_job.proofs.feed.take_last.Goals as goal

pub returns-in_err-take_piece-clause-writes : goal.returns-in_err-take_piece-clause-writes
returns-in_err-take_piece-clause-writes g c = record {
  wrote = grind (arith, common_steps);
  front = on_err c.from_residual.result (c.in_err-take_piece.ensures.front Over);
  cause = grind (arith, common_steps);
}

pub returns-clause-status : goal.returns-clause-status
returns-clause-status g c =
    last_status c.args.settings.now (c.args.framer.now.bytes ++ c.args.piece.now) c.take_piece.new.state c.end_state.result c.in_ok-take_piece.ensures.stands c.end_state.ensures.status

pub returns-clause-writes : goal.returns-clause-writes
returns-clause-writes g c =
    let held = g.K.Sink.held in
    let faults = g.K.Sink.faults in
    let text = c.args.framer.now.bytes ++ c.args.piece.now in
    let before = written_at More c.args.settings.now c.args.framer.now.bytes in
    record {
      wrote = last_grew c.args.settings.now text c.take_piece.new.state c.end_state.result (held c.args.out.now) (held c.take_piece.new.out) (held c.end_state.new.out)
          before c.in_ok-take_piece.ensures.stands c.in_ok-take_piece.ensures.wrote c.end_state.ensures.wrote;
      front = last_front c.args.settings.now text c.take_piece.new.state c.end_state.result (held c.args.out.now) (held c.take_piece.new.out) (held c.end_state.new.out)
          before c.in_ok-take_piece.ensures.stands c.in_ok-take_piece.ensures.wrote c.end_state.ensures.front;
      cause = cause_after (faults c.args.out.now) (faults c.take_piece.new.out) (faults c.end_state.new.out) c.end_state.result c.in_ok-take_piece.ensures.cause.later c.end_state.ensures.cause;
    }
