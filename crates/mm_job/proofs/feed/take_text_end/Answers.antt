use Rattle.std.proofs.Common.{arith}
use Rattle.std.proofs.lemmas.Grind.{common_steps}
use Rattle.mm_job.proofs.FeedLemmas.{cause_after, on_err}
use Rattle.mm_job.proofs.StandingLemmas.{text_cut, text_front, text_spent, text_status, text_within, text_wrote}
use Rattle.mm_job.proofs.feed.take_text_end.Goals as goal

pub feed_lines-requires-clause-within : goal.feed_lines-requires-clause-within
feed_lines-requires-clause-within g c = text_within c.args.framer.now c.finish.new.self c.requires.stream c.finish.ensures

pub returns-in_err-feed_lines-clause-writes : goal.returns-in_err-feed_lines-clause-writes
returns-in_err-feed_lines-clause-writes g c =
    let held = g.K.Sink.held in
    record {
      wrote = grind (arith, common_steps);
      front = on_err c.from_residual.result
          (text_cut c.args.settings.now c.args.framer.now c.finish.new.self c.args.state.now (held c.args.out.now) (held c.feed_lines.new.out) c.requires.stands c.requires.stream c.requires.size
          c.finish.ensures c.in_err-feed_lines.ensures.front);
      cause = grind (arith, common_steps);
    }

pub returns-clause-status : goal.returns-clause-status
returns-clause-status g c =
    let held = g.K.Sink.held in
    text_status c.args.settings.now c.args.framer.now c.finish.new.self c.feed_lines.new.framer c.args.state.now c.feed_lines.new.state c.end_state.result (held c.args.out.now) (held c.feed_lines.new.out)
    c.requires.stands c.requires.stream c.requires.size c.finish.ensures c.in_ok-feed_lines.ensures.fed c.in_ok-feed_lines.ensures.all c.end_state.ensures.status

pub returns-clause-writes : goal.returns-clause-writes
returns-clause-writes g c =
    let held = g.K.Sink.held in
    let faults = g.K.Sink.faults in
    record {
      wrote = text_wrote c.args.settings.now c.args.framer.now c.finish.new.self c.feed_lines.new.framer c.args.state.now c.feed_lines.new.state c.end_state.result (held c.args.out.now) (held c.feed_lines.new.out)
          (held c.end_state.new.out) c.requires.stands c.requires.stream c.requires.size c.finish.ensures c.in_ok-feed_lines.ensures.fed c.in_ok-feed_lines.ensures.all c.end_state.ensures.wrote;
      front = text_front c.args.settings.now c.args.framer.now c.finish.new.self c.feed_lines.new.framer c.args.state.now c.feed_lines.new.state c.end_state.result (held c.args.out.now) (held c.feed_lines.new.out)
          (held c.end_state.new.out) c.requires.stands c.requires.stream c.requires.size c.finish.ensures c.in_ok-feed_lines.ensures.fed c.in_ok-feed_lines.ensures.all c.end_state.ensures.front;
      cause = cause_after (faults c.args.out.now) (faults c.feed_lines.new.out) (faults c.end_state.new.out) c.end_state.result c.in_ok-feed_lines.ensures.cause.later c.end_state.ensures.cause;
    }

pub returns-in_err-feed_lines-clause-steps : goal.returns-in_err-feed_lines-clause-steps
returns-in_err-feed_lines-clause-steps g c =
    text_spent c.args.settings.now c.args.framer.now c.finish.new.self c.feed_lines.new.framer c.args.state.now c.feed_lines.new.state c.feed_lines.result c.args.steps.now c.feed_lines.new.steps
    c.requires.stands c.requires.stream c.requires.size c.finish.ensures c.feed_lines.ensures.all c.feed_lines.ensures.spends c.feed_lines.ensures.most

pub returns-clause-steps : goal.returns-clause-steps
returns-clause-steps g c =
    text_spent c.args.settings.now c.args.framer.now c.finish.new.self c.feed_lines.new.framer c.args.state.now c.feed_lines.new.state c.feed_lines.result c.args.steps.now c.feed_lines.new.steps
    c.requires.stands c.requires.stream c.requires.size c.finish.ensures c.feed_lines.ensures.all c.feed_lines.ensures.spends c.feed_lines.ensures.most
