use Rattle.std.proofs.Common.{◌∙◌, refl, arith}
use Rattle.mm_job.specs.State.Feeding.{left}
use Rattle.mm_job.proofs.FeedLemmas.{fed_nothing, fed_trans, front_then, on_err}
use Rattle.mm_job.proofs.SpendingLemmas.{most_then, spends_none, spends_then}
use Rattle.mm_job.specs.State.Stages.{work_from_stage}
use Rattle.mm_job.proofs.feed.feed_lines.Goals as goal

pub lines-init : goal.lines-init
lines-init g c = record {
  kept = c.requires.kept;
  fed = fed_nothing c.args.settings.now c.args.state.now (left c.args.framer.now) (g.K.Sink.held c.args.out.now);
  spends = spends_none (work_from_stage c.args.settings.now c.args.state.now.stage) (left c.args.framer.now) (left c.args.framer.now) c.args.steps.now refl;
  later = omega arith;
  within = c.requires.within;
  bytes = refl;
  ended = refl;
}

-- what was written before this turn, and then in it
pub returns-then-not-more-clause-fed : goal.returns-then-not-more-clause-fed
returns-then-not-more-clause-fed g c =
    let held = g.K.Sink.held in
    fed_trans c.args.settings.now c.args.state.now c.lines.state c.take_next.new.state (left c.args.framer.now) (left c.lines.framer) (left c.take_next.new.framer)
    (held c.args.out.now) (held c.lines.out) (held c.take_next.new.out) c.lines.invariant.fed c.in_ok-more.ensures.fed

pub lines-preserved : goal.lines-preserved
lines-preserved g c =
    let held = g.K.Sink.held in
    record {
      kept = c.in_ok-more.ensures.kept;
      fed = fed_trans c.args.settings.now c.args.state.now c.lines.state c.take_next.new.state (left c.args.framer.now) (left c.lines.framer) (left c.take_next.new.framer)
          (held c.args.out.now) (held c.lines.out) (held c.take_next.new.out) c.lines.invariant.fed c.in_ok-more.ensures.fed;
      spends = spends_then (work_from_stage c.args.settings.now c.args.state.now.stage) (work_from_stage c.args.settings.now c.lines.state.stage) (work_from_stage c.args.settings.now c.take_next.new.state.stage)
          (left c.args.framer.now) (left c.lines.framer) (left c.take_next.new.framer) c.args.steps.now c.lines.steps c.take_next.new.steps c.lines.invariant.spends c.in_ok-more.ensures.spends;
      later = omega (arith, c.lines.invariant.later, c.in_ok-more.ensures.cause.later);
      within = c.in_ok-more.ensures.within;
      bytes = c.in_ok-more.ensures.bytes ∙ c.lines.invariant.bytes;
      ended = c.in_ok-more.ensures.ended ∙ c.lines.invariant.ended;
    }

pub returns-in_err-more-clause-front : goal.returns-in_err-more-clause-front
returns-in_err-more-clause-front g c =
    let held = g.K.Sink.held in
    on_err c.from_residual.result
    (front_then c.args.settings.now c.args.state.now c.lines.state (left c.args.framer.now) (left c.lines.framer) (held c.args.out.now) (held c.lines.out) (held c.take_next.new.out)
    c.lines.invariant.fed c.in_err-more.ensures.front)

pub returns-then-not-more-clause-spends : goal.returns-then-not-more-clause-spends
returns-then-not-more-clause-spends g c =
    spends_then (work_from_stage c.args.settings.now c.args.state.now.stage) (work_from_stage c.args.settings.now c.lines.state.stage) (work_from_stage c.args.settings.now c.take_next.new.state.stage)
    (left c.args.framer.now) (left c.lines.framer) (left c.take_next.new.framer) c.args.steps.now c.lines.steps c.take_next.new.steps c.lines.invariant.spends c.in_ok-more.ensures.spends

pub returns-in_err-more-clause-most : goal.returns-in_err-more-clause-most
returns-in_err-more-clause-most g c =
    on_err c.from_residual.result
    (most_then (work_from_stage c.args.settings.now c.args.state.now.stage) (work_from_stage c.args.settings.now c.lines.state.stage) (left c.args.framer.now) (left c.lines.framer)
    c.args.steps.now c.lines.steps c.take_next.new.steps c.lines.invariant.spends c.in_err-more.ensures.most)
