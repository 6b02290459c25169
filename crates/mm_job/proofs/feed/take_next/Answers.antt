use Rattle.std.proofs.Common.{sym, ◌∙◌}
use Rattle.std.specs.Prelude.{None, Some}
use Rattle.mm_job.specs.State.Feeding.{left}
use Rattle.mm_job.specs.Output.{printed_all}
use Rattle.mm_job.specs.State.Stages.{lines_from_stage, work_from_stage}
use Rattle.mm_job.proofs.SpendingLemmas.{most_left, most_none, spends_left, spends_none}
use Rattle.mm_job.proofs.FeedLemmas.{all_left, fed_left, front_left, front_none, line_left, on_err, shorter, still_within}
use Rattle.mm_job.proofs.feed.take_next.Goals as goal

pub returns-in_default-clause-all : goal.returns-in_default-clause-all
returns-in_default-clause-all g c = λ no_more.
    (all_left c.args.framer.now c.next_line.new.self c.in_ok-line.field-0 c.in_ok-line.ensures.line c.in_ok-line.ensures.handed c.in_default.is).1

pub returns-in_default-clause-within : goal.returns-in_default-clause-within
returns-in_default-clause-within g c =
    still_within c.args.framer.now c.next_line.new.self c.in_ok-line.field-0 None (sym c.in_default.is) c.in_ok-line.ensures.line c.in_ok-line.ensures.handed c.requires.within

pub returns-in_err-line-clause-front : goal.returns-in_err-line-clause-front
returns-in_err-line-clause-front g c =
    on_err c.from_residual.result (λ e. front_none (g.K.Sink.held c.args.out.now) (printed_all (lines_from_stage c.args.settings.now c.args.state.now.stage e (left c.args.framer.now))))

pub returns-in_err-take_written-clause-front : goal.returns-in_err-take_written-clause-front
returns-in_err-take_written-clause-front g c =
    let held = g.K.Sink.held in
    on_err c.from_residual-in_err-take_written.result
    (front_left c.args.settings.now c.args.state.now (held c.args.out.now) (held c.take_written.new.out) (left c.args.framer.now) c.in-Some.line (left c.next_line.new.self)
    (line_left c.args.framer.now c.next_line.new.self c.in_ok-line.field-0 c.in-Some.line c.in_ok-line.ensures.line c.in_ok-line.ensures.handed c.in-Some.is)
    c.in_err-take_written.ensures.front)

pub returns-in_err-take_written-clause-within : goal.returns-in_err-take_written-clause-within
returns-in_err-take_written-clause-within g c =
    still_within c.args.framer.now c.next_line.new.self c.in_ok-line.field-0 (Some c.in-Some.line) (sym c.in-Some.is) c.in_ok-line.ensures.line c.in_ok-line.ensures.handed c.requires.within

pub returns-clause-fed : goal.returns-clause-fed
returns-clause-fed g c =
    let held = g.K.Sink.held in
    fed_left c.args.settings.now c.args.state.now c.take_written.new.state (held c.args.out.now) (held c.take_written.new.out) (left c.args.framer.now) c.in-Some.line (left c.next_line.new.self)
    (line_left c.args.framer.now c.next_line.new.self c.in_ok-line.field-0 c.in-Some.line c.in_ok-line.ensures.line c.in_ok-line.ensures.handed c.in-Some.is)
    c.in_ok-take_written.ensures.fed

pub returns-clause-more : goal.returns-clause-more
returns-clause-more g c = λ more.
    shorter c.args.framer.now c.next_line.new.self c.in-Some.line
    (line_left c.args.framer.now c.next_line.new.self c.in_ok-line.field-0 c.in-Some.line c.in_ok-line.ensures.line c.in_ok-line.ensures.handed c.in-Some.is)

pub returns-clause-within : goal.returns-clause-within
returns-clause-within g c =
    still_within c.args.framer.now c.next_line.new.self c.in_ok-line.field-0 (Some c.in-Some.line) (sym c.in-Some.is) c.in_ok-line.ensures.line c.in_ok-line.ensures.handed c.requires.within

pub returns-in_default-clause-spends : goal.returns-in_default-clause-spends
returns-in_default-clause-spends g c =
    let none = all_left c.args.framer.now c.next_line.new.self c.in_ok-line.field-0 c.in_ok-line.ensures.line c.in_ok-line.ensures.handed c.in_default.is in
    spends_none (work_from_stage c.args.settings.now c.args.state.now.stage) (left c.args.framer.now) (left c.next_line.new.self) c.args.steps.now (none.0 ∙ sym none.1)

pub returns-in_err-line-clause-most : goal.returns-in_err-line-clause-most
returns-in_err-line-clause-most g c =
    on_err c.from_residual.result (most_none (work_from_stage c.args.settings.now c.args.state.now.stage) (left c.args.framer.now) c.args.steps.now)

pub returns-in_err-take_written-clause-most : goal.returns-in_err-take_written-clause-most
returns-in_err-take_written-clause-most g c =
    on_err c.from_residual-in_err-take_written.result
    (most_left (work_from_stage c.args.settings.now c.args.state.now.stage) (left c.args.framer.now) c.in-Some.line (left c.next_line.new.self) c.args.steps.now c.take_written.new.steps
    (line_left c.args.framer.now c.next_line.new.self c.in_ok-line.field-0 c.in-Some.line c.in_ok-line.ensures.line c.in_ok-line.ensures.handed c.in-Some.is)
    c.in_err-take_written.ensures.most)

pub returns-clause-spends : goal.returns-clause-spends
returns-clause-spends g c =
    spends_left (work_from_stage c.args.settings.now c.args.state.now.stage) (work_from_stage c.args.settings.now c.take_written.new.state.stage) (left c.args.framer.now) c.in-Some.line
    (left c.next_line.new.self) c.args.steps.now c.take_written.new.steps
    (line_left c.args.framer.now c.next_line.new.self c.in_ok-line.field-0 c.in-Some.line c.in_ok-line.ensures.line c.in_ok-line.ensures.handed c.in-Some.is)
    c.in_ok-take_written.ensures.spends
