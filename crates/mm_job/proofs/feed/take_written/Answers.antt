use Rattle.mm_job.specs.State.Blocks.{written}
use Rattle.mm_job.proofs.FeedLemmas.{front_line, on_err}
use Rattle.std.specs.Prelude.{[], ◌∷◌}
use Rattle.mm_job.specs.State.Stages.{work_from_stage}
use Rattle.mm_job.proofs.SpendingLemmas.{most_of_spends}
use Rattle.mm_job.proofs.feed.take_written.Goals as goal

pub returns-in_err-write_output_line-clause-front : goal.returns-in_err-write_output_line-clause-front
returns-in_err-write_output_line-clause-front g c =
    let held = g.K.Sink.held in
    on_err c.from_residual-in_err-write_output_line.result
    (front_line c.args.settings.now c.args.state.now c.take.new.self c.args.line.now (written c.in_ok-output_line.output_line)
    (held c.args.out.now) (held c.write_output_line.new.out) c.in_ok-output_line.ensures.step c.in_err-write_output_line.ensures.err)

pub returns-in_err-write_output_line-clause-most : goal.returns-in_err-write_output_line-clause-most
returns-in_err-write_output_line-clause-most g c =
    on_err c.from_residual-in_err-write_output_line.result
    (most_of_spends (work_from_stage c.args.settings.now c.args.state.now.stage) (work_from_stage c.args.settings.now c.take.new.self.stage) (c.args.line.now ∷ []) [] c.args.steps.now c.take.new.steps
    c.in_ok-output_line.ensures.spends)
