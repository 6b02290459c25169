use Rattle.std.proofs.Common.{sym, subst}
use Rattle.mm_cli.specs.Runs.{Ran}
use Rattle.mm_cli.proofs.RunLemmas.{finished, unfinished}
use Rattle.mm_cli.proofs.SpendingLemmas.{spent_on_end}
use Rattle.mm_cli.proofs.reading.answer.Goals as goal

pub returns-in-Ok-clause-run : goal.returns-in-Ok-clause-run
returns-in-Ok-clause-run g c =
    let l = g.S.Source.left in
    let h = g.K.Sink.held in
    finished c.args.job.now.settings (l c.args.source.now) (l c.read_pieces.new.source) (h c.args.sink.now) (h c.read_pieces.new.sink) (h c.finish.new.out)
    c.read_pieces.new.job c.in-Ok.status c.in_default.ensures.all.1 c.in-Ok.ensures.status c.in-Ok.ensures.writes.wrote

pub returns-in-Err-clause-run : goal.returns-in-Err-clause-run
returns-in-Err-clause-run g c =
    let l = g.S.Source.left in
    let h = g.K.Sink.held in
    subst (λ s. Ran c.args.job.now.settings (l c.args.source.now) (l c.read_pieces.new.source) (h c.args.sink.now) (h c.finish.new.out) s) (sym c.cut.ensures)
    (unfinished c.args.job.now.settings (l c.args.source.now) (l c.read_pieces.new.source) (h c.args.sink.now) (h c.read_pieces.new.sink) (h c.finish.new.out)
    c.read_pieces.new.job c.in-Err.fault c.in_default.ensures.all.1 c.in-Err.ensures.writes.front)

pub returns-in-Ok-clause-steps : goal.returns-in-Ok-clause-steps
returns-in-Ok-clause-steps g c =
    let l = g.S.Source.left in
    let h = g.K.Sink.held in
    spent_on_end c.args.job.now.settings (l c.args.source.now) (l c.read_pieces.new.source) (h c.args.sink.now) (h c.read_pieces.new.sink)
    c.read_pieces.new.job c.args.steps.now c.read_pieces.new.steps c.finish.new.steps c.in_default.ensures.all.1 c.in_default.ensures.steps_so_far c.finish.ensures.steps

pub returns-in-Err-clause-steps : goal.returns-in-Err-clause-steps
returns-in-Err-clause-steps g c =
    let l = g.S.Source.left in
    let h = g.K.Sink.held in
    spent_on_end c.args.job.now.settings (l c.args.source.now) (l c.read_pieces.new.source) (h c.args.sink.now) (h c.read_pieces.new.sink)
    c.read_pieces.new.job c.args.steps.now c.read_pieces.new.steps c.finish.new.steps c.in_default.ensures.all.1 c.in_default.ensures.steps_so_far c.finish.ensures.steps
