use Rattle.std.proofs.Common.{sym, ◌∙◌}
use Rattle.std.specs.Prelude.{◌∷◌, None, Some}
use Rattle.std.specs.Result.{result_ok}
use Rattle.mm_job.specs.Edits.{changed, line_edit}
use Rattle.mm_job.specs.Output.{after_reply}
use Rattle.mm_job.specs.State.Blocks.{lines_from_block, work_from_block}
use Rattle.mm_job.specs.State.Sessions.{kept_of, session_of}
use Rattle.mm_job.specs.Work.{kept_after, line_applied}
use Rattle.mm_job.proofs.BlockLemmas.{lines_by, most_by, opened, opened_work, single_item, single_work, spends_by}
use Rattle.mm_job.proofs.FeedLemmas.{on_err}
use Rattle.mm_job.proofs.SpendingLemmas.{spends_nothing}
use Rattle.mm_job.proofs.items.take_between.Goals as goal

pub returns-then-opens-clause-step : goal.returns-then-opens-clause-step
returns-then-opens-clause-step g c = λ e rs.
    opened e (session_of c.args.editor.now) c.args.line.now c.open.result rs (sym c.opens.ensures ∙ c.if-opens.true) c.open.ensures.opened

pub returns-then-opens-clause-spends : goal.returns-then-opens-clause-spends
returns-then-opens-clause-spends g c =
    let s = session_of c.args.editor.now in
    let kept = kept_of c.args.editor.now in
    spends_nothing (work_from_block kept s None) (work_from_block kept s (Some c.open.result)) c.args.line.now c.args.steps.now
    (λ rs. opened_work kept s c.args.line.now c.open.result rs (sym c.opens.ensures ∙ c.if-opens.true) c.open.ensures.opened)

pub returns-in_err-output_line-clause-most : goal.returns-in_err-output_line-clause-most
returns-in_err-output_line-clause-most g c =
    let s = session_of c.args.editor.now in
    let kept = kept_of c.args.editor.now in
    let edit = line_edit s c.args.line.now in
    on_err c.from_residual.result
    (most_by c.args.editor.now (result_ok edit) (work_from_block kept s None)
    (work_from_block (kept_after s kept (line_applied s c.args.line.now)) (after_reply s (changed s edit)) None) c.args.line.now c.args.steps.now c.take_single.new.steps
    c.in_err-output_line.ensures.steps (λ rs. single_work kept s c.args.line.now rs (sym c.opens.ensures ∙ c.if-opens.false)))

pub returns-clause-step : goal.returns-clause-step
returns-clause-step g c =
    let s = session_of c.args.editor.now in
    let edit = line_edit s c.args.line.now in
    lines_by c.args.editor.now c.take_single.new.editor (changed s edit) (result_ok edit) c.in_ok-output_line.output_line (λ e rs. lines_from_block e s None (c.args.line.now ∷ rs))
    c.in_ok-output_line.ensures.replies (λ e rs. single_item e s c.args.line.now rs (sym c.opens.ensures ∙ c.if-opens.false))

pub returns-clause-spends : goal.returns-clause-spends
returns-clause-spends g c =
    let s = session_of c.args.editor.now in
    let kept = kept_of c.args.editor.now in
    let edit = line_edit s c.args.line.now in
    spends_by c.args.editor.now c.take_single.new.editor (changed s edit) (result_ok edit) c.in_ok-output_line.output_line (work_from_block kept s None) c.args.line.now
    c.args.steps.now c.take_single.new.steps c.in_ok-output_line.ensures.replies c.in_ok-output_line.ensures.steps
    (λ rs. single_work kept s c.args.line.now rs (sym c.opens.ensures ∙ c.if-opens.false))
