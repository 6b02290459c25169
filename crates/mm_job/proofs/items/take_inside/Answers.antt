use Rattle.std.proofs.Common.{sym, ◌∙◌}
use Rattle.std.specs.Prelude.{[], ◌∷◌, None, Some}
use Rattle.mm_job.specs.Output.{after_reply}
use Rattle.mm_job.specs.State.Blocks.{block_from, edit_from, lines_from_block, work_from_block}
use Rattle.mm_job.specs.State.Sessions.{kept_of, session_of}
use Rattle.mm_job.specs.Work.{kept_after}
use Rattle.mm_job.proofs.BlockLemmas.{ended, ended_work, inside, inside_work, lines_by, most_by, spends_by}
use Rattle.mm_job.proofs.FeedLemmas.{on_err}
use Rattle.mm_job.proofs.SpendingLemmas.{most_none, spends_nothing}
use Rattle.mm_job.proofs.items.take_inside.Goals as goal

pub returns-in_err-output_line-clause-most : goal.returns-in_err-output_line-clause-most
returns-in_err-output_line-clause-most g c =
    let s = session_of c.args.editor.now in
    let kept = kept_of c.args.editor.now in
    let b = c.args.block in
    let r = c.args.line.now in
    on_err c.from_residual.result
    (most_by c.args.editor.now (edit_from s b (r ∷ [])) (work_from_block kept s (Some b))
    (work_from_block (kept_after s kept (edit_from s b (r ∷ []))) (after_reply s (block_from s b (r ∷ []))) None) r c.args.steps.now c.close.new.steps
    c.in_err-output_line.ensures.steps (λ rs. ended_work kept s r b rs (sym c.closes.ensures ∙ c.if-closes.true)))

pub returns-then-closes-clause-step : goal.returns-then-closes-clause-step
returns-then-closes-clause-step g c =
    let s = session_of c.args.editor.now in
    let b = c.args.block in
    let r = c.args.line.now in
    lines_by c.args.editor.now c.close.new.editor (block_from s b (r ∷ [])) (edit_from s b (r ∷ [])) c.in_ok-output_line.output_line (λ e rs. lines_from_block e s (Some b) (r ∷ rs))
    c.in_ok-output_line.ensures.closed (λ e rs. ended e s r b rs (sym c.closes.ensures ∙ c.if-closes.true))

pub returns-then-closes-clause-spends : goal.returns-then-closes-clause-spends
returns-then-closes-clause-spends g c =
    let s = session_of c.args.editor.now in
    let kept = kept_of c.args.editor.now in
    let b = c.args.block in
    let r = c.args.line.now in
    spends_by c.args.editor.now c.close.new.editor (block_from s b (r ∷ [])) (edit_from s b (r ∷ [])) c.in_ok-output_line.output_line (work_from_block kept s (Some b)) r
    c.args.steps.now c.close.new.steps c.in_ok-output_line.ensures.closed c.in_ok-output_line.ensures.steps
    (λ rs. ended_work kept s r b rs (sym c.closes.ensures ∙ c.if-closes.true))

pub returns-in_err-block-clause-most : goal.returns-in_err-block-clause-most
returns-in_err-block-clause-most g c =
    on_err c.from_residual-in_err-block.result
    (most_none (work_from_block (kept_of c.args.editor.now) (session_of c.args.editor.now) (Some c.args.block)) (c.args.line.now ∷ []) c.args.steps.now)

pub returns-clause-step : goal.returns-clause-step
returns-clause-step g c = λ e rs.
    inside e (session_of c.args.editor.now) c.args.line.now c.args.block c.in_ok-block.block rs (sym c.closes.ensures ∙ c.if-closes.false) c.in_ok-block.ensures.goes

pub returns-clause-spends : goal.returns-clause-spends
returns-clause-spends g c =
    let s = session_of c.args.editor.now in
    let kept = kept_of c.args.editor.now in
    spends_nothing (work_from_block kept s (Some c.args.block)) (work_from_block kept s (Some c.in_ok-block.block)) c.args.line.now c.args.steps.now
    (λ rs. inside_work kept s c.args.line.now c.args.block c.in_ok-block.block rs (sym c.closes.ensures ∙ c.if-closes.false) c.in_ok-block.ensures.goes)
