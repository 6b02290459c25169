use Rattle.std.proofs.Common.{ℕ, List, ap, subst, ◌∙◌}
use Rattle.mm_lines.specs.declared.line.Line.{Line}
use Rattle.std.specs.Prelude.{[], ◌∷◌, Err, None}
use Rattle.std.specs.declared.result.Result.{Result}
use Rattle.mm_header.specs.State.HeaderStates.{header_value}
use Rattle.mm_job.specs.Header.{query_part}
use Rattle.mm_job.specs.State.Replies.{SpendsStart}
use Rattle.mm_job.specs.State.Stages.{work_from_stage}
use Rattle.mm_job.specs.Work.{work_after}
use Rattle.mm_job.specs.declared.editor.Editor.{Editor}
use Rattle.mm_job.specs.declared.stage.Stage.TheVariants as stages
use Rattle.mm_job_text.specs.declared.refusal.Stop.{Stop}
use Rattle.mm_job.proofs.FeedLemmas.{on_err}
use Rattle.mm_job.proofs.SpendingLemmas.{most_of_spends}
use Rattle.mm_job.proofs.StartLemmas.{query_refused, query_taken}
use Rattle.mm_job.proofs.stage.take_query.Goals as goal

pub returns-in_ok-output_line-in-Ok-clause-step : goal.returns-in_ok-output_line-in-Ok-clause-step
returns-in_ok-output_line-in-Ok-clause-step g c =
    query_taken c.args.settings.now (header_value c.args.header, c.args.tree.tree) c.args.line.now c.start.result c.in-Ok.editor c.in_ok-output_line-in-Ok.output_line
    c.in-Ok.is c.in_ok-output_line-in-Ok.ensures c.start.ensures.goes

pub returns-in_ok-output_line-in-Ok-clause-spends : goal.returns-in_ok-output_line-in-Ok-clause-spends
returns-in_ok-output_line-in-Ok-clause-spends g c =
    let before : List Line → ℕ = λ rs. work_after (query_part c.args.settings.now (header_value c.args.header, c.args.tree.tree) rs) in
    subst (λ (r : Result Editor Stop). SpendsStart before (c.args.line.now ∷ []) r c.args.steps.now c.start.new.steps) c.in-Ok.is c.start.ensures.spends

pub returns-in_err-output_line-in-Ok-clause-most : goal.returns-in_err-output_line-in-Ok-clause-most
returns-in_err-output_line-in-Ok-clause-most g c =
    let before : List Line → ℕ = λ rs. work_after (query_part c.args.settings.now (header_value c.args.header, c.args.tree.tree) rs) in
    let spent = subst (λ (r : Result Editor Stop). SpendsStart before (c.args.line.now ∷ []) r c.args.steps.now c.start.new.steps) c.in-Ok.is c.start.ensures.spends in
    on_err c.from_residual.result
    (most_of_spends before (work_from_stage c.args.settings.now (stages.Items c.in-Ok.editor None)) (c.args.line.now ∷ []) [] c.args.steps.now c.start.new.steps spent)

pub returns-in-Err-Refused-clause-step : goal.returns-in-Err-Refused-clause-step
returns-in-Err-Refused-clause-step g c =
    rw c.in-Err-Refused.field-0-is
    (query_refused c.args.settings.now (header_value c.args.header, c.args.tree.tree) c.args.line.now c.start.result c.in-Err-Refused.refusal
    (c.in-Err-Refused.is ∙ ap Err c.in-Err-Refused.field-0-is) c.start.ensures.goes)

pub returns-in-Err-Refused-clause-spends : goal.returns-in-Err-Refused-clause-spends
returns-in-Err-Refused-clause-spends g c =
    let before : List Line → ℕ = λ rs. work_after (query_part c.args.settings.now (header_value c.args.header, c.args.tree.tree) rs) in
    subst (λ (r : Result Editor Stop). SpendsStart before (c.args.line.now ∷ []) r c.args.steps.now c.start.new.steps)
    (c.in-Err-Refused.is ∙ ap Err c.in-Err-Refused.field-0-is) c.start.ensures.spends

pub returns-in-Err-NoMemory-clause-most : goal.returns-in-Err-NoMemory-clause-most
returns-in-Err-NoMemory-clause-most g c =
    let before : List Line → ℕ = λ rs. work_after (query_part c.args.settings.now (header_value c.args.header, c.args.tree.tree) rs) in
    subst (λ (r : Result Editor Stop). SpendsStart before (c.args.line.now ∷ []) r c.args.steps.now c.start.new.steps)
    (c.in-Err-NoMemory.is ∙ ap Err c.in-Err-NoMemory.field-0-is) c.start.ensures.spends
