use Rattle.std.proofs.Common.{refl, subst, sym}
use Rattle.std.specs.Prelude.{IfOk}
use Rattle.std.specs.declared.result.Result.{Result}
use Rattle.mm_edit.specs.Edits.{Applied}
use Rattle.mm_job.specs.State.Replies.{RepliesToEdit, SpendsEdit}
use Rattle.mm_job.specs.State.Sessions.{session_of}
use Rattle.mm_job.specs.declared.output_line.OutputLine.TheVariants.{Refuses}
use Rattle.mm_job_text.specs.declared.refusal.Refusal.{Refusal}
use Rattle.mm_job.proofs.EditLemmas.{replies_refused}
use Rattle.mm_job.proofs.items.take_single.Goals as goal

pub returns-in-Ok-clause-replies : goal.returns-in-Ok-clause-replies
returns-in-Ok-clause-replies g c =
    let old = c.args.editor.now in
    subst (λ (x : Result Applied Refusal). IfOk c.reweigh.result (RepliesToEdit old c.reweigh.new.editor x)) (sym (c.in-Ok.ensures.edit (session_of old))) c.reweigh.ensures.replies

pub returns-in-Ok-clause-steps : goal.returns-in-Ok-clause-steps
returns-in-Ok-clause-steps g c =
    let old = c.args.editor.now in
    subst (λ (x : Result Applied Refusal). SpendsEdit old x c.args.steps.now c.reweigh.new.steps) (sym (c.in-Ok.ensures.edit (session_of old))) c.reweigh.ensures.steps

pub returns-in-Err-clause-replies : goal.returns-in-Err-clause-replies
returns-in-Err-clause-replies g c =
    let old = c.args.editor.now in
    subst (λ (x : Result Applied Refusal). RepliesToEdit old old x (Refuses c.in-Err.refusal)) (sym (c.in-Err.ensures.edit (session_of old)))
    (replies_refused old c.in-Err.refusal (Refuses c.in-Err.refusal) refl c.requires.editor)
