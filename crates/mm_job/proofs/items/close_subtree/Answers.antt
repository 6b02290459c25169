use Rattle.std.proofs.Common.{refl, subst, sym}
use Rattle.std.proofs.lemmas.Result.{IfOk-weaker}
use Rattle.std.specs.declared.result.Result.{Result}
use Rattle.mm_edit.specs.Edits.{Applied}
use Rattle.mm_job.specs.State.Replies.{RepliesToEdit, SpendsEdit}
use Rattle.mm_job.specs.State.Sessions.{session_of}
use Rattle.mm_job.specs.declared.output_line.OutputLine.{OutputLine}
use Rattle.mm_job.specs.declared.output_line.OutputLine.TheVariants.{Refuses}
use Rattle.mm_job_text.specs.declared.refusal.Refusal.{Refusal}
use Rattle.mm_job.proofs.BlockLemmas.{subtree_refused, subtree_taken}
use Rattle.mm_job.proofs.EditLemmas.{replies_refused}
use Rattle.mm_job.proofs.items.close_subtree.Goals as goal

pub returns-in-Ok-clause-replies : goal.returns-in-Ok-clause-replies
returns-in-Ok-clause-replies g c =
    let old = c.args.editor.now in
    let s = session_of old in
    let at = c.requires.begun in
    let same = subtree_taken s c.args.above.now c.args.trees.trees c.args.line.now at.path (c.in-Ok.tree.tree, c.args.line.now.number) c.requires.closes at.replaced c.in-Ok.ensures.tree in
    IfOk-weaker c.exchange.result _ _
    (λ (output : OutputLine) h. subst (λ (x : Result Applied Refusal). RepliesToEdit old c.exchange.new.editor x output) (sym same) (h at.path at.replaced)) c.exchange.ensures.replies

pub returns-in-Ok-clause-steps : goal.returns-in-Ok-clause-steps
returns-in-Ok-clause-steps g c =
    let old = c.args.editor.now in
    let at = c.requires.begun in
    let same = subtree_taken (session_of old) c.args.above.now c.args.trees.trees c.args.line.now at.path (c.in-Ok.tree.tree, c.args.line.now.number) c.requires.closes at.replaced c.in-Ok.ensures.tree in
    subst (λ (x : Result Applied Refusal). SpendsEdit old x c.args.steps.now c.exchange.new.steps) (sym same) (c.exchange.ensures.steps at.path at.replaced)

pub returns-in-Err-clause-replies : goal.returns-in-Err-clause-replies
returns-in-Err-clause-replies g c =
    let old = c.args.editor.now in
    let at = c.requires.begun in
    let same = subtree_refused (session_of old) c.args.above.now c.args.trees.trees c.args.line.now at.path c.in-Err.refusal c.requires.closes at.replaced c.in-Err.ensures.tree in
    subst (λ (x : Result Applied Refusal). RepliesToEdit old old x (Refuses c.in-Err.refusal)) (sym same)
    (replies_refused old c.in-Err.refusal (Refuses c.in-Err.refusal) refl c.requires.editor)
