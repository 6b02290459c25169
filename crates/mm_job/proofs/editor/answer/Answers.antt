use Rattle.std.proofs.Common.{◌≡◌, ◌∙◌}
use Rattle.std.proofs.lemmas.Result.{IfOk-weaker}
use Rattle.mm_job.specs.Output.{answered}
use Rattle.mm_job.specs.State.Replies.{answer_text}
use Rattle.mm_job.specs.State.Sessions.{session_of}
use Rattle.mm_job.specs.declared.output_line.OutputLine.{OutputLine}
use Rattle.mm_job.specs.declared.output_line.OutputLine.TheVariants.{Says}
use Rattle.mm_job.proofs.AnswerLemmas.{answered_is}
use Rattle.mm_job.proofs.editor.answer.Goals as goal

pub returns : goal.returns
returns c =
    let e = c.args.editor.now in
    IfOk-weaker c.answer_line.result (λ (output_line : OutputLine). output_line ≡ Says (answer_text c.in_ok-answer.answer)) (λ (output_line : OutputLine). output_line ≡ answered (session_of e))
    (λ output_line is. is ∙ answered_is e c.in_ok-answer.answer c.requires c.in_ok-answer.ensures) c.answer_line.ensures
