use Rattle.std.proofs.Common.{ℕ, List, subst}
use Rattle.mm_decomp.specs.BuildOutput.{IsOutput}
use Rattle.mm_decomp.specs.DualOutput.{dual_output}
use Rattle.mm_cli.specs.Answers.{dual}
use Rattle.mm_cli.proofs.WholeLemmas.{dual_is_cut_off, made_ends, text_answered}
use Rattle.mm_cli.proofs.building.dual.Goals as goal

pub returns-in-Ok-clause-answers : goal.returns-in-Ok-clause-answers
unfolding dual
returns-in-Ok-clause-answers g c =
    let left = g.S.Source.left in
    let held = g.K.Sink.held in
    let text = c.read_whole.new.text in
    text_answered dual dual_is_cut_off (left c.args.source.now) (left c.read_whole.new.source) (held c.args.sink.now) (held c.write_made.new.sink)
    text c.write_made.result (made_ends (dual_output text)) c.in-Ok.ensures.took
    (c.write_made.ensures.answer (dual_output text)
    (subst (λ (t : List ℕ). IsOutput c.dual_text.result (dual_output t)) c.bytes.ensures c.dual_text.ensures))
