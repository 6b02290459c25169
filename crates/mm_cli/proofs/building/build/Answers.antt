use Rattle.std.proofs.Common.{ℕ, List, subst}
use Rattle.mm_decomp.specs.BuildOutput.{IsOutput, build_output}
use Rattle.mm_cli.specs.Answers.{build}
use Rattle.mm_cli.proofs.WholeLemmas.{build_is_cut_off, made_ends, text_answered}
use Rattle.mm_cli.proofs.building.build.Goals as goal

pub returns-in-Ok-clause-answers : goal.returns-in-Ok-clause-answers
unfolding build
returns-in-Ok-clause-answers g c =
    let left = g.S.Source.left in
    let held = g.K.Sink.held in
    let text = c.read_whole.new.text in
    text_answered build build_is_cut_off (left c.args.source.now) (left c.read_whole.new.source) (held c.args.sink.now) (held c.write_made.new.sink)
    text c.write_made.result (made_ends (build_output text)) c.in-Ok.ensures.took
    (c.write_made.ensures.answer (build_output text)
    (subst (λ (t : List ℕ). IsOutput c.build_text.result (build_output t)) c.bytes.ensures c.build_text.ensures))
