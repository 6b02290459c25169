use Rattle.mm_cli.specs.Answers.{Answer, sample}
use Rattle.mm_cli.proofs.RunLemmas.{end_not_cut}
use Rattle.mm_cli.proofs.WriteLemmas.{ends_or_cut, sample_ends, short_ends, unwritten}
use Rattle.mm_cli.proofs.sampling.sample.Goals as goal

pub write-requires : goal.write-requires
write-requires g c =
    let short : Answer = record { output = c.in-Ok.short.text; status = c.in-Ok.short.status } in
    end_not_cut short.status (short_ends c.args.numbers short c.in-Ok.ensures.short)

pub returns-in-Ok-clause-ends : goal.returns-in-Ok-clause-ends
returns-in-Ok-clause-ends g c =
    let short : Answer = record { output = c.in-Ok.short.text; status = c.in-Ok.short.status } in
    let written : Answer = record { output = c.bytes.result.now; status = c.in-Ok.short.status } in
    ends_or_cut written (g.K.Sink.held c.args.sink.now) (g.K.Sink.held c.write.new.sink) c.write.result (short_ends c.args.numbers short c.in-Ok.ensures.short)
    c.write.ensures.answer

pub returns-in-Err-clause-answer : goal.returns-in-Err-clause-answer
returns-in-Err-clause-answer g c = unwritten (sample c.args.numbers) (g.K.Sink.held c.args.sink.now) (sample_ends c.args.numbers)
