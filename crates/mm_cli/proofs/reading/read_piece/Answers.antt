use Rattle.std.proofs.Common.{◌≡◌, ◌≤◌, ◌<◌, ◌+◌, ◌++◌, inl, inr, length, take, sym, ap, subst, ◌∙◌, arith, length-append}
use Rattle.std.proofs.lemmas.Grind.{common_steps}
use Rattle.mm_lines.specs.Lines.{most_bytes}
use Rattle.mm_base.specs.declared.status.Status.TheVariants as ends
use Rattle.mm_job.specs.Calls.{SpendsOnText}
use Rattle.mm_job.specs.Jobs.{with_piece}
use Rattle.mm_job.specs.Work.{settled_work}
use Rattle.mm_cli.specs.Runs.{Ran, most_asked}
use Rattle.mm_cli.specs.Going.{SoFar}
use Rattle.mm_cli.proofs.StepLemmas.{stop_is, more_is, more_ok, more_goes_on}
use Rattle.mm_cli.proofs.RunLemmas.{not_a_fault, ran_read_fault, further, ran_ended, ran_stopped, whole_piece}
use Rattle.mm_cli.proofs.SpendingLemmas.{spent_on_nothing, spent_on_piece}
use Rattle.mm_cli.proofs.reading.read_piece.Goals as goal

pub returns-in_default-clause-came : goal.returns-in_default-clause-came
returns-in_default-clause-came g c =
    let j = c.args.job.now in
    ran_read_fault j.settings g.start.left (g.S.Source.left c.args.source.now) (g.S.Source.left c.read.new.self) g.start.held (g.K.Sink.held c.args.sink.now) j.text c.requires.1.1.1.1.1.1.1 c.in_default.ensures.bytes

pub returns-in-Ok-Ended-clause-came : goal.returns-in-Ok-Ended-clause-came
returns-in-Ok-Ended-clause-came g c =
    let j = c.args.job.now in
    let piece = take c.in-Ok.count c.read.new.buf in
    let room : length j.text + length piece ≤ most_bytes + 1 = grind (arith, common_steps) in
    ran_ended j.settings g.start.left (g.S.Source.left c.args.source.now) (g.S.Source.left c.read.new.self) g.start.held (g.K.Sink.held c.args.sink.now) (g.K.Sink.held c.feed.new.out)
    j.text piece c.in-Ok-Ended.status c.requires.1.1.1.1.1.1.1 c.in-Ok.ensures.bytes.0 room c.in-Ok-Ended.ensures.writes.wrote (sym c.in-Ok-Ended.field-0-is ∙ c.in-Ok-Ended.ensures.progress)

pub returns-in-Err-clause-came : goal.returns-in-Err-clause-came
returns-in-Err-clause-came g c =
    let j = c.args.job.now in
    let piece = take c.in-Ok.count c.read.new.buf in
    let room : length j.text + length piece ≤ most_bytes + 1 = grind (arith, common_steps) in
    let asked : length piece ≤ most_asked = grind (arith, common_steps) in
    subst (λ t. Ran j.settings g.start.left (g.S.Source.left c.read.new.self) g.start.held (g.K.Sink.held c.feed.new.out) t) (sym c.cut.ensures)
    (ran_stopped j.settings g.start.left (g.S.Source.left c.args.source.now) (g.S.Source.left c.read.new.self) g.start.held (g.K.Sink.held c.args.sink.now) (g.K.Sink.held c.feed.new.out)
    j.text piece c.in-Err.fault c.requires.1.1.1.1.1.1.1 c.in-Ok.ensures.bytes.0 room asked c.in-Err.ensures.writes.front)

pub returns-in-Ok-More-clause-came : goal.returns-in-Ok-More-clause-came
returns-in-Ok-More-clause-came g c =
    let j = c.args.job.now in
    let piece = take c.in-Ok.count c.read.new.buf in
    let some : 0 < c.in-Ok.count = grind (arith, common_steps) in
    let count : length piece ≡ c.in-Ok.count = grind (arith, common_steps) in
    let room : length j.text + length piece ≤ most_bytes + 1 = grind (arith, common_steps) in
    let whole : length (j.text ++ piece) ≤ most_bytes + 1 = omega (arith, length-append j.text piece, room) in
    let text : c.feed.new.self.text ≡ j.text ++ piece =
    c.in-Ok-More.ensures.text (ap (λ p. more_ok p) c.in-Ok-More.field-0-is) ∙ whole_piece j.text piece whole in
    let far = further j.settings g.start.left (g.S.Source.left c.args.source.now) (g.S.Source.left c.read.new.self) g.start.held (g.K.Sink.held c.args.sink.now) (g.K.Sink.held c.feed.new.out)
    j.text piece c.requires.1.1.1.1.1.1.1 c.in-Ok.ensures.bytes.0 room c.in-Ok-More.ensures.writes.wrote in
    record {
      count = ap length text ∙ length-append j.text piece ∙ ap (λ k. length j.text + k) count;
      some = some;
      settings = c.in-Ok-More.ensures.settings;
      live = c.in-Ok-More.ensures.live ∙ ap more_goes_on c.in-Ok-More.field-0-is;
      far = subst (λ n. SoFar n g.start.left (g.S.Source.left c.read.new.self) g.start.held (g.K.Sink.held c.feed.new.out) c.feed.new.self.text) (sym c.in-Ok-More.ensures.settings)
          (subst (λ t. SoFar j.settings g.start.left (g.S.Source.left c.read.new.self) g.start.held (g.K.Sink.held c.feed.new.out) t) (sym text) far);
    }

pub returns-in-Ok-More-clause-within : goal.returns-in-Ok-More-clause-within
returns-in-Ok-More-clause-within g c = λ n e. subst (λ k. k ≤ length c.args.buffer.now) (more_is c.in-Ok.count n e) (grind (arith, common_steps))

pub returns-in-Ok-Ended-clause-read_fault : goal.returns-in-Ok-Ended-clause-read_fault
returns-in-Ok-Ended-clause-read_fault g c = λ e. absurd (not_a_fault c.args.job.now.settings (with_piece c.args.job.now.text (take c.in-Ok.count c.read.new.buf)) c.in-Ok-Ended.status (sym c.in-Ok-Ended.ensures.progress ∙ c.in-Ok-Ended.field-0-is) (inl (stop_is c.in-Ok-Ended.status ends.ReadFault e)))

pub returns-in-Ok-Ended-clause-write_fault : goal.returns-in-Ok-Ended-clause-write_fault
returns-in-Ok-Ended-clause-write_fault g c = λ e. absurd (not_a_fault c.args.job.now.settings (with_piece c.args.job.now.text (take c.in-Ok.count c.read.new.buf)) c.in-Ok-Ended.status (sym c.in-Ok-Ended.ensures.progress ∙ c.in-Ok-Ended.field-0-is) (inr (inl (stop_is c.in-Ok-Ended.status ends.WriteFault e))))

pub returns-in_default-clause-steps : goal.returns-in_default-clause-steps
returns-in_default-clause-steps g c =
    let j = c.args.job.now in
    spent_on_nothing j.settings g.start.left (g.S.Source.left c.args.source.now) g.start.held (g.K.Sink.held c.args.sink.now) j.text c.args.steps.now c.requires.1.1.1.1.1.1.1

pub returns-in-Ok-Ended-clause-steps : goal.returns-in-Ok-Ended-clause-steps
returns-in-Ok-Ended-clause-steps g c =
    let j = c.args.job.now in
    let piece = take c.in-Ok.count c.read.new.buf in
    let room : length j.text + length piece ≤ most_bytes + 1 = grind (arith, common_steps) in
    spent_on_piece j.settings g.start.left (g.S.Source.left c.args.source.now) (g.S.Source.left c.read.new.self) g.start.held (g.K.Sink.held c.args.sink.now)
    j.text piece c.args.steps.now c.feed.new.steps c.requires.1.1.1.1.1.1.1 c.in-Ok.ensures.bytes.0 room c.feed.ensures.steps

pub returns-in-Err-clause-steps : goal.returns-in-Err-clause-steps
returns-in-Err-clause-steps g c =
    let j = c.args.job.now in
    let piece = take c.in-Ok.count c.read.new.buf in
    let room : length j.text + length piece ≤ most_bytes + 1 = grind (arith, common_steps) in
    spent_on_piece j.settings g.start.left (g.S.Source.left c.args.source.now) (g.S.Source.left c.read.new.self) g.start.held (g.K.Sink.held c.args.sink.now)
    j.text piece c.args.steps.now c.feed.new.steps c.requires.1.1.1.1.1.1.1 c.in-Ok.ensures.bytes.0 room c.feed.ensures.steps

pub returns-in-Ok-More-clause-steps : goal.returns-in-Ok-More-clause-steps
returns-in-Ok-More-clause-steps g c =
    let j = c.args.job.now in
    let piece = take c.in-Ok.count c.read.new.buf in
    subst (λ z. SpendsOnText c.args.steps.now c.feed.new.steps (settled_work j.text j.settings) (settled_work z j.settings))
    (sym (c.in-Ok-More.ensures.text (ap (λ p. more_ok p) c.in-Ok-More.field-0-is))) c.feed.ensures.steps
