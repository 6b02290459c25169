use Rattle.std.proofs.Common.{List, ℕ}
use Rattle.std.proofs.lemmas.Result.{on_ok_weaker, on_err_weaker}
use Rattle.mm_job.specs.Jobs.{Grew, GrewByFront}
use Rattle.mm_job.specs.Output.{More, output, settled_output}
use Rattle.mm_job.specs.State.Standing.{written_at}
use Rattle.mm_job.proofs.JobLemmas.{bound_of_state, live_of, of_state}
use Rattle.mm_job.proofs.job.Job.finish.Goals as goal

pub returns-clause-writes : goal.returns-clause-writes
returns-clause-writes g c =
    let held = g.K.Sink.held in
    let i = c.self.inside in
    let W : List ℕ → List ℕ → Type 0 = λ a b. Grew (held c.args.out.now) (held c.take_text_end.new.out) a b in
    let F : List ℕ → List ℕ → Type 0 = λ a b. GrewByFront (held c.args.out.now) (held c.take_text_end.new.out) a b in
    record {
      wrote = on_ok_weaker {P = W (written_at More i.settings i.framer.bytes) (output i.framer.bytes i.settings)} {Q = W (settled_output c.args.self.now.text c.args.self.now.settings) (output c.args.self.now.text c.args.self.now.settings)} c.take_text_end.result (of_state W (λ settings text. output text settings) i c.args.self.now c.self.view_is (live_of i c.args.self.now c.self.view_is c.requires.live c.self.invariant).size) c.take_text_end.ensures.writes.wrote;
      front = on_err_weaker {P = F (written_at More i.settings i.framer.bytes) (output i.framer.bytes i.settings)} {Q = F (settled_output c.args.self.now.text c.args.self.now.settings) (output c.args.self.now.text c.args.self.now.settings)} c.take_text_end.result (of_state F (λ settings text. output text settings) i c.args.self.now c.self.view_is (live_of i c.args.self.now c.self.view_is c.requires.live c.self.invariant).size) c.take_text_end.ensures.writes.front;
      cause = c.take_text_end.ensures.writes.cause;
    }

pub returns-clause-steps : goal.returns-clause-steps
returns-clause-steps g c =
    bound_of_state c.self.inside c.args.self.now c.args.steps.now c.take_text_end.new.steps c.self.view_is c.take_text_end.ensures.steps
