use Rattle.std.proofs.Common.{ℕ, ◌-◌, ◌<◌, ◌≤◌, List, ◌++◌, length, take, ap, sym, subst, ◌∙◌, arith}
use Rattle.std.proofs.lemmas.Result.{on_ok_weaker, on_err_weaker}
use Rattle.mm_lines.specs.Lines.{most_bytes, settled}
use Rattle.mm_job.specs.Jobs.{Grew, GrewByFront, progress, with_piece}
use Rattle.mm_job.specs.Output.{Over, settled_output, status_of, written_lines}
use Rattle.mm_job.specs.State.Standing.{written_at}
use Rattle.mm_job.specs.declared.progress.Progress.TheVariants.{Ended}
use Rattle.mm_job.proofs.JobLemmas.{fits, last_output, last_progress, last_work, room_of, value_as}
use Rattle.mm_job.specs.Calls.{SpendsOnText}
use Rattle.mm_job.specs.Work.{settled_work}
use Rattle.mm_job.proofs.job.Job.feed.Goals as goal

pub returns-then-piece-room-clause-progress : goal.returns-then-piece-room-clause-progress
returns-then-piece-room-clause-progress g c =
    let s = c.args.self.now in
    let piece = c.args.piece.now in
    let room = most_bytes - c.self.inside.taken in
    let long : room < length piece = omega (arith, c.if-piece-room.true) in
    value_as (Ended (status_of (written_lines s.settings Over (settled (s.text ++ take room piece))))) (progress (with_piece s.text piece) s.settings) c.feed_last.result
    (last_progress s room piece (room_of c.self.inside s c.self.view_is c.requires.live c.self.invariant) long) c.feed_last.ensures.progress

pub returns-then-piece-room-clause-writes : goal.returns-then-piece-room-clause-writes
returns-then-piece-room-clause-writes g c =
    let s = c.args.self.now in
    let piece = c.args.piece.now in
    let room = most_bytes - c.self.inside.taken in
    let long : room < length piece = omega (arith, c.if-piece-room.true) in
    let W : List ℕ → Type 0 = λ l. Grew (g.K.Sink.held c.args.out.now) (g.K.Sink.held c.feed_last.new.out) (settled_output s.text s.settings) l in
    let F : List ℕ → Type 0 = λ l. GrewByFront (g.K.Sink.held c.args.out.now) (g.K.Sink.held c.feed_last.new.out) (settled_output s.text s.settings) l in
    record {
      wrote = on_ok_weaker {P = W (written_at Over s.settings (s.text ++ take room piece))} {Q = W (settled_output (with_piece s.text piece) s.settings)} c.feed_last.result (subst W (last_output s room piece (room_of c.self.inside s c.self.view_is c.requires.live c.self.invariant) long)) c.feed_last.ensures.writes.wrote;
      front = on_err_weaker {P = F (written_at Over s.settings (s.text ++ take room piece))} {Q = F (settled_output (with_piece s.text piece) s.settings)} c.feed_last.result (subst F (last_output s room piece (room_of c.self.inside s c.self.view_is c.requires.live c.self.invariant) long)) c.feed_last.ensures.writes.front;
      cause = c.feed_last.ensures.writes.cause;
    }

pub returns-else-piece-room-clause-progress : goal.returns-else-piece-room-clause-progress
returns-else-piece-room-clause-progress g c =
    let s = c.args.self.now in
    let piece = c.args.piece.now in
    let room = most_bytes - c.self.inside.taken in
    let short : length piece ≤ room = omega (arith, c.if-piece-room.false) in
    value_as (progress (s.text ++ piece) s.settings) (progress (with_piece s.text piece) s.settings) c.feed_all.result
    (ap (λ (l : List ℕ). progress l s.settings) (sym (fits s room piece (room_of c.self.inside s c.self.view_is c.requires.live c.self.invariant) short))) c.feed_all.ensures.progress

pub returns-else-piece-room-clause-text : goal.returns-else-piece-room-clause-text
returns-else-piece-room-clause-text g c = λ more.
    let s = c.args.self.now in
    let piece = c.args.piece.now in
    let room = most_bytes - c.self.inside.taken in
    let short : length piece ≤ room = omega (arith, c.if-piece-room.false) in
    c.feed_all.ensures.text more ∙ sym (fits s room piece (room_of c.self.inside s c.self.view_is c.requires.live c.self.invariant) short)

pub returns-else-piece-room-clause-writes : goal.returns-else-piece-room-clause-writes
returns-else-piece-room-clause-writes g c =
    let s = c.args.self.now in
    let piece = c.args.piece.now in
    let room = most_bytes - c.self.inside.taken in
    let short : length piece ≤ room = omega (arith, c.if-piece-room.false) in
    let W : List ℕ → Type 0 = λ l. Grew (g.K.Sink.held c.args.out.now) (g.K.Sink.held c.feed_all.new.out) (settled_output s.text s.settings) (settled_output l s.settings) in
    let F : List ℕ → Type 0 = λ l. GrewByFront (g.K.Sink.held c.args.out.now) (g.K.Sink.held c.feed_all.new.out) (settled_output s.text s.settings) (settled_output l s.settings) in
    record {
      wrote = on_ok_weaker {P = W (s.text ++ piece)} {Q = W (with_piece s.text piece)} c.feed_all.result (subst W (sym (fits s room piece (room_of c.self.inside s c.self.view_is c.requires.live c.self.invariant) short))) c.feed_all.ensures.writes.wrote;
      front = on_err_weaker {P = F (s.text ++ piece)} {Q = F (with_piece s.text piece)} c.feed_all.result (subst F (sym (fits s room piece (room_of c.self.inside s c.self.view_is c.requires.live c.self.invariant) short))) c.feed_all.ensures.writes.front;
      cause = c.feed_all.ensures.writes.cause;
    }

pub returns-then-piece-room-clause-steps : goal.returns-then-piece-room-clause-steps
returns-then-piece-room-clause-steps g c =
    let s = c.args.self.now in
    let piece = c.args.piece.now in
    let room = most_bytes - c.self.inside.taken in
    let long : room < length piece = omega (arith, c.if-piece-room.true) in
    subst (λ (n : ℕ). SpendsOnText c.args.steps.now c.feed_last.new.steps (settled_work s.text s.settings) n)
    (last_work s room piece (room_of c.self.inside s c.self.view_is c.requires.live c.self.invariant) long) c.feed_last.ensures.steps

pub returns-else-piece-room-clause-steps : goal.returns-else-piece-room-clause-steps
returns-else-piece-room-clause-steps g c =
    let s = c.args.self.now in
    let piece = c.args.piece.now in
    let room = most_bytes - c.self.inside.taken in
    let short : length piece ≤ room = omega (arith, c.if-piece-room.false) in
    subst (λ (l : List ℕ). SpendsOnText c.args.steps.now c.feed_all.new.steps (settled_work s.text s.settings) (settled_work l s.settings))
    (sym (fits s room piece (room_of c.self.inside s c.self.view_is c.requires.live c.self.invariant) short)) c.feed_all.ensures.steps
