use Rattle.std.proofs.Common.{◌≡◌, ◌+◌, ◌-◌, List, ℕ, ap, ap₂, sym, ◌∙◌, arith}
use Rattle.mm_field.specs.Digits.{order}
use Rattle.mm_sample.proofs.EditLemmas.{edits_done, edits_step, with_edits}
use Rattle.mm_sample.proofs.edits.append_edits.Goals as goal

pub loop-preserved : goal.loop-preserved
loop-preserved c =
    let q = order c.args.f in
    let left = c.args.n - (c.loop.counter + 1) in
    ap₂ (λ (text : List ℕ) (x : ℕ). with_edits q c.args.n text x left) c.in_ok-append_edit.ensures.text c.in_ok-append_edit.ensures.draws
    ∙ edits_step q c.args.n c.loop.text c.loop.draws.x c.loop.counter c.loop-test.true
    ∙ c.loop.invariant

pub returns : goal.returns
returns c =
    let q = order c.args.f in
    let none : 0 ≡ c.args.n - c.loop.counter = omega (arith, c.loop-test.false) in
    sym (edits_done q c.args.n c.loop.text c.loop.draws.x)
    ∙ ap (λ (k : ℕ). with_edits q c.args.n c.loop.text c.loop.draws.x k) none
    ∙ c.loop.invariant
