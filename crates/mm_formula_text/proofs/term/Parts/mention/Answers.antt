use Rattle.std.proofs.Common.{◌∙◌, not, sym, ap}
use Rattle.mm_formula_text.specs.Grammar.{mention}
use Rattle.mm_formula_text.proofs.PartsLemmas.{had, mention-old, mention-new}
use Rattle.mm_formula_text.proofs.term.Parts.mention.Goals as goal

pub push-requires : goal.push-requires
push-requires c =
    had c.args.v c.self.inside.seen.keys c.self.inside.term.vars c.in_ok-is_new.is_new c.self.invariant c.in_ok-is_new.ensures.added
    ∙ ap not c.if-not-is_new.false

pub returns : goal.returns
returns c =
    let t = c.self.inside.term in
    let is_new = had c.args.v c.self.inside.seen.keys t.vars c.in_ok-is_new.is_new c.self.invariant c.in_ok-is_new.ensures.added ∙ ap not c.if-not-is_new.false in
    ap (λ vs. record { whole = t.whole; vars = vs }) c.in_ok-push.ensures.ok ∙ sym (mention-new t c.args.v is_new) ∙ ap (λ s. mention s c.args.v) c.self.view_is

pub returns-then-not-is_new : goal.returns-then-not-is_new
returns-then-not-is_new c =
    let t = c.self.inside.term in
    let old = had c.args.v c.self.inside.seen.keys t.vars c.in_ok-is_new.is_new c.self.invariant c.in_ok-is_new.ensures.added ∙ ap not c.if-not-is_new.true in
    sym (mention-old t c.args.v old) ∙ ap (λ s. mention s c.args.v) c.self.view_is
