use Rattle.std.proofs.Common.{◌≡◌, ◌∙◌, ℕ, drop, ap, sym, arith}
use Rattle.mm_lines.specs.Tokens.{tokens}
use Rattle.mm_lines.specs.LineBytes.{bytes_of}
use Rattle.mm_lines.proofs.FramerLemmas.{drop_next, get_none, get_by_cursor}
use Rattle.mm_lines.proofs.line.Line.token.Goals as goal

pub returns-in_default : goal.returns-in_default
returns-in_default c =
    let all = tokens (bytes_of c.args.self.now) in
    sym (get_none all c.before-2.counter c.args.k (sym c.before-2.invariant ∙ c.in_default.ensures.0) (omega (arith, c.before-2-test.true)))

pub before-2-preserved : goal.before-2-preserved
before-2-preserved c =
    let all = tokens (bytes_of c.args.self.now) in
    sym (drop_next all c.before-2.counter c.in-Some.field-0.now c.next.new.self (sym c.before-2.invariant ∙ c.in-Some.ensures))

pub returns : goal.returns
returns c =
    let all = tokens (bytes_of c.args.self.now) in
    let here : c.before-2.tokens ≡ drop c.args.k all = c.before-2.invariant ∙ ap (λ (n : ℕ). drop n all) {x = c.before-2.counter} {y = c.args.k} (omega (arith, c.before-2-test.false, c.before-2.auto.counter-end)) in
    get_by_cursor (λ t. t.now) c.next-2.result all c.before-2.tokens c.next-2.new.self c.args.k here c.next-2.ensures
