use Rattle.std.proofs.Common.{◌+◌, ◌≡◌, ◌<◌, arith, get_or, length, take, sym, subst, ap, ◌∙◌, length-set}
use Rattle.std.proofs.lemmas.List.{length-take-le, get_or-take, get_or-set_other}
use Rattle.mm_linear.proofs.SpaceLemmas.{false_true}
use Rattle.mm_field.specs.Digits.{order}
use Rattle.mm_space.proofs.TextLemmas.{text_of_digits, digits_of_text, one_digit_more}
use Rattle.mm_space.proofs.vector.Vector.read_digits.Goals as goal

pub returns-in-None-clause-none : goal.returns-in-None-clause-none
returns-in-None-clause-none c = λ v h.
    false_true ⊥ (c.in-None.ensures.none.1 ((digits_of_text c.args.f v c.args.bytes.now h c.requires.no_dash).1 c.loop-i.i c.loop-i-test.true))

pub loop-i-preserved : goal.loop-i-preserved
loop-i-preserved c =
    let size = c.loop-i.invariant.size in
    let inside = c.loop-i-test.true in
    let few = c.requires.short in
    record {
      size = length-set c.loop-i.digits c.loop-i.i c.in-Some.d ∙ size;
      done = one_digit_more c.args.f c.loop-i.digits c.args.bytes.now c.loop-i.i c.in-Some.d (omega arith)
          c.in-Some.ensures.value.0 c.in-Some.ensures.value.1 c.loop-i.invariant.done;
      rest = λ k lk l.
          get_or-set_other c.loop-i.digits c.loop-i.i k c.in-Some.d 0 (λ e. absurd (omega arith)) ∙ c.loop-i.invariant.rest k (omega arith) l;
    }

pub returns-clause-text : goal.returns-clause-text
returns-clause-text c =
    let bytes = c.args.bytes.now in
    let digits = c.loop-i.digits in
    let few = c.requires.short in
    let size = c.loop-i.invariant.size in
    let ended = c.loop-i-test.false in
    let same : length (take (length bytes) digits) ≡ length bytes = length-take-le (length bytes) digits (omega arith) in
    text_of_digits c.args.f c.of.result bytes c.requires.some c.requires.short
    (ap length c.of.ensures ∙ same)
    (λ k l.
    let e = ap (λ v. get_or v k 0) c.of.ensures ∙ get_or-take (length bytes) digits k 0 l in
    subst (λ x. (x < order c.args.f) × (x + 48 ≡ get_or bytes k 0)) (sym e) (c.loop-i.invariant.done k (omega arith)))
