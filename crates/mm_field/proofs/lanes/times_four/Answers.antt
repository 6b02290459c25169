use Rattle.std.proofs.Common.{ℕ, ◌≡◌, ap, sym, ◌∙◌, arith}
use Rattle.std.proofs.lemmas.Nat.{xor_lt}
use Rattle.mm_field.specs.declared.Field.TheVariants.{Four}
use Rattle.mm_field.specs.Digits.{times}
use Rattle.mm_field.proofs.StepLemmas.{four_once, four_thrice}
use Rattle.mm_field.proofs.lanes.times_four.Goals as goal

pub returns-then-c-eq3-clause-small : goal.returns-then-c-eq3-clause-small
returns-then-c-eq3-clause-small c = xor_lt 2 c.args.a c.twice_four-twice.result c.requires.digit c.twice_four-twice.ensures.small

pub returns-then-c-eq3-clause-product : goal.returns-then-c-eq3-clause-product
returns-then-c-eq3-clause-product c =
    four_thrice c.args.a c.twice_four-twice.result c.requires.digit c.twice_four-twice.ensures.product
    ∙ ap (λ (k : ℕ). times Four k c.args.a) (sym c.if-c-eq3.true)

pub returns-else-c-eq3-clause-product : goal.returns-else-c-eq3-clause-product
returns-else-c-eq3-clause-product c =
    let factor = c.requires.factor in
    let some = c.requires.nonzero in
    let two = c.if-c-eq2.false in
    let three = c.if-c-eq3.false in
    let one : 1 ≡ c.args.c = omega (arith, factor, some, two, three) in
    four_once c.args.a c.requires.digit ∙ ap (λ (k : ℕ). times Four k c.args.a) one
