use Rattle.std.proofs.Common.{◌≡◌, take, drop, refl, ap₂, sym, subst, ◌∙◌, Some}
use Rattle.std.specs.Option.{IsSome}
use Rattle.std.proofs.lemmas.Option.{same_Some}
use Rattle.mm_space.specs.DigitTexts.{vectors_of}
use Rattle.mm_decomp.proofs.OperatorLemmas.{rows_back}
use Rattle.mm_decomp.proofs.operator.generator.Goals as goal

pub unwrap-requires-2 : goal.unwrap-requires-2
unwrap-requires-2 c =
    let m = c.args.m.now in
    let some = take c.args.count (drop c.args.from m.rows) in
    let read : c.read-2.result ≡ Some some =
    c.read-2.ensures.exact ∙ ap₂ vectors_of c.field-2.ensures c.deref.ensures.value
    ∙ rows_back m.f m.cols c.args.from c.args.count m.rows c.in_ok-text.text.items c.rows.ensures.each c.requires.short c.requires.few c.requires.rows c.in_ok-text.ensures in
    subst (λ o. IsSome o) (sym read) refl

pub returns : goal.returns
returns c =
    let m = c.args.m.now in
    let some = take c.args.count (drop c.args.from m.rows) in
    let read : c.read-2.result ≡ Some some =
    c.read-2.ensures.exact ∙ ap₂ vectors_of c.field-2.ensures c.deref.ensures.value
    ∙ rows_back m.f m.cols c.args.from c.args.count m.rows c.in_ok-text.text.items c.rows.ensures.each c.requires.short c.requires.few c.requires.rows c.in_ok-text.ensures in
    same_Some _ _ (sym c.unwrap-2.ensures ∙ read)
