use Rattle.std.proofs.Common.{◌<◌, sym, ap, ◌∙◌, subst}
use Rattle.std.proofs.lemmas.List.{length-map}
use Rattle.std.specs.Ordering.{is_eq}
use Rattle.mm_logic.specs.Value.Value.{Dead}
use Rattle.mm_logic.specs.Occurrence.{same}
use Rattle.mm_reference.specs.Values.{value_of, seen_of}
use Rattle.mm_reference_meaning.proofs.AssignmentLemmas.{some_passes}
use Rattle.mm_reference.proofs.SizeLemmas.{seen_at}
use Rattle.mm_reference.proofs.sizes.is_among.Goals as goal

pub returns-then-is_eq : goal.returns-then-is_eq
returns-then-is_eq c =
    let values = c.args.values.now in
    let v = value_of c.args.value.now in
    let i = c.loop-other.other-index in
    let at = seen_at i values c.other-item.result Dead c.loop-other-test.true c.other-item.is in
    sym (some_passes (same v) (seen_of values) i Dead (subst (λ n. i < n) (sym (length-map values (λ w. value_of w.now))) c.loop-other-test.true)
    (ap (same v) at ∙ ap is_eq (sym c.compare.ensures) ∙ sym c.is_eq.ensures ∙ c.if-is_eq.true))
