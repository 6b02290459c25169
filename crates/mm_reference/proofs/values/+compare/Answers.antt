use Rattle.std.proofs.Common.{length, sym, ap₂, ◌∙◌}
use Rattle.std.specs.Ordering.{nat_cmp, ordering_then}
use Rattle.mm_logic.specs.Value.{members, value_cmp}
use Rattle.mm_reference.specs.Values.{value_of}
use Rattle.mm_reference.proofs.OrderLemmas.{cmp_pairs, cmp_sets}
use Rattle.mm_reference.proofs.values.+compare.Goals as goal

pub returns-in-Pair-second : goal.returns-in-Pair-second
returns-in-Pair-second t c =
    let whole = ap₂ (λ v w. value_cmp (value_of v) (value_of w)) (sym c.in-Pair.is) (sym c.in-Pair-second.is) in
    let firsts = c.compare.ensures ∙ ap₂ (λ v w. value_cmp (value_of v) (value_of w)) c.deref-in-Pair-second.ensures c.deref-in-Pair-second-2.ensures in
    let seconds = c.compare-in-Pair-second.ensures ∙ ap₂ (λ v w. value_cmp (value_of v) (value_of w)) c.deref-in-Pair-second-3.ensures c.deref-in-Pair-second-4.ensures in
    c.then.ensures ∙ ap₂ ordering_then firsts seconds
    ∙ cmp_pairs (value_of c.in-Pair.v.value) (value_of c.in-Pair.w.value) (value_of c.in-Pair-second.x.value) (value_of c.in-Pair-second.y.value)
    ∙ whole

pub returns-in-With-second-2 : goal.returns-in-With-second-2
returns-in-With-second-2 t c =
    let whole = ap₂ (λ v w. value_cmp (value_of v) (value_of w)) (sym c.in-With.is) (sym c.in-With-second-2.is) in
    let sizes = c.compare_sizes.ensures ∙ ap₂ (λ v w. nat_cmp (length (members (value_of v))) (length (members (value_of w)))) c.deref-in-With-second-2.ensures c.deref-in-With-second-2-2.ensures in
    let leasts = c.compare-in-With-second-2.ensures ∙ ap₂ (λ v w. value_cmp (value_of v) (value_of w)) c.deref-in-With-second-2-3.ensures c.deref-in-With-second-2-4.ensures in
    let rests = c.compare-in-With-second-2-2.ensures ∙ ap₂ (λ v w. value_cmp (value_of v) (value_of w)) c.deref-in-With-second-2-5.ensures c.deref-in-With-second-2-6.ensures in
    c.then-in-With-second-2-2.ensures
    ∙ ap₂ ordering_then (c.then-in-With-second-2.ensures ∙ ap₂ ordering_then sizes leasts) rests
    ∙ cmp_sets (value_of c.in-With.v.value) (value_of c.in-With.rest.value) (value_of c.in-With-second-2.x.value) (value_of c.in-With-second-2.others.value)
    ∙ whole
