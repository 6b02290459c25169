use Rattle.std.proofs.Common.{ap, ◌∙◌, sym, subst, ◌≡◌}
use Rattle.std.specs.Prelude.{IfOk}
use Rattle.std.specs.List.Sorted.{IsNonDecreasingBy}
use Rattle.std.specs.Ordering.{nat_cmp}
use Rattle.std.proofs.lemmas.List.Sorted.{IsNonDecreasingBy-from_sort}
use Rattle.mm_logic.specs.Order.{normal}
use Rattle.mm_checker.proofs.NumberLemmas.{once_sorted}
use Rattle.mm_checker.proofs.rules.set_of.Goals as goal

pub each_once-requires : goal.each_once-requires
each_once-requires c =
    subst (IsNonDecreasingBy (λ n. n)) (sym c.deref.ensures.value) (IsNonDecreasingBy-from_sort (λ n. n) _ c.in_ok-sort.ensures.sorted)

pub returns : goal.returns
returns c =
    subst (λ xs. IfOk c.each_once.result (λ set. set ≡ xs))
    (ap (normal nat_cmp) c.deref.ensures.value ∙ once_sorted c.args.numbers.items _ c.in_ok-sort.ensures.permutation) c.each_once.ensures
