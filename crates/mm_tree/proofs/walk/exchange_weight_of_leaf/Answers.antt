use Rattle.std.proofs.Common.{rules, ℤ, sym, ap, ◌∙◌, Some}
use Rattle.mm_tree.proofs.Walks.{own_weight, other_weight, no_weight}
use Rattle.mm_tree.proofs.walk.exchange_weight_of_leaf.Goals as goal

pub returns-then-not-is_named-clause-before : goal.returns-then-not-is_named-clause-before
returns-then-not-is_named-clause-before c = sym (other_weight c.args.name.now c.args.leaf.now (sym c.is_named.ensures ∙ c.if-not-is_named.true))

pub returns-in-Some-clause-before : goal.returns-in-Some-clause-before
returns-in-Some-clause-before c =
    ap (λ (x : ℤ). Some x) (search rules)
    ∙ sym (own_weight c.args.name.now c.args.leaf.now c.in-Some.item c.in-Some.is (sym c.is_named.ensures ∙ c.if-not-is_named.false))

pub returns-in-None-clause-before : goal.returns-in-None-clause-before
returns-in-None-clause-before c = sym (no_weight c.args.name.now c.args.leaf.now c.in-None.is)
