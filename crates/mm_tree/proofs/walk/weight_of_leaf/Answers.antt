use Rattle.std.proofs.Common.{rules, ℤ, Bool, sym, ap, ◌∙◌, Some, None, if◌then◌else◌}
use Rattle.mm_tree.proofs.Walks.{element_weight, no_weight}
use Rattle.mm_tree.proofs.walk.weight_of_leaf.Goals as goal

pub returns-in-Some : goal.returns-in-Some
returns-in-Some c =
    let w = c.in-Some.item.weight in
    ap (λ (x : ℤ). Some x) (search rules)
    ∙ sym (element_weight c.args.name.now c.args.leaf.now c.in-Some.item c.in-Some.is
    ∙ ap (λ (b : Bool). if b then Some w else None) (sym c.is_named.ensures ∙ c.if-is_named.true))

pub returns-in_default : goal.returns-in_default
returns-in_default c =
    let w = c.in-Some.item.weight in
    sym (element_weight c.args.name.now c.args.leaf.now c.in-Some.item c.in-Some.is
    ∙ ap (λ (b : Bool). if b then Some w else None) (sym c.is_named.ensures ∙ c.if-is_named.false))

pub returns-in_default-2 : goal.returns-in_default-2
returns-in_default-2 c = sym (no_weight c.args.name.now c.args.leaf.now c.in_default.is)
