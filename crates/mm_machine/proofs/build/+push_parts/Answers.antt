use Rattle.std.proofs.Common.{◌-◌, length, reverse, OnOk, subst, arith, ◌∷◌}
use Rattle.std.proofs.lemmas.List.{length-reverse}
use Rattle.mm_formula.specs.Scope.{slotted}
use Rattle.mm_formula.specs.Syntax.{syntax_of}
use Rattle.mm_formula.specs.Variables.{is_set}
use Rattle.mm_machine.specs.declared.part.Quantifier.TheVariants.{Ex, All}
use Rattle.mm_machine.specs.Builds.{IsNewQuantifier, Built}
use Rattle.mm_machine.specs.Scopes.{names}
use Rattle.mm_machine.proofs.BuildLemmas.{push_not, push_pair, push_quantifier, some_is, each_is}
use Rattle.mm_machine.proofs.build.+push_parts.Goals as goal

pub returns-in_ok-push_parts-in-Not : goal.returns-in_ok-push_parts-in-Not
returns-in_ok-push_parts-in-Not t c =
    let ns = names c.args.binders.now in
    let olds = c.args.list.now.items in
    let mids = c.push_parts.new.list.items in
    rw c.in-Not.is (push_not c.args.f olds mids c.push_node.new.list.items c.push_node.result (slotted ns (syntax_of c.in-Not.body.value))
    (subst (λ z. Built c.args.f (slotted ns (syntax_of z)) (reverse olds) (reverse mids)) c.deref.ensures c.in_ok-push_parts-in-Not.ensures) c.push_node.ensures)

pub returns-in_ok-push_parts-in-Bin-2 : goal.returns-in_ok-push_parts-in-Bin-2
returns-in_ok-push_parts-in-Bin-2 t c =
    let ns = names c.args.binders.now in
    let olds = c.args.list.now.items in
    let lows = c.push_parts-in-Bin.new.list.items in
    let mids = c.push_parts-in-Bin-2.new.list.items in
    let low = subst (λ z. Built c.args.f (slotted ns (syntax_of z)) (reverse olds) (reverse lows)) c.deref-in-Bin.ensures c.in_ok-push_parts-in-Bin.ensures in
    let mid = subst (λ z. Built c.args.f (slotted ns (syntax_of z)) (reverse lows) (reverse mids)) c.deref-in-Bin-2.ensures c.in_ok-push_parts-in-Bin-2.ensures in
    rw c.in-Bin.is (push_pair c.args.f olds lows mids c.push_node-in-Bin.new.list.items c.push_node-in-Bin.result c.in-Bin.connective c.new-table.result (c.len.result - c.len-before.result)
    (slotted ns (syntax_of c.in-Bin.first.value)) (slotted ns (syntax_of c.in-Bin.second.value))
    (omega (arith, mid.long, length-reverse lows, length-reverse mids, c.len.ensures, c.len-before.ensures, c.push_parts-in-Bin.new.list.ok, c.push_parts-in-Bin-2.new.list.ok))
    c.new-table.ensures low mid c.push_node-in-Bin.ensures)

pub returns-in_ok-push_parts-in-Ex : goal.returns-in_ok-push_parts-in-Ex
returns-in_ok-push_parts-in-Ex t c =
    let ns = names c.args.binders.now in
    let olds = c.args.list.now.items in
    let mids = c.push_parts-in-Ex.new.list.items in
    let n = c.quantifier_node-node.result in
    let G = slotted (c.in-Ex.v ∷ ns) (syntax_of c.in-Ex.body.value) in
    rw c.in-Ex.is (subst (λ F. OnOk c.push_node-in-Ex.result (Built c.args.f F (reverse olds) (reverse c.push_node-in-Ex.new.list.items))) (some_is (is_set c.in-Ex.v) (length ns) G)
    (push_quantifier c.args.f olds mids c.push_node-in-Ex.new.list.items c.push_node-in-Ex.result Ex (is_set c.in-Ex.v) (length ns) n G
    (subst (λ k. IsNewQuantifier Ex (is_set c.in-Ex.v) k n) c.len-in-Ex.ensures c.quantifier_node-node.ensures)
    (subst (λ z. Built c.args.f (slotted (c.in-Ex.v ∷ ns) (syntax_of z)) (reverse olds) (reverse mids)) c.deref-in-Ex.ensures c.in_ok-push_parts-in-Ex.ensures) c.push_node-in-Ex.ensures))

pub returns-in_ok-push_parts-in-All : goal.returns-in_ok-push_parts-in-All
returns-in_ok-push_parts-in-All t c =
    let ns = names c.args.binders.now in
    let olds = c.args.list.now.items in
    let mids = c.push_parts-in-All.new.list.items in
    let n = c.quantifier_node-node-in-All.result in
    let G = slotted (c.in-All.v ∷ ns) (syntax_of c.in-All.body.value) in
    rw c.in-All.is (subst (λ F. OnOk c.push_node-in-All.result (Built c.args.f F (reverse olds) (reverse c.push_node-in-All.new.list.items))) (each_is (is_set c.in-All.v) (length ns) G)
    (push_quantifier c.args.f olds mids c.push_node-in-All.new.list.items c.push_node-in-All.result All (is_set c.in-All.v) (length ns) n G
    (subst (λ k. IsNewQuantifier All (is_set c.in-All.v) k n) c.len-in-All.ensures c.quantifier_node-node-in-All.ensures)
    (subst (λ z. Built c.args.f (slotted (c.in-All.v ∷ ns) (syntax_of z)) (reverse olds) (reverse mids)) c.deref-in-All.ensures c.in_ok-push_parts-in-All.ensures) c.push_node-in-All.ensures))
