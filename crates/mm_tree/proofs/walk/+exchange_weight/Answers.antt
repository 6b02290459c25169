use Rattle.std.proofs.Common.{rules, ℕ, ℤ, List, ◌≡◌, refl, sym, subst, Option, Some, None, arith, w64, SFits, to_z, of_z}
use Rattle.std.proofs.lemmas.Int.{to_z-of_z}
use Rattle.std.specs.Box.{with_value}
use Rattle.mm_tree.specs.Steps.{IsReweighted}
use Rattle.mm_tree.specs.declared.node.Node.{Node}
use Rattle.mm_tree.specs.declared.node.Node as nodes_of
use Rattle.mm_tree.specs.declared.node.Node.TheViews as views
use Rattle.mm_tree.proofs.StepLemmas.{reweighted_leaf, reweighted_left, reweighted_right}
use Rattle.mm_tree.proofs.walk.+exchange_weight.Goals as goal

moved : (name : List ℕ) (w v : ℤ) (a b new : Node) (found last : Option ℤ) → w ≡ v → a ≡ b → found ≡ last → IsReweighted name w a new found →
    IsReweighted name v b new last
moved name w v a b new found last i e r s =
    subst (λ (x : ℤ). IsReweighted name x b new last) i
    (subst (λ (x : Node). IsReweighted name w x new last) e (subst (λ (x : Option ℤ). IsReweighted name w a new x) r s))

pub returns-in-Leaf : goal.returns-in-Leaf
returns-in-Leaf t c =
    let new = nodes_of.Leaf c.exchange_weight_of_leaf.new.leaf in
    let before = c.exchange_weight_of_leaf.result in
    moved c.args.name.now _ c.args.weight (nodes_of.Leaf c.in-Leaf.leaf) c.args.node.now new before before (search rules) (sym c.in-Leaf.is) refl
    (reweighted_leaf c.args.name.now _ c.in-Leaf.leaf c.exchange_weight_of_leaf.new.leaf before
    c.exchange_weight_of_leaf.ensures.before c.exchange_weight_of_leaf.ensures.found c.exchange_weight_of_leaf.ensures.leaf)

pub returns-in-Some : goal.returns-in-Some
returns-in-Some t c =
    let n = c.in-Join.field-0 in
    let op = c.in-Join.field-1 in
    let l = c.in-Join.left in
    let r = c.in-Join.right in
    let name = c.args.name.now in
    let w = c.args.weight in
    let before = c.in-Some.before in
    let fits : SFits w64 before = search rules in
    let same : to_z w64 (of_z w64 before) ≡ before = grind (arith, to_z-of_z) in
    subst (λ (z : ℤ). IsReweighted name w c.args.node.now (views.Join n op (with_value l c.exchange_weight.new.node) r) (Some z)) (sym same)
    (subst (λ (x : Node). IsReweighted name w x (views.Join n op (with_value l c.exchange_weight.new.node) r) (Some before)) (sym c.in-Join.is)
    (reweighted_left name w before n op l r c.exchange_weight.new.node
    (moved name _ w c.deref_mut.result.now l.value c.exchange_weight.new.node c.exchange_weight.result (Some before) (search rules) c.deref_mut.ensures.value
    c.in-Some.is c.exchange_weight.ensures)))

pub returns-in-None : goal.returns-in-None
returns-in-None t c =
    let n = c.in-Join.field-0 in
    let op = c.in-Join.field-1 in
    let l = c.in-Join.left in
    let r = c.in-Join.right in
    let name = c.args.name.now in
    let w = c.args.weight in
    let last = c.exchange_weight-in-None.result in
    let node = c.exchange_weight-in-None.new.node in
    subst (λ (x : Node). IsReweighted name w x (views.Join n op (with_value l c.exchange_weight.new.node) (with_value r node)) last)
    (sym c.in-Join.is)
    (reweighted_right name w n op l r c.exchange_weight.new.node node last
    (moved name _ w c.deref_mut.result.now l.value c.exchange_weight.new.node c.exchange_weight.result None (search rules) c.deref_mut.ensures.value
    c.in-None.is c.exchange_weight.ensures)
    (moved name _ w c.deref_mut-in-None.result.now r.value node last last (search rules)
    c.deref_mut-in-None.ensures.value refl c.exchange_weight-in-None.ensures))
