use Rattle.std.proofs.Common.{rules, refl, ◌≡◌, ◌++◌, ◌∷◌, []}
use Rattle.mm_decomp.specs.declared.shape.Step.TheVariants as steps
use Rattle.mm_decomp.proofs.TreeShapeLemmas.{leaf_step, no_leaf_step}
use Rattle.mm_decomp.proofs.tree_shape.push_leaf.Goals as goal

pub returns-in_ok-push-in-Some : goal.returns-in_ok-push-in-Some
returns-in_ok-push-in-Some c =
    let pushed : c.push.new.self.items ≡ c.args.steps.now.items ++ steps.Leaf c.args.leaf.now.name c.in-Some.item.weight ∷ [] = search rules in
    leaf_step c.args.leaf.now c.in-Some.item c.args.steps.now.items _ c.in-Some.is pushed

pub returns-in-None : goal.returns-in-None
returns-in-None c = no_leaf_step c.args.leaf.now c.args.steps.now.items _ c.in-None.is refl
