use Rattle.std.proofs.Common.{[], ◌∷◌, refl, sym, ap, subst, ◌∙◌, arith, take, reverse, get_or}
use Rattle.mm_decomp.specs.declared.shape.Step.TheVariants as steps
use Rattle.mm_decomp.specs.Shapes.{after_steps}
use Rattle.mm_decomp.specs.Shapes.Shape.{Leaf}
use Rattle.mm_decomp.specs.Stack.{AreFormsOf}
use Rattle.mm_decomp.specs.Steps.{IsBuilding, leaf_columns_of}
use Rattle.mm_decomp.proofs.StepLemmas.{next_shapes, two_at, leaf_in, leaves_most, joins_and_leaves, forms_over, last_fit, two_last, takes_join, weight_light, weight_fits}
use Rattle.mm_decomp.proofs.FaultLemmas.{leaf_free, trees_fit}
use Rattle.mm_decomp.proofs.build.Building.step.Goals as goal

pub row-requires : goal.row-requires
row-requires c =
    let l = leaf_in c.args.steps.now c.args.i _ c.in-Leaf.name c.in-Leaf.weight c.requires.place c.in-Leaf.is c.requires.shape.find_two in
    omega (arith, l, c.requires.so_far.leaves, c.requires.columns.count)

pub row-requires-in-Leaf : goal.row-requires-in-Leaf
row-requires-in-Leaf c =
    let l = leaf_in c.args.steps.now c.args.i _ c.in-Leaf.name c.in-Leaf.weight c.requires.place c.in-Leaf.is c.requires.shape.find_two in
    omega (arith, l, c.requires.so_far.leaves, c.requires.columns.count_columns)

pub leaf-requires-clause-few : goal.leaf-requires-clause-few
leaf-requires-clause-few c =
    let l = leaves_most c.args.steps.now c.args.i c.requires.shape.find_two in
    let few = c.requires.shape.few in
    omega (arith, l, c.requires.so_far.leaves, few)

pub join-requires-clause-fit : goal.join-requires-clause-fit
join-requires-clause-fit c =
    let k = leaf_columns_of c.args.functionals.now c.args.columns.now in
    let t = two_last (after_steps [] (take c.args.i c.args.steps.now)) (two_at c.args.steps.now c.args.i _ c.requires.place c.in-Join.is c.requires.shape.find_two) in
    last_fit k t.left t.right t.rest (reverse c.args.self.now.forms.items)
    (subst (λ s. AreFormsOf k s (reverse c.args.self.now.forms.items)) t.are c.requires.so_far.forms)

pub join-requires-clause-same : goal.join-requires-clause-same
join-requires-clause-same c =
    let k = leaf_columns_of c.args.functionals.now c.args.columns.now in
    forms_over k c.args.self.now.field (after_steps [] (take c.args.i c.args.steps.now)) (reverse c.args.self.now.forms.items) c.requires.so_far.field
    c.requires.so_far.forms

pub join-requires-clause-few : goal.join-requires-clause-few
join-requires-clause-few c =
    let shapes = after_steps [] (take c.args.i c.args.steps.now) in
    let l = leaves_most c.args.steps.now c.args.i c.requires.shape.find_two in
    let two = two_at c.args.steps.now c.args.i _ c.requires.place c.in-Join.is c.requires.shape.find_two in
    let few = c.requires.shape.few in
    omega (arith, l, two, joins_and_leaves shapes, c.requires.so_far.joins, few)

pub returns-in_ok-leaf-in-Leaf : goal.returns-in_ok-leaf-in-Leaf
returns-in_ok-leaf-in-Leaf c =
    let k = leaf_columns_of c.args.functionals.now c.args.columns.now in
    let all = c.args.steps.now in
    let shapes = after_steps [] (take c.args.i all) in
    let l = leaf_in all c.args.i _ c.in-Leaf.name c.in-Leaf.weight c.requires.place c.in-Leaf.is c.requires.shape.find_two in
    let p = c.requires.so_far.leaves in
    let light = weight_fits c.in-Leaf.weight (weight_light all c.args.i _ c.in-Leaf.name c.in-Leaf.weight c.requires.place c.in-Leaf.is c.requires.shape.light) in
    subst (λ s. IsBuilding k s c.leaf.new.self)
    (ap (λ w. Leaf c.in-Leaf.name w ∷ shapes) light ∙ sym (next_shapes all c.args.i (steps.Leaf c.in-Leaf.name c.in-Leaf.weight) _ c.requires.place c.in-Leaf.is))
    (c.in_ok-leaf-in-Leaf.ensures k shapes c.requires.so_far (omega (arith, l, c.requires.columns.count)) (omega (arith, l, c.requires.columns.count_columns))
    (c.row.ensures.value ∙ ap (λ n. get_or c.args.functionals.now.rows n []) p) (c.row-in-Leaf.ensures.value ∙ ap (λ n. get_or c.args.columns.now.rows n []) p)
    c.row.ensures.vector.len c.row-in-Leaf.ensures.vector.len)

pub returns-in-Join : goal.returns-in-Join
returns-in-Join c =
    let k = leaf_columns_of c.args.functionals.now c.args.columns.now in
    let all = c.args.steps.now in
    let shapes = after_steps [] (take c.args.i all) in
    let t = two_last shapes (two_at all c.args.i _ c.requires.place c.in-Join.is c.requires.shape.find_two) in
    takes_join k all c.args.i c.args.self.now c.join.new.self shapes t c.join.result refl (next_shapes all c.args.i steps.Join _ c.requires.place c.in-Join.is)
    c.requires.so_far c.join.ensures

pub leaf-requires-clause-free : goal.leaf-requires-clause-free
leaf-requires-clause-free c =
    leaf_free (leaf_columns_of c.args.functionals.now c.args.columns.now) c.args.steps.now c.args.i _ c.in-Leaf.name c.in-Leaf.weight c.args.self.now c.requires.place
    c.in-Leaf.is c.requires.shape c.requires.so_far

pub join-requires-clause-trees : goal.join-requires-clause-trees
join-requires-clause-trees c =
    let k = leaf_columns_of c.args.functionals.now c.args.columns.now in
    let shapes = after_steps [] (take c.args.i c.args.steps.now) in
    let t = two_last shapes (two_at c.args.steps.now c.args.i _ c.requires.place c.in-Join.is c.requires.shape.find_two) in
    let l = leaves_most c.args.steps.now c.args.i c.requires.shape.find_two in
    trees_fit k c.args.steps.now c.args.i _ t.left t.right t.rest c.args.self.now c.requires.place c.in-Join.is c.requires.shape t.are c.requires.so_far
    c.rows-2.ensures.each (omega (arith, l, c.requires.columns.count_columns))
