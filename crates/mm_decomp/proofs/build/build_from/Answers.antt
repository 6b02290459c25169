use Rattle.std.proofs.Common.{[], subst, arith, length, take_all}
use Rattle.mm_decomp.specs.Shapes.{after_steps}
use Rattle.mm_decomp.specs.Steps.{IsBuilding, leaf_columns_of}
use Rattle.mm_decomp.proofs.MakeLemmas.{makes_fault, makes_tree, one_tree, ok_from_one, ok_part}
use Rattle.mm_decomp.proofs.build.build_from.Goals as goal

pub returns-in-Err : goal.returns-in-Err
returns-in-Err c =
    makes_fault (leaf_columns_of c.args.functionals.now c.args.columns.now) c.args.steps.now c.loop-i.i c.step.new.self c.in-Err.fault (omega arith)
    c.requires.shape.are_steps.find_two c.in-Err.ensures

pub unwrap-requires : goal.unwrap-requires
unwrap-requires c =
    let k = leaf_columns_of c.args.functionals.now c.args.columns.now in
    let all = c.args.steps.now in
    let b = subst (λ xs. IsBuilding k (after_steps [] xs) c.loop-i.building) (take_all c.loop-i.i all (omega arith)) c.loop-i.invariant in
    ok_from_one (length c.loop-i.building.builder.trees) c.finish.result (one_tree k all c.loop-i.building b c.requires.shape.one) c.finish.ensures.err
    (λ e p one. p.2 one)

pub returns : goal.returns
returns c =
    let k = leaf_columns_of c.args.functionals.now c.args.columns.now in
    let all = c.args.steps.now in
    let b = subst (λ xs. IsBuilding k (after_steps [] xs) c.loop-i.building) (take_all c.loop-i.i all (omega arith)) c.loop-i.invariant in
    let made = ok_part _ c.finish.result c.unwrap.result c.unwrap.ensures c.finish.ensures.ok in
    makes_tree k all c.loop-i.building c.unwrap.result b made.0 made.1
