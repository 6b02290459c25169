use Rattle.std.proofs.Common.{[], sym, ap, subst, arith, length}
use Rattle.mm_decomp.specs.Building.{given_of, BuildsFrom}
use Rattle.mm_decomp.specs.Shapes.{FindTwo}
use Rattle.mm_decomp.proofs.MakeLemmas.{builds_from_makes}
use Rattle.mm_decomp.proofs.StepLemmas.{steps_few}
use Rattle.mm_decomp.proofs.build.build_tree.Goals as goal

pub build_from-requires-clause-few : goal.build_from-requires-clause-few
build_from-requires-clause-few c =
    let h = c.steps-steps.ensures.shape in
    omega (arith, ap length c.steps-steps.ensures.steps, steps_few c.args.shape.now h.are_steps.find_two h.are_steps.few)

pub returns : goal.returns
returns c =
    let given = given_of c.args.names.now c.args.rows.now in
    let h = c.steps-steps.ensures.shape in
    let xs = c.steps-steps.result.now in
    let e = c.steps-steps.ensures.steps in
    subst (λ s. BuildsFrom given s c.build_from.result) e
    (builds_from_makes given c.in_ok-functionals.functionals c.in_ok-columns.columns xs c.build_from.result c.in_ok-functionals.ensures c.in_ok-columns.ensures
    (subst (λ s. FindTwo [] s) (sym e) h.are_steps.find_two) c.build_from.ensures)
