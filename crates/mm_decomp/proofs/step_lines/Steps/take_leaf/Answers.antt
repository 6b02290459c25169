use Rattle.std.proofs.Common.{rules, ◌≡◌, None}
use Rattle.mm_decomp.proofs.StepLineLemmas.{refuses, leaf_refused, leaf_taken}
use Rattle.mm_decomp.specs.BuildLines.{leaf_line}
use Rattle.mm_decomp.specs.BuildStates.{step_lines}
use Rattle.mm_decomp.specs.ShapeBuilding.{leaf_fault}
use Rattle.mm_decomp.proofs.step_lines.Steps.take_leaf.Goals as goal

pub returns-in-Err : goal.returns-in-Err
returns-in-Err c =
    let w = c.in_ok-name.field-0 in
    let s = step_lines c.args.self.now in
    refuses c.stop_of.result c.args.line.now.number c.in-Err.fault (leaf_line s c.args.line.now) _ c.stop_of.ensures
    (leaf_refused s c.args.line.now w c.in-Err.fault (search rules) c.in-Err.ensures.answers)

pub returns : goal.returns
returns c =
    let w = c.in_ok-name.field-0 in
    let none : leaf_fault w.name c.args.self.now.builder ≡ None = search rules in
    leaf_taken (step_lines c.args.self.now) _ c.args.line.now w (search rules) none (search rules) c.in_ok-push_number.ensures
