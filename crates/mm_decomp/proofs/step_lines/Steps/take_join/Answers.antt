use Rattle.std.proofs.Common.{rules, ◌≡◌, None}
use Rattle.mm_decomp.proofs.StepLineLemmas.{refuses, join_unread, join_refused, join_taken}
use Rattle.mm_decomp.specs.BuildLines.{join_line}
use Rattle.mm_decomp.specs.BuildStates.{step_lines}
use Rattle.mm_decomp.specs.ShapeBuilding.{join_fault}
use Rattle.mm_decomp.proofs.step_lines.Steps.take_join.Goals as goal

pub returns-then-not-is_word : goal.returns-then-not-is_word
returns-then-not-is_word c = join_unread (step_lines c.args.self.now) c.args.line.now (search rules)

pub returns-in-Err : goal.returns-in-Err
returns-in-Err c =
    let s = step_lines c.args.self.now in
    refuses c.stop_of.result c.args.line.now.number c.in-Err.fault (join_line s c.args.line.now) _ c.stop_of.ensures
    (join_refused s c.args.line.now c.in-Err.fault (search rules) c.in-Err.ensures.answers)

pub returns : goal.returns
returns c =
    let none : join_fault c.args.self.now.builder ≡ None = search rules in
    join_taken (step_lines c.args.self.now) _ c.args.line.now (search rules) none (search rules) c.in_ok-push_number.ensures
