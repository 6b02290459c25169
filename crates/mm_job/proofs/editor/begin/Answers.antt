use Rattle.std.proofs.Common.{ap, refl, subst, sym, ◌∙◌}
use Rattle.std.specs.Prelude.{Err}
use Rattle.std.specs.declared.result.Result.{Result}
use Rattle.mm_edit.specs.Edits.{Starts, query_of}
use Rattle.mm_edit.specs.SessionValue.{SessionValue}
use Rattle.mm_edit.specs.declared.fault.StartFault.{StartFault}
use Rattle.mm_machine.specs.Machines.{shape_in}
use Rattle.mm_job.proofs.StartLemmas.{begun_by, over_by, query_is_sorted}
use Rattle.mm_job.proofs.editor.begin.Goals as goal

pub returns-in-Ok-clause-begins : goal.returns-in-Ok-clause-begins
returns-in-Ok-clause-begins g c =
    let T = c.args.tree in
    let F = shape_in c.args.machine.parts in
    let Q = query_of c.args.kind F in
    begun_by c.args.limit c.args.header Q T c.in-Ok.session c.requires.header c.requires.tree c.node.ensures.valid (query_is_sorted c.args.kind F c.requires.sorted)
    (subst (λ (r : Result SessionValue StartFault). Starts Q T c.args.limit r) c.in-Ok.is c.start.ensures.starts)

pub returns-in-Err-States-clause-begins : goal.returns-in-Err-States-clause-begins
returns-in-Err-States-clause-begins g c =
    let T = c.args.tree in
    let F = shape_in c.args.machine.parts in
    let Q = query_of c.args.kind F in (
      refl,
      over_by c.args.limit c.args.header Q T c.requires.tree c.node.ensures.valid (query_is_sorted c.args.kind F c.requires.sorted)
          (subst (λ (r : Result SessionValue StartFault). Starts Q T c.args.limit r) (c.in-Err-States.is ∙ ap Err c.in-Err-States.field-0-is) c.start.ensures.starts),
    )

pub start-requires-clause-over : goal.start-requires-clause-over
start-requires-clause-over g c = λ h. c.requires.field ∙ sym c.requires.tree
