use Rattle.std.proofs.Common.{◌≡◌, ap, subst, ◌∙◌}
use Rattle.std.specs.Prelude.{[], false}
use Rattle.std.proofs.lemmas.Result.{IfOk-at_ok}
use Rattle.mm_edit.specs.Edits.{query_of}
use Rattle.mm_edit.specs.declared.query.Query.{Query as Kind}
use Rattle.mm_header.specs.QueryValues.{query_value}
use Rattle.mm_header.specs.State.HeaderStates.{header_value}
use Rattle.mm_job.specs.Header.{session_part}
use Rattle.mm_job.specs.State.Replies.{Starts}
use Rattle.mm_job.specs.State.Sessions.{kind_of}
use Rattle.mm_logic.specs.Meaning.{WellSorted}
use Rattle.mm_logic.specs.StateSize.{Query, asked}
use Rattle.mm_machine.specs.Machines.{shape_in}
use Rattle.mm_job.proofs.StartLemmas.{matched_starts, nothing_starts, shape_sorted, unmatched_starts}
use Rattle.mm_job.proofs.editor.start_query.Goals as goal

pub begin-requires-clause-sorted : goal.begin-requires-clause-sorted
begin-requires-clause-sorted g c =
    let q = c.args.query.now in
    let m = c.in-Ok-machine_of.machine in
    shape_sorted (kind_of q) (shape_in m.parts) (query_value q)
    (IfOk-at_ok (λ m. query_of (kind_of q) (shape_in m.parts) ≡ query_value q) c.in-Ok-machine_of.is c.machine_of.ensures.shape)
    (IfOk-at_ok (λ m. WellSorted (λ k. false) (asked (query_value q))) c.in-Ok-machine_of.is c.machine_of.ensures.sorted)

pub returns-in-Ok-machine_of : goal.returns-in-Ok-machine_of
returns-in-Ok-machine_of g c =
    let q = c.args.query.now in
    let F = shape_in c.in-Ok-machine_of.machine.parts in
    let Q = query_of c.kind_of.result F in
    let shaped : query_of (kind_of q) F ≡ query_value q =
    IfOk-at_ok (λ m. query_of (kind_of q) (shape_in m.parts) ≡ query_value q) c.in-Ok-machine_of.is c.machine_of.ensures.shape in
    let shape : Q ≡ query_value q = ap (λ (k : Kind). query_of k F) c.kind_of.ensures ∙ shaped in
    subst (λ (x : Query). Starts (session_part c.args.limit (header_value c.args.header, c.args.tree.tree) x) [] c.begin.result c.args.steps.now c.begin.new.steps)
    shape
    (matched_starts c.args.limit c.args.header c.args.tree.tree Q c.begin.result c.args.steps.now c.begin.new.steps c.in-Ok.ensures c.begin.ensures.begins
    c.begin.ensures.steps)

pub returns-in-Err-machine_of : goal.returns-in-Err-machine_of
returns-in-Err-machine_of g c =
    nothing_starts (session_part c.args.limit (header_value c.args.header, c.args.tree.tree) (query_value c.args.query.now)) [] c.args.steps.now

pub returns-in-Err : goal.returns-in-Err
returns-in-Err g c =
    unmatched_starts c.args.limit (header_value c.args.header, c.args.tree.tree) (query_value c.args.query.now) c.in-Err.stop c.args.steps.now c.in-Err.ensures
