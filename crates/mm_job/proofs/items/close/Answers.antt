use Rattle.std.proofs.lemmas.Result.{IfOk-weaker}
use Rattle.std.specs.Prelude.{[]}
use Rattle.mm_job.specs.declared.output_line.OutputLine.{OutputLine}
use Rattle.mm_job.proofs.BlockLemmas.{check_closed, names_end, rows_end}
use Rattle.mm_job.proofs.items.close.Goals as goal

pub returns-in-Names-clause-closed : goal.returns-in-Names-clause-closed
returns-in-Names-clause-closed g c =
    let e = c.args.editor.now in
    let names = c.in-Names.names in
    rw c.in-Names.is
    (IfOk-weaker c.compare_names.result _ _
    (λ (output : OutputLine) is. check_closed e (record { names = names; rows = [] }) _ output (names_end e.field names c.args.line.now c.requires.closes) is c.requires.editor)
    c.compare_names.ensures)

pub returns-in-Rows-clause-closed : goal.returns-in-Rows-clause-closed
returns-in-Rows-clause-closed g c =
    let e = c.args.editor.now in
    let given = c.in-Rows.given in
    rw c.in-Rows.is
    (IfOk-weaker c.compare_present.result _ _
    (λ (output : OutputLine) is. check_closed e (record { names = given.names; rows = given.rows.rows }) _ output
    (rows_end e.field given.names given.rows.rows c.args.line.now c.requires.closes) is c.requires.editor)
    c.compare_present.ensures)
