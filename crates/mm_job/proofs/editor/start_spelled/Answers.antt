use Rattle.std.specs.Prelude.{Ok}
use Rattle.mm_header.specs.QueryValues.{query_value}
use Rattle.mm_header.specs.State.HeaderStates.{header_value}
use Rattle.mm_job.proofs.StartLemmas.{query_starts, spelled_read, spelled_stops}
use Rattle.mm_job.proofs.editor.start_spelled.Goals as goal

pub returns-in-Ok : goal.returns-in-Ok
returns-in-Ok g c =
    let settings = c.args.settings.now in
    let line = c.args.line.now in
    let q = c.in-Ok.query in
    query_starts settings c.limit.result (header_value c.args.header, c.args.tree.tree) line (query_value q) c.start_query.result c.args.steps.now
    c.start_query.new.steps (spelled_read settings line (Ok (query_value q)) c.requires.spelled c.in-Ok.ensures) c.limit.ensures.limit c.start_query.ensures

pub returns-in-Err : goal.returns-in-Err
returns-in-Err g c =
    spelled_stops c.args.settings.now (header_value c.args.header, c.args.tree.tree) c.args.line.now c.in-Err.stop c.args.steps.now c.requires.spelled c.in-Err.ensures
