use Rattle.std.proofs.Common.{sym, ◌∙◌}
use Rattle.mm_header.specs.QueryValues.{query_value}
use Rattle.mm_header.specs.State.HeaderStates.{header_value}
use Rattle.mm_job.proofs.StartLemmas.{given_asked, given_refused, query_starts, refused_stops}
use Rattle.mm_job.proofs.editor.start_given.Goals as goal

pub returns-in-Ok : goal.returns-in-Ok
returns-in-Ok g c =
    let settings = c.args.settings.now in
    let line = c.args.line.now in
    let q = c.args.query.now in
    query_starts settings c.limit.result (header_value c.args.header, c.args.tree.tree) line (query_value q) c.start_query.result c.args.steps.now
    c.start_query.new.steps (given_asked settings (query_value q) line c.requires.given (sym c.read_minor.ensures ∙ c.in-Ok.is)) c.limit.ensures.limit c.start_query.ensures

pub returns-in-Err : goal.returns-in-Err
returns-in-Err g c =
    let settings = c.args.settings.now in
    refused_stops settings (header_value c.args.header, c.args.tree.tree) c.args.line.now c.in-Err.refusal c.args.steps.now
    (given_refused settings (query_value c.args.query.now) c.args.line.now c.in-Err.refusal c.requires.given (sym c.read_minor.ensures ∙ c.in-Err.is))
