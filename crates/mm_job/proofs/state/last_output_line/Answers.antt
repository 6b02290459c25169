use Rattle.std.proofs.Common.{sym, ◌∙◌}
use Rattle.mm_job.specs.State.JobStates.{end_by}
use Rattle.mm_job.proofs.EndLemmas.{end_head, end_query}
use Rattle.mm_job.proofs.state.last_output_line.Goals as goal

pub returns-in-Header : goal.returns-in-Header
returns-in-Header c = rw c.in-Header.is (λ settings. c.cut_short.ensures ∙ sym (end_head settings c.in-Header.field-0 (end_by c.args.over)))

pub returns-in-Query : goal.returns-in-Query
returns-in-Query c = rw c.in-Query.is (λ settings. c.cut_short-in-Query.ensures ∙ sym (end_query settings c.in-Query.field-0 c.in-Query.field-1 (end_by c.args.over)))
