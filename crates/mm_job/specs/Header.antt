-- The header of a job: the lines before its query, the query, and the agreement of the rows with the tree.
use Rattle.std.specs.Prelude.{ℕ, Bool, not, nat_lt, Ok}
use Rattle.std.specs.declared.result.Result.{Result}
use Rattle.mm_field.specs.declared.Field.{Field}
use Rattle.mm_header.specs.Header.{Parts, parts, matched}
use Rattle.mm_header.specs.Queries.{query_line}
use Rattle.mm_header.specs.Rules.{job_rules}
use Rattle.mm_job.specs.Settings.{Settings}
use Rattle.mm_logic.specs.StateSize.{Query, state_size}
use Rattle.mm_ops.specs.Tables.{OperatorList as NamedOps}
use Rattle.mm_tree.specs.NamedTree.{Tree, shape}
use Rattle.mm_job_text.specs.Checks.{require}
use Rattle.mm_job_text.specs.Checks.{◌>>=◌ as ◌>>>=◌}
use Rattle.mm_job_text.specs.Readers.{Reader, ◌>>=◌, ◌>>◌, and_then, now, line}
use Rattle.mm_job_text.specs.declared.refusal.Refusal.{Refusal}
use Rattle.mm_job_text.specs.declared.refusal.Refusal.TheVariants as refusal

-- What a job answers about: the field, the operators, the query, the limit on sizes, and the present tree.
pub record Session : Type 0 where
  pub f : Field
  pub ops : NamedOps
  pub query : Query
  pub limit : ℕ
  pub tree : Tree

-- A tree is over the limit of a session where its state size exceeds it.
unfoldable pub is_over_limit : Session → Tree → Bool
is_over_limit s tree = nat_lt s.limit (state_size s.f s.query (shape tree))

-- A session, where its tree is not over the limit.
abbrev pub started : Session → Result Session Refusal
started s = require (not (is_over_limit s s.tree)) refusal.States >>>= λ u. Ok s

-- The session for a query, where the tree matches the given rows.
unfoldable pub session_part : ℕ → Parts → Query → Reader Session
session_part limit p query = do
  now (matched p)
  now (Ok (record { f = p.0.f; ops = p.0.ops; query = query; limit = limit; tree = p.1 }))

-- The query, and the tree matched with the given rows.
unfoldable pub query_part : Settings → Parts → Reader Session
query_part settings p = do
  query ← line (query_line settings.question)
  session_part settings.limit p query

-- The lines of a header, its tree matched with the given rows.
unfoldable pub header_lines : Settings → Reader Session
header_lines settings = do
  p ← parts job_rules
  query_part settings p

-- The header of a job.
unfoldable pub header : Settings → Reader Session
header settings = do
  s ← header_lines settings
  now (started s)

-- The header after the lines before its query.
abbrev pub after_parts : Settings → Parts → Reader Session
after_parts settings p rs = and_then (query_part settings p rs) (λ s. now (started s))
