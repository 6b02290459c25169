-- The readers of a header are steady.
use Rattle.std.specs.Prelude.{ℕ, Ok}
use Rattle.mm_job_text.specs.Readers.{line}
use Rattle.mm_job_text.proofs.ReaderLemmas.{IsSteady, now_steady, line_steady, bind_steady}
use Rattle.mm_header.specs.Header.{Parts, matched}
use Rattle.mm_header.specs.Queries.{query_line}
use Rattle.mm_header.specs.Rules.{job_rules}
use Rattle.mm_header.proofs.HeaderLemmas.{parts_steady}
use Rattle.mm_job.specs.Header.{header, header_lines, query_part, session_part, started}
use Rattle.mm_job.specs.Settings.{Settings}
use Rattle.mm_logic.specs.StateSize.{Query}

session_part_steady : (limit : ℕ) (p : Parts) (query : Query) → IsSteady (session_part limit p query)
unfolding session_part
session_part_steady limit p query =
    bind_steady _ _ (now_steady (matched p)) (λ v.
    now_steady (Ok (record { f = p.0.f; ops = p.0.ops; query = query; limit = limit; tree = p.1 })))

pub query_part_steady : (settings : Settings) (p : Parts) → IsSteady (query_part settings p)
unfolding query_part
query_part_steady settings p =
    bind_steady (line (query_line settings.question)) _ (line_steady (query_line settings.question)) (session_part_steady settings.limit p)

pub header_lines_steady : (settings : Settings) → IsSteady (header_lines settings)
unfolding header_lines
header_lines_steady settings = bind_steady _ _ (parts_steady job_rules) (query_part_steady settings)

pub header_steady : (settings : Settings) → IsSteady (header settings)
unfolding header
header_steady settings = bind_steady _ _ (header_lines_steady settings) (λ s. now_steady (started s))
