-- Between code and definitions: what a job that has read some lines writes for the lines that are left, and what work they are.
use Rattle.std.specs.Prelude.{◌≡◌, ℕ, List, [], ◌∷◌, ◌++◌, Option}
use Rattle.mm_job.specs.State.Blocks.{AreBegun, lines_from_block, work_from_block, written}
use Rattle.mm_job.specs.Header.{after_parts, query_part, started}
use Rattle.mm_header.specs.Rules.{job_rules}
use Rattle.mm_header.specs.State.HeaderStates.{IsHeader, IsKept, header_value, parts_from}
use Rattle.mm_job.specs.Output.{Ending, lines_after_header}
use Rattle.mm_job.specs.State.Sessions.{IsEditor, kept_of, session_of}
use Rattle.mm_job.specs.Settings.{Settings}
use Rattle.mm_job.specs.Work.{work_after}
use Rattle.mm_job.specs.declared.output_line.OutputLine.{OutputLine}
use Rattle.mm_job.specs.declared.stage.Stage.{Stage}
use Rattle.mm_job.specs.declared.stage.Stage.TheVariants as stage
use Rattle.mm_lines.specs.declared.line.Line.{Line}
use Rattle.mm_job_text.specs.Readers.{and_then, now}

-- In the header its lines decide, after it each item; a refused header ends all.
abbrev pub lines_from_stage : Settings → Stage → Ending → List Line → List OutputLine
lines_from_stage settings (stage.Header h) e rs = lines_after_header e (and_then (and_then (parts_from job_rules h rs) (query_part settings)) (λ s. now (started s)))
lines_from_stage settings (stage.Query g t) e rs = lines_after_header e (after_parts settings (header_value g, t.tree) rs)
lines_from_stage settings (stage.Items s b) e rs = lines_from_block e (session_of s) b rs
lines_from_stage settings stage.Refused e rs = []

-- The work of the lines that are left.
abbrev pub work_from_stage : Settings → Stage → List Line → ℕ
work_from_stage settings (stage.Header h) rs = work_after (and_then (parts_from job_rules h rs) (query_part settings))
work_from_stage settings (stage.Query g t) rs = work_after (query_part settings (header_value g, t.tree) rs)
work_from_stage settings (stage.Items s b) rs = work_from_block (kept_of s) (session_of s) b rs
work_from_stage settings stage.Refused rs = 0

-- What is written for all lines from this one on is what is written for it, and then for those after it from the stage that follows.
abbrev pub TakesLine : Settings → Stage → Line → Option OutputLine → Stage → Type 0
TakesLine settings old line output new = (e : Ending) (rs : List Line) →
    lines_from_stage settings old e (line ∷ rs) ≡ written output ++ lines_from_stage settings new e rs

-- What a stage keeps.
abbrev pub IsKeptAt : Stage → Type 0
IsKeptAt (stage.Header h) = IsKept h
IsKeptAt (stage.Query g t) = IsHeader g × (t.f ≡ g.field)
IsKeptAt (stage.Items s b) = IsEditor s × AreBegun (session_of s) b
IsKeptAt stage.Refused = Unit {0}

-- A stage before the items.
abbrev pub IsFirst : Stage → Type 0
IsFirst (stage.Items s b) = ⊥
IsFirst s = Unit {0}
