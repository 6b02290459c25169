-- What a framer is to its callers.
use Rattle.std.specs.Prelude.{ℕ, ◌+◌, Bool, List, Option, None, Some}
use Rattle.std.specs.List.{slice_get}
use Rattle.mm_lines.specs.Lines.{lines_of}
use Rattle.mm_lines.specs.declared.line.Line.{Line}

-- A stream so far: its bytes, whether it has ended, and how many of its lines were handed out.
pub record Stream : Type 0 where
  pub bytes : List ℕ
  pub ended : Bool
  pub handed : ℕ

-- the next line of a stream, if a further one is closed or known to be too long
abbrev pub next_of : Stream → Option Line
next_of s = slice_get (lines_of s.ended s.bytes) s.handed

-- a stream after a call for its next line
abbrev pub after_line : Option Line → Stream → Stream
after_line None s = s
after_line (Some line) s = record s { handed = s.handed + 1 }
