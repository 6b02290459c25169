-- The fields of a framer, and the fact that keeps them.
use Rattle.std.specs.Prelude.{◌≡◌, ℕ, ◌≤◌, ◌<◌, Bool, List, ◌++◌, length, drop}
use Rattle.mm_lines.specs.Lines.{lines_of, most_bytes}
use Rattle.mm_lines.specs.Places.{IsPlace, MayEnd, begun, lines_from}
use Rattle.mm_lines.specs.Streams.{Stream}
use Rattle.mm_lines.specs.declared.place.Place.{Place}
use Rattle.mm_lines.specs.declared.framer.Framer.TheInside.{Inside}

-- what callers see of the fields
abbrev pub stream_of : Inside → Stream
stream_of f = record { bytes = f.bytes.items; ended = f.ended; handed = f.handed }

-- However the stream goes on, its lines without so many that were handed out are those from the place on.
abbrev pub Reads : Bool → List ℕ → ℕ → Place → Type 0
Reads ended bytes handed p = (end : Bool) (more : List ℕ) → MayEnd ended end more
    → drop handed (lines_of end (bytes ++ more)) ≡ lines_from end p (bytes ++ more)

-- A framer holds no more than is used of a text, and stands after the lines that it handed out.
pub record IsFramed (f : Inside) : Type 0 where
  pub size : length f.bytes.items ≤ most_bytes
  pub place : IsPlace f.bytes.items f.place
  pub count : f.handed < begun f.place
  pub reads : Reads f.ended f.bytes.items f.handed f.place
