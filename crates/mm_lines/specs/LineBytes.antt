-- The bytes of a line.
use Rattle.std.specs.Prelude.{ℕ, List, []}
use Rattle.mm_lines.specs.declared.line.Line.{Line}
use Rattle.mm_lines.specs.declared.line.LineText.{LineText}
use Rattle.mm_lines.specs.declared.line.LineText.TheVariants.{Whole, TooLong}

-- what is kept of a line
abbrev pub text_bytes : LineText → List ℕ
text_bytes (Whole bytes) = bytes
text_bytes TooLong = []

-- none of a line that is too long
abbrev pub bytes_of : Line → List ℕ
bytes_of line = text_bytes line.text
