use Rattle.std.proofs.Common.{◌≡◌, ◌≤◌, ◌+◌, length}
use Rattle.std.specs.List.{slice_split}
use Rattle.mm_lines.specs.Lines.{is_newline}
use Rattle.mm_sample.specs.Summary.{last_line}
use Rattle.mm_sample.proofs.short.last_line.Given as goal

abbrev pub invariant-lines : goal.invariant-lines
invariant-lines l =
    (l.number + length (slice_split is_newline l.line) ≡ 1 + length (slice_split is_newline l.fn.lines))
    × (last_line (slice_split is_newline l.line) ≡ last_line (slice_split is_newline l.fn.lines))
    × (length l.line ≤ length l.fn.lines)

abbrev pub decreases-lines : goal.decreases-lines
decreases-lines l = length l.line
