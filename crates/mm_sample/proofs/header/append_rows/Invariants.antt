use Rattle.std.proofs.Common.{◌≡◌, ◌++◌, map, take}
use Rattle.mm_sample.specs.SampleText.{row_line}
use Rattle.mm_tree.specs.TreeText.{text_of_lines}
use Rattle.mm_sample.proofs.header.append_rows.Given as goal

abbrev pub invariant-loop-i : goal.invariant-loop-i
invariant-loop-i l = l.text ≡ l.fn.text ++ text_of_lines (map row_line (take l.i l.fn.rows.rows))
