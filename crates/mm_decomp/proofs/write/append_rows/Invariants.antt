use Rattle.std.proofs.Common.{◌≡◌, ◌++◌, map, take}
use Rattle.mm_tree.specs.TreeText.{text_of_lines}
use Rattle.mm_decomp.specs.HeaderText.{row_text}
use Rattle.mm_decomp.proofs.write.append_rows.Given as goal

abbrev pub invariant-loop-i : goal.invariant-loop-i
invariant-loop-i l = l.text ≡ l.fn.text ++ text_of_lines (map row_text (take l.i l.rows.rows))
