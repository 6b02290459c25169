use Rattle.std.proofs.Common.{◌≡◌, ◌++◌, map}
use Rattle.std.specs.List.{range_with_len}
use Rattle.mm_tree.specs.TreeText.{text_of_lines}
use Rattle.mm_decomp.specs.HeaderText.{elements_text}
use Rattle.mm_decomp.proofs.write.append_names.Given as goal

abbrev pub invariant-loop-k : goal.invariant-loop-k
invariant-loop-k l = l.text ≡ l.fn.text ++ text_of_lines (map (elements_text l.names) (range_with_len 0 l.k))
