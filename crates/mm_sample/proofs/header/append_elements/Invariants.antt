use Rattle.std.proofs.Common.{◌≡◌, ◌++◌}
use Rattle.mm_sample.specs.SampleText.{elements_line}
use Rattle.mm_sample.proofs.header.append_elements.Given as goal

abbrev pub invariant-loop-i : goal.invariant-loop-i
invariant-loop-i l = l.text ≡ l.fn.text ++ elements_line l.i
