use Rattle.std.proofs.Common.{◌≡◌, ◌++◌, ◌-◌}
use Rattle.mm_field.specs.Digits.{order}
use Rattle.mm_sample.specs.SampleText.{edits}
use Rattle.mm_tree.specs.TreeText.{text_of_lines}
use Rattle.mm_sample.proofs.edits.append_edits.Given as goal

abbrev pub invariant-loop : goal.invariant-loop
invariant-loop l =
    l.text ++ text_of_lines (edits (order l.f) l.n l.draws.x (l.n - l.counter))
    ≡ l.fn.text ++ text_of_lines (edits (order l.f) l.n l.fn.draws.x l.n)
