-- The text of a sample from its parts.
use Rattle.std.proofs.Common.{◌≡◌, ◌*◌, ◌-◌, List, [], ◌++◌, ℕ, append_assoc}
use Rattle.std.specs.Prelude.{codes}
use Rattle.mm_field.specs.declared.Field.{Field}
use Rattle.mm_field.specs.Digits.{order}
use Rattle.mm_present.specs.Comparing.{present_rows}
use Rattle.mm_sample.specs.Draws.{after}
use Rattle.mm_sample.specs.SampleText.{edits, header_lines, sample_text}
use Rattle.mm_sample.specs.SampleTree.{sample_tree}
use Rattle.mm_tree.specs.TreeText.{text_of_lines, tree_text}

abbrev pub query_text : List ℕ
query_text = codes "least X ind(X) and all y (y in X or not ind(X|y))\n"

abbrev pub header_text : Field → (n seed : ℕ) → List ℕ
header_text f n seed = text_of_lines (header_lines f n (present_rows f (sample_tree f n seed)))

pub job_parts : (f : Field) (n seed : ℕ)
    → ((([] ++ header_text f n seed) ++ tree_text (sample_tree f n seed)) ++ query_text) ++ text_of_lines (edits (order f) n (after (4 * n - 1) seed) n)
    ≡ sample_text f n seed
unfolding sample_text
job_parts f n seed =
    let tree = tree_text (sample_tree f n seed) in
    let end = text_of_lines (edits (order f) n (after (4 * n - 1) seed) n) in
    append_assoc (header_text f n seed ++ tree) query_text end
