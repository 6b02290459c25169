use Rattle.std.proofs.Common.{List, ℕ, [], ◌∷◌, ◌++◌, ap, ◌∙◌, take, arith}
use Rattle.std.proofs.lemmas.Grind.{common_steps}
use Rattle.mm_sample.specs.SampleText.{row_line}
use Rattle.mm_tree.specs.TreeText.{text_of_lines}
use Rattle.mm_sample.proofs.HeaderLemmas.{rows_grow, rows_text}
use Rattle.mm_sample.proofs.header.append_rows.Goals as goal

pub loop-i-preserved : goal.loop-i-preserved
loop-i-preserved c =
    c.in_ok-append_row.ensures
    ∙ ap (λ (t : List ℕ). t ++ text_of_lines (row_line c.row.result.now ∷ [])) c.loop-i.invariant
    ∙ ap (λ (r : List ℕ). (c.args.text.now ++ rows_text (take c.loop-i.i c.args.rows.now.rows)) ++ text_of_lines (row_line r ∷ [])) c.row.ensures.value
    ∙ rows_grow c.args.text.now c.args.rows.now.rows c.loop-i.i (grind (arith, common_steps))
