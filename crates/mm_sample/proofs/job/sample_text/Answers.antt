use Rattle.std.proofs.Common.{List, ℕ, ◌++◌, ap, ap₂, ◌∙◌}
use Rattle.mm_field.specs.declared.Field.{Field}
use Rattle.mm_field.specs.Digits.{order}
use Rattle.mm_matrix.specs.MatrixValue.{MatrixValue}
use Rattle.mm_present.specs.Comparing.{present_rows}
use Rattle.mm_sample.specs.SampleText.{edits, header_lines}
use Rattle.mm_sample.proofs.JobLemmas.{job_parts, query_text}
use Rattle.mm_tree.specs.NamedTree.{Tree}
use Rattle.mm_tree.specs.TreeText.{text_of_lines, tree_text}
use Rattle.mm_sample.proofs.job.sample_text.Goals as goal

pub returns : goal.returns
returns c =
    let rows =
    ap (λ (m : MatrixValue). m.rows) c.in_ok-present.ensures.rows
    ∙ ap₂ (λ (f : Field) (tree : Tree). present_rows f tree) c.in_ok-tree.ensures.field c.in_ok-tree.ensures.tree in
    let header =
    c.in_ok-append_header.ensures
    ∙ ap₂ (λ (t : List ℕ) (rs : List (List ℕ)). t ++ text_of_lines (header_lines c.args.f c.args.n rs)) c.new-text.ensures rows in
    let tree = c.bytes.ensures ∙ c.in_ok-write_tree.ensures ∙ ap tree_text c.in_ok-tree.ensures.tree in
    c.in_ok-append_edits.ensures
    ∙ ap₂ (λ (t : List ℕ) (x : ℕ). t ++ text_of_lines (edits (order c.args.f) c.args.n x c.args.n))
    (c.in_ok-append-2.ensures.ok
    ∙ ap (λ (t : List ℕ). t ++ query_text) (c.in_ok-append.ensures.ok ∙ ap₂ (λ (s t : List ℕ). s ++ t) header tree)) c.after.ensures
    ∙ job_parts c.args.f c.args.n c.args.seed
