use Rattle.std.proofs.Common.{List, ℕ, ◌++◌, ap, ◌∙◌}
use Rattle.std.proofs.lemmas.Result.{on_ok_weaker}
use Rattle.std.specs.Fmt.{decimal}
use Rattle.std.specs.Prelude.{codes}
use Rattle.mm_field.specs.Digits.{order}
use Rattle.mm_sample.specs.SampleText.{elements_line}
use Rattle.mm_sample.proofs.HeaderLemmas.{header_parts, rows_text}
use Rattle.mm_sample.proofs.header.append_header.Goals as goal

pub returns : goal.returns
returns c =
    let start = c.in_ok-append.ensures.ok in
    let field =
    c.in_ok-append_number.ensures
    ∙ ap (λ (q : ℕ). c.append.new.self ++ decimal q) (c.from.ensures ∙ c.q.ensures)
    ∙ ap (λ (t : List ℕ). t ++ decimal (order c.args.f)) start in
    let names =
    c.in_ok-append_elements.ensures
    ∙ ap (λ (t : List ℕ). t ++ elements_line c.args.n) (c.in_ok-append-2.ensures.ok ∙ ap (λ (t : List ℕ). t ++ codes "\n") field) in
    let rows =
    c.in_ok-append_rows.ensures
    ∙ ap (λ (t : List ℕ). t ++ rows_text c.args.rows.now.rows) (c.in_ok-append-3.ensures.ok ∙ ap (λ (t : List ℕ). t ++ codes "\n") names) in
    on_ok_weaker c.append-4.result
    (λ e. e ∙ ap (λ (t : List ℕ). t ++ codes "op p 2 2 2 0 10/01 10/01\nop s 2 2 2 1 100/011 010/001\ntree\n") rows
    ∙ header_parts c.args.text.now c.args.f c.args.n c.args.rows.now.rows)
    c.append-4.ensures.ok
