use Rattle.std.proofs.Common.{◌≡◌, not, ◌&&◌, length, take, drop, ◌-◌, sym, ap, ap₂, ◌∙◌, subst, rules}
use Rattle.mm_field.specs.Vectors.{AreVectors}
use Rattle.mm_field.proofs.CombinationLemmas.{first_row, other_rows}
use Rattle.mm_linear.specs.Decide.{is_in_span, is_independent}
use Rattle.mm_linear.proofs.DecideLemmas.{no_rows_independent}
use Rattle.mm_reference_meaning.specs.Rows.{rows_of}
use Rattle.mm_reference_meaning.proofs.SpanLemmas.{rows_split, rows_none, independent_first}
use Rattle.mm_reference_meaning.proofs.combinations.+independent.Goals as goal

pub independent-requires : goal.independent-requires
independent-requires t c =
    let rows = c.args.rows.now in
    let split = rows_split rows c.first-item.result c.in-len1-up.len_at_least c.first-item.is in
    let h = subst (λ xs. AreVectors c.args.f c.args.n xs) split c.requires in
    (search rules, other_rows c.args.f c.args.n c.first-item.result.items (rows_of (take (length rows - 1) (drop 1 rows))) h)

pub in_span-requires-clause-rows : goal.in_span-requires-clause-rows
in_span-requires-clause-rows t c =
    let rows = c.args.rows.now in
    let others = rows_of (take (length rows - 1) (drop 1 rows)) in
    let split = rows_split rows c.first-item.result c.in-len1-up.len_at_least c.first-item.is in
    let h = subst (λ xs. AreVectors c.args.f c.args.n xs) split c.requires in
    let hv = first_row c.args.f c.args.n c.first-item.result.items others h in
    subst (λ n. AreVectors c.args.f n others) (sym hv.len ∙ sym (ap length c.deref.ensures.value)) (other_rows c.args.f c.args.n c.first-item.result.items others h)

pub returns-in-empty : goal.returns-in-empty
returns-in-empty t c = sym (no_rows_independent c.args.f c.args.n) ∙ ap (is_independent c.args.f c.args.n) (sym (rows_none c.args.rows.now c.in-empty.len_below))

pub returns-in_ok-in_span-in-len1-up : goal.returns-in_ok-in_span-in-len1-up
returns-in_ok-in_span-in-len1-up t c =
    let f = c.args.f in
    let n = c.args.n in
    let rows = c.args.rows.now in
    let first = c.first-item.result.items in
    let others = rows_of (take (length rows - 1) (drop 1 rows)) in
    let split = rows_split rows c.first-item.result c.in-len1-up.len_at_least c.first-item.is in
    let hv = first_row f n first others (subst (λ xs. AreVectors f n xs) split c.requires) in
    let long : length c.deref.result.now ≡ n = ap length c.deref.ensures.value ∙ hv.len in
    ap not (c.in_ok-in_span-in-len1-up.ensures ∙ ap₂ (λ k u. is_in_span f k others u) long c.deref.ensures.value)
    ∙ ap (λ b. b && not (is_in_span f n others first)) (sym c.if-branch.true ∙ c.in_ok-independent-in-len1-up.ensures)
    ∙ independent_first f n first others
    ∙ ap (is_independent f n) (sym split)

pub returns-else-branch : goal.returns-else-branch
returns-else-branch t c =
    let f = c.args.f in
    let n = c.args.n in
    let rows = c.args.rows.now in
    let first = c.first-item.result.items in
    let others = rows_of (take (length rows - 1) (drop 1 rows)) in
    let split = rows_split rows c.first-item.result c.in-len1-up.len_at_least c.first-item.is in
    c.if-branch.false
    ∙ ap (λ b. b && not (is_in_span f n others first)) (sym c.if-branch.false ∙ c.in_ok-independent-in-len1-up.ensures)
    ∙ independent_first f n first others
    ∙ ap (is_independent f n) (sym split)
