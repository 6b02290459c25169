use Rattle.std.proofs.Common.{◌≤◌, ◌<◌, length, sym, ◌∙◌, subst}
use Rattle.std.proofs.lemmas.List.{length-map}
use Rattle.mm_field.specs.Vectors.{AreDigits}
use Rattle.mm_reference_meaning.proofs.ColumnLemmas.{row_at}
use Rattle.mm_reference_meaning.proofs.tree.push_joined.Goals as goal

pub joined-requires-clause-boundary : goal.joined-requires-clause-boundary
joined-requires-clause-boundary c =
    let columns = c.args.columns.now in
    let i = c.loop-column.column-index in
    let row = c.column-item.result in
    let known = c.requires.columns i row.items (subst (λ n. i < n) (sym (length-map columns (λ v. v.items))) c.loop-column-test.true) in
    subst (λ v. c.args.t ≤ length v) (row_at columns i row row.items c.loop-column-test.true c.column-item.is ∙ sym c.deref.ensures.value) known.0

pub joined-requires-clause-digits : goal.joined-requires-clause-digits
joined-requires-clause-digits c =
    let columns = c.args.columns.now in
    let i = c.loop-column.column-index in
    let row = c.column-item.result in
    let known = c.requires.columns i row.items (subst (λ n. i < n) (sym (length-map columns (λ v. v.items))) c.loop-column-test.true) in
    subst (λ v. AreDigits c.args.f v) (row_at columns i row row.items c.loop-column-test.true c.column-item.is ∙ sym c.deref.ensures.value) known.1
