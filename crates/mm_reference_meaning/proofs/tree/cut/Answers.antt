use Rattle.std.proofs.Common.{◌≡◌, ◌≤◌, ◌<◌, length, get_or, sym, ap, ◌∙◌, subst}
use Rattle.std.proofs.lemmas.List.{length-take-le, length-map, get_or-map}
use Rattle.mm_reference_meaning.specs.Rows.{rows_of}
use Rattle.mm_reference_meaning.proofs.tree.cut.Goals as goal

pub slice_bounds-to_vec-end : goal.slice_bounds-to_vec-end
slice_bounds-to_vec-end c =
    let rows = c.args.rows.now in
    let i = c.loop-row.row-index in
    let long = c.requires i c.row-item.result.items (subst (λ n. i < n) (sym (length-map rows (λ v. v.items))) c.loop-row-test.true) in
    let same : get_or (rows_of rows) i c.row-item.result.items ≡ c.deref.result.now = get_or-map (λ v. v.items) rows i c.row-item.result c.row-item.result.items c.loop-row-test.true ∙ ap (λ v. v.items) (sym c.row-item.is) ∙ sym c.deref.ensures.value in
    sym (length-take-le c.args.n c.deref.result.now (subst (λ v. c.args.n ≤ length v) same long))
