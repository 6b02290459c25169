use Rattle.std.proofs.Common.{◌≡◌, length, sym, ap₂, ◌∙◌}
use Rattle.std.specs.Ordering.{nat_cmp, ordering_then}
use Rattle.std.proofs.lemmas.List.{length-map}
use Rattle.mm_reference_meaning.specs.Rows.{rows_of}
use Rattle.mm_reference.proofs.OrderLemmas.{rows_cmp, cmp_spaces}
use Rattle.mm_reference.proofs.values.compare_spaces.Goals as goal

pub returns : goal.returns
returns c =
    let rows = c.args.rows.now in
    let others = c.args.others.now in
    let sizes : nat_cmp (length rows) (length others) ≡ nat_cmp (length (rows_of rows)) (length (rows_of others)) =
    ap₂ nat_cmp (sym (length-map rows (λ v. v.items))) (sym (length-map others (λ v. v.items))) in
    c.then-2.ensures
    ∙ ap₂ ordering_then (c.then.ensures ∙ ap₂ ordering_then c.cmp.ensures (c.cmp-2.ensures ∙ sizes)) (c.cmp-3.ensures ∙ rows_cmp rows others)
    ∙ cmp_spaces c.args.t c.args.u (rows_of rows) (rows_of others)
