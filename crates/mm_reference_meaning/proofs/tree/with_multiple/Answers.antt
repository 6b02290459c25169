use Rattle.std.proofs.Common.{◌≡◌, length, drop, ap, ◌∙◌, rules}
use Rattle.std.proofs.lemmas.List.{take_at}
use Rattle.mm_field.specs.Vectors.{vector_sum, multiple}
use Rattle.mm_field.proofs.VectorLemmas.{vector_sum_comm}
use Rattle.mm_reference_meaning.proofs.tree.with_multiple.Goals as goal

pub returns : goal.returns
returns c =
    let f = c.args.f in
    let long : length c.axpy.new.y ≡ c.args.sum.len = search rules in
    take_at c.axpy.new.y (drop (length c.axpy.new.y) c.args.sum.items) c.args.sum.len long
    ∙ c.axpy.ensures
    ∙ ap (λ y. vector_sum f y (multiple f c.args.c c.args.row.now)) c.deref_mut.ensures.value
    ∙ vector_sum_comm f c.args.sum.items (multiple f c.args.c c.args.row.now)
