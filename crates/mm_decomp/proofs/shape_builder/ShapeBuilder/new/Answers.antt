use Rattle.std.proofs.Common.{rules, ◌≡◌, []}
use Rattle.mm_decomp.proofs.ShapeBuilderLemmas.{kept_none}
use Rattle.mm_decomp.proofs.shape_builder.ShapeBuilder.new.Goals as goal

pub invariant_of-result : goal.invariant_of-result
invariant_of-result c =
    let keys : c.new-3.result.keys ≡ [] = search rules in
    kept_none _ c.new.ensures.items c.new-2.ensures.items keys
