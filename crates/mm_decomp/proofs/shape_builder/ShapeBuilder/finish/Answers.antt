use Rattle.std.proofs.Common.{rules, ◌≡◌, []}
use Rattle.mm_decomp.proofs.ShapeBuilderLemmas.{kept_none}
use Rattle.mm_decomp.proofs.shape_builder.ShapeBuilder.finish.Goals as goal

pub invariant_of-self : goal.invariant_of-self
invariant_of-self c =
    let keys : c.clear-2.new.self.keys ≡ [] = search rules in
    let steps : c.replace-steps.new.dest.items ≡ [] = search rules in
    kept_none _ steps c.clear.ensures.items keys
