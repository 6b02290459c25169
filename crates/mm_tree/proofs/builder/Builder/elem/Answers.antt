use Rattle.std.proofs.Common.{rules, ap}
use Rattle.mm_tree.specs.Building.{BuilderValue}
use Rattle.mm_tree.proofs.BuilderLemmas.{good_elem}
use Rattle.mm_tree.proofs.builder.Builder.elem.Goals as goal

pub push_leaf-requires : goal.push_leaf-requires
push_leaf-requires c =
    good_elem c.args.self.now.f c.self.inside.field c.args.name c.args.vec c.len.result c.args.weight _ (search rules)
    (ap (λ (v : BuilderValue). v.f) c.self.view_is) c.len.ensures c.requires.digits c.requires.short c.requires.light
