use Rattle.std.proofs.Common.{ap}
use Rattle.mm_tree.specs.Building.{BuilderValue}
use Rattle.mm_tree.proofs.BuilderLemmas.{good_void}
use Rattle.mm_tree.proofs.builder.Builder.void.Goals as goal

pub push_leaf-requires : goal.push_leaf-requires
push_leaf-requires c = good_void c.args.self.now.f c.self.inside.field c.args.name c.args.t (ap (λ (v : BuilderValue). v.f) c.self.view_is) c.requires
