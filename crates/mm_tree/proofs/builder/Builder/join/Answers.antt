use Rattle.std.proofs.Common.{sym, ◌∙◌}
use Rattle.mm_tree.proofs.BuilderLemmas.{over_named}
use Rattle.mm_tree.proofs.builder.Builder.join.Goals as goal

pub join_by-requires : goal.join_by-requires
join_by-requires c = over_named c.args.self.now.f c.args.name.now c.args.ops.now c.in-Some.op c.requires (sym c.find.ensures.found ∙ c.in-Some.is)
