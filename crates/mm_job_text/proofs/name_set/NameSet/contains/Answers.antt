use Rattle.std.proofs.Common.{ap, ◌∙◌}
use Rattle.mm_tree.proofs.BuilderLemmas.{any_name}
use Rattle.mm_tree.specs.NamedTree.{is_one_of}
use Rattle.mm_job_text.proofs.name_set.NameSet.contains.Goals as goal

pub returns : goal.returns
returns c = c.contains.ensures ∙ any_name c.args.name.now c.self.inside.names.keys ∙ ap (is_one_of c.args.name.now) c.self.view_is
