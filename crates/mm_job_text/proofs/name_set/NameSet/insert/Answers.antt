use Rattle.std.proofs.Common.{rules, ◌≡◌, ◌++◌, [], ◌∷◌, false, ap, ◌∙◌}
use Rattle.indexmap.specs.IndexSet.{insert_key}
use Rattle.mm_base.specs.contracts.name.NamePartialEq.TheImpl.{eq-value}
use Rattle.mm_tree.proofs.BuilderLemmas.{insert_new}
use Rattle.mm_tree.specs.NamedTree.{is_one_of}
use Rattle.mm_job_text.proofs.name_set.NameSet.insert.Goals as goal

pub returns-clause-ok : goal.returns-clause-ok
returns-clause-ok c =
    let keys : c.insert.new.self.keys ≡ insert_key (eq-value).it c.self.inside.names.keys c.args.name = search rules in
    let absent : is_one_of c.args.name c.self.inside.names.keys ≡ false = ap (is_one_of c.args.name) c.self.view_is ∙ c.requires in
    keys ∙ insert_new c.self.inside.names.keys c.args.name absent ∙ ap (λ l. l ++ c.args.name ∷ []) c.self.view_is
