use Rattle.std.proofs.Common.{List, ℕ, ◌≡◌, ◌++◌, Ok, Err, sym, ap, ap₂, ◌∙◌, rules}
use Rattle.std.specs.Prelude.{OnOk}
use Rattle.std.specs.declared.result.Result.{Result}
use Rattle.indexmap.specs.IndexSet.{insert_key, insert_all}
use Rattle.mm_base.specs.declared.failure.NoMemory.{NoMemory}
use Rattle.mm_base.specs.contracts.name.NamePartialEq.TheImpl.{eq-value}
use Rattle.mm_tree.specs.NamedTree.{leaf_names}
use Rattle.mm_tree.specs.Nodes.{named}
use Rattle.mm_tree.specs.declared.node.Node.{Node}
use Rattle.mm_tree.proofs.ReplaceLemmas.{all_append, names_join}
use Rattle.mm_tree.proofs.Walks.{named_of_leaf, named_join, leaf_name}
use Rattle.mm_tree.proofs.replace.+add_names.Goals as goal

pub returns-in-Ok : goal.returns-in-Ok
returns-in-Ok t c =
    let l = c.in-Leaf.leaf in
    let keys : c.insert.new.self.keys ≡ insert_key (eq-value).it c.args.names.now.keys l.name = search rules in
    keys ∙ sym (ap (insert_all (eq-value).it c.args.names.now.keys) (ap (λ n. leaf_names (named n)) c.in-Leaf.is ∙ ap leaf_names (named_of_leaf l) ∙ leaf_name l))

-- the names of one part and then those of the other
joined : (result : Result (Unit {0}) NoMemory) (old mid new left right all : List (List ℕ)) → mid ≡ insert_all (eq-value).it old left →
    OnOk result (new ≡ insert_all (eq-value).it mid right) → all ≡ left ++ right → OnOk result (new ≡ insert_all (eq-value).it old all)
joined (Err e) old mid new left right all m h a = tt
joined (Ok u) old mid new left right all m h a =
    h ∙ ap (λ ks. insert_all (eq-value).it ks right) m ∙ sym (all_append old left right) ∙ sym (ap (insert_all (eq-value).it old) a)

pub returns-in_ok-add_names-in-Join : goal.returns-in_ok-add_names-in-Join
returns-in_ok-add_names-in-Join t c =
    let n = c.in-Join.field-0 in
    let op = c.in-Join.field-1 in
    let l = c.in-Join.left in
    let r = c.in-Join.right in
    joined c.add_names-in-Join.result c.args.names.now.keys c.add_names.new.names.keys c.add_names-in-Join.new.names.keys
    (leaf_names (named c.deref.result.now)) (leaf_names (named c.deref-in-Join.result.now)) (leaf_names (named c.args.node.now))
    c.in_ok-add_names-in-Join.ensures c.add_names-in-Join.ensures
    (ap (λ x. leaf_names (named x)) c.in-Join.is ∙ ap leaf_names (named_join n op l r) ∙ names_join n op.op (named l.value) (named r.value)
    ∙ sym (ap₂ (λ (x y : Node). leaf_names (named x) ++ leaf_names (named y)) c.deref.ensures c.deref-in-Join.ensures))
