use Rattle.std.proofs.Common.{Some, ap, arith}
use Rattle.mm_tree.specs.Nodes.{named, field_of}
use Rattle.mm_tree.specs.TreeValue.{TreeValue}
use Rattle.mm_tree.specs.declared.replace.Outside.{Outside}
use Rattle.mm_tree.proofs.ReplaceLemmas.{few_seen, seen_within}
use Rattle.mm_tree.proofs.TreeLemmas.{few_nodes}
use Rattle.mm_tree.proofs.tree.Tree.outside.Goals as goal

pub see_outside-requires : goal.see_outside-requires
see_outside-requires c =
    let few = few_nodes (field_of c.self.inside.node) (named c.self.inside.node) c.self.invariant.valid in
    let none = ap (λ (o : Outside). o.leaves) c.nothing-seen.ensures in
    record { room = omega arith }

pub returns-clause-few : goal.returns-clause-few
returns-clause-few c =
    let few = few_nodes (field_of c.self.inside.node) (named c.self.inside.node) c.self.invariant.valid in
    let none = ap (λ (o : Outside). o.leaves) c.nothing-seen.ensures in
    let seen = few_seen (named c.self.inside.node) (Some c.number.result) c.see_outside.result c.args.names.now.keys c.nothing-seen.result
    c.see_outside.new.seen c.see_outside.ensures in
    omega arith

pub returns-clause-seen : goal.returns-clause-seen
returns-clause-seen c =
    seen_within c.args.self.now.tree (named c.self.inside.node) c.args.place.now.number c.number.result c.args.names.now.keys c.nothing-seen.result
    c.see_outside.new.seen c.see_outside.result (ap (λ (v : TreeValue). v.tree) c.self.view_is) c.number.ensures c.nothing-seen.ensures c.requires.within
    c.see_outside.ensures
