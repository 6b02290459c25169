use Rattle.std.proofs.Common.{ℕ, List, sym, ap, ◌∙◌, length, arith}
use Rattle.std.proofs.lemmas.Bool.{le-leb, lt-leb}
use Rattle.mm_tree.specs.Building.{BuilderValue, names_in}
use Rattle.mm_tree.specs.NamedTree.{is_one_of}
use Rattle.mm_tree.specs.ValidTree.{most_leaves}
use Rattle.mm_tree.proofs.BuilderLemmas.{any_name, taken_fault, full_fault, no_leaf_fault}
use Rattle.mm_tree.proofs.builder.Builder.leaf_fault.Goals as goal

pub returns-then-contains : goal.returns-then-contains
returns-then-contains c =
    let name = c.args.name.now in
    let names = c.self.invariant.names ∙ ap (λ (v : BuilderValue). names_in v.trees) c.self.view_is in
    sym (taken_fault name c.args.self.now.trees
    (sym (any_name name c.self.inside.names.keys ∙ ap (is_one_of name) names) ∙ sym c.contains.ensures ∙ c.if-contains.true))

pub returns-then-len-ge-MAX_LEAVES : goal.returns-then-len-ge-MAX_LEAVES
returns-then-len-ge-MAX_LEAVES c =
    let name = c.args.name.now in
    let names = c.self.invariant.names ∙ ap (λ (v : BuilderValue). names_in v.trees) c.self.view_is in
    let n = c.len.ensures.len in
    let e = ap (λ (ns : List (List ℕ)). length ns) names in
    sym (full_fault name c.args.self.now.trees
    (sym (any_name name c.self.inside.names.keys ∙ ap (is_one_of name) names) ∙ sym c.contains.ensures ∙ c.if-contains.false)
    (le-leb most_leaves (length (names_in c.args.self.now.trees)) (omega (arith, c.if-len-ge-MAX_LEAVES.true))))

pub returns : goal.returns
returns c =
    let name = c.args.name.now in
    let names = c.self.invariant.names ∙ ap (λ (v : BuilderValue). names_in v.trees) c.self.view_is in
    let n = c.len.ensures.len in
    let e = ap (λ (ns : List (List ℕ)). length ns) names in
    sym (no_leaf_fault name c.args.self.now.trees
    (sym (any_name name c.self.inside.names.keys ∙ ap (is_one_of name) names) ∙ sym c.contains.ensures ∙ c.if-contains.false)
    (lt-leb most_leaves (length (names_in c.args.self.now.trees)) (omega (arith, c.if-len-ge-MAX_LEAVES.false))))
