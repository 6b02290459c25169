use Rattle.std.proofs.Common.{rules, false, ◌+◌, ◌≤◌, ◌≡◌, [], ◌∷◌, ◌++◌, length, sym, ap, ◌∙◌, arith}
use Rattle.std.specs.Vec.{vec_len, vec_capacity}
use Rattle.indexmap.specs.IndexSet.{insert_key}
use Rattle.mm_base.specs.contracts.name.NamePartialEq.TheImpl.{eq-value}
use Rattle.mm_tree.specs.NamedTree.{is_one_of}
use Rattle.mm_tree.proofs.BuilderLemmas.{any_name, insert_new}
use Rattle.mm_decomp.specs.declared.shape.Step.TheVariants as steps
use Rattle.mm_decomp.specs.Shapes.{leaf_names}
use Rattle.mm_decomp.specs.ShapeBuilding.{leaf_fault}
use Rattle.mm_decomp.proofs.ShapeBuilderLemmas.{taken, full, free, kept_leaf}
use Rattle.mm_decomp.proofs.shape_builder.ShapeBuilder.leaf.Goals as goal

pub returns-then-contains-clause-answers : goal.returns-then-contains-clause-answers
returns-then-contains-clause-answers c =
    let b = c.self.inside in
    let name = c.args.name in
    ap (leaf_fault name) (sym c.self.view_is)
    ∙ taken name b.steps.items
    (sym (any_name name b.names.keys ∙ ap (is_one_of name) c.self.invariant.names) ∙ sym c.contains.ensures ∙ c.if-contains.true)

pub returns-then-len-ge-MAX_LEAVES-clause-answers : goal.returns-then-len-ge-MAX_LEAVES-clause-answers
returns-then-len-ge-MAX_LEAVES-clause-answers c =
    let b = c.self.inside in
    let name = c.args.name in
    let n = c.len.ensures.len in
    let e = ap length c.self.invariant.names in
    ap (leaf_fault name) (sym c.self.view_is)
    ∙ full name b.steps.items
    (sym (any_name name b.names.keys ∙ ap (is_one_of name) c.self.invariant.names) ∙ sym c.contains.ensures ∙ c.if-contains.false)
    (omega (arith, e, n, c.if-len-ge-MAX_LEAVES.true))

pub returns-clause-answers : goal.returns-clause-answers
returns-clause-answers c =
    let b = c.self.inside in
    let name = c.args.name in
    let n = c.len.ensures.len in
    let e = ap length c.self.invariant.names in
    ap (leaf_fault name) (sym c.self.view_is)
    ∙ free name b.steps.items
    (sym (any_name name b.names.keys ∙ ap (is_one_of name) c.self.invariant.names) ∙ sym c.contains.ensures ∙ c.if-contains.false)
    (omega (arith, e, n, c.if-len-ge-MAX_LEAVES.false))

pub invariant_of-self-2 : goal.invariant_of-self-2
invariant_of-self-2 c =
    let b = c.self.inside in
    let name = c.args.name in
    let n = c.len.ensures.len in
    let e = ap length c.self.invariant.names in
    let absent : is_one_of name (leaf_names b.steps.items) ≡ false =
    sym (any_name name b.names.keys ∙ ap (is_one_of name) c.self.invariant.names) ∙ sym c.contains.ensures ∙ c.if-contains.false in
    let absent_key : is_one_of name b.names.keys ≡ false = ap (is_one_of name) c.self.invariant.names ∙ absent in
    let pushed : c.push.new.self.items ≡ b.steps.items ++ steps.Leaf name c.args.weight ∷ [] = search rules in
    let deep : c.push-2.new.self.items ≡ b.depths.items ++ 0 ∷ [] = search rules in
    let inserted : c.insert.new.self.keys ≡ insert_key (eq-value).it b.names.keys name = search rules in
    let l1 : vec_len c.push.new.self ≡ vec_len b.steps + 1 = search rules in
    let l2 : vec_len c.push-2.new.self ≡ vec_len b.depths + 1 = search rules in
    let cap : vec_capacity c.reserve.new.self ≤ vec_capacity c.push.new.self = c.push.ensures.capacity in
    let room : vec_len b.steps + (vec_len b.depths + 2) ≤ vec_capacity c.reserve.new.self = search rules in
    kept_leaf b _ name c.args.weight c.self.invariant absent (omega (arith, e, n, c.if-len-ge-MAX_LEAVES.false)) c.requires pushed deep
    (inserted ∙ insert_new b.names.keys name absent_key) (omega (arith, l1, l2, cap, room))
