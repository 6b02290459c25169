use Rattle.std.proofs.Common.{◌∙◌, sym, subst}
use Rattle.mm_logic.specs.Tree as shapes
use Rattle.mm_present.proofs.NodeLemmas.{shape_of_element, shape_of_void}
use Rattle.mm_present.proofs.WholeSpaceLemmas.{element_dead, element_space, void_space}
use Rattle.mm_tree.specs.NamedTree.{shape}
use Rattle.mm_tree.specs.Nodes.{named_leaf}
use Rattle.mm_present.proofs.independence.space_of_leaf.Goals as goal

pub returns-then-is_zero_vector : goal.returns-then-is_zero_vector
returns-then-is_zero_vector c =
    let e = shape_of_element c.args.leaf.now c.in-Some.item c.in-Some.is in
    element_dead c.args.f (shape (named_leaf c.args.leaf.now)) c.in-Some.item.vec e
    (subst (λ (T : shapes.Tree). shapes.IsValid c.args.f T) e c.requires) (sym c.is_zero_vector.ensures ∙ c.if-is_zero_vector.true)

pub span_of-requires-clause-short : goal.span_of-requires-clause-short
span_of-requires-clause-short c =
    (subst (λ (T : shapes.Tree). shapes.IsValid c.args.f T) (shape_of_element c.args.leaf.now c.in-Some.item c.in-Some.is) c.requires).1

pub span_of-requires-clause-digits : goal.span_of-requires-clause-digits
span_of-requires-clause-digits c =
    (subst (λ (T : shapes.Tree). shapes.IsValid c.args.f T) (shape_of_element c.args.leaf.now c.in-Some.item c.in-Some.is) c.requires).0

pub zero-requires : goal.zero-requires
zero-requires c = subst (λ (T : shapes.Tree). shapes.IsValid c.args.f T) (shape_of_void c.args.leaf.now c.in-None.is) c.requires

pub returns-else-is_zero_vector : goal.returns-else-is_zero_vector
returns-else-is_zero_vector c =
    let e = shape_of_element c.args.leaf.now c.in-Some.item c.in-Some.is in
    element_space c.args.f (shape (named_leaf c.args.leaf.now)) c.in-Some.item.vec c.span_of.result e
    (subst (λ (T : shapes.Tree). shapes.IsValid c.args.f T) e c.requires) c.span_of.ensures (sym c.is_zero_vector.ensures ∙ c.if-is_zero_vector.false)

pub returns-in-None : goal.returns-in-None
returns-in-None c =
    void_space c.args.f (shape (named_leaf c.args.leaf.now)) c.args.leaf.now.t c.zero.result (shape_of_void c.args.leaf.now c.in-None.is) c.zero.ensures
