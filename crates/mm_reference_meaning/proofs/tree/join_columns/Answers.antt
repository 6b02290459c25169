use Rattle.std.proofs.Common.{◌≡◌, ◌+◌, ◌++◌, map, length, sym, ap, ◌∙◌, subst}
use Rattle.mm_field.specs.Vectors.{AreVectors}
use Rattle.mm_linear.specs.Coordinates.{completed}
use Rattle.mm_logic.specs.Operator.{row_length}
use Rattle.mm_reference_meaning.specs.Rows.{rows_of}
use Rattle.mm_reference_meaning.specs.Trees.{op_of, joined_column}
use Rattle.mm_reference_meaning.proofs.ColumnLemmas.{basis_known, joined_parts}
use Rattle.mm_reference_meaning.proofs.tree.join_columns.Goals as goal

pub push_joined-requires-clause-basis : goal.push_joined-requires-clause-basis
push_joined-requires-clause-basis c =
    let e = ap rows_of c.deref-2.ensures.value ∙ c.in_ok-basis.ensures ∙ ap (λ g. completed c.args.f (c.args.op.now.t3 + c.args.op.now.c) (rows_of g)) c.deref.ensures.value in
    (basis_known c.args.f (op_of c.args.op.now) c.deref-2.result.now c.requires.operator e).1

pub push_joined-requires-clause-rows : goal.push_joined-requires-clause-rows
push_joined-requires-clause-rows c =
    let e = ap rows_of c.deref-2.ensures.value ∙ c.in_ok-basis.ensures ∙ ap (λ g. completed c.args.f (c.args.op.now.t3 + c.args.op.now.c) (rows_of g)) c.deref.ensures.value in
    let long = (basis_known c.args.f (op_of c.args.op.now) c.deref-2.result.now c.requires.operator e).0 in
    subst (λ g. AreVectors c.args.f (length c.deref-2.result.now) (rows_of g)) (sym c.deref-3.ensures.value)
    (subst (λ n. AreVectors c.args.f n (rows_of c.args.op.now.g1.items)) (sym long) c.requires.operator.first.rows)

pub push_joined-requires-2-clause-basis : goal.push_joined-requires-2-clause-basis
push_joined-requires-2-clause-basis c =
    let e = ap rows_of c.deref-4.ensures.value ∙ c.in_ok-basis.ensures ∙ ap (λ g. completed c.args.f (c.args.op.now.t3 + c.args.op.now.c) (rows_of g)) c.deref.ensures.value in
    (basis_known c.args.f (op_of c.args.op.now) c.deref-4.result.now c.requires.operator e).1

pub push_joined-requires-2-clause-rows : goal.push_joined-requires-2-clause-rows
push_joined-requires-2-clause-rows c =
    let e = ap rows_of c.deref-4.ensures.value ∙ c.in_ok-basis.ensures ∙ ap (λ g. completed c.args.f (c.args.op.now.t3 + c.args.op.now.c) (rows_of g)) c.deref.ensures.value in
    let long = (basis_known c.args.f (op_of c.args.op.now) c.deref-4.result.now c.requires.operator e).0 in
    subst (λ g. AreVectors c.args.f (length c.deref-4.result.now) (rows_of g)) (sym c.deref-5.ensures.value)
    (subst (λ n. AreVectors c.args.f n (rows_of c.args.op.now.g2.items)) (sym long) c.requires.operator.second.rows)

pub returns : goal.returns
returns c =
    let f = c.args.f in
    let op = op_of c.args.op.now in
    let r = row_length op in
    let left = rows_of c.args.left.now in
    let right = rows_of c.args.right.now in
    let basis = completed f r op.g3 in
    let made = c.in_ok-basis.ensures ∙ ap (λ g. completed f r (rows_of g)) c.deref.ensures.value in
    let e2 = ap rows_of c.deref-2.ensures.value ∙ made in
    let e4 = ap rows_of c.deref-4.ensures.value ∙ made in
    let l2 = (basis_known f op c.deref-2.result.now c.requires.operator e2).0 in
    let l4 = (basis_known f op c.deref-4.result.now c.requires.operator e4).0 in
    let first : rows_of c.push_joined.new.out.items ≡ map (joined_column f r basis op.g1 op.t1 0 c.args.right_internal) left =
    c.in_ok-push_joined.ensures
    ∙ ap (λ xs. rows_of xs ++ map (joined_column f (length c.deref-2.result.now) (rows_of c.deref-2.result.now) (rows_of c.deref-3.result.now) op.t1 0 c.args.right_internal) left) c.new-all.ensures.items
    ∙ (λ i. map (joined_column f (l2 i) (e2 i) (rows_of (c.deref-3.ensures.value i)) op.t1 0 c.args.right_internal) left) in
    c.in_ok-push_joined-2.ensures
    ∙ (λ i. first i ++ map (joined_column f (l4 i) (e4 i) (rows_of (c.deref-5.ensures.value i)) op.t2 c.args.left_internal 0) right)
    ∙ joined_parts f op c.args.left_internal c.args.right_internal left right c.requires.operator
