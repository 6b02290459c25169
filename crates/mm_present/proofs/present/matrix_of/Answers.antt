use Rattle.std.proofs.Common.{◌≡◌, ◌+◌, ◌++◌, length, map, reverse, sym, ap, ap₂, subst, ◌∙◌, arith}
use Rattle.mm_logic.specs.Tree as shapes
use Rattle.mm_tree.specs.NamedTree.{shape}
use Rattle.mm_tree.specs.Nodes.{named, IsOver}
use Rattle.mm_present.specs.Comparing.{present_rows}
use Rattle.mm_present.specs.Joining.{placed_rows, boundary_matrix}
use Rattle.mm_present.proofs.TreeRows.{collected_vectors, collected_matrix}
use Rattle.mm_tree.proofs.ElementLemmas.{count_elements, few_elements}
use Rattle.mm_present.proofs.present.matrix_of.Goals as goal

pub collect-requires-clause-over : goal.collect-requires-clause-over
collect-requires-clause-over c =
    let f = c.args.tree.now.f in
    let T = shape c.args.tree.now.tree in
    let field : c.field.result ≡ f = c.field.ensures in
    let tree : shape (named c.node.result.now) ≡ T = ap shape c.node.ensures.tree in
    let count : c.len.result ≡ shapes.size T = c.len.ensures ∙ ap length c.in_ok-names.ensures.names ∙ count_elements c.args.tree.now.tree in
    subst (λ g. IsOver g c.node.result.now) (sym field) c.node.ensures.over

pub collect-requires-clause-valid : goal.collect-requires-clause-valid
collect-requires-clause-valid c =
    let f = c.args.tree.now.f in
    let T = shape c.args.tree.now.tree in
    let field : c.field.result ≡ f = c.field.ensures in
    let tree : shape (named c.node.result.now) ≡ T = ap shape c.node.ensures.tree in
    let count : c.len.result ≡ shapes.size T = c.len.ensures ∙ ap length c.in_ok-names.ensures.names ∙ count_elements c.args.tree.now.tree in
    subst (λ g. shapes.IsValid g (shape (named c.node.result.now))) (sym field)
    (subst (λ S. shapes.IsValid f S) (sym tree) c.node.ensures.valid.valid_shape)

pub collect-requires-clause-few : goal.collect-requires-clause-few
collect-requires-clause-few c =
    let few = c.node.ensures.valid.few in
    let minus_multiple = few_elements c.args.tree.now.tree in
    omega (arith, c.len.ensures, ap length c.in_ok-names.ensures.names)

pub collect-requires-clause-room : goal.collect-requires-clause-room
collect-requires-clause-room c =
    let f = c.args.tree.now.f in
    let T = shape c.args.tree.now.tree in
    let field : c.field.result ≡ f = c.field.ensures in
    let tree : shape (named c.node.result.now) ≡ T = ap shape c.node.ensures.tree in
    let count : c.len.result ≡ shapes.size T = c.len.ensures ∙ ap length c.in_ok-names.ensures.names ∙ count_elements c.args.tree.now.tree in
    omega (arith, ap shapes.size tree)

pub stack-requires : goal.stack-requires
stack-requires c =
    let f = c.args.tree.now.f in
    let T = shape c.args.tree.now.tree in
    let field : c.field.result ≡ f = c.field.ensures in
    let tree : shape (named c.node.result.now) ≡ T = ap shape c.node.ensures.tree in
    let count : c.len.result ≡ shapes.size T = c.len.ensures ∙ ap length c.in_ok-names.ensures.names ∙ count_elements c.args.tree.now.tree in
    let boundary : c.in_ok-boundary.boundary ≡ boundary_matrix f T = c.in_ok-boundary.ensures.boundary ∙ ap₂ (λ g S. boundary_matrix g S) field tree in
    let new = map (λ r. r.items) c.collect.new.internal.items in
    let room : 0 + (shapes.size (shape (named c.node.result.now)) + 0) ≡ c.len.result = omega (arith, ap shapes.size tree, count) in
    let rows : new ≡ reverse (placed_rows f 0 0 T) =
    c.in_ok-boundary.ensures.internal 0 room
    ∙ ap (λ old. old ++ reverse (placed_rows c.field.result 0 0 (shape (named c.node.result.now)))) (ap (map (λ r. r.items)) c.new-internal.ensures.items)
    ∙ ap₂ (λ g S. reverse (placed_rows g 0 0 S)) field tree in
    collected_vectors f T c.in_ok-boundary.boundary new c.node.ensures.valid.valid_shape boundary rows

pub returns-clause-rows : goal.returns-clause-rows
unfolding present_rows
returns-clause-rows c =
    let f = c.args.tree.now.f in
    let T = shape c.args.tree.now.tree in
    let field : c.field.result ≡ f = c.field.ensures in
    let tree : shape (named c.node.result.now) ≡ T = ap shape c.node.ensures.tree in
    let count : c.len.result ≡ shapes.size T = c.len.ensures ∙ ap length c.in_ok-names.ensures.names ∙ count_elements c.args.tree.now.tree in
    let boundary : c.in_ok-boundary.boundary ≡ boundary_matrix f T = c.in_ok-boundary.ensures.boundary ∙ ap₂ (λ g S. boundary_matrix g S) field tree in
    let new = map (λ r. r.items) c.collect.new.internal.items in
    let room : 0 + (shapes.size (shape (named c.node.result.now)) + 0) ≡ c.len.result = omega (arith, ap shapes.size tree, count) in
    let rows : new ≡ reverse (placed_rows f 0 0 T) =
    c.in_ok-boundary.ensures.internal 0 room
    ∙ ap (λ old. old ++ reverse (placed_rows c.field.result 0 0 (shape (named c.node.result.now)))) (ap (map (λ r. r.items)) c.new-internal.ensures.items)
    ∙ ap₂ (λ g S. reverse (placed_rows g 0 0 S)) field tree in
    collected_matrix f T c.in_ok-boundary.boundary c.in_ok-rows.rows new boundary rows c.in_ok-rows.ensures
