use Rattle.std.proofs.Common.{◌∙◌, ◌≡◌, ap, List, ℕ, ◌++◌, ◌∷◌, []}
use Rattle.std.proofs.lemmas.Result.{on_ok_weaker}
use Rattle.mm_tree.specs.Nodes.{named}
use Rattle.mm_tree.specs.TreeText.{node_lines, text_of_lines, join_text}
use Rattle.mm_tree.specs.declared.node.Node.{Node}
use Rattle.mm_tree.proofs.TextLemmas.{join_lines}
use Rattle.mm_tree.proofs.write.+append_node.Goals as goal

pub returns-in_ok-append_node-in-Join-2 : goal.returns-in_ok-append_node-in-Join-2
returns-in_ok-append_node-in-Join-2 t c =
    let with_lines : List ℕ → Node → List ℕ = λ (text : List ℕ) (node : Node). text ++ text_of_lines (node_lines (named node)) in
    let first : c.append_node.new.text ≡ with_lines c.args.text.now c.in-Join.left.value =
    c.in_ok-append_node-in-Join.ensures ∙ ap (with_lines c.args.text.now) c.deref.ensures in
    let second : c.append_node-in-Join.new.text ≡ with_lines (with_lines c.args.text.now c.in-Join.left.value) c.in-Join.right.value =
    c.in_ok-append_node-in-Join-2.ensures ∙ ap (λ (text : List ℕ). with_lines text c.deref-in-Join.result.now) first
    ∙ ap (with_lines (with_lines c.args.text.now c.in-Join.left.value)) c.deref-in-Join.ensures in
    on_ok_weaker c.append_join.result
    (λ e. e ∙ ap (λ (text : List ℕ). text ++ text_of_lines (join_text c.in-Join.name ∷ [])) second
    ∙ join_lines c.args.node.now c.in-Join.name c.in-Join.field-1 c.in-Join.left c.in-Join.right c.args.text.now c.in-Join.is)
    c.append_join.ensures
