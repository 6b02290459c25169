use Rattle.std.proofs.Common.{◌∙◌, ◌≡◌, ap, List, ℕ, ◌++◌, ◌∷◌, []}
use Rattle.std.proofs.lemmas.Result.{on_ok_weaker}
use Rattle.mm_tree.specs.Nodes.{named}
use Rattle.mm_tree.specs.TreeText.{text_of_lines}
use Rattle.mm_tree.specs.declared.node.Node.{Node}
use Rattle.mm_decomp.specs.HeaderText.{operator_lines, operator_text}
use Rattle.mm_decomp.proofs.HeaderTextLemmas.{no_operators, operators_of_join}
use Rattle.mm_decomp.proofs.write.+append_operators.Goals as goal

pub returns-in-Leaf : goal.returns-in-Leaf
returns-in-Leaf t c = no_operators c.args.node.now c.in-Leaf.field-0 c.args.text.now c.in-Leaf.is

pub returns-in_ok-append_operators-in-Join-2 : goal.returns-in_ok-append_operators-in-Join-2
returns-in_ok-append_operators-in-Join-2 t c =
    let with_lines : List ℕ → Node → List ℕ = λ (text : List ℕ) (node : Node). text ++ text_of_lines (operator_lines (named node)) in
    let first : c.append_operators.new.text ≡ with_lines c.args.text.now c.in-Join.left.value =
    c.in_ok-append_operators-in-Join.ensures ∙ ap (with_lines c.args.text.now) c.deref.ensures in
    let second : c.append_operators-in-Join.new.text ≡ with_lines (with_lines c.args.text.now c.in-Join.left.value) c.in-Join.right.value =
    c.in_ok-append_operators-in-Join-2.ensures ∙ ap (λ (text : List ℕ). with_lines text c.deref-in-Join.result.now) first
    ∙ ap (with_lines (with_lines c.args.text.now c.in-Join.left.value)) c.deref-in-Join.ensures in
    on_ok_weaker c.append_operator.result
    (λ e. e ∙ ap (λ (text : List ℕ). text ++ text_of_lines (operator_text c.in-Join.name c.in-Join.op.op ∷ [])) second
    ∙ operators_of_join c.args.node.now c.in-Join.name c.in-Join.op c.in-Join.left c.in-Join.right c.args.text.now c.in-Join.is)
    c.append_operator.ensures
