use Rattle.std.proofs.Common.{List, ℕ, ◌++◌, ◌≡◌, ap, sym, subst, ◌∙◌}
use Rattle.std.specs.Prelude.{codes}
use Rattle.mm_tree.specs.NamedTree.{Tree}
use Rattle.mm_tree.specs.Nodes.{named}
use Rattle.mm_tree.specs.TreeText.{node_lines, text_of_lines, HasShownDigits}
use Rattle.mm_tree.proofs.TextLemmas.{valid_digits, whole_text}
use Rattle.mm_tree.proofs.write.write_tree.Goals as goal

pub append_node-requires : goal.append_node-requires
append_node-requires c =
    subst (λ (t : Tree). HasShownDigits t) (sym c.node.ensures.tree) (valid_digits c.args.tree.now.f c.args.tree.now.tree c.node.ensures.valid.valid_shape)

pub returns : goal.returns
returns c =
    let end : List ℕ = codes "end\n" in
    let nodes : c.append_node.new.text ≡ text_of_lines (node_lines c.args.tree.now.tree) =
    c.in_ok-append_node.ensures
    ∙ ap (λ (t : List ℕ). t ++ text_of_lines (node_lines (named c.node.result.now))) c.new-text.ensures
    ∙ ap (λ (t : Tree). text_of_lines (node_lines t)) c.node.ensures.tree in
    c.in_ok-append.ensures.ok ∙ ap (λ (t : List ℕ). t ++ end) nodes ∙ whole_text c.args.tree.now.tree
