use Rattle.std.proofs.Common.{List, ℕ, ◌++◌, ap, sym, ◌∙◌}
use Rattle.std.proofs.lemmas.Result.{on_ok_weaker}
use Rattle.mm_tree.specs.TreeText.{text_of_lines}
use Rattle.mm_tree.proofs.TextLemmas.{elem_digits, elem_lines, void_lines}
use Rattle.mm_tree.proofs.write.append_leaf.Goals as goal

pub append_elem-requires : goal.append_elem-requires
append_elem-requires c = elem_digits c.args.leaf.now c.in-Some.item c.in-Some.is c.requires

pub returns-in-Some : goal.returns-in-Some
returns-in-Some c =
    on_ok_weaker c.append_elem.result
    (λ e. e ∙ ap (λ (ls : List (List ℕ)). c.args.text.now ++ text_of_lines ls) (sym (elem_lines c.args.leaf.now c.in-Some.item c.in-Some.is)))
    c.append_elem.ensures

pub returns-in-None : goal.returns-in-None
returns-in-None c =
    on_ok_weaker c.append_void.result
    (λ e. e ∙ ap (λ (ls : List (List ℕ)). c.args.text.now ++ text_of_lines ls) (sym (void_lines c.args.leaf.now c.in-None.is)))
    c.append_void.ensures
