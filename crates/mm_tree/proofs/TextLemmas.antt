-- The text of a tree, from its parts.
use Rattle.std.proofs.Common.{ℕ, ◌≡◌, List, [], ◌∷◌, ◌++◌, refl, sym, ap, ◌∙◌, subst, append_assoc, arith, Box, Global, Option, Some, None}
use Rattle.std.specs.Prelude.{codes}
use Rattle.mm_field.specs.declared.Field.{Field}
use Rattle.mm_field.specs.Vectors.{AreDigits}
use Rattle.mm_field.proofs.Tables.{order-most}
use Rattle.mm_logic.specs.Operator.{Op}
use Rattle.mm_logic.specs.Tree.{IsValid}
use Rattle.mm_ops.specs.OpValue.{OpValue}
use Rattle.mm_tree.specs.NamedTree.{Tree, shape}
use Rattle.mm_tree.specs.NamedTree.Tree.{Elem, Void, Join}
use Rattle.mm_tree.specs.Nodes.{named, named_leaf}
use Rattle.mm_tree.specs.TreeText.{elem_text, void_text, join_text, node_lines, text_of_lines, tree_text, AreShown, HasShownDigits}
use Rattle.mm_tree.specs.declared.node.Item.{Item}
use Rattle.mm_tree.specs.declared.node.Leaf as leaves
use Rattle.mm_tree.specs.declared.node.Node as nodes_of
use Rattle.mm_tree.specs.declared.node.Node.TheViews as views
use Rattle.mm_tree.proofs.Walks.{named_join}

-- ---- lines

pub text_of_both : (xs ys : List (List ℕ)) → text_of_lines (xs ++ ys) ≡ text_of_lines xs ++ text_of_lines ys
text_of_both [] ys = refl
text_of_both (x ∷ xs) ys =
    ap (λ (t : List ℕ). x ++ 10 ∷ t) (text_of_both xs ys) ∙ sym (append_assoc x (10 ∷ text_of_lines xs) (text_of_lines ys))

-- ---- a node as a leaf or a join

pub elem_lines : (l : leaves.Leaf) (item : Item) → l.item ≡ Some item → node_lines (named_leaf l) ≡ elem_text l.name item.vec item.weight ∷ []
unfolding node_lines
elem_lines l item e = ap (λ (i : Option Item). node_lines (named_leaf (record l { item = i }))) e

pub void_lines : (l : leaves.Leaf) → l.item ≡ None → node_lines (named_leaf l) ≡ void_text l.name l.t ∷ []
unfolding node_lines
void_lines l e = ap (λ (i : Option Item). node_lines (named_leaf (record l { item = i }))) e

join_node_lines : (name : List ℕ) (op : Op) (left right : Tree) → node_lines left ++ (node_lines right ++ join_text name ∷ []) ≡ node_lines (Join name op left right)
unfolding node_lines
join_node_lines name op left right = refl

-- a text with the lines of a join's left subtree, then with those of its right one, and then with its own
pub join_lines : (node : nodes_of.Node) (name : List ℕ) (op : OpValue) (l r : Box nodes_of.Node Global) (text : List ℕ) → node ≡ views.Join name op l r
    → ((text ++ text_of_lines (node_lines (named l.value))) ++ text_of_lines (node_lines (named r.value))) ++ text_of_lines (join_text name ∷ [])
    ≡ text ++ text_of_lines (node_lines (named node))
join_lines node name op l r text e =
    let left = node_lines (named l.value) in
    let right = node_lines (named r.value) in
    let last : List (List ℕ) = join_text name ∷ [] in
    append_assoc (text ++ text_of_lines left) (text_of_lines right) (text_of_lines last)
    ∙ append_assoc text (text_of_lines left) (text_of_lines right ++ text_of_lines last)
    ∙ ap (λ (t : List ℕ). text ++ t) (ap (λ (t : List ℕ). text_of_lines left ++ t) (sym (text_of_both right last)) ∙ sym (text_of_both left (right ++ last)))
    ∙ ap (λ (ls : List (List ℕ)). text ++ text_of_lines ls) (join_node_lines name op.op (named l.value) (named r.value))
    ∙ ap (λ (t : Tree). text ++ text_of_lines (node_lines t)) (sym (ap named e ∙ named_join name op l r))

-- ---- digits

shown : (f : Field) (vec : List ℕ) → AreDigits f vec → AreShown vec
shown f vec h k e l =
    let a = h k e l in
    let b = order-most f in
    omega arith

pub valid_digits : (f : Field) (tree : Tree) → IsValid f (shape tree) → HasShownDigits tree
unfolding shape
valid_digits f (Elem name vec weight) h = shown f vec h.0
valid_digits f (Void name t) h = tt
valid_digits f (Join name op left right) h = (valid_digits f left h.3, valid_digits f right h.4)

pub elem_digits : (l : leaves.Leaf) (item : Item) → l.item ≡ Some item → HasShownDigits (named_leaf l) → AreShown item.vec
elem_digits l item e h = subst (λ (i : Option Item). HasShownDigits (named_leaf (record l { item = i }))) e h

-- ---- the whole text

pub whole_text : (tree : Tree) → text_of_lines (node_lines tree) ++ codes "end\n" ≡ tree_text tree
unfolding tree_text
whole_text tree = sym (text_of_both (node_lines tree) (codes "end" ∷ []))
