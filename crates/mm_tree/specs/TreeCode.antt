-- Named trees as lists of their nodes, each join after its left and its right subtree, by which proofs tell trees apart.
use Rattle.std.specs.Prelude.{ℕ, ℤ, ◌≡◌, List, [], ◌∷◌, ◌++◌}
use Rattle.std.proofs.Common.{refl, sym, ap, ◌∙◌, append_assoc, append-nil, ◌⊎◌, inl, inr}
use Rattle.std.specs.Coded.{Coded, code_by, coded×, coded⊎, coded_ℕ, coded_ℤ, coded_list}
use Rattle.mm_logic.specs.Operator.{Op}
use Rattle.mm_tree.specs.NamedTree.{Tree}
use Rattle.mm_tree.specs.NamedTree.Tree.{Elem, Void, Join}

abbrev Matrix : Type 0
Matrix = List (List ℕ)

abbrev Numbers : Type 0
Numbers = (ℕ × ℕ) × (ℕ × ℕ)

abbrev pub op_code : Coded Op
op_code =
    code_by (Numbers × (Matrix × (Matrix × Matrix)))
    (coded× (coded× (coded× coded_ℕ coded_ℕ) (coded× coded_ℕ coded_ℕ))
    (coded× (coded_list (coded_list coded_ℕ)) (coded× (coded_list (coded_list coded_ℕ)) (coded_list (coded_list coded_ℕ)))))
    (λ op. (((op.t1, op.t2), (op.t3, op.c)), (op.g1, (op.g2, op.g3))))
    (λ p. record { t1 = p.0.0.0; t2 = p.0.0.1; t3 = p.0.1.0; c = p.0.1.1; g1 = p.1.0; g2 = p.1.1.0; g3 = p.1.1.1 })
    (λ _. refl)

-- one node: an element, a leaf without an element, or a join
abbrev ElemCell : Type 0
ElemCell = (List ℕ × List ℕ) × ℤ

abbrev VoidCell : Type 0
VoidCell = List ℕ × ℕ

abbrev JoinCell : Type 0
JoinCell = List ℕ × Op

abbrev pub Cell : Type 0
Cell = ElemCell ⊎ (VoidCell ⊎ JoinCell)

abbrev pub cell_code : Coded Cell
cell_code =
    coded⊎ (coded× (coded× (coded_list coded_ℕ) (coded_list coded_ℕ)) coded_ℤ)
    (coded⊎ (coded× (coded_list coded_ℕ) coded_ℕ) (coded× (coded_list coded_ℕ) op_code))

abbrev pub cells : Tree → List Cell
cells (Elem name vec weight) = inl ((name, vec), weight) ∷ []
cells (Void name t) = inr (inl (name, t)) ∷ []
cells (Join name op left right) = cells left ++ (cells right ++ inr (inr (name, op)) ∷ [])

abbrev pub with_join : List ℕ → Op → List Tree → List Tree
with_join name op (right ∷ left ∷ trees) = Join name op left right ∷ trees
with_join name op trees = trees

abbrev pub with_cell : Cell → List Tree → List Tree
with_cell (inl e) trees = Elem e.0.0 e.0.1 e.1 ∷ trees
with_cell (inr (inl v)) trees = Void v.0 v.1 ∷ trees
with_cell (inr (inr j)) trees = with_join j.0 j.1 trees

abbrev pub trees_of : List Cell → List Tree → List Tree
trees_of [] trees = trees
trees_of (cell ∷ more) trees = trees_of more (with_cell cell trees)

abbrev pub first_tree : List Tree → Tree
first_tree [] = Void [] 0
first_tree (tree ∷ trees) = tree

pub trees_of-cells : (tree : Tree) (more : List Cell) (trees : List Tree) → trees_of (cells tree ++ more) trees ≡ trees_of more (tree ∷ trees)
trees_of-cells (Elem name vec weight) more trees = refl
trees_of-cells (Void name t) more trees = refl
trees_of-cells (Join name op left right) more trees =
    let one : List Cell = inr (inr (name, op)) ∷ [] in
    ap (λ (cs : List Cell). trees_of cs trees)
    (append_assoc (cells left) (cells right ++ one) more ∙ ap (λ (cs : List Cell). cells left ++ cs) (append_assoc (cells right) one more))
    ∙ trees_of-cells left (cells right ++ (one ++ more)) trees
    ∙ trees_of-cells right (one ++ more) (left ∷ trees)

pub tree_back : (tree : Tree) → first_tree (trees_of (cells tree) []) ≡ tree
tree_back tree =
    ap (λ (cs : List Cell). first_tree (trees_of cs [])) (sym (append-nil (cells tree))) ∙ ap first_tree (trees_of-cells tree [] [])

abbrev pub tree_code : Coded Tree
tree_code = code_by (List Cell) (coded_list cell_code) cells (λ cs. first_tree (trees_of cs [])) tree_back
