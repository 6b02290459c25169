-- The nodes of a named tree are the subtrees of its shape, and each of its elements has a weight.
use Rattle.std.proofs.Common.{◌≡◌, ◌<◌, ℕ, zero, suc, ◌+◌, ◌-◌, ℤ, nat_lt, Bool, true, false, List, ◌∷◌, length, refl, sym, ap, ap₂, ◌∙◌, arith, length-append}
use Rattle.std.proofs.lemmas.Bool.{ltb-true, ltb-false}
use Rattle.mm_logic.specs.Operator.{Op}
use Rattle.mm_logic.specs.Tree as shapes
use Rattle.mm_logic_laws.proofs.TreeLemmas.{subtrees_in_order, weights_fit}
use Rattle.mm_logic_laws.specs.TreeLaws.{subtree}
use Rattle.mm_job_laws.specs.TreeLaws.{ElementsAreNamedAndWeighted, SubtreesAreOfNodes, WeightsOfSetsFit}
use Rattle.mm_tree.specs.NamedTree.{Tree, nodes, shape, weights}
use Rattle.mm_tree.specs.NamedTree.Tree.{Elem, Void, Join}
use Rattle.mm_tree.specs.Paths.{Path, node_at, number_at}
use Rattle.mm_tree.specs.Places.{IsPath, path_of}
use Rattle.mm_tree.proofs.ElementLemmas.{count_elements, few_elements}
use Rattle.mm_tree.proofs.PathLemmas.{nodes_join}
use Rattle.mm_tree.proofs.PlaceLemmas.{number_within, path_of_number}
use Rattle.mm_tree.proofs.StepLemmas.{node_left, node_right, node_root, path_of_left, path_of_right, path_root}

-- ---- weights

count_weights : (tree : Tree) → length (weights tree) ≡ shapes.size (shape tree)
unfolding weights shape
count_weights (Elem name vec weight) = refl
count_weights (Void name t) = refl
count_weights (Join name op l r) = length-append (weights l) (weights r) ∙ ap₂ (λ a b. a + b) (count_weights l) (count_weights r)

pub elements_named_and_weighted : ElementsAreNamedAndWeighted
elements_named_and_weighted tree = (count_elements tree, count_weights tree)

pub weights_of_sets_fit : WeightsOfSetsFit
weights_of_sets_fit f tree valid X =
    let a = count_weights tree in
    let b = count_elements tree in
    let c = few_elements tree in
    let d = valid.few in
    weights_fit (weights tree) (omega arith) valid.light X

-- ---- nodes

count_nodes : (tree : Tree) → length (shapes.subtrees (shape tree)) ≡ nodes tree
unfolding nodes shape
count_nodes (Elem name vec weight) = refl
count_nodes (Void name t) = refl
count_nodes (Join name op l r) =
    let a = count_nodes l in
    let b = count_nodes r in
    let e = length-append (shapes.subtrees (shape l)) (shapes.subtrees (shape r)) in
    omega arith

shape_join : (n : List ℕ) (op : Op) (l r : Tree) → shape (Join n op l r) ≡ shapes.Tree.Join op (shape l) (shape r)
unfolding shape
shape_join n op l r = refl

subtree_root : (T : shapes.Tree) → subtree T 0 ≡ T
subtree_root (shapes.Tree.Elem vec) = refl
subtree_root (shapes.Tree.Void t) = refl
subtree_root (shapes.Tree.Join op l r) = refl

root_is_node : (tree : Tree) → subtree (shape tree) 0 ≡ shape (node_at tree (path_of 0 tree))
root_is_node tree = subtree_root (shape tree) ∙ ap shape (sym (ap (node_at tree) (path_root tree) ∙ node_root tree))

-- what holds at one node holds at the same node below a join
in_left : (n : List ℕ) (op : Op) (l r : Tree) (k : ℕ) → k < nodes l → subtree (shape l) k ≡ shape (node_at l (path_of k l)) →
    subtree (shape (Join n op l r)) (suc k) ≡ shape (node_at (Join n op l r) (path_of (suc k) (Join n op l r)))
in_left n op l r k within h =
    let c = count_nodes l in
    let e : suc k ≡ 1 + k = omega arith in
    let p : suc k - 1 ≡ k = omega arith in
    ap₂ subtree (shape_join n op l r) e
    ∙ (subtrees_in_order op (shape l) (shape r)).2 k (omega arith)
    ∙ h
    ∙ ap shape (sym (ap (node_at (Join n op l r)) (path_of_left (suc k) n op l r (omega arith) (omega arith)
    ∙ ap (λ (j : ℕ). true ∷ path_of j l) p) ∙ node_left n op l r (path_of k l)))

in_right : (n : List ℕ) (op : Op) (l r : Tree) (k rest : ℕ) → k ≡ nodes l + rest → rest < nodes r →
    subtree (shape r) rest ≡ shape (node_at r (path_of rest r)) →
    subtree (shape (Join n op l r)) (suc k) ≡ shape (node_at (Join n op l r) (path_of (suc k) (Join n op l r)))
in_right n op l r k rest split within h =
    let c = count_nodes l in
    let d = count_nodes r in
    let e : suc k ≡ 1 + (length (shapes.subtrees (shape l)) + rest) = omega arith in
    ap₂ subtree (shape_join n op l r) e
    ∙ (subtrees_in_order op (shape l) (shape r)).3 rest (omega arith)
    ∙ h
    ∙ ap shape (sym (ap (node_at (Join n op l r)) (path_of_right (suc k) rest n op l r (omega arith) (omega arith))
    ∙ node_right n op l r (path_of rest r)))

one_elem : (n vec : List ℕ) (weight : ℤ) → nodes (Elem n vec weight) ≡ 1
unfolding nodes
one_elem n vec weight = refl

one_void : (n : List ℕ) (t : ℕ) → nodes (Void n t) ≡ 1
unfolding nodes
one_void n t = refl

subtree_is_node : (tree : Tree) (k : ℕ) → k < nodes tree → subtree (shape tree) k ≡ shape (node_at tree (path_of k tree))
subtree_is_node tree zero within = root_is_node tree
subtree_is_node (Elem n vec weight) (suc k) within = let e = one_elem n vec weight in absurd (let no : ⊥ = omega arith in no)
subtree_is_node (Void n t) (suc k) within = let e = one_void n t in absurd (let no : ⊥ = omega arith in no)
subtree_is_node (Join n op l r) (suc k) within = go (subtree_is_node l) (subtree_is_node r) (nat_lt k (nodes l)) refl
  where
    go : ((j : ℕ) → j < nodes l → subtree (shape l) j ≡ shape (node_at l (path_of j l)))
        → ((j : ℕ) → j < nodes r → subtree (shape r) j ≡ shape (node_at r (path_of j r)))
        → (left : Bool) → nat_lt k (nodes l) ≡ left
        → subtree (shape (Join n op l r)) (suc k) ≡ shape (node_at (Join n op l r) (path_of (suc k) (Join n op l r)))
    go below_left below_right true e = let a = ltb-true k (nodes l) e in in_left n op l r k a (below_left k a)
    go below_left below_right false e =
        let a = ltb-false k (nodes l) e in
        let b = nodes_join n op l r in
        let rest = k - nodes l in
        let c : k ≡ nodes l + rest = omega arith in
        let d : rest < nodes r = omega arith in
        in_right n op l r k rest c d (below_right rest d)

subtree_at_end : (tree : Tree) (path : Path) → IsPath tree path → subtree (shape tree) (number_at tree path) ≡ shape (node_at tree path)
subtree_at_end tree path is =
    subtree_is_node tree (number_at tree path) (number_within tree path is)
    ∙ ap (λ (way : Path). shape (node_at tree way)) (path_of_number tree path is)

pub subtrees_are_of_nodes : SubtreesAreOfNodes
subtrees_are_of_nodes tree = (count_nodes tree, subtree_is_node tree, subtree_at_end tree)
