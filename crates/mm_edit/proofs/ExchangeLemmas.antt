-- A node that is exchanged, and exchanged back.
use Rattle.std.proofs.Common.{ℕ, zero, suc, ◌≡◌, ◌<◌, ◌≤◌, ◌-◌, ◌==◌, ◌||◌, ◌++◌, Bool, true, false, List, [], ◌∷◌, length, refl, sym, ap, ap₂, ◌∙◌, subst, Some, None, if◌then◌else◌, arith, ◌⊎◌, inl, inr}
use Rattle.std.specs.List.{IsDistinct}
use Rattle.std.specs.Str.{bytes_eq}
use Rattle.std.proofs.lemmas.Bool.{cases_lt, eqb-true, eq-eqb, both_ways, or_left, or_right}
use Rattle.mm_base.proofs.NameLemmas.{bytes_same}
use Rattle.mm_field.specs.declared.Field.{Field}
use Rattle.mm_tree.specs.NamedTree.{Tree, boundary, leaf_names, depth, nodes, is_one_of}
use Rattle.mm_tree.specs.NamedTree.Tree.{Elem, Void, Join}
use Rattle.mm_tree.specs.Paths.{Path, node_at, with_node, names_outside}
use Rattle.mm_tree.specs.Places.{path_of, IsPath, IsPlaceOf}
use Rattle.mm_tree.specs.Replacing.{first_taken, replace_fault}
use Rattle.mm_tree.specs.ValidTree.{IsValidTree, most_leaves, most_depth}
use Rattle.mm_tree.specs.declared.place.Place.{Place}
use Rattle.mm_tree.specs.declared.replace.ReplaceFault.{ReplaceFault}
use Rattle.mm_tree.proofs.NameLemmas.{AreApart, one_of_append, distinct_left, distinct_right, distinct_apart}
use Rattle.mm_tree.proofs.PathLemmas.{nodes_join, some_nodes}
use Rattle.mm_tree.proofs.ReplaceLemmas.{path_is, fault_free, fault_boundary}
use Rattle.mm_tree.proofs.StepLemmas.{path_root, path_of_left, path_of_right, node_root, with_root, with_left, with_right}
use Rattle.mm_tree.proofs.TreeLemmas.{by_cases, apart_back}

-- the node of a number keeps its number and its way where it is exchanged
pub way_kept : (k : ℕ) (tree new : Tree) → k < nodes tree → (k < nodes (with_node tree (path_of k tree) new)) × (path_of k (with_node tree (path_of k tree) new) ≡ path_of k tree)
unfolding nodes
way_kept zero tree new h = (some_nodes _, path_root _ ∙ sym (path_root tree))
way_kept (suc k) (Elem name vec weight) new h = absurd (omega (arith, h))
way_kept (suc k) (Void name t) new h = absurd (omega (arith, h))
way_kept (suc k) (Join name op left right) new h = by_side (cases_lt k (nodes left)) (way_kept k left new) (way_kept (k - nodes left) right new)
  where
    one : suc k - 1 ≡ k
    one = omega arith

    by_side : (k < nodes left) ⊎ (nodes left ≤ k)
        → (k < nodes left → (k < nodes (with_node left (path_of k left) new)) × (path_of k (with_node left (path_of k left) new) ≡ path_of k left))
        → (k - nodes left < nodes right → (k - nodes left < nodes (with_node right (path_of (k - nodes left) right) new)) × (path_of (k - nodes left) (with_node right (path_of (k - nodes left) right) new) ≡ path_of (k - nodes left) right))
        → (suc k < nodes (with_node (Join name op left right) (path_of (suc k) (Join name op left right)) new))
        × (path_of (suc k) (with_node (Join name op left right) (path_of (suc k) (Join name op left right)) new) ≡ path_of (suc k) (Join name op left right))
    by_side (inl less) here there =
        let ih = here less in
        let inside = ih.0 in
        let part = with_node left (path_of k left) new in
        let path : path_of (suc k) (Join name op left right) ≡ true ∷ path_of k left = path_of_left (suc k) name op left right (omega arith) (omega (arith, less)) ∙ ap (λ j. true ∷ path_of j left) one in
        let tree : with_node (Join name op left right) (path_of (suc k) (Join name op left right)) new ≡ Join name op part right = ap (λ p. with_node (Join name op left right) p new) path ∙ with_left name op left right new (path_of k left) in
        let size = ap nodes tree ∙ nodes_join name op part right in (
          omega (arith, size, inside),
          ap (path_of (suc k)) tree ∙ path_of_left (suc k) name op part right (omega arith) (omega (arith, inside)) ∙ ap (λ j. true ∷ path_of j part) one ∙ ap (λ p. true ∷ p) ih.1 ∙ sym path,
        )
    by_side (inr more) here there =
        let ih = there (omega (arith, more, h)) in
        let inside = ih.0 in
        let rest = k - nodes left in
        let part = with_node right (path_of rest right) new in
        let path : path_of (suc k) (Join name op left right) ≡ false ∷ path_of rest right = path_of_right (suc k) rest name op left right (omega arith) (omega (arith, more)) in
        let tree : with_node (Join name op left right) (path_of (suc k) (Join name op left right)) new ≡ Join name op left part = ap (λ p. with_node (Join name op left right) p new) path ∙ with_right name op left right new (path_of rest right) in
        let size = ap nodes tree ∙ nodes_join name op left part in (
          omega (arith, size, inside, more),
          ap (path_of (suc k)) tree ∙ path_of_right (suc k) rest name op left part (omega arith) (omega (arith, more)) ∙ ap (λ p. false ∷ p) ih.1 ∙ sym path,
        )

-- a place stays one of the tree
pub place_kept : (tree new : Tree) (place : Place) → IsPlaceOf tree place → IsPlaceOf (with_node tree (path_of place.number tree) new) place
place_kept tree new place h =
    let kept = way_kept place.number tree new h.within in
    record { within = kept.0; deep = h.deep ∙ ap length (sym kept.1) }

-- the new node stands there
pub node_put : (tree new : Tree) (path : Path) → IsPath tree path → node_at (with_node tree path new) path ≡ new
unfolding IsPath with_node node_at
node_put (Elem name vec weight) new [] w = node_root new
node_put (Void name t) new [] w = node_root new
node_put (Join name op left right) new [] w = node_root new
node_put (Elem name vec weight) new (step ∷ path) w = absurd w
node_put (Void name t) new (step ∷ path) w = absurd w
node_put (Join name op left right) new (true ∷ path) w = node_put left new path w
node_put (Join name op left right) new (false ∷ path) w = node_put right new path w

-- the old node put back
pub put_back : (tree new : Tree) (path : Path) → IsPath tree path → with_node (with_node tree path new) path (node_at tree path) ≡ tree
unfolding IsPath with_node node_at
put_back (Elem name vec weight) new [] w = with_root new (Elem name vec weight)
put_back (Void name t) new [] w = with_root new (Void name t)
put_back (Join name op left right) new [] w = with_root new (Join name op left right)
put_back (Elem name vec weight) new (step ∷ path) w = absurd w
put_back (Void name t) new (step ∷ path) w = absurd w
put_back (Join name op left right) new (true ∷ path) w = ap (λ t. Join name op t right) (put_back left new path w)
put_back (Join name op left right) new (false ∷ path) w = ap (λ t. Join name op left t) (put_back right new path w)

outside_root : (tree : Tree) → names_outside tree [] ≡ []
unfolding names_outside
outside_root (Elem name vec weight) = refl
outside_root (Void name t) = refl
outside_root (Join name op left right) = refl

outside_kept : (tree new : Tree) (path : Path) → IsPath tree path → names_outside (with_node tree path new) path ≡ names_outside tree path
unfolding IsPath with_node names_outside
outside_kept (Elem name vec weight) new [] w = outside_root new
outside_kept (Void name t) new [] w = outside_root new
outside_kept (Join name op left right) new [] w = outside_root new
outside_kept (Elem name vec weight) new (step ∷ path) w = absurd w
outside_kept (Void name t) new (step ∷ path) w = absurd w
outside_kept (Join name op left right) new (true ∷ path) w = ap (λ names. names ++ leaf_names right) (outside_kept left new path w)
outside_kept (Join name op left right) new (false ∷ path) w = ap (λ names. leaf_names left ++ names) (outside_kept right new path w)

-- a leaf below a node is one of the tree
part_named : (x : List ℕ) (tree : Tree) (path : Path) → is_one_of x (leaf_names (node_at tree path)) ≡ true → is_one_of x (leaf_names tree) ≡ true
unfolding node_at leaf_names
part_named x (Elem name vec weight) [] e = e
part_named x (Void name t) [] e = e
part_named x (Join name op left right) [] e = e
part_named x (Elem name vec weight) (step ∷ path) e = e
part_named x (Void name t) (step ∷ path) e = e
part_named x (Join name op left right) (true ∷ path) e =
    one_of_append x (leaf_names left) (leaf_names right) ∙ or_left (is_one_of x (leaf_names left)) (is_one_of x (leaf_names right)) (part_named x left path e)
part_named x (Join name op left right) (false ∷ path) e =
    one_of_append x (leaf_names left) (leaf_names right) ∙ or_right (is_one_of x (leaf_names left)) (is_one_of x (leaf_names right)) (part_named x right path e)

-- no leaf below a node has the name of one outside
part_apart : (tree : Tree) (path : Path) → IsPath tree path → IsDistinct bytes_eq (leaf_names tree) → AreApart (leaf_names (node_at tree path)) (names_outside tree path)
unfolding IsPath node_at names_outside leaf_names
part_apart (Elem name vec weight) [] w d x e = refl
part_apart (Void name t) [] w d x e = refl
part_apart (Join name op left right) [] w d x e = refl
part_apart (Elem name vec weight) (step ∷ path) w d x e = absurd w
part_apart (Void name t) (step ∷ path) w d x e = absurd w
part_apart (Join name op left right) (true ∷ path) w d x e =
    let apart = distinct_apart (leaf_names left) (leaf_names right) d in
    one_of_append x (names_outside left path) (leaf_names right)
    ∙ ap₂ (λ (a b : Bool). a || b) (part_apart left path w (distinct_left (leaf_names left) (leaf_names right) d) x e) (apart x (part_named x left path e))
part_apart (Join name op left right) (false ∷ path) w d x e =
    let apart = apart_back (leaf_names left) (leaf_names right) (distinct_apart (leaf_names left) (leaf_names right) d) in
    one_of_append x (leaf_names left) (names_outside right path)
    ∙ ap₂ (λ (a b : Bool). a || b) (apart x (part_named x right path e)) (part_apart right path w (distinct_right (leaf_names left) (leaf_names right) d) x e)

none_taken : (names taken : List (List ℕ)) → AreApart names taken → first_taken taken names ≡ None
none_taken [] taken a = refl
none_taken (name ∷ names) taken a =
    ap (λ (b : Bool). if b then Some name else first_taken taken names) (a name (or_left (bytes_eq name name) (is_one_of name names) (bytes_same name)))
    ∙ none_taken names taken (λ x e. a x (or_right (bytes_eq x name) (is_one_of x names) e))

-- where an exchange is allowed, the boundaries are the same
same_boundary : (tree new : Tree) (path : Path) → replace_fault tree path new ≡ None → boundary (node_at tree path) ≡ boundary new
same_boundary tree new path e =
    by_cases (boundary (node_at tree path) == boundary new) (λ t. eqb-true (boundary (node_at tree path)) (boundary new) t)
    (λ n. no_fault (sym (fault_boundary tree new path (boundary (node_at tree path)) (boundary new) refl refl
    (λ same. both_ways (boundary (node_at tree path) == boundary new) n (eq-eqb (boundary (node_at tree path)) (boundary new) same))) ∙ e))
  where
    no_fault : {P : Type 0} {e : ReplaceFault} → Some e ≡ None → P
    no_fault e = cc

-- the old node may take its place again
pub back_fits : (f : Field) (tree new : Tree) (path : Path) → IsPath tree path → IsValidTree f tree → replace_fault tree path new ≡ None → replace_fault (with_node tree path new) path (node_at tree path) ≡ None
back_fits f tree new path w v e =
    let back = put_back tree new path w in
    fault_free (with_node tree path new) (node_at tree path) path (ap boundary (node_put tree new path w) ∙ sym (same_boundary tree new path e))
    (ap (λ names. first_taken names (leaf_names (node_at tree path))) (outside_kept tree new path w)
    ∙ none_taken (leaf_names (node_at tree path)) (names_outside tree path) (part_apart tree path w v.different))
    (subst (λ t. length (leaf_names t) ≤ most_leaves) (sym back) v.few)
    (subst (λ t. depth t ≤ most_depth) (sym back) v.shallow)

-- ---- by the number of the node

pub put_number : (k : ℕ) (tree new : Tree) → k < nodes tree → node_at (with_node tree (path_of k tree) new) (path_of k (with_node tree (path_of k tree) new)) ≡ new
put_number k tree new h =
    ap (node_at (with_node tree (path_of k tree) new)) (way_kept k tree new h).1 ∙ node_put tree new (path_of k tree) (path_is k tree)

pub back_number : (k : ℕ) (tree new : Tree) → k < nodes tree → with_node (with_node tree (path_of k tree) new) (path_of k (with_node tree (path_of k tree) new)) (node_at tree (path_of k tree)) ≡ tree
back_number k tree new h =
    ap (λ p. with_node (with_node tree (path_of k tree) new) p (node_at tree (path_of k tree))) (way_kept k tree new h).1 ∙ put_back tree new (path_of k tree) (path_is k tree)

pub fits_number : (f : Field) (k : ℕ) (tree new : Tree) → k < nodes tree → IsValidTree f tree → replace_fault tree (path_of k tree) new ≡ None
    → replace_fault (with_node tree (path_of k tree) new) (path_of k (with_node tree (path_of k tree) new)) (node_at tree (path_of k tree)) ≡ None
fits_number f k tree new h v e =
    ap (λ p. replace_fault (with_node tree (path_of k tree) new) p (node_at tree (path_of k tree))) (way_kept k tree new h).1 ∙ back_fits f tree new (path_of k tree) (path_is k tree) v e
