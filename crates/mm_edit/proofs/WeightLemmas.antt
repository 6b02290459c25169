-- Another weight of an element, and the weight before.
use Rattle.std.proofs.Common.{ℕ, ℤ, ◌≡◌, ◌≤◌, ◌||◌, ◌++◌, nat_abs, Bool, true, false, List, [], ◌∷◌, refl, sym, ap, ap₂, ◌∙◌, subst, Option, Some, None, if◌then◌else◌}
use Rattle.std.specs.List.{IsDistinct, All}
use Rattle.std.specs.Str.{bytes_eq}
use Rattle.std.proofs.lemmas.Bool.{both_ways, or_left, or_right, or_parts}
use Rattle.std.proofs.lemmas.List.Elements.{All-head}
use Rattle.mm_field.specs.declared.Field.{Field}
use Rattle.mm_logic.specs.Operator.{Op}
use Rattle.mm_logic.specs.Tree as shapes
use Rattle.mm_tree.specs.NamedTree.{Tree, shape, leaf_names, element_names, nodes, weights, is_one_of}
use Rattle.mm_tree.specs.NamedTree.Tree.{Elem, Void, Join}
use Rattle.mm_tree.specs.Paths.{Path, going, first_path, path_to, node_at, with_weight, with_first_weight}
use Rattle.mm_tree.specs.ValidTree.{IsValidTree, most_weight}
use Rattle.mm_tree.specs.Weights.{weight_named, first_weight}
use Rattle.mm_tree.proofs.NameLemmas.{one_of_append, distinct_left, distinct_right, distinct_apart}
use Rattle.mm_tree.proofs.TreeLemmas.{by_cases, element_is_leaf, weight_elsewhere, first_is_only, has_weight, all_left, all_right}
use Rattle.mm_nodes.specs.KeptTrees.{KeptTree, StandsFor, StandsBeside}
use Rattle.mm_nodes.specs.KeptTrees.KeptTree.{One, Two}

-- the way to a leaf is found where a leaf has the name
path_found : (name : List ℕ) (tree : Tree) (path : Path) → path_to name tree ≡ Some path → is_one_of name (leaf_names tree) ≡ true
unfolding path_to leaf_names
path_found name (Elem n vec weight) path e = by_cases (bytes_eq name n) (λ t. ap (λ (b : Bool). b || false) t) (λ t. no_path (sym (ap (λ (b : Bool). if b then Some [] else None) t) ∙ e))
  where
    no_path : {P : Type 0} {p : Path} → None ≡ Some p → P
    no_path e = cc
path_found name (Void n t) path e = by_cases (bytes_eq name n) (λ t. ap (λ (b : Bool). b || false) t) (λ t. no_path (sym (ap (λ (b : Bool). if b then Some [] else None) t) ∙ e))
  where
    no_path : {P : Type 0} {p : Path} → None ≡ Some p → P
    no_path e = cc
path_found name (Join n op left right) path e = by_ways (path_to name left) (path_to name right) (path_found name left) (path_found name right) e
  where
    by_ways : (a b : Option Path) → ((p : Path) → a ≡ Some p → is_one_of name (leaf_names left) ≡ true) → ((p : Path) → b ≡ Some p → is_one_of name (leaf_names right) ≡ true)
        → first_path (going true a) (going false b) ≡ Some path → is_one_of name (leaf_names left ++ leaf_names right) ≡ true
    by_ways (Some p) b f g e = one_of_append name (leaf_names left) (leaf_names right) ∙ or_left (is_one_of name (leaf_names left)) (is_one_of name (leaf_names right)) (f p refl)
    by_ways None (Some p) f g e = one_of_append name (leaf_names left) (leaf_names right) ∙ or_right (is_one_of name (leaf_names left)) (is_one_of name (leaf_names right)) (g p refl)
    by_ways None None f g e = cc

-- a leaf has the name where a way is found
path_missing : (name : List ℕ) (tree : Tree) → path_to name tree ≡ None → is_one_of name (leaf_names tree) ≡ false
unfolding path_to leaf_names
path_missing name (Elem n vec weight) e = by_cases (bytes_eq name n) (λ t. no_path (sym (ap (λ (b : Bool). if b then Some [] else None) t) ∙ e)) (λ t. ap (λ (b : Bool). b || false) t)
  where
    no_path : {P : Type 0} {p : Path} → Some p ≡ None → P
    no_path e = cc
path_missing name (Void n t) e = by_cases (bytes_eq name n) (λ t. no_path (sym (ap (λ (b : Bool). if b then Some [] else None) t) ∙ e)) (λ t. ap (λ (b : Bool). b || false) t)
  where
    no_path : {P : Type 0} {p : Path} → Some p ≡ None → P
    no_path e = cc
path_missing name (Join n op left right) e = by_ways (path_to name left) (path_to name right) (path_missing name left) (path_missing name right) e
  where
    by_ways : (a b : Option Path) → (a ≡ None → is_one_of name (leaf_names left) ≡ false) → (b ≡ None → is_one_of name (leaf_names right) ≡ false)
        → first_path (going true a) (going false b) ≡ None → is_one_of name (leaf_names left ++ leaf_names right) ≡ false
    by_ways None None f g e = one_of_append name (leaf_names left) (leaf_names right) ∙ ap₂ (λ (x y : Bool). x || y) (f refl) (g refl)
    by_ways (Some p) b f g e = cc
    by_ways None (Some p) f g e = cc

-- the way to an element
pub path_there : (name : List ℕ) (tree : Tree) → is_one_of name (element_names tree) ≡ true → (path : Path) × (path_to name tree ≡ Some path)
path_there name tree e = by_way (path_to name tree) refl
  where
    by_way : (o : Option Path) → path_to name tree ≡ o → (path : Path) × (path_to name tree ≡ Some path)
    by_way (Some path) p = (path, p)
    by_way None p = absurd (both_ways (is_one_of name (leaf_names tree)) (path_missing name tree p) (element_is_leaf name tree e))

-- ---- the ways of a join

way_left : (a b : Option Path) (path : Path) → first_path (going true a) (going false b) ≡ Some (true ∷ path) → a ≡ Some path
way_left (Some p) b path e = cc
way_left None (Some p) path e = cc
way_left None None path e = cc

way_right : (a b : Option Path) (path : Path) → first_path (going true a) (going false b) ≡ Some (false ∷ path) → (a ≡ None) × (b ≡ Some path)
way_right (Some p) b path e = cc
way_right None (Some p) path e = (refl, cc)
way_right None None path e = cc

no_root_way : {P : Type 0} (a b : Option Path) → first_path (going true a) (going false b) ≡ Some [] → P
no_root_way (Some p) b e = cc
no_root_way None (Some p) e = cc
no_root_way None None e = cc

no_way_on : {P : Type 0} (b : Bool) (step : Bool) (path : Path) → (if b then Some [] else None) ≡ Some (step ∷ path) → P
no_way_on true step path e = cc
no_way_on false step path e = cc

-- no element has the name where no leaf has it
no_element : (name : List ℕ) (tree : Tree) → is_one_of name (leaf_names tree) ≡ false → is_one_of name (element_names tree) ≡ false
no_element name tree e = by_cases (is_one_of name (element_names tree)) (λ t. absurd (both_ways (is_one_of name (leaf_names tree)) e (element_is_leaf name tree t))) (λ f. f)

-- the node at the end of the way to a leaf
pub one_node : (name : List ℕ) (tree : Tree) (path : Path) → path_to name tree ≡ Some path → nodes (node_at tree path) ≡ 1
unfolding path_to node_at nodes
one_node name (Elem n vec weight) [] e = refl
one_node name (Void n t) [] e = refl
one_node name (Join n op left right) [] e = no_root_way (path_to name left) (path_to name right) e
one_node name (Elem n vec weight) (step ∷ path) e = no_way_on (bytes_eq name n) step path e
one_node name (Void n t) (step ∷ path) e = no_way_on (bytes_eq name n) step path e
one_node name (Join n op left right) (true ∷ path) e = one_node name left path (way_left (path_to name left) (path_to name right) path e)
one_node name (Join n op left right) (false ∷ path) e = one_node name right path (way_right (path_to name left) (path_to name right) path e).1

-- ---- what another weight leaves

either_leaf : {X : Type 0} (b : Bool) (n vec : List ℕ) (weight old : ℤ) (g : Tree → X) → g (Elem n vec weight) ≡ g (Elem n vec old) → g (if b then Elem n vec weight else Elem n vec old) ≡ g (Elem n vec old)
either_leaf true n vec weight old g e = e
either_leaf false n vec weight old g e = refl

pub shape_stays : (name : List ℕ) (weight : ℤ) (tree : Tree) → shape (with_weight name weight tree) ≡ shape tree
unfolding shape with_weight
shape_stays name weight (Elem n vec old) = either_leaf (bytes_eq name n) n vec weight old shape refl
shape_stays name weight (Void n t) = refl
shape_stays name weight (Join n op left right) = ap₂ (λ (a b : shapes.Tree). shapes.Tree.Join op a b) (shape_stays name weight left) (shape_stays name weight right)

pub ways_stay : (name : List ℕ) (weight : ℤ) (tree : Tree) → path_to name (with_weight name weight tree) ≡ path_to name tree
unfolding path_to with_weight
ways_stay name weight (Elem n vec old) = either_leaf (bytes_eq name n) n vec weight old (path_to name) refl
ways_stay name weight (Void n t) = refl
ways_stay name weight (Join n op left right) = ap₂ (λ (a b : Option Path). first_path (going true a) (going false b)) (ways_stay name weight left) (ways_stay name weight right)

-- the last weight counts
twice : (name : List ℕ) (first second : ℤ) (tree : Tree) → with_weight name second (with_weight name first tree) ≡ with_weight name second tree
unfolding with_weight
twice name first second (Elem n vec old) = by_cases (bytes_eq name n)
    (λ t. ap (with_weight name second) (ap (λ (b : Bool). if b then Elem n vec first else Elem n vec old) t) ∙ ap (λ (b : Bool). if b then Elem n vec second else Elem n vec first) t
    ∙ sym (ap (λ (b : Bool). if b then Elem n vec second else Elem n vec old) t))
    (λ f. ap (with_weight name second) (ap (λ (b : Bool). if b then Elem n vec first else Elem n vec old) f))
twice name first second (Void n t) = refl
twice name first second (Join n op left right) = ap₂ (λ (a b : Tree). Join n op a b) (twice name first second left) (twice name first second right)

lacks_weight : (name : List ℕ) (tree : Tree) → is_one_of name (element_names tree) ≡ false → weight_named name tree ≡ None
unfolding weight_named element_names
lacks_weight name (Elem n vec weight) e = ap (λ (b : Bool). if b then Some weight else None) (or_parts (bytes_eq name n) false e).0
lacks_weight name (Void n t) e = refl
lacks_weight name (Join n op left right) e =
    let p = or_parts (is_one_of name (element_names left)) (is_one_of name (element_names right)) (sym (one_of_append name (element_names left) (element_names right)) ∙ e) in
    ap₂ first_weight (lacks_weight name left p.0) (lacks_weight name right p.1)

-- its own weight
own_weight : (name : List ℕ) (weight : ℤ) (tree : Tree) → weight_named name tree ≡ Some weight → with_first_weight name weight tree ≡ tree
unfolding weight_named with_first_weight
own_weight name weight (Elem n vec old) e = by_test (bytes_eq name n) e
  where
    by_test : (b : Bool) → (if b then Some old else None) ≡ Some weight → (if b then Elem n vec weight else Elem n vec old) ≡ Elem n vec old
    by_test true e = let same : old ≡ weight = cc in ap (λ w. Elem n vec w) (sym same)
    by_test false e = cc
own_weight name weight (Void n t) e = refl
own_weight name weight (Join n op left right) e = by_cases (is_one_of name (element_names left))
    (λ t. let there = has_weight name left t in
    let same = some_is there.0 weight (sym (ap (λ o. first_weight o (weight_named name right)) there.1) ∙ e) in
    ap (λ (b : Bool). if b then Join n op (with_first_weight name weight left) right else Join n op left (with_first_weight name weight right)) t
    ∙ ap (λ a. Join n op a right) (own_weight name weight left (there.1 ∙ ap (λ w. Some w) same)))
    (λ f. ap (λ (b : Bool). if b then Join n op (with_first_weight name weight left) right else Join n op left (with_first_weight name weight right)) f
    ∙ ap (λ a. Join n op left a) (own_weight name weight right (sym (ap (λ o. first_weight o (weight_named name right)) (lacks_weight name left f)) ∙ e)))
  where
    some_is : (a b : ℤ) → Some a ≡ Some b → a ≡ b
    some_is a b e = cc

-- the weight before, put back
pub weight_back : (f : Field) (name : List ℕ) (weight before : ℤ) (tree : Tree) → IsValidTree f tree → weight_named name tree ≡ Some before → with_weight name before (with_weight name weight tree) ≡ tree
weight_back f name weight before tree v e = twice name weight before tree ∙ sym (first_is_only name before tree v.different) ∙ own_weight name before tree e

-- the weight before is within the limit
pub light_before : (name : List ℕ) (before : ℤ) (tree : Tree) → weight_named name tree ≡ Some before → All (λ w. nat_abs w ≤ most_weight) (weights tree) → nat_abs before ≤ most_weight
unfolding weight_named weights
light_before name before (Elem n vec weight) e h = by_test (bytes_eq name n) e
  where
    by_test : (b : Bool) → (if b then Some weight else None) ≡ Some before → nat_abs before ≤ most_weight
    by_test true e = let same : weight ≡ before = cc in subst (λ w. nat_abs w ≤ most_weight) same (All-head (λ w. nat_abs w ≤ most_weight) weight [] h)
    by_test false e = cc
light_before name before (Void n t) e h = cc
light_before name before (Join n op left right) e h =
    by_weight (weight_named name left) (weight_named name right) (λ p. light_before name before left p (all_left (λ w. nat_abs w ≤ most_weight) (weights left) (weights right) h))
    (λ p. light_before name before right p (all_right (λ w. nat_abs w ≤ most_weight) (weights left) (weights right) h)) e
  where
    by_weight : (a b : Option ℤ) → (a ≡ Some before → nat_abs before ≤ most_weight) → (b ≡ Some before → nat_abs before ≤ most_weight) → first_weight a b ≡ Some before → nat_abs before ≤ most_weight
    by_weight (Some w) b f g e = f e
    by_weight None b f g e = g e

-- ---- what is kept beside a leaf whose element has another weight

module _ {N : Type 0} (IsLeaf : Tree → N → Type 0) (IsJoin : Op → N → N → N → Type 0) where
  pub reweighted_beside : (name : List ℕ) (weight : ℤ) (tree : Tree) (path : Path) (R : KeptTree N) → IsDistinct bytes_eq (leaf_names tree) → path_to name tree ≡ Some path
      → StandsFor IsLeaf IsJoin tree R → StandsBeside IsLeaf IsJoin path (with_weight name weight tree) R
  unfolding path_to leaf_names with_weight
  reweighted_beside name weight (Elem n vec old) [] R d e s = tt
  reweighted_beside name weight (Void n t) [] R d e s = tt
  reweighted_beside name weight (Join n op left right) [] R d e s = tt
  reweighted_beside name weight (Elem n vec old) (step ∷ path) R d e s = no_way_on (bytes_eq name n) step path e
  reweighted_beside name weight (Void n t) (step ∷ path) R d e s = no_way_on (bytes_eq name n) step path e
  reweighted_beside name weight (Join n op left right) (true ∷ path) (Two m a b) d e s =
      let there = way_left (path_to name left) (path_to name right) path e in
      let elsewhere = no_element name right (distinct_apart (leaf_names left) (leaf_names right) d name (path_found name left path there)) in (
        s.0,
        reweighted_beside name weight left path a (distinct_left (leaf_names left) (leaf_names right) d) there s.1,
        subst (λ t. StandsFor IsLeaf IsJoin t b) (sym (weight_elsewhere name weight right elsewhere)) s.2,
      )
  reweighted_beside name weight (Join n op left right) (false ∷ path) (Two m a b) d e s =
      let there = way_right (path_to name left) (path_to name right) path e in
      let elsewhere = no_element name left (path_missing name left there.0) in (
        s.0,
        subst (λ t. StandsFor IsLeaf IsJoin t a) (sym (weight_elsewhere name weight left elsewhere)) s.1,
        reweighted_beside name weight right path b (distinct_right (leaf_names left) (leaf_names right) d) there.1 s.2,
      )
  reweighted_beside name weight (Join n op left right) (true ∷ path) (One m) d e s = absurd s
  reweighted_beside name weight (Join n op left right) (false ∷ path) (One m) d e s = absurd s
