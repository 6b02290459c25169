-- Valid trees stay valid under edits.
use Rattle.std.proofs.Common.{ℕ, ℤ, ◌≡◌, ◌≤◌, ◌+◌, ◌*◌, ◌==◌, ◌||◌, ◌++◌, not, nat_le, nat_abs, max, Bool, true, false, List, [], ◌∷◌, length, refl, sym, ap, ap₂, ◌∙◌, subst, Option, Some, None, if◌then◌else◌, arith}
use Rattle.std.specs.List.{All, IsDistinct}
use Rattle.std.specs.Str.{bytes_eq}
use Rattle.mm_base.specs.Names.{is_name}
use Rattle.mm_base.proofs.NameLemmas.{same_bytes}
use Rattle.std.proofs.lemmas.Bool.{leb-true, eqb-true, both_ways, or_parts, true_from_ne_false}
use Rattle.std.proofs.lemmas.List.{length-append}
use Rattle.std.proofs.lemmas.List.Elements.{All-append, All-cons, All-nil, All-head, All-tail}
use Rattle.mm_field.specs.declared.Field.{Field}
use Rattle.mm_logic.specs.Operator.{Op}
use Rattle.mm_logic.specs.Tree as shapes
use Rattle.mm_logic.specs.Tree.{IsValid}
use Rattle.mm_tree.specs.NamedTree.{Tree, shape, boundary, node_names, leaf_names, element_names, weights, depth, nodes, is_one_of}
use Rattle.mm_tree.specs.NamedTree.Tree.{Elem, Void, Join}
use Rattle.mm_tree.specs.Replacing.{first_taken, name_fault, replace_fault}
use Rattle.mm_tree.specs.ValidTree.{IsValidTree, AreNames, most_leaves, most_depth, most_weight}
use Rattle.mm_tree.specs.Paths.{Path, node_at, with_node, names_outside, with_weight, with_first_weight}
use Rattle.mm_tree.specs.declared.replace.ReplaceFault.TheVariants.{Boundary, TooManyLeaves, TooDeep}
use Rattle.mm_tree.specs.Nodes.{named, field_of, IsOver}
use Rattle.mm_tree.specs.TreeView.{Stands}
use Rattle.mm_tree.specs.Weights.{weight_named, first_weight}
use Rattle.mm_tree.specs.declared.node.Node.{Node}
use Rattle.mm_tree.specs.declared.node.Node as nodes_of
use Rattle.mm_tree.proofs.NameLemmas.{AreApart, one_of_append, distinct_left, distinct_right, distinct_apart, distinct_append}

-- ---- sizes

pub nodes_of_leaves : (tree : Tree) → nodes tree + 1 ≡ 2 * length (leaf_names tree)
unfolding nodes leaf_names
nodes_of_leaves (Elem n vec weight) = refl
nodes_of_leaves (Void n t) = refl
nodes_of_leaves (Join n op left right) =
    let a = nodes_of_leaves left in
    let b = nodes_of_leaves right in
    let c = length-append (leaf_names left) (leaf_names right) in
    omega arith

pub few_nodes : (f : Field) (tree : Tree) → IsValidTree f tree → nodes tree ≤ 16383
few_nodes f tree v =
    let a = nodes_of_leaves tree in
    let b = v.few in
    omega arith

-- ---- weights

-- a name of no leaf is one of no element, and an element is a leaf
no_element_elsewhere : (name : List ℕ) (tree : Tree) → is_one_of name (leaf_names tree) ≡ false → is_one_of name (element_names tree) ≡ false
unfolding leaf_names element_names
no_element_elsewhere name (Elem n vec weight) e = e
no_element_elsewhere name (Void n t) e = refl
no_element_elsewhere name (Join n op left right) e =
    let p = or_parts (is_one_of name (leaf_names left)) (is_one_of name (leaf_names right)) (sym (one_of_append name (leaf_names left) (leaf_names right)) ∙ e) in
    one_of_append name (element_names left) (element_names right)
    ∙ ap₂ (λ (a b : Bool). a || b) (no_element_elsewhere name left p.0) (no_element_elsewhere name right p.1)

pub element_is_leaf : (name : List ℕ) (tree : Tree) → is_one_of name (element_names tree) ≡ true → is_one_of name (leaf_names tree) ≡ true
element_is_leaf name tree e =
    true_from_ne_false (is_one_of name (leaf_names tree)) (λ f. both_ways (is_one_of name (element_names tree)) (no_element_elsewhere name tree f) e)

pub weight_elsewhere : (name : List ℕ) (weight : ℤ) (tree : Tree) → is_one_of name (element_names tree) ≡ false → with_weight name weight tree ≡ tree
unfolding element_names with_weight
weight_elsewhere name weight (Elem n vec old) e =
    ap (λ (b : Bool). if b then Elem n vec weight else Elem n vec old) (or_parts (bytes_eq name n) false e).0
weight_elsewhere name weight (Void n t) e = refl
weight_elsewhere name weight (Join n op left right) e =
    let p = or_parts (is_one_of name (element_names left)) (is_one_of name (element_names right))
    (sym (one_of_append name (element_names left) (element_names right)) ∙ e) in
    ap₂ (λ (a b : Tree). Join n op a b) (weight_elsewhere name weight left p.0) (weight_elsewhere name weight right p.1)

-- where names differ, the first element of a name is the only one
pub first_is_only : (name : List ℕ) (weight : ℤ) (tree : Tree) → IsDistinct bytes_eq (leaf_names tree) →
    with_first_weight name weight tree ≡ with_weight name weight tree
unfolding leaf_names with_weight with_first_weight
first_is_only name weight (Elem n vec old) d = refl
first_is_only name weight (Void n t) d = refl
first_is_only name weight (Join n op left right) d =
    go (is_one_of name (element_names left)) refl (first_is_only name weight left (distinct_left (leaf_names left) (leaf_names right) d))
    (first_is_only name weight right (distinct_right (leaf_names left) (leaf_names right) d))
  where
    go : (b : Bool) → is_one_of name (element_names left) ≡ b → with_first_weight name weight left ≡ with_weight name weight left →
        with_first_weight name weight right ≡ with_weight name weight right →
        (if is_one_of name (element_names left) then Join n op (with_first_weight name weight left) right
        else Join n op left (with_first_weight name weight right)) ≡ Join n op (with_weight name weight left) (with_weight name weight right)
    go true e p q =
        let apart = distinct_apart (leaf_names left) (leaf_names right) d name (element_is_leaf name left e) in
        ap (λ (b : Bool). if b then Join n op (with_first_weight name weight left) right else Join n op left (with_first_weight name weight right)) e
        ∙ ap₂ (λ (a b : Tree). Join n op a b) p (sym (weight_elsewhere name weight right (no_element_elsewhere name right apart)))
    go false e p q =
        ap (λ (b : Bool). if b then Join n op (with_first_weight name weight left) right else Join n op left (with_first_weight name weight right)) e
        ∙ ap₂ (λ (a b : Tree). Join n op a b) (sym (weight_elsewhere name weight left e)) q

same_leaf : (b : Bool) (n vec : List ℕ) (weight old : ℤ) {X : Type 0} (g : Tree → X) → g (Elem n vec weight) ≡ g (Elem n vec old) →
    g (if b then Elem n vec weight else Elem n vec old) ≡ g (Elem n vec old)
same_leaf true n vec weight old g e = e
same_leaf false n vec weight old g e = refl

weight_shape : (name : List ℕ) (weight : ℤ) (tree : Tree) → shape (with_weight name weight tree) ≡ shape tree
unfolding shape with_weight
weight_shape name weight (Elem n vec old) = same_leaf (bytes_eq name n) n vec weight old shape refl
weight_shape name weight (Void n t) = refl
weight_shape name weight (Join n op left right) =
    ap₂ (λ (a b : shapes.Tree). shapes.Tree.Join op a b) (weight_shape name weight left) (weight_shape name weight right)

weight_names : (name : List ℕ) (weight : ℤ) (tree : Tree) → leaf_names (with_weight name weight tree) ≡ leaf_names tree
unfolding leaf_names with_weight
weight_names name weight (Elem n vec old) = same_leaf (bytes_eq name n) n vec weight old leaf_names refl
weight_names name weight (Void n t) = refl
weight_names name weight (Join n op left right) =
    ap₂ (λ (a b : List (List ℕ)). a ++ b) (weight_names name weight left) (weight_names name weight right)

weight_node_names : (name : List ℕ) (weight : ℤ) (tree : Tree) → node_names (with_weight name weight tree) ≡ node_names tree
unfolding node_names with_weight
weight_node_names name weight (Elem n vec old) = same_leaf (bytes_eq name n) n vec weight old node_names refl
weight_node_names name weight (Void n t) = refl
weight_node_names name weight (Join n op left right) =
    ap₂ (λ (a b : List (List ℕ)). n ∷ (a ++ b)) (weight_node_names name weight left) (weight_node_names name weight right)

weight_depth : (name : List ℕ) (weight : ℤ) (tree : Tree) → depth (with_weight name weight tree) ≡ depth tree
unfolding depth with_weight
weight_depth name weight (Elem n vec old) = same_leaf (bytes_eq name n) n vec weight old depth refl
weight_depth name weight (Void n t) = refl
weight_depth name weight (Join n op left right) =
    ap₂ (λ (a b : ℕ). max a b + 1) (weight_depth name weight left) (weight_depth name weight right)

abbrev Light : List ℤ → Type 0
Light ws = All (λ w. nat_abs w ≤ most_weight) ws

pub all_left : {A : Type 0} (P : A → Type 0) (xs ys : List A) → All P (xs ++ ys) → All P xs
all_left P [] ys h = All-nil P
all_left P (x ∷ xs) ys h = All-cons P x xs (All-head P x (xs ++ ys) h) (all_left P xs ys (All-tail P x (xs ++ ys) h))

pub all_right : {A : Type 0} (P : A → Type 0) (xs ys : List A) → All P (xs ++ ys) → All P ys
all_right P [] ys h = h
all_right P (x ∷ xs) ys h = all_right P xs ys (All-tail P x (xs ++ ys) h)

light_left : (xs ys : List ℤ) → Light (xs ++ ys) → Light xs
light_left xs ys h = all_left (λ w. nat_abs w ≤ most_weight) xs ys h

light_right : (xs ys : List ℤ) → Light (xs ++ ys) → Light ys
light_right xs ys h = all_right (λ w. nat_abs w ≤ most_weight) xs ys h

abbrev IsName : List ℕ → Type 0
IsName name = is_name name ≡ true

-- the name of a join, and those below it
pub names_join : (n : List ℕ) (op : Op) (left right : Tree) → AreNames (node_names (Join n op left right)) →
    (is_name n ≡ true) × AreNames (node_names left) × AreNames (node_names right)
unfolding node_names
names_join n op left right h =
    let below = All-tail IsName n (node_names left ++ node_names right) h in (
      All-head IsName n (node_names left ++ node_names right) h,
      all_left IsName (node_names left) (node_names right) below,
      all_right IsName (node_names left) (node_names right) below,
    )

pub join_names : (n : List ℕ) (op : Op) (left right : Tree) → is_name n ≡ true → AreNames (node_names left) → AreNames (node_names right) →
    AreNames (node_names (Join n op left right))
unfolding node_names
join_names n op left right e l r =
    All-cons IsName n (node_names left ++ node_names right) e (All-append IsName (node_names left) (node_names right) l r)

weight_light : (name : List ℕ) (weight : ℤ) (tree : Tree) → nat_abs weight ≤ most_weight → Light (weights tree) → Light (weights (with_weight name weight tree))
unfolding weights with_weight
weight_light name weight (Elem n vec old) l h = go (bytes_eq name n)
  where
    go : (b : Bool) → Light (weights (if b then Elem n vec weight else Elem n vec old))
    go true = All-cons (λ w. nat_abs w ≤ most_weight) weight [] l (All-nil (λ w. nat_abs w ≤ most_weight))
    go false = h
weight_light name weight (Void n t) l h = h
weight_light name weight (Join n op left right) l h =
    All-append (λ w. nat_abs w ≤ most_weight) (weights (with_weight name weight left)) (weights (with_weight name weight right))
    (weight_light name weight left l (light_left (weights left) (weights right) h))
    (weight_light name weight right l (light_right (weights left) (weights right) h))

pub valid_weight : (f : Field) (name : List ℕ) (weight : ℤ) (tree : Tree) → nat_abs weight ≤ most_weight → IsValidTree f tree →
    IsValidTree f (with_weight name weight tree)
valid_weight f name weight tree l v = record {
  valid_shape = subst (λ (s : shapes.Tree). IsValid f s) (sym (weight_shape name weight tree)) v.valid_shape;
  formed = subst (λ (ns : List (List ℕ)). AreNames ns) (sym (weight_node_names name weight tree)) v.formed;
  different = subst (λ (ns : List (List ℕ)). IsDistinct bytes_eq ns) (sym (weight_names name weight tree)) v.different;
  few = subst (λ (ns : List (List ℕ)). length ns ≤ most_leaves) (sym (weight_names name weight tree)) v.few;
  shallow = subst (λ (k : ℕ). k ≤ most_depth) (sym (weight_depth name weight tree)) v.shallow;
  light = weight_light name weight tree l v.light;
}

-- ---- a part of a tree

pub valid_left : (f : Field) (n : List ℕ) (op : Op) (left right : Tree) → IsValidTree f (Join n op left right) → IsValidTree f left
unfolding shape leaf_names depth weights
valid_left f n op left right v =
    let a = length-append (leaf_names left) (leaf_names right) in
    let b = v.few in
    let c = v.shallow in
    record {
      valid_shape = v.valid_shape.3;
      formed = (names_join n op left right v.formed).1;
      different = distinct_left (leaf_names left) (leaf_names right) v.different;
      few = omega arith;
      shallow = grind arith;
      light = light_left (weights left) (weights right) v.light;
    }

pub valid_right : (f : Field) (n : List ℕ) (op : Op) (left right : Tree) → IsValidTree f (Join n op left right) → IsValidTree f right
unfolding shape leaf_names depth weights
valid_right f n op left right v =
    let a = length-append (leaf_names left) (leaf_names right) in
    let b = v.few in
    let c = v.shallow in
    record {
      valid_shape = v.valid_shape.4;
      formed = (names_join n op left right v.formed).2;
      different = distinct_right (leaf_names left) (leaf_names right) v.different;
      few = omega arith;
      shallow = grind arith;
      light = light_right (weights left) (weights right) v.light;
    }

pub valid_part : (f : Field) (tree : Tree) (path : Path) → IsValidTree f tree → IsValidTree f (node_at tree path)
unfolding node_at
valid_part f (Elem n vec weight) [] v = v
valid_part f (Void n t) [] v = v
valid_part f (Join n op left right) [] v = v
valid_part f (Elem n vec weight) (step ∷ path) v = v
valid_part f (Void n t) (step ∷ path) v = v
valid_part f (Join n op left right) (true ∷ path) v = valid_part f left path (valid_left f n op left right v)
valid_part f (Join n op left right) (false ∷ path) v = valid_part f right path (valid_right f n op left right v)

-- ---- an exchange

pub shape_boundary : (tree : Tree) → shapes.boundary (shape tree) ≡ boundary tree
unfolding shape boundary
shape_boundary (Elem n vec weight) = refl
shape_boundary (Void n t) = refl
shape_boundary (Join n op left right) = refl

exchange_boundary : (tree new : Tree) (path : Path) → boundary (node_at tree path) ≡ boundary new → boundary (with_node tree path new) ≡ boundary tree
unfolding node_at with_node boundary
exchange_boundary (Elem n vec weight) new [] e = sym e
exchange_boundary (Void n t) new [] e = sym e
exchange_boundary (Join n op left right) new [] e = sym e
exchange_boundary (Elem n vec weight) new (step ∷ path) e = refl
exchange_boundary (Void n t) new (step ∷ path) e = refl
exchange_boundary (Join n op left right) new (true ∷ path) e = refl
exchange_boundary (Join n op left right) new (false ∷ path) e = refl

shape_exchange : (f : Field) (tree new : Tree) (path : Path) → IsValid f (shape tree) → IsValid f (shape new) →
    boundary (node_at tree path) ≡ boundary new → IsValid f (shape (with_node tree path new))
unfolding node_at with_node shape
shape_exchange f (Elem n vec weight) new [] v w e = w
shape_exchange f (Void n t) new [] v w e = w
shape_exchange f (Join n op left right) new [] v w e = w
shape_exchange f (Elem n vec weight) new (step ∷ path) v w e = v
shape_exchange f (Void n t) new (step ∷ path) v w e = v
shape_exchange f (Join n op left right) new (true ∷ path) v w e = (
  v.0,
  shape_boundary (with_node left path new) ∙ exchange_boundary left new path e ∙ sym (shape_boundary left) ∙ v.1,
  v.2,
  shape_exchange f left new path v.3 w e,
  v.4,
)
shape_exchange f (Join n op left right) new (false ∷ path) v w e = (
  v.0,
  v.1,
  shape_boundary (with_node right path new) ∙ exchange_boundary right new path e ∙ sym (shape_boundary right) ∙ v.2,
  v.3,
  shape_exchange f right new path v.4 w e,
)

formed_exchange : (tree new : Tree) (path : Path) → AreNames (node_names tree) → AreNames (node_names new) → AreNames (node_names (with_node tree path new))
unfolding with_node
formed_exchange (Elem n vec weight) new [] v w = w
formed_exchange (Void n t) new [] v w = w
formed_exchange (Join n op left right) new [] v w = w
formed_exchange (Elem n vec weight) new (step ∷ path) v w = v
formed_exchange (Void n t) new (step ∷ path) v w = v
formed_exchange (Join n op left right) new (true ∷ path) v w =
    let h = names_join n op left right v in join_names n op (with_node left path new) right h.0 (formed_exchange left new path h.1 w) h.2
formed_exchange (Join n op left right) new (false ∷ path) v w =
    let h = names_join n op left right v in join_names n op left (with_node right path new) h.0 h.1 (formed_exchange right new path h.2 w)

light_exchange : (tree new : Tree) (path : Path) → Light (weights tree) → Light (weights new) → Light (weights (with_node tree path new))
unfolding with_node weights
light_exchange (Elem n vec weight) new [] v w = w
light_exchange (Void n t) new [] v w = w
light_exchange (Join n op left right) new [] v w = w
light_exchange (Elem n vec weight) new (step ∷ path) v w = v
light_exchange (Void n t) new (step ∷ path) v w = v
light_exchange (Join n op left right) new (true ∷ path) v w =
    All-append (λ w. nat_abs w ≤ most_weight) (weights (with_node left path new)) (weights right)
    (light_exchange left new path (light_left (weights left) (weights right) v) w) (light_right (weights left) (weights right) v)
light_exchange (Join n op left right) new (false ∷ path) v w =
    All-append (λ w. nat_abs w ≤ most_weight) (weights left) (weights (with_node right path new))
    (light_left (weights left) (weights right) v) (light_exchange right new path (light_right (weights left) (weights right) v) w)

pub outside_is_inside : (x : List ℕ) (tree : Tree) (path : Path) → is_one_of x (leaf_names tree) ≡ false → is_one_of x (names_outside tree path) ≡ false
unfolding names_outside leaf_names
outside_is_inside x (Elem n vec weight) [] e = refl
outside_is_inside x (Void n t) [] e = refl
outside_is_inside x (Join n op left right) [] e = refl
outside_is_inside x (Elem n vec weight) (step ∷ path) e = e
outside_is_inside x (Void n t) (step ∷ path) e = e
outside_is_inside x (Join n op left right) (true ∷ path) e =
    let p = or_parts (is_one_of x (leaf_names left)) (is_one_of x (leaf_names right)) (sym (one_of_append x (leaf_names left) (leaf_names right)) ∙ e) in
    one_of_append x (names_outside left path) (leaf_names right) ∙ ap₂ (λ (a b : Bool). a || b) (outside_is_inside x left path p.0) p.1
outside_is_inside x (Join n op left right) (false ∷ path) e =
    let p = or_parts (is_one_of x (leaf_names left)) (is_one_of x (leaf_names right)) (sym (one_of_append x (leaf_names left) (leaf_names right)) ∙ e) in
    one_of_append x (leaf_names left) (names_outside right path) ∙ ap₂ (λ (a b : Bool). a || b) p.0 (outside_is_inside x right path p.1)

-- a name of the tree after an exchange is one of the new tree or one outside the node
absent_after : (x : List ℕ) (tree new : Tree) (path : Path) → is_one_of x (leaf_names new) ≡ false → is_one_of x (names_outside tree path) ≡ false →
    is_one_of x (leaf_names (with_node tree path new)) ≡ false
unfolding names_outside leaf_names with_node
absent_after x (Elem n vec weight) new [] a e = a
absent_after x (Void n t) new [] a e = a
absent_after x (Join n op left right) new [] a e = a
absent_after x (Elem n vec weight) new (step ∷ path) a e = e
absent_after x (Void n t) new (step ∷ path) a e = e
absent_after x (Join n op left right) new (true ∷ path) a e =
    let p = or_parts (is_one_of x (names_outside left path)) (is_one_of x (leaf_names right)) (sym (one_of_append x (names_outside left path) (leaf_names right)) ∙ e) in
    one_of_append x (leaf_names (with_node left path new)) (leaf_names right)
    ∙ ap₂ (λ (a b : Bool). a || b) (absent_after x left new path a p.0) p.1
absent_after x (Join n op left right) new (false ∷ path) a e =
    let p = or_parts (is_one_of x (leaf_names left)) (is_one_of x (names_outside right path)) (sym (one_of_append x (leaf_names left) (names_outside right path)) ∙ e) in
    one_of_append x (leaf_names left) (leaf_names (with_node right path new))
    ∙ ap₂ (λ (a b : Bool). a || b) p.0 (absent_after x right new path a p.1)

pub by_cases : {P : Type 0} (b : Bool) → (b ≡ true → P) → (b ≡ false → P) → P
by_cases true f g = f refl
by_cases false f g = g refl

pub apart_back : (xs ys : List (List ℕ)) → AreApart xs ys → AreApart ys xs
apart_back xs ys a x e = by_cases (is_one_of x xs) (λ t. absurd (both_ways (is_one_of x ys) (a x t) e)) (λ q. q)

names_exchange : (tree new : Tree) (path : Path) → IsDistinct bytes_eq (leaf_names tree) → IsDistinct bytes_eq (leaf_names new) →
    AreApart (leaf_names new) (names_outside tree path) → IsDistinct bytes_eq (leaf_names (with_node tree path new))
unfolding names_outside leaf_names with_node
names_exchange (Elem n vec weight) new [] d e a = e
names_exchange (Void n t) new [] d e a = e
names_exchange (Join n op left right) new [] d e a = e
names_exchange (Elem n vec weight) new (step ∷ path) d e a = d
names_exchange (Void n t) new (step ∷ path) d e a = d
names_exchange (Join n op left right) new (true ∷ path) d e a =
    let p = λ (x : List ℕ) (q : is_one_of x (leaf_names new) ≡ true).
    or_parts (is_one_of x (names_outside left path)) (is_one_of x (leaf_names right)) (sym (one_of_append x (names_outside left path) (leaf_names right)) ∙ a x q) in
    let back = apart_back (leaf_names left) (leaf_names right) (distinct_apart (leaf_names left) (leaf_names right) d) in
    distinct_append (leaf_names (with_node left path new)) (leaf_names right)
    (names_exchange left new path (distinct_left (leaf_names left) (leaf_names right) d) e (λ x q. (p x q).0))
    (distinct_right (leaf_names left) (leaf_names right) d)
    (apart_back (leaf_names right) (leaf_names (with_node left path new))
    (λ x q. absent_after x left new path (by_cases (is_one_of x (leaf_names new)) (λ t. absurd (both_ways (is_one_of x (leaf_names right)) (p x t).1 q)) (λ t. t))
    (outside_is_inside x left path (back x q))))
names_exchange (Join n op left right) new (false ∷ path) d e a =
    let p = λ (x : List ℕ) (q : is_one_of x (leaf_names new) ≡ true).
    or_parts (is_one_of x (leaf_names left)) (is_one_of x (names_outside right path)) (sym (one_of_append x (leaf_names left) (names_outside right path)) ∙ a x q) in
    let apart = distinct_apart (leaf_names left) (leaf_names right) d in
    distinct_append (leaf_names left) (leaf_names (with_node right path new))
    (distinct_left (leaf_names left) (leaf_names right) d)
    (names_exchange right new path (distinct_right (leaf_names left) (leaf_names right) d) e (λ x q. (p x q).1))
    (λ x q. absent_after x right new path (by_cases (is_one_of x (leaf_names new)) (λ t. absurd (both_ways (is_one_of x (leaf_names left)) (p x t).0 q)) (λ t. t))
    (outside_is_inside x right path (apart x q)))

none_taken : (taken names : List (List ℕ)) → first_taken taken names ≡ None → AreApart names taken
none_taken taken [] e x q = cc
none_taken taken (n ∷ names) e x q =
    by_cases (is_one_of n taken)
    (λ t. no_some n (sym (ap (λ (b : Bool). if b then Some n else first_taken taken names) t) ∙ e))
    (λ t. by_cases (bytes_eq x n)
    (λ s. subst (λ (z : List ℕ). is_one_of z taken ≡ false) (sym (same_bytes x n s)) t)
    (λ s. none_taken taken names (sym (ap (λ (b : Bool). if b then Some n else first_taken taken names) t) ∙ e) x
    (sym (ap (λ (b : Bool). b || is_one_of x names) s) ∙ q)))
  where
    no_some : {P : Type 0} (n : List ℕ) → Some n ≡ None → P
    no_some n e = cc

fault_parts : (same few shallow : Bool) (taken : Option (List ℕ)) (a b : ℕ) →
    (if not same then Some (Boundary a b) else
    name_fault taken (if not few then Some TooManyLeaves else (if not shallow then Some TooDeep else None))) ≡ None →
    (same ≡ true) × (taken ≡ None) × (few ≡ true) × (shallow ≡ true)
fault_parts true true true None a b e = (refl, refl, refl, refl)
fault_parts true true false None a b e = cc
fault_parts true false s None a b e = cc
fault_parts true f s (Some n) a b e = cc
fault_parts false f s t a b e = cc

pub valid_exchange : (f : Field) (tree new : Tree) (path : Path) → IsValidTree f tree → IsValidTree f new → replace_fault tree path new ≡ None →
    IsValidTree f (with_node tree path new)
unfolding replace_fault
valid_exchange f tree new path v w e =
    let after = with_node tree path new in
    let p = fault_parts (boundary (node_at tree path) == boundary new) (nat_le (length (leaf_names after)) most_leaves) (nat_le (depth after) most_depth)
    (first_taken (names_outside tree path) (leaf_names new)) (boundary (node_at tree path)) (boundary new) e in
    record {
      valid_shape = shape_exchange f tree new path v.valid_shape w.valid_shape (eqb-true (boundary (node_at tree path)) (boundary new) p.0);
      formed = formed_exchange tree new path v.formed w.formed;
      different = names_exchange tree new path v.different w.different (none_taken (names_outside tree path) (leaf_names new) p.1);
      few = leb-true (length (leaf_names after)) most_leaves p.2;
      shallow = leb-true (depth after) most_depth p.3;
      light = light_exchange tree new path v.light w.light;
    }

-- ---- nodes that stand for valid trees

pub over_field : (f : Field) (node : Node) → IsOver f node → field_of node ≡ f
unfolding IsOver field_of
over_field f (nodes_of.Leaf l) o = o.0
over_field f (nodes_of.Join' n op p l q r) o = o.0

pub stands : (f : Field) (node : Node) → IsOver f node → IsValidTree f (named node) → Stands (field_of node) node
stands f node o v = subst (λ (g : Field). Stands g node) (sym (over_field f node o)) (record { over = o; valid = v })

pub has_weight : (name : List ℕ) (tree : Tree) → is_one_of name (element_names tree) ≡ true → (weight : ℤ) × (weight_named name tree ≡ Some weight)
unfolding weight_named element_names
has_weight name (Elem n vec weight) e = by_cases (bytes_eq name n)
    (λ t. (weight, ap (λ (b : Bool). if b then Some weight else None) t))
    (λ t. absurd (both_ways (bytes_eq name n || false) (ap (λ (b : Bool). b || false) t) e))
has_weight name (Void n t) e = cc
has_weight name (Join n op left right) e = by_cases (is_one_of name (element_names left))
    (λ t. let w = has_weight name left t in (w.0, ap (λ (o : Option ℤ). first_weight o (weight_named name right)) w.1))
    (λ t. here (weight_named name left) (has_weight name right (sym (one_of_append name (element_names left) (element_names right)
    ∙ ap (λ (b : Bool). b || is_one_of name (element_names right)) t) ∙ e)))
  where
    here : (o : Option ℤ) → ((w : ℤ) × (weight_named name right ≡ Some w)) → (w : ℤ) × (first_weight o (weight_named name right) ≡ Some w)
    here (Some v) w = (v, refl)
    here None w = w
