-- The shape of a tree's elements, and its steps.
use Rattle.std.proofs.Common.{ℕ, ◌+◌, ◌≤◌, ◌≡◌, max, Bool, true, false, List, [], ◌∷◌, ◌++◌, length, refl, sym, ap, ap₂, ◌∙◌, subst, arith, append_assoc, append-nil, Option, Some, None, Box, Global}
use Rattle.std.specs.Prelude.{nat_abs}
use Rattle.std.specs.List.{All, IsDistinct}
use Rattle.std.specs.Option.{is_some, option_map}
use Rattle.std.specs.Str.{bytes_eq}
use Rattle.std.proofs.lemmas.List.Elements.{All-nil, All-cons, All-append, All-head}
use Rattle.mm_tree.specs.NamedTree.{Tree, element_names, leaf_names, weights}
use Rattle.mm_tree.specs.NamedTree as named
use Rattle.mm_tree.specs.NamedTree.Tree.{Elem, Void, Join}
use Rattle.mm_tree.specs.Nodes.{named_leaf}
use Rattle.mm_tree.specs.declared.node.Item.{Item}
use Rattle.mm_tree.specs.declared.node.Leaf as leaves
use Rattle.mm_tree.specs.declared.node.Node as nodes
use Rattle.mm_tree.specs.declared.node.Node.TheViews as views
use Rattle.mm_tree.specs.Nodes.{named as nodes_named}
use Rattle.mm_ops.specs.OpValue.{OpValue}
use Rattle.mm_tree.specs.ValidTree.{IsValidTree, most_depth, most_weight}
use Rattle.mm_tree.proofs.ElementLemmas.{different_elements}
use Rattle.mm_tree.proofs.TreeLemmas.{all_left, all_right}
use Rattle.mm_field.specs.declared.Field.{Field}
use Rattle.mm_decomp.specs.declared.shape.Step.{Step}
use Rattle.mm_decomp.specs.declared.shape.Step.TheVariants as steps
use Rattle.mm_decomp.specs.Shapes.{Shape, names, depth, after_steps, FindTwo, IsLight, IsShape, most_leaves}
use Rattle.mm_decomp.specs.Shapes as shapes
use Rattle.mm_decomp.specs.TreeShapes.{joined, element_shape, steps_of, steps_if, Follows}
use Rattle.mm_decomp.proofs.ShapeLemmas.{leaf_names-append}
use Rattle.mm_decomp.proofs.ShapeBuilderLemmas.{FindTwo-append}
use Rattle.mm_decomp.proofs.StepLemmas.{after_steps-append}

-- ---- a leaf

pub element_leaf : (l : leaves.Leaf) (item : Item) → l.item ≡ Some item → element_shape (named_leaf l) ≡ Some (shapes.Shape.Leaf l.name item.weight)
unfolding element_shape
element_leaf l item e = ap (λ (i : Option Item). element_shape (named_leaf (record l { item = i }))) e

pub void_leaf : (l : leaves.Leaf) → l.item ≡ None → element_shape (named_leaf l) ≡ None
unfolding element_shape
void_leaf l e = ap (λ (i : Option Item). element_shape (named_leaf (record l { item = i }))) e

pub follows_some : (shape : Option Shape) (s : Shape) (old new : List Step) → shape ≡ Some s → new ≡ old ++ steps_of s → Follows shape old new true
follows_some shape s old new e n = record { is_there = ap is_some (sym e); steps = n ∙ ap (λ x. old ++ steps_if x) (sym e) }

pub follows_none : (shape : Option Shape) (old new : List Step) → shape ≡ None → new ≡ old → Follows shape old new false
follows_none shape old new e n = record { is_there = ap is_some (sym e); steps = n ∙ sym (append-nil old) ∙ ap (λ x. old ++ steps_if x) (sym e) }

pub leaf_step : (l : leaves.Leaf) (item : Item) (old new : List Step) → l.item ≡ Some item → new ≡ old ++ steps.Leaf l.name item.weight ∷ [] →
    Follows (element_shape (named_leaf l)) old new true
unfolding steps_of
leaf_step l item old new e n = follows_some (element_shape (named_leaf l)) (shapes.Shape.Leaf l.name item.weight) old new (element_leaf l item e) n

pub no_leaf_step : (l : leaves.Leaf) (old new : List Step) → l.item ≡ None → new ≡ old → Follows (element_shape (named_leaf l)) old new false
no_leaf_step l old new e n = follows_none (element_shape (named_leaf l)) old new (void_leaf l e) n

-- ---- a join

pub both_sides : (left right : Option Shape) (old mid next new : List Step) → Follows left old mid true → Follows right mid next true →
    new ≡ next ++ steps.Join ∷ [] → Follows (joined left right) old new true
unfolding steps_of
both_sides None right old mid next new l r e = absurd (let no : true ≡ false = l.is_there in cc)
both_sides (Some s) None old mid next new l r e = absurd (let no : true ≡ false = r.is_there in cc)
both_sides (Some s) (Some t) old mid next new l r e = record {
  is_there = refl;
  steps =
      e ∙ ap (λ xs. xs ++ steps.Join ∷ []) (r.steps ∙ ap (λ xs. xs ++ steps_of t) l.steps)
      ∙ append_assoc (old ++ steps_of s) (steps_of t) (steps.Join ∷ []) ∙ append_assoc old (steps_of s) (steps_of t ++ steps.Join ∷ []);
}

pub left_side : (left right : Option Shape) (old mid new : List Step) → Follows left old mid true → Follows right mid new false →
    Follows (joined left right) old new true
left_side None right old mid new l r = absurd (let no : true ≡ false = l.is_there in cc)
left_side (Some s) (Some t) old mid new l r = absurd (let no : false ≡ true = r.is_there in cc)
left_side (Some s) None old mid new l r = record { is_there = refl; steps = r.steps ∙ append-nil mid ∙ l.steps }

pub right_side : (left right : Option Shape) (some : Bool) (old mid new : List Step) → Follows left old mid false → Follows right mid new some →
    Follows (joined left right) old new some
right_side (Some s) right some old mid new l r = absurd (let no : false ≡ true = l.is_there in cc)
right_side None right some old mid new l r =
    record { is_there = r.is_there; steps = r.steps ∙ ap (λ xs. xs ++ steps_if right) (l.steps ∙ append-nil old) }

-- ---- the steps of a shape make it

pub steps_make : (s : Shape) (before : List Shape) → after_steps before (steps_of s) ≡ s ∷ before
unfolding steps_of
steps_make (shapes.Shape.Leaf name weight) before = refl
steps_make (shapes.Shape.Join l r) before =
    after_steps-append before (steps_of l) (steps_of r ++ steps.Join ∷ [])
    ∙ ap (λ ss. after_steps ss (steps_of r ++ steps.Join ∷ [])) (steps_make l before)
    ∙ after_steps-append (l ∷ before) (steps_of r) (steps.Join ∷ [])
    ∙ ap (λ ss. after_steps ss (steps.Join ∷ [])) (steps_make r (l ∷ before))

find_two : (s : Shape) (before : List Shape) → FindTwo before (steps_of s)
unfolding steps_of
find_two (shapes.Shape.Leaf name weight) before = tt
find_two (shapes.Shape.Join l r) before =
    FindTwo-append before (steps_of l) (steps_of r ++ steps.Join ∷ []) (find_two l before)
    (subst (λ ss. FindTwo ss (steps_of r ++ steps.Join ∷ [])) (sym (steps_make l before))
    (FindTwo-append (l ∷ before) (steps_of r) (steps.Join ∷ []) (find_two r (l ∷ before))
    (subst (λ ss. FindTwo ss (steps.Join ∷ [])) (sym (steps_make r (l ∷ before))) (omega arith, tt))))

pub names_of_steps : (s : Shape) → shapes.leaf_names (steps_of s) ≡ names s
unfolding steps_of names
names_of_steps (shapes.Shape.Leaf name weight) = refl
names_of_steps (shapes.Shape.Join l r) =
    leaf_names-append (steps_of l) (steps_of r ++ steps.Join ∷ [])
    ∙ ap₂ (λ xs ys. xs ++ ys) (names_of_steps l)
    (leaf_names-append (steps_of r) (steps.Join ∷ []) ∙ append-nil (shapes.leaf_names (steps_of r)) ∙ names_of_steps r)

-- ---- the shape of a valid tree

abbrev pub names_if : Option Shape → List (List ℕ)
names_if None = []
names_if (Some s) = names s

names_joined : (left right : Option Shape) → names_if (joined left right) ≡ names_if left ++ names_if right
unfolding names
names_joined None right = refl
names_joined (Some l) None = sym (append-nil (names l))
names_joined (Some l) (Some r) = refl

pub same_names : (T : Tree) → names_if (element_shape T) ≡ element_names T
unfolding element_shape element_names names
same_names (Elem name vec weight) = refl
same_names (Void name t) = refl
same_names (Join name op l r) = names_joined (element_shape l) (element_shape r) ∙ ap₂ (λ xs ys. xs ++ ys) (same_names l) (same_names r)

abbrev depth_if : Option Shape → ℕ
depth_if None = 0
depth_if (Some s) = depth s

depth_joined : (left right : Option Shape) (a b : ℕ) → depth_if left ≤ a → depth_if right ≤ b → depth_if (joined left right) ≤ max a b + 1
unfolding depth
depth_joined None right a b l r = omega (arith, l, r)
depth_joined (Some s) None a b l r = omega (arith, l, r)
depth_joined (Some s) (Some t) a b l r = omega (arith, l, r)

no_deeper : (T : Tree) → depth_if (element_shape T) ≤ named.depth T
unfolding element_shape depth named.depth
no_deeper (Elem name vec weight) = omega arith
no_deeper (Void name t) = omega arith
no_deeper (Join name op l r) = depth_joined (element_shape l) (element_shape r) (named.depth l) (named.depth r) (no_deeper l) (no_deeper r)

light_joined : (left right : Option Shape) → All (λ step. IsLight step) (steps_if left) → All (λ step. IsLight step) (steps_if right) →
    All (λ step. IsLight step) (steps_if (joined left right))
unfolding steps_of
light_joined None right l r = r
light_joined (Some s) None l r = l
light_joined (Some s) (Some t) l r =
    All-append (λ step. IsLight step) (steps_of s) (steps_of t ++ steps.Join ∷ []) l
    (All-append (λ step. IsLight step) (steps_of t) (steps.Join ∷ []) r (All-cons (λ step. IsLight step) steps.Join [] tt (All-nil (λ step. IsLight step))))

light_steps : (T : Tree) → All (λ w. nat_abs w ≤ most_weight) (weights T) → All (λ step. IsLight step) (steps_if (element_shape T))
unfolding element_shape weights steps_of
light_steps (Elem name vec weight) h =
    All-cons (λ step. IsLight step) (steps.Leaf name weight) [] (All-head (λ w. nat_abs w ≤ most_weight) weight [] h) (All-nil (λ step. IsLight step))
light_steps (Void name t) h = All-nil (λ step. IsLight step)
light_steps (Join name op l r) h =
    light_joined (element_shape l) (element_shape r) (light_steps l (all_left (λ w. nat_abs w ≤ most_weight) (weights l) (weights r) h))
    (light_steps r (all_right (λ w. nat_abs w ≤ most_weight) (weights l) (weights r) h))

pub record HasShape (shape : Option Shape) : Type 0 where
  pub it : Shape
  pub is : shape ≡ Some it

pub has_shape : (shape : Option Shape) → true ≡ is_some shape → HasShape shape
has_shape None e = absurd (let no : true ≡ false = e in cc)
has_shape (Some s) e = record { it = s; is = refl }

pub tree_steps : (f : Field) (T : Tree) (w : HasShape (element_shape T)) → IsValidTree f T → length (element_names T) ≤ most_leaves →
    IsShape (steps_of w.it)
tree_steps f T w v few =
    let named_alike : shapes.leaf_names (steps_of w.it) ≡ element_names T = names_of_steps w.it ∙ ap names_if (sym w.is) ∙ same_names T in
    let made = steps_make w.it [] in
    let low = no_deeper T in
    let d : depth_if (element_shape T) ≡ depth w.it = ap depth_if w.is in
    let shallow = v.shallow in
    record {
      are_steps = record {
        find_two = find_two w.it [];
        light = subst (λ x. All (λ step. IsLight step) (steps_if x)) w.is (light_steps T v.light);
        different = subst (λ ns. IsDistinct bytes_eq ns) (sym named_alike) (different_elements T v.different);
        few = subst (λ ns. length ns ≤ most_leaves) (sym named_alike) few;
        shallow = subst (λ ss. All (λ shape. depth shape ≤ most_depth) ss) (sym made)
            (All-cons (λ shape. depth shape ≤ most_depth) w.it [] (omega (arith, low, d, shallow)) (All-nil (λ shape. depth shape ≤ most_depth)));
      };
      one = ap length made;
    }

pub shape_there : (shape : Option Shape) (w : HasShape shape) (all : List Step) → all ≡ steps_of w.it → Some all ≡ option_map steps_of shape
shape_there shape w all e = ap Some e ∙ ap (option_map steps_of) (sym w.is)

pub shape_missing : (shape : Option Shape) → false ≡ is_some shape → None ≡ option_map steps_of shape
shape_missing None e = refl
shape_missing (Some s) e = absurd (let no : false ≡ true = e in cc)

-- ---- nodes

pub node_leaf : (n : nodes.Node) (l : leaves.Leaf) → n ≡ nodes.Leaf l → element_shape (nodes_named n) ≡ element_shape (named_leaf l)
unfolding nodes_named
node_leaf n l e = ap (λ x. element_shape (nodes_named x)) e

pub node_join : (n : nodes.Node) (name : List ℕ) (op : OpValue) (l r : Box nodes.Node Global) → n ≡ views.Join name op l r →
    element_shape (nodes_named n) ≡ joined (element_shape (nodes_named l.value)) (element_shape (nodes_named r.value))
unfolding nodes_named element_shape
node_join n name op l r e = ap (λ x. element_shape (nodes_named x)) e

pub without_left : (n : nodes.Node) (name : List ℕ) (op : OpValue) (l r : Box nodes.Node Global) → n ≡ views.Join name op l r →
    (a b : nodes.Node) → a ≡ l.value → b ≡ r.value → (on_left some : Bool) (old mid new : List Step) →
    Follows (element_shape (nodes_named a)) old mid on_left → Follows (element_shape (nodes_named b)) mid new some → on_left ≡ false →
    Follows (element_shape (nodes_named n)) old new some
without_left n name op l r e a b ea eb on_left some old mid new h k none =
    let whole = node_join n name op l r e ∙ sym (ap₂ (λ x y. joined (element_shape (nodes_named x)) (element_shape (nodes_named y))) ea eb) in
    subst (λ s. Follows s old new some) (sym whole)
    (right_side (element_shape (nodes_named a)) (element_shape (nodes_named b)) some old mid new
    (subst (λ x. Follows (element_shape (nodes_named a)) old mid x) none h) k)

pub without_right : (n : nodes.Node) (name : List ℕ) (op : OpValue) (l r : Box nodes.Node Global) → n ≡ views.Join name op l r →
    (a b : nodes.Node) → a ≡ l.value → b ≡ r.value → (on_left on_right : Bool) (old mid new : List Step) →
    Follows (element_shape (nodes_named a)) old mid on_left → Follows (element_shape (nodes_named b)) mid new on_right → on_left ≡ true →
    on_right ≡ false → Follows (element_shape (nodes_named n)) old new true
without_right n name op l r e a b ea eb on_left on_right old mid new h k some none =
    let whole = node_join n name op l r e ∙ sym (ap₂ (λ x y. joined (element_shape (nodes_named x)) (element_shape (nodes_named y))) ea eb) in
    subst (λ s. Follows s old new true) (sym whole)
    (left_side (element_shape (nodes_named a)) (element_shape (nodes_named b)) old mid new
    (subst (λ x. Follows (element_shape (nodes_named a)) old mid x) some h)
    (subst (λ x. Follows (element_shape (nodes_named b)) mid new x) none k))

pub with_both : (n : nodes.Node) (name : List ℕ) (op : OpValue) (l r : Box nodes.Node Global) → n ≡ views.Join name op l r →
    (a b : nodes.Node) → a ≡ l.value → b ≡ r.value → (on_left on_right : Bool) (old mid next new : List Step) →
    Follows (element_shape (nodes_named a)) old mid on_left → Follows (element_shape (nodes_named b)) mid next on_right → on_left ≡ true →
    on_right ≡ true → new ≡ next ++ steps.Join ∷ [] → Follows (element_shape (nodes_named n)) old new true
with_both n name op l r e a b ea eb on_left on_right old mid next new h k left right pushed =
    let whole = node_join n name op l r e ∙ sym (ap₂ (λ x y. joined (element_shape (nodes_named x)) (element_shape (nodes_named y))) ea eb) in
    subst (λ s. Follows s old new true) (sym whole)
    (both_sides (element_shape (nodes_named a)) (element_shape (nodes_named b)) old mid next new
    (subst (λ x. Follows (element_shape (nodes_named a)) old mid x) left h)
    (subst (λ x. Follows (element_shape (nodes_named b)) mid next x) right k) pushed)

pub first_steps : (f : Field) (T N : Tree) (new : List Step) (some : Bool) (old : List Step) → N ≡ T → IsValidTree f T →
    length (element_names T) ≤ most_leaves → Follows (element_shape N) old new some → some ≡ true → old ≡ [] → IsShape new
first_steps f T N new some old e v few h s none =
    let w = has_shape (element_shape T) (sym s ∙ h.is_there ∙ ap (λ t. is_some (element_shape t)) e) in
    subst (λ xs. IsShape xs) (sym (h.steps ∙ ap₂ (λ xs t. xs ++ steps_if (element_shape t)) none e ∙ ap steps_if w.is)) (tree_steps f T w v few)
