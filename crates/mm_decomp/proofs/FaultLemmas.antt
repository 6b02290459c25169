-- No leaf and no join of a shape is at fault when its tree is built.
use Rattle.std.proofs.Common.{ℕ, ℤ, suc, ◌+◌, ◌<◌, ◌≤◌, ◌≡◌, max, Bool, true, false, not, ◌==◌, Some, None, List, [], ◌∷◌, ◌++◌, length, take, drop, get_or, reverse, refl, sym, ap, ap₂, ◌∙◌, subst, arith, length-append}
use Rattle.std.specs.Prelude.{if◌then◌else◌, nat_le}
use Rattle.std.specs.List.{All, IsDistinct}
use Rattle.std.specs.Str.{bytes_eq}
use Rattle.std.proofs.lemmas.Bool.{both_ways, eq-eqb, false_from_ne_true, lt-leb, or_left}
use Rattle.std.proofs.lemmas.List.Elements.{All-cons, All-head, All-tail}
use Rattle.mm_base.proofs.NameLemmas.{bytes_same}
use Rattle.mm_field.specs.Vectors.{AreVectors}
use Rattle.mm_ops.specs.OpValue.{OpValue}
use Rattle.mm_ops.specs.Tables.{op_named}
use Rattle.mm_tree.specs.Building.{leaf_fault, pair_fault}
use Rattle.mm_tree.specs.Building as building
use Rattle.mm_tree.specs.NamedTree.{Tree, boundary, depth, leaf_names, is_one_of}
use Rattle.mm_tree.specs.ValidTree.{most_depth}
use Rattle.mm_tree.specs.declared.builder.BuildFault.TheVariants as fault
use Rattle.mm_tree.proofs.NameLemmas.{distinct_apart}
use Rattle.mm_decomp.specs.Shapes as shapes
use Rattle.mm_decomp.specs.Shapes.{Shape, FindTwo, AreSteps, after_step, after_steps, names}
use Rattle.mm_decomp.specs.Shapes.Shape.{Leaf, Join}
use Rattle.mm_decomp.specs.Stack.{LeafColumns, AreFormsOf, found_space, joins_in, leaves, leaves_in, made_tree, made_trees}
use Rattle.mm_decomp.specs.Steps.{IsBuilding, TreesFit}
use Rattle.mm_decomp.specs.declared.build.Building.{Building}
use Rattle.mm_decomp.specs.declared.form.Form.{Form}
use Rattle.mm_decomp.specs.declared.shape.Step.{Step}
use Rattle.mm_decomp.specs.declared.shape.Step.TheVariants as steps
use Rattle.mm_decomp.proofs.LeafBasisLemmas.{leaf_basis}
use Rattle.mm_decomp.proofs.MakeLemmas.{names_in, names_after}
use Rattle.mm_decomp.proofs.ShapeLemmas.{leaf_names-append}
use Rattle.mm_decomp.proofs.StepLemmas.{FindTwo-front, FindTwo-rest, after_steps-append, parts_at}

-- ---- operators

-- the one operator of a table has its name
pub op_alone : (name : List ℕ) (op : OpValue) → op_named name ((name, op) ∷ []) ≡ Some op
op_alone name op = ap (λ (b : Bool). if b then Some op else None) (bytes_same name)

-- ---- leaves

made_names : (c : LeafColumns) (n p : ℕ) (s : Shape) → leaf_names (made_tree c n p s) ≡ names s
unfolding leaf_names names made_tree
made_names c n p (Leaf name weight) = refl
made_names c n p (Join left right) = ap₂ (λ a b. a ++ b) (made_names c n p left) (made_names c (n + shapes.joins left) (p + leaves left) right)

all_names : (c : LeafColumns) (ss : List Shape) → building.names_in (made_trees c ss) ≡ names_in ss
unfolding names_in
all_names c [] = refl
all_names c (s ∷ ss) = ap₂ (λ a b. a ++ b) (all_names c ss) (made_names c (joins_in ss) (leaves_in ss) s)

free_name : (name : List ℕ) (trees : List Tree) → is_one_of name (building.names_in trees) ≡ false → length (building.names_in trees) ≤ 4096 → leaf_fault name trees ≡ None
free_name name trees new few =
    ap (λ (b : Bool). if b then Some (fault.NameTaken name) else (if nat_le 8192 (length (building.names_in trees)) then Some fault.TooManyLeaves else None)) new
    ∙ ap (λ (b : Bool). if b then Some fault.TooManyLeaves else None) (lt-leb 8192 (length (building.names_in trees)) (omega arith))

pub leaf_free : (c : LeafColumns) (xs : List Step) (i : ℕ) (d : Step) (name : List ℕ) (weight : ℤ) (b : Building) → i < length xs →
    get_or xs i d ≡ steps.Leaf name weight → AreSteps xs → IsBuilding c (after_steps [] (take i xs)) b → leaf_fault name b.builder.trees ≡ None
unfolding names_in
leaf_free c xs i d name weight b l e all h =
    let step = steps.Leaf name weight in
    let front = take i xs in
    let rest = drop (suc i) xs in
    let parts = parts_at xs i step d l e in
    let two : FindTwo [] front = FindTwo-front [] front (step ∷ rest) (subst (λ ys. FindTwo [] ys) parts all.find_two) in
    let have : building.names_in b.builder.trees ≡ shapes.leaf_names front =
    ap building.names_in h.trees ∙ all_names c (after_steps [] front) ∙ names_after [] front two in
    let whole : shapes.leaf_names xs ≡ shapes.leaf_names front ++ (name ∷ shapes.leaf_names rest) = ap shapes.leaf_names parts ∙ leaf_names-append front (step ∷ rest) in
    let apart = distinct_apart (shapes.leaf_names front) (name ∷ shapes.leaf_names rest) (subst (λ ns. IsDistinct bytes_eq ns) whole all.different) in
    let here : is_one_of name (name ∷ shapes.leaf_names rest) ≡ true = or_left (bytes_eq name name) (is_one_of name (shapes.leaf_names rest)) (bytes_same name) in
    let new : is_one_of name (shapes.leaf_names front) ≡ false =
    false_from_ne_true (is_one_of name (shapes.leaf_names front)) (λ t. both_ways (is_one_of name (name ∷ shapes.leaf_names rest)) (apart name t) here) in
    let few = all.few in
    let count : length (building.names_in b.builder.trees) ≤ 4096 =
    omega (arith, few, ap length have, ap length whole, length-append (shapes.leaf_names front) (name ∷ shapes.leaf_names rest)) in
    free_name name b.builder.trees (ap (is_one_of name) have ∙ new) count

-- ---- joins

made_depth : (c : LeafColumns) (n p : ℕ) (s : Shape) → depth (made_tree c n p s) ≡ shapes.depth s
unfolding depth shapes.depth made_tree
made_depth c n p (Leaf name weight) = refl
made_depth c n p (Join left right) =
    ap₂ (λ a b. max a b + 1) (made_depth c n p left) (made_depth c (n + shapes.joins left) (p + leaves left) right)

leaves_some : (s : Shape) → 0 < leaves s
unfolding leaves
leaves_some (Leaf name weight) = omega arith
leaves_some (Join left right) = let a = leaves_some left in omega (arith, a)

made_boundary : (c : LeafColumns) (n p : ℕ) (s : Shape) → AreVectors c.f c.g c.ms → p < length c.ms → boundary (made_tree c n p s) ≡ length (found_space c p s)
unfolding boundary made_tree
made_boundary c n p (Leaf name weight) h l = sym (leaf_basis c.f c.g (get_or c.ms p []) (h p [] l)).count
made_boundary c n p (Join left right) h l = refl

Shallow : List Shape → Type 0
Shallow ss = All (λ s. shapes.depth s ≤ most_depth) ss

-- joins keep what is below them
shallow_step : (ss : List Shape) → 2 ≤ length ss → Shallow (after_step ss steps.Join) → Shallow ss
unfolding shapes.depth Shallow
shallow_step [] two h = absurd (omega arith)
shallow_step (s ∷ []) two h = absurd (omega arith)
shallow_step (right ∷ left ∷ ss) two h =
    let P : Shape → Type 0 = λ s. shapes.depth s ≤ most_depth in
    let top : shapes.depth (Join left right) ≤ most_depth = All-head P (Join left right) ss h in
    All-cons P right (left ∷ ss) (omega (arith, top)) (All-cons P left ss (omega (arith, top)) (All-tail P (Join left right) ss h))

shallow_before : (ss : List Shape) (xs : List Step) → FindTwo ss xs → Shallow (after_steps ss xs) → Shallow ss
unfolding Shallow
shallow_before ss [] two h = h
shallow_before ss (steps.Leaf name weight ∷ xs) two h =
    All-tail (λ s. shapes.depth s ≤ most_depth) (Leaf name weight) ss (shallow_before (Leaf name weight ∷ ss) xs two h)
shallow_before ss (steps.Join ∷ xs) two h = shallow_step ss two.0 (shallow_before (after_step ss steps.Join) xs two.1 h)

pub trees_fit : (c : LeafColumns) (xs : List Step) (i : ℕ) (d : Step) (left right : Shape) (rest : List Shape) (b : Building) → i < length xs →
    get_or xs i d ≡ steps.Join → AreSteps xs → after_steps [] (take i xs) ≡ right ∷ left ∷ rest → IsBuilding c (after_steps [] (take i xs)) b →
    AreVectors c.f c.g c.ms → leaves_in (after_steps [] (take i xs)) ≤ length c.ms → TreesFit (reverse b.forms.items) b.builder.trees
unfolding shapes.depth Shallow
trees_fit c xs i d left right rest b l e all are h hm room =
    let front = take i xs in
    let later = drop (suc i) xs in
    let parts = parts_at xs i steps.Join d l e in
    let whole : FindTwo [] (front ++ steps.Join ∷ later) = subst (λ ys. FindTwo [] ys) parts all.find_two in
    let two : FindTwo (right ∷ left ∷ rest) (steps.Join ∷ later) = subst (λ ss. FindTwo ss (steps.Join ∷ later)) are (FindTwo-rest [] front (steps.Join ∷ later) whole) in
    let ends : after_steps [] xs ≡ after_steps (Join left right ∷ rest) later =
    ap (after_steps []) parts ∙ after_steps-append [] front (steps.Join ∷ later) ∙ ap (λ ss. after_steps ss (steps.Join ∷ later)) are in
    let low = All-head (λ s. shapes.depth s ≤ most_depth) (Join left right) rest
    (shallow_before (Join left right ∷ rest) later two.1 (subst (λ ss. All (λ s. shapes.depth s ≤ most_depth) ss) ends all.shallow)) in
    let forms : AreFormsOf c (right ∷ left ∷ rest) (reverse b.forms.items) = subst (λ ss. AreFormsOf c ss (reverse b.forms.items)) are h.forms in
    let trees : b.builder.trees ≡ made_trees c (right ∷ left ∷ rest) = h.trees ∙ ap (made_trees c) are in
    let room2 : leaves_in (right ∷ left ∷ rest) ≤ length c.ms = subst (λ ss. leaves_in ss ≤ length c.ms) are room in
    subst (λ ts. TreesFit (reverse b.forms.items) ts) (sym trees) (go (reverse b.forms.items) forms low room2)
  where
    go : (forms : List Form) → AreFormsOf c (right ∷ left ∷ rest) forms → max (shapes.depth left) (shapes.depth right) + 1 ≤ most_depth →
        leaves_in (right ∷ left ∷ rest) ≤ length c.ms → TreesFit forms (made_trees c (right ∷ left ∷ rest))
    go [] fs low room = fs
    go (r ∷ []) fs low room = fs.1
    go (r ∷ l ∷ forms) fs low room =
        let a = leaves_some left in
        let b = leaves_some right in
        let p = leaves_in rest in
        let nl = joins_in rest in
        let nr = joins_in (left ∷ rest) in
        let dl = made_depth c nl p left in
        let dr = made_depth c nr (p + leaves left) right in (
          made_boundary c nl p left hm (omega (arith, room, a, b)) ∙ ap length (sym fs.1.0.basis),
          made_boundary c nr (p + leaves left) right hm (omega (arith, room, a, b)) ∙ ap length (sym fs.0.basis),
          lt-leb most_depth (max (depth (made_tree c nl p left)) (depth (made_tree c nr (p + leaves left) right))) (omega (arith, low, dl, dr)),
        )

pub pair_fits : (op : OpValue) (left right : Tree) → boundary left ≡ op.op.t1 → boundary right ≡ op.op.t2 → nat_le most_depth (max (depth left) (depth right)) ≡ false →
    pair_fault op left right ≡ None
pair_fits op left right el er d =
    let second = if not (boundary right == op.op.t2) then Some (fault.Boundary op.op.t2 (boundary right)) else (
    if nat_le most_depth (max (depth left) (depth right)) then Some fault.TooDeep else None) in
    ap (λ (b : Bool). if not b then Some (fault.Boundary op.op.t1 (boundary left)) else second) (eq-eqb (boundary left) op.op.t1 el)
    ∙ ap (λ (b : Bool). if not b then Some (fault.Boundary op.op.t2 (boundary right)) else (
    if nat_le most_depth (max (depth left) (depth right)) then Some fault.TooDeep else None)) (eq-eqb (boundary right) op.op.t2 er)
    ∙ ap (λ (b : Bool). if b then Some fault.TooDeep else None) d
