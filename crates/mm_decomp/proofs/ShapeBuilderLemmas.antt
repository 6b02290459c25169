-- What a builder of shapes keeps.
use Rattle.std.proofs.Common.{ℕ, ℤ, ◌+◌, ◌-◌, ◌<◌, ◌≤◌, ◌≡◌, max, Bool, true, false, List, [], ◌∷◌, ◌++◌, length, map, take, get_or, reverse, refl, sym, ap, ap₂, ◌∙◌, subst, arith, length-append, append_assoc, append-nil, Some, None}
use Rattle.std.specs.Prelude.{nat_abs, nat_le, if◌then◌else◌}
use Rattle.std.specs.List.{All, IsDistinct}
use Rattle.std.specs.Str.{bytes_eq}
use Rattle.std.proofs.lemmas.Bool.{le-leb, lt-leb}
use Rattle.std.proofs.lemmas.List.{length-map, length-reverse, map-append, take_at, get_or_push, get_or_append_left}
use Rattle.std.proofs.lemmas.List.Elements.{All-nil, All-cons, All-append, All-tail}
use Rattle.mm_linear.proofs.ReducedEchelonLemmas.{reverse-cons}
use Rattle.mm_tree.specs.NamedTree.{is_one_of}
use Rattle.mm_tree.specs.ValidTree.{most_depth, most_weight}
use Rattle.mm_tree.proofs.BuilderLemmas.{distinct_push, none_distinct}
use Rattle.mm_decomp.specs.declared.shape.Step.{Step}
use Rattle.mm_decomp.specs.declared.shape.Step.TheVariants as steps
use Rattle.mm_decomp.specs.declared.shape_builder.ShapeFault.TheVariants.{NameTaken, TooManyLeaves, TooFew, TooDeep}
use Rattle.mm_decomp.specs.Shapes.{Shape, depth, after_step, after_steps, leaf_names, most_leaves, FindTwo, IsLight, AreSteps}
use Rattle.mm_decomp.specs.Shapes.Shape.{Leaf, Join}
use Rattle.mm_decomp.specs.ShapeBuilding.{leaf_fault, pair_fault, join_fault, IsKept}
use Rattle.mm_decomp.specs.declared.shape_builder.ShapeBuilder.TheInside.{Inside}
use Rattle.std.specs.Vec.{vec_len, vec_capacity}
use Rattle.mm_decomp.proofs.ShapeLemmas.{leaf_names-append}
use Rattle.mm_decomp.proofs.StepLemmas.{after_steps-append}

-- ---- faults

pub taken : (name : List ℕ) (all : List Step) → is_one_of name (leaf_names all) ≡ true → leaf_fault name all ≡ Some (NameTaken name)
taken name all e =
    ap (λ (b : Bool). if b then Some (NameTaken name) else (if nat_le most_leaves (length (leaf_names all)) then Some TooManyLeaves else None)) e

untaken : (name : List ℕ) (all : List Step) (b : Bool) → is_one_of name (leaf_names all) ≡ false → nat_le most_leaves (length (leaf_names all)) ≡ b →
    leaf_fault name all ≡ (if b then Some TooManyLeaves else None)
untaken name all b e h =
    ap (λ (b : Bool). if b then Some (NameTaken name) else (if nat_le most_leaves (length (leaf_names all)) then Some TooManyLeaves else None)) e
    ∙ ap (λ (b : Bool). if b then Some TooManyLeaves else None) h

pub full : (name : List ℕ) (all : List Step) → is_one_of name (leaf_names all) ≡ false → 4096 ≤ length (leaf_names all) →
    leaf_fault name all ≡ Some TooManyLeaves
full name all e l = untaken name all true e (le-leb most_leaves (length (leaf_names all)) l)

pub free : (name : List ℕ) (all : List Step) → is_one_of name (leaf_names all) ≡ false → length (leaf_names all) < 4096 → leaf_fault name all ≡ None
free name all e l = untaken name all false e (lt-leb most_leaves (length (leaf_names all)) l)

-- ---- steps

pub FindTwo-append : (shapes : List Shape) (xs ys : List Step) → FindTwo shapes xs → FindTwo (after_steps shapes xs) ys → FindTwo shapes (xs ++ ys)
FindTwo-append shapes [] ys h k = k
FindTwo-append shapes (steps.Leaf name weight ∷ xs) ys h k = FindTwo-append (after_step shapes (steps.Leaf name weight)) xs ys h k
FindTwo-append shapes (steps.Join ∷ xs) ys h k = (h.0, FindTwo-append (after_step shapes steps.Join) xs ys h.1 k)

pub after_push : (xs : List Step) (step : Step) → after_steps [] (xs ++ step ∷ []) ≡ after_step (after_steps [] xs) step
after_push xs step = after_steps-append [] xs (step ∷ [])

pub steps_with_leaf : (xs : List Step) (name : List ℕ) (weight : ℤ) → AreSteps xs → is_one_of name (leaf_names xs) ≡ false → length (leaf_names xs) < 4096 →
    nat_abs weight ≤ most_weight → AreSteps (xs ++ steps.Leaf name weight ∷ [])
unfolding depth
steps_with_leaf xs name weight h absent room light =
    let step = steps.Leaf name weight in
    let ns = leaf_names-append xs (step ∷ []) in
    record {
      find_two = FindTwo-append [] xs (step ∷ []) h.find_two tt;
      light = All-append (λ s. IsLight s) xs (step ∷ []) h.light (All-cons (λ s. IsLight s) step [] light (All-nil (λ s. IsLight s)));
      different = subst (λ vs. IsDistinct bytes_eq vs) (sym ns) (distinct_push (leaf_names xs) name h.different absent);
      few = (let a = ap length ns in let b = length-append (leaf_names xs) (name ∷ []) in omega (arith, a, b));
      shallow = subst (λ ss. All (λ s. depth s ≤ most_depth) ss) (sym (after_push xs step))
          (All-cons (λ s. depth s ≤ most_depth) (Leaf name weight) (after_steps [] xs) (omega arith) h.shallow);
    }

-- the last two of some shapes, and the depths of all
pub record HasTwo (shapes : List Shape) : Type 0 where
  pub left : Shape
  pub right : Shape
  pub rest : List Shape
  pub are : shapes ≡ right ∷ left ∷ rest

pub has_two : (shapes : List Shape) → 2 ≤ length shapes → HasTwo shapes
has_two [] h = absurd (omega arith)
has_two (shape ∷ []) h = absurd (omega arith)
has_two (right ∷ left ∷ rest) h = record { left = left; right = right; rest = rest; are = refl }

pub depths_push : (shape : Shape) (shapes : List Shape) → map depth (reverse (shape ∷ shapes)) ≡ map depth (reverse shapes) ++ depth shape ∷ []
depths_push shape shapes = ap (map depth) (reverse-cons shape shapes) ∙ map-append depth (reverse shapes) (shape ∷ [])

pub count_depths : (shapes : List Shape) → length (map depth (reverse shapes)) ≡ length shapes
count_depths shapes = length-map (reverse shapes) depth ∙ length-reverse shapes

pub two_depths : (shapes : List Shape) (w : HasTwo shapes) →
    map depth (reverse shapes) ≡ (map depth (reverse w.rest) ++ depth w.left ∷ []) ++ depth w.right ∷ []
two_depths shapes w =
    ap (λ ss. map depth (reverse ss)) w.are ∙ depths_push w.right (w.left ∷ w.rest) ∙ ap (λ ds. ds ++ depth w.right ∷ []) (depths_push w.left w.rest)

pub left_depth : (shapes : List Shape) (w : HasTwo shapes) (ds : List ℕ) (n d : ℕ) → ds ≡ map depth (reverse shapes) → n ≡ length shapes →
    get_or ds (n - 2) d ≡ depth w.left
left_depth shapes w ds n d e en =
    let rest = map depth (reverse w.rest) in
    let l = ap length w.are in
    let c = count_depths w.rest in
    let k : n - 2 ≡ length rest = omega arith in
    let a = length-append rest (depth w.left ∷ []) in
    ap₂ (λ xs i. get_or xs i d) (e ∙ two_depths shapes w) k
    ∙ get_or_append_left (rest ++ depth w.left ∷ []) (depth w.right ∷ []) d (length rest) (omega arith)
    ∙ get_or_push rest (depth w.left) d (length rest) (let q : length rest ≡ length rest = refl in omega arith)

pub right_depth : (shapes : List Shape) (w : HasTwo shapes) (ds : List ℕ) (n d : ℕ) → ds ≡ map depth (reverse shapes) → n ≡ length shapes →
    get_or ds (n - 1) d ≡ depth w.right
right_depth shapes w ds n d e en =
    let rest = map depth (reverse w.rest) in
    let front = rest ++ depth w.left ∷ [] in
    let l = ap length w.are in
    let c = count_depths w.rest in
    let a = length-append rest (depth w.left ∷ []) in
    ap₂ (λ xs i. get_or xs i d) (e ∙ two_depths shapes w) (let k : n - 1 ≡ length front = omega arith in k)
    ∙ get_or_push front (depth w.right) d (length front) (let q : length front ≡ length front = refl in omega arith)

pub joined_depths : (shapes : List Shape) (w : HasTwo shapes) (ds : List ℕ) (n : ℕ) → ds ≡ map depth (reverse shapes) → n ≡ length shapes →
    take (n - 2) ds ++ (max (depth w.left) (depth w.right) + 1) ∷ [] ≡ map depth (reverse (Join w.left w.right ∷ w.rest))
unfolding depth
joined_depths shapes w ds n e en =
    let rest = map depth (reverse w.rest) in
    let l = ap length w.are in
    let c = count_depths w.rest in
    let k : n - 2 ≡ length rest = omega arith in
    ap (λ xs. xs ++ (max (depth w.left) (depth w.right) + 1) ∷ [])
    (ap₂ take k (e ∙ two_depths shapes w ∙ append_assoc rest (depth w.left ∷ []) (depth w.right ∷ [])) ∙ take_at rest (depth w.left ∷ depth w.right ∷ []) (length rest) refl)
    ∙ sym (depths_push (Join w.left w.right) w.rest)

pub steps_with_join : (xs : List Step) (w : HasTwo (after_steps [] xs)) → AreSteps xs → max (depth w.left) (depth w.right) < 1023 → AreSteps (xs ++ steps.Join ∷ [])
unfolding depth
steps_with_join xs w h shallow =
    let P : Shape → Type 0 = λ s. depth s ≤ most_depth in
    let old = subst (λ ss. All P ss) w.are h.shallow in
    let two : 2 ≤ length (after_steps [] xs) = (let l = ap length w.are in omega arith) in
    let ns = leaf_names-append xs (steps.Join ∷ []) in
    let same : leaf_names (xs ++ steps.Join ∷ []) ≡ leaf_names xs = ns ∙ append-nil (leaf_names xs) in
    record {
      find_two = FindTwo-append [] xs (steps.Join ∷ []) h.find_two (two, tt);
      light = All-append (λ s. IsLight s) xs (steps.Join ∷ []) h.light (All-cons (λ s. IsLight s) steps.Join [] tt (All-nil (λ s. IsLight s)));
      different = subst (λ vs. IsDistinct bytes_eq vs) (sym same) h.different;
      few = (let a = ap length same in let f = h.few in omega (arith, a, f));
      shallow = subst (λ ss. All P ss) (sym (after_push xs steps.Join ∙ ap (λ ss. after_step ss steps.Join) w.are))
          (All-cons P (Join w.left w.right) w.rest (omega (arith, shallow)) (All-tail P w.left w.rest (All-tail P w.right (w.left ∷ w.rest) old)));
    }

pub too_deep : (xs : List Step) (w : HasTwo (after_steps [] xs)) → 1023 ≤ max (depth w.left) (depth w.right) → join_fault xs ≡ Some TooDeep
too_deep xs w l =
    ap pair_fault w.are
    ∙ ap (λ (b : Bool). if b then Some TooDeep else None) (le-leb most_depth (max (depth w.left) (depth w.right)) l)

pub may_join : (xs : List Step) (w : HasTwo (after_steps [] xs)) → max (depth w.left) (depth w.right) < 1023 → join_fault xs ≡ None
may_join xs w l =
    ap pair_fault w.are
    ∙ ap (λ (b : Bool). if b then Some TooDeep else None) (lt-leb most_depth (max (depth w.left) (depth w.right)) l)

pub too_few : (shapes : List Shape) → length shapes < 2 → pair_fault shapes ≡ Some TooFew
too_few [] h = refl
too_few (shape ∷ []) h = refl
too_few (right ∷ left ∷ shapes) h = absurd (omega arith)

no_steps : AreSteps []
no_steps = record {
  find_two = tt;
  light = All-nil (λ s. IsLight s);
  different = none_distinct;
  few = omega arith;
  shallow = All-nil (λ s. depth s ≤ most_depth);
}

pub kept_none : (b : Inside) → b.steps.items ≡ [] → b.depths.items ≡ [] → b.names.keys ≡ [] → IsKept b
kept_none b es ed en = record {
  are_steps = subst (λ xs. AreSteps xs) (sym es) no_steps;
  depths = ed ∙ ap (λ xs. map depth (reverse (after_steps [] xs))) (sym es);
  names = en ∙ ap leaf_names (sym es);
  room = (let a = b.steps.ok.0 in let c = b.depths.ok.0 in omega (arith, a, c, ap length es, ap length ed));
}

pub kept_leaf : (old new : Inside) (name : List ℕ) (weight : ℤ) → IsKept old → is_one_of name (leaf_names old.steps.items) ≡ false →
    length (leaf_names old.steps.items) < 4096 → nat_abs weight ≤ most_weight → new.steps.items ≡ old.steps.items ++ steps.Leaf name weight ∷ [] →
    new.depths.items ≡ old.depths.items ++ 0 ∷ [] → new.names.keys ≡ old.names.keys ++ name ∷ [] →
    vec_len new.steps + vec_len new.depths ≤ vec_capacity new.steps → IsKept new
unfolding depth
kept_leaf old new name weight h absent room light es ed en fits =
    let xs = old.steps.items in
    record {
      are_steps = subst (λ ys. AreSteps ys) (sym es) (steps_with_leaf xs name weight h.are_steps absent room light);
      depths =
          ed ∙ ap (λ ds. ds ++ 0 ∷ []) h.depths ∙ sym (depths_push (Leaf name weight) (after_steps [] xs))
          ∙ ap (λ ss. map depth (reverse ss)) (sym (after_push xs (steps.Leaf name weight))) ∙ ap (λ ys. map depth (reverse (after_steps [] ys))) (sym es);
      names = en ∙ ap (λ ns. ns ++ name ∷ []) h.names ∙ sym (leaf_names-append xs (steps.Leaf name weight ∷ [])) ∙ ap leaf_names (sym es);
      room = fits;
    }

pub kept_join : (old new : Inside) (w : HasTwo (after_steps [] old.steps.items)) → IsKept old → max (depth w.left) (depth w.right) < 1023 →
    new.steps.items ≡ old.steps.items ++ steps.Join ∷ [] →
    new.depths.items ≡ take (length (after_steps [] old.steps.items) - 2) old.depths.items ++ (max (depth w.left) (depth w.right) + 1) ∷ [] →
    new.names.keys ≡ old.names.keys → vec_len new.steps + vec_len new.depths ≤ vec_capacity new.steps → IsKept new
kept_join old new w h shallow es ed en fits =
    let xs = old.steps.items in
    record {
      are_steps = subst (λ ys. AreSteps ys) (sym es) (steps_with_join xs w h.are_steps shallow);
      depths =
          ed ∙ joined_depths (after_steps [] xs) w old.depths.items (length (after_steps [] xs)) h.depths refl
          ∙ ap (λ ss. map depth (reverse ss)) (sym (after_push xs steps.Join ∙ ap (λ ss. after_step ss steps.Join) w.are))
          ∙ ap (λ ys. map depth (reverse (after_steps [] ys))) (sym es);
      names = en ∙ h.names ∙ sym (leaf_names-append xs (steps.Join ∷ []) ∙ append-nil (leaf_names xs)) ∙ ap leaf_names (sym es);
      room = fits;
    }

pub count_kept : (b : Inside) → IsKept b → vec_len b.depths ≡ length (after_steps [] b.steps.items)
count_kept b h = b.depths.ok.0 ∙ ap length h.depths ∙ count_depths (after_steps [] b.steps.items)
