-- How the shapes that are not joined yet grow by the steps.
use Rattle.std.proofs.Common.{ℕ, ℤ, suc, ◌+◌, ◌<◌, ◌≤◌, ◌≡◌, List, [], ◌∷◌, ◌++◌, length, take, drop, get_or, refl, sym, ap, ◌∙◌, subst, arith, length-append, length-take-le, append_assoc, append-nil, ◌^◌, cond, Some, None, w64, to_z, of_z, Result, Ok, Err}
use Rattle.std.specs.Prelude.{nat_lt, nat_abs, pos, negsuc}
use Rattle.std.specs.List.{All, position, position_or_len}
use Rattle.std.proofs.lemmas.Bool.{lt-ltb, le-ltb}
use Rattle.std.proofs.lemmas.List.Sums.{position_or_len_is}
use Rattle.std.proofs.lemmas.Int.{to_z-of_z}
use Rattle.std.proofs.Math.Seq.{drop-cons}
use Rattle.std.proofs.lemmas.List.{take_more, get_or_append_left}
use Rattle.std.proofs.lemmas.List.Elements.{All-nil, All-cons}
use Rattle.std.proofs.Common.{take-append-drop}
use Rattle.mm_decomp.specs.declared.shape.Step.{Step}
use Rattle.mm_decomp.specs.declared.shape.Step.TheVariants as steps
use Rattle.mm_decomp.specs.declared.build.Building.{Building}
use Rattle.mm_decomp.specs.declared.build.DecompFault.{DecompFault}
use Rattle.mm_decomp.specs.declared.build.DecompFault.TheVariants as faults
use Rattle.mm_decomp.specs.declared.form.Form.{Form}
use Rattle.mm_decomp.specs.Shapes.{Shape, joins, after_step, after_steps, leaf_names, FindTwo, IsLight}
use Rattle.mm_decomp.specs.Shapes.Shape.{Leaf, Join}
use Rattle.mm_decomp.specs.Stack.{LeafColumns, leaves, leaves_in, joins_in, AreFormsOf, IsFormAt, boundaries_in, found_boundaries, found_space}
use Rattle.mm_decomp.specs.Steps.{AreOf, IsBuilding, JoinsLast, LastFit, TakesStep, last_boundary}
use Rattle.mm_decomp.specs.Forms.{HasSizes}
use Rattle.mm_linear.specs.ReducedEchelon.{IsReducedBasis}
use Rattle.mm_field.specs.declared.Field.{Field}
use Rattle.mm_decomp.proofs.ShapeLemmas.{leaf_names-append}

pub after_steps-append : (shapes : List Shape) (xs ys : List Step) → after_steps shapes (xs ++ ys) ≡ after_steps (after_steps shapes xs) ys
after_steps-append shapes [] ys = refl
after_steps-append shapes (x ∷ xs) ys = after_steps-append (after_step shapes x) xs ys

pub next_shapes : (xs : List Step) (i : ℕ) (step d : Step) → i < length xs → get_or xs i d ≡ step →
    after_steps [] (take (i + 1) xs) ≡ after_step (after_steps [] (take i xs)) step
next_shapes xs i step d l e =
    ap (after_steps []) (take_more xs i d l ∙ ap (λ s. take i xs ++ s ∷ []) e) ∙ after_steps-append [] (take i xs) (step ∷ [])

-- ---- joins that find two

pub FindTwo-rest : (shapes : List Shape) (xs ys : List Step) → FindTwo shapes (xs ++ ys) → FindTwo (after_steps shapes xs) ys
FindTwo-rest shapes [] ys h = h
FindTwo-rest shapes (steps.Leaf name weight ∷ xs) ys h = FindTwo-rest (after_step shapes (steps.Leaf name weight)) xs ys h
FindTwo-rest shapes (steps.Join ∷ xs) ys h = FindTwo-rest (after_step shapes steps.Join) xs ys h.1

pub FindTwo-front : (shapes : List Shape) (xs ys : List Step) → FindTwo shapes (xs ++ ys) → FindTwo shapes xs
FindTwo-front shapes [] ys h = tt
FindTwo-front shapes (steps.Leaf name weight ∷ xs) ys h = FindTwo-front (after_step shapes (steps.Leaf name weight)) xs ys h
FindTwo-front shapes (steps.Join ∷ xs) ys h = (h.0, FindTwo-front (after_step shapes steps.Join) xs ys h.1)

pub parts_at : (xs : List Step) (i : ℕ) (step d : Step) → i < length xs → get_or xs i d ≡ step → xs ≡ take i xs ++ step ∷ drop (suc i) xs
parts_at xs i step d l e = sym (take-append-drop i xs) ∙ ap (λ ys. take i xs ++ ys) (drop-cons xs i d l ∙ ap (λ s. s ∷ drop (suc i) xs) e)

pub two_at : (xs : List Step) (i : ℕ) (d : Step) → i < length xs → get_or xs i d ≡ steps.Join → FindTwo [] xs → 2 ≤ length (after_steps [] (take i xs))
two_at xs i d l e h =
    (FindTwo-rest [] (take i xs) (steps.Join ∷ drop (suc i) xs) (subst (λ ys. FindTwo [] ys) (parts_at xs i steps.Join d l e) h)).0

-- ---- how many leaves and joins

leaves_step : (shapes : List Shape) → 2 ≤ length shapes → leaves_in (after_step shapes steps.Join) ≡ leaves_in shapes
unfolding leaves
leaves_step [] h = absurd (omega arith)
leaves_step (shape ∷ []) h = absurd (omega arith)
leaves_step (right ∷ left ∷ shapes) h = omega arith

leaf_one : (name : List ℕ) (weight : ℤ) → leaves (Leaf name weight) ≡ 1
unfolding leaves
leaf_one name weight = refl

pub leaves_after : (shapes : List Shape) (xs : List Step) → FindTwo shapes xs → leaves_in (after_steps shapes xs) ≡ leaves_in shapes + length (leaf_names xs)
leaves_after shapes [] h = omega arith
leaves_after shapes (steps.Leaf name weight ∷ xs) h =
    let e = leaves_after (after_step shapes (steps.Leaf name weight)) xs h in
    let o = leaf_one name weight in
    omega (arith, e, o)
leaves_after shapes (steps.Join ∷ xs) h =
    let e = leaves_after (after_step shapes steps.Join) xs h.1 in
    let s = leaves_step shapes h.0 in
    omega (arith, e, s)

one_more : (shape : Shape) → joins shape + 1 ≡ leaves shape
unfolding joins leaves
one_more (Leaf name weight) = refl
one_more (Join left right) = let a = one_more left in let b = one_more right in omega (arith, a, b)

pub joins_and_leaves : (shapes : List Shape) → joins_in shapes + length shapes ≡ leaves_in shapes
joins_and_leaves [] = refl
joins_and_leaves (shape ∷ shapes) = let a = one_more shape in let b = joins_and_leaves shapes in omega (arith, a, b)

pub leaf_in : (xs : List Step) (i : ℕ) (d : Step) (name : List ℕ) (weight : ℤ) → i < length xs → get_or xs i d ≡ steps.Leaf name weight →
    FindTwo [] xs → leaves_in (after_steps [] (take i xs)) < length (leaf_names xs)
leaf_in xs i d name weight l e h =
    let p = parts_at xs i (steps.Leaf name weight) d l e in
    let front = FindTwo-front [] (take i xs) (steps.Leaf name weight ∷ drop (suc i) xs) (subst (λ ys. FindTwo [] ys) p h) in
    let a = leaves_after [] (take i xs) front in
    let b = ap (λ ys. length (leaf_names ys)) p ∙ ap length (leaf_names-append (take i xs) (steps.Leaf name weight ∷ drop (suc i) xs))
    ∙ length-append (leaf_names (take i xs)) (name ∷ leaf_names (drop (suc i) xs)) in
    omega (arith, a, b)

pub leaves_most : (xs : List Step) (i : ℕ) → FindTwo [] xs → leaves_in (after_steps [] (take i xs)) ≤ length (leaf_names xs)
leaves_most xs i h =
    let p = sym (take-append-drop i xs) in
    let front = FindTwo-front [] (take i xs) (drop i xs) (subst (λ ys. FindTwo [] ys) p h) in
    let a = leaves_after [] (take i xs) front in
    let b = ap (λ ys. length (leaf_names ys)) p ∙ ap length (leaf_names-append (take i xs) (drop i xs))
    ∙ length-append (leaf_names (take i xs)) (leaf_names (drop i xs)) in
    omega (arith, a, b)

-- ---- the forms of the last two

pub forms_over : (c : LeafColumns) (f : Field) (shapes : List Shape) (forms : List Form) → f ≡ c.f → AreFormsOf c shapes forms → AreOf f forms
forms_over c f [] [] e h = All-nil (λ form. form.basis.f ≡ f)
forms_over c f [] (form ∷ forms) e h = absurd h
forms_over c f (shape ∷ shapes) [] e h = absurd h
forms_over c f (shape ∷ shapes) (form ∷ forms) e h =
    All-cons (λ form. form.basis.f ≡ f) form forms (h.0.sizes.basis_field ∙ sym e) (forms_over c f shapes forms e h.1)

over : {c : LeafColumns} {p : ℕ} {left : Shape} {l : Form} (P : Field → ℕ → ℕ → Type 0) → IsFormAt c p left l → P c.f c.k c.g →
    P l.basis.f l.functionals.cols l.basis.cols
over {c} {p} {left} {l} P al x =
    subst (λ f. P f l.functionals.cols l.basis.cols) (sym al.sizes.basis_field)
    (subst (λ k. P c.f k l.basis.cols) (sym al.sizes.size) (subst (λ g. P c.f c.k g) (sym al.sizes.basis_size) x))

pub last_fit : (c : LeafColumns) (left right : Shape) (shapes : List Shape) (forms : List Form) → AreFormsOf c (right ∷ left ∷ shapes) forms → LastFit forms
last_fit c left right shapes [] h = absurd h
last_fit c left right shapes (r ∷ []) h = absurd h.1
last_fit c left right shapes (r ∷ l ∷ forms) h =
    let al = h.1.0 in
    let ar = h.0 in
    record {
      left_sizes = over (λ f k g. HasSizes f k g l) al al.sizes;
      right_sizes = over (λ f k g. HasSizes f k g r) al ar.sizes;
      left_reduced = over (λ f k g. IsReducedBasis f g l.basis.rows) al al.reduced;
      right_reduced = over (λ f k g. IsReducedBasis f g r.basis.rows) al ar.reduced;
      left_few = al.few;
      right_few = ar.few;
    }

-- two shapes at least
pub record TwoLast (shapes : List Shape) : Type 0 where
  pub left : Shape
  pub right : Shape
  pub rest : List Shape
  pub are : shapes ≡ right ∷ left ∷ rest

pub two_last : (shapes : List Shape) → 2 ≤ length shapes → TwoLast shapes
two_last [] h = absurd (omega arith)
two_last (shape ∷ []) h = absurd (omega arith)
two_last (right ∷ left ∷ rest) h = record { left = left; right = right; rest = rest; are = refl }

pub takes_join : (c : LeafColumns) (xs : List Step) (i : ℕ) (old new : Building) (shapes : List Shape) (t : TwoLast shapes) (r : Result (Unit {0}) DecompFault) →
    after_steps [] (take i xs) ≡ shapes → after_steps [] (take (i + 1) xs) ≡ after_step shapes steps.Join → IsBuilding c shapes old →
    JoinsLast old new i r → TakesStep c xs i new r
takes_join c xs i old new shapes t (Ok u) e en b j =
    subst (λ s. IsBuilding c s new) (sym (en ∙ ap (λ s. after_step s steps.Join) t.are))
    (j c t.left t.right t.rest (subst (λ s. IsBuilding c s old) t.are b))
takes_join c xs i old new shapes t (Err (faults.Width wide)) e en b j = (
  j.0,
  subst (λ s. All (λ t. t ≤ 6) (boundaries_in c s)) (sym e) b.narrow,
  subst (λ s. 6 < last_boundary c s) (sym (en ∙ ap (λ s. after_step s steps.Join) t.are))
      (j.1 c t.left t.right t.rest (subst (λ s. IsBuilding c s old) t.are b)),
)
takes_join c xs i old new shapes t (Err faults.NoMemory) e en b j = tt

-- ---- boundaries, step by step

pub boundaries_step : (c : LeafColumns) (shapes : List Shape) (xs : List Step) (step : Step) → FindTwo shapes (step ∷ xs) →
    boundaries_in c (after_step shapes step) ≡ boundaries_in c shapes ++ last_boundary c (after_step shapes step) ∷ []
unfolding found_boundaries
boundaries_step c shapes xs (steps.Leaf name weight) h = refl
boundaries_step c [] xs steps.Join h = absurd (let a : 2 ≤ 0 = h.0 in omega arith)
boundaries_step c (shape ∷ []) xs steps.Join h = absurd (let a : 2 ≤ 1 = h.0 in omega arith)
boundaries_step c (right ∷ left ∷ shapes) xs steps.Join h =
    let p = leaves_in shapes in
    let b = length (found_space c p (Join left right)) ∷ [] in
    sym (append_assoc (boundaries_in c shapes) (found_boundaries c p left) (found_boundaries c (p + leaves left) right ++ b))
    ∙ sym (append_assoc (boundaries_in c shapes ++ found_boundaries c p left) (found_boundaries c (p + leaves left) right) b)

pub record HasMore (c : LeafColumns) (shapes next : List Shape) (n : ℕ) : Type 0 where
  pub more : List ℕ
  pub are : boundaries_in c next ≡ boundaries_in c shapes ++ more
  pub count : length more ≡ n

front_step : (shapes : List Shape) (step : Step) (xs : List Step) → FindTwo shapes (step ∷ xs) → FindTwo (after_step shapes step) xs
front_step shapes (steps.Leaf name weight) xs h = h
front_step shapes steps.Join xs h = h.1

pub boundaries_after : (c : LeafColumns) (shapes : List Shape) (xs : List Step) → FindTwo shapes xs → HasMore c shapes (after_steps shapes xs) (length xs)
boundaries_after c shapes [] h = record { more = []; are = sym (append-nil (boundaries_in c shapes)); count = refl }
boundaries_after c shapes (x ∷ xs) h =
    let s = boundaries_step c shapes xs x h in
    let r = boundaries_after c (after_step shapes x) xs (front_step shapes x xs h) in
    record {
      more = last_boundary c (after_step shapes x) ∷ r.more;
      are = r.are ∙ ap (λ bs. bs ++ r.more) s ∙ append_assoc (boundaries_in c shapes) (last_boundary c (after_step shapes x) ∷ []) r.more;
      count = ap suc r.count;
    }

at_end : (bs : List ℕ) (b : ℕ) (more : List ℕ) → get_or (bs ++ b ∷ more) (length bs) 0 ≡ b
at_end [] b more = refl
at_end (x ∷ bs) b more = at_end bs b more

-- the first step whose boundary is above 6
pub wide_at : (c : LeafColumns) (xs : List Step) (i : ℕ) (d : Step) → i < length xs → FindTwo [] xs → All (λ t. t ≤ 6) (boundaries_in c (after_steps [] (take i xs))) →
    6 < last_boundary c (after_steps [] (take (i + 1) xs)) → position (λ t. nat_lt 6 t) (boundaries_in c (after_steps [] xs)) ≡ Some i
wide_at c xs i d l h narrow wide =
    let step = get_or xs i d in
    let rest = drop (suc i) xs in
    let p = parts_at xs i step d l refl in
    let h2 : FindTwo [] (take i xs ++ step ∷ rest) = subst (λ ys. FindTwo [] ys) p h in
    let shapes = after_steps [] (take i xs) in
    let front = boundaries_after c [] (take i xs) (FindTwo-front [] (take i xs) (step ∷ rest) h2) in
    let here = FindTwo-rest [] (take i xs) (step ∷ rest) h2 in
    let after = boundaries_after c shapes (step ∷ rest) here in
    let s = boundaries_step c shapes rest step here in
    let r = boundaries_after c (after_step shapes step) rest (front_step shapes step rest here) in
    let b = last_boundary c (after_step shapes step) in
    let all : boundaries_in c (after_steps [] xs) ≡ boundaries_in c shapes ++ b ∷ r.more =
    ap (λ ys. boundaries_in c (after_steps [] ys)) p ∙ ap (boundaries_in c) (after_steps-append [] (take i xs) (step ∷ rest))
    ∙ r.are ∙ ap (λ bs. bs ++ r.more) s ∙ append_assoc (boundaries_in c shapes) (b ∷ []) r.more in
    let count : length (boundaries_in c shapes) ≡ i = ap length front.are ∙ front.count ∙ length-take-le i xs (omega arith) in
    let big : 6 < b = subst (λ ss. 6 < last_boundary c ss) (next_shapes xs i step d l refl) wide in
    ap (position (λ t. nat_lt 6 t)) all ∙ found (boundaries_in c shapes) b r.more narrow big ∙ ap Some count
  where
    found : (bs : List ℕ) (b : ℕ) (more : List ℕ) → All (λ t. t ≤ 6) bs → 6 < b → position (λ t. nat_lt 6 t) (bs ++ b ∷ more) ≡ Some (length bs)
    found bs b more narrow big =
        let all = bs ++ b ∷ more in
        let la = length-append bs (b ∷ more) in
        let at : position_or_len (λ t. nat_lt 6 t) all ≡ length bs =
        position_or_len_is (λ t. nat_lt 6 t) all (length bs) 0 (omega arith)
        (λ k lk. ap (nat_lt 6) (get_or_append_left bs (b ∷ more) 0 k lk) ∙ le-ltb 6 (get_or bs k 0) (narrow k 0 lk))
        (λ lb. ap (nat_lt 6) (at_end bs b more) ∙ lt-ltb 6 b big) in
        ap (λ n. cond (nat_lt n (length all)) (Some n) None) at
        ∙ ap (λ x. cond x (Some (length bs)) None) (lt-ltb (length bs) (length all) (omega arith))

pub no_wide : (bs : List ℕ) → All (λ t. t ≤ 6) bs → position (λ t. nat_lt 6 t) bs ≡ None
no_wide bs narrow =
    let past : length bs ≤ length bs = omega arith in
    let at = position_or_len_is (λ t. nat_lt 6 t) bs (length bs) 0 past (λ k lk. le-ltb 6 (get_or bs k 0) (narrow k 0 lk)) (λ l. absurd (omega arith)) in
    ap (λ n. cond (nat_lt n (length bs)) (Some n) None) at ∙ ap (λ b. cond b (Some (length bs)) None) (le-ltb (length bs) (length bs) past)

-- ---- how many steps

pub steps_count : (shapes : List Shape) (xs : List Step) → FindTwo shapes xs →
    joins_in (after_steps shapes xs) + leaves_in (after_steps shapes xs) ≡ joins_in shapes + leaves_in shapes + length xs
unfolding joins leaves
steps_count shapes [] h = omega arith
steps_count shapes (steps.Leaf name weight ∷ xs) h = let e = steps_count (after_step shapes (steps.Leaf name weight)) xs h in omega (arith, e)
steps_count [] (steps.Join ∷ xs) h = absurd (let a : 2 ≤ 0 = h.0 in omega arith)
steps_count (shape ∷ []) (steps.Join ∷ xs) h = absurd (let a : 2 ≤ 1 = h.0 in omega arith)
steps_count (right ∷ left ∷ shapes) (steps.Join ∷ xs) h = let e = steps_count (Join left right ∷ shapes) xs h.1 in omega (arith, e)

pub steps_few : (xs : List Step) → FindTwo [] xs → length (leaf_names xs) ≤ 4096 → length xs < 2 ^ 32
steps_few xs h few =
    let a = steps_count [] xs h in
    let b = leaves_after [] xs h in
    let d = joins_and_leaves (after_steps [] xs) in
    omega (arith, a, b, d)

-- the weight of a leaf
pub weight_light : (xs : List Step) (i : ℕ) (d : Step) (name : List ℕ) (weight : ℤ) → i < length xs → get_or xs i d ≡ steps.Leaf name weight →
    All (λ step. IsLight step) xs → nat_abs weight ≤ 1000000000000
weight_light xs i d name weight l e h = subst (λ s. IsLight s) e (h i d l)

pub weight_fits : (weight : ℤ) → nat_abs weight ≤ 1000000000000 → to_z w64 (of_z w64 weight) ≡ weight
weight_fits (pos n) h = to_z-of_z w64 (pos n) (record { sfits = omega arith })
weight_fits (negsuc n) h = to_z-of_z w64 (negsuc n) (record { sfits = omega arith })
