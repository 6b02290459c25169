-- Places of nodes, and the ways of their numbers.
use Rattle.std.proofs.Common.{ℕ, ℤ, zero, suc, ◌≡◌, ◌<◌, ◌+◌, ◌-◌, nat_le, Bool, true, false, List, [], ◌∷◌, length, take, refl, sym, ap, ap₂, ◌∙◌, subst, Option, Some, None, if◌then◌else◌, arith, length-take}
use Rattle.std.specs.Str.{bytes_eq}
use Rattle.std.proofs.lemmas.Bool.{le-leb, lt-leb}
use Rattle.mm_logic.specs.Operator.{Op}
use Rattle.mm_tree.specs.NamedTree.{Tree, nodes}
use Rattle.mm_tree.specs.NamedTree.Tree.{Elem, Void, Join}
use Rattle.mm_tree.specs.Places.{path_of, IsPlaceOf, IsPath, less_steps, path_above, place_at, place_at_end, IsReached}
use Rattle.mm_tree.specs.Paths.{Path, going, first_path, path_to, number_at}
use Rattle.mm_tree.specs.declared.place.Place.{Place}
use Rattle.mm_tree.specs.declared.place.Reached.{Reached}
use Rattle.mm_tree.specs.declared.place.Reached.TheVariants.{Absent, Above, At}
use Rattle.mm_tree.proofs.PathLemmas.{nodes_join, some_nodes, of_absent, of_above, of_at, number_left, number_right, number_root}
use Rattle.mm_tree.proofs.StepLemmas.{path_root, path_of_left, path_of_right}

-- ---- the number of a node leads to it

pub number_within : (tree : Tree) (path : Path) → IsPath tree path → number_at tree path < nodes tree
unfolding IsPath
number_within tree [] w = let a = number_root tree in let b = some_nodes tree in omega arith
number_within (Elem n vec weight) (step ∷ path) w = absurd w
number_within (Void n t) (step ∷ path) w = absurd w
number_within (Join n op left right) (true ∷ path) w =
    let a = number_within left path w in
    let b = number_left n op left right path in
    let c = nodes_join n op left right in
    omega arith
number_within (Join n op left right) (false ∷ path) w =
    let a = number_within right path w in
    let b = number_right n op left right path in
    let c = nodes_join n op left right in
    omega arith

pub path_of_number : (tree : Tree) (path : Path) → IsPath tree path → path_of (number_at tree path) tree ≡ path
unfolding IsPath
path_of_number tree [] w = ap (λ (k : ℕ). path_of k tree) (number_root tree) ∙ path_root tree
path_of_number (Elem n vec weight) (step ∷ path) w = absurd w
path_of_number (Void n t) (step ∷ path) w = absurd w
path_of_number (Join n op left right) (true ∷ path) w =
    let a = number_within left path w in
    let b = number_left n op left right path in
    let e : number_at left path + 1 - 1 ≡ number_at left path = omega arith in
    ap (λ (k : ℕ). path_of k (Join n op left right)) b
    ∙ path_of_left (number_at left path + 1) n op left right (omega arith) (omega arith)
    ∙ ap (λ (k : ℕ). true ∷ path_of k left) e ∙ ap (λ (v : Path). true ∷ v) (path_of_number left path w)
path_of_number (Join n op left right) (false ∷ path) w =
    let b = number_right n op left right path in
    ap (λ (k : ℕ). path_of k (Join n op left right)) b
    ∙ path_of_right (number_at right path + nodes left + 1) (number_at right path) n op left right (omega arith) (omega arith)
    ∙ ap (λ (v : Path). false ∷ v) (path_of_number right path w)

-- ---- ways to leaves

some_is : (a b : Path) → Some a ≡ Some b → a ≡ b
some_is a b e = cc

pub step_left : (n : List ℕ) (op : Op) (left right : Tree) (path : Path) → IsPath left path → IsPath (Join n op left right) (true ∷ path)
unfolding IsPath
step_left n op left right path w = w

pub step_right : (n : List ℕ) (op : Op) (left right : Tree) (path : Path) → IsPath right path → IsPath (Join n op left right) (false ∷ path)
unfolding IsPath
step_right n op left right path w = w

left_step : (n : List ℕ) (op : Op) (left right : Tree) (path : Path) → IsPath (Join n op left right) (true ∷ path) → IsPath left path
unfolding IsPath
left_step n op left right path w = w

right_step : (n : List ℕ) (op : Op) (left right : Tree) (path : Path) → IsPath (Join n op left right) (false ∷ path) → IsPath right path
unfolding IsPath
right_step n op left right path w = w

no_step_elem : (n vec : List ℕ) (weight : ℤ) (step : Bool) (path : Path) → IsPath (Elem n vec weight) (step ∷ path) → ⊥
unfolding IsPath
no_step_elem n vec weight step path w = w

no_step_void : (n : List ℕ) (t : ℕ) (step : Bool) (path : Path) → IsPath (Void n t) (step ∷ path) → ⊥
unfolding IsPath
no_step_void n t step path w = w

pub IsPath-root : (tree : Tree) → IsPath tree []
unfolding IsPath
IsPath-root (Elem n vec weight) = tt
IsPath-root (Void n t) = tt
IsPath-root (Join n op left right) = tt

pub path_to_leaf : (name : List ℕ) (tree : Tree) (path : Path) → path_to name tree ≡ Some path → IsPath tree path
unfolding path_to
path_to_leaf name (Elem n vec weight) path e = go (bytes_eq name n) e
  where
    go : (b : Bool) → (if b then Some [] else None) ≡ Some path → IsPath (Elem n vec weight) path
    go true e = subst (λ (w : Path). IsPath (Elem n vec weight) w) (some_is [] path e) (IsPath-root (Elem n vec weight))
    go false e = cc
path_to_leaf name (Void n t) path e = go (bytes_eq name n) e
  where
    go : (b : Bool) → (if b then Some [] else None) ≡ Some path → IsPath (Void n t) path
    go true e = subst (λ (w : Path). IsPath (Void n t) w) (some_is [] path e) (IsPath-root (Void n t))
    go false e = cc
path_to_leaf name (Join n op left right) path e =
    go (path_to name left) (path_to name right) (path_to_leaf name left) (path_to_leaf name right) e
  where
    go : (a b : Option Path) → ((w : Path) → a ≡ Some w → IsPath left w) → ((w : Path) → b ≡ Some w → IsPath right w) →
        first_path (going true a) (going false b) ≡ Some path → IsPath (Join n op left right) path
    go (Some w) b f g e = subst (λ (v : Path). IsPath (Join n op left right) v) (some_is (true ∷ w) path e) (step_left n op left right w (f w refl))
    go None (Some w) f g e = subst (λ (v : Path). IsPath (Join n op left right) v) (some_is (false ∷ w) path e) (step_right n op left right w (g w refl))
    go None None f g e = cc

pub path_front : (tree : Tree) (path : Path) (k : ℕ) → IsPath tree path → IsPath tree (take k path)
path_front tree path zero w = IsPath-root tree
path_front tree [] (suc k) w = IsPath-root tree
path_front (Elem n vec weight) (step ∷ path) (suc k) w = absurd (no_step_elem n vec weight step path w)
path_front (Void n t) (step ∷ path) (suc k) w = absurd (no_step_void n t step path w)
path_front (Join n op left right) (true ∷ path) (suc k) w = step_left n op left right (take k path) (path_front left path k (left_step n op left right path w))
path_front (Join n op left right) (false ∷ path) (suc k) w = step_right n op left right (take k path) (path_front right path k (right_step n op left right path w))

-- ---- what the search for a place answers

pub found_none : (tree : Tree) (up : ℕ) (o : Option Path) (found : Reached) (steps : ℕ) (here : Place) → found ≡ Above steps → IsReached tree here up o found →
    place_at_end tree (less_steps up o) ≡ None
found_none tree up o found steps here e r =
    let p = of_above tree here up o steps (subst (λ (x : Reached). IsReached tree here up o x) e r) in
    let path = p.0 in
    let a = p.2 in
    let b = p.3 in
    ap (λ (x : Option Path). place_at_end tree (less_steps up x)) p.1
    ∙ ap (λ (t : Bool). place_at_end tree (if t then Some (take (length path - up) path) else None)) (no_more (length path) up (omega arith))
  where
    no_more : (k n : ℕ) → k < n → nat_le n k ≡ false
    no_more k n l = lt-leb n k l

pub found_absent : (tree : Tree) (up : ℕ) (o : Option Path) (found : Reached) (passed : ℕ) (here : Place) → found ≡ Absent passed →
    IsReached tree here up o found → place_at_end tree (less_steps up o) ≡ None
found_absent tree up o found passed here e r =
    ap (λ (x : Option Path). place_at_end tree (less_steps up x))
    (of_absent tree here up o passed (subst (λ (x : Reached). IsReached tree here up o x) e r)).0

same_place : (p q : Place) → p.number ≡ q.number → p.depth ≡ q.depth → p ≡ q
same_place p q a b = ap₂ (λ (n d : ℕ). let r : Place = record { number = n; depth = d } in r) a b

pub found_place : (tree : Tree) (name : List ℕ) (up : ℕ) (place : Place) (here : Place) → here.number ≡ 0 → here.depth ≡ 0 →
    IsReached tree here up (path_to name tree) (At place) →
    (place_at_end tree (path_above name up tree) ≡ Some place) × IsPlaceOf tree place
found_place tree name up place here hn hd r =
    let p = of_at tree here up (path_to name tree) place r in
    let path = p.0 in
    let l = p.2 in
    let x = p.3 in
    let y = p.4 in
    let short = take (length path - up) path in
    let is = path_front tree path (length path - up) (path_to_leaf name tree path p.1) in
    let deep : length short ≡ length path - up = length-take (length path - up) path ∙ omega arith in
    let number : number_at tree short ≡ place.number = omega arith in
    let depth : length short ≡ place.depth = omega arith in
    let within = number_within tree short is in (
      ap (λ (o : Option Path). place_at_end tree (less_steps up o)) p.1
          ∙ ap (λ (t : Bool). place_at_end tree (if t then Some short else None)) (le-leb up (length path) l)
          ∙ ap (λ (q : Place). Some q) (same_place (place_at tree short) place number depth),
      record {
        within = omega arith;
        deep = sym depth ∙ ap (λ (w : Path). length w) (sym (path_of_number tree short is)) ∙ ap (λ (k : ℕ). length (path_of k tree)) number;
      },
    )
