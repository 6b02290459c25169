-- Ways from the root to nodes, and the numbers of these.
use Rattle.std.proofs.Common.{ℕ, suc, ◌≡◌, ◌<◌, ◌≤◌, ◌+◌, ◌-◌, Bool, true, false, List, [], ◌∷◌, length, take, refl, sym, ap, ap₂, ◌∙◌, subst, Option, Some, None, if◌then◌else◌, arith}
use Rattle.std.specs.Str.{bytes_eq}
use Rattle.mm_logic.specs.Operator.{Op}
use Rattle.mm_tree.specs.NamedTree.{Tree, nodes}
use Rattle.mm_tree.specs.NamedTree.Tree.{Elem, Void, Join}
use Rattle.mm_tree.specs.Nodes.{named_leaf}
use Rattle.mm_tree.specs.Places.{IsReached}
use Rattle.mm_tree.specs.Steps.{IsClimbed}
use Rattle.mm_tree.specs.Paths.{Path, going, first_path, path_to, number_at}
use Rattle.mm_tree.specs.declared.place.Place.{Place}
use Rattle.mm_tree.specs.declared.place.Reached.{Reached}
use Rattle.mm_tree.specs.declared.place.Reached.TheVariants.{Absent, Above, At}
use Rattle.mm_tree.specs.declared.node.Item.{Item}
use Rattle.mm_tree.specs.declared.node.Leaf as leaves

-- ---- sizes

pub nodes_join : (n : List ℕ) (op : Op) (left right : Tree) → nodes (Join n op left right) ≡ nodes left + nodes right + 1
unfolding nodes
nodes_join n op left right = refl

pub some_nodes : (tree : Tree) → 0 < nodes tree
unfolding nodes
some_nodes (Elem n vec weight) = omega arith
some_nodes (Void n t) = omega arith
some_nodes (Join n op left right) = omega arith

-- ---- the way to a leaf

pub leaf_path : (name : List ℕ) (l : leaves.Leaf) → path_to name (named_leaf l) ≡ (if bytes_eq name l.name then Some [] else None)
unfolding path_to
leaf_path name l = go l.item
  where
    go : (item : Option Item) → path_to name (named_leaf (record l { item = item })) ≡ (if bytes_eq name l.name then Some [] else None)
    go None = refl
    go (Some item) = refl

pub path_left : (name n : List ℕ) (op : Op) (left right : Tree) (path : Path) → path_to name left ≡ Some path →
    path_to name (Join n op left right) ≡ Some (true ∷ path)
unfolding path_to
path_left name n op left right path e = ap (λ (o : Option Path). first_path (going true o) (going false (path_to name right))) e

pub path_right : (name n : List ℕ) (op : Op) (left right : Tree) (o : Option Path) → path_to name left ≡ None → path_to name right ≡ o →
    path_to name (Join n op left right) ≡ going false o
unfolding path_to
path_right name n op left right o e p = ap₂ (λ (a b : Option Path). first_path (going true a) (going false b)) e p

-- ---- what a search reaches

pub number_root : (tree : Tree) → number_at tree [] ≡ 0
unfolding number_at
number_root (Elem n vec weight) = refl
number_root (Void n t) = refl
number_root (Join n op left right) = refl

pub to_absent : (tree : Tree) (here : Place) (up : ℕ) (o : Option Path) (passed : ℕ) → o ≡ None → passed ≡ nodes tree →
    IsReached tree here up o (Absent passed)
unfolding IsReached
to_absent tree here up None passed e p = p
to_absent tree here up (Some path) passed e p = cc

pub of_absent : (tree : Tree) (here : Place) (up : ℕ) (o : Option Path) (passed : ℕ) → IsReached tree here up o (Absent passed) →
    (o ≡ None) × (passed ≡ nodes tree)
unfolding IsReached
of_absent tree here up None passed r = (refl, r)
of_absent tree here up (Some path) passed r = absurd r

pub to_above : (tree : Tree) (here : Place) (up : ℕ) (o : Option Path) (path : Path) (steps : ℕ) → o ≡ Some path → 1 ≤ steps →
    length path + steps ≡ up → IsReached tree here up o (Above steps)
unfolding IsReached
to_above tree here up o path steps e p q = subst (λ (x : Option Path). IsReached tree here up x (Above steps)) (sym e) (p, q)

pub of_above : (tree : Tree) (here : Place) (up : ℕ) (o : Option Path) (steps : ℕ) → IsReached tree here up o (Above steps) →
    (path : Path) × (o ≡ Some path) × (1 ≤ steps) × (length path + steps ≡ up)
unfolding IsReached
of_above tree here up None steps r = absurd r
of_above tree here up (Some path) steps r = (path, refl, r.0, r.1)

pub to_at : (tree : Tree) (here : Place) (up : ℕ) (o : Option Path) (path : Path) (place : Place) → o ≡ Some path → up ≤ length path →
    place.number ≡ here.number + number_at tree (take (length path - up) path) → place.depth ≡ here.depth + (length path - up) →
    IsReached tree here up o (At place)
unfolding IsReached
to_at tree here up o path place e p q r =
    subst (λ (x : Option Path). IsReached tree here up x (At place)) (sym e) (p, q, r)

pub of_at : (tree : Tree) (here : Place) (up : ℕ) (o : Option Path) (place : Place) → IsReached tree here up o (At place) →
    (path : Path) × (o ≡ Some path) × (up ≤ length path) × (place.number ≡ here.number + number_at tree (take (length path - up) path))
    × (place.depth ≡ here.depth + (length path - up))
unfolding IsReached
of_at tree here up None place r = absurd r
of_at tree here up (Some path) place r = (path, refl, r.0, r.1, r.2)

-- no steps are left, or the search goes on above
pub climbed : (tree : Tree) (here : Place) (up : ℕ) (o : Option Path) (path : Path) (steps : ℕ) (found : Reached) → o ≡ Some path →
    length path + steps ≡ up → IsClimbed here steps found → IsReached tree here up o found
climbed tree here up o path steps (Absent passed) e p c = absurd c
climbed tree here up o path steps (Above left) e p c = to_above tree here up o path left e c.0 (omega (arith, c.1))
climbed tree here up o path steps (At place) e p c =
    let none : length path - up ≡ 0 = omega (arith, c.0) in
    to_at tree here up o path place e (omega (arith, c.0))
    (c.1 ∙ sym (ap (λ (k : ℕ). here.number + number_at tree (take k path)) none
    ∙ ap (λ (k : ℕ). here.number + k) (number_root tree) ∙ plus_zero here.number))
    (omega (arith, c.0, c.2))
  where
    plus_zero : (k : ℕ) → k + 0 ≡ k
    plus_zero k = omega arith

abbrev below : Place → ℕ → Place
below here passed = record { number = here.number + 1 + passed; depth = here.depth + 1 }

abbrev pub Finds : List ℕ → Tree → Place → ℕ → Reached → Type 0
Finds name tree here up found = IsReached tree here up (path_to name tree) found

pub finds_leaf : (name : List ℕ) (l : leaves.Leaf) (here : Place) (up : ℕ) (found : Reached) → bytes_eq name l.name ≡ true →
    IsClimbed here up found → Finds name (named_leaf l) here up found
finds_leaf name l here up found e c =
    climbed (named_leaf l) here up (path_to name (named_leaf l)) [] up found
    (leaf_path name l ∙ ap (λ (b : Bool). if b then Some [] else None) e) (omega arith) c

pub lacks_leaf : (name : List ℕ) (l : leaves.Leaf) (here : Place) (up : ℕ) → bytes_eq name l.name ≡ false → nodes (named_leaf l) ≡ 1 →
    Finds name (named_leaf l) here up (Absent 1)
lacks_leaf name l here up e one =
    to_absent (named_leaf l) here up (path_to name (named_leaf l)) 1
    (leaf_path name l ∙ ap (λ (b : Bool). if b then Some [] else None) e) (sym one)

pub climbs_left : (name n : List ℕ) (op : Op) (left right : Tree) (here under : Place) (up steps : ℕ) (found : Reached) →
    Finds name left under up (Above steps) → IsClimbed here (steps - 1) found → Finds name (Join n op left right) here up found
climbs_left name n op left right here under up steps found a c =
    let p = of_above left under up (path_to name left) steps a in
    climbed (Join n op left right) here up (path_to name (Join n op left right)) (true ∷ p.0) (steps - 1) found
    (path_left name n op left right p.0 p.1) (let b = p.2 in let d = p.3 in omega arith) c

pub climbs_right : (name n : List ℕ) (op : Op) (left right : Tree) (here before under : Place) (up passed steps : ℕ) (found : Reached) →
    Finds name left before up (Absent passed) → Finds name right under up (Above steps) → IsClimbed here (steps - 1) found →
    Finds name (Join n op left right) here up found
climbs_right name n op left right here before under up passed steps found l a c =
    let p = of_above right under up (path_to name right) steps a in
    climbed (Join n op left right) here up (path_to name (Join n op left right)) (false ∷ p.0) (steps - 1) found
    (path_right name n op left right (Some p.0) (of_absent left before up (path_to name left) passed l).0 p.1)
    (let b = p.2 in let d = p.3 in omega arith) c

pub lacks_both : (name n : List ℕ) (op : Op) (left right : Tree) (here before under : Place) (up passed more : ℕ) →
    Finds name left before up (Absent passed) → Finds name right under up (Absent more) →
    Finds name (Join n op left right) here up (Absent (passed + more + 1))
lacks_both name n op left right here before under up passed more l r =
    let a = of_absent left before up (path_to name left) passed l in
    let b = of_absent right under up (path_to name right) more r in
    to_absent (Join n op left right) here up (path_to name (Join n op left right)) (passed + more + 1)
    (path_right name n op left right None a.0 b.0)
    (let x = a.1 in let y = b.1 in let z = nodes_join n op left right in omega arith)

pub number_left : (n : List ℕ) (op : Op) (left right : Tree) (path : Path) → number_at (Join n op left right) (true ∷ path) ≡ number_at left path + 1
unfolding number_at
number_left n op left right path = refl

pub number_right : (n : List ℕ) (op : Op) (left right : Tree) (path : Path) →
    number_at (Join n op left right) (false ∷ path) ≡ number_at right path + nodes left + 1
unfolding number_at
number_right n op left right path = refl

taken_on : (b : Bool) (path : Path) (up : ℕ) → up ≤ length path → take (length (b ∷ path) - up) (b ∷ path) ≡ b ∷ take (length path - up) path
taken_on b path up l =
    let e : suc (length path) - up ≡ suc (length path - up) = omega arith in
    ap (λ (k : ℕ). take k (b ∷ path)) e

pub reaches_left : (name n : List ℕ) (op : Op) (left right : Tree) (here : Place) (up : ℕ) (place : Place) →
    Finds name left (record { number = here.number + 1; depth = here.depth + 1 }) up (At place) → Finds name (Join n op left right) here up (At place)
reaches_left name n op left right here up place a =
    let under : Place = record { number = here.number + 1; depth = here.depth + 1 } in
    let p = of_at left under up (path_to name left) place a in
    let path = p.0 in
    let l = p.2 in
    let e = ap (number_at (Join n op left right)) (taken_on true path up l) ∙ number_left n op left right (take (length path - up) path) in
    let x = p.3 in
    let y = p.4 in
    to_at (Join n op left right) here up (path_to name (Join n op left right)) (true ∷ path) place (path_left name n op left right path p.1)
    (omega arith) (omega arith) (omega arith)

pub reaches_right : (name n : List ℕ) (op : Op) (left right : Tree) (here before : Place) (up passed : ℕ) (place : Place) →
    Finds name left before up (Absent passed) → Finds name right (below here passed) up (At place) →
    Finds name (Join n op left right) here up (At place)
reaches_right name n op left right here before up passed place l a =
    let none = of_absent left before up (path_to name left) passed l in
    let p = of_at right (below here passed) up (path_to name right) place a in
    let path = p.0 in
    let k = p.2 in
    let e = ap (number_at (Join n op left right)) (taken_on false path up k) ∙ number_right n op left right (take (length path - up) path) in
    let x = p.3 in
    let y = p.4 in
    let z = none.1 in
    to_at (Join n op left right) here up (path_to name (Join n op left right)) (false ∷ path) place
    (path_right name n op left right (Some path) none.0 p.1) (omega arith) (omega arith) (omega arith)
