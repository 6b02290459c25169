-- The names outside a node, and whether a tree may take its place.
use Rattle.std.proofs.Common.{ℕ, zero, suc, ◌≡◌, ◌<◌, ◌≤◌, ◌+◌, ◌++◌, ◌||◌, ◌==◌, max, nat_le, not, cond, get_or, inl, inr, Bool, true, false, List, [], ◌∷◌, length, ◌-◌, refl, sym, ap, ap₂, ◌∙◌, subst, Option, Some, None, if◌then◌else◌, arith, length-append, append_assoc, append-nil, nat_lt}
use Rattle.std.specs.List.{IsDistinct, position, position_or_len}
use Rattle.std.specs.Str.{bytes_eq}
use Rattle.indexmap.specs.IndexSet.{insert_key, insert_all}
use Rattle.mm_base.specs.contracts.name.NamePartialEq.TheImpl.{eq-value}
use Rattle.mm_base.proofs.NameLemmas.{bytes_same, same_bytes}
use Rattle.mm_logic.specs.Operator.{Op}
use Rattle.mm_tree.specs.OutsideLeaves.{IsSeen, IsOneLess, first_place, with_leaf, with_leaves}
use Rattle.mm_tree.specs.declared.replace.Outside.{Outside}
use Rattle.mm_tree.specs.NamedTree.{Tree, boundary, leaf_names, depth, nodes, is_one_of}
use Rattle.mm_tree.specs.NamedTree.Tree.{Elem, Void, Join}
use Rattle.mm_tree.specs.Nodes.{named_leaf}
use Rattle.mm_tree.specs.Places.{path_of, IsPath}
use Rattle.mm_tree.specs.Replacing.{first_taken, name_fault, replace_fault}
use Rattle.mm_tree.specs.ValidTree.{most_leaves, most_depth}
use Rattle.mm_tree.specs.declared.replace.ReplaceFault.{ReplaceFault}
use Rattle.mm_tree.specs.declared.replace.ReplaceFault.TheVariants.{Boundary, NameTaken, TooManyLeaves, TooDeep}
use Rattle.mm_tree.specs.Paths.{Path, names_outside, with_node, node_at}
use Rattle.mm_tree.specs.declared.node.Leaf.{Leaf}
use Rattle.mm_tree.proofs.BuilderLemmas.{insert_new}
use Rattle.mm_tree.proofs.NameLemmas.{distinct_apart}
use Rattle.mm_tree.proofs.TreeLemmas.{by_cases, nodes_of_leaves}
use Rattle.mm_tree.proofs.PlaceLemmas.{IsPath-root, step_left, step_right}
use Rattle.std.proofs.lemmas.Bool.{cases_lt, lt-ltb, le-ltb, eq-eqb, ne_eqb, le-leb, lt-leb, both_ways}
use Rattle.mm_tree.proofs.StepLemmas.{path_root, path_of_left, path_of_right}
use Rattle.mm_tree.proofs.Walks.{leaf_name, leaf_nodes}
use Rattle.mm_tree.proofs.PathLemmas.{nodes_join, some_nodes}

abbrev Names : Type 0
Names = List (List ℕ)

leaves_append : (names : Names) (seen : Outside) (xs ys : Names) → with_leaves names seen (xs ++ ys) ≡ with_leaves names (with_leaves names seen xs) ys
leaves_append names seen [] ys = refl
leaves_append names seen (x ∷ xs) ys = leaves_append names (with_leaf names seen x) xs ys

outside_root : (tree : Tree) → names_outside tree [] ≡ []
unfolding names_outside
outside_root (Elem n vec weight) = refl
outside_root (Void n t) = refl
outside_root (Join n op left right) = refl

outside_left : (n : List ℕ) (op : Op) (left right : Tree) (path : Path) → names_outside (Join n op left right) (true ∷ path) ≡ names_outside left path ++ leaf_names right
unfolding names_outside
outside_left n op left right path = refl

outside_right : (n : List ℕ) (op : Op) (left right : Tree) (path : Path) → names_outside (Join n op left right) (false ∷ path) ≡ leaf_names left ++ names_outside right path
unfolding names_outside
outside_right n op left right path = refl

pub names_join : (n : List ℕ) (op : Op) (left right : Tree) → leaf_names (Join n op left right) ≡ leaf_names left ++ leaf_names right
unfolding leaf_names
names_join n op left right = refl

pub seen_root : (tree : Tree) (at : Option ℕ) (names : Names) (old : Outside) → at ≡ Some 0 → IsSeen tree at names old old None
seen_root tree at names old e =
    subst (λ (x : Option ℕ). IsSeen tree x names old old None) (sym e) (
      some_nodes tree,
      sym (ap (λ (w : Path). with_leaves names old (names_outside tree w)) (path_root tree) ∙ ap (with_leaves names old) (outside_root tree)),
    )

pub seen_leaf : (l : Leaf) (at less : Option ℕ) (names : Names) (old new : Outside) → IsOneLess at less → new ≡ with_leaf names old l.name →
    IsSeen (named_leaf l) at names old new less
seen_leaf l None None names old new o e = e ∙ sym (ap (with_leaves names old) (leaf_name l))
seen_leaf l None (Some j) names old new o e = absurd o
seen_leaf l (Some k) None names old new o e = absurd o
seen_leaf l (Some k) (Some j) names old new o e =
    let one = leaf_nodes l in
    (omega arith, e ∙ sym (ap (with_leaves names old) (leaf_name l)))

-- what is seen of two parts, one after the other
seen_both : (names : Names) (old mid new : Outside) (xs ys all : Names) → mid ≡ with_leaves names old xs → new ≡ with_leaves names mid ys → all ≡ xs ++ ys →
    new ≡ with_leaves names old all
seen_both names old mid new xs ys all l r e =
    r ∙ ap (λ (s : Outside). with_leaves names s ys) l ∙ sym (leaves_append names old xs ys) ∙ sym (ap (with_leaves names old) e)

pub seen_join : (n : List ℕ) (op : Op) (left right : Tree) (at less rest last : Option ℕ) (names : Names) (old mid new : Outside) →
    (at ≡ Some 0 → ⊥) → IsOneLess at less → IsSeen left less names old mid rest → IsSeen right rest names mid new last →
    IsSeen (Join n op left right) at names old new last
seen_join n op left right None None None None names old mid new z o l r =
    seen_both names old mid new (leaf_names left) (leaf_names right) _ l r (names_join n op left right)
seen_join n op left right None None None (Some q) names old mid new z o l r = absurd r
seen_join n op left right None None (Some m) last names old mid new z o l r = absurd l
seen_join n op left right None (Some j) rest last names old mid new z o l r = absurd o
seen_join n op left right (Some k) None rest last names old mid new z o l r = absurd o
seen_join n op left right (Some k) (Some j) None None names old mid new z o l r =
    let size = nodes_join n op left right in
    let a = l.0 in
    let e : k - 1 ≡ j = omega arith in
    let path = path_of_left k n op left right (omega arith) (omega arith) ∙ ap (λ (i : ℕ). true ∷ path_of i left) e in (
      omega arith,
      seen_both names old mid new (names_outside left (path_of j left)) (leaf_names right) _ l.1 r
          (ap (names_outside (Join n op left right)) path ∙ outside_left n op left right (path_of j left)),
    )
seen_join n op left right (Some k) (Some j) None (Some q) names old mid new z o l r = absurd r
seen_join n op left right (Some k) (Some j) (Some m) None names old mid new z o l r =
    let size = nodes_join n op left right in
    let a = l.0 in
    let b = r.0 in
    let path = path_of_right k m n op left right (omega arith) (omega arith) in (
      omega arith,
      seen_both names old mid new (leaf_names left) (names_outside right (path_of m right)) _ l.1 r.1
          (ap (names_outside (Join n op left right)) path ∙ outside_right n op left right (path_of m right)),
    )
seen_join n op left right (Some k) (Some j) (Some m) (Some q) names old mid new z o l r =
    let size = nodes_join n op left right in
    let a = l.0 in
    let b = r.0 in (
      omega arith,
      seen_both names old mid new (leaf_names left) (leaf_names right) _ l.1 r.1 (names_join n op left right),
    )

-- ---- how many leaves were seen

pub count_seen : (names : Names) (seen : Outside) (xs : Names) → (with_leaves names seen xs).leaves ≡ seen.leaves + length xs
count_seen names seen [] = omega arith
count_seen names seen (x ∷ xs) =
    let e = count_seen names (with_leaf names seen x) xs in
    omega arith

few_outside : (tree : Tree) (path : Path) → length (names_outside tree path) ≤ length (leaf_names tree)
unfolding names_outside
few_outside (Elem n vec weight) [] = omega arith
few_outside (Void n t) [] = omega arith
few_outside (Join n op left right) [] = omega arith
few_outside (Elem n vec weight) (step ∷ path) = omega arith
few_outside (Void n t) (step ∷ path) = omega arith
few_outside (Join n op left right) (true ∷ path) =
    let a = few_outside left path in
    let e = length-append (names_outside left path) (leaf_names right) in
    let g = ap length (names_join n op left right) ∙ length-append (leaf_names left) (leaf_names right) in
    omega arith
few_outside (Join n op left right) (false ∷ path) =
    let a = few_outside right path in
    let e = length-append (leaf_names left) (names_outside right path) in
    let g = ap length (names_join n op left right) ∙ length-append (leaf_names left) (leaf_names right) in
    omega arith

-- at most as many leaves as nodes were seen
pub few_seen : (tree : Tree) (at rest : Option ℕ) (names : Names) (old new : Outside) → IsSeen tree at names old new rest → new.leaves ≤ old.leaves + nodes tree
few_seen tree None None names old new s =
    let e = ap (λ (o : Outside). o.leaves) s ∙ count_seen names old (leaf_names tree) in
    let n = nodes_of_leaves tree in
    omega arith
few_seen tree None (Some rest) names old new s = absurd s
few_seen tree (Some at) None names old new s =
    let e = ap (λ (o : Outside). o.leaves) s.1 ∙ count_seen names old (names_outside tree (path_of at tree)) in
    let l = few_outside tree (path_of at tree) in
    let n = nodes_of_leaves tree in
    omega arith
few_seen tree (Some at) (Some rest) names old new s =
    let e = ap (λ (o : Outside). o.leaves) s.1 ∙ count_seen names old (leaf_names tree) in
    let n = nodes_of_leaves tree in
    omega arith

-- ---- the first name that is taken

-- a place, one later
later : Option ℕ → Option ℕ
later None = None
later (Some i) = Some (1 + i)

position_next : {X : Type 0} (p : X → Bool) (x : X) (xs : List X) → position p (x ∷ xs) ≡ cond (p x) (Some 0) (later (position p xs))
unfolding later
position_next p x xs = go (p x)
  where
    k : ℕ
    k = position_or_len p xs

    go : (b : Bool) → cond (nat_lt (cond (not b) (1 + k) 0) (suc (length xs))) (Some (cond (not b) (1 + k) 0)) None
        ≡ cond b (Some 0) (later (cond (nat_lt k (length xs)) (Some k) None))
    go true = ap (λ (b : Bool). cond b (Some 0) None) (lt-ltb 0 (suc (length xs)) (omega arith))
    go false = elim (cases_lt k (length xs)) [
      | inl l ↦
          ap (λ (b : Bool). cond b (Some (1 + k)) None) (lt-ltb (1 + k) (suc (length xs)) (omega arith))
          ∙ sym (ap (λ (b : Bool). later (cond b (Some k) None)) (lt-ltb k (length xs) l))
      | inr l ↦
          ap (λ (b : Bool). cond b (Some (1 + k)) None) (le-ltb (1 + k) (suc (length xs)) (omega arith))
          ∙ sym (ap (λ (b : Bool). later (cond b (Some k) None)) (le-ltb k (length xs) l))
    ]

-- in a list of one name
pub only_place : (p : List ℕ → Bool) (names keys : Names) (name : List ℕ) (b : Bool) → 1 ≤ length names → length names < 2 → name ≡ get_or names 0 name →
    names ≡ keys → p name ≡ b → cond b (Some 0) None ≡ position p keys
unfolding later
only_place p [] keys name b l m e k q = absurd (omega arith)
only_place p (n ∷ []) keys name b l m e k q =
    sym (ap (position p) (sym k) ∙ position_next p n [] ∙ ap (λ (c : Bool). cond c (Some 0) None) (ap p (sym e) ∙ q))
only_place p (n ∷ x ∷ names) keys name b l m e k q = absurd (omega arith)

first_of_none : (a : Option ℕ) → first_place a None ≡ a
first_of_none None = refl
first_of_none (Some i) = refl

first_assoc : (a b c : Option ℕ) → first_place (first_place a b) c ≡ first_place a (first_place b c)
first_assoc None b c = refl
first_assoc (Some i) None c = refl
first_assoc (Some i) (Some j) None = refl
first_assoc (Some i) (Some j) (Some k) = ap (λ (n : ℕ). Some n) (omega arith)

-- the first place at which one of two tests passes
either_position : {X : Type 0} (p q : X → Bool) (xs : List X) → position (λ x. p x || q x) xs ≡ first_place (position p xs) (position q xs)
unfolding later
either_position p q [] = refl
either_position p q (x ∷ xs) =
    position_next (λ y. p y || q y) x xs
    ∙ go (p x) (q x) (position p xs) (position q xs) (either_position p q xs)
    ∙ sym (ap₂ first_place (position_next p x xs) (position_next q x xs))
  where
    go : (a b : Bool) (m n : Option ℕ) → position (λ x. p x || q x) xs ≡ first_place m n →
        cond (a || b) (Some 0) (later (position (λ x. p x || q x) xs)) ≡ first_place (cond a (Some 0) (later m)) (cond b (Some 0) (later n))
    go true true m n e = ap (λ (k : ℕ). Some k) (omega arith)
    go true false m None e = refl
    go true false m (Some j) e = ap (λ (k : ℕ). Some k) (omega arith)
    go false true None n e = refl
    go false true (Some i) n e = ap (λ (k : ℕ). Some k) (omega arith)
    go false false None n e = ap later e
    go false false (Some i) None e = ap later e
    go false false (Some i) (Some j) e = ap later e ∙ ap (λ (k : ℕ). Some k) (omega arith)

none_passes : {X : Type 0} (xs : List X) → position (λ x. false) xs ≡ None
unfolding later
none_passes [] = refl
none_passes (x ∷ xs) = position_next (λ y. false) x xs ∙ ap later (none_passes xs)

swapped : (x y : List ℕ) → bytes_eq x y ≡ bytes_eq y x
swapped x y = go (bytes_eq x y) refl (bytes_eq y x) refl
  where
    go : (a : Bool) → bytes_eq x y ≡ a → (b : Bool) → bytes_eq y x ≡ b → a ≡ b
    go true p true q = refl
    go true p false q = sym (bytes_same y) ∙ ap (bytes_eq y) (sym (same_bytes x y p)) ∙ q
    go false p true q = sym p ∙ ap (bytes_eq x) (same_bytes y x q) ∙ bytes_same x
    go false p false q = refl

pub found_below : {X : Type 0} (p : X → Bool) (xs : List X) (i : ℕ) → position p xs ≡ Some i → i < length xs
unfolding later
found_below p [] i e = cc
found_below p (x ∷ xs) i e = go (p x) (position p xs) (found_below p xs) (sym (position_next p x xs) ∙ e)
  where
    go : (b : Bool) (m : Option ℕ) → ((j : ℕ) → m ≡ Some j → j < length xs) → cond b (Some 0) (later m) ≡ Some i → i < suc (length xs)
    go true m h q = let z : 0 ≡ i = cc in omega arith
    go false None h q = cc
    go false (Some j) h q =
        let l = h j refl in
        let z : 1 + j ≡ i = cc in
        omega arith

-- what was seen is taken first where the first name that is one of the leaves' stands
seen_first : (names : Names) (seen : Outside) (xs : Names) →
    (with_leaves names seen xs).taken ≡ first_place seen.taken (position (λ name. is_one_of name xs) names)
seen_first names seen [] = sym (ap (first_place seen.taken) (none_passes names) ∙ first_of_none seen.taken)
seen_first names seen (x ∷ xs) =
    seen_first names (with_leaf names seen x) xs
    ∙ first_assoc seen.taken (position (bytes_eq x) names) (position (λ name. is_one_of name xs) names)
    ∙ ap (first_place seen.taken)
    (sym (either_position (bytes_eq x) (λ name. is_one_of name xs) names)
    ∙ ap (λ (p : List ℕ → Bool). position p names) (λ i name. swapped x name i || is_one_of name xs))

-- the name at a place
abbrev pub name_at : Names → Option ℕ → Option (List ℕ)
name_at names None = None
name_at names (Some i) = Some (get_or names i [])

taken_at : (taken names : Names) → first_taken taken names ≡ name_at names (position (λ name. is_one_of name taken) names)
unfolding later
taken_at taken [] = refl
taken_at taken (name ∷ names) =
    go (is_one_of name taken) (position (λ n. is_one_of n taken) names) (taken_at taken names)
    ∙ sym (ap (name_at (name ∷ names)) (position_next (λ n. is_one_of n taken) name names))
  where
    go : (b : Bool) (m : Option ℕ) → first_taken taken names ≡ name_at names m →
        (if b then Some name else first_taken taken names) ≡ name_at (name ∷ names) (cond b (Some 0) (later m))
    go true m e = refl
    go false None e = e
    go false (Some i) e =
        let s : 1 + i ≡ suc i = omega arith in
        e ∙ sym (ap (λ (k : ℕ). Some (get_or (name ∷ names) k [])) s)

-- names that are put into a set
pub all_append : (ks xs ys : Names) → insert_all (eq-value).it ks (xs ++ ys) ≡ insert_all (eq-value).it (insert_all (eq-value).it ks xs) ys
all_append ks [] ys = refl
all_append ks (x ∷ xs) ys = all_append (insert_key (eq-value).it ks x) xs ys

pub insert_distinct : (ks xs : Names) → IsDistinct bytes_eq (ks ++ xs) → insert_all (eq-value).it ks xs ≡ ks ++ xs
insert_distinct ks [] d = sym (append-nil ks)
insert_distinct ks (x ∷ xs) d =
    let absent : is_one_of x ks ≡ false = by_cases (is_one_of x ks)
    (λ t. absurd (both_ways (is_one_of x (x ∷ xs)) (distinct_apart ks (x ∷ xs) d x t) (ap (λ (b : Bool). b || is_one_of x xs) (bytes_same x)))) (λ q. q) in
    let more = append_assoc ks (x ∷ []) xs in
    ap (λ (ns : Names). insert_all (eq-value).it ns xs) (insert_new ks x absent)
    ∙ insert_distinct (ks ++ x ∷ []) xs (subst (λ (ns : Names). IsDistinct bytes_eq ns) (sym more) d) ∙ more

-- ---- the size of the tree after an exchange

pub path_is : (k : ℕ) (tree : Tree) → IsPath tree (path_of k tree)
unfolding path_of
path_is zero tree = IsPath-root tree
path_is (suc k) (Elem n vec weight) = IsPath-root (Elem n vec weight)
path_is (suc k) (Void n t) = IsPath-root (Void n t)
path_is (suc k) (Join n op left right) = go (nat_lt k (nodes left)) (path_is k left) (path_is (k - nodes left) right)
  where
    go : (b : Bool) → IsPath left (path_of k left) → IsPath right (path_of (k - nodes left) right) →
        IsPath (Join n op left right) (if b then true ∷ path_of k left else false ∷ path_of (k - nodes left) right)
    go true l r = step_left n op left right (path_of k left) l
    go false l r = step_right n op left right (path_of (k - nodes left) right) r

pub leaves_after : (tree new : Tree) (path : Path) → IsPath tree path →
    length (leaf_names (with_node tree path new)) ≡ length (names_outside tree path) + length (leaf_names new)
unfolding IsPath with_node names_outside leaf_names
leaves_after (Elem n vec weight) new [] w = omega arith
leaves_after (Void n t) new [] w = omega arith
leaves_after (Join n op left right) new [] w = omega arith
leaves_after (Elem n vec weight) new (step ∷ path) w = absurd w
leaves_after (Void n t) new (step ∷ path) w = absurd w
leaves_after (Join n op left right) new (true ∷ path) w =
    let a = leaves_after left new path w in
    let b = length-append (leaf_names (with_node left path new)) (leaf_names right) in
    let c = length-append (names_outside left path) (leaf_names right) in
    omega arith
leaves_after (Join n op left right) new (false ∷ path) w =
    let a = leaves_after right new path w in
    let b = length-append (leaf_names left) (leaf_names (with_node right path new)) in
    let c = length-append (leaf_names left) (names_outside right path) in
    omega arith

pub depth_after : (tree new : Tree) (path : Path) → IsPath tree path →
    (length path + depth new ≤ depth (with_node tree path new)) × (depth (with_node tree path new) ≤ max (depth tree) (length path + depth new))
    × (length path ≤ depth tree)
unfolding IsPath with_node depth
depth_after (Elem n vec weight) new [] w = (omega arith, grind arith, omega arith)
depth_after (Void n t) new [] w = (omega arith, grind arith, omega arith)
depth_after (Join n op left right) new [] w = (omega arith, grind arith, omega arith)
depth_after (Elem n vec weight) new (step ∷ path) w = absurd w
depth_after (Void n t) new (step ∷ path) w = absurd w
depth_after (Join n op left right) new (true ∷ path) w =
    let a = depth_after left new path w in
    let b = a.0 in
    let c = a.1 in
    let d = a.2 in
    (grind arith, grind arith, grind arith)
depth_after (Join n op left right) new (false ∷ path) w =
    let a = depth_after right new path w in
    let b = a.0 in
    let c = a.1 in
    let d = a.2 in
    (grind arith, grind arith, grind arith)

-- ---- the faults

abbrev chosen_fault : Bool → (a b : ℕ) → Option (List ℕ) → (few shallow : Bool) → Option ReplaceFault
chosen_fault same a b taken few shallow =
    if not same then Some (Boundary a b) else
    name_fault taken (if not few then Some TooManyLeaves else (if not shallow then Some TooDeep else None))

fault_is : (tree new : Tree) (path : Path) (same few shallow : Bool) (taken : Option (List ℕ)) → (boundary (node_at tree path) == boundary new) ≡ same →
    first_taken (names_outside tree path) (leaf_names new) ≡ taken → nat_le (length (leaf_names (with_node tree path new))) most_leaves ≡ few →
    nat_le (depth (with_node tree path new)) most_depth ≡ shallow →
    replace_fault tree path new ≡ chosen_fault same (boundary (node_at tree path)) (boundary new) taken few shallow
unfolding replace_fault
fault_is tree new path same few shallow taken e p q r =
    ap (λ (x : Bool). chosen_fault x (boundary (node_at tree path)) (boundary new) (first_taken (names_outside tree path) (leaf_names new))
    (nat_le (length (leaf_names (with_node tree path new))) most_leaves) (nat_le (depth (with_node tree path new)) most_depth)) e
    ∙ ap (λ (x : Option (List ℕ)). chosen_fault same (boundary (node_at tree path)) (boundary new) x
    (nat_le (length (leaf_names (with_node tree path new))) most_leaves) (nat_le (depth (with_node tree path new)) most_depth)) p
    ∙ ap₂ (λ (x y : Bool). chosen_fault same (boundary (node_at tree path)) (boundary new) taken x y) q r

pub fault_boundary : (tree new : Tree) (path : Path) (a b : ℕ) → a ≡ boundary (node_at tree path) → b ≡ boundary new → (a ≡ b → ⊥) →
    replace_fault tree path new ≡ Some (Boundary a b)
fault_boundary tree new path a b p q n =
    fault_is tree new path false (nat_le (length (leaf_names (with_node tree path new))) most_leaves) (nat_le (depth (with_node tree path new)) most_depth)
    (first_taken (names_outside tree path) (leaf_names new)) (ne_eqb (boundary (node_at tree path)) (boundary new) (λ e. n (p ∙ e ∙ sym q))) refl refl refl
    ∙ ap₂ (λ (x y : ℕ). Some (Boundary x y)) (sym p) (sym q)

pub fault_name : (tree new : Tree) (path : Path) (name : List ℕ) → boundary (node_at tree path) ≡ boundary new →
    first_taken (names_outside tree path) (leaf_names new) ≡ Some name → replace_fault tree path new ≡ Some (NameTaken name)
fault_name tree new path name e p =
    fault_is tree new path true (nat_le (length (leaf_names (with_node tree path new))) most_leaves) (nat_le (depth (with_node tree path new)) most_depth)
    (Some name) (eq-eqb (boundary (node_at tree path)) (boundary new) e) p refl refl

pub fault_leaves : (tree new : Tree) (path : Path) → boundary (node_at tree path) ≡ boundary new → first_taken (names_outside tree path) (leaf_names new) ≡ None →
    most_leaves < length (leaf_names (with_node tree path new)) → replace_fault tree path new ≡ Some TooManyLeaves
fault_leaves tree new path e p l =
    fault_is tree new path true false (nat_le (depth (with_node tree path new)) most_depth) None (eq-eqb (boundary (node_at tree path)) (boundary new) e) p
    (lt-leb (length (leaf_names (with_node tree path new))) most_leaves l) refl

pub fault_deep : (tree new : Tree) (path : Path) → boundary (node_at tree path) ≡ boundary new → first_taken (names_outside tree path) (leaf_names new) ≡ None →
    length (leaf_names (with_node tree path new)) ≤ most_leaves → most_depth < depth (with_node tree path new) → replace_fault tree path new ≡ Some TooDeep
fault_deep tree new path e p l d =
    fault_is tree new path true true false None (eq-eqb (boundary (node_at tree path)) (boundary new) e) p
    (le-leb (length (leaf_names (with_node tree path new))) most_leaves l) (lt-leb (depth (with_node tree path new)) most_depth d)

pub fault_free : (tree new : Tree) (path : Path) → boundary (node_at tree path) ≡ boundary new → first_taken (names_outside tree path) (leaf_names new) ≡ None →
    length (leaf_names (with_node tree path new)) ≤ most_leaves → depth (with_node tree path new) ≤ most_depth → replace_fault tree path new ≡ None
fault_free tree new path e p l d =
    fault_is tree new path true true true None (eq-eqb (boundary (node_at tree path)) (boundary new) e) p
    (le-leb (length (leaf_names (with_node tree path new))) most_leaves l) (le-leb (depth (with_node tree path new)) most_depth d)

-- ---- what the test for an exchange knows

abbrev pub nothing_seen : Outside
nothing_seen = record { leaves = 0; taken = None }

-- the leaves outside the node of this number were seen
abbrev pub IsSeenOutside : (tree new : Tree) → ℕ → Outside → Type 0
IsSeenOutside tree new at seen = seen ≡ with_leaves (leaf_names new) nothing_seen (names_outside tree (path_of at tree))

pub seen_within : (tree inner : Tree) (at k : ℕ) (names : Names) (old seen : Outside) (rest : Option ℕ) → inner ≡ tree → k ≡ at → old ≡ nothing_seen →
    at < nodes tree → IsSeen inner (Some k) names old seen rest → seen ≡ with_leaves names nothing_seen (names_outside tree (path_of at tree))
seen_within tree inner at k names old seen None i q n l s =
    s.1 ∙ ap (λ (o : Outside). with_leaves names o (names_outside inner (path_of k inner))) n
    ∙ ap₂ (λ (t : Tree) (j : ℕ). with_leaves names nothing_seen (names_outside t (path_of j t))) i q
seen_within tree inner at k names old seen (Some rest) i q n l s =
    let e = s.0 in
    let size = ap nodes i in
    let no : ⊥ = omega arith in
    absurd no

pub taken_is : (tree new : Tree) (at : ℕ) (seen : Outside) → IsSeenOutside tree new at seen →
    first_taken (names_outside tree (path_of at tree)) (leaf_names new) ≡ name_at (leaf_names new) seen.taken
taken_is tree new at seen e =
    let outside = names_outside tree (path_of at tree) in
    taken_at outside (leaf_names new)
    ∙ ap (name_at (leaf_names new)) (sym (ap (λ (o : Outside). o.taken) e ∙ seen_first (leaf_names new) nothing_seen outside))

-- the place of the first name that is taken is that of a name
pub taken_within : (tree new : Tree) (at : ℕ) (seen : Outside) (i : ℕ) → IsSeenOutside tree new at seen → seen.taken ≡ Some i → i < length (leaf_names new)
taken_within tree new at seen i e t =
    let outside = names_outside tree (path_of at tree) in
    found_below (λ name. is_one_of name outside) (leaf_names new) i
    (sym (ap (λ (o : Outside). o.taken) e ∙ seen_first (leaf_names new) nothing_seen outside) ∙ t)

-- how many leaves there would be
pub leaves_counted : (tree new : Tree) (at : ℕ) (seen : Outside) → IsSeenOutside tree new at seen →
    seen.leaves + length (leaf_names new) ≡ length (leaf_names (with_node tree (path_of at tree) new))
leaves_counted tree new at seen e =
    let a = leaves_after tree new (path_of at tree) (path_is at tree) in
    let b = ap (λ (o : Outside). o.leaves) e ∙ count_seen (leaf_names new) nothing_seen (names_outside tree (path_of at tree)) in
    omega arith
