-- Runs as a list.
use Rattle.std.proofs.Common.{◌≡◌, ◌<◌, ◌+◌, ◌-◌, ℕ, take, drop, List, [], ◌∷◌, ◌++◌, map, length, refl, sym, ap, ◌∙◌, arith, length-append}
use Rattle.std.proofs.lemmas.List.{length-map, map-append, take-replicate, drop-replicate}
use Rattle.mm_field.specs.declared.Field.{Field}
use Rattle.mm_logic.specs.Formula.{Formula}
use Rattle.mm_logic.specs.Operator.{Op}
use Rattle.mm_logic.specs.Value.{Value}
use Rattle.mm_logic.specs.Value.Value.{Dead}
use Rattle.mm_logic.specs.Growth.{root, type_at}
use Rattle.mm_logic.specs.JoinRule.{join_type, joined, lettered}
use Rattle.mm_logic.specs.Marks.{unmarked, no_marks}
use Rattle.mm_logic.specs.Tree.{size, subtrees}
use Rattle.mm_logic.specs.Tree as shapes
use Rattle.mm_states.specs.Lists.{AllFit}
use Rattle.mm_tree.specs.NamedTree.{Tree, shape}
use Rattle.mm_tree.specs.NamedTree.Tree.{Elem, Void, Join}
use Rattle.mm_nodes.specs.KeptTrees.{KeptTree, top, count}
use Rattle.mm_nodes.specs.KeptTrees.KeptTree.{One, Two}
use Rattle.mm_runs.specs.RunsCalls.{StandFor}
use Rattle.mm_runs.specs.Listing.{listed, run_type, ListStandsFor}

-- ---- lists

abbrev first_or : {A : Type 0} → A → List A → A
first_or d [] = d
first_or d (x ∷ xs) = x

abbrev later : {A : Type 0} → List A → List A
later [] = []
later (x ∷ xs) = xs

same_parts : {A : Type 0} (xs ys us vs : List A) → length xs ≡ length us → xs ++ ys ≡ us ++ vs → (xs ≡ us) × (ys ≡ vs)
same_parts [] ys [] vs l e = (refl, e)
same_parts (x ∷ xs) ys (u ∷ us) vs l e =
    let head : x ≡ u = ap (first_or x) e in
    let rest = same_parts xs ys us vs (omega (arith, l)) (ap later e) in
    ((λ i. head i ∷ rest.0 i), rest.1)
same_parts [] ys (u ∷ us) vs l e = absurd (omega (arith, l))
same_parts (x ∷ xs) ys [] vs l e = absurd (omega (arith, l))

fit_both : {A : Type 0} (P : A → Type 0) (xs ys : List A) → AllFit P xs → AllFit P ys → AllFit P (xs ++ ys)
fit_both P [] ys h k = k
fit_both P (x ∷ xs) ys h k = (h.0, fit_both P xs ys h.1 k)

fit_parts : {A : Type 0} (P : A → Type 0) (xs ys : List A) → AllFit P (xs ++ ys) → AllFit P xs × AllFit P ys
fit_parts P [] ys h = (tt, h)
fit_parts P (x ∷ xs) ys h = let rest = fit_parts P xs ys h.1 in ((h.0, rest.0), rest.1)

-- ---- the parts of a list of runs

listed_length : (R : KeptTree ℕ) → length (listed R) ≡ count R
listed_length (One id) = refl
listed_length (Two id a b) =
    let one = length-append (listed a) (listed b) in
    let two = listed_length a in
    let three = listed_length b in
    omega (arith, one, two, three)

first_size : (R : KeptTree ℕ) (d : ℕ) (rest : List (ℕ × ℕ)) → first_or d (map (λ e. e.1) (listed R ++ rest)) ≡ count R
first_size (One id) d rest = refl
first_size (Two id a b) d rest = refl

first_tree : (S : shapes.Tree) (d : ℕ) (rest : List shapes.Tree) → first_or d (map (λ N. length (subtrees N)) (subtrees S ++ rest)) ≡ length (subtrees S)
first_tree (shapes.Tree.Elem vec) d rest = refl
first_tree (shapes.Tree.Void t) d rest = refl
first_tree (shapes.Tree.Join op l r) d rest = refl

some_tree : (S : shapes.Tree) → 0 < length (subtrees S)
some_tree (shapes.Tree.Elem vec) = omega arith
some_tree (shapes.Tree.Void t) = omega arith
some_tree (shapes.Tree.Join op l r) = omega arith

some_run : (R : KeptTree ℕ) → 0 < count R
some_run (One id) = omega arith
some_run (Two id a b) = omega arith

first_within : (n : ℕ) (R : KeptTree ℕ) → AllFit (λ e. e.0 < n) (listed R) → top R < n
first_within n (One id) h = h.0
first_within n (Two id a b) h = h.0

module _ (f : Field) (F : Formula) (lists : List (List Value)) where
  run_join : (op : Op) (l r : shapes.Tree) → run_type f F (shapes.Tree.Join op l r) ≡ join_type f F op (run_type f F l) (run_type f F r)
  run_join op l r =
      let left : take (size l) (unmarked (size l + size r)) ≡ unmarked (size l) = take-replicate (size l) (size l + size r) no_marks (omega arith) in
      let rest : size l + size r - size l ≡ size r = omega arith in
      let right : drop (size l) (unmarked (size l + size r)) ≡ unmarked (size r) =
      drop-replicate (size l) (size l + size r) no_marks ∙ ap unmarked rest in
      (λ i. join_type f F op (joined f F (lettered l (left i))) (joined f F (lettered r (right i))))

  -- ---- from runs to their list

  top_type : (T : Tree) (R : KeptTree ℕ) → StandFor f F lists T R → type_at F lists (top R) ≡ run_type f F (shape T)
  unfolding shape
  top_type (Elem name vec weight) (One id) s = s.value
  top_type (Void name t) (One id) s = s.value
  top_type (Join name op l r) (Two id a b) s =
      s.0.value ∙ (λ i. join_type f F op (top_type l a s.1 i) (top_type r b s.2 i)) ∙ sym (run_join op (shape l) (shape r))
  top_type (Elem name vec weight) (Two id a b) s = absurd s
  top_type (Void name t) (Two id a b) s = absurd s
  top_type (Join name op l r) (One id) s = absurd s

  count_is : (T : Tree) (R : KeptTree ℕ) → StandFor f F lists T R → count R ≡ length (subtrees (shape T))
  unfolding shape
  count_is (Elem name vec weight) (One id) s = refl
  count_is (Void name t) (One id) s = refl
  count_is (Join name op l r) (Two id a b) s =
      let one = count_is l a s.1 in
      let two = count_is r b s.2 in
      let both = length-append (subtrees (shape l)) (subtrees (shape r)) in
      omega (arith, one, two, both)
  count_is (Elem name vec weight) (Two id a b) s = absurd s
  count_is (Void name t) (Two id a b) s = absurd s
  count_is (Join name op l r) (One id) s = absurd s

  pub to_list : (T : Tree) (R : KeptTree ℕ) → StandFor f F lists T R → ListStandsFor f F lists T (listed R)
  unfolding shape
  to_list (Elem name vec weight) (One id) s = record { sizes = refl; within = (s.within, tt); types = ap (λ v. v ∷ []) s.value }
  to_list (Void name t) (One id) s = record { sizes = refl; within = (s.within, tt); types = ap (λ v. v ∷ []) s.value }
  to_list (Join name op l r) (Two id a b) s =
      let left = to_list l a s.1 in
      let right = to_list r b s.2 in
      let many : count a + count b + 1 ≡ length (subtrees (shape (Join name op l r))) = count_is (Join name op l r) (Two id a b) s in
      let value = top_type (Join name op l r) (Two id a b) s in
      record {
        sizes =
            (λ i. many i ∷ map-append (λ (e : ℕ × ℕ). e.1) (listed a) (listed b) i)
            ∙ (λ i. length (subtrees (shape (Join name op l r))) ∷ (left.sizes i ++ right.sizes i))
            ∙ ap (λ ns. length (subtrees (shape (Join name op l r))) ∷ ns) (sym (map-append (λ S. length (subtrees S)) (subtrees (shape l)) (subtrees (shape r))));
        within = (s.0.within, fit_both (λ (e : ℕ × ℕ). e.0 < length (root F lists)) (listed a) (listed b) left.within right.within);
        types =
            (λ i. value i ∷ map-append (λ (e : ℕ × ℕ). type_at F lists e.0) (listed a) (listed b) i)
            ∙ (λ i. run_type f F (shape (Join name op l r)) ∷ (left.types i ++ right.types i))
            ∙ ap (λ vs. run_type f F (shape (Join name op l r)) ∷ vs) (sym (map-append (run_type f F) (subtrees (shape l)) (subtrees (shape r))));
      }
  to_list (Elem name vec weight) (Two id a b) s = absurd s
  to_list (Void name t) (Two id a b) s = absurd s
  to_list (Join name op l r) (One id) s = absurd s

  -- ---- and back

  as_long : (T : Tree) (R : KeptTree ℕ) → ListStandsFor f F lists T (listed R) → count R ≡ length (subtrees (shape T))
  as_long T R h =
      let long = ap length h.sizes in
      let one = length-map (listed R) (λ e. e.1) in
      let two = length-map (subtrees (shape T)) (λ S. length (subtrees S)) in
      let three = listed_length R in
      omega (arith, long, one, two, three)

  leaf_alone : (T : Tree) (id : ℕ) (a b : KeptTree ℕ) → length (subtrees (shape T)) ≡ 1 → ListStandsFor f F lists T (listed (Two id a b)) → ⊥
  leaf_alone T id a b one h =
      let long = as_long T (Two id a b) h in
      let some = some_run a in
      omega (arith, one, long, some)

  join_alone : (name : List ℕ) (op : Op) (l r : Tree) (id : ℕ) → ListStandsFor f F lists (Join name op l r) (listed (One id)) → ⊥
  unfolding shape
  join_alone name op l r id h =
      let long = as_long (Join name op l r) (One id) h in
      let both = length-append (subtrees (shape l)) (subtrees (shape r)) in
      let some = some_tree (shape l) in
      omega (arith, long, both, some)

  module _ (name : List ℕ) (op : Op) (l r : Tree) (id : ℕ) (a b : KeptTree ℕ) (h : ListStandsFor f F lists (Join name op l r) (listed (Two id a b))) where
    sizes_below : map (λ e. e.1) (listed a ++ listed b) ≡ map (λ S. length (subtrees S)) (subtrees (shape l) ++ subtrees (shape r))
    unfolding shape
    sizes_below = ap later h.sizes

    types_below : map (λ e. type_at F lists e.0) (listed a ++ listed b) ≡ map (run_type f F) (subtrees (shape l) ++ subtrees (shape r))
    unfolding shape
    types_below = ap later h.types

    left_long : length (listed a) ≡ length (subtrees (shape l))
    left_long = listed_length a ∙ sym (first_size a 0 (listed b)) ∙ ap (first_or 0) sizes_below ∙ first_tree (shape l) 0 (subtrees (shape r))

    sizes_apart : (map (λ e. e.1) (listed a) ≡ map (λ S. length (subtrees S)) (subtrees (shape l))) × (map (λ e. e.1) (listed b) ≡ map (λ S. length (subtrees S)) (subtrees (shape r)))
    sizes_apart =
        same_parts (map (λ e. e.1) (listed a)) (map (λ e. e.1) (listed b)) (map (λ S. length (subtrees S)) (subtrees (shape l))) (map (λ S. length (subtrees S)) (subtrees (shape r)))
        (length-map (listed a) (λ e. e.1) ∙ left_long ∙ sym (length-map (subtrees (shape l)) (λ S. length (subtrees S))))
        (sym (map-append (λ (e : ℕ × ℕ). e.1) (listed a) (listed b)) ∙ sizes_below ∙ map-append (λ S. length (subtrees S)) (subtrees (shape l)) (subtrees (shape r)))

    types_apart : (map (λ e. type_at F lists e.0) (listed a) ≡ map (run_type f F) (subtrees (shape l))) × (map (λ e. type_at F lists e.0) (listed b) ≡ map (run_type f F) (subtrees (shape r)))
    types_apart =
        same_parts (map (λ e. type_at F lists e.0) (listed a)) (map (λ e. type_at F lists e.0) (listed b)) (map (run_type f F) (subtrees (shape l))) (map (run_type f F) (subtrees (shape r)))
        (length-map (listed a) (λ e. type_at F lists e.0) ∙ left_long ∙ sym (length-map (subtrees (shape l)) (run_type f F)))
        (sym (map-append (λ (e : ℕ × ℕ). type_at F lists e.0) (listed a) (listed b)) ∙ types_below ∙ map-append (run_type f F) (subtrees (shape l)) (subtrees (shape r)))

    within_apart : AllFit (λ e. e.0 < length (root F lists)) (listed a) × AllFit (λ e. e.0 < length (root F lists)) (listed b)
    within_apart = fit_parts (λ (e : ℕ × ℕ). e.0 < length (root F lists)) (listed a) (listed b) h.within.1

    left_listed : ListStandsFor f F lists l (listed a)
    left_listed = record { sizes = sizes_apart.0; within = within_apart.0; types = types_apart.0 }

    right_listed : ListStandsFor f F lists r (listed b)
    right_listed = record { sizes = sizes_apart.1; within = within_apart.1; types = types_apart.1 }

    top_value : type_at F lists id ≡ run_type f F (shape (Join name op l r))
    unfolding shape
    top_value = ap (first_or Dead) h.types

  pub from_list : (T : Tree) (R : KeptTree ℕ) → ListStandsFor f F lists T (listed R) → StandFor f F lists T R
  unfolding shape
  from_list (Elem name vec weight) (One id) h = record { within = h.within.0; value = ap (first_or Dead) h.types }
  from_list (Void name t) (One id) h = record { within = h.within.0; value = ap (first_or Dead) h.types }
  from_list (Join name op l r) (Two id a b) h =
      let left = from_list l a (left_listed name op l r id a b h) in
      let right = from_list r b (right_listed name op l r id a b h) in (
        record {
          left_within = first_within (length (root F lists)) a (within_apart name op l r id a b h).0;
          right_within = first_within (length (root F lists)) b (within_apart name op l r id a b h).1;
          within = h.within.0;
          value = top_value name op l r id a b h ∙ run_join op (shape l) (shape r) ∙ sym (λ i. join_type f F op (top_type l a left i) (top_type r b right i));
        },
        left,
        right,
      )
  from_list (Elem name vec weight) (Two id a b) h = absurd (leaf_alone (Elem name vec weight) id a b refl h)
  from_list (Void name t) (Two id a b) h = absurd (leaf_alone (Void name t) id a b refl h)
  from_list (Join name op l r) (One id) h = absurd (join_alone name op l r id h)
