-- The types of a query at every node are those that the rules give.
use Rattle.std.proofs.Common.{◌≡◌, ℕ, Bool, true, false, List, [], ◌∷◌, ◌++◌, map, flat_map, ◌+◌, sum_by, length, All, refl, sym, ap, ap₂, ◌∙◌, append-nil}
use Rattle.std.proofs.lemmas.List.{map-append, length-replicate, replicate-append-replicate}
use Rattle.std.proofs.lemmas.List.Elements.{All-head, All-tail}
use Rattle.std.proofs.lemmas.List.Folds.{flat_map-map}
use Rattle.std.proofs.lemmas.Grind.{flat_map-append}
use Rattle.std.proofs.lemmas.List.Sums.{sum_by-append}
use Rattle.mm_logic.specs.Occurrence.{distinct}
use Rattle.std.proofs.lemmas.Simd.{map-map}
use Rattle.mm_field.specs.declared.Field.{Field}
use Rattle.mm_logic.specs.Formula.{Formula}
use Rattle.mm_logic.specs.JoinRule.{join_type, all_pairs}
use Rattle.mm_logic.specs.Marks.{Marks, mark, no_marks, unmarked, assign, sets, Singles}
use Rattle.mm_logic.specs.Meaning.{WellSorted}
use Rattle.mm_logic.specs.Operator.{Op}
use Rattle.mm_logic.specs.StateSize.{Query, asked, types_at}
use Rattle.mm_logic.specs.StateSize.Query.{Decide, Least}
use Rattle.mm_logic.specs.Tree.{Tree, size, subtrees, IsValid}
use Rattle.mm_logic.specs.Tree.Tree.{Elem, Void, Join}
use Rattle.mm_logic.specs.Types.{type_of}
use Rattle.mm_logic.specs.Value.{Value}
use Rattle.mm_logic_laws.specs.ValueLaws.{types_by_rules, TypesAreGivenByRules}
use Rattle.mm_logic_laws.proofs.SplitLemmas.{length-assign}
use Rattle.mm_logic_laws.proofs.TreeLemmas.{subtrees_valid}
use Rattle.mm_logic_laws.proofs.TypeLemmas.{elem_law_of, void_law_of, join_law}

-- ---- all sets of a list in two parts

pub sets_listed : {A : Type 0} (k : ℕ) (q : List Marks → A) (us vs : List Marks)
    → map (λ X. q (assign k X (us ++ vs))) (sets (length (us ++ vs)))
    ≡ flat_map (λ X. map (λ Y. q (assign k X us ++ assign k Y vs)) (sets (length vs))) (sets (length us))
sets_listed k q [] vs = sym (append-nil _)
sets_listed {A} k q (a ∷ us) vs =
    let P : List Bool → A = λ X. q (assign k X (a ∷ us ++ vs)) in
    let Q : List Bool → List A = λ X. map (λ Y. q (assign k X (a ∷ us) ++ assign k Y vs)) (sets (length vs)) in
    let S : List (List Bool) = sets (length (us ++ vs)) in
    let U : List (List Bool) = sets (length us) in
    map-append P (map (λ X. false ∷ X) S) (map (λ X. true ∷ X) S)
    ∙ ap₂ (λ x y. x ++ y)
    (map-map P (λ X. false ∷ X) S ∙ sets_listed k (λ z. q (mark k false a ∷ z)) us vs)
    (map-map P (λ X. true ∷ X) S ∙ sets_listed k (λ z. q (mark k true a ∷ z)) us vs)
    ∙ sym (ap₂ (λ x y. x ++ y) (flat_map-map Q (λ X. false ∷ X) U) (flat_map-map Q (λ X. true ∷ X) U))
    ∙ sym (flat_map-append Q (map (λ X. false ∷ X) U) (map (λ X. true ∷ X) U))

-- what is made of each pair, where it is made of the two parts
pairs_listed : {A B : Type 0} (j : Value → Value → Value) (left : A → Value) (right : B → Value) (xs : List A) (ys : List B)
    → flat_map (λ x. map (λ y. j (left x) (right y)) ys) xs ≡ all_pairs j (map left xs) (map right ys)
pairs_listed j left right xs ys =
    (λ i. flat_map (λ x. sym (map-map (j (left x)) right ys) i) xs)
    ∙ sym (flat_map-map (λ v. map (j v) (map right ys)) left xs)

-- ---- no element variable is assigned

no_singles : (ms : List Marks) → Singles (λ k. false) ms
no_singles ms k e = let c : false ≡ true = e in cc

-- the types over all sets as slot 0
types_over : Field → Formula → Tree → List Marks → List Value
types_over f F T ms = map (λ X. type_of f F T (assign 0 X ms)) (sets (length ms))

module _ (f : Field) (F : Formula) (w : WellSorted (λ k. false) F) (op : Op) (l r : Tree) (ok : IsValid f (Join op l r)) where
  decided : (us vs : List Marks) → length us ≡ size l → length vs ≡ size r
      → type_of f F (Join op l r) (us ++ vs) ≡ join_type f F op (type_of f F l us) (type_of f F r vs)
  decided us vs lu lv = join_law f F (λ k. false) op l r us vs w (no_singles (us ++ vs)) lu lv ok

  over_pairs : (us vs : List Marks) → length us ≡ size l → length vs ≡ size r
      → types_over f F (Join op l r) (us ++ vs) ≡ all_pairs (join_type f F op) (types_over f F l us) (types_over f F r vs)
  unfolding types_over
  over_pairs us vs lu lv =
      sets_listed 0 (type_of f F (Join op l r)) us vs
      ∙ (λ i. flat_map (λ X. map (λ Y. decided (assign 0 X us) (assign 0 Y vs) (length-assign 0 X us ∙ lu) (length-assign 0 Y vs ∙ lv) i) (sets (length vs))) (sets (length us)))
      ∙ pairs_listed (join_type f F op) (λ X. type_of f F l (assign 0 X us)) (λ Y. type_of f F r (assign 0 Y vs)) (sets (length us)) (sets (length vs))

-- the types of a query over an assignment of nothing, whose length is the number of elements
listed : (f : Field) (F : Formula) (T : Tree) → types_at f (Least F) T ≡ types_over f F T (unmarked (size T))
unfolding types_over
listed f F T = ap (λ n. map (λ X. type_of f F T (assign 0 X (unmarked (size T)))) (sets n)) (sym (length-replicate (size T) no_marks))

at_join : (f : Field) (Q : Query) → WellSorted (λ k. false) (asked Q) → (op : Op) (l r : Tree) → IsValid f (Join op l r)
    → types_at f Q (Join op l r) ≡ all_pairs (join_type f (asked Q) op) (types_at f Q l) (types_at f Q r)
at_join f (Decide F) w op l r ok =
    ap (λ v. v ∷ [])
    (ap (type_of f F (Join op l r)) (sym (replicate-append-replicate (size l) (size r) no_marks))
    ∙ decided f F w op l r ok (unmarked (size l)) (unmarked (size r)) (length-replicate (size l) no_marks) (length-replicate (size r) no_marks))
at_join f (Least F) w op l r ok =
    listed f F (Join op l r)
    ∙ ap (types_over f F (Join op l r)) (sym (replicate-append-replicate (size l) (size r) no_marks))
    ∙ over_pairs f F w op l r ok (unmarked (size l)) (unmarked (size r)) (length-replicate (size l) no_marks) (length-replicate (size r) no_marks)
    ∙ ap₂ (λ vs ws. all_pairs (join_type f F op) vs ws) (sym (listed f F l)) (sym (listed f F r))

at_node : (f : Field) (Q : Query) → WellSorted (λ k. false) (asked Q) → (T : Tree) → IsValid f T → types_at f Q T ≡ types_by_rules f Q T
at_node f (Decide F) w (Elem vec) ok = ap (λ v. v ∷ []) (elem_law_of f F vec no_marks ok)
at_node f (Least F) w (Elem vec) ok =
    ap₂ (λ v w. v ∷ w ∷ []) (elem_law_of f F vec (mark 0 false no_marks) ok) (elem_law_of f F vec (mark 0 true no_marks) ok)
at_node f (Decide F) w (Void t) ok = ap (λ v. v ∷ []) (void_law_of f F t)
at_node f (Least F) w (Void t) ok = ap (λ v. v ∷ []) (void_law_of f F t)
at_node f Q w (Join op l r) ok =
    at_join f Q w op l r ok
    ∙ ap₂ (λ vs ws. all_pairs (join_type f (asked Q) op) vs ws) (at_node f Q w l ok.3) (at_node f Q w r ok.4)

pub given_by_rules : TypesAreGivenByRules
given_by_rules f Q w T ok = (at_node f Q w T ok, at_nodes (subtrees T) (subtrees_valid f T ok), rows_at (subtrees T) (subtrees_valid f T ok))
  where
    at_nodes : (Ts : List Tree) → All (IsValid f) Ts → flat_map (types_at f Q) Ts ≡ flat_map (types_by_rules f Q) Ts
    at_nodes [] h = refl
    at_nodes (N ∷ Ts) h = ap₂ (λ x y. x ++ y) (at_node f Q w N (All-head (IsValid f) N Ts h)) (at_nodes Ts (All-tail (IsValid f) N Ts h))

    rows_at : (Ts : List Tree) → All (IsValid f) Ts
        → sum_by (λ N. length (distinct (types_at f Q N))) Ts ≡ sum_by (λ N. length (distinct (types_by_rules f Q N))) Ts
    rows_at [] h = refl
    rows_at (N ∷ Ts) h =
        sum_by-append (λ N. length (distinct (types_at f Q N))) (N ∷ []) Ts
        ∙ ap₂ (λ x y. x + y)
        (ap (λ vs. sum_by (λ (M : Tree). length (distinct vs)) (N ∷ [])) (at_node f Q w N (All-head (IsValid f) N Ts h)))
        (rows_at Ts (All-tail (IsValid f) N Ts h))
        ∙ sym (sum_by-append (λ N. length (distinct (types_by_rules f Q N))) (N ∷ []) Ts)
