-- The first sets of a node are as many as its different types.
use Rattle.std.proofs.Common.{◌≡◌, ◌≢◌, ℕ, suc, Bool, true, false, not, ℤ, List, [], ◌∷◌, length, map, filter, sum_by, get_or, refl, sym, ap, ◌∙◌, subst, arith}
use Rattle.std.specs.Prelude.{IsTrue}
use Rattle.std.specs.List.{list_any, AllPairs}
use Rattle.std.specs.Ordering.{is_eq}
use Rattle.std.specs.declared.cmp.Ordering.{Ordering}
use Rattle.std.specs.declared.cmp.Ordering.TheVariants.{Less, Equal, Greater}
use Rattle.std.proofs.lemmas.List.{length-map, get_or-map}
use Rattle.std.proofs.lemmas.List.Elements.{All-contains, Contains-get_or}
use Rattle.std.proofs.lemmas.List.Folds.{Any-from_list_any, list_any-from_Any}
use Rattle.mm_linear.proofs.SubspaceTests.{same_test}
use Rattle.mm_logic.proofs.BagLemmas.{bag-same, sum_by-cons}
use Rattle.mm_logic.proofs.SetLemmas.{list_any-map}
use Rattle.mm_logic.proofs.OccurrenceLemmas.{filter_kept}
use Rattle.mm_logic.proofs.ValueLemmas.{value_exact}
use Rattle.mm_logic.specs.Least.{IsFirst, AreFirsts}
use Rattle.mm_logic.specs.Marks.{assign, unmarked, sets}
use Rattle.mm_logic.specs.Occurrence.{same, distinct}
use Rattle.mm_logic.specs.Order.{SameMembers}
use Rattle.mm_logic.specs.Tree.{size}
use Rattle.mm_logic.specs.Types.{type_of}
use Rattle.mm_logic.specs.Value.{Value, value_cmp}
use Rattle.mm_logic_laws.specs.LeastLaws.{FirstsAreAsManyAsTypes}
use Rattle.mm_logic_laws.proofs.LeastLemmas.{different_types}
use Rattle.mm_logic_laws.proofs.MeaningLemmas.{some_set, from_set}

-- ---- different values

not_same : (v w : Value) → v ≢ w → same v w ≡ false
not_same v w ne = go (value_cmp v w) refl
  where
    go : (r : Ordering) → value_cmp v w ≡ r → is_eq (value_cmp v w) ≡ false
    go Less e = ap is_eq e
    go Equal e = absurd (ne (value_exact v w e))
    go Greater e = ap is_eq e

-- of values that differ pairwise each is kept
distinct-different : (vs : List Value) → AllPairs (λ v w. v ≢ w) vs → distinct vs ≡ vs
distinct-different [] h = refl
distinct-different (v ∷ vs) h =
    ap (λ z. v ∷ filter (λ w. not (same v w)) z) (distinct-different vs (λ i j d l m. h (suc i) (suc j) d (omega arith) (omega arith)))
    ∙ ap (λ z. v ∷ z) (filter_kept (λ w. not (same v w)) vs (λ k d l. ap not (not_same v (get_or vs k d) (h 0 (suc k) d (omega arith) (omega arith)))))

count_each : (vs : List Value) → sum_by (λ v. 1) vs ≡ length vs
count_each [] = refl
count_each (v ∷ vs) = sum_by-cons (λ v. 1) v vs ∙ (let e : sum_by (λ v. 1) vs ≡ length vs = count_each vs in omega (arith, e))

-- ---- the types of the first sets are the types of all sets

module _ (ws : List ℤ) (n : ℕ) (type : List Bool → Value) (rows : List (List Bool)) (h : AreFirsts ws n type rows) where
  same_types : SameMembers (map type rows) (map type (sets n))
  same_types p =
      list_any-map p type rows
      ∙ same_test (IsTrue (list_any (λ A. p (type A)) rows)) (IsTrue (list_any (λ A. p (type A)) (sets n)))
      (list_any (λ A. p (type A)) rows) (list_any (λ A. p (type A)) (sets n)) ((λ e. e), (λ e. e)) ((λ e. e), (λ e. e)) (
        (λ e.
            let a = Any-from_list_any (λ A. p (type A)) rows e in
            let first = All-contains (λ X. IsFirst ws n (λ Y. type Y ≡ type X) X) rows a.1 h.firsts (a.0, a.2, a.3) in
            subst (λ m. list_any (λ A. p (type A)) (sets m) ≡ true) first.size (from_set (λ A. p (type A)) a.1 a.4)),
        (λ e.
            let s = some_set (λ A. p (type A)) n e in
            let c = h.complete s.0 s.1 in
            list_any-from_Any (λ A. p (type A)) rows (c.1.0, c.0, c.1.1, c.1.2, ap p c.2 ∙ s.2)),
      )
      ∙ sym (list_any-map p type (sets n))

  different : AllPairs (λ A B. A ≢ B) rows → AllPairs (λ v w. v ≢ w) (map type rows)
  different apart i j d l m e =
      let lr : length (map type rows) ≡ length rows = length-map rows type in
      let A = get_or rows i [] in
      let B = get_or rows j [] in
      apart i j [] l (omega arith)
      (different_types ws n type rows h A B (Contains-get_or rows i [] (omega arith)) (Contains-get_or rows j [] (omega arith))
      (sym (get_or-map type rows i [] d (omega arith)) ∙ e ∙ get_or-map type rows j [] d (omega arith)))

  as_many : AllPairs (λ A B. A ≢ B) rows → length rows ≡ length (distinct (map type (sets n)))
  as_many apart =
      sym (length-map rows type)
      ∙ sym (ap length (distinct-different (map type rows) (different apart)))
      ∙ sym (count_each (distinct (map type rows)))
      ∙ bag-same (map type rows) (map type (sets n)) same_types (λ v. 1)
      ∙ count_each (distinct (map type (sets n)))

pub as_many_as_types : FirstsAreAsManyAsTypes
as_many_as_types f F T ws rows h apart = as_many ws (size T) (λ Y. type_of f F T (assign 0 Y (unmarked (size T)))) rows h apart
