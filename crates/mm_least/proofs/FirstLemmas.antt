-- The rows of a node are the first sets of their types.
use Rattle.std.proofs.Common.{◌≡◌, inl, inr, ◌+◌, ◌+ℤ◌, ℕ, suc, ℤ, pos, Bool, true, false, not, ◌&&◌, ◌||◌, List, [], ◌∷◌, ◌++◌, map, take, drop, length, get_or, Some, None, refl, sym, ap, ap₂, ◌∙◌, subst, arith, All, length-drop, take-append-drop}
use Rattle.std.proofs.lemmas.Int.{ints}
use Rattle.std.proofs.lemmas.List.{map-append, length-append, length-take-le, length-replicate, replicate-append-replicate, take_at, drop_at}
use Rattle.std.proofs.lemmas.List.Elements.{All-head, All-tail, All-contains}
use Rattle.mm_field.specs.declared.Field.{Field}
use Rattle.mm_logic.specs.Formula.{Formula}
use Rattle.mm_logic.specs.Operator.{Op}
use Rattle.mm_logic.specs.Value.{Value}
use Rattle.mm_logic.specs.Marks.{no_marks, assign, unmarked}
use Rattle.mm_logic.specs.Tree.{size}
use Rattle.mm_logic.specs.Tree as shapes
use Rattle.mm_logic.specs.JoinRule.{join_type, joined, lettered}
use Rattle.mm_logic.specs.Growth.{type_at}
use Rattle.mm_logic.specs.Least.{weight, precedes, IsFirst, AreFirsts}
use Rattle.mm_logic_laws.proofs.LeastLemmas.{AtMost, at_most-then, at_most-more_left, at_most-more_right, precedes-parts, precedes-right, weight-append, assign-append}
use Rattle.mm_logic_laws.proofs.SplitLemmas.{length-assign}
use Rattle.mm_states.specs.Lists.{AllFit}
use Rattle.mm_tree.specs.NamedTree.{Tree, shape, weights}
use Rattle.mm_tree.specs.NamedTree.Tree.{Elem, Void, Join}
use Rattle.mm_nodes.specs.KeptTrees.{KeptTree, top}
use Rattle.mm_nodes.specs.KeptTrees.KeptTree.{One, Two}
use Rattle.mm_least.specs.declared.row.Row.{Row}
use Rattle.mm_least.specs.declared.row.Origin.{Origin}
use Rattle.mm_least.specs.NodeRowsValue.{NodeValue}
use Rattle.mm_least.specs.Rows.{shown}
use Rattle.mm_least.specs.Candidates.{Candidate, put_all, held, typed, leaf_candidates, pairs_with, pairs_of}
use Rattle.mm_least.specs.RowLaws.{append_fits, put_all_fits}
use Rattle.mm_least.specs.LeastCalls.{StandFor}
use Rattle.mm_least.specs.LeastSets.{type_of_set, of_origin, set_at_leaf, sets_of, IsAscending}
use Rattle.mm_least.proofs.SetLemmas.{AnyFit, any_left, any_right, any_to, all_to, all_map, any_map, any_mapped, any_contains, Offers, first_sets, ascending_sets}

-- ---- sets in two parts

-- each of some sets followed by each of others
abbrev pairs : (As Bs : List (List Bool)) → List (List Bool)
pairs [] Bs = []
pairs (A ∷ As) Bs = map (λ B. A ++ B) Bs ++ pairs As Bs

all_each : {K : Type 0} (P : K → Type 0) (ks : List K) → ((k : K) → P k) → AllFit P ks
all_each P [] f = tt
all_each P (k ∷ ks) f = (f k, all_each P ks f)

fit_all : {K : Type 0} (P : K → Type 0) (ks : List K) → All P ks → AllFit P ks
fit_all P [] h = tt
fit_all P (k ∷ ks) h = (All-head P k ks h, fit_all P ks (All-tail P k ks h))

abbrev Before : List Bool → List Bool → Type 0
Before X Y = precedes X Y ≡ true

ascending_append : (Xs Ys : List (List Bool)) → IsAscending Xs → IsAscending Ys → AllFit (λ X. AllFit (Before X) Ys) Xs → IsAscending (Xs ++ Ys)
ascending_append [] Ys a b h = b
ascending_append (X ∷ Xs) Ys a b h = (append_fits (Before X) Xs Ys a.0 h.0, ascending_append Xs Ys a.1 b h.1)

ascending_with : (A : List Bool) (Bs : List (List Bool)) → IsAscending Bs → IsAscending (map (λ B. A ++ B) Bs)
ascending_with A [] b = tt
ascending_with A (B ∷ Bs) b = (
  all_map (λ C. A ++ C) (Before (A ++ B)) Bs (all_to (Before B) (λ C. Before (A ++ B) (A ++ C)) Bs (λ C h. precedes-right A B C ∙ h) b.0),
  ascending_with A Bs b.1,
)

before_parts : (A A' B B' : List Bool) → length A ≡ length A' → Before A A' → Before (A ++ B) (A' ++ B')
before_parts A A' B B' l h = precedes-parts A A' B B' l ∙ ap (λ b. b || (not (precedes A' A) && precedes B B')) h

before_pairs : (n : ℕ) (A B : List Bool) (As Bs : List (List Bool)) → length A ≡ n → AllFit (λ C. length C ≡ n) As → AllFit (Before A) As → AllFit (Before (A ++ B)) (pairs As Bs)
before_pairs n A B [] Bs l ls h = tt
before_pairs n A B (C ∷ As) Bs l ls h =
    append_fits (Before (A ++ B)) (map (λ D. C ++ D) Bs) (pairs As Bs)
    (all_map (λ D. C ++ D) (Before (A ++ B)) Bs (all_each (λ D. Before (A ++ B) (C ++ D)) Bs (λ D. before_parts A C B D (l ∙ sym ls.0) h.0)))
    (before_pairs n A B As Bs l ls.1 h.1)

-- pairs stand in the order of their left parts, and then of their right ones
ascending_pairs : (n : ℕ) (As Bs : List (List Bool)) → AllFit (λ A. length A ≡ n) As → IsAscending As → IsAscending Bs → IsAscending (pairs As Bs)
ascending_pairs n [] Bs l a b = tt
ascending_pairs n (A ∷ As) Bs l a b =
    ascending_append (map (λ B. A ++ B) Bs) (pairs As Bs) (ascending_with A Bs b) (ascending_pairs n As Bs l.1 a.1 b)
    (all_map (λ B. A ++ B) (λ X. AllFit (Before X) (pairs As Bs)) Bs
    (all_each (λ B. AllFit (Before (A ++ B)) (pairs As Bs)) Bs (λ B. before_pairs n A B As Bs l.0 l.1 a.0)))

any_pair : (A B : List Bool) (As Bs : List (List Bool)) → AnyFit (λ X. X ≡ A) As → AnyFit (λ X. X ≡ B) Bs → AnyFit (λ X. X ≡ A ++ B) (pairs As Bs)
any_pair A B (C ∷ As) Bs (inl e) b =
    any_left (λ X. X ≡ A ++ B) (map (λ D. C ++ D) Bs) (pairs As Bs)
    (any_map (λ D. C ++ D) (λ X. X ≡ A ++ B) Bs (any_to (λ X. X ≡ B) (λ D. C ++ D ≡ A ++ B) Bs (λ D s. ap₂ (λ x y. x ++ y) e s) b))
any_pair A B (C ∷ As) Bs (inr a) b = any_right (λ X. X ≡ A ++ B) (map (λ D. C ++ D) Bs) (pairs As Bs) (any_pair A B As Bs a b)
any_pair A B [] Bs a b = absurd a

-- ---- lists by place

-- items stand from a place on
abbrev IsAt : {X : Type 0} → (ℕ → X) → ℕ → List X → Type 0
IsAt at k [] = Unit {0}
IsAt at k (x ∷ xs) = (at k ≡ x) × IsAt at (suc k) xs

at_next : {X : Type 0} (at : ℕ → X) (k : ℕ) (xs : List X) → IsAt (λ i. at (suc i)) k xs → IsAt at (suc k) xs
at_next at k [] h = tt
at_next at k (x ∷ xs) h = (h.0, at_next at (suc k) xs h.1)

at_places : {X : Type 0} (xs : List X) (d : X) → IsAt (λ k. get_or xs k d) 0 xs
at_places [] d = tt
at_places (x ∷ xs) d = (refl, at_next (λ k. get_or (x ∷ xs) k d) 0 xs (at_places xs d))

-- ---- what a join offers

-- a set by its type and weight
abbrev pub shows : List ℤ → (List Bool → Value) → List Bool → Value × ℤ
shows ws type A = (type A, weight ws A)

module _
    (n m : ℕ) (us vs : List ℤ) (type left right : List Bool → Value) (j : Value → Value → Value)
    (law : (A B : List Bool) → length A ≡ n → length B ≡ m → type (A ++ B) ≡ j (left A) (right B)) (many : length us ≡ n)
    (As Bs : List (List Bool)) where
  -- a candidate of the type, the weight and the size of its set
  abbrev IsOfSet : Candidate Origin → Type 0
  IsOfSet c =
      (c.type ≡ type (of_origin As Bs c.origin)) × (c.weight ≡ weight (us ++ vs) (of_origin As Bs c.origin))
      × (length (of_origin As Bs c.origin) ≡ n + m)

  set_of : Candidate Origin → List Bool
  set_of c = of_origin As Bs c.origin

  with_sets : (A : List Bool) (i k : ℕ) (Ds : List (List Bool)) → get_or As i [] ≡ A → IsAt (λ l. get_or Bs l []) k Ds
      → map (λ c. of_origin As Bs c.origin) (pairs_with j (shows us left A) i (map (shows vs right) Ds) k) ≡ map (λ B. A ++ B) Ds
  with_sets A i k [] a h = refl
  with_sets A i k (D ∷ Ds) a h = ap₂ (λ X Xs. X ∷ Xs) (ap₂ (λ X Y. X ++ Y) a h.0) (with_sets A i (suc k) Ds a h.1)

  pairs_sets : (i : ℕ) (Cs : List (List Bool)) → IsAt (λ l. get_or As l []) i Cs
      → map (λ c. of_origin As Bs c.origin) (pairs_of j (map (shows us left) Cs) i (map (shows vs right) Bs)) ≡ pairs Cs Bs
  pairs_sets i [] h = refl
  pairs_sets i (C ∷ Cs) h =
      map-append (λ c. of_origin As Bs c.origin) (pairs_with j (shows us left C) i (map (shows vs right) Bs) 0) (pairs_of j (map (shows us left) Cs) (suc i) (map (shows vs right) Bs))
      ∙ ap₂ (λ Xs Ys. Xs ++ Ys) (with_sets C i 0 Bs h.0 (at_places Bs [])) (pairs_sets (suc i) Cs h.1)

  with_fit : (A : List Bool) (i k : ℕ) (Ds : List (List Bool)) → length A ≡ n → get_or As i [] ≡ A → AllFit (λ D. length D ≡ m) Ds → IsAt (λ l. get_or Bs l []) k Ds
      → AllFit IsOfSet (pairs_with j (shows us left A) i (map (shows vs right) Ds) k)
  with_fit A i k [] la a ls h = tt
  with_fit A i k (D ∷ Ds) la a ls h =
      let same : A ++ D ≡ get_or As i [] ++ get_or Bs k [] = ap₂ (λ X Y. X ++ Y) (sym a) (sym h.0) in (
        (
          sym (law A D la ls.0) ∙ ap type same,
          sym (weight-append us vs A D (many ∙ sym la)) ∙ ap (weight (us ++ vs)) same,
          ap length (sym same) ∙ length-append A D ∙ ap₂ (λ x y. x + y) la ls.0,
        ),
        with_fit A i (suc k) Ds la a ls.1 h.1,
      )

  pairs_fit : (i : ℕ) (Cs : List (List Bool)) → AllFit (λ C. length C ≡ n) Cs → AllFit (λ B. length B ≡ m) Bs → IsAt (λ l. get_or As l []) i Cs
      → AllFit IsOfSet (pairs_of j (map (shows us left) Cs) i (map (shows vs right) Bs))
  pairs_fit i [] ls ms h = tt
  pairs_fit i (C ∷ Cs) ls ms h =
      append_fits IsOfSet (pairs_with j (shows us left C) i (map (shows vs right) Bs) 0) (pairs_of j (map (shows us left) Cs) (suc i) (map (shows vs right) Bs))
      (with_fit C i 0 Bs ls.0 h.0 ms (at_places Bs [])) (pairs_fit (suc i) Cs ls.1 ms h.1)

  module _ (hl : AreFirsts us n left As) (hr : AreFirsts vs m right Bs) (al : IsAscending As) (ar : IsAscending Bs) where
    abbrev offered : List (Candidate Origin)
    offered = pairs_of j (map (shows us left) As) 0 (map (shows vs right) Bs)

    sizes : {k : ℕ} (ws : List ℤ) (τ : List Bool → Value) (Xs : List (List Bool)) → AreFirsts ws k τ Xs → AllFit (λ X. length X ≡ k) Xs
    sizes {k} ws τ Xs h = all_to (λ X. IsFirst ws k (λ Y. τ Y ≡ τ X) X) (λ X. length X ≡ k) Xs (λ X f. f.size) (fit_all (λ X. IsFirst ws k (λ Y. τ Y ≡ τ X) X) Xs h.firsts)

    fit : AllFit IsOfSet offered
    fit = pairs_fit 0 As (sizes us left As hl) (sizes vs right Bs hr) (at_places As [])

    -- a pair of first sets is not after a set with the same types of its parts
    pair_enough : (Z : List Bool) → length Z ≡ n + m → AnyFit (λ c. (type (of_origin As Bs c.origin) ≡ type Z) × AtMost (us ++ vs) (of_origin As Bs c.origin) Z) offered
    pair_enough Z lz =
        let P = take n Z in
        let Q = drop n Z in
        let lp : length P ≡ n = length-take-le n Z (omega arith) in
        let lq : length Q ≡ m = length-drop n Z ∙ omega arith in
        let parts : P ++ Q ≡ Z = take-append-drop n Z in
        let p = hl.complete P lp in
        let q = hr.complete Q lq in
        let fp = All-contains (λ X. IsFirst us n (λ Y. left Y ≡ left X) X) As p.0 hl.firsts p.1 in
        let fq = All-contains (λ X. IsFirst vs m (λ Y. right Y ≡ right X) X) Bs q.0 hr.firsts q.1 in
        let kind : type (p.0 ++ q.0) ≡ type Z = law p.0 q.0 fp.size fq.size ∙ ap₂ (λ x y. j x y) p.2 q.2 ∙ sym (law P Q lp lq) ∙ ap type parts in
        let one = at_most-more_left us vs p.0 P q.0 (many ∙ sym fp.size) (fp.size ∙ sym lp) (fp.best P lp (sym p.2)) in
        let two = at_most-more_right us vs P q.0 Q (many ∙ sym lp) (fq.best Q lq (sym q.2)) in
        let first : AtMost (us ++ vs) (p.0 ++ q.0) Z = subst (AtMost (us ++ vs) (p.0 ++ q.0)) parts (at_most-then (us ++ vs) (p.0 ++ q.0) (P ++ q.0) (P ++ Q) one two) in
        let there = any_pair p.0 q.0 As Bs (any_contains As p.0 p.1) (any_contains Bs q.0 q.1) in
        any_to (λ c. of_origin As Bs c.origin ≡ p.0 ++ q.0) (λ c. (type (of_origin As Bs c.origin) ≡ type Z) × AtMost (us ++ vs) (of_origin As Bs c.origin) Z) offered
        (λ c e. (ap type e ∙ kind, subst (λ X. AtMost (us ++ vs) X Z) (sym e) first))
        (any_mapped (λ c. of_origin As Bs c.origin) (λ X. X ≡ p.0 ++ q.0) offered
        (subst (AnyFit (λ X. X ≡ p.0 ++ q.0)) (sym (pairs_sets 0 As (at_places As []))) there))

    pub offers_pairs : Offers (us ++ vs) (n + m) type (of_origin As Bs) offered
    offers_pairs = record {
      types = all_to IsOfSet (λ c. c.type ≡ type (of_origin As Bs c.origin)) offered (λ c h. h.0) fit;
      weighed = all_to IsOfSet (λ c. c.weight ≡ weight (us ++ vs) (of_origin As Bs c.origin)) offered (λ c h. h.1) fit;
      sizes = all_to IsOfSet (λ c. length (of_origin As Bs c.origin) ≡ n + m) offered (λ c h. h.2) fit;
      ascending = subst IsAscending (sym (pairs_sets 0 As (at_places As []))) (ascending_pairs n As Bs (sizes us left As hl) al ar);
      enough = pair_enough;
    }

-- ---- what a leaf offers

add_nothing : (w : ℤ) → w ≡ w +ℤ pos 0
add_nothing w = omega (arith, ints)

module _ (f : Field) (F : Formula) (name : List ℕ) where
  offers_elem : (vec : List ℕ) (w : ℤ)
      → Offers (w ∷ []) 1 (λ A. joined f F (lettered (shapes.Tree.Elem vec) (assign 0 A (unmarked 1)))) (set_at_leaf (Some name)) (leaf_candidates f F (Elem name vec w))
  offers_elem vec w = record {
    types = (refl, (refl, tt));
    weighed = (refl, (add_nothing w, tt));
    sizes = (refl, (refl, tt));
    ascending = ((refl, tt), (tt, tt));
    enough = one;
  }
    where
      τ : List Bool → Value
      τ A = joined f F (lettered (shapes.Tree.Elem vec) (assign 0 A (unmarked 1)))

      one : (Z : List Bool) → length Z ≡ 1
          → AnyFit (λ (c : Candidate Origin). (τ (set_at_leaf (Some name) c.origin) ≡ τ Z) × AtMost (w ∷ []) (set_at_leaf (Some name) c.origin) Z) (leaf_candidates f F (Elem name vec w))
      one [] l = absurd (omega (arith, l))
      one (false ∷ []) l = inl (refl, inl refl)
      one (true ∷ []) l = inr (inl (refl, inl refl))
      one (a ∷ b ∷ Z) l = absurd (omega (arith, l))

  offers_void : (t : ℕ) → Offers [] 0 (λ A. joined f F (lettered (shapes.Tree.Void t) (assign 0 A (unmarked 0)))) (set_at_leaf None) (leaf_candidates f F (Void name t))
  offers_void t = record {
    types = (refl, tt);
    weighed = (refl, tt);
    sizes = (refl, tt);
    ascending = (tt, tt);
    enough = none;
  }
    where
      τ : List Bool → Value
      τ A = joined f F (lettered (shapes.Tree.Void t) (assign 0 A (unmarked 0)))

      none : (Z : List Bool) → length Z ≡ 0
          → AnyFit (λ (c : Candidate Origin). (τ (set_at_leaf None c.origin) ≡ τ Z) × AtMost [] (set_at_leaf None c.origin) Z) (leaf_candidates f F (Void name t))
      none [] l = inl (refl, inl refl)
      none (a ∷ Z) l = absurd (omega (arith, l))

-- ---- the rows of a node

-- the sets are the first of their types, in the order of their leaf words, and show these types and weights
pub record HasFirsts (ws : List ℤ) (n : ℕ) (type : List Bool → Value) (Xs : List (List Bool)) (ps : List (Value × ℤ)) : Type 0 where
  pub firsts : AreFirsts ws n type Xs
  pub ascending : IsAscending Xs
  pub shown_as : ps ≡ map (shows ws type) Xs

module _ (F : Formula) (lists : List (List Value)) where
  sets_held : (set : Origin → List Bool) (rows : List Row) → map (λ r. set r.origin) rows ≡ map (λ c. set c.origin) (held F lists rows)
  sets_held set [] = refl
  sets_held set (r ∷ rows) = ap (λ Xs. set r.origin ∷ Xs) (sets_held set rows)

  typed_held : (rows : List Row) → typed F lists (shown rows) ≡ map (λ c. (c.type, c.weight)) (held F lists rows)
  typed_held [] = refl
  typed_held (r ∷ rows) = ap (λ ps. (type_at F lists r.id, r.weight) ∷ ps) (typed_held rows)

module _ (ws : List ℤ) (n : ℕ) (type : List Bool → Value) (set : Origin → List Bool) where
  shown_sets : (cs : List (Candidate Origin)) → AllFit (λ c. c.type ≡ type (set c.origin)) cs → AllFit (λ c. c.weight ≡ weight ws (set c.origin)) cs
      → map (λ c. (c.type, c.weight)) cs ≡ map (shows ws type) (map (λ c. set c.origin) cs)
  shown_sets [] t w = refl
  shown_sets (c ∷ cs) t w = ap₂ (λ p ps. p ∷ ps) (ap₂ (λ v x. (v, x)) t.0 w.0) (shown_sets cs t.1 w.1)

  node_firsts : (F : Formula) (lists : List (List Value)) (rows : List Row) (cs : List (Candidate Origin)) → Offers ws n type set cs → held F lists rows ≡ put_all cs []
      → HasFirsts ws n type (map (λ r. set r.origin) rows) (typed F lists (shown rows))
  node_firsts F lists rows cs o h =
      let all : map (λ r. set r.origin) rows ≡ map (λ c. set c.origin) (put_all cs []) = sets_held F lists set rows ∙ ap (map (λ c. set c.origin)) h in
      record {
        firsts = subst (AreFirsts ws n type) (sym all) (first_sets ws n type set cs o);
        ascending = subst IsAscending (sym all) (ascending_sets ws n type set cs o);
        shown_as =
            typed_held F lists rows ∙ ap (map (λ c. (c.type, c.weight))) h
            ∙ shown_sets (put_all cs []) (put_all_fits (λ c. c.type ≡ type (set c.origin)) cs [] o.types tt) (put_all_fits (λ c. c.weight ≡ weight ws (set c.origin)) cs [] o.weighed tt)
            ∙ ap (map (shows ws type)) (sym all);
      }

-- ---- the rows of a tree

-- the type of a set in two parts is joined from the types of the parts
joined_parts : (f : Field) (F : Formula) (op : Op) (l r : shapes.Tree) (A B : List Bool) → length A ≡ size l → length B ≡ size r
    → joined f F (lettered (shapes.Tree.Join op l r) (assign 0 (A ++ B) (unmarked (size l + size r))))
    ≡ join_type f F op (joined f F (lettered l (assign 0 A (unmarked (size l))))) (joined f F (lettered r (assign 0 B (unmarked (size r)))))
joined_parts f F op l r A B la lb =
    let us = assign 0 A (unmarked (size l)) in
    let vs = assign 0 B (unmarked (size r)) in
    let long : length us ≡ size l = length-assign 0 A (unmarked (size l)) ∙ length-replicate (size l) no_marks in
    let split : assign 0 (A ++ B) (unmarked (size l + size r)) ≡ us ++ vs =
    ap (assign 0 (A ++ B)) (sym (replicate-append-replicate (size l) (size r) no_marks))
    ∙ assign-append 0 A B (unmarked (size l)) (unmarked (size r)) (la ∙ sym (length-replicate (size l) no_marks)) in
    let one = ap (take (size l)) split ∙ take_at us vs (size l) long in
    let two = ap (drop (size l)) split ∙ drop_at us vs (size l) long in
    (λ i. join_type f F op (joined f F (lettered l (one i))) (joined f F (lettered r (two i))))

count_weights : (T : Tree) → length (weights T) ≡ size (shape T)
unfolding shape weights
count_weights (Elem name vec weight) = refl
count_weights (Void name t) = refl
count_weights (Join name op l r) = length-append (weights l) (weights r) ∙ ap₂ (λ x y. x + y) (count_weights l) (count_weights r)

pub rows_first : (f : Field) (F : Formula) (lists : List (List Value)) (T : Tree) (R : KeptTree NodeValue) → StandFor f F lists T R
    → HasFirsts (weights T) (size (shape T)) (type_of_set f F T) (sets_of R) (typed F lists (shown (top R).rows))
unfolding shape weights
rows_first f F lists (Elem name vec weight) (One n) s =
    let τ : List Bool → Value = λ A. joined f F (lettered (shapes.Tree.Elem vec) (assign 0 A (unmarked 1))) in
    node_firsts (weight ∷ []) 1 τ (set_at_leaf n.name) F lists n.rows (leaf_candidates f F (Elem name vec weight))
    (subst (λ o. Offers (weight ∷ []) 1 τ (set_at_leaf o) (leaf_candidates f F (Elem name vec weight))) (sym s.name) (offers_elem f F name vec weight)) s.rows
rows_first f F lists (Void name t) (One n) s =
    let τ : List Bool → Value = λ A. joined f F (lettered (shapes.Tree.Void t) (assign 0 A (unmarked 0))) in
    node_firsts [] 0 τ (set_at_leaf n.name) F lists n.rows (leaf_candidates f F (Void name t))
    (subst (λ o. Offers [] 0 τ (set_at_leaf o) (leaf_candidates f F (Void name t))) (sym s.name) (offers_void f F name t)) s.rows
rows_first f F lists (Join name op l r) (Two n a b) s =
    let left = rows_first f F lists l a s.1 in
    let right = rows_first f F lists r b s.2 in
    let j = join_type f F op in
    let τ = type_of_set f F (Join name op l r) in
    let offered = pairs_of j (map (shows (weights l) (type_of_set f F l)) (sets_of a)) 0 (map (shows (weights r) (type_of_set f F r)) (sets_of b)) in
    node_firsts (weights l ++ weights r) (size (shape l) + size (shape r)) τ (of_origin (sets_of a) (sets_of b)) F lists n.rows offered
    (offers_pairs (size (shape l)) (size (shape r)) (weights l) (weights r) τ (type_of_set f F l) (type_of_set f F r) j
    (joined_parts f F op (shape l) (shape r)) (count_weights l) (sets_of a) (sets_of b) left.firsts right.firsts left.ascending right.ascending)
    (s.0.rows ∙ (λ i. put_all (pairs_of j (left.shown_as i) 0 (right.shown_as i)) []))
rows_first f F lists (Elem name vec weight) (Two n a b) s = absurd s
rows_first f F lists (Void name t) (Two n a b) s = absurd s
rows_first f F lists (Join name op l r) (One n) s = absurd s
