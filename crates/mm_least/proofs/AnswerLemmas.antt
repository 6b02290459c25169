-- The lightest of the rows with an accepted type has the least set.
use Rattle.std.proofs.Common.{◌≡◌, ◌⊎◌, inl, inr, ◌<◌, ◌≤◌, ◌+◌, ◌<ℤ◌, ℕ, zero, suc, ℤ, pos, Bool, true, false, List, [], ◌∷◌, ◌++◌, map, length, get_or, Option, Some, None, refl, sym, ap, ap₂, ◌∙◌, subst, arith}
use Rattle.std.specs.List.{items_where_true}
use Rattle.std.proofs.lemmas.List.{length-map, get_or-map, get_or_default}
use Rattle.std.proofs.lemmas.Simd.{map-map}
use Rattle.mm_field.specs.declared.Field.{Field}
use Rattle.mm_logic.specs.Formula.{Formula}
use Rattle.mm_logic.specs.Value.{Value}
use Rattle.mm_logic.specs.Value.Value.{Dead}
use Rattle.mm_logic.specs.Tree.{size}
use Rattle.mm_logic.specs.JoinRule.{join_type}
use Rattle.mm_logic.specs.Acceptance.{accepts}
use Rattle.mm_logic.specs.Growth.{type_at}
use Rattle.mm_logic.specs.Least.{weight, precedes}
use Rattle.mm_logic.proofs.ChosenLemmas.{chosen-append}
use Rattle.mm_logic_laws.proofs.LeastLemmas.{AtMost, at_most-then}
use Rattle.mm_states.specs.Lists.{AllFit}
use Rattle.mm_tree.specs.NamedTree.{Tree, shape, weights, element_names}
use Rattle.mm_tree.specs.NamedTree.Tree.{Elem, Void, Join}
use Rattle.mm_tree.proofs.ElementLemmas.{count_elements}
use Rattle.mm_nodes.specs.KeptTrees.{KeptTree, top}
use Rattle.mm_nodes.specs.KeptTrees.KeptTree.{One, Two}
use Rattle.mm_least.specs.declared.best.Best.{Best}
use Rattle.mm_least.specs.declared.row.Row.{Row}
use Rattle.mm_least.specs.declared.row.Origin.{Origin}
use Rattle.mm_least.specs.declared.row.Origin.TheVariants.{Out, Taken, Pair}
use Rattle.mm_least.specs.NodeRowsValue.{NodeValue}
use Rattle.mm_least.specs.EmptySets.{ComesAt, ComesFromBoth}
use Rattle.mm_least.specs.Rows.{shown}
use Rattle.mm_least.specs.Candidates.{Candidate, candidate, typed, pairs_with, pairs_of}
use Rattle.mm_least.specs.RowLaws.{append_fits, put_all_fits}
use Rattle.mm_least.specs.LeastCalls.{StandFor}
use Rattle.mm_least.specs.LeastSets.{type_of_set, of_origin, set_at_leaf, name_at_leaf, gathered, sets_of, names_of, IsAscending, IsFirstAccepted, RowsAreFirstSets, ComesFrom, AreLinked, is_accepted, IsLightest, IsLightestBefore}
use Rattle.mm_least.proofs.SetLemmas.{all_mapped}
use Rattle.mm_least.proofs.FirstLemmas.{HasFirsts, shows, rows_first}

-- ---- rows come from rows that are there

module _ (j : Value → Value → Value) (left right : ℕ) where
  with_linked : (p : Value × ℤ) (i k : ℕ) (qs : List (Value × ℤ)) → i < left → k + length qs ≤ right → AllFit (λ (c : Candidate Origin). ComesFrom left right c.origin) (pairs_with j p i qs k)
  with_linked p i k [] a b = tt
  with_linked p i k (q ∷ qs) a b = ((a, omega (arith, b)), with_linked p i (suc k) qs a (omega (arith, b)))

  pairs_linked : (i : ℕ) (ps qs : List (Value × ℤ)) → i + length ps ≤ left → length qs ≤ right → AllFit (λ (c : Candidate Origin). ComesFrom left right c.origin) (pairs_of j ps i qs)
  pairs_linked i [] qs a b = tt
  pairs_linked i (p ∷ ps) qs a b =
      append_fits (λ (c : Candidate Origin). ComesFrom left right c.origin) (pairs_with j p i qs 0) (pairs_of j ps (suc i) qs)
      (with_linked p i 0 qs (omega (arith, a)) (omega (arith, b))) (pairs_linked (suc i) ps qs (omega (arith, a)) b)

count_typed : (F : Formula) (lists : List (List Value)) (rows : List Row) → length (typed F lists (shown rows)) ≡ length rows
count_typed F lists [] = refl
count_typed F lists (r ∷ rows) = ap suc (count_typed F lists rows)

pub linked : (f : Field) (F : Formula) (lists : List (List Value)) (T : Tree) (R : KeptTree NodeValue) → StandFor f F lists T R → AreLinked R
linked f F lists (Elem name vec w) (One n) s = s.nothing
linked f F lists (Void name t) (One n) s = s.nothing
linked f F lists (Join name op l r) (One n) s = absurd s
linked f F lists (Join name op l r) (Two n a b) s =
    let ps = typed F lists (shown (top a).rows) in
    let qs = typed F lists (shown (top b).rows) in
    let one = count_typed F lists (top a).rows in
    let two = count_typed F lists (top b).rows in
    let P : Candidate Origin → Type 0 = λ c. ComesFrom (length (top a).rows) (length (top b).rows) c.origin in (
      all_mapped (λ (r : Row). candidate (type_at F lists r.id) r.weight r.origin) P n.rows
          (subst (AllFit P) (sym s.0.rows)
          (put_all_fits P (pairs_of (join_type f F op) ps 0 qs) []
          (pairs_linked (join_type f F op) (length (top a).rows) (length (top b).rows) 0 ps qs (omega (arith, one)) (omega (arith, two))) tt)),
      linked f F lists l a s.1,
      linked f F lists r b s.2,
      s.0.nothing,
    )
linked f F lists (Elem name vec w) (Two n a b) s = absurd s
linked f F lists (Void name t) (Two n a b) s = absurd s

-- ---- names

count_sets : {X : Type 0} (at_leaf : Option (List ℕ) → Origin → List X) (R : KeptTree NodeValue) → length (gathered at_leaf R) ≡ length (top R).rows
count_sets at_leaf (One n) = length-map n.rows (λ r. at_leaf n.name r.origin)
count_sets at_leaf (Two n a b) = length-map n.rows (λ r. of_origin (gathered at_leaf a) (gathered at_leaf b) r.origin)

module _ (names : List (List ℕ)) (name : Origin → List (List ℕ)) (set : Origin → List Bool) where
  rows_named : (rows : List Row) → AllFit (λ r. name r.origin ≡ items_where_true (set r.origin) names) rows
      → map (λ r. name r.origin) rows ≡ map (λ A. items_where_true A names) (map (λ r. set r.origin) rows)
  rows_named [] h = refl
  rows_named (r ∷ rows) h = ap₂ (λ x xs. x ∷ xs) h.0 (rows_named rows h.1)

each_row : (P : Origin → Type 0) (rows : List Row) → ((o : Origin) → P o) → AllFit (λ (r : Row). P r.origin) rows
each_row P [] f = tt
each_row P (r ∷ rows) f = (f r.origin, each_row P rows f)

elem_named : (name : List ℕ) (o : Origin) → name_at_leaf (Some name) o ≡ items_where_true (set_at_leaf (Some name) o) (name ∷ [])
elem_named name Out = refl
elem_named name Taken = refl
elem_named name (Pair i j) = refl

module _ (ls rs : List (List ℕ)) (As Bs : List (List Bool)) (many : (i : ℕ) → i < length As → length (get_or As i []) ≡ length ls) where
  pair_named : (left right : List (List (List ℕ))) → left ≡ map (λ A. items_where_true A ls) As → right ≡ map (λ B. items_where_true B rs) Bs
      → (o : Origin) → ComesFrom (length As) (length Bs) o → of_origin left right o ≡ items_where_true (of_origin As Bs o) (ls ++ rs)
  pair_named left right a b Out c = refl
  pair_named left right a b Taken c = refl
  pair_named left right a b (Pair i j) c =
      ap₂ (λ xs ys. get_or xs i [] ++ get_or ys j []) a b
      ∙ ap₂ (λ xs ys. xs ++ ys) (get_or-map (λ A. items_where_true A ls) As i [] [] c.0) (get_or-map (λ B. items_where_true B rs) Bs j [] [] c.1)
      ∙ sym (chosen-append (get_or As i []) (get_or Bs j []) ls rs (many i c.0))

  pairs_named : (left right : List (List (List ℕ))) → left ≡ map (λ A. items_where_true A ls) As → right ≡ map (λ B. items_where_true B rs) Bs
      → (m n : ℕ) → m ≡ length As → n ≡ length Bs → (rows : List Row) → AllFit (λ r. ComesFrom m n r.origin) rows
      → AllFit (λ r. of_origin left right r.origin ≡ items_where_true (of_origin As Bs r.origin) (ls ++ rs)) rows
  pairs_named left right a b m n e f [] h = tt
  pairs_named left right a b m n e f (r ∷ rows) h = (
    pair_named left right a b r.origin (subst (λ k. ComesFrom k (length Bs) r.origin) e (subst (λ k. ComesFrom m k r.origin) f h.0)),
    pairs_named left right a b m n e f rows h.1,
  )

sized : (f : Field) (F : Formula) (lists : List (List Value)) (T : Tree) (R : KeptTree NodeValue) → StandFor f F lists T R
    → (i : ℕ) → i < length (sets_of R) → length (get_or (sets_of R) i []) ≡ length (element_names T)
sized f F lists T R s i l = let first = (rows_first f F lists T R s).firsts.firsts i [] l in first.size ∙ sym (count_elements T)

pub names_are : (f : Field) (F : Formula) (lists : List (List Value)) (T : Tree) (R : KeptTree NodeValue) → StandFor f F lists T R
    → names_of R ≡ map (λ A. items_where_true A (element_names T)) (sets_of R)
unfolding element_names
names_are f F lists (Elem name vec w) (One n) s =
    rows_named (name ∷ []) (name_at_leaf n.name) (set_at_leaf n.name) n.rows
    (subst (λ o. AllFit (λ (r : Row). name_at_leaf o r.origin ≡ items_where_true (set_at_leaf o r.origin) (name ∷ [])) n.rows) (sym s.name)
    (each_row (λ o. name_at_leaf (Some name) o ≡ items_where_true (set_at_leaf (Some name) o) (name ∷ [])) n.rows (elem_named name)))
names_are f F lists (Void name t) (One n) s =
    rows_named [] (name_at_leaf n.name) (set_at_leaf n.name) n.rows
    (subst (λ o. AllFit (λ (r : Row). name_at_leaf o r.origin ≡ items_where_true (set_at_leaf o r.origin) []) n.rows) (sym s.name)
    (each_row (λ o. name_at_leaf None o ≡ items_where_true (set_at_leaf None o) []) n.rows (λ o. refl)))
names_are f F lists (Join name op l r) (Two n a b) s =
    rows_named (element_names l ++ element_names r) (of_origin (names_of a) (names_of b)) (of_origin (sets_of a) (sets_of b)) n.rows
    (pairs_named (element_names l) (element_names r) (sets_of a) (sets_of b) (sized f F lists l a s.1) (names_of a) (names_of b) (names_are f F lists l a s.1) (names_are f F lists r b s.2)
    (length (top a).rows) (length (top b).rows) (sym (count_sets set_at_leaf a)) (sym (count_sets set_at_leaf b)) n.rows (linked f F lists (Join name op l r) (Two n a b) s).0)
names_are f F lists (Elem name vec w) (Two n a b) s = absurd s
names_are f F lists (Void name t) (Two n a b) s = absurd s
names_are f F lists (Join name op l r) (One n) s = absurd s

-- ---- the choice

ascending_at : (Xs : List (List Bool)) (i j : ℕ) → IsAscending Xs → i < j → j < length Xs → precedes (get_or Xs i []) (get_or Xs j []) ≡ true
ascending_at [] i j a l m = absurd (omega (arith, m))
ascending_at (X ∷ Xs) i zero a l m = absurd (omega (arith, l))
ascending_at (X ∷ Xs) zero (suc j) a l m = later Xs j a.0 (omega (arith, m))
  where
    later : (Ys : List (List Bool)) (k : ℕ) → AllFit (λ Y. precedes X Y ≡ true) Ys → k < length Ys → precedes X (get_or Ys k []) ≡ true
    later [] k h m = absurd (omega (arith, m))
    later (Y ∷ Ys) zero h m = h.0
    later (Y ∷ Ys) (suc k) h m = later Ys k h.1 (omega (arith, m))
ascending_at (X ∷ Xs) (suc i) (suc j) a l m = ascending_at Xs i j a.1 (omega (arith, l)) (omega (arith, m))

same_or_less : (i j : ℕ) → i ≤ j → (i ≡ j) ⊎ (i < j)
same_or_less zero zero h = inl refl
same_or_less zero (suc j) h = inr (omega arith)
same_or_less (suc i) zero h = absurd (omega (arith, h))
same_or_less (suc i) (suc j) h = elim (same_or_less i j (omega (arith, h))) [ inl e ↦ inl (ap suc e) | inr l ↦ inr (omega (arith, l)) ]

-- any row, for a place where there is none
abbrev pub a_row : Row
a_row = record { id = 0; weight = pos 0; origin = Out }

module _ (f : Field) (F : Formula) (lists : List (List Value)) (T : Tree) (R : KeptTree NodeValue) (s : StandFor f F lists T R) where
  h : HasFirsts (weights T) (size (shape T)) (type_of_set f F T) (sets_of R) (typed F lists (shown (top R).rows))
  h = rows_first f F lists T R s

  count : length (sets_of R) ≡ length (top R).rows
  count = count_sets set_at_leaf R

  -- what row k shows is what its set has
  shown_at : (k : ℕ) (d : Row) → k < length (top R).rows
      → (type_at F lists (get_or (top R).rows k d).id, (get_or (top R).rows k d).weight) ≡ shows (weights T) (type_of_set f F T) (get_or (sets_of R) k [])
  shown_at k d l =
      let many = length-map {B = ℕ × ℤ} (top R).rows (λ (r : Row). (r.id, r.weight)) in
      ap (λ (p : ℕ × ℤ). (type_at F lists p.0, p.1)) (sym (get_or-map (λ (r : Row). (r.id, r.weight)) (top R).rows k d (0, pos 0) l))
      ∙ sym (get_or-map (λ (p : ℕ × ℤ). (type_at F lists p.0, p.1)) (shown (top R).rows) k (0, pos 0) (Dead, pos 0) (omega (arith, l, many)))
      ∙ ap (λ ps. get_or ps k (Dead, pos 0)) h.shown_as
      ∙ get_or-map (shows (weights T) (type_of_set f F T)) (sets_of R) k [] (Dead, pos 0) (omega (arith, l, count))

  type_shown : (k : ℕ) (d : Row) → k < length (top R).rows → type_at F lists (get_or (top R).rows k d).id ≡ type_of_set f F T (get_or (sets_of R) k [])
  type_shown k d l = ap (λ p. p.0) (shown_at k d l)

  weight_shown : (k : ℕ) (d : Row) → k < length (top R).rows → (get_or (top R).rows k d).weight ≡ weight (weights T) (get_or (sets_of R) k [])
  weight_shown k d l = ap (λ p. p.1) (shown_at k d l)

  -- the row with the type of a set
  record RowOf (Y : List Bool) : Type 0 where
    pub place : ℕ
    pub within : place < length (top R).rows
    pub type : type_of_set f F T (get_or (sets_of R) place []) ≡ type_of_set f F T Y
    pub first : AtMost (weights T) (get_or (sets_of R) place []) Y

  row_of : (Y : List Bool) → length Y ≡ size (shape T) → RowOf Y
  row_of Y l =
      let c = h.firsts.complete Y l in
      let j = c.1.0 in
      let same : get_or (sets_of R) j [] ≡ c.0 = get_or_default (sets_of R) j [] c.0 c.1.1 ∙ c.1.2 in
      let type : type_of_set f F T (get_or (sets_of R) j []) ≡ type_of_set f F T Y = ap (type_of_set f F T) same ∙ c.2 in
      record {
        place = j;
        within = (let m = c.1.1 in omega (arith, count, m));
        type = type;
        first = (h.firsts.firsts j [] c.1.1).best Y l (sym type);
      }

  pub none_accepted : IsLightestBefore (is_accepted F lists) (top R).rows (length (top R).rows) None → (A : List Bool) → length A ≡ size (shape T) → accepts F (type_of_set f F T A) ≡ false
  none_accepted all A l =
      let r = row_of A l in
      ap (accepts F) (sym r.type) ∙ ap (accepts F) (sym (type_shown r.place a_row r.within)) ∙ all r.place a_row r.within

  module _ (k : ℕ) (b : IsLightest (is_accepted F lists) (top R).rows (length (top R).rows) k) where
    before : (j : ℕ) → j < length (top R).rows
        → ((get_or (top R).rows k a_row).weight <ℤ (get_or (top R).rows j a_row).weight) ⊎ (((get_or (top R).rows k a_row).weight ≡ (get_or (top R).rows j a_row).weight) × (k ≤ j))
        → AtMost (weights T) (get_or (sets_of R) k []) (get_or (sets_of R) j [])
    before j l (inl w) = inr (inl (subst (λ x. x <ℤ weight (weights T) (get_or (sets_of R) j [])) (weight_shown k a_row b.within)
        (subst (λ x. (get_or (top R).rows k a_row).weight <ℤ x) (weight_shown j a_row l) w)))
    before j l (inr w) =
        elim (same_or_less k j w.1) [
          | inl e ↦ inl (ap (λ i. get_or (sets_of R) i []) e)
          | inr m ↦ inr (inr (sym (weight_shown k a_row b.within) ∙ w.0 ∙ weight_shown j a_row l, ascending_at (sets_of R) k j h.ascending m (omega (arith, l, count))))
        ]

    pub least_found : (best : Best) → best.weight ≡ (get_or (top R).rows k a_row).weight → best.names ≡ get_or (names_of R) k [] → IsFirstAccepted f F T best
    least_found best w n = record {
      set = get_or (sets_of R) k [];
      first = record {
        size = (let l = b.within in (h.firsts.firsts k [] (omega (arith, l, count))).size);
        member = ap (accepts F) (sym (type_shown k a_row b.within)) ∙ b.passes a_row;
        best = λ Y l t.
            let r = row_of Y l in
            let accepted = ap (accepts F) (type_shown r.place a_row r.within ∙ r.type) ∙ t in
            at_most-then (weights T) (get_or (sets_of R) k []) (get_or (sets_of R) r.place []) Y (before r.place r.within (b.best r.place a_row r.within accepted)) r.first;
      };
      weighs = w ∙ weight_shown k a_row b.within;
      named =
          n ∙ ap (λ xs. get_or xs k []) (names_are f F lists T R s)
          ∙ get_or-map (λ A. items_where_true A (element_names T)) (sets_of R) k [] [] (let l = b.within in omega (arith, l, count));
    }

-- ---- the law of rows

typed_types : (F : Formula) (lists : List (List Value)) (rows : List Row) → map (λ (p : Value × ℤ). p.0) (typed F lists (shown rows)) ≡ map (λ (r : Row). type_at F lists r.id) rows
typed_types F lists [] = refl
typed_types F lists (r ∷ rows) = ap (λ vs. type_at F lists r.id ∷ vs) (typed_types F lists rows)

typed_weights : (F : Formula) (lists : List (List Value)) (rows : List Row) → map (λ (p : Value × ℤ). p.1) (typed F lists (shown rows)) ≡ map (λ (r : Row). r.weight) rows
typed_weights F lists [] = refl
typed_weights F lists (r ∷ rows) = ap (λ ws. r.weight ∷ ws) (typed_weights F lists rows)

pub first_sets_of_rows : RowsAreFirstSets
first_sets_of_rows f F lists T R s =
    let h = rows_first f F lists T R s in (
      h.firsts,
      sym (map-map (λ (p : Value × ℤ). p.0) (shows (weights T) (type_of_set f F T)) (sets_of R)) ∙ ap (map (λ (p : Value × ℤ). p.0)) (sym h.shown_as) ∙ typed_types F lists (top R).rows,
      sym (map-map (λ (p : Value × ℤ). p.1) (shows (weights T) (type_of_set f F T)) (sets_of R)) ∙ ap (map (λ (p : Value × ℤ). p.1)) (sym h.shown_as) ∙ typed_weights F lists (top R).rows,
      h.ascending,
    )

-- ---- empty sets

name_out : (name : Option (List ℕ)) → name_at_leaf name Out ≡ []
name_out None = refl
name_out (Some name) = refl

row_fits : (P : Row → Type 0) (rows : List Row) (p : ℕ) (d : Row) → AllFit P rows → p < length rows → P (get_or rows p d)
row_fits P [] p d h l = absurd (omega (arith, l))
row_fits P (r ∷ rows) zero d h l = h.0
row_fits P (r ∷ rows) (suc p) d h l = row_fits P rows p d h.1 (omega (arith, l))

both_none : (xs ys : List (List ℕ)) → xs ≡ [] → ys ≡ [] → xs ++ ys ≡ []
both_none xs ys e f = (λ i. e i ++ f i)

-- no name is in a set that is known to be empty
pub empty_names : (R : KeptTree NodeValue) → AreLinked R → (p : ℕ) → p < length (top R).rows → (top R).nothing ≡ Some p → get_or (names_of R) p [] ≡ []
empty_names (One n) h p l e =
    get_or-map (λ (r : Row). name_at_leaf n.name r.origin) n.rows p a_row [] l
    ∙ ap (name_at_leaf n.name) (subst (ComesAt n.rows Out) e h a_row) ∙ name_out n.name
empty_names (Two n a b) h p l e =
    get_or-map (λ (r : Row). of_origin (names_of a) (names_of b) r.origin) n.rows p a_row [] l
    ∙ by (top a).nothing (top b).nothing refl refl (subst (ComesFromBoth (top a).nothing (top b).nothing n.rows) e h.3)
    (λ i k f. empty_names a h.1 i k f) (λ j k f. empty_names b h.2 j k f)
  where
    by : (left right : Option ℕ) → (top a).nothing ≡ left → (top b).nothing ≡ right → ComesFromBoth left right n.rows (Some p)
        → ((i : ℕ) → i < length (top a).rows → (top a).nothing ≡ Some i → get_or (names_of a) i [] ≡ []) → ((j : ℕ) → j < length (top b).rows → (top b).nothing ≡ Some j → get_or (names_of b) j [] ≡ [])
        → of_origin (names_of a) (names_of b) (get_or n.rows p a_row).origin ≡ []
    by (Some i) (Some j) f g k of_left of_right =
        let inside = subst (ComesFrom (length (top a).rows) (length (top b).rows)) (k a_row) (row_fits (λ r. ComesFrom (length (top a).rows) (length (top b).rows) r.origin) n.rows p a_row h.0 l) in
        ap (of_origin (names_of a) (names_of b)) (k a_row)
        ∙ both_none (get_or (names_of a) i []) (get_or (names_of b) j []) (of_left i inside.0 f) (of_right j inside.1 g)
    by (Some i) None f g k of_left of_right = cc
    by None right f g k of_left of_right = cc

pub nothing_added : (names more : List (List ℕ)) → more ≡ [] → names ≡ names ++ more
nothing_added [] more e = sym e
nothing_added (n ∷ names) more e = ap (λ ns. n ∷ ns) (nothing_added names more e)
