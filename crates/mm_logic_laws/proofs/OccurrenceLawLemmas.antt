-- What occurs in two lists of types, and what the leaf rule and the join rule give at the places below a type.
use Rattle.std.proofs.Common.{◌≡◌, ◌⊎◌, ◌↔◌, ◌+◌, ℕ, suc, zero, Bool, true, false, ◌||◌, List, [], ◌∷◌, ◌++◌, map, flat_map, length, get_or, Contains, refl, sym, ap, ap₂, ◌∙◌, subst, arith, inl, inr}
use Rattle.std.specs.List.{list_any}
use Rattle.std.specs.Prelude.{IsTrue}
use Rattle.std.proofs.lemmas.List.Folds.{list_any-append, Any-from_list_any, list_any-from_Any}
use Rattle.mm_linear.proofs.SubspaceTests.{same_test}
use Rattle.mm_logic.proofs.BagLemmas.{bag-same}
use Rattle.std.proofs.lemmas.List.Elements.{Contains-append_left, Contains-append_right, Contains-append_cases}
use Rattle.mm_field.specs.declared.Field.{Field}
use Rattle.mm_logic.specs.Formula.{Formula}
use Rattle.mm_logic.specs.Formula.Formula.{Const, Ind, Member, SameElem, Sub, SameSet, Not, Bin, ExSet, AllSet, ExElem, AllElem}
use Rattle.mm_logic.specs.Marks.{Marks, mark}
use Rattle.mm_logic.specs.Operator.{Op}
use Rattle.mm_logic.specs.LeafRule.{elem_type, void_type}
use Rattle.mm_logic.specs.JoinRule.{join_type, all_pairs, set_join, elem_joins, elem_join}
use Rattle.mm_logic.specs.RuleValues.{both_marks, elem_values, void_values, joined_pair, pairs, first_pair, second_pair, member_pairs, elem_pairs, join_values}
use Rattle.mm_logic.proofs.SetLemmas.{list_any-map, list_any-flat_map}
use Rattle.mm_logic.proofs.ValueLemmas.{list_any-collected}
use Rattle.mm_logic.proofs.GrowthLemmas.{AllSame-append, occurring-same, set-occurs, elem-occurs}
use Rattle.mm_logic.specs.Value.{Value, members, first, second}
use Rattle.mm_logic.specs.Occurrence.{occurring, elem_parts, distinct, own_cells, list_cells, nodes}
use Rattle.mm_logic.specs.Order.{SameMembers}
use Rattle.mm_logic.specs.Growth.{beside, AllSame}
use Rattle.mm_logic.proofs.OccurrenceLemmas.{occurrence-splits, nodes-occurring}
use Rattle.mm_logic_laws.specs.OccurrenceLaws.{OccursInEither, CellsAreOfWhatOccurs, RuleValuesOccur}

beside_at : (us vs : List (List Value)) (i : ℕ) → length us ≡ length vs → get_or (beside us vs) i [] ≡ get_or us i [] ++ get_or vs i []
beside_at [] [] i e = refl
beside_at [] (v ∷ vs) i e = absurd (omega arith)
beside_at (u ∷ us) [] i e = absurd (omega arith)
beside_at (u ∷ us) (v ∷ vs) zero e = refl
beside_at (u ∷ us) (v ∷ vs) (suc i) e = beside_at us vs i (omega (arith, e))

pub occurs_in_either : OccursInEither
occurs_in_either F K vs node v =
    let e : get_or (occurring F (K ++ vs)) node [] ≡ get_or (occurring F K) node [] ++ get_or (occurring F vs) node [] =
    ap (λ l. get_or l node []) (occurrence-splits F K vs)
    ∙ beside_at (occurring F K) (occurring F vs) node (sym (nodes-occurring F K) ∙ nodes-occurring F vs) in (
      (λ p. Contains-append_cases (get_or (occurring F K) node []) (get_or (occurring F vs) node []) v (subst (λ l. Contains l v) e p)),
      (λ p. subst (λ l. Contains l v) (sym e) (from_either (get_or (occurring F K) node []) (get_or (occurring F vs) node []) v p)),
    )
  where
    from_either : (xs ys : List Value) (x : Value) → Contains xs x ⊎ Contains ys x → Contains (xs ++ ys) x
    from_either xs ys x (inl p) = Contains-append_left xs ys x p
    from_either xs ys x (inr p) = Contains-append_right xs ys x p

-- ---- cells depend on which values occur

-- lists in which the same values are have the same members
same_from_contains : (xs ys : List Value) → ((v : Value) → Contains xs v ↔ Contains ys v) → SameMembers xs ys
same_from_contains xs ys h p =
    same_test (IsTrue (list_any p xs)) (IsTrue (list_any p ys)) (list_any p xs) (list_any p ys) ((λ e. e), (λ e. e)) ((λ e. e), (λ e. e))
    ((λ e. passes xs ys (λ v. (h v).0) e), (λ e. passes ys xs (λ v. (h v).1) e))
  where
    passes : (us zs : List Value) → ((v : Value) → Contains us v → Contains zs v) → list_any p us ≡ true → list_any p zs ≡ true
    passes us zs g e =
        let a = Any-from_list_any p us e in
        let b = g a.1 (a.0, a.2, a.3) in
        list_any-from_Any p zs (b.0, a.1, b.1, b.2, a.4)

cells_same : (Fs : List Formula) (vss wss : List (List Value)) → length Fs ≡ length vss → length Fs ≡ length wss
    → ((i : ℕ) → SameMembers (get_or vss i []) (get_or wss i [])) → list_cells Fs (map distinct vss) ≡ list_cells Fs (map distinct wss)
cells_same [] vss wss e g h = refl
cells_same (F ∷ Fs) [] wss e g h = absurd (omega arith)
cells_same (F ∷ Fs) (vs ∷ vss) [] e g h = absurd (omega arith)
cells_same (F ∷ Fs) (vs ∷ vss) (ws ∷ wss) e g h =
    ap₂ (λ x y. x + y) (bag-same vs ws (h 0) (own_cells F))
    (cells_same Fs vss wss (omega (arith, e)) (omega (arith, g)) (λ i. h (suc i)))

pub cells_of_what_occurs : CellsAreOfWhatOccurs
cells_of_what_occurs F vs ws h =
    cells_same (nodes F) (occurring F vs) (occurring F ws) (nodes-occurring F vs) (nodes-occurring F ws)
    (λ i. same_from_contains (get_or (occurring F vs) i []) (get_or (occurring F ws) i []) (h i))

-- ---- what the rules give below occurs in their values

AllSame-then : (a b c : List (List Value)) → AllSame a b → AllSame b c → AllSame a c
AllSame-then [] [] [] h k = tt
AllSame-then (x ∷ a) (y ∷ b) (z ∷ c) h k = ((λ p. h.0 p ∙ k.0 p), AllSame-then a b c h.1 k.1)
AllSame-then [] [] (z ∷ c) h k = absurd k
AllSame-then [] (y ∷ b) c h k = absurd h
AllSame-then (x ∷ a) [] c h k = absurd h
AllSame-then (x ∷ a) (y ∷ b) [] h k = absurd k

-- what is made of the parts of things is what occurs below what is made of the things
below_same : {A B : Type 0} (F : Formula) (asked : A → List B) (make : A → Value) (made : B → Value) (parts : Value → List Value)
    → ((a : A) → SameMembers (map made (asked a)) (parts (make a))) → (xs : List A)
    → AllSame (occurring F (map made (flat_map asked xs))) (occurring F (flat_map parts (map make xs)))
below_same F asked make made parts e xs =
    occurring-same F (map made (flat_map asked xs)) (flat_map parts (map make xs)) (λ p.
    list_any-map p made (flat_map asked xs)
    ∙ list_any-flat_map (λ b. p (made b)) asked xs
    ∙ (λ i. list_any (λ a. (sym (list_any-map p made (asked a)) ∙ e a p) i) xs)
    ∙ sym (list_any-map (λ v. list_any p (parts v)) make xs)
    ∙ sym (list_any-flat_map p parts (map make xs)))

module _ (f : Field) where
  pub elems_occur : (F : Formula) (vec : List ℕ) (ms : List Marks) → AllSame (elem_values f F vec ms) (occurring F (map (elem_type f F vec) ms))
  elems_occur (Const b) vec ms = ((λ p. refl), tt)
  elems_occur (Ind t) vec ms = ((λ p. refl), tt)
  elems_occur (Member x a) vec ms = ((λ p. refl), tt)
  elems_occur (SameElem x y) vec ms = ((λ p. refl), tt)
  elems_occur (Sub a b) vec ms = ((λ p. refl), tt)
  elems_occur (SameSet a b) vec ms = ((λ p. refl), tt)
  elems_occur (Not F) vec ms = ((λ p. refl), elems_occur F vec ms)
  elems_occur (Bin o F G) vec ms = (
    (λ p. refl),
    AllSame-append _ _ _ _
        (AllSame-then _ _ _ (elems_occur F vec ms) (occurring-same F (map (elem_type f F vec) ms) (map first (map (elem_type f (Bin o F G) vec) ms)) (λ p.
        list_any-map p (elem_type f F vec) ms ∙ sym (list_any-map p first (map (elem_type f (Bin o F G) vec) ms) ∙ list_any-map (λ v. p (first v)) (elem_type f (Bin o F G) vec) ms))))
        (AllSame-then _ _ _ (elems_occur G vec ms) (occurring-same G (map (elem_type f G vec) ms) (map second (map (elem_type f (Bin o F G) vec) ms)) (λ p.
        list_any-map p (elem_type f G vec) ms ∙ sym (list_any-map p second (map (elem_type f (Bin o F G) vec) ms) ∙ list_any-map (λ v. p (second v)) (elem_type f (Bin o F G) vec) ms)))),
  )
  elems_occur (ExSet k F) vec ms = (
    (λ p. refl),
    AllSame-then _ _ _ (elems_occur F vec (flat_map (both_marks k) ms))
        (below_same F (both_marks k) (elem_type f (ExSet k F) vec) (elem_type f F vec) members
        (λ m p. sym (list_any-collected p (map (elem_type f F vec) (both_marks k m)))) ms),
  )
  elems_occur (AllSet k F) vec ms = (
    (λ p. refl),
    AllSame-then _ _ _ (elems_occur F vec (flat_map (both_marks k) ms))
        (below_same F (both_marks k) (elem_type f (AllSet k F) vec) (elem_type f F vec) members
        (λ m p. sym (list_any-collected p (map (elem_type f F vec) (both_marks k m)))) ms),
  )
  elems_occur (ExElem k F) vec ms = (
    (λ p. refl),
    AllSame-then _ _ _ (elems_occur F vec (flat_map (both_marks k) ms))
        (below_same F (both_marks k) (elem_type f (ExElem k F) vec) (elem_type f F vec) elem_parts
        (λ m p. ap (λ b. p (elem_type f F vec (mark k false m)) || b) (sym (list_any-collected p (elem_type f F vec (mark k true m) ∷ [])))) ms),
  )
  elems_occur (AllElem k F) vec ms = (
    (λ p. refl),
    AllSame-then _ _ _ (elems_occur F vec (flat_map (both_marks k) ms))
        (below_same F (both_marks k) (elem_type f (AllElem k F) vec) (elem_type f F vec) elem_parts
        (λ m p. ap (λ b. p (elem_type f F vec (mark k false m)) || b) (sym (list_any-collected p (elem_type f F vec (mark k true m) ∷ [])))) ms),
  )

  pub voids_occur : (F : Formula) (t : ℕ) → AllSame (void_values f F t) (occurring F (void_type f F t ∷ []))
  voids_occur (Const b) t = ((λ p. refl), tt)
  voids_occur (Ind u) t = ((λ p. refl), tt)
  voids_occur (Member x a) t = ((λ p. refl), tt)
  voids_occur (SameElem x y) t = ((λ p. refl), tt)
  voids_occur (Sub a b) t = ((λ p. refl), tt)
  voids_occur (SameSet a b) t = ((λ p. refl), tt)
  voids_occur (Not F) t = ((λ p. refl), voids_occur F t)
  voids_occur (Bin o F G) t = ((λ p. refl), AllSame-append _ _ _ _ (voids_occur F t) (voids_occur G t))
  voids_occur (ExSet k F) t =
      ((λ p. refl), AllSame-then _ _ _ (voids_occur F t) (set-occurs F (void_type f F t ∷ [])))
  voids_occur (AllSet k F) t =
      ((λ p. refl), AllSame-then _ _ _ (voids_occur F t) (set-occurs F (void_type f F t ∷ [])))
  voids_occur (ExElem k F) t =
      ((λ p. refl), AllSame-then _ _ _ (voids_occur F t) (elem-occurs F (void_type f F t) []))
  voids_occur (AllElem k F) t =
      ((λ p. refl), AllSame-then _ _ _ (voids_occur F t) (elem-occurs F (void_type f F t) []))

  -- the joins of pairs, tested
  pairs_test : (F : Formula) (op : Op) (p : Value → Bool) (vs ws : List Value)
      → list_any p (map (joined_pair f F op) (pairs vs ws)) ≡ list_any p (all_pairs (join_type f F op) vs ws)
  pairs_test F op p vs ws =
      list_any-map p (joined_pair f F op) (pairs vs ws)
      ∙ list_any-flat_map (λ q. p (joined_pair f F op q)) (λ v. map (λ w. (v, w)) ws) vs
      ∙ (λ i. list_any (λ v. (list_any-map (λ q. p (joined_pair f F op q)) (λ w. (v, w)) ws ∙ sym (list_any-map p (join_type f F op v) ws)) i) vs)
      ∙ sym (list_any-flat_map p (λ v. map (join_type f F op v) ws) vs)

  set_pairs : (F : Formula) (op : Op) (q : Value × Value)
      → SameMembers (map (joined_pair f F op) (member_pairs q)) (members (set_join (join_type f F op) q.0 q.1))
  set_pairs F op q p =
      pairs_test F op p (members q.0) (members q.1)
      ∙ sym (list_any-collected p (all_pairs (join_type f F op) (members q.0) (members q.1)))

  one_pairs : (F : Formula) (op : Op) (q : Value × Value)
      → SameMembers (map (joined_pair f F op) (elem_pairs q)) (elem_parts (elem_join (join_type f F op) q.0 q.1))
  one_pairs F op q p =
      let j = join_type f F op in
      let ls = members (second q.0) in
      let rs = members (second q.1) in
      let left : List (Value × Value) = map (λ v. (v, first q.1)) ls in
      let right : List (Value × Value) = map (λ w. (first q.0, w)) rs in
      ap (λ b. p (j (first q.0) (first q.1)) || b)
      (list_any-map p (joined_pair f F op) (left ++ right)
      ∙ list_any-append (λ z. p (joined_pair f F op z)) left right
      ∙ (λ i. (list_any-map (λ z. p (joined_pair f F op z)) (λ v. (v, first q.1)) ls ∙ sym (list_any-map p (λ x. j x (first q.1)) ls)) i
      || (list_any-map (λ z. p (joined_pair f F op z)) (λ w. (first q.0, w)) rs ∙ sym (list_any-map p (j (first q.0)) rs)) i)
      ∙ sym (list_any-append p (map (λ x. j x (first q.1)) ls) (map (j (first q.0)) rs))
      ∙ sym (list_any-collected p (elem_joins j q.0 q.1)))

  pub joins_occur : (F : Formula) (op : Op) (ps : List (Value × Value)) → AllSame (join_values f F op ps) (occurring F (map (joined_pair f F op) ps))
  joins_occur (Const b) op ps = ((λ p. refl), tt)
  joins_occur (Ind t) op ps = ((λ p. refl), tt)
  joins_occur (Member x a) op ps = ((λ p. refl), tt)
  joins_occur (SameElem x y) op ps = ((λ p. refl), tt)
  joins_occur (Sub a b) op ps = ((λ p. refl), tt)
  joins_occur (SameSet a b) op ps = ((λ p. refl), tt)
  joins_occur (Not F) op ps = ((λ p. refl), joins_occur F op ps)
  joins_occur (Bin o F G) op ps =
      let J = joined_pair f (Bin o F G) op in (
        (λ p. refl),
        AllSame-append _ _ _ _
            (AllSame-then _ _ _ (joins_occur F op (map first_pair ps)) (occurring-same F (map (joined_pair f F op) (map first_pair ps)) (map first (map J ps)) (λ p.
            list_any-map p (joined_pair f F op) (map first_pair ps) ∙ list_any-map (λ z. p (joined_pair f F op z)) first_pair ps
            ∙ sym (list_any-map p first (map J ps) ∙ list_any-map (λ v. p (first v)) J ps))))
            (AllSame-then _ _ _ (joins_occur G op (map second_pair ps)) (occurring-same G (map (joined_pair f G op) (map second_pair ps)) (map second (map J ps)) (λ p.
            list_any-map p (joined_pair f G op) (map second_pair ps) ∙ list_any-map (λ z. p (joined_pair f G op z)) second_pair ps
            ∙ sym (list_any-map p second (map J ps) ∙ list_any-map (λ v. p (second v)) J ps)))),
      )
  joins_occur (ExSet k F) op ps = (
    (λ p. refl),
    AllSame-then _ _ _ (joins_occur F op (flat_map member_pairs ps))
        (below_same F member_pairs (joined_pair f (ExSet k F) op) (joined_pair f F op) members (set_pairs F op) ps),
  )
  joins_occur (AllSet k F) op ps = (
    (λ p. refl),
    AllSame-then _ _ _ (joins_occur F op (flat_map member_pairs ps))
        (below_same F member_pairs (joined_pair f (AllSet k F) op) (joined_pair f F op) members (set_pairs F op) ps),
  )
  joins_occur (ExElem k F) op ps = (
    (λ p. refl),
    AllSame-then _ _ _ (joins_occur F op (flat_map elem_pairs ps))
        (below_same F elem_pairs (joined_pair f (ExElem k F) op) (joined_pair f F op) elem_parts (one_pairs F op) ps),
  )
  joins_occur (AllElem k F) op ps = (
    (λ p. refl),
    AllSame-then _ _ _ (joins_occur F op (flat_map elem_pairs ps))
        (below_same F elem_pairs (joined_pair f (AllElem k F) op) (joined_pair f F op) elem_parts (one_pairs F op) ps),
  )

pub rule_values_occur : RuleValuesOccur
rule_values_occur f F = (
  (λ vec m. elems_occur f F vec (m ∷ [])),
  (λ t. voids_occur f F t),
  (λ op v w. joins_occur f F op ((v, w) ∷ [])),
)
