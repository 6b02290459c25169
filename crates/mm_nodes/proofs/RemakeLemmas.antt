-- One step upwards above a part that was made anew.
use Rattle.std.proofs.Common.{◌≡◌, ◌<◌, ◌≤◌, ◌+◌, ◌-◌, ℕ, suc, Bool, true, false, nat_lt, List, [], ◌∷◌, ◌++◌, length, slice_index_or, if◌then◌else◌, refl, sym, ap, ◌∙◌, subst, arith, length-append}
use Rattle.std.proofs.lemmas.Bool.{lt-ltb, le-ltb}
use Rattle.mm_field.specs.declared.Field.{Field}
use Rattle.mm_logic.specs.Formula.{Formula}
use Rattle.mm_logic.specs.Value.{Value}
use Rattle.mm_logic.specs.Order.{SameMembers}
use Rattle.mm_logic.specs.Occurrence.{nodes as parts, occurring, distinct, list_cells}
use Rattle.mm_logic.specs.Growth.{AllBegin, AllGrown}
use Rattle.mm_logic.proofs.GrowthLemmas.{calls-then, AllBegin-grown}
use Rattle.mm_logic_laws.specs.ValueLaws.{types_by_rules}
use Rattle.mm_ops.specs.OpValue.{OpValue}
use Rattle.mm_tree.specs.NamedTree.{Tree, shape, boundary}
use Rattle.mm_tree.specs.NamedTree.Tree.{Elem, Void, Join}
use Rattle.mm_tree.specs.Paths.{Path}
use Rattle.mm_tree.specs.ValidTree.{IsValidTree}
use Rattle.mm_tree.proofs.StepLemmas.{node_root, node_left, node_right}
use Rattle.mm_nodes.specs.KeptTrees.{KeptTree, top, count, path_in, remade, StandsFor, StandsBeside}
use Rattle.mm_nodes.specs.KeptTrees.KeptTree.{One, Two}
use Rattle.mm_nodes.specs.Demands.{Frame, IsWithin, made}
use Rattle.mm_nodes.specs.Calls.{Exceeds}
use Rattle.mm_nodes.specs.Walks.{pair_types, path_rows, highest, CanRemake, RemakesPath, AddsAbove, StaysAbove}
use Rattle.mm_nodes.specs.declared.TheConstants.{MOST_ROWS}
use Rattle.mm_nodes.specs.declared.keeps.Keeps.{Ghosts}
use Rattle.mm_nodes.proofs.RoomLemmas.{within-append, within-then, within-same, exceeds_part, exceeds_later}
use Rattle.mm_nodes.proofs.StandsLemmas.{Laws, Stands, has, stands-stays, as_many}
use Rattle.mm_nodes.proofs.BuildLemmas.{asked_types, left_within, right_within, own_within}
use Rattle.mm_nodes.proofs.MadeLemmas.{last_is, get-at, get-after, remade-front}

-- ---- the way of a number

module _ {N : Type 0} where
  path_root : (R : KeptTree N) → path_in 0 R ≡ []
  path_root R = refl

  pub path_here : (at : ℕ) (R : KeptTree N) → at ≡ 0 → path_in at R ≡ []
  path_here at R e = ap (λ (k : ℕ). path_in k R) e

  path_more : (k : ℕ) (n : N) (a b : KeptTree N) → path_in (suc k) (Two n a b) ≡ (if nat_lt k (count a) then true ∷ path_in k a else false ∷ path_in (k - count a) b)
  path_more k n a b = refl

  pub path_turns : (at : ℕ) (n : N) (a b : KeptTree N) → (at ≡ 0 → ⊥)
      → path_in at (Two n a b) ≡ (if nat_lt (at - 1) (count a) then true ∷ path_in (at - 1) a else false ∷ path_in (at - 1 - count a) b)
  path_turns at n a b z =
      let e : at ≡ suc (at - 1) = omega (arith, z) in
      ap (λ (k : ℕ). path_in k (Two n a b)) e ∙ path_more (at - 1) n a b

  pub path_to_left : (at : ℕ) (n : N) (a b : KeptTree N) → (at ≡ 0 → ⊥) → at - 1 < count a → path_in at (Two n a b) ≡ true ∷ path_in (at - 1) a
  path_to_left at n a b z l =
      let e : at ≡ suc (at - 1) = omega (arith, z) in
      ap (λ (k : ℕ). path_in k (Two n a b)) e ∙ path_more (at - 1) n a b
      ∙ ap (λ (x : Bool). if x then true ∷ path_in (at - 1) a else false ∷ path_in (at - 1 - count a) b) (lt-ltb (at - 1) (count a) l)

  pub path_to_right : (at : ℕ) (n : N) (a b : KeptTree N) → (at ≡ 0 → ⊥) → count a ≤ at - 1 → path_in at (Two n a b) ≡ false ∷ path_in (at - 1 - count a) b
  path_to_right at n a b z l =
      let e : at ≡ suc (at - 1) = omega (arith, z) in
      ap (λ (k : ℕ). path_in k (Two n a b)) e ∙ path_more (at - 1) n a b
      ∙ ap (λ (x : Bool). if x then true ∷ path_in (at - 1) a else false ∷ path_in (at - 1 - count a) b) (le-ltb (at - 1) (count a) l)

  pub way_left : (at : ℕ) (R : KeptTree N) (n : N) (a b : KeptTree N) → R ≡ Two n a b → (at ≡ 0 → ⊥) → at - 1 < count a → (down : ℕ) → down ≡ at - 1 → path_in at R ≡ true ∷ path_in down a
  way_left at R n a b kept z turn down lower = ap (path_in at) kept ∙ path_to_left at n a b z turn ∙ ap (λ k. true ∷ path_in k a) (sym lower)

  pub way_right : (at : ℕ) (R : KeptTree N) (n : N) (a b : KeptTree N) → R ≡ Two n a b → (at ≡ 0 → ⊥) → count a ≤ at - 1 → (down : ℕ) → down ≡ at - 1 - count a → path_in at R ≡ false ∷ path_in down b
  way_right at R n a b kept z turn down lower = ap (path_in at) kept ∙ path_to_right at n a b z turn ∙ ap (λ k. false ∷ path_in k b) (sym lower)

-- ---- the entry that was made last is that of the root

module _ {N : Type 0} (K : Ghosts N) (fr : Frame) where
  pub top_made : (path : Path) (T : Tree) (R new : KeptTree N) (items : List N) → StandsBeside (K.IsLeaf fr) (K.IsJoin fr) path T R → length items ≡ length path
      → highest items (top new) ≡ top (remade path R new items)
  top_made [] T R new [] h e = refl
  top_made [] T R new (m ∷ items) h e = absurd (omega (arith, e))
  top_made (true ∷ path) (Join name op l r) (Two n a b) new items h e = sym (last_is items (length path) n (top new) (omega (arith, e)))
  top_made (false ∷ path) (Join name op l r) (Two n a b) new items h e = sym (last_is items (length path) n (top new) (omega (arith, e)))
  top_made (true ∷ path) (Elem name vec weight) R new items h e = absurd h
  top_made (false ∷ path) (Elem name vec weight) R new items h e = absurd h
  top_made (true ∷ path) (Void name t) R new items h e = absurd h
  top_made (false ∷ path) (Void name t) R new items h e = absurd h
  top_made (true ∷ path) (Join name op l r) (One n) new items h e = absurd h
  top_made (false ∷ path) (Join name op l r) (One n) new items h e = absurd h

-- ---- at the place

module _ {N : Type 0} (K : Ghosts N) (F : Formula) (lists : List (List Value)) (f : Field) (T : Tree) (R new : KeptTree N) (limit rows : ℕ) where
  pub at_place : (changed : Bool) → CanRemake K F lists f T R new [] → (changed ≡ false → K.Same (top new) (top R)) → AllGrown lists lists (occurring F []) → list_cells (parts F) lists ≤ limit
      → rows ≤ MOST_ROWS → RemakesPath K F lists lists f T R new [] [] limit rows rows changed
  at_place changed c same none cells small = record {
    stands = subst (λ (U : Tree). StandsFor (K.IsLeaf (record { f = f; F = F; lists = lists })) (K.IsJoin (record { f = f; F = F; lists = lists })) U new) (node_root T) c.part;
    same = same;
    few = omega arith;
    all = λ e. refl;
    grown = ([], none, λ p e. absurd_test e);
    cells = cells;
    rows = omega arith;
    small = λ e. small;
    bounded = omega (arith, small);
  }
    where
      absurd_test : {P : Type 0} → false ≡ true → P
      absurd_test e = cc

-- ---- one step upwards from the left

module _ {N : Type 0} (K : Ghosts N) (laws : Laws K) (F : Formula) (op : OpValue) (name : List ℕ) (l r : Tree) (n : N) (a b new : KeptTree N) (path : Path) (olds : List (List Value)) (limit before : ℕ)
    (can : CanRemake K F olds op.f (Join name op.op l r) (Two n a b) new (true ∷ path)) where
  abbrev lframe : List (List Value) → Frame
  lframe lists = record { f = op.f; F = F; lists = lists }

  abbrev lwhole : Tree
  lwhole = Join name op.op l r

  abbrev ltypes : List Value
  ltypes = types_by_rules op.f (K.query F) (shape lwhole)

  pub left_can : CanRemake K F olds op.f l a new path
  left_can = record {
    beside = can.beside.1;
    part = subst (λ (U : Tree). StandsFor (K.IsLeaf (lframe olds)) (K.IsJoin (lframe olds)) U new) (node_left name op.op l r path) can.part;
  }

  pub left_full_below : Exceeds F olds (made op.f (K.query F) (shape l)) (before + path_rows op.f (K.query F) path l) limit
      → Exceeds F olds (made op.f (K.query F) (shape lwhole)) (before + path_rows op.f (K.query F) (true ∷ path) lwhole) limit
  left_full_below e =
      exceeds_part F olds (made op.f (K.query F) (shape l)) (made op.f (K.query F) (shape lwhole)) (before + path_rows op.f (K.query F) path l)
      (before + path_rows op.f (K.query F) (true ∷ path) lwhole) limit (left_within K laws F op name l r) (omega arith) e

  module _ (mids : List (List Value)) (items : List N) (middle : ℕ) (changed : Bool) (k : RemakesPath K F olds mids op.f l a new path items limit before middle changed) where
    abbrev lgrowth : List Value
    lgrowth = k.grown.0

    llater : AllBegin olds mids
    llater = AllBegin-grown olds mids (occurring F lgrowth) k.grown.1

    pub left_sibling : Stands K laws (lframe mids) r b
    left_sibling = stands-stays K laws (lframe olds) mids r b llater can.beside.2

    pub left_highest : changed ≡ true → highest items (top new) ≡ top (remade path a new items)
    left_highest e = top_made K (lframe olds) path l a new items can.beside.1 (k.all e)

    pub left_fits : IsValidTree op.f l → changed ≡ true → K.Fits (lframe mids) (boundary l) (highest items (top new))
    left_fits v e = subst (λ (m : N). K.Fits (lframe mids) (boundary l) m) (sym (left_highest e)) (laws.fits (lframe mids) l (remade path a new items) v k.stands)

    pub left_sibling_fits : IsValidTree op.f r → K.Fits (lframe mids) (boundary r) (top b)
    left_sibling_fits v = laws.fits (lframe mids) r b v left_sibling

    lasked_same : changed ≡ true → SameMembers (pair_types K F mids op (highest items (top new)) (top b)) ltypes
    lasked_same e =
        subst (λ (m : N). SameMembers (pair_types K F mids op m (top b)) ltypes) (sym (left_highest e))
        (asked_types K laws F op name l r mids (remade path a new items) b k.stands left_sibling)

    lin_whole : IsWithin lgrowth (made op.f (K.query F) (shape lwhole))
    lin_whole = within-then lgrowth (made op.f (K.query F) (shape l)) (made op.f (K.query F) (shape lwhole)) k.grown.2 (left_within K laws F op name l r)

    pub left_full_above : changed ≡ true
        → Exceeds F mids (pair_types K F mids op (highest items (top new)) (top b)) (middle + length (distinct (pair_types K F mids op (highest items (top new)) (top b)))) limit
        → Exceeds F olds (made op.f (K.query F) (shape lwhole)) (before + path_rows op.f (K.query F) (true ∷ path) lwhole) limit
    left_full_above e x =
        let vs = pair_types K F mids op (highest items (top new)) (top b) in
        let own = as_many vs ltypes (lasked_same e) in
        let sum = k.rows in
        exceeds_later F olds mids lgrowth vs (made op.f (K.query F) (shape lwhole)) (middle + length (distinct vs)) (before + path_rows op.f (K.query F) (true ∷ path) lwhole) limit
        k.grown.1 lin_whole
        (within-then vs ltypes (made op.f (K.query F) (shape lwhole)) (within-same vs ltypes (lasked_same e)) (own_within K laws F op name l r))
        (omega (arith, own, sum)) x

    pub left_added : (nows : List (List Value)) (later : List N) (after : ℕ) (now : Bool) → changed ≡ true
        → AddsAbove K F mids nows op (highest items (top new)) (top b) n items later limit middle after now
        → RemakesPath K F olds nows op.f lwhole (Two n a b) new (true ∷ path) later limit before after now
    left_added nows later after now e s =
        let grown = s.adds.grown in
        let begins = AllBegin-grown mids nows (occurring F (pair_types K F mids op (highest items (top new)) (top b))) grown in
        let vs = pair_types K F mids op (highest items (top new)) (top b) in
        let long = k.all e in
        let more : length later ≡ length items + 1 = ap length s.items_grow ∙ length-append items (s.entry ∷ []) in
        let here : slice_index_or later (length path) n ≡ s.entry = ap (λ ms. slice_index_or ms (length path) n) s.items_grow ∙ get-at items [] s.entry (length path) n (sym long) in
        let below : remade path a new later ≡ (remade path a new items) = ap (λ ms. remade path a new ms) s.items_grow ∙ remade-front path a new items (s.entry ∷ []) (omega (arith, long)) in
        let is : K.IsJoin (lframe nows) op.op (top (remade path a new items)) (top b) s.entry =
        subst (λ (m : N). K.IsJoin (lframe nows) op.op m (top b) s.entry) (left_highest e) s.adds.is in
        let stands : StandsFor (K.IsLeaf (lframe nows)) (K.IsJoin (lframe nows)) lwhole (Two s.entry (remade path a new items) b) =
        (is, stands-stays K laws (lframe mids) nows l (remade path a new items) begins k.stands, stands-stays K laws (lframe mids) nows r b begins left_sibling) in
        let counted = (has K laws (lframe nows) lwhole (Two s.entry (remade path a new items) b) stands).counted in
        let sum = k.rows in
        let own = s.adds.rows in
        let small = s.adds.small in
        record {
          stands = subst (λ (R : KeptTree N). StandsFor (K.IsLeaf (lframe nows)) (K.IsJoin (lframe nows)) lwhole R)
              (λ i. Two (sym here i) (sym below i) b) stands;
          same = λ still. subst (λ (m : N). K.Same m n) (sym here) (s.same still);
          few = omega (arith, more, long);
          all = λ c. omega (arith, more, long);
          grown = (
            lgrowth ++ vs,
            calls-then F olds mids nows lgrowth vs k.grown.1 grown,
            within-append lgrowth vs (made op.f (K.query F) (shape lwhole)) lin_whole
                (within-then vs ltypes (made op.f (K.query F) (shape lwhole)) (within-same vs ltypes (lasked_same e)) (own_within K laws F op name l r)),
          );
          cells = s.adds.cells;
          rows = omega (arith, counted, sum, own);
          small = λ c. small;
          bounded = omega (arith, small);
        }

    pub left_stays : (nows : List (List Value)) (later : List N) (after : ℕ) (now : Bool) → changed ≡ false
        → StaysAbove K mids nows n items later middle after now
        → RemakesPath K F olds nows op.f lwhole (Two n a b) new (true ∷ path) later limit before after now
    left_stays nows later after now e s =
        let few = k.few in
        let here : slice_index_or items (length path) n ≡ n = get-after items (length path) n few in
        let is : K.IsJoin (lframe mids) op.op (top (remade path a new items)) (top b) n =
        laws.same_left (lframe mids) op.op (top a) (top (remade path a new items)) (top b) n (k.same e) (laws.join_stays (lframe olds) mids op.op (top a) (top b) n llater can.beside.0) in
        let stands : StandsFor (K.IsLeaf (lframe mids)) (K.IsJoin (lframe mids)) lwhole (Two n (remade path a new items) b) = (is, k.stands, left_sibling) in
        let counted = (has K laws (lframe mids) lwhole (Two n (remade path a new items) b) stands).counted in
        let sum = k.rows in
        let own = s.rows in
        let small = s.small in
        let bounded = k.bounded in
        subst (λ lists. RemakesPath K F olds lists op.f lwhole (Two n a b) new (true ∷ path) later limit before after now) (sym s.lists)
        (subst (λ ms. RemakesPath K F olds mids op.f lwhole (Two n a b) new (true ∷ path) ms limit before after now) (sym s.items_stay) (record {
          stands = subst (λ (R : KeptTree N). StandsFor (K.IsLeaf (lframe mids)) (K.IsJoin (lframe mids)) lwhole R) (λ i. Two (sym here i) (remade path a new items) b) stands;
          same = λ still. subst (λ (m : N). K.Same m n) (sym here) (laws.same_itself n);
          few = omega (arith, few);
          all = λ c. absurd_test (sym s.still ∙ c);
          grown = (lgrowth, k.grown.1, lin_whole);
          cells = k.cells;
          rows = omega (arith, counted, sum, own);
          small = λ c. absurd_test (sym s.still ∙ c);
          bounded = omega (arith, small, bounded, own);
        }))
      where
        absurd_test : {P : Type 0} → false ≡ true → P
        absurd_test e = cc

-- ---- one step upwards from the right

module _ {N : Type 0} (K : Ghosts N) (laws : Laws K) (F : Formula) (op : OpValue) (name : List ℕ) (l r : Tree) (n : N) (a b new : KeptTree N) (path : Path) (olds : List (List Value)) (limit before : ℕ)
    (can : CanRemake K F olds op.f (Join name op.op l r) (Two n a b) new (false ∷ path)) where
  abbrev rframe : List (List Value) → Frame
  rframe lists = record { f = op.f; F = F; lists = lists }

  abbrev rwhole : Tree
  rwhole = Join name op.op l r

  abbrev rtypes : List Value
  rtypes = types_by_rules op.f (K.query F) (shape rwhole)

  pub right_can : CanRemake K F olds op.f r b new path
  right_can = record {
    beside = can.beside.2;
    part = subst (λ (U : Tree). StandsFor (K.IsLeaf (rframe olds)) (K.IsJoin (rframe olds)) U new) (node_right name op.op l r path) can.part;
  }

  pub right_full_below : Exceeds F olds (made op.f (K.query F) (shape r)) (before + path_rows op.f (K.query F) path r) limit
      → Exceeds F olds (made op.f (K.query F) (shape rwhole)) (before + path_rows op.f (K.query F) (false ∷ path) rwhole) limit
  right_full_below e =
      exceeds_part F olds (made op.f (K.query F) (shape r)) (made op.f (K.query F) (shape rwhole)) (before + path_rows op.f (K.query F) path r)
      (before + path_rows op.f (K.query F) (false ∷ path) rwhole) limit (right_within K laws F op name l r) (omega arith) e

  module _ (mids : List (List Value)) (items : List N) (middle : ℕ) (changed : Bool) (k : RemakesPath K F olds mids op.f r b new path items limit before middle changed) where
    abbrev rgrowth : List Value
    rgrowth = k.grown.0

    rlater : AllBegin olds mids
    rlater = AllBegin-grown olds mids (occurring F rgrowth) k.grown.1

    pub right_sibling : Stands K laws (rframe mids) l a
    right_sibling = stands-stays K laws (rframe olds) mids l a rlater can.beside.1

    pub right_highest : changed ≡ true → highest items (top new) ≡ top (remade path b new items)
    right_highest e = top_made K (rframe olds) path r b new items can.beside.2 (k.all e)

    pub right_fits : IsValidTree op.f r → changed ≡ true → K.Fits (rframe mids) (boundary r) (highest items (top new))
    right_fits v e = subst (λ (m : N). K.Fits (rframe mids) (boundary r) m) (sym (right_highest e)) (laws.fits (rframe mids) r (remade path b new items) v k.stands)

    pub right_sibling_fits : IsValidTree op.f l → K.Fits (rframe mids) (boundary l) (top a)
    right_sibling_fits v = laws.fits (rframe mids) l a v right_sibling

    rasked_same : changed ≡ true → SameMembers (pair_types K F mids op (top a) (highest items (top new))) rtypes
    rasked_same e =
        subst (λ (m : N). SameMembers (pair_types K F mids op (top a) m) rtypes) (sym (right_highest e))
        (asked_types K laws F op name l r mids a (remade path b new items) right_sibling k.stands)

    rin_whole : IsWithin rgrowth (made op.f (K.query F) (shape rwhole))
    rin_whole = within-then rgrowth (made op.f (K.query F) (shape r)) (made op.f (K.query F) (shape rwhole)) k.grown.2 (right_within K laws F op name l r)

    pub right_full_above : changed ≡ true
        → Exceeds F mids (pair_types K F mids op (top a) (highest items (top new))) (middle + length (distinct (pair_types K F mids op (top a) (highest items (top new))))) limit
        → Exceeds F olds (made op.f (K.query F) (shape rwhole)) (before + path_rows op.f (K.query F) (false ∷ path) rwhole) limit
    right_full_above e x =
        let vs = pair_types K F mids op (top a) (highest items (top new)) in
        let own = as_many vs rtypes (rasked_same e) in
        let sum = k.rows in
        exceeds_later F olds mids rgrowth vs (made op.f (K.query F) (shape rwhole)) (middle + length (distinct vs)) (before + path_rows op.f (K.query F) (false ∷ path) rwhole) limit
        k.grown.1 rin_whole
        (within-then vs rtypes (made op.f (K.query F) (shape rwhole)) (within-same vs rtypes (rasked_same e)) (own_within K laws F op name l r))
        (omega (arith, own, sum)) x

    pub right_added : (nows : List (List Value)) (later : List N) (after : ℕ) (now : Bool) → changed ≡ true
        → AddsAbove K F mids nows op (top a) (highest items (top new)) n items later limit middle after now
        → RemakesPath K F olds nows op.f rwhole (Two n a b) new (false ∷ path) later limit before after now
    right_added nows later after now e s =
        let grown = s.adds.grown in
        let begins = AllBegin-grown mids nows (occurring F (pair_types K F mids op (top a) (highest items (top new)))) grown in
        let vs = pair_types K F mids op (top a) (highest items (top new)) in
        let long = k.all e in
        let more : length later ≡ length items + 1 = ap length s.items_grow ∙ length-append items (s.entry ∷ []) in
        let here : slice_index_or later (length path) n ≡ s.entry = ap (λ ms. slice_index_or ms (length path) n) s.items_grow ∙ get-at items [] s.entry (length path) n (sym long) in
        let below : remade path b new later ≡ (remade path b new items) = ap (λ ms. remade path b new ms) s.items_grow ∙ remade-front path b new items (s.entry ∷ []) (omega (arith, long)) in
        let is : K.IsJoin (rframe nows) op.op (top a) (top (remade path b new items)) s.entry =
        subst (λ (m : N). K.IsJoin (rframe nows) op.op (top a) m s.entry) (right_highest e) s.adds.is in
        let stands : StandsFor (K.IsLeaf (rframe nows)) (K.IsJoin (rframe nows)) rwhole (Two s.entry a (remade path b new items)) =
        (is, stands-stays K laws (rframe mids) nows l a begins right_sibling, stands-stays K laws (rframe mids) nows r (remade path b new items) begins k.stands) in
        let counted = (has K laws (rframe nows) rwhole (Two s.entry a (remade path b new items)) stands).counted in
        let sum = k.rows in
        let own = s.adds.rows in
        let small = s.adds.small in
        record {
          stands = subst (λ (R : KeptTree N). StandsFor (K.IsLeaf (rframe nows)) (K.IsJoin (rframe nows)) rwhole R)
              (λ i. Two (sym here i) a (sym below i)) stands;
          same = λ still. subst (λ (m : N). K.Same m n) (sym here) (s.same still);
          few = omega (arith, more, long);
          all = λ c. omega (arith, more, long);
          grown = (
            rgrowth ++ vs,
            calls-then F olds mids nows rgrowth vs k.grown.1 grown,
            within-append rgrowth vs (made op.f (K.query F) (shape rwhole)) rin_whole
                (within-then vs rtypes (made op.f (K.query F) (shape rwhole)) (within-same vs rtypes (rasked_same e)) (own_within K laws F op name l r)),
          );
          cells = s.adds.cells;
          rows = omega (arith, counted, sum, own);
          small = λ c. small;
          bounded = omega (arith, small);
        }

    pub right_stays : (nows : List (List Value)) (later : List N) (after : ℕ) (now : Bool) → changed ≡ false
        → StaysAbove K mids nows n items later middle after now
        → RemakesPath K F olds nows op.f rwhole (Two n a b) new (false ∷ path) later limit before after now
    right_stays nows later after now e s =
        let few = k.few in
        let here : slice_index_or items (length path) n ≡ n = get-after items (length path) n few in
        let is : K.IsJoin (rframe mids) op.op (top a) (top (remade path b new items)) n =
        laws.same_right (rframe mids) op.op (top a) (top b) (top (remade path b new items)) n (k.same e) (laws.join_stays (rframe olds) mids op.op (top a) (top b) n rlater can.beside.0) in
        let stands : StandsFor (K.IsLeaf (rframe mids)) (K.IsJoin (rframe mids)) rwhole (Two n a (remade path b new items)) = (is, right_sibling, k.stands) in
        let counted = (has K laws (rframe mids) rwhole (Two n a (remade path b new items)) stands).counted in
        let sum = k.rows in
        let own = s.rows in
        let small = s.small in
        let bounded = k.bounded in
        subst (λ lists. RemakesPath K F olds lists op.f rwhole (Two n a b) new (false ∷ path) later limit before after now) (sym s.lists)
        (subst (λ ms. RemakesPath K F olds mids op.f rwhole (Two n a b) new (false ∷ path) ms limit before after now) (sym s.items_stay) (record {
          stands = subst (λ (R : KeptTree N). StandsFor (K.IsLeaf (rframe mids)) (K.IsJoin (rframe mids)) rwhole R) (λ i. Two (sym here i) a (remade path b new items)) stands;
          same = λ still. subst (λ (m : N). K.Same m n) (sym here) (laws.same_itself n);
          few = omega (arith, few);
          all = λ c. absurd_test (sym s.still ∙ c);
          grown = (rgrowth, k.grown.1, rin_whole);
          cells = k.cells;
          rows = omega (arith, counted, sum, own);
          small = λ c. absurd_test (sym s.still ∙ c);
          bounded = omega (arith, small, bounded, own);
        }))
      where
        absurd_test : {P : Type 0} → false ≡ true → P
        absurd_test e = cc
