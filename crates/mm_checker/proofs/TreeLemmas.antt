-- The lines of nodes keep what is true.
use Rattle.std.proofs.Common.{◌≡◌, inl, inr, ℕ, ◌+◌, ◌<◌, Bool, true, false, not, ◌&&◌, ℤ, pos, int_lt, List, [], ◌∷◌, ◌++◌, map, length, Option, Some, None, refl, sym, ap₂, ◌∙◌, subst, arith, append-nil}
use Rattle.std.specs.List.{slice_get}
use Rattle.std.proofs.lemmas.Bool.{and_parts}
use Rattle.std.proofs.lemmas.List.{length-append, length-map}
use Rattle.mm_field.specs.declared.Field.{Field}
use Rattle.mm_logic.specs.Formula.{Formula}
use Rattle.mm_logic.specs.JoinRule.{join_type}
use Rattle.mm_logic.specs.Operator.{Op}
use Rattle.mm_logic.specs.Tree as shapes
use Rattle.mm_logic.specs.Value.{Value}
use Rattle.mm_tree.specs.NamedTree.{Tree, shape, weights}
use Rattle.mm_tree.specs.NamedTree.Tree.{Elem, Void, Join}
use Rattle.mm_checker.specs.Places.{places}
use Rattle.mm_checker.specs.Claims.{at_leaf, at_glue, marks_of, leaf_type}
use Rattle.mm_checker.specs.NodeLines.{TreeLine, Row, Rooted, Choice, choice, leaves, node_passes, are_all_met, are_different, next_row, row_if, is_number, is_after, is_earlier, with_node, leaf_choice, pair_of}
use Rattle.mm_checker.specs.NodeLines.TreeLine.{OfLeaf, OfJoin}
use Rattle.mm_checker.specs.Certificates.{Subject, Begun, State, ◌>>=◌, op_named, finished, node_ended, begin, node_line, has_line}
use Rattle.mm_checker.specs.Certificates.Stage.{Nodes}
use Rattle.mm_checker.proofs.PlaceLemmas.{Begin}
use Rattle.mm_checker.proofs.RuleLemmas.{asked, glued_is}
use Rattle.mm_checker.proofs.NodeLemmas.{Stands, AreChosen, IsChosen, asked_weights, node_stands, at_push, at_below, all_at, number_is}
use Rattle.mm_checker.proofs.ChoiceLemmas.{void_good, decided_good, sought_good, join_good}
use Rattle.mm_checker.proofs.StateLemmas.{bind_is, only_if_is, tree_of, meant, begun_line, trees_of, IsLineOf, AreLinesOf, chosen_at, AllStand, HasChosen, IsSound, IsEnded}

-- a tree has as many weights as elements
count_weights : (T : Tree) → length (weights T) ≡ shapes.size (shape T)
unfolding weights shape
count_weights (Elem name vec w) = refl
count_weights (Void name t) = refl
count_weights (Join name op l r) = length-append (weights l) (weights r) ∙ ap₂ (λ i j. i + j) (count_weights l) (count_weights r)

counted : (least : Bool) (T : Tree) → length (asked_weights least T) ≡ shapes.size (shape T)
counted true T = count_weights T
counted false T = length-map (weights T) (λ w. pos 0) ∙ count_weights T

-- place 0 is where the formula begins
whole_begins : (F : Formula) → Begin (places F) 0 F
whole_begins F = ([], sym (append-nil (places F)))

-- ---- a node ends

module _ (s : Subject) (st : State) (h : IsSound s st) where
  leaf_true : (k : ℕ) (leaf : Tree) → slice_get (leaves s.tree) k ≡ Some leaf → (m v : ℕ) → at_leaf st.leaf_claims 0 k m ≡ Some v
      → meant st v ≡ leaf_type s.f s.formula leaf (marks_of m)
  leaf_true k leaf at m v e =
      asked s.f (places s.formula) (leaves s.tree) (meant st) st.leaf_claims h.leaf_true k leaf at 0 s.formula (whole_begins s.formula) m v e

  join_true : (name : List ℕ) (op : Op) → op_named name s.tree ≡ Some op → (a b v : ℕ) → at_glue st.glue_claims 0 name a b ≡ Some v
      → meant st v ≡ join_type s.f s.formula op (meant st a) (meant st b)
  join_true name op at a b v e =
      glued_is s.f (places s.formula) (λ n. op_named n s.tree) (meant st) st.glue_claims h.glue_true name op at 0 s.formula (whole_begins s.formula) a b v e

  elem_stands : (least : Bool) → s.least ≡ least → (k : ℕ) (name vec : List ℕ) (w : ℤ) → slice_get (leaves s.tree) k ≡ Some (Elem name vec w) → (rows : List Row)
      → AreChosen least s.f s.formula (meant st) (leaf_choice least st.leaf_claims k (Elem name vec w)) rows
      → are_all_met least st.leaf_claims st.glue_claims st.trees (OfLeaf k (Elem name vec w)) rows ≡ true
      → Stands least s.f s.formula (meant st) (Elem name vec w) rows
  elem_stands true e k name vec w at rows chosen met =
      node_stands true s.f s.formula (meant st) (Elem name vec w) (leaf_choice true st.leaf_claims k (Elem name vec w)) 2 1
      (sought_good s.f s.formula (meant st) st.leaf_claims k name vec w (leaf_true k (Elem name vec w) at)) rows chosen met
  elem_stands false e k name vec w at rows chosen met =
      node_stands false s.f s.formula (meant st) (Elem name vec w) (leaf_choice false st.leaf_claims k (Elem name vec w)) 1 1
      (decided_good s.f s.formula (meant st) st.leaf_claims k name vec w (leaf_true k (Elem name vec w) at)) rows chosen met

  void_stands : (least : Bool) (k : ℕ) (name : List ℕ) (t : ℕ) → slice_get (leaves s.tree) k ≡ Some (Void name t) → (rows : List Row)
      → AreChosen least s.f s.formula (meant st) (leaf_choice least st.leaf_claims k (Void name t)) rows
      → are_all_met least st.leaf_claims st.glue_claims st.trees (OfLeaf k (Void name t)) rows ≡ true
      → Stands least s.f s.formula (meant st) (Void name t) rows
  void_stands true k name t at rows chosen met =
      node_stands true s.f s.formula (meant st) (Void name t) (leaf_choice true st.leaf_claims k (Void name t)) 1 1
      (void_good s.f s.formula (meant st) st.leaf_claims k true name t (leaf_true k (Void name t) at)) rows chosen met
  void_stands false k name t at rows chosen met =
      node_stands false s.f s.formula (meant st) (Void name t) (leaf_choice false st.leaf_claims k (Void name t)) 1 1
      (void_good s.f s.formula (meant st) st.leaf_claims k false name t (leaf_true k (Void name t) at)) rows chosen met

  pub node_leaves : (trees : List Rooted) → st.trees ≡ trees → AllStand s (meant st) trees → (node : TreeLine) → IsLineOf s.tree node → (rows : List Row) (to_come : List TreeLine)
      → AreChosen s.least s.f s.formula (meant st) (λ x y. choice s.least st.leaf_claims st.glue_claims trees node x y) rows
      → are_all_met s.least st.leaf_claims st.glue_claims trees node rows ≡ true
      → tree_of (trees_of trees) (node ∷ to_come) ≡ Some s.tree
      → AllStand s (meant st) (with_node trees node rows) × (tree_of (trees_of (with_node trees node rows)) to_come ≡ Some s.tree)
  node_leaves trees e all (OfLeaf k (Elem name vec w)) at rows to_come chosen met order =
      ((elem_stands s.least refl k name vec w at rows chosen (subst (λ ts. are_all_met s.least st.leaf_claims st.glue_claims ts (OfLeaf k (Elem name vec w)) rows ≡ true) (sym e) met), all), order)
  node_leaves trees e all (OfLeaf k (Void name t)) at rows to_come chosen met order =
      ((void_stands s.least k name t at rows chosen (subst (λ ts. are_all_met s.least st.leaf_claims st.glue_claims ts (OfLeaf k (Void name t)) rows ≡ true) (sym e) met), all), order)
  node_leaves trees e all (OfLeaf k (Join name op l r)) at rows to_come chosen met order = absurd at
  node_leaves [] e all (OfJoin name op) at rows to_come chosen met order = let no : None ≡ Some s.tree = order in cc
  node_leaves (r ∷ []) e all (OfJoin name op) at rows to_come chosen met order = let no : None ≡ Some s.tree = order in cc
  node_leaves (r ∷ (l ∷ trees)) e all (OfJoin name op) at rows to_come chosen met order = (
    (
      node_stands s.least s.f s.formula (meant st) (Join name op l.tree r.tree) (λ x y. pair_of st.glue_claims name x y (slice_get l.rows x) (slice_get r.rows y))
          (length l.rows) (length r.rows)
          (join_good s.least s.f s.formula (meant st) st.glue_claims name op l.tree r.tree l.rows r.rows all.1.0 all.0 (join_true name op at) (counted s.least l.tree))
          rows chosen met,
      all.1.1,
    ),
    order,
  )

-- after the node that is begun has ended
pub record IsIdle (s : Subject) (st : State) : Type 0 where
  pub sound : IsSound s st
  pub none : st.unended ≡ None
  pub idle : st.begun ≡ None

without_node : (s : Subject) (st : State) (b : Begun) → IsEnded s st → st.begun ≡ Some b
    → node_passes s.least st.leaf_claims st.glue_claims st.trees b.node b.rows ≡ true
    → IsSound s (record st { trees = with_node st.trees b.node b.rows; begun = None })
without_node s st b h i passes =
    let met = and_parts (are_different (map (λ r. r.value) b.rows)) (are_all_met s.least st.leaf_claims st.glue_claims st.trees b.node b.rows) passes in
    let lines = subst (λ o. AreLinesOf s.tree (begun_line o ++ st.to_come)) i h.sound.lines in
    let left = node_leaves s st h.sound st.trees refl h.sound.standing b.node lines.0 b.rows st.to_come
    (subst (HasChosen s st) i h.sound.rows) met.1 (subst (λ o. tree_of (trees_of st.trees) (begun_line o ++ st.to_come) ≡ Some s.tree) i h.sound.order) in
    record {
      grounded = h.sound.grounded;
      pending = h.sound.pending;
      settled = h.sound.settled;
      bare = h.sound.bare;
      treeless = λ e. let no : Some b ≡ None = sym i ∙ (h.sound.treeless e).1 in cc;
      leaf_true = h.sound.leaf_true;
      glue_true = h.sound.glue_true;
      standing = left.0;
      rows = tt;
      order = left.1;
      lines = lines.1;
    }

pub node_ended_sound : (s : Subject) (st next : State) → IsEnded s st → node_ended s st ≡ Some next → IsIdle s next
node_ended_sound s st next h e = by st.begun refl e
  where
    by : (o : Option Begun) → st.begun ≡ o → finished s st o ≡ Some next → IsIdle s next
    by None i e = let same : st ≡ next = cc in subst (IsIdle s) same (record { sound = h.sound; none = h.none; idle = i })
    by (Some b) i e =
        let p = only_if_is (node_passes s.least st.leaf_claims st.glue_claims st.trees b.node b.rows)
        (record st { trees = with_node st.trees b.node b.rows; begun = None }) next e in
        subst (IsIdle s) p.1 (record { sound = without_node s st b h i p.0; none = h.none; idle = refl })

begins_node : (s : Subject) (st : State) (node : TreeLine) (nodes : List TreeLine) → IsIdle s st → st.to_come ≡ node ∷ nodes
    → IsSound s (record st { stage = Nodes; begun = Some (record { node = node; rows = [] }); to_come = nodes })
begins_node s st node nodes h i = record {
  grounded = h.sound.grounded;
  pending = h.sound.pending;
  settled = λ e. h.none;
  bare = λ e. let no : false ≡ true = e in cc;
  treeless = λ e. let no : false ≡ true = e in cc;
  leaf_true = h.sound.leaf_true;
  glue_true = h.sound.glue_true;
  standing = h.sound.standing;
  rows = record { each = λ k r e. let no : None ≡ Some r = e in cc; rising = λ j k q r l e d. let no : None ≡ Some q = e in cc };
  order = subst (λ ns. tree_of (trees_of st.trees) ns ≡ Some s.tree) i (subst (λ o. tree_of (trees_of st.trees) (begun_line o ++ st.to_come) ≡ Some s.tree) h.idle h.sound.order);
  lines = subst (AreLinesOf s.tree) i (subst (λ o. AreLinesOf s.tree (begun_line o ++ st.to_come)) h.idle h.sound.lines);
}

pub node_sound : (s : Subject) (st next : State) → IsEnded s st → node_line s st ≡ Some next → IsSound s next
node_sound s st next h e =
    let after = bind_is (node_ended s st) (λ st. begin st st.to_come) next e in
    by after.0 (node_ended_sound s st after.0 h after.1) after.0.to_come refl after.2
  where
    by : (mid : State) → IsIdle s mid → (nodes : List TreeLine) → mid.to_come ≡ nodes → begin mid nodes ≡ Some next → IsSound s next
    by mid idle [] i e = let no : None ≡ Some next = e in cc
    by mid idle (node ∷ nodes) i e =
        let same : record mid { stage = Nodes; begun = Some (record { node = node; rows = [] }); to_come = nodes } ≡ next = cc in
        subst (IsSound s) same (begins_node s mid node nodes idle i)

-- ---- a row more

row_is : (b : Bool) (v x y : ℕ) (c : Choice) (r : Row) → row_if b v x y c ≡ Some r
    → (b ≡ true) × (record { value = v; weight = c.weight; x = x; y = y; set = c.set } ≡ r)
row_is false v x y c r e = let no : None ≡ Some r = e in cc
row_is true v x y c r e = (refl, cc)

module _ (least : Bool) (f : Field) (F : Formula) (g : ℕ → Value) (chosen : ℕ → ℕ → Option Choice) (rows : List Row) (h : AreChosen least f F g chosen rows) where
  chosen-push : (r : Row) → IsChosen least f F g chosen r → is_after rows r.x r.y ≡ true → AreChosen least f F g chosen (rows ++ r ∷ [])
  chosen-push r is after = record {
    each = λ k q e. elim (at_push rows r k q e) [
      | inl i ↦ h.each k q i
      | inr i ↦ subst (IsChosen least f F g chosen) i.1 is
    ];
    rising = λ i k q p l e d. elim (at_push rows r k p d) [
      | inl j ↦ h.rising i k q p l (old i k q l (at_below rows k p j) e) j
      | inr j ↦ subst (λ z. is_earlier q.x q.y z.x z.y ≡ true) j.1 (all_at (λ z. is_earlier z.x z.y r.x r.y) rows after i q (before i k q l j.0 e))
    ];
  }
    where
      old : (i k : ℕ) (q : Row) → i < k → k < length rows → slice_get (rows ++ r ∷ []) i ≡ Some q → slice_get rows i ≡ Some q
      old i k q l m e = elim (at_push rows r i q e) [ inl j ↦ j | inr j ↦ let s = j.0 in absurd (omega (arith, l, m, s)) ]

      before : (i k : ℕ) (q : Row) → i < k → k ≡ length rows → slice_get (rows ++ r ∷ []) i ≡ Some q → slice_get rows i ≡ Some q
      before i k q l m e = elim (at_push rows r i q e) [ inl j ↦ j | inr j ↦ let s = j.0 in absurd (omega (arith, l, m, s)) ]

  next_chosen : (x y v : ℕ) (w : ℤ) (o : Option Choice) (r : Row) → chosen x y ≡ o → next_row rows x y o v w ≡ Some r → AreChosen least f F g chosen (rows ++ r ∷ [])
  next_chosen x y v w None r i e = let no : None ≡ Some r = e in cc
  next_chosen x y v w (Some c) r i e =
      let test = is_number c.value v && not (int_lt c.weight w) && not (int_lt w c.weight) && is_after rows x y in
      let p = row_is test v x y c r e in
      let three = and_parts (is_number c.value v && not (int_lt c.weight w) && not (int_lt w c.weight)) (is_after rows x y) p.0 in
      let two = and_parts (is_number c.value v && not (int_lt c.weight w)) (not (int_lt w c.weight)) three.0 in
      let one = and_parts (is_number c.value v) (not (int_lt c.weight w)) two.0 in
      subst (λ z. AreChosen least f F g chosen (rows ++ z ∷ [])) p.1
      (chosen-push (record { value = v; weight = c.weight; x = x; y = y; set = c.set })
      (record { from = c; at = i; value = number_is c.value v one.0; weighs = refl; sets = refl }) three.1)

more_rows : (s : Subject) (st : State) (b : Begun) (rows : List Row) → IsSound s st → st.begun ≡ Some b
    → AreChosen s.least s.f s.formula (meant st) (chosen_at s st b.node) rows
    → IsSound s (record st { begun = Some (record { node = b.node; rows = rows }) })
more_rows s st b rows h i chosen = record {
  grounded = h.grounded;
  pending = h.pending;
  settled = h.settled;
  bare = h.bare;
  treeless = λ e. let no : Some b ≡ None = sym i ∙ (h.treeless e).1 in cc;
  leaf_true = h.leaf_true;
  glue_true = h.glue_true;
  standing = h.standing;
  rows = chosen;
  order = subst (λ o. tree_of (trees_of st.trees) (begun_line o ++ st.to_come) ≡ Some s.tree) i h.order;
  lines = subst (λ o. AreLinesOf s.tree (begun_line o ++ st.to_come)) i h.lines;
}

pub has_sound : (s : Subject) (st next : State) (v : ℕ) (w : ℤ) (x y : ℕ) → IsEnded s st → has_line s v w x y st ≡ Some next → IsSound s next
has_sound s st next v w x y h e =
    let b = bind_is st.begun (λ b. next_row b.rows x y (choice s.least st.leaf_claims st.glue_claims st.trees b.node x y) v w
    >>= λ r. Some (record st { begun = Some (record { node = b.node; rows = b.rows ++ r ∷ [] }) })) next e in
    let r = bind_is (next_row b.0.rows x y (choice s.least st.leaf_claims st.glue_claims st.trees b.0.node x y) v w)
    (λ r. Some (record st { begun = Some (record { node = b.0.node; rows = b.0.rows ++ r ∷ [] }) })) next b.2 in
    let same : record st { begun = Some (record { node = b.0.node; rows = b.0.rows ++ r.0 ∷ [] }) } ≡ next = some_state _ next r.2 in
    subst (IsSound s) same
    (more_rows s st b.0 (b.0.rows ++ r.0 ∷ []) h.sound b.1
    (next_chosen s.least s.f s.formula (meant st) (chosen_at s st b.0.node) b.0.rows (subst (HasChosen s st) b.1 h.sound.rows) x y v w
    (choice s.least st.leaf_claims st.glue_claims st.trees b.0.node x y) r.0 refl r.1))
  where
    some_state : (x y : State) → Some x ≡ Some y → x ≡ y
    some_state x y e = cc
