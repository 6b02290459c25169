-- The choices of a leaf, and those of a join over children whose rows stand for them, are good.
use Rattle.std.proofs.Common.{◌≡◌, inl, inr, ℕ, zero, suc, ◌+◌, ◌<◌, ◌==◌, Bool, true, false, not, ◌&&◌, ◌||◌, if◌then◌else◌, ℤ, pos, ◌+ℤ◌, List, [], ◌∷◌, ◌++◌, length, take, drop, Option, Some, None, refl, sym, ap, ap₂, ◌∙◌, subst, arith, length-drop, take-append-drop}
use Rattle.std.specs.Int.{bit_at}
use Rattle.std.specs.List.{slice_get}
use Rattle.std.proofs.lemmas.Int.{ints}
use Rattle.std.proofs.lemmas.List.{length-append, length-take-le, take_at, drop_at, map-append}
use Rattle.std.proofs.lemmas.Nat.Bits.{bit_at-zero, bit_at-pow_other}
use Rattle.mm_field.specs.declared.Field.{Field}
use Rattle.mm_logic.specs.Formula.{Formula}
use Rattle.mm_logic.specs.JoinRule.{join_type, joined, lettered}
use Rattle.mm_logic.specs.LeafRule.{elem_type}
use Rattle.mm_logic.specs.Least.{weight, precedes}
use Rattle.mm_logic.specs.Marks.{mark, no_marks}
use Rattle.mm_logic.specs.Operator.{Op}
use Rattle.mm_logic.specs.Tree as shapes
use Rattle.mm_logic.specs.Value.{Value}
use Rattle.mm_logic_laws.proofs.LeastLemmas.{AtMost, at_most-then, at_most-more_left, at_most-more_right, weight-append, precedes-parts, precedes-right}
use Rattle.mm_tree.specs.NamedTree.{Tree, shape, weights}
use Rattle.mm_tree.specs.NamedTree.Tree.{Elem, Void, Join}
use Rattle.mm_checker.specs.Claims.{LeafClaims, GlueClaims, at_leaf, at_glue, marks_of, leaf_type}
use Rattle.mm_checker.specs.NodeLines.{Row, Choice, leaf_choice, pair_of, is_earlier}
use Rattle.mm_checker.proofs.NodeLemmas.{asked_weights, assigned, length-assigned, assigned-append, type_at, Stands, IsChoice, AreGood, earlier_cases, at_below}

-- ---- marks of a leaf of the whole tree

differ : (j : ℕ) → (j == 0) ≡ false → j ≡ 0 → ⊥
differ j e h = let no : true ≡ false = sym (ap (λ k. k == 0) h) ∙ e in cc

zero_marks : (j : ℕ) → (bit_at 0 j == 1) ≡ false
zero_marks j = ap (λ b. b == 1) (bit_at-zero j)

pub marks_zero : marks_of 0 ≡ no_marks
marks_zero = λ i j. zero_marks j i

pub marks_out : marks_of 0 ≡ mark 0 false no_marks
marks_out = λ i j. by j (j == 0) refl i
  where
    by : (j : ℕ) (b : Bool) → (j == 0) ≡ b → (bit_at 0 j == 1) ≡ (if b then false else false)
    by j true e = zero_marks j
    by j false e = zero_marks j

pub marks_in : marks_of 1 ≡ mark 0 true no_marks
marks_in = λ i j. by j (j == 0) refl i
  where
    by : (j : ℕ) (b : Bool) → (j == 0) ≡ b → (bit_at 1 j == 1) ≡ (if b then true else false)
    by zero true e = refl
    by (suc j) true e = let no : suc j ≡ 0 = grind (arith, e) in absurd (omega (arith, no))
    by j false e = ap (λ b. b == 1) (bit_at-pow_other 0 j (differ j e))

-- ---- leaves

weightless : (w : ℤ) → w +ℤ pos 0 ≡ w
weightless w = omega (arith, ints)

module _ (least : Bool) (f : Field) (F : Formula) (g : ℕ → Value) (T : Tree) (chosen : ℕ → ℕ → Option Choice) where
  none_earlier : (x y : ℕ) → is_earlier x y 0 0 ≡ true → ⊥
  none_earlier x y e = elim (earlier_cases x y 0 0 e) [ inl l ↦ omega (arith, l) | inr l ↦ let s = l.1 in omega (arith, s) ]

  -- where there is one choice, and its set is as good as each
  lone_good : (out : Choice) → chosen 0 0 ≡ Some out → ((x y : ℕ) (c : Choice) → chosen x y ≡ Some c → (x ≡ 0) × (y ≡ 0))
      → IsChoice least f F g T 0 0 out
      → ((Z : List Bool) → length Z ≡ shapes.size (shape T)
      → (type_at least f F g T out.set ≡ type_at least f F g T Z) × AtMost (asked_weights least T) out.set Z)
      → AreGood least f F g T chosen 1 1
  lone_good out at only is as_good = record {
    fits = λ x y c e.
        let o = only x y c e in
        let here : chosen 0 0 ≡ Some c = sym (ap₂ chosen o.0 o.1) ∙ e in
        let same : out ≡ c = cc in
        subst (λ i. IsChoice least f F g T i y c) (sym o.0) (subst (λ i. IsChoice least f F g T 0 i c) (sym o.1) (subst (IsChoice least f F g T 0 0) same is));
    ordered = λ x y u v c d e i j.
        let o = only u v d j in
        absurd (none_earlier x y (subst (λ k. is_earlier x y 0 k ≡ true) o.1 (subst (λ k. is_earlier x y k v ≡ true) o.0 e)));
    complete = λ Z l. let b = as_good Z l in (0, 0, out, omega arith, omega arith, at, b.0, b.1);
  }

module _ (f : Field) (F : Formula) (g : ℕ → Value) (claims : LeafClaims) (k : ℕ) where
  -- what is claimed of place 0 at the leaf is what the leaf rule gives
  abbrev pub AreTrueOf : Tree → Type 0
  AreTrueOf leaf = (m v : ℕ) → at_leaf claims 0 k m ≡ Some v → g v ≡ leaf_type f F leaf (marks_of m)

  none_weigh : (least : Bool) (name : List ℕ) (t : ℕ) → pos 0 ≡ weight (asked_weights least (Void name t)) []
  unfolding weights
  none_weigh true name t = refl
  none_weigh false name t = refl

  void_only : (least : Bool) (name : List ℕ) (t : ℕ) (x y : ℕ) (c : Choice) → leaf_choice least claims k (Void name t) x y ≡ Some c → (x ≡ 0) × (y ≡ 0)
  void_only least name t zero zero c e = (refl, refl)
  void_only least name t zero (suc y) c e = let no : None ≡ Some c = e in cc
  void_only true name t (suc zero) zero c e = let no : None ≡ Some c = e in cc
  void_only false name t (suc zero) zero c e = let no : None ≡ Some c = e in cc
  void_only least name t (suc zero) (suc y) c e = let no : None ≡ Some c = e in cc
  void_only least name t (suc (suc x)) y c e = let no : None ≡ Some c = e in cc

  void_best : (least : Bool) (name : List ℕ) (t : ℕ) (Z : List Bool) → length Z ≡ shapes.size (shape (Void name t))
      → (type_at least f F g (Void name t) [] ≡ type_at least f F g (Void name t) Z) × AtMost (asked_weights least (Void name t)) [] Z
  unfolding shape
  void_best least name t [] l = (refl, inl refl)
  void_best least name t (z ∷ Z) l = absurd (omega (arith, l))

  pub void_good : (least : Bool) (name : List ℕ) (t : ℕ) → AreTrueOf (Void name t)
      → AreGood least f F g (Void name t) (leaf_choice least claims k (Void name t)) 1 1
  unfolding shape
  void_good least name t h =
      lone_good least f F g (Void name t) (leaf_choice least claims k (Void name t))
      (record { value = at_leaf claims 0 k 0; weight = pos 0; x = 0; y = 0; set = [] }) refl (void_only least name t)
      (record { count = refl; types = λ v q. h 0 v q; weighs = none_weigh least name t; left = refl; right = refl })
      (void_best least name t)

  module _ (name vec : List ℕ) (w : ℤ) where
    leaf : Tree
    leaf = Elem name vec w

    decided_only : (x y : ℕ) (c : Choice) → leaf_choice false claims k (Elem name vec w) x y ≡ Some c → (x ≡ 0) × (y ≡ 0)
    decided_only zero zero c e = (refl, refl)
    decided_only zero (suc y) c e = let no : None ≡ Some c = e in cc
    decided_only (suc zero) zero c e = let no : None ≡ Some c = e in cc
    decided_only (suc zero) (suc y) c e = let no : None ≡ Some c = e in cc
    decided_only (suc (suc x)) y c e = let no : None ≡ Some c = e in cc

    decided_best : (Z : List Bool) → length Z ≡ shapes.size (shape (Elem name vec w))
        → (type_at false f F g (Elem name vec w) (false ∷ []) ≡ type_at false f F g (Elem name vec w) Z)
        × AtMost (asked_weights false (Elem name vec w)) (false ∷ []) Z
    unfolding shape weights
    decided_best [] l = absurd (omega (arith, l))
    decided_best (false ∷ []) l = (refl, inl refl)
    decided_best (true ∷ []) l = (refl, inr (inr (sym (weightless (pos 0)), refl)))
    decided_best (z ∷ (y ∷ Z)) l = absurd (omega (arith, l))

    pub decided_good : AreTrueOf (Elem name vec w) → AreGood false f F g (Elem name vec w) (leaf_choice false claims k (Elem name vec w)) 1 1
    unfolding shape weights
    decided_good h =
        lone_good false f F g (Elem name vec w) (leaf_choice false claims k (Elem name vec w))
        (record { value = at_leaf claims 0 k 0; weight = pos 0; x = 0; y = 0; set = false ∷ [] }) refl decided_only
        (record { count = refl; types = λ v q. h 0 v q ∙ ap (elem_type f F vec) marks_zero; weighs = refl; left = refl; right = refl })
        decided_best

    out : Choice
    out = record { value = at_leaf claims 0 k 0; weight = pos 0; x = 0; y = 0; set = false ∷ [] }

    taken : Choice
    taken = record { value = at_leaf claims 0 k 1; weight = w; x = 1; y = 0; set = true ∷ [] }

    sought_fits : AreTrueOf (Elem name vec w) → (x y : ℕ) (c : Choice) → leaf_choice true claims k (Elem name vec w) x y ≡ Some c
        → IsChoice true f F g (Elem name vec w) x y c
    unfolding shape weights out taken
    sought_fits h zero zero c e =
        let at : out ≡ c = cc in
        subst (IsChoice true f F g (Elem name vec w) 0 0) at
        (record { count = refl; types = λ v q. h 0 v q ∙ ap (elem_type f F vec) marks_out; weighs = refl; left = refl; right = refl })
    sought_fits h zero (suc y) c e = let no : None ≡ Some c = e in cc
    sought_fits h (suc zero) zero c e =
        let at : taken ≡ c = cc in
        subst (IsChoice true f F g (Elem name vec w) 1 0) at
        (record { count = refl; types = λ v q. h 1 v q ∙ ap (elem_type f F vec) marks_in; weighs = sym (weightless w); left = refl; right = refl })
    sought_fits h (suc zero) (suc y) c e = let no : None ≡ Some c = e in cc
    sought_fits h (suc (suc x)) y c e = let no : None ≡ Some c = e in cc

    sought_ordered : (x y u v : ℕ) (c d : Choice) → is_earlier x y u v ≡ true → leaf_choice true claims k (Elem name vec w) x y ≡ Some c
        → leaf_choice true claims k (Elem name vec w) u v ≡ Some d → precedes c.set d.set ≡ true
    unfolding out taken
    sought_ordered zero zero (suc zero) zero c d e i j =
        let at : out ≡ c = cc in
        let to : taken ≡ d = cc in
        subst (λ z. precedes z.set d.set ≡ true) at (subst (λ z. precedes (false ∷ []) z.set ≡ true) to refl)
    sought_ordered zero zero zero zero c d e i j = let no : false ≡ true = e in cc
    sought_ordered (suc zero) zero zero zero c d e i j = let no : false ≡ true = e in cc
    sought_ordered (suc zero) zero (suc zero) zero c d e i j = let no : false ≡ true = e in cc
    sought_ordered zero (suc y) u v c d e i j = let no : None ≡ Some c = i in cc
    sought_ordered (suc zero) (suc y) u v c d e i j = let no : None ≡ Some c = i in cc
    sought_ordered (suc (suc x)) y u v c d e i j = let no : None ≡ Some c = i in cc
    sought_ordered zero zero zero (suc v) c d e i j = let no : None ≡ Some d = j in cc
    sought_ordered zero zero (suc zero) (suc v) c d e i j = let no : None ≡ Some d = j in cc
    sought_ordered zero zero (suc (suc u)) v c d e i j = let no : None ≡ Some d = j in cc
    sought_ordered (suc zero) zero zero (suc v) c d e i j = let no : None ≡ Some d = j in cc
    sought_ordered (suc zero) zero (suc zero) (suc v) c d e i j = let no : None ≡ Some d = j in cc
    sought_ordered (suc zero) zero (suc (suc u)) v c d e i j = let no : None ≡ Some d = j in cc

    sought_complete : (Z : List Bool) → length Z ≡ shapes.size (shape (Elem name vec w))
        → (x : ℕ) × (y : ℕ) × (c : Choice) × (x < 2) × (y < 1) × (leaf_choice true claims k (Elem name vec w) x y ≡ Some c)
        × (type_at true f F g (Elem name vec w) c.set ≡ type_at true f F g (Elem name vec w) Z)
        × AtMost (asked_weights true (Elem name vec w)) c.set Z
    unfolding shape out taken
    sought_complete [] l = absurd (omega (arith, l))
    sought_complete (false ∷ []) l = (0, 0, out, omega arith, omega arith, refl, refl, inl refl)
    sought_complete (true ∷ []) l = (1, 0, taken, omega arith, omega arith, refl, refl, inl refl)
    sought_complete (z ∷ (y ∷ Z)) l = absurd (omega (arith, l))

    pub sought_good : AreTrueOf (Elem name vec w) → AreGood true f F g (Elem name vec w) (leaf_choice true claims k (Elem name vec w)) 2 1
    sought_good h = record { fits = sought_fits h; ordered = sought_ordered; complete = sought_complete }

-- ---- joins

weights_split : (b : Bool) (name : List ℕ) (op : Op) (l r : Tree) → asked_weights b (Join name op l r) ≡ asked_weights b l ++ asked_weights b r
unfolding weights
weights_split true name op l r = refl
weights_split false name op l r = map-append (λ w. pos 0) (weights l) (weights r)

module _ (least : Bool) (f : Field) (F : Formula) (g : ℕ → Value) (claims : GlueClaims) (name : List ℕ) (op : Op) (l r : Tree) where
  abbrev whole : Tree
  whole = Join name op l r

  weights_join : asked_weights least (Join name op l r) ≡ asked_weights least l ++ asked_weights least r
  weights_join = weights_split least name op l r

  type_join : (A B : List Bool) → length A ≡ shapes.size (shape l) → length B ≡ shapes.size (shape r)
      → type_at least f F g (Join name op l r) (A ++ B) ≡ join_type f F op (type_at least f F g l A) (type_at least f F g r B)
  unfolding shape
  type_join A B la lb =
      let n = shapes.size (shape l) in
      let m = shapes.size (shape r) in
      let us = assigned least A n in
      let vs = assigned least B m in
      let lu : length us ≡ n = length-assigned least A n in
      ap (λ ms. join_type f F op (joined f F (lettered (shape l) (take n ms))) (joined f F (lettered (shape r) (drop n ms)))) (assigned-append least A B n m la)
      ∙ ap₂ (λ ms ks. join_type f F op (joined f F (lettered (shape l) ms)) (joined f F (lettered (shape r) ks))) (take_at us vs n lu) (drop_at us vs n lu)

  module _ (rows sows : List Row) (hl : Stands least f F g l rows) (hr : Stands least f F g r sows)
      (claimed_true : (a b v : ℕ) → at_glue claims 0 name a b ≡ Some v → g v ≡ join_type f F op (g a) (g b))
      (counted : length (asked_weights least l) ≡ shapes.size (shape l)) where
    abbrev chosen : ℕ → ℕ → Option Choice
    chosen x y = pair_of claims name x y (slice_get rows x) (slice_get sows y)

    -- a choice is of a row of each child
    record IsPair (x y : ℕ) (c : Choice) : Type 0 where
      pub a : Row
      pub b : Row
      pub at_a : slice_get rows x ≡ Some a
      pub at_b : slice_get sows y ≡ Some b
      pub same : record { value = at_glue claims 0 name a.value b.value; weight = a.weight +ℤ b.weight; x = x; y = y; set = a.set ++ b.set } ≡ c

    pair_is : (x y : ℕ) (c : Choice) → chosen x y ≡ Some c → IsPair x y c
    pair_is x y c e = by (slice_get rows x) (slice_get sows y) refl refl e
      where
        by : (o p : Option Row) → slice_get rows x ≡ o → slice_get sows y ≡ p → pair_of claims name x y o p ≡ Some c → IsPair x y c
        by None p i j e = let no : None ≡ Some c = e in cc
        by (Some a) None i j e = let no : None ≡ Some c = e in cc
        by (Some a) (Some b) i j e = record { a = a; b = b; at_a = i; at_b = j; same = cc }

    pair_at : (x y : ℕ) (a b : Row) → slice_get rows x ≡ Some a → slice_get sows y ≡ Some b
        → chosen x y ≡ Some (record { value = at_glue claims 0 name a.value b.value; weight = a.weight +ℤ b.weight; x = x; y = y; set = a.set ++ b.set })
    pair_at x y a b i j = ap₂ (pair_of claims name x y) i j

    fits : (x y : ℕ) (c : Choice) → chosen x y ≡ Some c → IsChoice least f F g (Join name op l r) x y c
    unfolding shape
    fits x y c e =
        let p = pair_is x y c e in
        let one = hl.each x p.a p.at_a in
        let two = hr.each y p.b p.at_b in
        subst (IsChoice least f F g (Join name op l r) x y) p.same (record {
          count = length-append p.a.set p.b.set ∙ ap₂ (λ i j. i + j) one.count two.count;
          types = λ v q. claimed_true p.a.value p.b.value v q ∙ ap₂ (join_type f F op) one.types two.types ∙ sym (type_join p.a.set p.b.set one.count two.count);
          weighs = ap₂ (λ i j. i +ℤ j) one.weighs two.weighs
              ∙ sym (weight-append (asked_weights least l) (asked_weights least r) p.a.set p.b.set (counted ∙ sym one.count))
              ∙ ap (λ ws. weight ws (p.a.set ++ p.b.set)) (sym weights_join);
          left = refl;
          right = refl;
        })

    ordered : (x y u v : ℕ) (c d : Choice) → is_earlier x y u v ≡ true → chosen x y ≡ Some c → chosen u v ≡ Some d → precedes c.set d.set ≡ true
    ordered x y u v c d e i j =
        let p = pair_is x y c i in
        let q = pair_is u v d j in
        subst (λ z. precedes z.set d.set ≡ true) p.same (subst (λ z. precedes (p.a.set ++ p.b.set) z.set ≡ true) q.same
        (elim (earlier_cases x y u v e) [
          | inl less ↦
              let first = hl.rising x u p.a q.a less p.at_a q.at_a in
              precedes-parts p.a.set q.a.set p.b.set q.b.set ((hl.each x p.a p.at_a).count ∙ sym (hl.each u q.a q.at_a).count)
              ∙ ap (λ (b : Bool). b || (not (precedes q.a.set p.a.set) && precedes p.b.set q.b.set)) first
          | inr more ↦
              let at : slice_get rows x ≡ slice_get rows u = ap (slice_get rows) more.0 in
              let same_row : p.a ≡ q.a = some_row p.a q.a (sym p.at_a ∙ at ∙ q.at_a) in
              subst (λ z. precedes (p.a.set ++ p.b.set) (z.set ++ q.b.set) ≡ true) same_row
              (precedes-right p.a.set p.b.set q.b.set ∙ hr.rising y v p.b q.b more.1 p.at_b q.at_b)
        ]))
      where
        some_row : (a b : Row) → Some a ≡ Some b → a ≡ b
        some_row a b e = cc

    complete : (Z : List Bool) → length Z ≡ shapes.size (shape (Join name op l r))
        → (x : ℕ) × (y : ℕ) × (c : Choice) × (x < length rows) × (y < length sows) × (chosen x y ≡ Some c)
        × (type_at least f F g (Join name op l r) c.set ≡ type_at least f F g (Join name op l r) Z)
        × AtMost (asked_weights least (Join name op l r)) c.set Z
    unfolding shape
    complete Z lz =
        let n = shapes.size (shape l) in
        let m = shapes.size (shape r) in
        let P = take n Z in
        let Q = drop n Z in
        let lp : length P ≡ n = length-take-le n Z (omega (arith, lz)) in
        let lq : length Q ≡ m = length-drop n Z ∙ omega (arith, lz) in
        let parts : P ++ Q ≡ Z = take-append-drop n Z in
        let p = hl.every P lp in
        let q = hr.every Q lq in
        let a = p.1 in
        let b = q.1 in
        let one = hl.each p.0 a p.2 in
        let two = hr.each q.0 b q.2 in
        let types : type_at least f F g (Join name op l r) (a.set ++ b.set) ≡ type_at least f F g (Join name op l r) Z =
        type_join a.set b.set one.count two.count ∙ ap₂ (join_type f F op) p.3 q.3 ∙ sym (type_join P Q lp lq) ∙ ap (type_at least f F g (Join name op l r)) parts in
        let us = asked_weights least l in
        let vs = asked_weights least r in
        let first = at_most-more_left us vs a.set P b.set (counted ∙ sym one.count) (one.count ∙ sym lp) p.4 in
        let second = at_most-more_right us vs P b.set Q (counted ∙ sym lp) q.4 in
        let both = at_most-then (us ++ vs) (a.set ++ b.set) (P ++ b.set) (P ++ Q) first second in
        let at_most = subst (λ ws. AtMost ws (a.set ++ b.set) Z) (sym weights_join) (subst (λ X. AtMost (us ++ vs) (a.set ++ b.set) X) parts both) in (
          p.0,
          q.0,
          record { value = at_glue claims 0 name a.value b.value; weight = a.weight +ℤ b.weight; x = p.0; y = q.0; set = a.set ++ b.set },
          at_below rows p.0 a p.2,
          at_below sows q.0 b q.2,
          pair_at p.0 q.0 a b p.2 q.2,
          types,
          at_most,
        )

    pub join_good : AreGood least f F g (Join name op l r) (λ x y. pair_of claims name x y (slice_get rows x) (slice_get sows y)) (length rows) (length sows)
    join_good = record { fits = fits; ordered = ordered; complete = complete }
