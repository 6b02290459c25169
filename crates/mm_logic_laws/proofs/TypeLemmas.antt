-- Types made by joins are the types read from all sets.
use Rattle.std.proofs.Common.{◌≡◌, ℕ, suc, zero, Bool, true, false, ◌&&◌, ◌||◌, if◌then◌else◌, List, [], ◌∷◌, ◌++◌, map, length, take, drop, refl, sym, ap, ◌∙◌, subst, arith, inl, inr}
use Rattle.std.specs.List.{list_any}
use Rattle.std.proofs.lemmas.List.Folds.{list_any-append, list_all-append}
use Rattle.std.proofs.lemmas.List.{map-append, length-map, take-append-drop, length-take-le, length-drop}
use Rattle.std.proofs.Math.Bool.{or-false}
use Rattle.mm_field.specs.declared.Field.{Field}
use Rattle.mm_logic.specs.Formula.{Formula, implies, iff}
use Rattle.mm_logic.specs.Formula.Formula.{Const, Ind, Member, SameElem, Sub, SameSet, Not, Bin, ExSet, AllSet, ExElem, AllElem}
use Rattle.mm_logic.specs.Value.{Value, members, collected}
use Rattle.mm_logic.specs.Value.Value.{Pair}
use Rattle.mm_logic.specs.Tree.Tree.{Elem, Void, Join}
use Rattle.mm_logic.proofs.SetLemmas.{list_any-map, list_any-flat_map}
use Rattle.mm_logic.proofs.ValueLemmas.{list_any-collected, collected-same}
use Rattle.mm_logic_laws.proofs.SplitLemmas.{length-assign, sets-append, singles-append, assign_none-append, any-column, list_any-within, AtMostOne-none, Each-singles, column-append, AtMostOne-both, AtMostOne-apart, AtMostOne-left, AtMostOne-right, Singles-set, Singles-elem, any-none}
use Rattle.mm_logic.specs.AtomValues.{unseen, member, same_elem, holding, member_join, same_elem_join, holding_join}
use Rattle.mm_logic.specs.JoinRule.{all_pairs, set_join, lettered, join_type, joined}
use Rattle.mm_logic.specs.LeafRule.{elem_type, void_type}
use Rattle.mm_logic.specs.Marks.{Marks, mark, assign, none, sets, singles, AtMostOne, column, Singles, in_term}
use Rattle.mm_logic.specs.Meaning.{WellSorted}
use Rattle.mm_logic.specs.Operator.{Op}
use Rattle.mm_logic.specs.Tree.{size, Tree, IsValid}
use Rattle.mm_logic.specs.BoundarySpaces.{ind_type}
use Rattle.mm_logic_laws.proofs.MatrixLemmas.{ind_at_join, ind_at_elem, ind_at_void}
use Rattle.mm_logic.specs.Types.{type_of}

-- ---- sets of values

list_any-all_pairs : (p : Value → Bool) (j : Value → Value → Value) (vs ws : List Value) → list_any p (all_pairs j vs ws) ≡ list_any (λ v. list_any (λ w. p (j v w)) ws) vs
list_any-all_pairs p j vs ws = list_any-flat_map p (λ v. map (j v) ws) vs ∙ (λ i. list_any (λ v. list_any-map p (j v) ws i) vs)

-- the join of the sets of two lists
pub set_join-collected : (j : Value → Value → Value) (vs ws : List Value) → set_join j (collected vs) (collected ws) ≡ collected (all_pairs j vs ws)
set_join-collected j vs ws = collected-same _ _ (λ p.
    list_any-all_pairs p j (members (collected vs)) (members (collected ws))
    ∙ (λ i. list_any (λ v. list_any-collected (λ w. p (j v w)) ws i) (members (collected vs)))
    ∙ list_any-collected (λ v. list_any (λ w. p (j v w)) ws) vs
    ∙ sym (list_any-all_pairs p j vs ws))

-- ---- quantifiers, whatever the formula below

module _ (k : ℕ) (us vs : List Marks) (j : Value → Value → Value) (g f h : List Marks → Value) where
  -- a set quantifier: g is the type at the join, f and h those of the children
  pub set_law : ((X Y : List Bool) → g (assign k X us ++ assign k Y vs) ≡ j (f (assign k X us)) (h (assign k Y vs)))
      → collected (map (λ X. g (assign k X (us ++ vs))) (sets (length (us ++ vs))))
      ≡ set_join j (collected (map (λ X. f (assign k X us)) (sets (length us)))) (collected (map (λ Y. h (assign k Y vs)) (sets (length vs))))
  set_law e =
      let F : List Bool → Value = λ X. f (assign k X us) in
      let H : List Bool → Value = λ Y. h (assign k Y vs) in
      collected-same _ _ (λ p.
      list_any-map p (λ X. g (assign k X (us ++ vs))) (sets (length (us ++ vs)))
      ∙ sets-append k (λ z. p (g z)) us vs
      ∙ (λ i. list_any (λ X. list_any (λ Y. p (e X Y i)) (sets (length vs))) (sets (length us)))
      ∙ (λ i. list_any (λ X. sym (list_any-map (λ w. p (j (F X) w)) H (sets (length vs))) i) (sets (length us)))
      ∙ sym (list_any-map (λ v. list_any (λ w. p (j v w)) (map H (sets (length vs)))) F (sets (length us)))
      ∙ sym (list_any-all_pairs p j (map F (sets (length us))) (map H (sets (length vs)))))
      ∙ sym (set_join-collected j (map F (sets (length us))) (map H (sets (length vs))))

  -- the set of an element quantifier: the element is on the left or on the right
  pub elem_law : ((X Y : List Bool) → AtMostOne (column k (assign k X us ++ assign k Y vs)) → g (assign k X us ++ assign k Y vs) ≡ j (f (assign k X us)) (h (assign k Y vs)))
      → collected (map (λ X. g (assign k X (us ++ vs))) (singles (length (us ++ vs))))
      ≡ collected (
      map (λ x. j x (h (assign k (none (length vs)) vs))) (members (collected (map (λ X. f (assign k X us)) (singles (length us)))))
      ++ map (j (f (assign k (none (length us)) us))) (members (collected (map (λ Y. h (assign k Y vs)) (singles (length vs))))))
  elem_law e =
      let F : List Bool → Value = λ X. f (assign k X us) in
      let H : List Bool → Value = λ Y. h (assign k Y vs) in
      let n : List Bool = none (length us) in
      let m : List Bool = none (length vs) in
      collected-same _ _ (λ p.
      list_any-map p (λ X. g (assign k X (us ++ vs))) (singles (length (us ++ vs)))
      ∙ singles-append k (λ z. p (g z)) us vs
      ∙ (λ i.
      list_any-within AtMostOne (λ X. p (g (assign k X us ++ assign k m vs))) (λ X. p (j (F X) (H m)))
      (λ X one. ap p (e X m (AtMostOne-both k X m us vs one (AtMostOne-none (length vs)) (inr (any-none (length vs))))))
      (singles (length us)) (Each-singles (length us)) i
      || list_any-within AtMostOne (λ Y. p (g (assign k n us ++ assign k Y vs))) (λ Y. p (j (F n) (H Y)))
      (λ Y one. ap p (e n Y (AtMostOne-both k n Y us vs (AtMostOne-none (length us)) one (inl (any-none (length us))))))
      (singles (length vs)) (Each-singles (length vs)) i)
      ∙ sym (
      list_any-append p (map (λ x. j x (H m)) (members (collected (map F (singles (length us)))))) (map (j (F n)) (members (collected (map H (singles (length vs))))))
      ∙ (λ i.
      (list_any-map p (λ x. j x (H m)) (members (collected (map F (singles (length us)))))
      ∙ list_any-collected (λ x. p (j x (H m))) (map F (singles (length us)))
      ∙ list_any-map (λ x. p (j x (H m))) F (singles (length us))) i
      || (list_any-map p (j (F n)) (members (collected (map H (singles (length vs)))))
      ∙ list_any-collected (λ y. p (j (F n) y)) (map H (singles (length vs)))
      ∙ list_any-map (λ y. p (j (F n) y)) H (singles (length vs))) i)))

-- ---- atoms

member_case : (ax bx aa ba : Bool) → (ax ≡ true → bx ≡ false) → (ax ≡ false → aa ≡ false) → (bx ≡ false → ba ≡ false)
    → (if ax || bx then member (aa || ba) else unseen) ≡ member_join (if ax then member aa else unseen) (if bx then member ba else unseen)
member_case true bx true ba h k l = refl
member_case true bx false ba h k l = ap member (l (h refl))
member_case false bx aa ba h k l = ap (λ a. if bx then member (a || ba) else unseen) (k refl)

same_case : (ax bx ay by ac bc : Bool) → (ax ≡ true → bx ≡ false) → (ay ≡ true → by ≡ false) → (bx ≡ false → bc ≡ false) → (by ≡ false → bc ≡ false) → (ax ≡ false → ac ≡ false) → (ay ≡ false → ac ≡ false)
    → same_elem (ax || bx) (ay || by) (ac || bc) ≡ same_elem_join (same_elem ax ay ac) (same_elem bx by bc)
same_case false bx false by ac bc h k l m n o = ap (λ a. same_elem bx by (a || bc)) (n refl)
same_case true bx true by true bc h k l m n o = refl
same_case true bx true by false bc h k l m n o = ap (λ b. same_elem true true b) (l (h refl))
same_case true true ay by ac bc h k l m n o = let e : true ≡ false = h refl in cc
same_case ax bx true true ac bc h k l m n o = let e : true ≡ false = k refl in cc
same_case true false false true ac bc h k l m n o = (λ i. same_elem true true (o refl i || l refl i))
same_case true false false false ac bc h k l m n o = refl
same_case false true true false ac bc h k l m n o = (λ i. same_elem true true (n refl i || m refl i))
same_case false false true false ac bc h k l m n o = refl

holding_case : (a b : Bool) → holding (a && b) ≡ holding_join (holding a) (holding b)
holding_case true true = refl
holding_case true false = refl
holding_case false b = refl

-- no element of a list that has no x is both
pub no_both : (x y : ℕ) (ms : List Marks) → list_any (λ m. m x) ms ≡ false → list_any (λ m. m x && m y) ms ≡ false
no_both x y [] h = refl
no_both x y (m ∷ ms) h = by (m x) (no_both x y ms) h
  where
    by : (b : Bool) → (list_any (λ n. n x) ms ≡ false → list_any (λ n. n x && n y) ms ≡ false) → (b || list_any (λ n. n x) ms) ≡ false → ((b && m y) || list_any (λ n. n x && n y) ms) ≡ false
    by true ih e = let c : true ≡ false = e in cc
    by false ih e = ih e

pub no_both' : (x y : ℕ) (ms : List Marks) → list_any (λ m. m y) ms ≡ false → list_any (λ m. m x && m y) ms ≡ false
no_both' x y [] h = refl
no_both' x y (m ∷ ms) h = by (m x) (m y) (no_both' x y ms) h
  where
    by : (a b : Bool) → (list_any (λ n. n y) ms ≡ false → list_any (λ n. n x && n y) ms ≡ false) → (b || list_any (λ n. n y) ms) ≡ false → ((a && b) || list_any (λ n. n x && n y) ms) ≡ false
    by a true ih e = let c : true ≡ false = e in cc
    by true false ih e = ih e
    by false false ih e = ih e

apart : (k : ℕ) (us vs : List Marks) → AtMostOne (column k (us ++ vs)) → list_any (λ m. m k) us ≡ true → list_any (λ m. m k) vs ≡ false
apart k us vs h e = sym (any-column k vs) ∙ AtMostOne-apart (column k us) (column k vs) (subst AtMostOne (column-append k us vs) h) (any-column k us ∙ e)

-- ---- the join law

module _ (f : Field) where
  pub join_law : (F : Formula) (e : ℕ → Bool) (op : Op) (l r : Tree) (us vs : List Marks) → WellSorted e F → Singles e (us ++ vs) → length us ≡ size l → length vs ≡ size r → IsValid f (Join op l r)
      → type_of f F (Join op l r) (us ++ vs) ≡ join_type f F op (type_of f F l us) (type_of f F r vs)
  join_law (Const b) e op l r us vs w s m n ok = refl
  join_law (Ind t) e op l r us vs w s m n ok =
      ap (ind_type f (Join op l r)) (map-append (in_term t) us vs)
      ∙ ind_at_join f op l r (map (in_term t) us) (map (in_term t) vs) ok (length-map us (in_term t) ∙ m) (length-map vs (in_term t) ∙ n)
  join_law (Member x a) e op l r us vs w s m n ok =
      (λ i. if list_any-append (λ (z : Marks). z x) us vs i then member (list_any-append (λ (z : Marks). z x && z a) us vs i) else unseen)
      ∙ member_case (list_any (λ z. z x) us) (list_any (λ z. z x) vs) (list_any (λ z. z x && z a) us) (list_any (λ z. z x && z a) vs)
      (apart x us vs (s x w)) (no_both x a us) (no_both x a vs)
  join_law (SameElem x y) e op l r us vs w s m n ok =
      (λ i. same_elem (list_any-append (λ (z : Marks). z x) us vs i) (list_any-append (λ (z : Marks). z y) us vs i) (list_any-append (λ (z : Marks). z x && z y) us vs i))
      ∙ same_case (list_any (λ z. z x) us) (list_any (λ z. z x) vs) (list_any (λ z. z y) us) (list_any (λ z. z y) vs) (list_any (λ z. z x && z y) us) (list_any (λ z. z x && z y) vs)
      (apart x us vs (s x w.0)) (apart y us vs (s y w.1)) (no_both x y vs) (no_both' x y vs) (no_both x y us) (no_both' x y us)
  join_law (Sub a b) e op l r us vs w s m n ok = ap holding (list_all-append (λ (z : Marks). implies (z a) (z b)) us vs) ∙ holding_case _ _
  join_law (SameSet a b) e op l r us vs w s m n ok = ap holding (list_all-append (λ (z : Marks). iff (z a) (z b)) us vs) ∙ holding_case _ _
  join_law (Not F) e op l r us vs w s m n ok = join_law F e op l r us vs w s m n ok
  join_law (Bin o F G) e op l r us vs w s m n ok = λ i. Pair (join_law F e op l r us vs w.0 s m n ok i) (join_law G e op l r us vs w.1 s m n ok i)
  join_law (ExSet k F) e op l r us vs w s m n ok =
      set_law k us vs (join_type f F op) (type_of f F (Join op l r)) (type_of f F l) (type_of f F r)
      (λ X Y. join_law F (mark k false e) op l r (assign k X us) (assign k Y vs) w (Singles-set e k X Y us vs s) (length-assign k X us ∙ m) (length-assign k Y vs ∙ n) ok)
  join_law (AllSet k F) e op l r us vs w s m n ok =
      set_law k us vs (join_type f F op) (type_of f F (Join op l r)) (type_of f F l) (type_of f F r)
      (λ X Y. join_law F (mark k false e) op l r (assign k X us) (assign k Y vs) w (Singles-set e k X Y us vs s) (length-assign k X us ∙ m) (length-assign k Y vs ∙ n) ok)
  join_law (ExElem k F) e op l r us vs w s m n ok =
      let below = λ (X Y : List Bool) (one : AtMostOne (column k (assign k X us ++ assign k Y vs))).
      join_law F (mark k true e) op l r (assign k X us) (assign k Y vs) w (Singles-elem e k X Y us vs s one) (length-assign k X us ∙ m) (length-assign k Y vs ∙ n) ok in
      λ i. Pair
      ((ap (type_of f F (Join op l r)) (assign_none-append k us vs)
      ∙ below (none (length us)) (none (length vs)) (AtMostOne-both k (none (length us)) (none (length vs)) us vs (AtMostOne-none (length us)) (AtMostOne-none (length vs)) (inl (any-none (length us))))) i)
      (elem_law k us vs (join_type f F op) (type_of f F (Join op l r)) (type_of f F l) (type_of f F r) below i)
  join_law (AllElem k F) e op l r us vs w s m n ok =
      let below = λ (X Y : List Bool) (one : AtMostOne (column k (assign k X us ++ assign k Y vs))).
      join_law F (mark k true e) op l r (assign k X us) (assign k Y vs) w (Singles-elem e k X Y us vs s one) (length-assign k X us ∙ m) (length-assign k Y vs ∙ n) ok in
      λ i. Pair
      ((ap (type_of f F (Join op l r)) (assign_none-append k us vs)
      ∙ below (none (length us)) (none (length vs)) (AtMostOne-both k (none (length us)) (none (length vs)) us vs (AtMostOne-none (length us)) (AtMostOne-none (length vs)) (inl (any-none (length us))))) i)
      (elem_law k us vs (join_type f F op) (type_of f F (Join op l r)) (type_of f F l) (type_of f F r) below i)

  -- ---- the leaf rule

  at_one : (x : Bool) (a : Bool) → (if x || false then member ((x && a) || false) else unseen) ≡ (if x then member a else unseen)
  at_one true a = ap member (or-false a)
  at_one false a = refl

  same_at_one : (x y : Bool) → same_elem (x || false) (y || false) ((x && y) || false) ≡ same_elem x y true
  same_at_one true true = refl
  same_at_one true false = refl
  same_at_one false true = refl
  same_at_one false false = refl

  holding_at_one : (b : Bool) → holding (b && true) ≡ holding b
  holding_at_one true = refl
  holding_at_one false = refl

  pub elem_law_of : (F : Formula) (vec : List ℕ) (m : Marks) → IsValid f (Elem vec) → type_of f F (Elem vec) (m ∷ []) ≡ elem_type f F vec m
  elem_law_of (Const b) vec m ok = refl
  elem_law_of (Ind t) vec m ok = ind_at_elem f vec (in_term t m) ok
  elem_law_of (Member x a) vec m ok = at_one (m x) (m a)
  elem_law_of (SameElem x y) vec m ok = same_at_one (m x) (m y)
  elem_law_of (Sub a b) vec m ok = holding_at_one _
  elem_law_of (SameSet a b) vec m ok = holding_at_one _
  elem_law_of (Not F) vec m ok = elem_law_of F vec m ok
  elem_law_of (Bin o F G) vec m ok = λ i. Pair (elem_law_of F vec m ok i) (elem_law_of G vec m ok i)
  elem_law_of (ExSet k F) vec m ok = λ i. collected (elem_law_of F vec (mark k false m) ok i ∷ elem_law_of F vec (mark k true m) ok i ∷ [])
  elem_law_of (AllSet k F) vec m ok = λ i. collected (elem_law_of F vec (mark k false m) ok i ∷ elem_law_of F vec (mark k true m) ok i ∷ [])
  elem_law_of (ExElem k F) vec m ok = λ i. Pair (elem_law_of F vec (mark k false m) ok i) (collected (elem_law_of F vec (mark k true m) ok i ∷ []))
  elem_law_of (AllElem k F) vec m ok = λ i. Pair (elem_law_of F vec (mark k false m) ok i) (collected (elem_law_of F vec (mark k true m) ok i ∷ []))

  pub void_law_of : (F : Formula) (t : ℕ) → type_of f F (Void t) [] ≡ void_type f F t
  void_law_of (Const b) t = refl
  void_law_of (Ind _) t = ind_at_void f t
  void_law_of (Member x a) t = refl
  void_law_of (SameElem x y) t = refl
  void_law_of (Sub a b) t = refl
  void_law_of (SameSet a b) t = refl
  void_law_of (Not F) t = void_law_of F t
  void_law_of (Bin o F G) t = λ i. Pair (void_law_of F t i) (void_law_of G t i)
  void_law_of (ExSet k F) t = λ i. collected (void_law_of F t i ∷ [])
  void_law_of (AllSet k F) t = λ i. collected (void_law_of F t i ∷ [])
  void_law_of (ExElem k F) t = λ i. Pair (void_law_of F t i) (collected [])
  void_law_of (AllElem k F) t = λ i. Pair (void_law_of F t i) (collected [])

  -- ---- types made by joins

  Singles-left : (e : ℕ → Bool) (us vs : List Marks) → Singles e (us ++ vs) → Singles e us
  Singles-left e us vs h k is = AtMostOne-left (column k us) (column k vs) (subst AtMostOne (column-append k us vs) (h k is))

  Singles-right : (e : ℕ → Bool) (us vs : List Marks) → Singles e (us ++ vs) → Singles e vs
  Singles-right e us vs h k is = AtMostOne-right (column k us) (column k vs) (subst AtMostOne (column-append k us vs) (h k is))

  pub joined-is_type : (T : Tree) → IsValid f T → (F : Formula) (e : ℕ → Bool) (ms : List Marks) → WellSorted e F → Singles e ms → length ms ≡ size T → type_of f F T ms ≡ joined f F (lettered T ms)
  joined-is_type (Elem vec) ok F e [] w s n = let c : zero ≡ suc zero = n in cc
  joined-is_type (Elem vec) ok F e (m ∷ []) w s n = elem_law_of F vec m ok
  joined-is_type (Elem vec) ok F e (m ∷ (m' ∷ ms)) w s n = absurd (omega arith)
  joined-is_type (Void t) ok F e [] w s n = void_law_of F t
  joined-is_type (Void t) ok F e (m ∷ ms) w s n = absurd (omega arith)
  joined-is_type (Join op l r) ok F e ms w s n =
      let us : List Marks = take (size l) ms in
      let vs : List Marks = drop (size l) ms in
      let parts : us ++ vs ≡ ms = take-append-drop (size l) ms in
      let all : Singles e (us ++ vs) = subst (Singles e) (sym parts) s in
      let m : length us ≡ size l = length-take-le (size l) ms (omega (arith, n)) in
      let k : length vs ≡ size r = length-drop (size l) ms ∙ omega (arith, n) in
      ap (type_of f F (Join op l r)) (sym parts)
      ∙ join_law F e op l r us vs w all m k ok
      ∙ (λ i. join_type f F op (joined-is_type l ok.3 F e us w (Singles-left e us vs all) m i) (joined-is_type r ok.4 F e vs w (Singles-right e us vs all) k i))
