-- The rules keep the values that a formula may have at a boundary, and types are such values.
use Rattle.std.proofs.Common.{◌≡◌, ℕ, suc, zero, Bool, true, false, ◌&&◌, if◌then◌else◌, List, [], ◌∷◌, length, map, All, refl, sym, ap, subst, arith}
use Rattle.std.proofs.lemmas.List.Elements.{All-nil, All-cons, All-head, All-tail, All-append, All-map}
use Rattle.mm_field.specs.declared.Field.{Field}
use Rattle.std.specs.List.{list_any}
use Rattle.mm_linear.specs.ReducedEchelon.{IsReducedBasis}
use Rattle.mm_linear.specs.Subspaces.{head_of_span, preimage}
use Rattle.mm_linear.proofs.SubspaceTests.{subspace_is_reduced}
use Rattle.mm_logic.specs.Formula.{Formula}
use Rattle.mm_logic.specs.Formula.Formula.{Const, Ind, Member, SameElem, Sub, SameSet, Not, Bin, ExSet, AllSet, ExElem, AllElem}
use Rattle.mm_logic.specs.Value.{Value, members, first, second, set_of, collected, value_cmp}
use Rattle.mm_logic.specs.Value.Value.{Flag, Dead, Span, Pair}
use Rattle.mm_logic.specs.Order as order
use Rattle.mm_logic.specs.Order.{Rising}
use Rattle.mm_logic.specs.PossibleValues.{IsFlagBelow, IsSpaceOf, IsPairOf, IsSetOf, IsValueOf}
use Rattle.mm_logic.specs.AtomValues.{unseen, member, same_elem, holding, member_join, same_elem_join, holding_join}
use Rattle.mm_logic.specs.BoundarySpaces.{ind_type, ind_elem, ind_join, span_of}
use Rattle.mm_logic.specs.LeafRule.{elem_type, void_type}
use Rattle.mm_logic.specs.JoinRule.{join_type, all_pairs, set_join, elem_joins, elem_join}
use Rattle.mm_logic.specs.Marks.{Marks, mark, assign, none, sets, singles, in_term}
use Rattle.mm_logic.specs.Operator.{Op}
use Rattle.mm_logic.specs.Meaning.{union}
use Rattle.mm_logic.specs.Tree.{Tree, boundary}
use Rattle.mm_logic.specs.Types.{type_of}
use Rattle.mm_logic.proofs.SetLemmas.{Rising-normal, All-normal}
use Rattle.mm_logic.proofs.ValueLemmas.{value_total, value_exact, members-set_of}
use Rattle.mm_logic_laws.specs.ValueLaws.{RulesKeepValues, TypesAreValues}

-- ---- flags

member_flag : (c b : Bool) → IsFlagBelow 3 (if c then member b else unseen)
member_flag true true = omega arith
member_flag true false = omega arith
member_flag false b = omega arith

same_elem_flag : (a b c : Bool) → IsFlagBelow 5 (same_elem a b c)
same_elem_flag false false c = omega arith
same_elem_flag true false c = omega arith
same_elem_flag false true c = omega arith
same_elem_flag true true true = omega arith
same_elem_flag true true false = omega arith

holding_flag : (b : Bool) → IsFlagBelow 2 (holding b)
holding_flag true = omega arith
holding_flag false = omega arith

member_join_flag : (k : ℕ) (v w : Value) → IsFlagBelow k v → IsFlagBelow k w → IsFlagBelow k (member_join v w)
member_join_flag k (Flag zero) w h g = g
member_join_flag k (Flag (suc n)) w h g = h
member_join_flag k v w h g = absurd h

holding_join_flag : (k : ℕ) (v w : Value) → IsFlagBelow k v → IsFlagBelow k w → IsFlagBelow k (holding_join v w)
holding_join_flag k (Flag zero) w h g = g
holding_join_flag k (Flag (suc n)) w h g = h
holding_join_flag k v w h g = absurd h

same_elem_join_flag : (v w : Value) → IsFlagBelow 5 v → IsFlagBelow 5 w → IsFlagBelow 5 (same_elem_join v w)
same_elem_join_flag (Flag zero) w h g = g
same_elem_join_flag (Flag (suc zero)) (Flag (suc (suc zero))) h g = omega arith
same_elem_join_flag (Flag (suc (suc zero))) (Flag (suc zero)) h g = omega arith
same_elem_join_flag (Flag n) w h g = h
same_elem_join_flag v w h g = absurd h

-- ---- spaces

space_if : (f : Field) (b : Bool) (t : ℕ) (rows : List (List ℕ)) → IsReducedBasis f t rows → IsSpaceOf f t (if b then Span t rows else Dead)
space_if f true t rows h = (refl, h)
space_if f false t rows h = tt

space_unless : (f : Field) (b : Bool) (t : ℕ) (rows : List (List ℕ)) → IsReducedBasis f t rows → IsSpaceOf f t (if b then Dead else Span t rows)
space_unless f true t rows h = tt
space_unless f false t rows h = (refl, h)

ind_elem_space : (f : Field) (vec : List ℕ) (b : Bool) → IsSpaceOf f (length vec) (ind_elem f vec b)
ind_elem_space f vec true = space_unless f _ (length vec) (span_of f (length vec) (vec ∷ [])) (subspace_is_reduced f (length vec) _)
ind_elem_space f vec false = (refl, subspace_is_reduced f (length vec) _)

ind_join_space : (f : Field) (op : Op) (v w : Value) → IsSpaceOf f op.t3 (ind_join f op v w)
unfolding preimage
ind_join_space f op (Span t rows) (Span u sows) = space_if f _ op.t3 _ (subspace_is_reduced f op.t3 _)
ind_join_space f op v w = tt

ind_type_space : (f : Field) (T : Tree) (X : List Bool) → IsSpaceOf f (boundary T) (ind_type f T X)
unfolding head_of_span
ind_type_space f T X = space_if f _ (boundary T) _ (subspace_is_reduced f (boundary T) _)

-- ---- pairs and sets

pair_first : (P Q : Value → Type 0) (v : Value) → IsPairOf P Q v → P (first v)
pair_first P Q (Pair v w) h = h.0
pair_first P Q v h = absurd h

pair_second : (P Q : Value → Type 0) (v : Value) → IsPairOf P Q v → Q (second v)
pair_second P Q (Pair v w) h = h.1
pair_second P Q v h = absurd h

pub collected_set : (P : Value → Type 0) (vs : List Value) → All P vs → IsSetOf P (collected vs)
collected_set P vs h =
    let e : members (collected vs) ≡ order.normal value_cmp vs = members-set_of (order.normal value_cmp vs) in
    record {
      is_set = ap set_of (sym e);
      rising = subst (λ ws. Rising value_cmp ws) (sym e) (Rising-normal value_total value_exact vs);
      each = subst (λ ws. All P ws) (sym e) (All-normal value_cmp P vs h);
    }

all_pairs_all : (P Q R : Value → Type 0) (j : Value → Value → Value) → ((v w : Value) → P v → Q w → R (j v w))
    → (vs ws : List Value) → All P vs → All Q ws → All R (all_pairs j vs ws)
all_pairs_all P Q R j e [] ws h g = All-nil R
all_pairs_all P Q R j e (v ∷ vs) ws h g =
    All-append R (map (j v) ws) (all_pairs j vs ws)
    (All-map R (j v) ws (λ k d l. e v _ (All-head P v vs h) (g k d l)))
    (all_pairs_all P Q R j e vs ws (All-tail P v vs h) g)

one : (P : Value → Type 0) (v : Value) → P v → IsSetOf P (collected (v ∷ []))
one P v h = collected_set P (v ∷ []) (All-cons P v [] h (All-nil P))

both : (P : Value → Type 0) (v w : Value) → P v → P w → IsSetOf P (collected (v ∷ w ∷ []))
both P v w h g = collected_set P (v ∷ w ∷ []) (All-cons P v (w ∷ []) h (All-cons P w [] g (All-nil P)))

set_value : (P Q R : Value → Type 0) (j : Value → Value → Value) → ((v w : Value) → P v → Q w → R (j v w))
    → (v w : Value) → IsSetOf P v → IsSetOf Q w → IsSetOf R (set_join j v w)
set_value P Q R j e v w h g = collected_set R _ (all_pairs_all P Q R j e (members v) (members w) h.each g.each)

elem_join_value : (P Q R : Value → Type 0) (j : Value → Value → Value) → ((v w : Value) → P v → Q w → R (j v w))
    → (v w : Value) → IsPairOf P (IsSetOf P) v → IsPairOf Q (IsSetOf Q) w → IsPairOf R (IsSetOf R) (elem_join j v w)
elem_join_value P Q R j e v w h g =
    let hv = pair_first P (IsSetOf P) v h in
    let hw = pair_first Q (IsSetOf Q) w g in
    let sv = pair_second P (IsSetOf P) v h in
    let sw = pair_second Q (IsSetOf Q) w g in (
      e (first v) (first w) hv hw,
      collected_set R (elem_joins j v w)
          (All-append R (map (λ x. j x (first w)) (members (second v))) (map (j (first v)) (members (second w)))
          (All-map R (λ x. j x (first w)) (members (second v)) (λ k d l. e _ (first w) (sv.each k d l) hw))
          (All-map R (j (first v)) (members (second w)) (λ k d l. e (first v) _ hv (sw.each k d l)))),
    )

set_of_types : (P : Value → Type 0) (type : List Bool → Value) → ((X : List Bool) → P (type X)) → (Xs : List (List Bool)) → IsSetOf P (collected (map type Xs))
set_of_types P type h Xs = collected_set P (map type Xs) (All-map P type Xs (λ k d l. h _))

module _ (f : Field) where
  pub elem_value : (F : Formula) (vec : List ℕ) (m : Marks) → IsValueOf f (length vec) F (elem_type f F vec m)
  elem_value (Const b) vec m = omega arith
  elem_value (Ind t) vec m = ind_elem_space f vec (in_term t m)
  elem_value (Member x a) vec m = member_flag (m x) (m a)
  elem_value (SameElem x y) vec m = same_elem_flag (m x) (m y) true
  elem_value (Sub a b) vec m = holding_flag _
  elem_value (SameSet a b) vec m = holding_flag _
  elem_value (Not F) vec m = elem_value F vec m
  elem_value (Bin o F G) vec m = (elem_value F vec m, elem_value G vec m)
  elem_value (ExSet k F) vec m = both (IsValueOf f (length vec) F) _ _ (elem_value F vec (mark k false m)) (elem_value F vec (mark k true m))
  elem_value (AllSet k F) vec m = both (IsValueOf f (length vec) F) _ _ (elem_value F vec (mark k false m)) (elem_value F vec (mark k true m))
  elem_value (ExElem k F) vec m = (elem_value F vec (mark k false m), one (IsValueOf f (length vec) F) _ (elem_value F vec (mark k true m)))
  elem_value (AllElem k F) vec m = (elem_value F vec (mark k false m), one (IsValueOf f (length vec) F) _ (elem_value F vec (mark k true m)))

  pub void_value : (F : Formula) (t : ℕ) → IsValueOf f t F (void_type f F t)
  void_value (Const b) t = omega arith
  void_value (Ind u) t = (refl, subspace_is_reduced f t _)
  void_value (Member x a) t = omega arith
  void_value (SameElem x y) t = omega arith
  void_value (Sub a b) t = omega arith
  void_value (SameSet a b) t = omega arith
  void_value (Not F) t = void_value F t
  void_value (Bin o F G) t = (void_value F t, void_value G t)
  void_value (ExSet k F) t = one (IsValueOf f t F) _ (void_value F t)
  void_value (AllSet k F) t = one (IsValueOf f t F) _ (void_value F t)
  void_value (ExElem k F) t = (void_value F t, collected_set (IsValueOf f t F) [] (All-nil (IsValueOf f t F)))
  void_value (AllElem k F) t = (void_value F t, collected_set (IsValueOf f t F) [] (All-nil (IsValueOf f t F)))

  pub join_value : (F : Formula) (op : Op) (t u : ℕ) (v w : Value) → IsValueOf f t F v → IsValueOf f u F w → IsValueOf f op.t3 F (join_type f F op v w)
  join_value (Const b) op t u v w h g = omega arith
  join_value (Ind x) op t u v w h g = ind_join_space f op v w
  join_value (Member x a) op t u v w h g = member_join_flag 3 v w h g
  join_value (SameElem x y) op t u v w h g = same_elem_join_flag v w h g
  join_value (Sub a b) op t u v w h g = holding_join_flag 2 v w h g
  join_value (SameSet a b) op t u v w h g = holding_join_flag 2 v w h g
  join_value (Not F) op t u v w h g = join_value F op t u v w h g
  join_value (Bin o F G) op t u v w h g =
      let P = IsValueOf f t F in
      let Q = IsValueOf f t G in
      let R = IsValueOf f u F in
      let S = IsValueOf f u G in (
        join_value F op t u (first v) (first w) (pair_first P Q v h) (pair_first R S w g),
        join_value G op t u (second v) (second w) (pair_second P Q v h) (pair_second R S w g),
      )
  join_value (ExSet k F) op t u v w h g =
      set_value (IsValueOf f t F) (IsValueOf f u F) (IsValueOf f op.t3 F) (join_type f F op) (join_value F op t u) v w h g
  join_value (AllSet k F) op t u v w h g =
      set_value (IsValueOf f t F) (IsValueOf f u F) (IsValueOf f op.t3 F) (join_type f F op) (join_value F op t u) v w h g
  join_value (ExElem k F) op t u v w h g =
      elem_join_value (IsValueOf f t F) (IsValueOf f u F) (IsValueOf f op.t3 F) (join_type f F op) (join_value F op t u) v w h g
  join_value (AllElem k F) op t u v w h g =
      elem_join_value (IsValueOf f t F) (IsValueOf f u F) (IsValueOf f op.t3 F) (join_type f F op) (join_value F op t u) v w h g

  pub type_value : (F : Formula) (T : Tree) (ms : List Marks) → IsValueOf f (boundary T) F (type_of f F T ms)
  type_value (Const b) T ms = omega arith
  type_value (Ind t) T ms = ind_type_space f T (union t ms)
  type_value (Member x a) T ms = member_flag (list_any (λ m. m x) ms) (list_any (λ m. m x && m a) ms)
  type_value (SameElem x y) T ms = same_elem_flag _ _ _
  type_value (Sub a b) T ms = holding_flag _
  type_value (SameSet a b) T ms = holding_flag _
  type_value (Not F) T ms = type_value F T ms
  type_value (Bin o F G) T ms = (type_value F T ms, type_value G T ms)
  type_value (ExSet k F) T ms = set_of_types (IsValueOf f (boundary T) F) (λ X. type_of f F T (assign k X ms)) (λ X. type_value F T (assign k X ms)) (sets (length ms))
  type_value (AllSet k F) T ms = set_of_types (IsValueOf f (boundary T) F) (λ X. type_of f F T (assign k X ms)) (λ X. type_value F T (assign k X ms)) (sets (length ms))
  type_value (ExElem k F) T ms = (
    type_value F T (assign k (none (length ms)) ms),
    set_of_types (IsValueOf f (boundary T) F) (λ X. type_of f F T (assign k X ms)) (λ X. type_value F T (assign k X ms)) (singles (length ms)),
  )
  type_value (AllElem k F) T ms = (
    type_value F T (assign k (none (length ms)) ms),
    set_of_types (IsValueOf f (boundary T) F) (λ X. type_of f F T (assign k X ms)) (λ X. type_value F T (assign k X ms)) (singles (length ms)),
  )

pub rules_keep_values : RulesKeepValues
rules_keep_values f F =
    ((λ vec m. elem_value f F vec m), (λ t. void_value f F t), (λ op v w h g. join_value f F op op.t1 op.t2 v w h g))

pub types_are_values : TypesAreValues
types_are_values f F T ms = type_value f F T ms
