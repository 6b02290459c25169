-- What a formula has as types, and how its lists grow, does not depend on which its connectives and quantifiers are.
use Rattle.std.proofs.Common.{◌≡◌, ◌<◌, ◌+◌, ◌++◌, ◌||◌, ℕ, true, false, Option, Some, None, List, [], ◌∷◌, map, flat_map, length, get_or, sum_by, refl, sym, ap, ◌∙◌, subst, arith, Result, Ok, Err}
use Rattle.std.proofs.lemmas.List.{map-append}
use Rattle.mm_field.specs.declared.Field.{Field}
use Rattle.mm_logic.specs.Formula.{Formula, Connective}
use Rattle.mm_logic.specs.Formula.Formula.{Const, Ind, Member, SameElem, Sub, SameSet, Not, Bin, ExSet, AllSet, ExElem, AllElem}
use Rattle.mm_logic.specs.Value.{Value, members, first, second, collected}
use Rattle.mm_logic.specs.Value.Value.{Dead, Pair}
use Rattle.mm_logic.specs.Marks.{Marks, mark}
use Rattle.mm_logic.specs.Operator.{Op}
use Rattle.mm_logic.specs.LeafRule.{elem_type, void_type}
use Rattle.mm_logic.specs.JoinRule.{join_type, set_join, elem_join}
use Rattle.mm_logic.specs.PossibleValues.{IsValueOf, IsPairOf, IsSetOf}
use Rattle.mm_logic.specs.Occurrence.{nodes, occurring, own_cells, list_cells, elem_parts}
use Rattle.mm_logic.specs.Growth.{root, type_at, missing, missing_cells, tail_lists, AllGrown}
use Rattle.mm_ops.specs.OpValue.{OpValue}
use Rattle.mm_states.specs.declared.letter.AutoFault.{AutoFault}
use Rattle.mm_states.specs.declared.letter.Letter.{Letter}
use Rattle.mm_states.specs.Letters.{has_ind, leaf_type, type_at_leaf, joined_type, marks_of}
use Rattle.mm_states.specs.Calls.{Answers, IsOperand, CanRead, CanJoin, value_of_join}
use Rattle.mm_machine.specs.Plain.{plain}

plain_own : (F : Formula) (v : Value) → own_cells (plain F) v ≡ own_cells F v
plain_own (Const b) v = refl
plain_own (Ind u) v = refl
plain_own (Member x a) v = refl
plain_own (SameElem x y) v = refl
plain_own (Sub a b) v = refl
plain_own (SameSet a b) v = refl
plain_own (Not F) v = refl
plain_own (Bin o F G) v = refl
plain_own (ExSet k F) v = refl
plain_own (AllSet k F) v = refl
plain_own (ExElem k F) v = refl
plain_own (AllElem k F) v = refl

pub plain_nodes : (F : Formula) → nodes (plain F) ≡ map plain (nodes F)
plain_nodes (Const b) = refl
plain_nodes (Ind u) = refl
plain_nodes (Member x a) = refl
plain_nodes (SameElem x y) = refl
plain_nodes (Sub a b) = refl
plain_nodes (SameSet a b) = refl
plain_nodes (Not F) = ap (λ Fs. Not (plain F) ∷ Fs) (plain_nodes F)
plain_nodes (Bin o F G) = ap (λ Fs. Bin Connective.And (plain F) (plain G) ∷ Fs) ((λ i. plain_nodes F i ++ plain_nodes G i) ∙ sym (map-append plain (nodes F) (nodes G)))
plain_nodes (ExSet k F) = ap (λ Fs. ExSet k (plain F) ∷ Fs) (plain_nodes F)
plain_nodes (AllSet k F) = ap (λ Fs. ExSet k (plain F) ∷ Fs) (plain_nodes F)
plain_nodes (ExElem k F) = ap (λ Fs. ExElem k (plain F) ∷ Fs) (plain_nodes F)
plain_nodes (AllElem k F) = ap (λ Fs. ExElem k (plain F) ∷ Fs) (plain_nodes F)

plain_list : (Fs : List Formula) (ls : List (List Value)) → list_cells (map plain Fs) ls ≡ list_cells Fs ls
plain_list [] ls = refl
plain_list (F ∷ Fs) [] = refl
plain_list (F ∷ Fs) (l ∷ ls) = λ i. sum_by (λ v. plain_own F v i) l + plain_list Fs ls i

pub plain_cells : (F : Formula) (ls : List (List Value)) → list_cells (nodes (plain F)) ls ≡ list_cells (nodes F) ls
plain_cells F ls = ap (λ Fs. list_cells Fs ls) (plain_nodes F) ∙ plain_list (nodes F) ls

pub plain_root : (F : Formula) (ls : List (List Value)) → root (plain F) ls ≡ root F ls
plain_root (Const b) ls = refl
plain_root (Ind u) ls = refl
plain_root (Member x a) ls = refl
plain_root (SameElem x y) ls = refl
plain_root (Sub a b) ls = refl
plain_root (SameSet a b) ls = refl
plain_root (Not F) ls = plain_root F (tail_lists ls)
plain_root (Bin o F G) ls = refl
plain_root (ExSet k F) ls = refl
plain_root (AllSet k F) ls = refl
plain_root (ExElem k F) ls = refl
plain_root (AllElem k F) ls = refl

pub plain_type : (F : Formula) (ls : List (List Value)) (id : ℕ) → type_at (plain F) ls id ≡ type_at F ls id
plain_type F ls id = ap (λ l. get_or l id Dead) (plain_root F ls)

pub plain_occurring : (F : Formula) (vs : List Value) → occurring (plain F) vs ≡ occurring F vs
plain_occurring (Const b) vs = refl
plain_occurring (Ind u) vs = refl
plain_occurring (Member x a) vs = refl
plain_occurring (SameElem x y) vs = refl
plain_occurring (Sub a b) vs = refl
plain_occurring (SameSet a b) vs = refl
plain_occurring (Not F) vs = ap (λ ls. [] ∷ ls) (plain_occurring F vs)
plain_occurring (Bin o F G) vs = λ i. vs ∷ (plain_occurring F (map first vs) i ++ plain_occurring G (map second vs) i)
plain_occurring (ExSet k F) vs = ap (λ ls. vs ∷ ls) (plain_occurring F (flat_map members vs))
plain_occurring (AllSet k F) vs = ap (λ ls. vs ∷ ls) (plain_occurring F (flat_map members vs))
plain_occurring (ExElem k F) vs = ap (λ ls. vs ∷ ls) (plain_occurring F (flat_map elem_parts vs))
plain_occurring (AllElem k F) vs = ap (λ ls. vs ∷ ls) (plain_occurring F (flat_map elem_parts vs))

pub plain_missing : (F : Formula) (ls : List (List Value)) (vs : List Value) → missing_cells (plain F) ls vs ≡ missing_cells F ls vs
plain_missing F ls vs = plain_cells F (missing ls (occurring (plain F) vs)) ∙ ap (λ os. list_cells (nodes F) (missing ls os)) (plain_occurring F vs)

-- ---- the rules

plain_elem : (f : Field) (F : Formula) (vec : List ℕ) (m : Marks) → elem_type f (plain F) vec m ≡ elem_type f F vec m
plain_elem f (Const b) vec m = refl
plain_elem f (Ind u) vec m = refl
plain_elem f (Member x a) vec m = refl
plain_elem f (SameElem x y) vec m = refl
plain_elem f (Sub a b) vec m = refl
plain_elem f (SameSet a b) vec m = refl
plain_elem f (Not F) vec m = plain_elem f F vec m
plain_elem f (Bin o F G) vec m = λ i. Pair (plain_elem f F vec m i) (plain_elem f G vec m i)
plain_elem f (ExSet k F) vec m = λ i. collected (plain_elem f F vec (mark k false m) i ∷ plain_elem f F vec (mark k true m) i ∷ [])
plain_elem f (AllSet k F) vec m = λ i. collected (plain_elem f F vec (mark k false m) i ∷ plain_elem f F vec (mark k true m) i ∷ [])
plain_elem f (ExElem k F) vec m = λ i. Pair (plain_elem f F vec (mark k false m) i) (collected (plain_elem f F vec (mark k true m) i ∷ []))
plain_elem f (AllElem k F) vec m = λ i. Pair (plain_elem f F vec (mark k false m) i) (collected (plain_elem f F vec (mark k true m) i ∷ []))

plain_void : (f : Field) (F : Formula) (t : ℕ) → void_type f (plain F) t ≡ void_type f F t
plain_void f (Const b) t = refl
plain_void f (Ind u) t = refl
plain_void f (Member x a) t = refl
plain_void f (SameElem x y) t = refl
plain_void f (Sub a b) t = refl
plain_void f (SameSet a b) t = refl
plain_void f (Not F) t = plain_void f F t
plain_void f (Bin o F G) t = λ i. Pair (plain_void f F t i) (plain_void f G t i)
plain_void f (ExSet k F) t = λ i. collected (plain_void f F t i ∷ [])
plain_void f (AllSet k F) t = λ i. collected (plain_void f F t i ∷ [])
plain_void f (ExElem k F) t = λ i. Pair (plain_void f F t i) (collected [])
plain_void f (AllElem k F) t = λ i. Pair (plain_void f F t i) (collected [])

pub plain_leaf : (F : Formula) (letter : Letter) → leaf_type (plain F) letter ≡ leaf_type F letter
plain_leaf F letter = by letter.vec
  where
    by : (vec : Option (List ℕ)) → type_at_leaf letter.field (plain F) letter.t (marks_of letter.marks) vec ≡ type_at_leaf letter.field F letter.t (marks_of letter.marks) vec
    by (Some vec) = plain_elem letter.field F vec (marks_of letter.marks)
    by None = plain_void letter.field F letter.t

plain_join : (f : Field) (F : Formula) (op : Op) (v w : Value) → join_type f (plain F) op v w ≡ join_type f F op v w
plain_join f (Const b) op v w = refl
plain_join f (Ind u) op v w = refl
plain_join f (Member x a) op v w = refl
plain_join f (SameElem x y) op v w = refl
plain_join f (Sub a b) op v w = refl
plain_join f (SameSet a b) op v w = refl
plain_join f (Not F) op v w = plain_join f F op v w
plain_join f (Bin o F G) op v w = λ i. Pair (plain_join f F op (first v) (first w) i) (plain_join f G op (second v) (second w) i)
plain_join f (ExSet k F) op v w = λ i. set_join (λ x y. plain_join f F op x y i) v w
plain_join f (AllSet k F) op v w = λ i. set_join (λ x y. plain_join f F op x y i) v w
plain_join f (ExElem k F) op v w = λ i. elem_join (λ x y. plain_join f F op x y i) v w
plain_join f (AllElem k F) op v w = λ i. elem_join (λ x y. plain_join f F op x y i) v w

pub plain_joined : (F : Formula) (lists : List (List Value)) (op : OpValue) (left right : ℕ) → value_of_join (plain F) lists op left right ≡ value_of_join F lists op left right
plain_joined F lists op left right = (λ i. joined_type (plain F) op (plain_type F lists left i) (plain_type F lists right i)) ∙ plain_join op.f F op.op (type_at F lists left) (type_at F lists right)

plain_value : (f : Field) (t : ℕ) (F : Formula) (v : Value) → IsValueOf f t (plain F) v ≡ IsValueOf f t F v
plain_value f t (Const b) v = refl
plain_value f t (Ind u) v = refl
plain_value f t (Member x a) v = refl
plain_value f t (SameElem x y) v = refl
plain_value f t (Sub a b) v = refl
plain_value f t (SameSet a b) v = refl
plain_value f t (Not F) v = plain_value f t F v
plain_value f t (Bin o F G) v = λ i. IsPairOf (λ x. plain_value f t F x i) (λ x. plain_value f t G x i) v
plain_value f t (ExSet k F) v = λ i. IsSetOf (λ x. plain_value f t F x i) v
plain_value f t (AllSet k F) v = λ i. IsSetOf (λ x. plain_value f t F x i) v
plain_value f t (ExElem k F) v = λ i. IsPairOf (λ x. plain_value f t F x i) (IsSetOf (λ x. plain_value f t F x i)) v
plain_value f t (AllElem k F) v = λ i. IsPairOf (λ x. plain_value f t F x i) (IsSetOf (λ x. plain_value f t F x i)) v

pub plain_ind : (F : Formula) → has_ind (plain F) ≡ has_ind F
plain_ind (Const b) = refl
plain_ind (Ind u) = refl
plain_ind (Member x a) = refl
plain_ind (SameElem x y) = refl
plain_ind (Sub a b) = refl
plain_ind (SameSet a b) = refl
plain_ind (Not F) = plain_ind F
plain_ind (Bin o F G) = λ i. plain_ind F i || plain_ind G i
plain_ind (ExSet k F) = plain_ind F
plain_ind (AllSet k F) = plain_ind F
plain_ind (ExElem k F) = plain_ind F
plain_ind (AllElem k F) = plain_ind F

-- ---- what a call needs and answers

pub plain_answers : (F : Formula) (v : Value) (olds nows : List (List Value)) (room : ℕ) (r : Result ℕ AutoFault) → Answers (plain F) v olds nows room r → Answers F v olds nows room r
plain_answers F v olds nows room (Ok id) h = (
  record {
    within = subst (λ l. id < length l) (plain_root F nows) h.0.within;
    value = sym (plain_type F nows id) ∙ h.0.value;
    grown = subst (AllGrown olds nows) (plain_occurring F (v ∷ [])) h.0.grown;
  },
  omega (arith, h.1, plain_missing F olds (v ∷ [])),
)
plain_answers F v olds nows room (Err e) h = (h.0, λ x. omega (arith, h.1 x, plain_missing F olds (v ∷ [])))

operand : (F : Formula) (f : Field) (t : ℕ) (lists : List (List Value)) (id : ℕ) → IsOperand F f t lists id → IsOperand (plain F) f t lists id
operand F f t lists id h = record {
  within = subst (λ l. id < length l) (sym (plain_root F lists)) h.within;
  value = subst (IsValueOf f t (plain F)) (sym (plain_type F lists id)) (coerce (sym (plain_value f t F (type_at F lists id))) h.value);
}
  where
    coerce : {A B : Type 0} → A ≡ B → A → B
    coerce e a = subst (λ z. z) e a

pub plain_can_read : (F : Formula) (g : Field) (lists : List (List Value)) (letter : Letter) (room : ℕ) → CanRead F g lists letter room → CanRead (plain F) g lists letter room
plain_can_read F g lists letter room h = record {
  field = λ e. h.field (sym (plain_ind F) ∙ e);
  readable = h.readable;
  roomy = omega (arith, h.roomy, plain_cells F lists);
}

pub plain_can_join : (F : Formula) (g : Field) (lists : List (List Value)) (op : OpValue) (left right room : ℕ) → CanJoin F g lists op left right room → CanJoin (plain F) g lists op left right room
plain_can_join F g lists op left right room h = record {
  field = λ e. h.field (sym (plain_ind F) ∙ e);
  left_operand = operand F op.f op.op.t1 lists left h.left_operand;
  right_operand = operand F op.f op.op.t2 lists right h.right_operand;
  roomy = omega (arith, h.roomy, plain_cells F lists);
}
