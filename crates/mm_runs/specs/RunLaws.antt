-- The laws of runs.
use Rattle.std.proofs.Common.{◌≡◌, ◌<◌, ℕ, zero, suc, Bool, true, false, ◌||◌, ◌+◌, ◌-◌, take, drop, List, [], ◌∷◌, length, get_or, refl, sym, ap, ◌∙◌, subst, arith}
use Rattle.std.specs.List.{list_any}
use Rattle.std.proofs.lemmas.List.{take-replicate, drop-replicate}
use Rattle.mm_field.specs.declared.Field.{Field}
use Rattle.mm_logic.specs.Formula.{Formula}
use Rattle.mm_logic.specs.Operator.{Op}
use Rattle.mm_logic.specs.Value.{Value}
use Rattle.mm_logic.specs.Value.Value.{Dead}
use Rattle.mm_logic.specs.Occurrence.{distinct}
use Rattle.mm_logic.specs.StateSize.{asked}
use Rattle.mm_logic.specs.StateSize.Query.{Decide}
use Rattle.mm_logic.specs.Growth.{root, type_at, AllBegin}
use Rattle.mm_logic.specs.JoinRule.{join_type, all_pairs, joined, lettered}
use Rattle.mm_logic.specs.Marks.{unmarked, no_marks}
use Rattle.mm_logic.specs.Tree.{size}
use Rattle.mm_logic.specs.Tree as shapes
use Rattle.mm_logic.specs.PossibleValues.{IsValueOf}
use Rattle.mm_logic.proofs.GrowthLemmas.{type_at-begins, within-begins}
use Rattle.mm_logic_laws.specs.ValueLaws.{types_by_rules}
use Rattle.mm_logic_laws.proofs.PossibleValueLemmas.{rules_keep_values}
use Rattle.mm_states.specs.Calls.{IsOperand}
use Rattle.mm_tree.specs.NamedTree.{Tree, shape, boundary}
use Rattle.mm_tree.specs.NamedTree.Tree.{Elem, Void, Join}
use Rattle.mm_tree.specs.ValidTree.{IsValidTree}
use Rattle.mm_tree.proofs.TreeLemmas.{valid_left, valid_right, shape_boundary}
use Rattle.mm_nodes.specs.KeptTrees.{KeptTree, top, StandsFor}
use Rattle.mm_nodes.specs.KeptTrees.KeptTree.{One, Two}
use Rattle.mm_nodes.specs.Demands.{Frame, HasTypes, IsWithin}
use Rattle.mm_runs.specs.RunCalls.{IsLeafRun, IsJoinRun}

pub asks : (F : Formula) → asked (Decide F) ≡ F
asks F = refl

one_test : (a b : Bool) → (a || false) ≡ true → (a || b) ≡ true
one_test true b e = refl
one_test false b e = cc

later_test : (a b c : Bool) → ((b || false) ≡ true → c ≡ true) → (b || false) ≡ true → (a || c) ≡ true
later_test true b c f e = refl
later_test false b c f e = f e

-- a value in a list passes the tests that the list passes
pub value_within : (vs : List Value) (id : ℕ) (d : Value) → id < length vs → IsWithin (get_or vs id d ∷ []) vs
value_within [] id d h = absurd (omega (arith, h))
value_within (v ∷ vs) zero d h = λ p e. one_test (p v) (list_any p vs) e
value_within (v ∷ vs) (suc id) d h = λ p e. later_test (p v) (p (get_or vs id d)) (list_any p vs) (value_within vs id d (omega (arith, h)) p) e

-- the types of a formula that is decided, at a tree: the one that is joined from the leaves upwards
pub decided : (f : Field) (F : Formula) (S : shapes.Tree) → types_by_rules f (Decide F) S ≡ joined f F (lettered S (unmarked (size S))) ∷ []
decided f F (shapes.Tree.Elem vec) = refl
decided f F (shapes.Tree.Void t) = refl
decided f F (shapes.Tree.Join op l r) =
    let left : take (size l) (unmarked (size l + size r)) ≡ unmarked (size l) = take-replicate (size l) (size l + size r) no_marks (omega arith) in
    let rest : size l + size r - size l ≡ size r = omega arith in
    let right : drop (size l) (unmarked (size l + size r)) ≡ unmarked (size r) =
    drop-replicate (size l) (size l + size r) no_marks ∙ ap unmarked rest in
    (λ i. all_pairs (join_type f F op) (decided f F l i) (decided f F r i))
    ∙ (λ i. join_type f F op (joined f F (lettered l (sym left i))) (joined f F (lettered r (sym right i))) ∷ [])

pub leaf_has : (fr : Frame) (T : Tree) (id : ℕ) → IsLeafRun fr T id → HasTypes fr.F fr.lists (type_at fr.F fr.lists id ∷ []) 1 (types_by_rules fr.f (Decide fr.F) (shape T))
leaf_has fr T id h = record {
  types = λ p. ap (λ v. list_any p (v ∷ [])) h.value ∙ ap (list_any p) (sym (decided fr.f fr.F (shape T)));
  counted = ap (λ vs. length (distinct vs)) (sym (decided fr.f fr.F (shape T)));
  kept = value_within (root fr.F fr.lists) id Dead h.within;
}

pub join_has : (fr : Frame) (op : Op) (i j id : ℕ) → IsJoinRun fr op i j id
    → HasTypes fr.F fr.lists (type_at fr.F fr.lists id ∷ []) 1 (all_pairs (join_type fr.f fr.F op) (type_at fr.F fr.lists i ∷ []) (type_at fr.F fr.lists j ∷ []))
join_has fr op i j id h = record {
  types = λ p. ap (λ v. list_any p (v ∷ [])) h.value;
  counted = refl;
  kept = value_within (root fr.F fr.lists) id Dead h.within;
}

pub fits : (fr : Frame) (T : Tree) (R : KeptTree ℕ) → IsValidTree fr.f T → StandsFor (IsLeafRun fr) (IsJoinRun fr) T R → IsOperand fr.F fr.f (boundary T) fr.lists (top R)
unfolding shape boundary
fits fr (Elem name vec weight) (One id) v s = record { within = s.within; value = subst (IsValueOf fr.f (length vec) fr.F) (sym s.value) ((rules_keep_values fr.f fr.F).0 vec _) }
fits fr (Void name t) (One id) v s = record { within = s.within; value = subst (IsValueOf fr.f t fr.F) (sym s.value) ((rules_keep_values fr.f fr.F).1 t) }
fits fr (Join name op l r) (Two id a b) v s =
    let left = fits fr l a (valid_left fr.f name op l r v) s.1 in
    let right = fits fr r b (valid_right fr.f name op l r v) s.2 in
    record {
      within = s.0.within;
      value = subst (IsValueOf fr.f op.t3 fr.F) (sym s.0.value)
          ((rules_keep_values fr.f fr.F).2 op (type_at fr.F fr.lists (top a)) (type_at fr.F fr.lists (top b))
          (subst (λ t. IsValueOf fr.f t fr.F (type_at fr.F fr.lists (top a))) (sym (shape_boundary l) ∙ v.valid_shape.1) left.value)
          (subst (λ t. IsValueOf fr.f t fr.F (type_at fr.F fr.lists (top b))) (sym (shape_boundary r) ∙ v.valid_shape.2) right.value));
    }
fits fr (Elem name vec weight) (Two n a b) v s = absurd s
fits fr (Void name t) (Two n a b) v s = absurd s
fits fr (Join name op l r) (One n) v s = absurd s

pub leaf_stays : (fr : Frame) (lists : List (List Value)) (T : Tree) (id : ℕ) → AllBegin fr.lists lists → IsLeafRun fr T id → IsLeafRun (record fr { lists = lists }) T id
leaf_stays fr lists T id g h = record { within = within-begins fr.F fr.lists lists id g h.within; value = type_at-begins fr.F fr.lists lists id g h.within ∙ h.value }

pub join_stays : (fr : Frame) (lists : List (List Value)) (op : Op) (i j id : ℕ) → AllBegin fr.lists lists → IsJoinRun fr op i j id → IsJoinRun (record fr { lists = lists }) op i j id
join_stays fr lists op i j id g h = record {
  left_within = within-begins fr.F fr.lists lists i g h.left_within;
  right_within = within-begins fr.F fr.lists lists j g h.right_within;
  within = within-begins fr.F fr.lists lists id g h.within;
  value =
      type_at-begins fr.F fr.lists lists id g h.within ∙ h.value
      ∙ (λ k. join_type fr.f fr.F op (sym (type_at-begins fr.F fr.lists lists i g h.left_within) k) (sym (type_at-begins fr.F fr.lists lists j g h.right_within) k));
}

pub same_left : (fr : Frame) (op : Op) (a b c n : ℕ) → b ≡ a → IsJoinRun fr op a c n → IsJoinRun fr op b c n
same_left fr op a b c n e h = subst (λ i. IsJoinRun fr op i c n) (sym e) h

pub same_right : (fr : Frame) (op : Op) (a b c n : ℕ) → c ≡ b → IsJoinRun fr op a b n → IsJoinRun fr op a c n
same_right fr op a b c n e h = subst (λ i. IsJoinRun fr op a i n) (sym e) h
