-- From the automaton's answers to runs.
use Rattle.std.proofs.Common.{◌≡◌, ◌<◌, ◌≤◌, ◌+◌, ◌==◌, ℕ, List, [], ◌∷◌, length, Option, Some, None, Result, Ok, Err, refl, sym, ap, ◌∙◌, subst, arith}
use Rattle.std.proofs.lemmas.Nat.Bits.{bit_at-zero}
use Rattle.mm_field.specs.declared.Field.{Field}
use Rattle.mm_logic.specs.Formula.{Formula}
use Rattle.mm_logic.specs.Value.{Value}
use Rattle.mm_logic.specs.Marks.{no_marks, unmarked}
use Rattle.mm_logic.specs.Tree.{size}
use Rattle.mm_logic.specs.Occurrence.{occurring, distinct}
use Rattle.mm_logic.specs.StateSize.Query.{Decide}
use Rattle.mm_logic.specs.JoinRule.{joined, lettered, join_type}
use Rattle.mm_logic.specs.Growth.{root, missing_cells, AllGrown}
use Rattle.mm_logic.proofs.GrowthLemmas.{AllBegin-grown, type_at-begins, within-begins}
use Rattle.mm_logic_laws.specs.ValueLaws.{types_by_rules}
use Rattle.mm_ops.specs.OpValue.{OpValue}
use Rattle.mm_states.specs.Letters.{leaf_type, type_at_leaf, marks_of}
use Rattle.mm_states.specs.Calls.{Answers, Numbers, value_of_join}
use Rattle.mm_states.specs.declared.letter.AutoFault.{AutoFault}
use Rattle.mm_states.specs.declared.letter.AutoFault.TheVariants as auto
use Rattle.mm_states.specs.declared.letter.Letter.{Letter}
use Rattle.mm_tree.specs.NamedTree.{Tree, shape}
use Rattle.mm_tree.specs.Nodes.{named_leaf}
use Rattle.mm_tree.specs.declared.node.Item.{Item}
use Rattle.mm_tree.specs.declared.node.Leaf.{Leaf}
use Rattle.mm_nodes.specs.Calls.{Makes}
use Rattle.mm_nodes.specs.declared.keeps.KeepFault.{KeepFault}
use Rattle.mm_nodes.specs.declared.keeps.KeepFault.TheVariants.{Full}
use Rattle.mm_runs.specs.RunCalls.{IsLeafRun, IsJoinRun, Runs, IsRunOf}
use Rattle.mm_nodes.specs.LeafLetters.{IsLetterOf, vec_of}
use Rattle.mm_nodes.proofs.LetterLemmas.{letter_type}
use Rattle.mm_runs.specs.RunLaws.{decided}

no_bits : marks_of 0 ≡ no_marks
no_bits = λ i k. (ap (λ b. b == 1) (bit_at-zero k)) i

type_of_item : (f : Field) (F : Formula) (leaf : Leaf) → (item : Option Item) → type_at_leaf f F leaf.t no_marks (vec_of item)
    ≡ joined f F (lettered (shape (named_leaf (record leaf { item = item }))) (unmarked (size (shape (named_leaf (record leaf { item = item }))))))
unfolding shape
type_of_item f F leaf None = refl
type_of_item f F leaf (Some item) = refl

-- the leaf rule gives the type that is joined at a leaf
pub run_type : (F : Formula) (leaf : Leaf) (letter : Letter) → IsLetterOf leaf 0 letter
    → leaf_type F letter ≡ joined leaf.field F (lettered (shape (named_leaf leaf)) (unmarked (size (shape (named_leaf leaf)))))
run_type F leaf letter h =
    letter_type F leaf 0 letter h ∙ ap (λ m. type_at_leaf leaf.field F leaf.t m (vec_of leaf.item)) no_bits ∙ type_of_item leaf.field F leaf leaf.item

pub runs_of : (F : Formula) (v w : Value) (olds nows : List (List Value)) (room : ℕ) (id : Result ℕ AutoFault) (run : Result ℕ KeepFault) → v ≡ w → IsRunOf id run → Answers F v olds nows room id → Runs F w olds nows room run
runs_of F v w olds nows room (Ok id) (Ok run) e r a = subst (λ u. Runs F u olds nows room (Ok run)) e (subst (λ i. Numbers F v olds nows i) (sym r) a.0, a.1)
runs_of F v w olds nows room (Err auto.Full) (Err f) e r a = (a.0, λ full. subst (λ u. room < missing_cells F olds (u ∷ [])) e (a.1 refl))
runs_of F v w olds nows room (Err auto.NoMemory) (Err f) e r a = (a.0, λ full. absurd (not_both f r full))
  where
    not_both : (f : KeepFault) → f ≡ KeepFault.NoMemory → f ≡ Full → ⊥
    not_both f p q = cc
runs_of F v w olds nows room (Ok id) (Err f) e r a = absurd r
runs_of F v w olds nows room (Err auto.Full) (Ok run) e r a = absurd r
runs_of F v w olds nows room (Err auto.NoMemory) (Ok run) e r a = absurd r

pub makes_join : (F : Formula) (op : OpValue) (left right : ℕ) (olds nows : List (List Value)) (room : ℕ) (result : Result ℕ KeepFault) → left < length (root F olds) → right < length (root F olds)
    → Runs F (value_of_join F olds op left right) olds nows room result
    → Makes F olds nows (IsJoinRun (record { f = op.f; F = F; lists = nows }) op.op left right) (value_of_join F olds op left right ∷ []) room result
makes_join F op left right olds nows room (Ok id) l r h =
    let begins = AllBegin-grown olds nows (occurring F (value_of_join F olds op left right ∷ [])) h.0.grown in
    record {
      is = record {
        left_within = within-begins F olds nows left begins l;
        right_within = within-begins F olds nows right begins r;
        within = h.0.within;
        value = h.0.value ∙ (λ i. join_type op.f F op.op (sym (type_at-begins F olds nows left begins l) i) (sym (type_at-begins F olds nows right begins r) i));
      };
      grown = h.0.grown;
      within = h.1;
    }
makes_join F op left right olds nows room (Err e) l r h = λ full. let less = h.1 full in omega (arith, less)

pub makes_leaf : (F : Formula) (f : Field) (T : Tree) (olds nows : List (List Value)) (room : ℕ) (result : Result ℕ KeepFault)
    → Runs F (joined f F (lettered (shape T) (unmarked (size (shape T))))) olds nows room result
    → Makes F olds nows (IsLeafRun (record { f = f; F = F; lists = nows }) T) (types_by_rules f (Decide F) (shape T)) room result
makes_leaf F f T olds nows room (Ok id) h = record {
  is = record { within = h.0.within; value = h.0.value };
  grown = subst (λ vs. AllGrown olds nows (occurring F vs)) (sym (decided f F (shape T))) h.0.grown;
  within = subst (λ vs. missing_cells F olds vs ≤ room) (sym (decided f F (shape T))) h.1;
}
makes_leaf F f T olds nows room (Err e) h = λ full.
    let less = h.1 full in
    subst (λ vs. room < missing_cells F olds vs + length (distinct vs)) (sym (decided f F (shape T))) (omega (arith, less))
