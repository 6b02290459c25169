-- Operators by their numbers: an answer by a number is an answer by its operator alone.
use Rattle.std.proofs.Common.{◌≡◌, ◌<◌, ◌+◌, ◌++◌, ℕ, suc, zero, Bool, true, false, not, cond, List, [], ◌∷◌, length, get_or, Option, Some, None, position, slice_get, Result, Ok, Err, OnOk, OnErr, IfOk, refl, sym, ap, ◌∙◌, subst, arith, inl, inr, if◌then◌else◌}
use Rattle.std.specs.Prelude.{◌⊎◌, nat_lt}
use Rattle.std.specs.List.{list_any, position_or_len}
use Rattle.std.proofs.lemmas.Bool.{lt-ltb}
use Rattle.std.proofs.lemmas.List.{get_or_append_left, length-append}
use Rattle.std.proofs.lemmas.List.Folds.{list_any_at}
use Rattle.std.proofs.lemmas.List.Quantifiers.{position-Some}
use Rattle.std.proofs.lemmas.Option.{slice_get_within, get_or_from_slice_get}
use Rattle.mm_ops.specs.OpValue.{OpValue}
use Rattle.mm_ops.specs.contracts.op.OpPartialEq.TheImpl.{eq-value as op_eq}
use Rattle.mm_ops.proofs.OpEquality.{op_same as one_operator}
use Rattle.mm_states.specs.Cells.{Keeps}
use Rattle.mm_states.specs.Memos.{no_answers}
use Rattle.indexmap.specs.IndexSet.{insert_key}
use Rattle.mm_states.specs.Numbered.{op_same, number_of, answer_by, with_number, IsNumbered, ForgetsJoins, KeepsJoin}

first_place : {X : Type 0} (p : X → Bool) (xs : List X) (i : ℕ) (d : X) → i < length xs → p (get_or xs i d) ≡ true → ((k : ℕ) → k < i → p (get_or xs k d) ≡ false) → position_or_len p xs ≡ i
first_place p [] i d l h n = absurd (omega arith)
first_place p (x ∷ xs) zero d l h n = ap {B = ℕ} (λ b. cond (not b) (1 + position_or_len p xs) 0) h
first_place p (x ∷ xs) (suc i) d l h n =
    ap {B = ℕ} (λ b. cond (not b) (1 + position_or_len p xs) 0) (n 0 (omega arith))
    ∙ omega (arith, first_place p xs i d (omega arith) h (λ k m. n (suc k) (omega arith)))

position_is : {X : Type 0} (p : X → Bool) (xs : List X) (i : ℕ) (d : X) → i < length xs → p (get_or xs i d) ≡ true → ((k : ℕ) → k < i → p (get_or xs k d) ≡ false) → position p xs ≡ Some i
position_is p xs i d l h n =
    let e = first_place p xs i d l h n in
    ap (λ k. cond (nat_lt k (length xs)) (Some k) None) e ∙ ap (λ b. cond b (Some i) None) (lt-ltb i (length xs) l)

none_before : {X : Type 0} (p : X → Bool) (xs : List X) (d : X) → list_any p xs ≡ false → (k : ℕ) → k < length xs → p (get_or xs k d) ≡ false
none_before p xs d e k l = by (p (get_or xs k d)) refl
  where
    by : (b : Bool) → p (get_or xs k d) ≡ b → p (get_or xs k d) ≡ false
    by true h = let no : false ≡ true = sym e ∙ list_any_at p xs k d l h in cc
    by false h = h

-- what goes last, where nothing passes before it
pub put_position : {X : Type 0} (p : X → Bool) (xs : List X) (y x : X) (i : ℕ) → list_any p xs ≡ false → slice_get (xs ++ y ∷ []) i ≡ Some x → p x ≡ true → position p (xs ++ y ∷ []) ≡ Some i
put_position p xs y x i none at h =
    let within = slice_get_within (xs ++ y ∷ []) i x at in
    let here : get_or (xs ++ y ∷ []) i x ≡ x = get_or_from_slice_get (xs ++ y ∷ []) i x x at in
    position_is p (xs ++ y ∷ []) i x within (ap p here ∙ h) (λ k m.
    let short : k < length xs = omega (arith, within, length-append xs (y ∷ []), m) in
    ap p (get_or_append_left xs (y ∷ []) x k short) ∙ none_before p xs x none k short)

-- a place among the first stays
front_position : {X : Type 0} (p : X → Bool) (xs ys : List X) (i : ℕ) (d : X) → position p (xs ++ ys) ≡ Some i → i < length xs → position p xs ≡ Some i
front_position p xs ys i d e l =
    let at = position-Some p (xs ++ ys) i d e in
    position_is p xs i d l (ap p (sym (get_or_append_left xs ys d i l)) ∙ at.1) (λ k m. ap p (sym (get_or_append_left xs ys d k (omega arith))) ∙ at.2 k m)

-- an answer is by a number that the operator has
numbered : (ops : List OpValue) (answers : ℕ → ℕ → ℕ → Option ℕ) (o : OpValue) (l r i : ℕ) → answer_by ops answers o l r ≡ Some i → (n : ℕ) × (number_of ops o ≡ Some n) × (answers n l r ≡ Some i)
numbered ops answers o l r i h = by (number_of ops o) refl
  where
    by : (m : Option ℕ) → number_of ops o ≡ m → (n : ℕ) × (number_of ops o ≡ Some n) × (answers n l r ≡ Some i)
    by (Some n) e = (n, e, sym (ap (λ z. with_number answers z l r) e) ∙ h)
    by None e = let no : None ≡ Some i = sym (ap (λ z. with_number answers z l r) e) ∙ h in cc

-- more operators, and the same answers
pub more_operators : (ops : List OpValue) (op : OpValue) (answers : ℕ → ℕ → ℕ → Option ℕ) → IsNumbered ops answers → ForgetsJoins (answer_by ops answers) (answer_by (ops ++ op ∷ []) answers)
more_operators ops op answers known o l r i h =
    let a = numbered (ops ++ op ∷ []) answers o l r i h in
    let front = front_position ((op_eq).it o) ops (op ∷ []) a.0 o a.1 (known a.0 l r i a.2) in
    ap (λ z. with_number answers z l r) front ∙ a.2

-- two operators with one number are one
one_number : (ops : List OpValue) (o p : OpValue) (n : ℕ) → number_of ops o ≡ Some n → number_of ops p ≡ Some n → o ≡ p
one_number ops o p n e f =
    let a = position-Some ((op_eq).it o) ops n o e in
    let b = position-Some ((op_eq).it p) ops n o f in
    one_operator o (get_or ops n o) a.1 ∙ sym (one_operator p (get_or ops n o) b.1)

-- a join that is kept by its operator's number is kept by its operator
pub kept_by_number : (ops : List OpValue) (op : OpValue) (old new : ℕ → ℕ → ℕ → Option ℕ) (n left right id : ℕ) → number_of ops op ≡ Some n → Keeps old new n left right id
    → KeepsJoin (answer_by ops old) (answer_by ops new) op left right id
kept_by_number ops op old new n left right id e k o l r i h = by (k a.0 l r i a.2)
  where
    a : (m : ℕ) × (number_of ops o ≡ Some m) × (new m l r ≡ Some i)
    a = numbered ops new o l r i h

    by : ((a.0 ≡ n) × (l ≡ left) × (r ≡ right) × (i ≡ id)) ⊎ (old a.0 l r ≡ Some i) → ((o ≡ op) × (l ≡ left) × (r ≡ right) × (i ≡ id)) ⊎ (answer_by ops old o l r ≡ Some i)
    by (inl p) = inl (one_number ops o op n (a.1 ∙ ap Some p.0) e, p.1, p.2, p.3)
    by (inr q) = inr (ap (λ z. with_number old z l r) a.1 ∙ q)

pub keeps_after : (old mid new : OpValue → ℕ → ℕ → Option ℕ) (op : OpValue) (left right id : ℕ) → ForgetsJoins old mid → KeepsJoin mid new op left right id → KeepsJoin old new op left right id
keeps_after old mid new op left right id f k o l r i h = by (k o l r i h)
  where
    by : ((o ≡ op) × (l ≡ left) × (r ≡ right) × (i ≡ id)) ⊎ (mid o l r ≡ Some i) → ((o ≡ op) × (l ≡ left) × (r ≡ right) × (i ≡ id)) ⊎ (old o l r ≡ Some i)
    by (inl p) = inl p
    by (inr a) = inr (f o l r i a)

pub keeps_numbered : (ops : List OpValue) (old new : ℕ → ℕ → ℕ → Option ℕ) (n left right id : ℕ) → n < length ops → IsNumbered ops old → Keeps old new n left right id → IsNumbered ops new
keeps_numbered ops old new n left right id w known k m l r i h = by (k m l r i h)
  where
    by : ((m ≡ n) × (l ≡ left) × (r ≡ right) × (i ≡ id)) ⊎ (old m l r ≡ Some i) → m < length ops
    by (inl p) = omega (arith, w, p.0)
    by (inr a) = known m l r i a

pub more_numbered : (ops : List OpValue) (op : OpValue) (answers : ℕ → ℕ → ℕ → Option ℕ) → IsNumbered ops answers → IsNumbered (ops ++ op ∷ []) answers
more_numbered ops op answers known n l r i h = omega (arith, known n l r i h, length-append ops (op ∷ []))

pub number_within : (ops : List OpValue) (op : OpValue) (n : ℕ) → number_of ops op ≡ Some n → n < length ops
number_within ops op n e = (position-Some ((op_eq).it op) ops n op e).0

-- ---- a new operator

module _ (ops news : List OpValue) (op : OpValue) (none : list_any (op_same op) ops ≡ false) where
  with_one : news ≡ insert_key op_same ops op → news ≡ ops ++ op ∷ []
  with_one e = e ∙ ap (λ b. if b then ops else ops ++ op ∷ []) none

  pub add_number : {E : Type 0} (r : Result ℕ E) → OnOk r (news ≡ insert_key op_same ops op) → IfOk r (λ n. (x : OpValue) × (slice_get news n ≡ Some x) × (op_same op x ≡ true)) → IfOk r (λ n. number_of news op ≡ Some n)
  add_number (Ok n) e at =
      let z = with_one e in
      ap (position (op_same op)) z ∙ put_position (op_same op) ops op at.0 n none (ap (λ l. slice_get l n) (sym z) ∙ at.1) at.2
  add_number (Err x) e at = tt

  pub add_forgets : {E : Type 0} (answers : ℕ → ℕ → ℕ → Option ℕ) (r : Result ℕ E) → IsNumbered ops answers → OnOk r (news ≡ insert_key op_same ops op) → OnErr r (news ≡ ops) → ForgetsJoins (answer_by ops answers) (answer_by news answers)
  add_forgets answers (Ok n) known e s = subst (λ z. ForgetsJoins (answer_by ops answers) (answer_by z answers)) (sym (with_one e)) (more_operators ops op answers known)
  add_forgets answers (Err x) known e s = λ o l r i h. ap (λ z. answer_by z answers o l r) (sym s) ∙ h

pub forgets_after : (old mid new : OpValue → ℕ → ℕ → Option ℕ) → ForgetsJoins old mid → ForgetsJoins mid new → ForgetsJoins old new
forgets_after old mid new f g o l r i h = f o l r i (g o l r i h)

pub none_numbered : (ops : List OpValue) (answers : ℕ → ℕ → ℕ → Option ℕ) → answers ≡ no_answers → IsNumbered ops answers
none_numbered ops answers e n l r i h = let no : None ≡ Some i = sym (ap (λ a. a n l r) e) ∙ h in cc
