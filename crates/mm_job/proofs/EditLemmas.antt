-- What a session makes of an edit is what the definitions say of it.
use Rattle.std.proofs.Common.{◌≡◌, ◌≤◌, ◌⊎◌, inl, inr, ℤ, nat_abs, ℕ, ◌+◌, Bool, true, false, not, ◌||◌, ◌==◌, List, [], ◌++◌, length, Option, Some, None, refl, sym, ap, ap₂, subst, ◌∙◌, arith, w64, to_z, of_z}
use Rattle.std.specs.Prelude.{nat_lt, nat_le, if◌then◌else◌, IfOk, OnOk, Ok, Err, pos, negsuc}
use Rattle.std.specs.declared.result.Result.{Result}
use Rattle.std.proofs.lemmas.Bool.{le-ltb, lt-ltb, ltb-false, ltb-true, or_right}
use Rattle.std.proofs.lemmas.Int.{to_z-of_z}
use Rattle.std.proofs.lemmas.Option.{none-some, same_Some}
use Rattle.mm_edit.specs.Edits as edits
use Rattle.mm_edit.specs.Edits.{Accepted, Applied, Edits, Started, edit_fault, exchanged_at, most_steps, no_node, reweighted, reweighted_at, unless_fault}
use Rattle.mm_edit.specs.KeptTypes.{GoOn, IsOver, size_beside}
use Rattle.mm_edit.specs.SessionValue.{SessionValue, kept_types}
use Rattle.mm_edit.specs.declared.fault.EditFault.{EditFault}
use Rattle.mm_edit.specs.declared.fault.EditFault.TheVariants as fault
use Rattle.mm_field.specs.declared.Field.{Field}
use Rattle.mm_job.specs.Edits.{Changed, Denied, another_weight, changed, exchange_refusal, exchanged, replaced_path}
use Rattle.mm_job.specs.Header.{Session, is_over_limit}
use Rattle.mm_job.specs.Output.{after_reply, answered, reply_line}
use Rattle.mm_job.specs.State.Replies.{RepliesToEdit, SpendsEdit, edit_stop}
use Rattle.mm_job.specs.State.Sessions.{IsEditor, kept_of, session_of}
use Rattle.mm_job.specs.Work.{afresh, is_full, kept_for, types_in}
use Rattle.mm_job.specs.declared.editor.Editor.{Editor}
use Rattle.mm_job.specs.declared.output_line.OutputLine.{OutputLine}
use Rattle.mm_job.specs.declared.output_line.OutputLine.TheVariants.{Refuses}
use Rattle.mm_job_text.specs.Checks.{◌>>=◌, ◌>>◌, found, require, unless}
use Rattle.mm_job_text.specs.declared.refusal.Limit.TheVariants as limit
use Rattle.mm_job_text.specs.declared.refusal.Refusal.{Refusal}
use Rattle.mm_job_text.specs.declared.refusal.Refusal.TheVariants as refusal
use Rattle.mm_job_text.specs.declared.refusal.Stop.TheVariants.{Refused, NoMemory}
use Rattle.mm_logic.specs.Growth.{Grown}
use Rattle.mm_logic.specs.Meaning.{WellSorted}
use Rattle.mm_logic.specs.Occurrence.{cells}
use Rattle.mm_logic.specs.Order.{SameMembers}
use Rattle.mm_logic.specs.StateSize.{Query, asked, rows, types}
use Rattle.mm_logic.specs.Value.{Value}
use Rattle.mm_logic_laws.proofs.RuleTypeLemmas.{given_by_rules}
use Rattle.mm_nodes.specs.Demands.{made}
use Rattle.mm_nodes.proofs.RoomLemmas.{grown-members}
use Rattle.mm_tree.specs.NamedTree.{Tree, boundary, element_names, is_one_of, leaf_names, nodes, shape}
use Rattle.mm_tree.specs.Paths.{Path, node_at, path_to, with_node, with_weight}
use Rattle.mm_tree.specs.Places.{path_above, place_at_end}
use Rattle.mm_tree.specs.declared.place.Place.{Place}
use Rattle.mm_tree.specs.Replacing.{first_taken, name_fault, replace_fault}
use Rattle.mm_tree.specs.ValidTree.{IsValidTree, most_depth, most_leaves, most_weight}
use Rattle.mm_tree.specs.declared.replace.ReplaceFault.{ReplaceFault}
use Rattle.mm_tree.specs.declared.replace.ReplaceFault.TheVariants as tree
use Rattle.mm_tree.proofs.TreeLemmas.{valid_exchange, valid_weight}

-- ---- sizes: the types that the rules give are the types of the tree

pub record IsFit (f : Field) (Q : Query) (T : Tree) : Type 0 where
  pub sorted : WellSorted (λ k. false) (asked Q)
  pub tree : IsValidTree f T

size_is : (f : Field) (Q : Query) (K : List Value) (T : Tree) → IsFit f Q T → size_beside K Q f T ≡ cells (asked Q) (K ++ types f Q (shape T)) + rows f Q (shape T)
size_is f Q K T h =
    let given = given_by_rules f Q h.sorted (shape T) h.tree.valid_shape in
    ap₂ (λ (vs : List Value) (n : ℕ). cells (asked Q) (K ++ vs) + n) (sym given.1) (sym given.2)

over_is : (s : Session) (T : Tree) → IsFit s.f s.query T → is_over_limit s T ≡ nat_lt s.limit (size_beside [] s.query s.f T)
unfolding is_over_limit
over_is s T h = ap (λ (n : ℕ). nat_lt s.limit n) (sym (size_is s.f s.query [] T h))

full_is : (s : Session) (K : List Value) (T : Tree) → IsFit s.f s.query T → is_full s K T ≡ nat_lt s.limit (size_beside K s.query s.f T)
unfolding is_full types_in
full_is s K T h = ap (λ (n : ℕ). nat_lt s.limit n) (sym (size_is s.f s.query K T h))

pub not_over : (s : Session) (T : Tree) → IsFit s.f s.query T → size_beside [] s.query s.f T ≤ s.limit → is_over_limit s T ≡ false
not_over s T h small = over_is s T h ∙ le-ltb _ _ small

pub is_over : (s : Session) (T : Tree) → IsFit s.f s.query T → IsOver s.query s.f T s.limit → is_over_limit s T ≡ true
is_over s T h large = over_is s T h ∙ lt-ltb _ _ large

-- ---- kept types

pub members_are : (s : Session) (before after : List Value) (T : Tree) → IsFit s.f s.query T → Grown before after (made s.f s.query (shape T)) →
    SameMembers after (before ++ types_in s T)
unfolding types_in
members_are s before after T h g =
    subst (λ (vs : List Value). SameMembers after (before ++ vs)) (sym (given_by_rules s.f s.query h.sorted (shape T) h.tree.valid_shape).1)
    (grown-members before after (made s.f s.query (shape T)) g)

kept_on : (s : Session) (before after : List Value) (T : Tree) (rb ra : ℕ) → IsFit s.f s.query T → size_beside [] s.query s.f T ≤ s.limit
    → GoOn s.query s.f T s.limit before after rb ra → SameMembers after (kept_for s before T)
unfolding kept_for
kept_on s before after T rb ra h small g =
    subst (λ (over : Bool). SameMembers after (if over then before else if is_full s before T then types_in s T else before ++ types_in s T))
    (sym (not_over s T h small)) (go (is_full s before T) refl)
  where
    go : (full : Bool) → is_full s before T ≡ full → SameMembers after (if full then types_in s T else before ++ types_in s T)
    go true p = members_are s [] after T h (g.rebuilt (ltb-true _ _ (sym (full_is s before T h) ∙ p))).0
    go false p = members_are s before after T h (g.goes_on (ltb-false _ _ (sym (full_is s before T h) ∙ p))).0

kept_over : (s : Session) (before : List Value) (T : Tree) → is_over_limit s T ≡ true → SameMembers before (kept_for s before T)
unfolding kept_for
kept_over s before T over =
    subst (λ (b : Bool). SameMembers before (if b then before else if is_full s before T then types_in s T else before ++ types_in s T)) (sym over) (λ p. refl)

-- ---- replies

replies_changed : (old new : Editor) (a : Applied) (output : OutputLine) → is_over_limit (session_of old) a.tree ≡ false
    → session_of new ≡ record (session_of old) { tree = a.tree } → output ≡ answered (session_of new)
    → SameMembers (kept_of new) (kept_for (session_of old) (kept_of old) a.tree) → IsEditor new → RepliesToEdit old new (Ok a) output
replies_changed old new a output within session is kept editor =
    let s = session_of old in
    let c : changed s (Ok a) ≡ Changed (record s { tree = a.tree }) =
    ap (λ (over : Bool). if over then Denied refusal.States else Changed (record s { tree = a.tree })) within in
    record {
      line = is ∙ ap answered session ∙ ap reply_line (sym c);
      session = session ∙ ap (after_reply s) (sym c);
      kept = kept;
      editor = editor;
    }

replies_over : (old : Editor) (a : Applied) (output : OutputLine) → is_over_limit (session_of old) a.tree ≡ true → output ≡ Refuses refusal.States
    → IsEditor old → RepliesToEdit old old (Ok a) output
replies_over old a output over is editor =
    let s = session_of old in
    let c : changed s (Ok a) ≡ Denied refusal.States =
    ap (λ (b : Bool). if b then Denied refusal.States else Changed (record s { tree = a.tree })) over in
    record {
      line = is ∙ ap reply_line (sym c);
      session = ap (after_reply s) (sym c);
      kept = kept_over s (kept_of old) a.tree over;
      editor = editor;
    }

pub replies_refused : (old : Editor) (why : Refusal) (output : OutputLine) → output ≡ Refuses why → IsEditor old → RepliesToEdit old old (Err why) output
replies_refused old why output is editor = record { line = is; session = refl; kept = λ p. refl; editor = editor }

-- ---- what a session answers to an edit

-- An edit of a tree, by a line or a block whose last line has this number, is that of a job.
abbrev pub Matches : ℕ → Result Applied EditFault → Result Applied Refusal → Type 0
Matches n (Ok a) edit = edit ≡ Ok a
Matches n (Err e) edit = (why : Refusal) × (edit_stop n e ≡ Refused why) × (edit ≡ Err why)

-- The tree after it is valid.
abbrev pub KeepsValid : Field → Result Applied EditFault → Type 0
KeepsValid f applied = IfOk applied (λ a. IsValidTree f a.tree)

abbrev pub with_session : Editor → SessionValue → Editor
with_session old t = record old { session = t }

-- what a refusal of an edit that the tree allows is
only_states : (s t : SessionValue) (a : Applied) (d : EditFault) → Edits s t (Ok a) (Err d) →
    (d ≡ fault.NoMemory) ⊎ ((t ≡ s) × (d ≡ fault.States) × IsOver s.query s.tree.f a.tree s.limit)
only_states s t a (fault.UnknownName x) h = inr h
only_states s t a (fault.NoSuchNode x k) h = inr h
only_states s t a (fault.Boundary m n) h = inr h
only_states s t a (fault.NameTaken x) h = inr h
only_states s t a fault.TooManyLeaves h = inr h
only_states s t a fault.TooDeep h = inr h
only_states s t a fault.States h = inr h
only_states s t a fault.NoMemory h = inl refl

only_fault : (s t : SessionValue) (e d : EditFault) → Edits s t (Err e) (Err d) → (d ≡ fault.NoMemory) ⊎ ((t ≡ s) × (d ≡ e))
only_fault s t e (fault.UnknownName x) h = inr h
only_fault s t e (fault.NoSuchNode x k) h = inr h
only_fault s t e (fault.Boundary m n) h = inr h
only_fault s t e (fault.NameTaken x) h = inr h
only_fault s t e fault.TooManyLeaves h = inr h
only_fault s t e fault.TooDeep h = inr h
only_fault s t e fault.States h = inr h
only_fault s t e fault.NoMemory h = inl refl

-- without memory no line is written
abbrev IsRefusalOf : ℕ → EditFault → OutputLine → Type 0
IsRefusalOf n d output = (why : Refusal) × (edit_stop n d ≡ Refused why) × (output ≡ Refuses why)

memory_refuses_nothing : {P : Type 0} (n : ℕ) (d : EditFault) (output : OutputLine) → d ≡ fault.NoMemory → IsRefusalOf n d output → P
memory_refuses_nothing n d output is h =
    let e : NoMemory ≡ Refused h.0 = ap (edit_stop n) (sym is) ∙ h.1 in absurd (cc)

editor_after : (old : Editor) (t : SessionValue) (a : Applied) → IsEditor old → Accepted old.session t a.tree → IsValidTree old.field a.tree → IsEditor (with_session old t)
editor_after old t a editor h valid = record {
  field = ap (λ v. v.f) h.tree ∙ editor.field;
  tree = subst (λ (T : Tree). IsValidTree old.field T) (sym (ap (λ v. v.tree) h.tree)) valid;
  ops = editor.ops;
  sorted = subst (λ (Q : Query). WellSorted (λ k. false) (asked Q)) (sym h.query) editor.sorted;
}

session_after : (old : Editor) (t : SessionValue) (a : Applied) → Accepted old.session t a.tree → session_of (with_session old t) ≡ record (session_of old) { tree = a.tree }
session_after old t a h i =
    record { f = old.field; ops = old.ops; query = h.query i; limit = h.limit i; tree = (h.tree i).tree }

pub editor_edited : (old : Editor) (t : SessionValue) (applied : Result Applied EditFault) (done : Result (Unit {0}) EditFault) → IsEditor old
    → Edits old.session t applied done → KeepsValid old.field applied → OnOk done (IsEditor (with_session old t))
editor_edited old t (Ok a) (Ok u) editor h valid = editor_after old t a editor h valid
editor_edited old t (Err e) (Ok u) editor h valid = absurd h
editor_edited old t applied (Err d) editor h valid = tt

-- the same for a tree's field
fit_of : (old : Editor) (T : Tree) → IsEditor old → IsValidTree old.field T → IsFit old.field old.session.query T
fit_of old T editor valid = record { sorted = editor.sorted; tree = valid }

at_field : (P : Field → Type 0) (old : Editor) → IsEditor old → P old.session.tree.f → P old.field
at_field P old editor h = subst P editor.field h

line_of_edit : (old : Editor) (t : SessionValue) (applied : Result Applied EditFault) (edit : Result Applied Refusal) (n : ℕ) (done : Result (Unit {0}) EditFault) (output : OutputLine)
    → IsEditor old → Edits old.session t applied done → Matches n applied edit → KeepsValid old.field applied
    → OnOk done (output ≡ answered (session_of (with_session old t))) → ((d : EditFault) → done ≡ Err d → IsRefusalOf n d output)
    → RepliesToEdit old (with_session old t) edit output
line_of_edit old t (Ok a) edit n (Ok u) output editor h same valid answer refused =
    let s = session_of old in
    let fit = fit_of old a.tree editor valid in
    let small : size_beside [] s.query s.f a.tree ≤ s.limit =
    at_field (λ (f : Field). size_beside [] s.query f a.tree ≤ s.limit) old editor h.size in
    let goes = at_field (λ (f : Field). GoOn s.query f a.tree s.limit (kept_of old) (kept_types t) old.session.rebuilds t.rebuilds) old editor h.kept in
    subst (λ (x : Result Applied Refusal). RepliesToEdit old (with_session old t) x output) (sym same)
    (replies_changed old (with_session old t) a output (not_over s a.tree fit small) (session_after old t a h) answer
    (kept_on s (kept_of old) (kept_types t) a.tree old.session.rebuilds t.rebuilds fit small goes) (editor_after old t a editor h valid))
line_of_edit old t (Err e) edit n (Ok u) output editor h same valid answer refused = absurd h
line_of_edit old t (Ok a) edit n (Err d) output editor h same valid answer refused =
    elim (only_states old.session t a d h) [
      | inl none ↦ memory_refuses_nothing n d output none (refused d refl)
      | inr r ↦
          let q = refused d refl in
          let why : Refused refusal.States ≡ Refused q.0 = ap (edit_stop n) (sym r.1) ∙ q.1 in
          let same_why : refusal.States ≡ q.0 = cc in
          let fit = fit_of old a.tree editor valid in
          let large = at_field (λ (f : Field). IsOver old.session.query f a.tree old.session.limit) old editor r.2 in
          subst (λ (u : SessionValue). RepliesToEdit old (with_session old u) edit output) (sym r.0)
          (subst (λ (x : Result Applied Refusal). RepliesToEdit old old x output) (sym same)
          (replies_over old a output (is_over (session_of old) a.tree fit large) (q.2 ∙ ap Refuses (sym same_why)) editor))
    ]
line_of_edit old t (Err e) edit n (Err d) output editor h same valid answer refused =
    elim (only_fault old.session t e d h) [
      | inl none ↦ memory_refuses_nothing n d output none (refused d refl)
      | inr r ↦
          let q = refused d refl in
          let why : Refused same.0 ≡ Refused q.0 = sym same.1 ∙ ap (edit_stop n) (sym r.1) ∙ q.1 in
          let same_why : same.0 ≡ q.0 = cc in
          subst (λ (u : SessionValue). RepliesToEdit old (with_session old u) edit output) (sym r.0)
          (subst (λ (x : Result Applied Refusal). RepliesToEdit old old x output) (sym same.2)
          (replies_refused old same.0 output (q.2 ∙ ap Refuses (sym same_why)) editor))
    ]

on_err_ok : {X E : Type 0} (P : X → Type 0) (r : Result X E) → ((x : X) → r ≡ Ok x → P x) → IfOk r P
on_err_ok P (Ok x) h = h x refl
on_err_ok P (Err e) h = tt

at_ok : {X E : Type 0} (P : X → Type 0) (r : Result X E) (x : X) → r ≡ Ok x → IfOk r P → P x
at_ok P r x is h = subst (λ r. IfOk r P) is h

on_ok_if : {X Y E F : Type 0} (P : X → Type 0) (done : Result Y F) (r : Result X E) (x : X) → r ≡ Ok x → OnOk done (IfOk r P) → OnOk done (P x)
on_ok_if P (Ok y) r x is h = at_ok P r x is h
on_ok_if P (Err f) r x is h = tt

-- What is written of an edit is its reply.
pub edit_replied : {E : Type 0} (old : Editor) (t : SessionValue) (applied : Result Applied EditFault) (edit : Result Applied Refusal) (n : ℕ)
    (done : Result (Unit {0}) EditFault) (r : Result OutputLine E) → IsEditor old → Edits old.session t applied done → Matches n applied edit
    → KeepsValid old.field applied → OnOk done (IfOk r (λ output. output ≡ answered (session_of (with_session old t))))
    → ((d : EditFault) → done ≡ Err d → IfOk r (λ output. IsRefusalOf n d output)) → IfOk r (RepliesToEdit old (with_session old t) edit)
edit_replied old t applied edit n done r editor h same valid answer refused =
    on_err_ok (RepliesToEdit old (with_session old t) edit) r (λ output is.
    line_of_edit old t applied edit n done output editor h same valid
    (on_ok_if (λ output. output ≡ answered (session_of (with_session old t))) done r output is answer)
    (λ d e. at_ok (λ output. IsRefusalOf n d output) r output is (refused d e)))

-- ---- the steps of an edit

steps_within : (s : Session) (K : List Value) (a : Applied) → IsFit s.f s.query a.tree →
    a.cost + (if nat_lt s.limit (size_beside K s.query s.f a.tree) then nodes a.tree else 0) ≤ a.cost + afresh s K a.tree
unfolding afresh
steps_within s K a h = go (is_full s K a.tree) refl
  where
    go : (full : Bool) → is_full s K a.tree ≡ full →
        a.cost + (if nat_lt s.limit (size_beside K s.query s.f a.tree) then nodes a.tree else 0) ≤ a.cost + (if is_over_limit s a.tree || is_full s K a.tree then nodes a.tree else 0)
    go true p =
        let all : (if is_over_limit s a.tree || is_full s K a.tree then nodes a.tree else 0) ≡ nodes a.tree =
        ap (λ (b : Bool). if b then nodes a.tree else 0) (or_right (is_over_limit s a.tree) (is_full s K a.tree) p) in
        let here : (if nat_lt s.limit (size_beside K s.query s.f a.tree) then nodes a.tree else 0) ≡ nodes a.tree =
        ap (λ (b : Bool). if b then nodes a.tree else 0) (sym (full_is s K a.tree h) ∙ p) in
        omega (arith, all, here)
    go false p =
        let here : (if nat_lt s.limit (size_beside K s.query s.f a.tree) then nodes a.tree else 0) ≡ 0 =
        ap (λ (b : Bool). if b then nodes a.tree else 0) (sym (full_is s K a.tree h) ∙ p) in
        omega (arith, here)

pub edit_spent : (old : Editor) (applied : Result Applied EditFault) (edit : Result Applied Refusal) (n steps steps_new : ℕ) → IsEditor old → Matches n applied edit
    → KeepsValid old.field applied → steps_new ≤ steps + most_steps old.session applied → SpendsEdit old edit steps steps_new
edit_spent old (Ok a) edit n steps steps_new editor same valid h =
    let s = session_of old in
    let few = steps_within s (kept_of old) a (fit_of old a.tree editor valid) in
    let most : steps_new ≤ steps + (a.cost + (if nat_lt s.limit (size_beside (kept_of old) s.query s.f a.tree) then nodes a.tree else 0)) =
    at_field (λ (f : Field). steps_new ≤ steps + (a.cost + (if nat_lt s.limit (size_beside (kept_of old) s.query f a.tree) then nodes a.tree else 0))) old editor h in
    subst (λ (x : Result Applied Refusal). SpendsEdit old x steps steps_new) (sym same) (omega (arith, few, most))
edit_spent old (Err e) edit n steps steps_new editor same valid h =
    subst (λ (x : Result Applied Refusal). SpendsEdit old x steps steps_new) (sym same.2) (omega (arith, h))

-- ---- the edits of trees are those of jobs

weight_by : (n : ℕ) (T : Tree) (name : List ℕ) (w : ℤ) (b : Bool) (o : Option Path) →
    Matches n (if b then reweighted_at name w T o else Err (fault.UnknownName name))
    (require b (refusal.Unknown name) >> (found o (refusal.Unknown name) >>= λ path. Ok (record { tree = with_weight name w T; cost = length path + 1 })))
weight_by n T name w true None = (refusal.Unknown name, refl, refl)
weight_by n T name w true (Some path) = refl
weight_by n T name w false o = (refusal.Unknown name, refl, refl)

pub weight_matches : (n : ℕ) (T : Tree) (name : List ℕ) (w : ℤ) → Matches n (reweighted name w T) (another_weight T name w)
unfolding another_weight
weight_matches n T name w = weight_by n T name w (is_one_of name (element_names T)) (path_to name T)

weight_valid_by : (f : Field) (T : Tree) (name : List ℕ) (w : ℤ) (b : Bool) (o : Option Path) → IsValidTree f (with_weight name w T) →
    KeepsValid f (if b then reweighted_at name w T o else Err (fault.UnknownName name))
weight_valid_by f T name w true None v = tt
weight_valid_by f T name w true (Some path) v = v
weight_valid_by f T name w false o v = tt

-- a weight within its limit is read as it was written
pub weight_fits : (w : ℤ) → nat_abs w ≤ most_weight → to_z w64 (of_z w64 w) ≡ w
weight_fits (pos n) h = to_z-of_z w64 (pos n) (record { sfits = omega arith })
weight_fits (negsuc n) h = to_z-of_z w64 (negsuc n) (record { sfits = omega arith })

pub weight_valid : (f : Field) (T : Tree) (name : List ℕ) (w : ℤ) → nat_abs w ≤ most_weight → IsValidTree f T → KeepsValid f (reweighted name w T)
weight_valid f T name w light v = weight_valid_by f T name w (is_one_of name (element_names T)) (path_to name T) (valid_weight f name w T light v)

size_of_fault : (few shallow : Bool) → (if not few then Some tree.TooManyLeaves else (if not shallow then Some tree.TooDeep else None)) ≡ Some tree.NoMemory → ⊥
size_of_fault true true h = none-some tree.NoMemory h
size_of_fault true false h = let e : tree.TooDeep ≡ tree.NoMemory = same_Some _ _ h in cc
size_of_fault false shallow h = let e : tree.TooManyLeaves ≡ tree.NoMemory = same_Some _ _ h in cc

memory_by : (same : Bool) (m n : ℕ) (o : Option (List ℕ)) (few shallow : Bool) →
    (if not same then Some (tree.Boundary m n) else name_fault o (if not few then Some tree.TooManyLeaves else (if not shallow then Some tree.TooDeep else None))) ≡ Some tree.NoMemory → ⊥
memory_by false m n o few shallow h = let e : tree.Boundary m n ≡ tree.NoMemory = same_Some _ _ h in cc
memory_by true m n (Some x) few shallow h = let e : tree.NameTaken x ≡ tree.NoMemory = same_Some _ _ h in cc
memory_by true m n None few shallow h = size_of_fault few shallow h

-- want of memory is no fault of a tree
pub no_memory : (T new : Tree) (path : Path) → replace_fault T path new ≡ Some tree.NoMemory → ⊥
unfolding replace_fault
no_memory T new path h =
    memory_by (boundary (node_at T path) == boundary new) (boundary (node_at T path)) (boundary new) (first_taken _ (leaf_names new))
    (nat_le (length (leaf_names (with_node T path new))) most_leaves) (nat_le _ most_depth) h

exchange_by : (n : ℕ) (a : Applied) (o : Option ReplaceFault) → (o ≡ Some tree.NoMemory → ⊥) → Matches n (unless_fault o a) (unless (exchange_refusal n o) >> Ok a)
exchange_by n a None never = refl
exchange_by n a (Some (tree.Boundary old new)) never = (refusal.Boundary old new, refl, refl)
exchange_by n a (Some (tree.NameTaken name)) never = (refusal.Taken name, refl, refl)
exchange_by n a (Some tree.TooManyLeaves) never = (refusal.Over limit.Leaves n, refl, refl)
exchange_by n a (Some tree.TooDeep) never = (refusal.Over limit.Depth n, refl, refl)
exchange_by n a (Some tree.NoMemory) never = absurd (never refl)

above_is : (T : Tree) (name : List ℕ) (up : ℕ) (path : Path) → replaced_path T name up ≡ Ok path → path_above name up T ≡ Some path
unfolding replaced_path
above_is T name up path h = go (is_one_of name (leaf_names T)) (path_above name up T) h
  where
    go : (b : Bool) (o : Option Path) → (require b (refusal.Unknown name) >> found o (refusal.NoNode name up)) ≡ Ok path → o ≡ Some path
    go true (Some p) e = let same : p ≡ path = cc in ap Some same
    go true None e = let x : Err (refusal.NoNode name up) ≡ Ok path = e in absurd (cc)
    go false o e = let x : Err (refusal.Unknown name) ≡ Ok path = e in absurd (cc)

pub exchange_matches : (n : ℕ) (T new : Tree) (name : List ℕ) (up : ℕ) (path : Path) → replaced_path T name up ≡ Ok path →
    Matches n (edits.exchanged name up new T) (exchanged T path new n)
unfolding exchanged
exchange_matches n T new name up path h =
    subst (λ (o : Option Path). Matches n (exchanged_at name up new T o) (unless (exchange_refusal n (replace_fault T path new)) >> Ok (record { tree = with_node T path new; cost = length path + nodes new })))
    (sym (above_is T name up path h))
    (exchange_by n (record { tree = with_node T path new; cost = length path + nodes new }) (replace_fault T path new) (no_memory T new path))

exchange_valid_by : (f : Field) (a : Applied) (o : Option ReplaceFault) → (o ≡ None → IsValidTree f a.tree) → KeepsValid f (unless_fault o a)
exchange_valid_by f a None v = v refl
exchange_valid_by f a (Some e) v = tt

exchange_valid_at : (f : Field) (T new : Tree) (name : List ℕ) (up : ℕ) (o : Option Path) → IsValidTree f T → IsValidTree f new → KeepsValid f (exchanged_at name up new T o)
exchange_valid_at f T new name up None v w = tt
exchange_valid_at f T new name up (Some path) v w =
    exchange_valid_by f (record { tree = with_node T path new; cost = length path + nodes new }) (replace_fault T path new) (λ none. valid_exchange f T new path v w none)

pub exchange_valid : (f : Field) (T new : Tree) (name : List ℕ) (up : ℕ) → IsValidTree f T → IsValidTree f new → KeepsValid f (edits.exchanged name up new T)
exchange_valid f T new name up v w = exchange_valid_at f T new name up (path_above name up T) v w

-- what holds of a result for each path of a kind
pub for_each_path : {X E : Type 0} (At : Path → Type 0) (P : Path → X → Type 0) (r : Result X E) → ((path : Path) → At path → IfOk r (P path))
    → IfOk r (λ x. (path : Path) → At path → P path x)
for_each_path At P (Ok x) h = h
for_each_path At P (Err e) h = tt

-- ---- the node so many steps above a leaf

node_by : (T : Tree) (name : List ℕ) (up : ℕ) (place : Place) (b : Bool) (o : Option Path) → b ≡ true → Some place ≡ place_at_end T o
    → (path : Path) × ((require b (refusal.Unknown name) >> found o (refusal.NoNode name up)) ≡ Ok path)
node_by T name up place true (Some path) leaf at = (path, refl)
node_by T name up place true None leaf at = absurd (none-some place (sym at))
node_by T name up place false o leaf at = absurd (let e : false ≡ true = leaf in cc)

pub node_path : (T : Tree) (name : List ℕ) (up : ℕ) (place : Place) → is_one_of name (leaf_names T) ≡ true → Some place ≡ place_at_end T (path_above name up T)
    → (path : Path) × (replaced_path T name up ≡ Ok path)
unfolding replaced_path
node_path T name up place leaf at = node_by T name up place (is_one_of name (leaf_names T)) (path_above name up T) leaf at
