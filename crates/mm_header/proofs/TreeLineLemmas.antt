-- A line of a tree is refused where a builder refuses it, and builds what the builder builds.
use Rattle.std.proofs.Common.{◌≡◌, ℕ, ◌+◌, ◌<◌, ◌≤◌, nat_abs, nat_le, nat_lt, Bool, true, false, List, [], ◌∷◌, length, Option, Some, None, ℤ, refl, sym, ap, ◌∙◌, subst, arith, length-append, append_assoc}
use Rattle.std.specs.Prelude.{Ok, Err, OnOk, OnErr, if◌then◌else◌}
use Rattle.std.specs.declared.result.Result.{Result}
use Rattle.std.proofs.lemmas.Bool.{leb-true, leb-false}
use Rattle.mm_field.specs.declared.Field.{Field}
use Rattle.mm_field.specs.Vectors.{AreDigits}
use Rattle.mm_header.specs.State.TreeStates.{IsCounted, counted, leaf_answer, stop_of, stopped}
use Rattle.mm_lines.specs.Numbers.{i64_of, u32_of}
use Rattle.mm_lines.specs.declared.line.Line.{Line}
use Rattle.mm_ops.specs.OpValue.{OpValue}
use Rattle.mm_ops.specs.Tables.{OperatorList, op_named}
use Rattle.mm_tree.specs.Building.{Answers, BuilderValue, joined_by, leaf_fault, named_fault, names_in}
use Rattle.mm_tree.specs.NamedTree.{Tree, leaf_names}
use Rattle.mm_tree.specs.NamedTree.Tree.{Elem, Void}
use Rattle.mm_tree.specs.ValidTree.{most_leaves, most_weight}
use Rattle.mm_tree.specs.declared.builder.BuildFault.{BuildFault}
use Rattle.mm_tree.specs.declared.builder.BuildFault.TheVariants as fault
use Rattle.mm_tree.proofs.BuilderLemmas.{free_parts}
use Rattle.mm_job_text.specs.Arguments.{args, three_of, two_of}
use Rattle.mm_job_text.specs.Becoming.{Becomes}
use Rattle.mm_job_text.specs.Checks.{◌>>=◌, ◌>>◌, require, found, unless}
use Rattle.mm_space.specs.DigitTexts.{vector_of}
use Rattle.mm_job_text.specs.TreeLines.{elem_line, elem_fields, join_line, join_fields, most_boundary, tree_refusal, void_line, void_fields, with_leaf}
use Rattle.mm_job_text.specs.declared.refusal.Limit.TheVariants as limit
use Rattle.mm_job_text.specs.declared.refusal.Refusal.{Refusal}
use Rattle.mm_job_text.specs.declared.refusal.Refusal.TheVariants as refusal
use Rattle.mm_job_text.specs.declared.refusal.Stop.TheVariants as stop
use Rattle.mm_job_text.specs.declared.tree_lines.ElementLine.{ElementLine}
use Rattle.mm_job_text.specs.declared.tree_lines.VoidLine.{VoidLine}
use Rattle.mm_space.proofs.DigitTextLemmas.{text_of_vector}
use Rattle.mm_header.proofs.KeptLemmas.{same_value}

-- ---- what is answered to a leaf

-- the line of a leaf, by the fault of a builder
abbrev leaf_result : {A : Type 0} → (most before n : ℕ) → Option BuildFault → A → Result A Refusal
leaf_result most before n o x = unless (tree_refusal n o) >> (require (nat_lt before most) (refusal.Over limit.Leaves n) >> Ok x)

refused_leaf : {Y : Type 0} (most before n : ℕ) (e : BuildFault) (o : Option BuildFault) (x new : Y) → Answers (Err e) o
    → Becomes {X = Unit {0}} (Err (stop_of n e)) new (leaf_result most before n o x)
refused_leaf most before n (fault.UnknownOp name) o x new h = ap (λ p. leaf_result most before n p x) h
refused_leaf most before n fault.TooFew o x new h = ap (λ p. leaf_result most before n p x) h
refused_leaf most before n (fault.Boundary a b) o x new h = ap (λ p. leaf_result most before n p x) h
refused_leaf most before n (fault.NameTaken name) o x new h = ap (λ p. leaf_result most before n p x) h
refused_leaf most before n fault.TooManyLeaves o x new h = ap (λ p. leaf_result most before n p x) h
refused_leaf most before n fault.TooDeep o x new h = ap (λ p. leaf_result most before n p x) h
refused_leaf most before n fault.NoMemory o x new h = tt

room_for : {Y : Type 0} (most before n : ℕ) (c : Bool) (x new : Y) → nat_lt before most ≡ c → new ≡ x
    → Becomes {X = Unit {0}} (if c then Ok tt else Err (stop.Refused (refusal.Over limit.Leaves n))) new (require c (refusal.Over limit.Leaves n) >> Ok x)
room_for most before n true x new h is = ap Ok (sym is)
room_for most before n false x new h is = refl

answered_leaf : {Y : Type 0} (most before n : ℕ) (r : Result (Unit {0}) BuildFault) (o : Option BuildFault) (x new : Y) → Answers r o → OnOk r (new ≡ x)
    → Becomes (leaf_answer most before n r) new (leaf_result most before n o x)
answered_leaf most before n (Ok u) o x new h is =
    subst (λ (p : Option BuildFault). Becomes (leaf_answer most before n (Ok u)) new (leaf_result most before n p x)) (sym h)
    (room_for most before n (nat_lt before most) x new refl is)
answered_leaf most before n (Err e) o x new h is = refused_leaf most before n e o x new h

-- the trees of a builder that took a tree
took : (r : Result (Unit {0}) BuildFault) (old new : BuilderValue) (trees : List Tree) → OnOk r (new ≡ record old { trees = trees }) → OnOk r (new.trees ≡ trees)
took (Ok u) old new trees h = ap (λ (b : BuilderValue). b.trees) h
took (Err e) old new trees h = tt

-- a leaf that was added, or refused
leaf_taken : (most before n : ℕ) (old new : BuilderValue) (name : List ℕ) (leaf : Tree) (r : Result (Unit {0}) BuildFault) → Answers r (leaf_fault name old.trees)
    → OnOk r (new ≡ record old { trees = leaf ∷ old.trees }) → before ≡ length (names_in old.trees)
    → Becomes (leaf_answer most before n r) new.trees (with_leaf most n old.trees name leaf)
leaf_taken most before n old new name leaf r h made is =
    subst (λ (k : ℕ). Becomes (leaf_answer most before n r) new.trees (leaf_result most k n (leaf_fault name old.trees) (leaf ∷ old.trees))) is
    (answered_leaf most before n r (leaf_fault name old.trees) (leaf ∷ old.trees) new.trees h (took r old new (leaf ∷ old.trees) made))

pub element_taken : (most before : ℕ) (f : Field) (old new : BuilderValue) (line : Line) (w : ElementLine) (r : Result (Unit {0}) BuildFault) → Ok w ≡ elem_fields f line
    → Answers r (leaf_fault w.name old.trees) → OnOk r (new ≡ record old { trees = Elem w.name w.vec w.weight ∷ old.trees }) → before ≡ length (names_in old.trees)
    → Becomes (leaf_answer most before line.number r) new.trees (elem_line most f old.trees line)
unfolding elem_line
element_taken most before f old new line w r is h made count =
    subst (λ (o : Result (List Tree) Refusal). Becomes (leaf_answer most before line.number r) new.trees o)
    (ap (λ (o : Result ElementLine Refusal). o >>= λ w. with_leaf most line.number old.trees w.name (Elem w.name w.vec w.weight)) is)
    (leaf_taken most before line.number old new w.name (Elem w.name w.vec w.weight) r h made count)

pub element_refused : (most : ℕ) (f : Field) (trees : List Tree) (line : Line) (e : Refusal) → Err e ≡ elem_fields f line → elem_line most f trees line ≡ Err e
unfolding elem_line
element_refused most f trees line e is = ap (λ (o : Result ElementLine Refusal). o >>= λ w. with_leaf most line.number trees w.name (Elem w.name w.vec w.weight)) (sym is)

pub void_taken : (most before : ℕ) (old new : BuilderValue) (line : Line) (w : VoidLine) (r : Result (Unit {0}) BuildFault) → Ok w ≡ void_fields line
    → Answers r (leaf_fault w.name old.trees) → OnOk r (new ≡ record old { trees = Void w.name w.t ∷ old.trees }) → before ≡ length (names_in old.trees)
    → Becomes (leaf_answer most before line.number r) new.trees (void_line most old.trees line)
unfolding void_line
void_taken most before old new line w r is h made count =
    subst (λ (o : Result (List Tree) Refusal). Becomes (leaf_answer most before line.number r) new.trees o)
    (ap (λ (o : Result VoidLine Refusal). o >>= λ w. with_leaf most line.number old.trees w.name (Void w.name w.t)) is)
    (leaf_taken most before line.number old new w.name (Void w.name w.t) r h made count)

pub void_refused : (most : ℕ) (trees : List Tree) (line : Line) (e : Refusal) → Err e ≡ void_fields line → void_line most trees line ≡ Err e
unfolding void_line
void_refused most trees line e is = ap (λ (o : Result VoidLine Refusal). o >>= λ w. with_leaf most line.number trees w.name (Void w.name w.t)) (sym is)

-- ---- what is answered to a join

refused_join : {Y : Type 0} (n : ℕ) (e : BuildFault) (o : Option BuildFault) (x new : Y) → Answers (Err e) o
    → Becomes {X = Unit {0}} (Err (stop_of n e)) new (unless (tree_refusal n o) >> Ok x)
refused_join n (fault.UnknownOp name) o x new h = ap (λ p. unless (tree_refusal n p) >> Ok x) h
refused_join n fault.TooFew o x new h = ap (λ p. unless (tree_refusal n p) >> Ok x) h
refused_join n (fault.Boundary a b) o x new h = ap (λ p. unless (tree_refusal n p) >> Ok x) h
refused_join n (fault.NameTaken name) o x new h = ap (λ p. unless (tree_refusal n p) >> Ok x) h
refused_join n fault.TooManyLeaves o x new h = ap (λ p. unless (tree_refusal n p) >> Ok x) h
refused_join n fault.TooDeep o x new h = ap (λ p. unless (tree_refusal n p) >> Ok x) h
refused_join n fault.NoMemory o x new h = tt

answered_join : {Y : Type 0} (n : ℕ) (r : Result (Unit {0}) BuildFault) (o : Option BuildFault) (x new : Y) → Answers r o → OnOk r (new ≡ x)
    → Becomes (stopped n r) new (unless (tree_refusal n o) >> Ok x)
answered_join n (Ok u) o x new h is = ap (λ p. unless (tree_refusal n p) >> Ok x) h ∙ ap Ok (sym is)
answered_join n (Err e) o x new h is = refused_join n e o x new h

-- what is left of a join after its words
abbrev join_after : ℕ → OperatorList → List Tree → List ℕ → Result (List Tree) Refusal
join_after n ops trees name = unless (tree_refusal n (named_fault name (op_named name ops) trees)) >> Ok (joined_by name (op_named name ops) trees)

pub join_taken : (ops : OperatorList) (old new : BuilderValue) (line : Line) (name : List ℕ) (r : Result (Unit {0}) BuildFault) → Ok name ≡ join_fields line
    → Answers r (named_fault name (op_named name ops) old.trees) → OnOk r (new ≡ record old { trees = joined_by name (op_named name ops) old.trees })
    → Becomes (stopped line.number r) new.trees (join_line ops old.trees line)
unfolding join_line
join_taken ops old new line name r is h made =
    let trees = joined_by name (op_named name ops) old.trees in
    subst (λ (o : Result (List Tree) Refusal). Becomes (stopped line.number r) new.trees o) (ap (λ (o : Result (List ℕ) Refusal). o >>= join_after line.number ops old.trees) is)
    (answered_join line.number r (named_fault name (op_named name ops) old.trees) trees new.trees h (took r old new trees made))

pub join_refused : (ops : OperatorList) (trees : List Tree) (line : Line) (e : Refusal) → Err e ≡ join_fields line → join_line ops trees line ≡ Err e
unfolding join_line
join_refused ops trees line e is = ap (λ (o : Result (List ℕ) Refusal). o >>= join_after line.number ops trees) (sym is)

-- ---- the leaves stay counted

free_leaf : (name : List ℕ) (trees : List Tree) → leaf_fault name trees ≡ None → length (names_in trees) < most_leaves
free_leaf name trees h = leb-false most_leaves (length (names_in trees)) (free_parts name trees h).1

one_more : (leaves : ℕ) (trees : List Tree) (name : List ℕ) (leaf : Tree) → leaf_names leaf ≡ name ∷ [] → leaf_fault name trees ≡ None → IsCounted leaves trees → IsCounted (leaves + 1) (leaf ∷ trees)
one_more leaves trees name leaf one free h =
    let room = free_leaf name trees free in
    record {
      count = omega (arith, h.count, length-append (names_in trees) (leaf_names leaf), ap length one);
      few = omega (arith, h.count, room);
    }

leaf_counted : (leaves : ℕ) (old new : BuilderValue) (name : List ℕ) (leaf : Tree) (r : Result (Unit {0}) BuildFault) → leaf_names leaf ≡ name ∷ []
    → Answers r (leaf_fault name old.trees) → OnOk r (new ≡ record old { trees = leaf ∷ old.trees }) → OnErr r (new ≡ old) → IsCounted leaves old.trees → IsCounted (counted leaves r) new.trees
leaf_counted leaves old new name leaf (Ok u) one h made same c =
    subst (λ (b : BuilderValue). IsCounted (leaves + 1) b.trees) (sym made) (one_more leaves old.trees name leaf one h c)
leaf_counted leaves old new name leaf (Err e) one h made same c = subst (λ (b : BuilderValue). IsCounted leaves b.trees) (sym same) c

pub element_counted : (leaves : ℕ) (old new : BuilderValue) (name vec : List ℕ) (weight : ℤ) (r : Result (Unit {0}) BuildFault)
    → Answers r (leaf_fault name old.trees) → OnOk r (new ≡ record old { trees = Elem name vec weight ∷ old.trees }) → OnErr r (new ≡ old) → IsCounted leaves old.trees → IsCounted (counted leaves r) new.trees
unfolding leaf_names
element_counted leaves old new name vec weight r = leaf_counted leaves old new name (Elem name vec weight) r refl

pub void_counted : (leaves : ℕ) (old new : BuilderValue) (name : List ℕ) (t : ℕ) (r : Result (Unit {0}) BuildFault)
    → Answers r (leaf_fault name old.trees) → OnOk r (new ≡ record old { trees = Void name t ∷ old.trees }) → OnErr r (new ≡ old) → IsCounted leaves old.trees → IsCounted (counted leaves r) new.trees
unfolding leaf_names
void_counted leaves old new name t r = leaf_counted leaves old new name (Void name t) r refl

joined_names : (name : List ℕ) (o : Option OpValue) (trees : List Tree) → length (names_in (joined_by name o trees)) ≡ length (names_in trees)
unfolding leaf_names
joined_names name None trees = refl
joined_names name (Some op) [] = refl
joined_names name (Some op) (tree ∷ []) = refl
joined_names name (Some op) (right ∷ left ∷ trees) = ap length (sym (append_assoc (names_in trees) (leaf_names left) (leaf_names right)))

pub join_counted : (leaves : ℕ) (old new : BuilderValue) (name : List ℕ) (o : Option OpValue) (r : Result (Unit {0}) BuildFault)
    → OnOk r (new ≡ record old { trees = joined_by name o old.trees }) → OnErr r (new ≡ old) → IsCounted leaves old.trees → IsCounted leaves new.trees
join_counted leaves old new name o (Ok u) made same c =
    subst (λ (b : BuilderValue). IsCounted leaves b.trees) (sym made) (record { count = c.count ∙ sym (joined_names name o old.trees); few = c.few })
join_counted leaves old new name o (Err e) made same c = subst (λ (b : BuilderValue). IsCounted leaves b.trees) (sym same) c

-- ---- what the words of a leaf keep

found_is : {A B : Type 0} (o : Option A) (e : Refusal) (k : A → Result B Refusal) (y : B) → (found o e >>= k) ≡ Ok y → (x : A) × (o ≡ Some x) × (k x ≡ Ok y)
found_is None e k y h = absurd (let n : Err e ≡ Ok y = h in cc)
found_is (Some x) e k y h = (x, refl, h)

require_is : {B : Type 0} (b : Bool) (e : Refusal) (k : Result B Refusal) (y : B) → (require b e >> k) ≡ Ok y → (b ≡ true) × (k ≡ Ok y)
require_is true e k y h = (refl, h)
require_is false e k y h = absurd (let n : Err e ≡ Ok y = h in cc)

-- The words of an element are over the field, short and light.
pub record IsElement (f : Field) (w : ElementLine) : Type 0 where
  pub digits : AreDigits f w.vec
  pub short : length w.vec ≤ 6
  pub light : nat_abs w.weight ≤ most_weight

pub element_kept : (f : Field) (line : Line) (w : ElementLine) → Ok w ≡ elem_fields f line → IsElement f w
unfolding elem_fields found_is
element_kept f line w h =
    let t = found_is (three_of (args line)) (refusal.Syntax line.number) _ w (sym h) in
    let named = require_is _ (refusal.Syntax line.number) _ w t.2 in
    let vec = found_is (vector_of f t.0.1) (refusal.Syntax line.number) _ w named.1 in
    let weight = found_is (i64_of t.0.2) (refusal.Syntax line.number) _ w vec.2 in
    let short = require_is (nat_le (length vec.0) most_boundary) (refusal.Over limit.Boundary line.number) _ w weight.2 in
    let light = require_is (nat_le (nat_abs weight.0) most_weight) (refusal.Over limit.Weight line.number) _ w short.1 in
    subst (λ (v : ElementLine). IsElement f v) (same_value _ w light.1)
    (record {
      digits = (text_of_vector f t.0.1 vec.0 vec.1).digits;
      short = leb-true (length vec.0) 6 short.0;
      light = leb-true (nat_abs weight.0) most_weight light.0;
    })

pub element_light : (f : Field) (line : Line) (w : ElementLine) → Ok w ≡ elem_fields f line → nat_abs w.weight ≤ most_weight
element_light f line w h = (element_kept f line w h).light

pub void_kept : (line : Line) (w : VoidLine) → Ok w ≡ void_fields line → w.t ≤ 6
unfolding void_fields found_is
void_kept line w h =
    let t = found_is (two_of (args line)) (refusal.Syntax line.number) _ w (sym h) in
    let named = require_is _ (refusal.Syntax line.number) _ w t.2 in
    let b = found_is (u32_of t.0.1) (refusal.Syntax line.number) _ w named.1 in
    let short = require_is (nat_le b.0 most_boundary) (refusal.Over limit.Boundary line.number) _ w b.2 in
    subst (λ (v : VoidLine). v.t ≤ 6) (same_value _ w short.1) (leb-true b.0 6 short.0)
