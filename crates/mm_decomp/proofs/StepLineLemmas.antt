-- A line of a shape is refused where a builder refuses it, and adds the step that the builder adds.
use Rattle.std.proofs.Common.{ℕ, ◌≡◌, Bool, true, false, [], ◌∷◌, ◌++◌, Option, None, sym, ap, ◌∙◌, subst}
use Rattle.std.specs.Prelude.{Ok, Err, codes}
use Rattle.std.specs.declared.result.Result.{Result}
use Rattle.mm_lines.specs.declared.line.Line.{Line}
use Rattle.mm_job_text.specs.Arguments.{is_word}
use Rattle.mm_job_text.specs.Becoming.{UnlessMemory}
use Rattle.mm_job_text.specs.Checks.{◌>>=◌, ◌>>◌, require, unless}
use Rattle.mm_job_text.specs.declared.refusal.Refusal.{Refusal}
use Rattle.mm_job_text.specs.declared.refusal.Refusal.TheVariants as refusal
use Rattle.mm_job_text.specs.declared.refusal.Stop.{Stop}
use Rattle.mm_decomp.specs.BuildLines.{StepLines, leaf_fields, leaf_line, join_line, shape_refusal, with_step}
use Rattle.mm_decomp.specs.BuildStates.{stop_of}
use Rattle.mm_decomp.specs.ShapeBuilding.{Answers, AnswersExactly, leaf_fault, join_fault}
use Rattle.mm_decomp.specs.declared.build_lines.LeafLine.{LeafLine}
use Rattle.mm_decomp.specs.declared.shape.Step.TheVariants as steps
use Rattle.mm_decomp.specs.declared.shape_builder.ShapeFault.{ShapeFault}
use Rattle.mm_decomp.specs.declared.shape_builder.ShapeFault.TheVariants as fault

-- a refusal, unless memory ran out
abbrev pub Refuses : {Y : Type 0} → Stop → Result Y Refusal → Type 0
Refuses s read = UnlessMemory {X = Unit {0}} (Err s) (λ u. Unit {0}) (λ e. read ≡ Err e)

abbrev by_fault : {Y : Type 0} → ℕ → Option ShapeFault → Y → Result Y Refusal
by_fault n o x = unless (shape_refusal n o) >> Ok x

refused : {Y : Type 0} (n : ℕ) (e : ShapeFault) (o : Option ShapeFault) (x : Y) → Answers (Err e) o → Refuses (stop_of n e) (by_fault n o x)
refused n (fault.NameTaken name) o x h = ap (λ p. by_fault n p x) h
refused n fault.TooManyLeaves o x h = ap (λ p. by_fault n p x) h
refused n fault.TooFew o x h = ap (λ p. by_fault n p x) h
refused n fault.TooDeep o x h = ap (λ p. by_fault n p x) h
refused n fault.NoMemory o x h = tt

inexact : (e : ShapeFault) (o : Option ShapeFault) → AnswersExactly (Err e) o → Answers (Err e) o
inexact (fault.NameTaken name) o h = h
inexact fault.TooManyLeaves o h = h
inexact fault.TooFew o h = h
inexact fault.TooDeep o h = h
inexact fault.NoMemory o h = tt

pub refuses : {Y : Type 0} (s : Stop) (n : ℕ) (e : ShapeFault) (read : Result Y Refusal) (taken : Unit {0} → Type 0) → s ≡ stop_of n e →
    Refuses (stop_of n e) read → UnlessMemory {X = Unit {0}} (Err s) taken (λ e. read ≡ Err e)
refuses s n e read taken q h = subst (λ s. UnlessMemory {X = Unit {0}} (Err s) taken (λ e. read ≡ Err e)) (sym q) (go e h)
  where
    go : (e : ShapeFault) → Refuses (stop_of n e) read → UnlessMemory {X = Unit {0}} (Err (stop_of n e)) taken (λ e. read ≡ Err e)
    go (fault.NameTaken name) h = h
    go fault.TooManyLeaves h = h
    go fault.TooFew h = h
    go fault.TooDeep h = h
    go fault.NoMemory h = h

-- ---- leaves

abbrev leaf_of : StepLines → Line → LeafLine → Result StepLines Refusal
leaf_of s r w = by_fault r.number (leaf_fault w.name s.steps) (with_step s (steps.Leaf w.name w.weight) r.number)

leaf_read : (s : StepLines) (r : Line) (w : LeafLine) → Ok w ≡ leaf_fields r → leaf_line s r ≡ leaf_of s r w
unfolding leaf_line
leaf_read s r w e = ap (λ o. o >>= leaf_of s r) (sym e)

pub leaf_unread : (s : StepLines) (r : Line) (e : Refusal) → Err e ≡ leaf_fields r → leaf_line s r ≡ Err e
unfolding leaf_line
leaf_unread s r e h = ap (λ o. o >>= leaf_of s r) (sym h)

pub leaf_refused : (s : StepLines) (r : Line) (w : LeafLine) (e : ShapeFault) → Ok w ≡ leaf_fields r → Answers (Err e) (leaf_fault w.name s.steps) →
    Refuses (stop_of r.number e) (leaf_line s r)
leaf_refused s r w e h a =
    subst (λ o. Refuses (stop_of r.number e) o) (sym (leaf_read s r w h))
    (refused r.number e (leaf_fault w.name s.steps) (with_step s (steps.Leaf w.name w.weight) r.number) a)

pub leaf_taken : (s new : StepLines) (r : Line) (w : LeafLine) → Ok w ≡ leaf_fields r → leaf_fault w.name s.steps ≡ None →
    new.steps ≡ s.steps ++ steps.Leaf w.name w.weight ∷ [] → new.numbers ≡ s.numbers ++ r.number ∷ [] → leaf_line s r ≡ Ok new
leaf_taken s new r w h a es en =
    leaf_read s r w h ∙ ap (λ o. by_fault r.number o (with_step s (steps.Leaf w.name w.weight) r.number)) a ∙ ap Ok (λ i. record { steps = sym es i; numbers = sym en i })

-- ---- joins

abbrev join_of : StepLines → Line → Bool → Result StepLines Refusal
join_of s r b = require b (refusal.Syntax r.number) >> by_fault r.number (join_fault s.steps) (with_step s steps.Join r.number)

join_read : (s : StepLines) (r : Line) (b : Bool) → is_word (codes "join") r ≡ b → join_line s r ≡ join_of s r b
unfolding join_line
join_read s r b e = ap (join_of s r) e

pub join_unread : (s : StepLines) (r : Line) → is_word (codes "join") r ≡ false → join_line s r ≡ Err (refusal.Syntax r.number)
join_unread s r e = join_read s r false e

pub join_refused : (s : StepLines) (r : Line) (e : ShapeFault) → is_word (codes "join") r ≡ true → AnswersExactly (Err e) (join_fault s.steps) →
    Refuses (stop_of r.number e) (join_line s r)
join_refused s r e h a =
    subst (λ o. Refuses (stop_of r.number e) o) (sym (join_read s r true h))
    (refused r.number e (join_fault s.steps) (with_step s steps.Join r.number) (inexact e (join_fault s.steps) a))

pub join_taken : (s new : StepLines) (r : Line) → is_word (codes "join") r ≡ true → join_fault s.steps ≡ None →
    new.steps ≡ s.steps ++ steps.Join ∷ [] → new.numbers ≡ s.numbers ++ r.number ∷ [] → join_line s r ≡ Ok new
join_taken s new r h a es en =
    join_read s r true h ∙ ap (λ o. by_fault r.number o (with_step s steps.Join r.number)) a ∙ ap Ok (λ i. record { steps = sym es i; numbers = sym en i })
