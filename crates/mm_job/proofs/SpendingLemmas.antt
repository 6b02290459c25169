-- Steps and work, line after line.
use Rattle.std.proofs.Common.{◌≡◌, ◌≤◌, ℕ, ◌+◌, List, [], ◌∷◌, ◌++◌, sym, ap, subst, ◌∙◌, arith}
use Rattle.mm_job.specs.State.Spending.{Spends, SpendsAtMost}
use Rattle.mm_lines.specs.declared.line.Line.{Line}

-- no line, and no step
pub spends_none : (before : List Line → ℕ) (lines rest : List Line) (steps : ℕ) → lines ≡ rest → Spends before before lines rest steps steps
spends_none before lines rest steps is = record { work = 0; within = omega arith; same = λ rs. let e : before (rest ++ rs) ≡ 0 + before (rest ++ rs) = omega arith in ap (λ (l : List Line). before (l ++ rs)) is ∙ e }

-- a line that does nothing by itself
pub spends_nothing : (before after : List Line → ℕ) (r : Line) (steps : ℕ) → ((rs : List Line) → before (r ∷ rs) ≡ after rs) → Spends before after (r ∷ []) [] steps steps
spends_nothing before after r steps h = record { work = 0; within = omega arith; same = λ rs. let e : after rs ≡ 0 + after rs = omega arith in h rs ∙ e }

pub most_none : (before : List Line → ℕ) (lines : List Line) (steps : ℕ) → SpendsAtMost before lines steps steps
most_none before lines steps rs = omega arith

-- what was spent is at most all
pub most_of_spends : (before after : List Line → ℕ) (lines rest : List Line) (steps steps_new : ℕ) → Spends before after lines rest steps steps_new → SpendsAtMost before lines steps steps_new
most_of_spends before after lines rest steps steps_new h rs = let all = h.same rs in let few = h.within in omega (arith, all, few)

-- ---- the first of the lines that are left

pub spends_left : (before after : List Line → ℕ) (lines : List Line) (r : Line) (rest : List Line) (steps steps_new : ℕ) → lines ≡ r ∷ rest
    → Spends before after (r ∷ []) [] steps steps_new → Spends before after lines rest steps steps_new
spends_left before after lines r rest steps steps_new is h =
    record { work = h.work; within = h.within; same = λ rs. ap (λ (l : List Line). before (l ++ rs)) is ∙ h.same (rest ++ rs) }

pub most_left : (before : List Line → ℕ) (lines : List Line) (r : Line) (rest : List Line) (steps steps_new : ℕ) → lines ≡ r ∷ rest
    → SpendsAtMost before (r ∷ []) steps steps_new → SpendsAtMost before lines steps steps_new
most_left before lines r rest steps steps_new is h rs = subst (λ (l : List Line). steps_new ≤ steps + before (l ++ rs)) (sym is) (h (rest ++ rs))

-- ---- one after another

pub spends_then : (first second third : List Line → ℕ) (lines more rest : List Line) (steps steps_now steps_new : ℕ) → Spends first second lines more steps steps_now
    → Spends second third more rest steps_now steps_new → Spends first third lines rest steps steps_new
spends_then first second third lines more rest steps steps_now steps_new a b =
    let one = a.within in
    let two = b.within in
    record {
      work = a.work + b.work;
      within = omega (arith, one, two);
      same = λ rs. let x = a.same rs in let y = b.same rs in omega (arith, x, y);
    }

pub most_then : (first second : List Line → ℕ) (lines more : List Line) (steps steps_now steps_new : ℕ) → Spends first second lines more steps steps_now
    → SpendsAtMost second more steps_now steps_new → SpendsAtMost first lines steps steps_new
most_then first second lines more steps steps_now steps_new a b rs =
    let one = a.within in
    let all = a.same rs in
    let two = b rs in
    omega (arith, one, all, two)
