-- How a job ends: its status is an end, and what was taken of its text is enough.
use Rattle.std.proofs.Common.{◌≡◌, inl, inr, ℕ, ◌+◌, ◌≤◌, Bool, true, false, List, [], ◌∷◌, length, Option, refl, sym, ap, arith}
use Rattle.std.specs.Prelude.{if◌then◌else◌}
use Rattle.std.specs.List.{list_any}
use borrow.Author.Tests.{ltb-true}
use Rattle.mm_base.specs.declared.status.Status.{Status}
use Rattle.mm_base.specs.declared.status.Status.TheVariants as status
use Rattle.mm_lines.specs.Lines.{is_over, most_bytes}
use Rattle.mm_job.specs.Jobs.{begins_refused, progress}
use Rattle.mm_job.specs.Output.{settled_lines, is_refusal, status_of}
use Rattle.mm_job.specs.declared.progress.Progress.{Progress}
use Rattle.mm_job.specs.declared.progress.Progress.TheVariants.{Ended, More}
use Rattle.mm_job.specs.declared.output_line.OutputLine.{OutputLine}
use Rattle.mm_job.specs.Settings.{Settings}
use Rattle.mm_cli.specs.Runs.{IsEnd, IsEnough}

abbrev ended_with : Progress → Status
ended_with (Ended s) = s
ended_with More = status.Done

-- Why a job ended.
pub data Why (settings : Settings) (a : List ℕ) (s : Status) : Type 0 where
  refused : begins_refused (settled_lines a settings) ≡ true → status.Refused ≡ s → Why settings a s
  over : is_over a ≡ true → status.EditRefused ≡ s → Why settings a s

pub why : (settings : Settings) (a : List ℕ) (s : Status) → progress a settings ≡ Ended s → Why settings a s
why settings a s e = go (begins_refused (settled_lines a settings)) (is_over a) refl refl e
  where
    go : (r o : Bool) → begins_refused (settled_lines a settings) ≡ r → is_over a ≡ o
        → (if r then Ended status.Refused else (if o then Ended status.EditRefused else More)) ≡ Ended s → Why settings a s
    go true o p q x = refused p (ap ended_with x)
    go false true p q x = over q (ap ended_with x)
    go false false p q x = cc

-- What was taken then is enough, where it is at most one byte more than is used.
pub ended_is_enough : (settings : Settings) (a : List ℕ) (left : Option (List ℕ)) (s : Status) → length a ≤ most_bytes + 1 → progress a settings ≡ Ended s
    → IsEnough settings a left
ended_is_enough settings a left s l e = elim (why settings a s e) [
  | refused h p ↦ inr (inl h)
  | over h p ↦ inr (inr (omega (arith, l, ltb-true most_bytes (length a) h)))
]

-- The status of any lines is an end.
pub end_ends : (output_line : List OutputLine) → IsEnd (status_of output_line)
end_ends [] = inl refl
end_ends (first ∷ rest) = go (is_refusal first) (list_any is_refusal rest)
  where
    go : (r o : Bool) → IsEnd (if r then status.Refused else (if o then status.EditRefused else status.Done))
    go true o = inr (inl refl)
    go false true = inr (inr refl)
    go false false = inl refl

-- And so is the one that a job ended with.
pub ended_ends : (settings : Settings) (a : List ℕ) (s : Status) → progress a settings ≡ Ended s → IsEnd s
ended_ends settings a s e = elim (why settings a s e) [
  | refused h p ↦ inr (inl (sym p))
  | over h p ↦ inr (inr (sym p))
]
