-- Readers of lines: each takes some lines from the front of a list.
use Rattle.std.specs.Prelude.{Bool, List, [], ◌∷◌, Option, Some, None, Ok, Err, if◌then◌else◌}
use Rattle.std.specs.declared.result.Result.{Result}
use Rattle.mm_lines.specs.declared.line.Line.{Line}
use Rattle.mm_job_text.specs.Arguments.{too_long}
use Rattle.mm_job_text.specs.declared.refusal.Refusal.{Refusal}

-- What a reader makes of some lines: a value and the lines after it; or the refusal of the first line that is faulty; or
-- nothing yet, where no line is faulty and they are too few.
pub data Reading (A : Type 0) : Type 0 where
  Read : A → List Line → Reading A
  Refused : Refusal → Reading A
  Short : Reading A

abbrev pub Reader : Type 0 → Type 0
Reader A = List Line → Reading A

abbrev pub and_then : {A B : Type 0} → Reading A → (A → Reader B) → Reading B
and_then (Read x rest) f = f x rest
and_then (Refused e) f = Refused e
and_then Short f = Short

-- One reader, and then another of what it read.
infixl 10 ◌>>=◌ ◌>>◌
abbrev pub ◌>>=◌ : {A B : Type 0} → Reader A → (A → Reader B) → Reader B
(p >>= f) rs = and_then (p rs) f

abbrev pub ◌>>◌ : {A B : Type 0} → Reader A → Reader B → Reader B
(p >> next) rs = and_then (p rs) (λ x. next)

-- What is read without a line more, or its refusal.
abbrev pub now : {A : Type 0} → Result A Refusal → Reader A
now (Ok x) rs = Read x rs
now (Err e) rs = Refused e

abbrev pub refused_or : {A : Type 0} → Option Refusal → Result A Refusal → Result A Refusal
refused_or None x = x
refused_or (Some e) x = Err e

-- A line that is not too long.
abbrev pub whole : {A : Type 0} → (Line → Result A Refusal) → Line → Result A Refusal
whole f r = refused_or (too_long r.text r.number) (f r)

-- One line.
abbrev pub line : {A : Type 0} → (Line → Result A Refusal) → Reader A
line f [] = Short
line f (r ∷ rs) = now (whole f r) rs

abbrev pub goes_on : {A B : Type 0} → Result A Refusal → (A → Reading B) → Reading B
goes_on (Ok x) next = next x
goes_on (Err e) next = Refused e

-- All lines at the front that pass a test, each of which adds to what is there.
abbrev pub each : {A : Type 0} → (Line → Bool) → (A → Line → Result A Refusal) → A → Reader A
each test f x [] = Short
each test f x (r ∷ rs) = if test r then goes_on (f x r) (λ y. each test f y rs) else Read x (r ∷ rs)
