-- The output of a job is one line or more, each ended by a newline.
use Rattle.std.proofs.Common.{◌≡◌, ℕ, Bool, true, false, List, [], ◌∷◌, ◌++◌, length, Some, refl, sym, ap, ◌∙◌, subst, append_assoc, arith}
use Rattle.std.specs.Prelude.{slice_get, if◌then◌else◌, codes}
use Rattle.std.proofs.lemmas.List.{append-nil, length-append}
use Rattle.mm_lines.specs.Lines.{is_over, lines}
use Rattle.mm_job_text.specs.Readers.{Reading, Read, Refused, Short}
use Rattle.mm_job.specs.Header.{Session, header}
use Rattle.mm_job.specs.Output.{Ended, Over, lines_after_header, output, output_lines, printed, printed_all, written_lines}
use Rattle.mm_job.specs.declared.output_line.OutputLine.{OutputLine}
use Rattle.mm_job.specs.declared.output_line.OutputLine.TheVariants.{Says, Refuses}
use Rattle.mm_job.specs.Settings.{Settings}
use Rattle.mm_job_text.specs.Words.{words}
use Rattle.mm_sample.specs.Summary.{AreLines}

-- There is at least one.
record AtLeastOne (xs : List OutputLine) : Type 0 where
  first : OutputLine
  rest : List OutputLine
  whole : xs ≡ first ∷ rest

at_least_one : (first : OutputLine) (rest : List OutputLine) → AtLeastOne (first ∷ rest)
at_least_one first rest = record { first = first; rest = rest; whole = refl }

some_after_header : (over : Bool) (reading : Reading Session) → AtLeastOne (lines_after_header (if over then Over else Ended) reading)
some_after_header over (Read s rest) = at_least_one _ _
some_after_header over (Refused why) = at_least_one _ _
some_after_header true Short = at_least_one _ _
some_after_header false Short = at_least_one _ _

some_lines : (text : List ℕ) (settings : Settings) → AtLeastOne (output_lines text settings)
unfolding output_lines written_lines
some_lines text settings = some_after_header (is_over text) (header settings (lines text))

-- Bytes that a newline ends.
record EndsLine (bytes : List ℕ) : Type 0 where
  before : List ℕ
  whole : bytes ≡ before ++ 10 ∷ []

printed_ends : (line : OutputLine) → EndsLine (printed line)
printed_ends (Says text) = record { before = text; whole = refl }
printed_ends (Refuses why) = record { before = codes "refused " ++ words why; whole = refl }

after_more : (front bytes : List ℕ) → EndsLine bytes → EndsLine (front ++ bytes)
after_more front bytes e = record {
  before = front ++ e.before;
  whole = ap (λ (t : List ℕ). front ++ t) e.whole ∙ sym (append_assoc front e.before (10 ∷ []));
}

printed_all_ends : (first : OutputLine) (rest : List OutputLine) → EndsLine (printed_all (first ∷ rest))
printed_all_ends first [] = subst EndsLine (sym (append-nil (printed first))) (printed_ends first)
printed_all_ends first (next ∷ more) = after_more (printed first) (printed_all (next ∷ more)) (printed_all_ends next more)

at_length : (bytes : List ℕ) (b : ℕ) → slice_get (bytes ++ b ∷ []) (length bytes) ≡ Some b
at_length [] b = refl
at_length (x ∷ xs) b = at_length xs b

lines_end : (bytes : List ℕ) → EndsLine bytes → AreLines bytes
lines_end bytes e = subst AreLines (sym e.whole)
    (ap (λ (k : ℕ). slice_get (e.before ++ 10 ∷ []) k) (omega (arith, length-append e.before (10 ∷ []))) ∙ at_length e.before 10)

pub output_is_lines : (text : List ℕ) (settings : Settings) → AreLines (output text settings)
output_is_lines text settings =
    let some = some_lines text settings in
    lines_end (output text settings)
    (subst (λ (ls : List OutputLine). EndsLine (printed_all ls)) (sym some.whole) (printed_all_ends some.first some.rest))
