-- What a command that reads its source as a whole owes to it and to its sink.
use Rattle.std.specs.Prelude.{◌≡◌, ◌⊎◌, ℕ, ◌+◌, List, ◌++◌, length, IfSome}
use Rattle.std.specs.declared.option.Option.{Option}
use Rattle.std.specs.Io.KnownBytes.{Appends, Consumes, IsAtEnd}
use Rattle.mm_base.specs.Causes.{GrowsByFront}
use Rattle.mm_base.specs.declared.status.Status.{Status}
use Rattle.mm_base.specs.declared.status.Status.TheVariants.{ReadFault, NoMemory}
use Rattle.mm_lines.specs.Lines.{most_bytes}
use Rattle.mm_cli.specs.Answers.{Answer}
use Rattle.mm_cli.specs.Runs.{IsCut, IsEnd}

-- All that is used of the source was taken: nothing is left, or it is one byte more than is used.
pub record TookAll (left left_new : Option (List ℕ)) (text : List ℕ) : Type 0 where
  pub took : Consumes left left_new text
  pub stop : IsAtEnd left_new ⊎ (length text ≡ most_bytes + 1)

-- The text that the source had left was answered: the answer was written, its status is that of the run, and all that is used was read;
-- or the run was cut short, and a front of the answer was written.
pub record AnswersText (answer : List ℕ → Answer) (left left_new held held_new : Option (List ℕ)) (status : Status) : Type 0 where
  pub ends : IsEnd status ⊎ IsCut status
  pub grew : IsEnd status → IfSome left (λ text. Appends held held_new (answer text).output)
  pub ended : IsEnd status → IfSome left (λ text. status ≡ (answer text).status)
  pub read : IsEnd status → (text : List ℕ) × TookAll left left_new text
  pub front : IsCut status → IfSome left (λ text. GrowsByFront held held_new (answer text).output)

-- ---- between code and definitions

-- A piece was taken from the source and put after a text: none only at the end of the source.
pub record TookPiece (left left_new : Option (List ℕ)) (old new : List ℕ) (count : ℕ) : Type 0 where
  pub piece : List ℕ
  pub took : Consumes left left_new piece
  pub text : new ≡ old ++ piece
  pub size : length piece ≡ count
  pub stop : count ≡ 0 → IsAtEnd left_new

-- Reading stops by a fault or for want of memory.
abbrev pub StopsReading : Status → Type 0
StopsReading s = (s ≡ ReadFault) ⊎ (s ≡ NoMemory)
