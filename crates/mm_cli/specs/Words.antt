-- The words of the command line, and what they ask for.
use Rattle.std.specs.Prelude.{ℕ, ◌≡◌, ◌≤◌, Bool, true, ◌&&◌, ◌||◌, ◌==◌, nat_le, List, [], ◌∷◌, length, take, drop, codes, slice_index_or, map, All, String, string_bytes, Option, Some, None, if◌then◌else◌}
use Rattle.std.specs.declared.alloc.Global.{Global}
use Rattle.std.specs.List.{list_all}
use Rattle.std.specs.Str.{bytes_eq}
use Rattle.mm_field.specs.declared.Field.{Field}
use Rattle.mm_field.specs.Vectors.{AreDigits}
use Rattle.mm_lines.specs.Numbers.{number_of}
use Rattle.mm_space.specs.DigitTexts.{vectors_of}
use Rattle.mm_job_text.specs.HeaderLines.{field_of}
use Rattle.mm_cli.specs.declared.words.TheConstants.{MOST_LIMIT, MOST_ELEMENTS, MOST_SEED}
use Rattle.mm_cli.specs.declared.words.Command.{Command}
use Rattle.mm_cli.specs.declared.words.Command.TheVariants.{Run, Sample, Build, Dual, Minor, NotBuilt}
use Rattle.mm_cli.specs.declared.words.MinorMatrix.{MinorMatrix}
use Rattle.mm_cli.specs.declared.words.SampleNumbers.{SampleNumbers}

-- The greatest limit on sizes, which holds where none is given.
abbrev pub most_limit : ℕ
most_limit = MOST_LIMIT

-- The most elements and the greatest seed of a sample.
abbrev pub most_elements : ℕ
most_elements = MOST_ELEMENTS

abbrev pub most_seed : ℕ
most_seed = MOST_SEED

abbrev pub within : ℕ → ℕ → Option ℕ → Option ℕ
within least most None = None
within least most (Some n) = if nat_le least n && nat_le n most then Some n else None

abbrev pub field_of_order : Option ℕ → Option Field
field_of_order None = None
field_of_order (Some q) = field_of q

-- The number that 1 to 10 digits spell, where it is in these bounds.
abbrev pub number_within : ℕ → ℕ → List ℕ → Option ℕ
number_within least most word = within least most (number_of 10 word)

-- The field whose order a word spells.
abbrev pub field_within : List ℕ → Option Field
field_within word = field_of_order (number_within 2 5 word)

-- `run` with a limit, where there is one
abbrev pub limited : Option ℕ → Option Command
limited None = None
limited (Some limit) = Some (Run limit)

-- `sample` with its numbers, where all are there
abbrev pub sampled : Option Field → (elements seed : Option ℕ) → Option Command
sampled (Some field) (Some elements) (Some seed) = Some (Sample (record { field = field; elements = elements; seed = seed }))
sampled field elements seed = None

-- A sample has 2 elements at least, and its seed is not 0.
pub record AreWithinBounds (s : SampleNumbers) : Type 0 where
  pub some : 2 ≤ s.elements
  pub few : s.elements ≤ most_elements
  pub least : 1 ≤ s.seed
  pub greatest : s.seed ≤ most_seed

-- how many columns rows of one length have
abbrev pub columns_of : List (List ℕ) → ℕ
columns_of rows = length (slice_index_or rows 0 [])

-- at least one row, and all rows of one length from 1 to 5: the rows of a matrix of so many columns
abbrev pub is_small_matrix : List (List ℕ) → Bool
is_small_matrix rows =
    nat_le 1 (length rows) && nat_le 1 (columns_of rows) && nat_le (columns_of rows) 5 && list_all (λ v. length v == columns_of rows) rows

-- A matrix of 1 to 5 columns over its field.
pub record IsSmallMatrix (m : MinorMatrix) : Type 0 where
  pub digits : All (λ v. AreDigits m.field v) m.rows
  pub small : is_small_matrix m.rows ≡ true

-- A limit that is given is from 1 to the greatest, the numbers of a sample are within theirs, and a matrix has 1 to 5 columns.
abbrev pub IsWithinBounds : Command → Type 0
IsWithinBounds (Run limit) = (1 ≤ limit) × (limit ≤ most_limit)
IsWithinBounds (Sample s) = AreWithinBounds s
IsWithinBounds Build = Unit {0}
IsWithinBounds Dual = Unit {0}
IsWithinBounds (Minor m) = IsSmallMatrix m
IsWithinBounds NotBuilt = Unit {0}

-- a command that is in the table and is not built yet
abbrev pub not_built : Bool → Option Command
not_built b = if b then Some NotBuilt else None

-- `run`, or a command without further words
abbrev pub alone : List ℕ → Option Command
alone word =
    if bytes_eq word (codes "run") then Some (Run most_limit)
    else if bytes_eq word (codes "build") then Some Build
    else if bytes_eq word (codes "dual") then Some Dual
    else not_built (bytes_eq word (codes "prove") || bytes_eq word (codes "verify"))

-- `run --limit=N`
abbrev pub with_joined : List ℕ → List ℕ → Option Command
with_joined word joined =
    if bytes_eq word (codes "run") && bytes_eq (take 8 joined) (codes "--limit=")
    then limited (number_within 1 most_limit (drop 8 joined)) else None

-- `minor` with a matrix, where the rows are those of one with 1 to 5 columns
abbrev pub minor_of : Field → Option (List (List ℕ)) → Option Command
minor_of f None = None
minor_of f (Some rows) = if is_small_matrix rows then Some (Minor (record { field = f; rows = rows })) else None

-- `minor` with the matrix over a field whose rows a word shows
abbrev pub minor_over : Option Field → List ℕ → Option Command
minor_over None rows = None
minor_over (Some f) rows = minor_of f (vectors_of f rows)

-- `run --limit N` or `minor Q GEN`
abbrev pub with_two : List ℕ → List ℕ → List ℕ → Option Command
with_two word first second =
    if bytes_eq word (codes "run") && bytes_eq first (codes "--limit") then limited (number_within 1 most_limit second)
    else if bytes_eq word (codes "minor") then minor_over (field_within first) second else None

-- `sample Q N SEED`
abbrev pub with_three : List ℕ → List ℕ → List ℕ → List ℕ → Option Command
with_three word q n seed =
    if bytes_eq word (codes "sample")
    then sampled (field_within q) (number_within 2 most_elements n) (number_within 1 most_seed seed) else None

-- The command that some words ask for: those of no row of the table ask for nothing.
unfoldable pub command_of : List (List ℕ) → Option Command
command_of (word ∷ []) = alone word
command_of (word ∷ joined ∷ []) = with_joined word joined
command_of (word ∷ first ∷ second ∷ []) = with_two word first second
command_of (word ∷ q ∷ n ∷ seed ∷ []) = with_three word q n seed
command_of words = None

-- What the words of the command line ask for.
abbrev pub asked : List (String Global) → Option Command
asked words = command_of (map string_bytes words)
