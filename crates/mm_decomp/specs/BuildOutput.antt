-- What is answered to the text of a decomposition: the header of the tree that is built for it, or the words of its refusal.
use Rattle.std.specs.Prelude.{ℕ, ◌≡◌, List, [], ◌∷◌, ◌++◌, codes, length, slice_index, Option, Some, None, Ok, Err}
use Rattle.std.specs.Fmt.{decimal}
use Rattle.std.specs.declared.result.Result.{Result}
use Rattle.mm_base.specs.declared.text.TextFault.{TextFault}
use Rattle.mm_base.specs.declared.text.TextFault.TheVariants.{Refused, NoMemory}
use Rattle.mm_job_text.specs.Words.{words}
use Rattle.mm_job_text.specs.declared.refusal.Refusal.{Refusal}
use Rattle.mm_matrix.specs.MatrixValue.{MatrixValue}
use Rattle.mm_decomp.specs.BuiltTree.{built}
use Rattle.mm_decomp.specs.Decompositions.{Decomposition, decomposition_of}
use Rattle.mm_decomp.specs.HeaderText.{header_text}
use Rattle.mm_decomp.specs.Shapes.{Shape, after_steps}
use Rattle.mm_decomp.specs.Spaces.{Given, first_wide}

-- The words of the refusal of a step whose node has a boundary above 6, by the number of its line.
abbrev pub width_words : ℕ → List ℕ
width_words number = codes "width " ++ decimal number

-- The rows of a matrix whose columns have names.
abbrev pub matrix_in : Given → MatrixValue
matrix_in given = record { f = given.f; cols = length given.names; rows = given.rows }

-- The header of the tree that is built for a shape; the numbers are those of the lines of the shape's steps.
abbrev pub header_unless_wide : Given → (numbers : List ℕ) → Shape → (wide : Option ℕ) → Result (List ℕ) (List ℕ)
header_unless_wide given numbers shape None = Ok (header_text given.names (matrix_in given) (built given 0 [] shape))
header_unless_wide given numbers shape (Some step) = Err (width_words (slice_index numbers step))

abbrev pub built_header : Given → (numbers : List ℕ) → Shape → Result (List ℕ) (List ℕ)
built_header given numbers shape = header_unless_wide given numbers shape (first_wide given shape)

-- The steps of a text make one shape.
abbrev pub header_of_shapes : Given → (numbers : List ℕ) → List Shape → Result (List ℕ) (List ℕ)
header_of_shapes given numbers (shape ∷ []) = built_header given numbers shape
header_of_shapes given numbers _ = Err []

abbrev pub header_of : Decomposition → Result (List ℕ) (List ℕ)
header_of d = header_of_shapes d.given d.shape.numbers (after_steps [] d.shape.steps)

-- An output of what was read, or the words of the refusal.
abbrev pub output_of : {A : Type 0} → (A → Result (List ℕ) (List ℕ)) → Result A Refusal → Result (List ℕ) (List ℕ)
output_of output (Ok x) = output x
output_of output (Err e) = Err (words e)

-- The header that `build` makes of a text, or the words of its refusal.
unfoldable pub build_output : List ℕ → Result (List ℕ) (List ℕ)
build_output text = output_of header_of (decomposition_of text)

-- A text is the output, or the words are those of the refusal, unless memory ran out.
abbrev pub IsOutput : Result (List ℕ) TextFault → Result (List ℕ) (List ℕ) → Type 0
IsOutput (Ok text) output = output ≡ Ok text
IsOutput (Err (Refused words)) output = output ≡ Err words
IsOutput (Err NoMemory) output = Unit {0}
