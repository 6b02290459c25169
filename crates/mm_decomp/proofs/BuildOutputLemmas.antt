-- The header of the built tree is what is answered to a text.
use Rattle.std.proofs.Common.{ℕ, suc, ◌≡◌, List, [], ◌∷◌, length, Option, Some, None, refl, sym, ap, ap₂, subst, ◌∙◌, arith}
use Rattle.std.specs.Prelude.{Ok, Err, slice_index}
use Rattle.std.specs.declared.result.Result.{Result}
use Rattle.std.proofs.lemmas.Option.{none-some, same_Some}
use Rattle.mm_base.specs.declared.text.TextFault.{TextFault}
use Rattle.mm_base.specs.declared.text.TextFault.TheVariants.{Refused, NoMemory}
use Rattle.mm_job_text.specs.declared.refusal.Refusal.{Refusal}
use Rattle.mm_matrix.specs.MatrixValue.{MatrixValue}
use Rattle.mm_tree.specs.NamedTree.{Tree}
use Rattle.mm_tree.specs.TreeValue.{TreeValue}
use Rattle.mm_decomp.specs.Building.{AreLeaves, BuildsFrom, given_of}
use Rattle.mm_decomp.specs.BuildOutput.{IsOutput, build_output, header_of, header_of_shapes, header_unless_wide, matrix_in, output_of, width_words}
use Rattle.mm_decomp.specs.BuildTexts.{ReadsText, decomposition, words_of}
use Rattle.mm_decomp.specs.BuiltTree.{built}
use Rattle.mm_decomp.specs.Decompositions.{Decomposition, decomposition_of}
use Rattle.mm_decomp.specs.HeaderText.{header_text}
use Rattle.mm_decomp.specs.Shapes.{Shape, IsShape, after_steps}
use Rattle.mm_decomp.specs.declared.build.DecompFault.TheVariants.{Width}
use Rattle.mm_decomp.specs.declared.decomposition.BuildText.{BuildText}

pub record HasOne (shapes : List Shape) : Type 0 where
  pub shape : Shape
  pub is : shapes ≡ shape ∷ []

pub has_one : (shapes : List Shape) → length shapes ≡ 1 → HasOne shapes
has_one [] e = absurd (omega (arith, e))
has_one (shape ∷ []) e = record { shape = shape; is = refl }
has_one (shape ∷ other ∷ more) e = absurd (omega (arith, e))

matrix_is : (names : List (List ℕ)) (rows : MatrixValue) → rows.cols ≡ length names → matrix_in (given_of names rows) ≡ rows
matrix_is names rows e = ap (λ (n : ℕ). record { f = rows.f; cols = n; rows = rows.rows }) (sym e)

pub header_is : (t : BuildText) (made : TreeValue) (text : List ℕ) → IsShape t.shape → AreLeaves t.names t.rows t.shape →
    BuildsFrom (given_of t.names t.rows) t.shape (Ok made) → text ≡ header_text t.names t.rows made.tree → header_of (decomposition t) ≡ Ok text
header_is t made text s l b e =
    let given = given_of t.names t.rows in
    let one = has_one (after_steps [] t.shape) s.one in
    let h = b one.shape one.is in
    ap (header_of_shapes given t.lines) one.is
    ∙ ap (header_unless_wide given t.lines one.shape) h.0
    ∙ ap Ok (ap₂ (λ (m : MatrixValue) (T : Tree). header_text t.names m T) (matrix_is t.names t.rows l.columns) (ap (λ (v : TreeValue). v.tree) (sym h.1)) ∙ sym e)

pub width_is : (t : BuildText) (step : ℕ) (words : List ℕ) → IsShape t.shape → BuildsFrom (given_of t.names t.rows) t.shape (Err (Width step)) →
    words ≡ width_words (slice_index t.lines step) → header_of (decomposition t) ≡ Err words
width_is t step words s b e =
    let given = given_of t.names t.rows in
    let one = has_one (after_steps [] t.shape) s.one in
    ap (header_of_shapes given t.lines) one.is
    ∙ ap (header_unless_wide given t.lines one.shape) (b one.shape one.is)
    ∙ ap Err (sym e)

pub output_read : (bytes : List ℕ) (t : BuildText) (r : Result (List ℕ) TextFault) → decomposition_of bytes ≡ Ok (decomposition t) →
    IsOutput r (header_of (decomposition t)) → IsOutput r (build_output bytes)
unfolding build_output
output_read bytes t r e h = subst (λ (o : Result (List ℕ) (List ℕ)). IsOutput r o) (ap (output_of header_of) (sym e)) h

pub output_refused : (bytes words : List ℕ) → words_of (decomposition_of bytes) ≡ Some words → build_output bytes ≡ Err words
unfolding build_output
output_refused bytes words h = go (decomposition_of bytes) h
  where
    go : (r : Result Decomposition Refusal) → words_of r ≡ Some words → output_of header_of r ≡ Err words
    go (Ok d) h = absurd (none-some words h)
    go (Err e) h = ap Err (same_Some _ words h)

pub output_stopped : (bytes : List ℕ) (fault : TextFault) → ReadsText (Err fault) (decomposition_of bytes) → IsOutput (Err fault) (build_output bytes)
output_stopped bytes (Refused words) h = output_refused bytes words h
output_stopped bytes NoMemory h = tt
