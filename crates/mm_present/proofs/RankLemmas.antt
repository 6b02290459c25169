-- Combinations of columns by rows, and the reduced rows of a row space.
use Rattle.std.proofs.Common.{ℕ, ◌<◌, ◌≡◌, List, [], ◌∷◌, length, get_or, ap₂, ◌∙◌, arith}
use Rattle.std.proofs.lemmas.List.{get_or-replicate}
use Rattle.mm_field.specs.declared.Field.{Field}
use Rattle.mm_field.specs.Digits.{plus}
use Rattle.mm_field.specs.Vectors.{combination, AreVectors}
use Rattle.mm_field.proofs.Tables.{times_comm}
use Rattle.mm_field.proofs.VectorLemmas.{step_entry}
use Rattle.mm_field.proofs.CombinationLemmas.{first_row, other_rows, IsVector-combination}
use Rattle.mm_linear.specs.ReducedEchelon.{reduced_basis}
use Rattle.mm_linear.proofs.ReducedEchelonLemmas.{reduced_basis_is}
use Rattle.mm_matrix.specs.Orthogonal.{dot}
use Rattle.mm_matrix.specs.Residues.{AreReduced}
use Rattle.mm_logic.specs.PresentMatrix.{row_of}

-- ---- a combination of columns, by rows

-- digit i of a combination of columns is the product of row i with the coefficients
pub digit_of_sum : (f : Field) (m i : ℕ) (x : List ℕ) (cs : List (List ℕ)) → AreVectors f m cs → length x ≡ length cs → i < m →
    get_or (combination f m x cs) i 0 ≡ dot f (row_of cs i) x
digit_of_sum f m i [] [] h e l = get_or-replicate m i 0 0 l
digit_of_sum f m i [] (u ∷ cs) h e l = absurd (omega arith)
digit_of_sum f m i (c ∷ x) [] h e l = absurd (omega arith)
digit_of_sum f m i (c ∷ x) (u ∷ cs) h e l =
    let hu : length u ≡ m = (first_row f m u cs h).len in
    let hs = other_rows f m u cs h in
    let rest : length (combination f m x cs) ≡ m = (IsVector-combination f m x cs hs).len in
    step_entry f m c u (combination f m x cs) i hu rest l
    ∙ ap₂ (plus f) (times_comm f c (get_or u i 0)) (digit_of_sum f m i x cs hs (omega arith) l)

-- ---- reduced rows

pub reduced_are : (f : Field) (n : ℕ) (rows : List (List ℕ)) (h : AreVectors f n rows) → AreReduced f n (reduced_basis f n rows) (reduced_basis_is f n rows h).leads
reduced_are f n rows h =
    let b = reduced_basis_is f n rows h in
    record { each = b.each; leads_are = b.echelon; clear = b.reduced }
