-- Columns of rows, and the dependencies of vectors by the rows of their columns.
use Rattle.std.proofs.Common.{ℕ, zero, suc, ◌-◌, ◌<◌, ◌≤◌, ◌≡◌, List, [], ◌∷◌, length, drop, get_or, sym, ap, ap₂, ◌∙◌, arith}
use Rattle.std.proofs.Math.Seq.{drop-cons}
use Rattle.std.proofs.lemmas.List.{length-map, get_or-replicate}
use Rattle.std.proofs.lemmas.List.Elements.{All-cons, All-nil}
use Rattle.mm_field.specs.declared.Field.{Field}
use Rattle.mm_field.specs.Digits.{order, plus}
use Rattle.mm_field.specs.Vectors.{vector_sum, multiple, combination, AreDigits, IsVector, AreVectors}
use Rattle.mm_field.proofs.Tables.{times_comm}
use Rattle.mm_field.proofs.VectorLemmas.{vector_sum_comm, step_entry}
use Rattle.mm_field.proofs.CombinationLemmas.{first_row, other_rows, IsVector-combination}
use Rattle.mm_matrix.specs.Columns.{column}
use Rattle.mm_matrix.specs.Orthogonal.{dot}

column_digits : (f : Field) (n j : ℕ) (rows : List (List ℕ)) → AreVectors f n rows → j < n → AreDigits f (column rows j)
column_digits f n j [] h l = All-nil (λ d. d < order f)
column_digits f n j (v ∷ rows) h l =
    let hv = first_row f n v rows h in
    All-cons (λ d. d < order f) (get_or v j 0) (column rows j) (hv.digits j 0 (omega (arith, hv.len)))
    (column_digits f n j rows (other_rows f n v rows h) l)

pub IsVector-column : (f : Field) (n j : ℕ) (rows : List (List ℕ)) → AreVectors f n rows → j < n → IsVector f (length rows) (column rows j)
IsVector-column f n j rows h l = record { len = length-map rows (λ v. get_or v j 0); digits = column_digits f n j rows h l }

-- one more row, from the back
pub combination_step : (f : Field) (n i c : ℕ) (cs v : List ℕ) (rows : List (List ℕ)) → 0 < i → i ≤ length cs → i ≤ length rows →
    c ≡ get_or cs (i - 1) 0 → v ≡ get_or rows (i - 1) [] →
    vector_sum f (combination f n (drop i cs) (drop i rows)) (multiple f c v) ≡ combination f n (drop (i - 1) cs) (drop (i - 1) rows)
combination_step f n zero c cs v rows p lc lr ec ev = absurd (omega arith)
combination_step f n (suc i) c cs v rows p lc lr ec ev =
    vector_sum_comm f (combination f n (drop (suc i) cs) (drop (suc i) rows)) (multiple f c v)
    ∙ ap₂ (λ d u. vector_sum f (multiple f d u) (combination f n (drop (suc i) cs) (drop (suc i) rows))) (ec ∙ same 0 cs) (ev ∙ same [] rows)
    ∙ sym (ap₂ (λ (xs : List ℕ) (ys : List (List ℕ)). combination f n xs ys) (front cs 0 (omega arith)) (front rows [] (omega arith)))
  where
    e : suc i - 1 ≡ i
    e = omega arith

    same : {X : Type 0} (d : X) (xs : List X) → get_or xs (suc i - 1) d ≡ get_or xs i d
    same d xs = ap (λ k. get_or xs k d) e

    front : {X : Type 0} (xs : List X) (d : X) → i < length xs → drop (suc i - 1) xs ≡ get_or xs i d ∷ drop (suc i) xs
    front xs d l = ap (λ k. drop k xs) e ∙ drop-cons xs i d l

-- digit j of a combination is the product of column j with the coefficients
pub digit_of_combination : (f : Field) (n j : ℕ) (cs : List ℕ) (rows : List (List ℕ)) → AreVectors f n rows → length cs ≡ length rows → j < n →
    get_or (combination f n cs rows) j 0 ≡ dot f (column rows j) cs
digit_of_combination f n j [] [] h e l = get_or-replicate n j 0 0 l
digit_of_combination f n j [] (v ∷ rows) h e l = absurd (omega arith)
digit_of_combination f n j (c ∷ cs) [] h e l = absurd (omega arith)
digit_of_combination f n j (c ∷ cs) (v ∷ rows) h e l =
    let hv = first_row f n v rows h in
    let hs = other_rows f n v rows h in
    step_entry f n c v (combination f n cs rows) j hv.len (IsVector-combination f n cs rows hs).len l
    ∙ ap₂ (plus f) (times_comm f c (get_or v j 0)) (digit_of_combination f n j cs rows hs (omega arith) l)
