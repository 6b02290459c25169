-- Matrices that grow row by row.
use Rattle.std.proofs.Common.{ℕ, ◌+◌, ◌<◌, ◌≡◌, List, [], ◌∷◌, ◌++◌, length, get_or, take, map, sym, ap, subst, ◌∙◌}
use Rattle.std.proofs.lemmas.List.{take_more, map_push}
use Rattle.mm_field.specs.declared.Field.{Field}
use Rattle.mm_field.specs.Vectors.{IsVector}
use Rattle.mm_matrix.specs.MatrixValue.{MatrixValue}

abbrev pub matrix : Field → ℕ → List (List ℕ) → MatrixValue
matrix f n rows = record { f = f; cols = n; rows = rows }

pub row_pushed : (f : Field) (n : ℕ) (old new : MatrixValue) (done more : List (List ℕ)) (row : List ℕ) → old ≡ matrix f n done →
    new ≡ record old { rows = old.rows ++ row ∷ [] } → done ++ row ∷ [] ≡ more → new ≡ matrix f n more
row_pushed f n old new done more row e p q =
    p ∙ ap (λ (m : MatrixValue). record m { rows = m.rows ++ row ∷ [] }) e ∙ ap (matrix f n) q

pub row_fits : (f : Field) (n : ℕ) (m : MatrixValue) (done : List (List ℕ)) (row : List ℕ) → m ≡ matrix f n done → IsVector f n row →
    IsVector m.f m.cols row
row_fits f n m done row e h = subst (λ (m : MatrixValue). IsVector m.f m.cols row) (sym e) h

pub rows_done : (f : Field) (n : ℕ) (m : MatrixValue) (done all : List (List ℕ)) → m ≡ matrix f n done → done ≡ all → m ≡ matrix f n all
rows_done f n m done all e q = e ∙ ap (matrix f n) q

-- one more of the values at the items of a list
pub next_value : {X Y : Type 0} (h : X → Y) (xs : List X) (k : ℕ) (d : X) (y : Y) → k < length xs → y ≡ h (get_or xs k d) →
    map h (take k xs) ++ y ∷ [] ≡ map h (take (k + 1) xs)
next_value h xs k d y l e =
    ap (λ x. map h (take k xs) ++ x ∷ []) e ∙ sym (map_push h (take k xs) (get_or xs k d)) ∙ sym (ap (map h) (take_more xs k d l))
