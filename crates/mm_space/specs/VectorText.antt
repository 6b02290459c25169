-- How vectors and lists of vectors are written.
use Rattle.std.specs.Prelude.{ℕ, ◌+◌, ◌≡◌, ◌≤◌, List, [], ◌∷◌, ◌++◌, map, length, All}
use Rattle.mm_field.specs.declared.Field.{Field}
use Rattle.mm_field.specs.Vectors.{AreDigits}

-- the text of a vector: its digits in ASCII, or `-` where it has none
abbrev pub vector_text : List ℕ → List ℕ
vector_text [] = 45 ∷ []
vector_text (d ∷ ds) = map (λ x. 48 + x) (d ∷ ds)

-- the bytes show the vector v of at most 18 digits
pub record IsVectorText (f : Field) (v bytes : List ℕ) : Type 0 where
  pub digits : AreDigits f v
  pub short : length v ≤ 18
  pub text : bytes ≡ vector_text v

-- the text of one vector or more: their texts, joined by `/`
abbrev pub joined_text : List ℕ → List (List ℕ) → List ℕ
joined_text v [] = vector_text v
joined_text v (w ∷ ws) = vector_text v ++ 47 ∷ joined_text w ws

-- the text of vectors: `.` where there are none
abbrev pub gen_text : List (List ℕ) → List ℕ
gen_text [] = 46 ∷ []
gen_text (v ∷ vs) = joined_text v vs

-- the bytes show the rows, at most six vectors of at most 18 digits each
pub record IsGenText (f : Field) (rows : List (List ℕ)) (bytes : List ℕ) : Type 0 where
  pub digits : All (λ v. AreDigits f v) rows
  pub short : All (λ v. length v ≤ 18) rows
  pub few : length rows ≤ 6
  pub text : bytes ≡ gen_text rows
