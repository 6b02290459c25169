-- What is kept of the columns below a node while a tree is built: between the code and the definitions.
--
-- The dependencies of all columns are combinations of a basis. A vector a of coefficients gives each element a digit, the product of
-- a with the element's vector h, and the sum of these digits times the columns m below a node is a vector of the node's space.
use Rattle.std.specs.Prelude.{ℕ, ◌≡◌, ◌≤◌, List, [], ◌∷◌, ◌++◌, map, length}
use Rattle.std.specs.List.{range_with_len}
use Rattle.mm_field.specs.declared.Field.{Field}
use Rattle.mm_field.specs.Vectors.{zeros, combination, times_matrix, IsVector, AreVectors, IsWithin}
use Rattle.mm_linear.specs.Coordinates.{coordinates}
use Rattle.mm_linear.specs.ReducedEchelon.{reduced_basis, IsReducedBasis}
use Rattle.mm_matrix.specs.Columns.{column}
use Rattle.mm_matrix.specs.MatrixValue.{MatrixValue}
use Rattle.mm_matrix.specs.Orthogonal.{dot}
use Rattle.mm_matrix.specs.Residues.{AreReduced}
use Rattle.mm_decomp.specs.Meets.{extended}
use Rattle.mm_decomp.specs.declared.form.Form.{Form}

-- The sum of (h·a) m.
abbrev pub gathered : Field → ℕ → (hs ms : List (List ℕ)) → List ℕ → List ℕ
gathered f g hs ms a = combination f g (map (dot f a) hs) ms

-- All columns of rows of n digits.
abbrev pub all_columns : ℕ → List (List ℕ) → List (List ℕ)
all_columns n rows = map (column rows) (range_with_len 0 n)

-- Rows whose combination with coefficients a is the gathered sum at a.
abbrev pub products : Field → ℕ → ℕ → (hs ms : List (List ℕ)) → List (List ℕ)
products f k g hs ms = map (times_matrix f g ms) (all_columns k hs)

-- What takes the place of the second list where reduced rows, with these leads, take the place of the first: the sum of products stays
-- the same.
abbrev pub sums : Field → ℕ → List ℕ → (first second : List (List ℕ)) → List (List ℕ)
sums f n leads first second = map (times_matrix f n second) (map (column first) leads)

-- Reduced rows in the place of some rows of n digits, and sums of others, of m digits, in the place of those.
pub record ReducesBeside (f : Field) (n m : ℕ) (rows others : List (List ℕ)) (kept summed : MatrixValue) : Type 0 where
  pub each : AreVectors f n rows
  pub each_other : AreVectors f m others
  pub leads : List ℕ
  pub are_reduced : AreReduced f n (reduced_basis f n rows) leads
  pub within : IsWithin f n rows (reduced_basis f n rows)
  pub kept_is : kept ≡ record { f = f; cols = n; rows = reduced_basis f n rows }
  pub summed_is : summed ≡ record { f = f; cols = m; rows = sums f m leads rows others }

-- A form has as many functionals of k digits as vectors of g digits.
pub record HasSizes (f : Field) (k g : ℕ) (form : Form) : Type 0 where
  pub field : form.functionals.f ≡ f
  pub basis_field : form.basis.f ≡ f
  pub size : form.functionals.cols ≡ k
  pub basis_size : form.basis.cols ≡ g
  pub count : length form.functionals.rows ≡ length form.basis.rows

-- The form of elements with these vectors h and columns m.
pub record IsFormOf (f : Field) (k g : ℕ) (hs ms : List (List ℕ)) (form : Form) : Type 0 where
  pub each : AreVectors f k hs
  pub each_column : AreVectors f g ms
  pub count : length hs ≡ length ms
  pub same : (a : List ℕ) → IsVector f k a → gathered f g form.functionals.rows form.basis.rows a ≡ gathered f g hs ms a

-- The form of a leaf: its basis spans the column, also where the column is in no dependency.
pub record IsLeafForm (f : Field) (k g : ℕ) (h m : List ℕ) (form : Form) : Type 0 where
  pub sizes : HasSizes f k g form
  pub form_of : IsFormOf f k g (h ∷ []) (m ∷ []) form
  pub basis : form.basis.rows ≡ reduced_basis f g (m ∷ [])
  pub reduced : IsReducedBasis f g form.basis.rows

-- The form of a join, and its space.
pub record IsJoinForm (f : Field) (k g : ℕ) (left right form : Form) : Type 0 where
  pub sizes : HasSizes f k g form
  pub reduced : IsReducedBasis f g form.basis.rows
  pub keeps : (hl ml hr mr : List (List ℕ)) → IsFormOf f k g hl ml left → IsFormOf f k g hr mr right → IsFormOf f k g (hl ++ hr) (ml ++ mr) form
  pub space : (hl ml hr mr : List (List ℕ)) → IsFormOf f k g hl ml left → IsFormOf f k g hr mr right
      → form.basis.rows ≡ reduced_basis f g (products f k g (hl ++ hr) (ml ++ mr))

-- The coordinates of rows in those of them that are no combinations of the rows before, which span them.
pub record AreCoordinates (all found : MatrixValue) : Type 0 where
  pub each : AreVectors all.f all.cols all.rows
  pub within : IsWithin all.f all.cols all.rows (extended all.f all.cols [] all.rows)
  pub found_is : found ≡ record {
    f = all.f;
    cols = length (extended all.f all.cols [] all.rows);
    rows = map (coordinates all.f all.cols (extended all.f all.cols [] all.rows)) all.rows;
  }

-- The bases of three spaces of vectors of g digits, each of dimension at most 6.
pub record AreBases (f : Field) (g : ℕ) (basis first second : MatrixValue) : Type 0 where
  pub matrices : (basis ≡ record { f = f; cols = g; rows = basis.rows }) × (first ≡ record { f = f; cols = g; rows = first.rows })
      × (second ≡ record { f = f; cols = g; rows = second.rows })
  pub reduced : IsReducedBasis f g basis.rows × IsReducedBasis f g first.rows × IsReducedBasis f g second.rows
  pub few : (length basis.rows ≤ 6) × (length first.rows ≤ 6) × (length second.rows ≤ 6)

-- the numbers x are the products of some vector with the given ones
pub record IsProduct (f : Field) (k : ℕ) (hs : List (List ℕ)) (x : List ℕ) : Type 0 where
  pub a : List ℕ
  pub vector : IsVector f k a
  pub products : map (dot f a) hs ≡ x

-- For each of some columns a vector: coefficients combine the columns to zero exactly where they are the products of these vectors with
-- one vector.
pub record IsBasisOfDependencies (columns basis : MatrixValue) : Type 0 where
  pub each : AreVectors columns.f columns.cols columns.rows
  pub each_vector : AreVectors columns.f basis.cols basis.rows
  pub field : basis.f ≡ columns.f
  pub count : length basis.rows ≡ length columns.rows
  pub balanced : (a : List ℕ) → IsVector columns.f basis.cols a
      → gathered columns.f columns.cols basis.rows columns.rows a ≡ zeros columns.cols
  pub solved : (x : List ℕ) → IsVector columns.f (length columns.rows) x → combination columns.f columns.cols x columns.rows ≡ zeros columns.cols
      → IsProduct columns.f basis.cols basis.rows x
