-- The values of `ind`: the boundary space of an independent set, its leaf rule and its join rule.
use Rattle.std.specs.Prelude.{ℕ, ◌+◌, Bool, true, false, ◌==◌, if◌then◌else◌, List, [], ◌∷◌, ◌++◌, map, length}
use Rattle.std.specs.List.{list_all}
use Rattle.mm_field.specs.declared.Field.{Field}
use Rattle.mm_field.specs.Vectors.{zeros, times_matrix, InSpan}
use Rattle.mm_linear.specs.Sums.{InImage}
use Rattle.mm_linear.specs.Decide.{is_independent, is_in_span, meets_in_zero}
use Rattle.mm_linear.specs.Subspaces.{subspace, head_of_span, preimage}
use Rattle.mm_logic.specs.Operator.{Op, row_length}
use Rattle.mm_logic.specs.Tree.{Tree, boundary}
use Rattle.mm_logic.specs.PresentMatrix.{internal, chosen}
use Rattle.mm_logic.specs.Value.{Value}
use Rattle.mm_logic.specs.Value.Value.{Dead, Span}

-- For columns of t boundary digits and m internal ones: b followed by m zeros is in their span.
abbrev pub InBoundary : Field → ℕ → ℕ → List (List ℕ) → List ℕ → Type 0
InBoundary f t m columns b = InSpan f (t + m) columns (b ++ zeros m)

-- All such b, by their reduced echelon basis.
abbrev pub boundary_space : Field → ℕ → ℕ → List (List ℕ) → List (List ℕ)
boundary_space f t m columns = head_of_span f t m columns

-- A vector b of the boundary is in the boundary space of a set of elements where the column with b in the boundary rows and zeros
-- in the internal rows is a combination of the columns of the set: the boundary space is what the span of the set shows outside.
-- (Own; for the role of such subspaces see Hliněný 2006, section 4.)
abbrev pub InBoundarySpace : Field → Tree → List Bool → List ℕ → Type 0
InBoundarySpace f T X b = InBoundary f (boundary T) (internal T) (chosen f T X) b

-- A vector z of the space of a join is in the image of the boundary space of a set of a child where it is b times G1, or G2, for
-- some b in that boundary space.
abbrev pub InImageOf : Field → Op → List (List ℕ) → Tree → List Bool → List ℕ → Type 0
InImageOf f op g T X z = InImage f (boundary T) (row_length op) g (InBoundarySpace f T X) z

-- The boundary space as it is written: by its reduced echelon basis.
abbrev pub space_of : Field → Tree → List Bool → List (List ℕ)
space_of f T X = boundary_space f (boundary T) (internal T) (chosen f T X)

-- Columns of t boundary digits and m internal ones: Dead where they are dependent, else their boundary space.
abbrev pub ind_value : Field → (t m : ℕ) → List (List ℕ) → Value
ind_value f t m cs = if is_independent f (t + m) cs then Span t (boundary_space f t m cs) else Dead

-- The type of `ind` for a set of elements of a tree, read from the matrix.
abbrev pub ind_type : Field → Tree → List Bool → Value
ind_type f T X = ind_value f (boundary T) (internal T) (chosen f T X)

-- The span of rows of t digits.
abbrev pub span_of : Field → ℕ → List (List ℕ) → List (List ℕ)
span_of f t rows = subspace f t (λ b. is_in_span f t rows b)

-- The leaf rule at an element, which is in the union or not: Dead for the zero vector, else the span of the vector; and the zero
-- space where it is not in the union.
abbrev pub ind_elem : Field → List ℕ → Bool → Value
ind_elem f vec true = if list_all (λ d. d == 0) vec then Dead else Span (length vec) (span_of f (length vec) (vec ∷ []))
ind_elem f vec false = Span (length vec) (span_of f (length vec) [])

-- The leaf rule where there is no element: the zero space.
abbrev pub ind_void : Field → ℕ → Value
ind_void f t = Span t (span_of f t [])

-- All b times g, for the rows b.
abbrev pub images : Field → ℕ → List (List ℕ) → List (List ℕ) → List (List ℕ)
images f r g rows = map (times_matrix f r g) rows

-- The join rule: Dead where a side is dead or where the images of both boundary spaces in the space of the join have a common
-- vector other than zero; else all b such that b times G3 is in the sum of the images.
abbrev pub ind_join : Field → Op → Value → Value → Value
ind_join f op (Span t rows) (Span u sows) =
    if meets_in_zero f (row_length op) (images f (row_length op) op.g1 rows) (images f (row_length op) op.g2 sows)
    then Span op.t3 (preimage f op.t3 (row_length op) op.g3 (images f (row_length op) op.g1 rows ++ images f (row_length op) op.g2 sows))
    else Dead
ind_join f op v w = Dead
