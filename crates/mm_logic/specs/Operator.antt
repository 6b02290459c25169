-- The operators of a parse tree: how the boundaries of two parts of a matroid lie in one space, and which part of it is the boundary of both together.
use Rattle.std.specs.Prelude.{◌≡◌, ◌≤◌, ℕ, ◌+◌, List, length}
use Rattle.mm_field.specs.declared.Field.{Field}
use Rattle.mm_field.specs.Vectors.{AreVectors, AreIndependent}

-- An operator joins a part with a boundary of t1 digits and one with a boundary of t2 digits to one with a boundary of t3
-- digits. A boundary vector b of the left part is the vector b times G1 of the space of the join, one of the right part is b times
-- G2, and one of the join is b times G3. The space of the join has c dimensions more than the new boundary. (A boundaried
-- parse tree as in Hliněný, Branch-width, parse trees, and monadic second-order logic for matroids, 2006, with matrices in place
-- of his composition operators.)
pub record Op : Type 0 where
  pub t1 : ℕ
  pub t2 : ℕ
  pub t3 : ℕ
  pub c : ℕ
  pub g1 : List (List ℕ)
  pub g2 : List (List ℕ)
  pub g3 : List (List ℕ)

-- the dimension of the space of the join: how many digits the rows of G1, G2 and G3 have
abbrev pub row_length : Op → ℕ
row_length op = op.t3 + op.c

-- A boundary matrix embeds a boundary of t digits into a space of r dimensions: it has t linearly independent rows of r digits.
pub record IsBoundary (f : Field) (t r : ℕ) (g : List (List ℕ)) : Type 0 where
  pub count : length g ≡ t
  pub rows : AreVectors f r g
  pub independent : AreIndependent f r g

-- An operator over f is valid where its boundaries have at most 6 digits, c is at most 12, and G1, G2 and G3 are boundary matrices.
pub record IsValidOp (f : Field) (op : Op) : Type 0 where
  pub sizes : (op.t1 ≤ 6) × (op.t2 ≤ 6) × (op.t3 ≤ 6) × (op.c ≤ 12)
  pub first : IsBoundary f op.t1 (row_length op) op.g1
  pub second : IsBoundary f op.t2 (row_length op) op.g2
  pub third : IsBoundary f op.t3 (row_length op) op.g3
