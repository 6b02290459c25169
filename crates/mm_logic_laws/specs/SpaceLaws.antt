-- The laws of boundary spaces: what their bases mean, and that they decide independence at a join.
use Rattle.std.specs.Prelude.{◌≡◌, ◌↔◌, ℕ, Bool, true, List, ◌++◌, length}
use Rattle.mm_field.specs.declared.Field.{Field}
use Rattle.mm_field.specs.Vectors.{times_matrix, IsVector, AreVectors, InSpan, SameRowSpace}
use Rattle.mm_linear.specs.Sums.{InSum, InImage, MeetTrivially, MeetNontrivially}
use Rattle.mm_linear.specs.Decide.{is_in_span, meets_in_zero}
use Rattle.mm_linear.specs.ReducedEchelon.{Leads, Clear, reduced_basis, IsLeftBasis, IsReducedBasis}
use Rattle.mm_linear.specs.Subspaces.{preimage}
use Rattle.mm_logic.specs.Operator.{Op, row_length, IsValidOp}
use Rattle.mm_logic.specs.Tree.{Tree, size, boundary, IsValid}
use Rattle.mm_logic.specs.Tree.Tree.{Join}
use Rattle.mm_logic.specs.PresentMatrix.{IsIndependent, is_independent_set}
use Rattle.mm_logic.specs.BoundarySpaces.{InBoundarySpace, InImageOf, space_of, ind_join}
use Rattle.mm_logic.specs.Value.{Value}
use Rattle.mm_logic.specs.Value.Value.{Dead, Span}

-- Elimination decides independence.
abbrev pub IndependenceIsDecided : Type 0
IndependenceIsDecided =
    (f : Field) (T : Tree) → IsValid f T → (X : List Bool) → (is_independent_set f T X ≡ true) ↔ IsIndependent f T X

-- The basis that is written for the boundary space of a set spans exactly that space.
abbrev pub BoundarySpaceIsMeant : Type 0
BoundarySpaceIsMeant =
    (f : Field) (T : Tree) → IsValid f T → (X : List Bool) (b : List ℕ) → IsVector f (boundary T) b
    → InSpan f (boundary T) (space_of f T X) b ↔ InBoundarySpace f T X b

-- The basis that the join rule writes spans exactly all b such that b times g is in the span of the rows.
abbrev pub PreimageIsMeant : Type 0
PreimageIsMeant =
    (f : Field) (t r : ℕ) (g rows : List (List ℕ)) → AreVectors f r g → AreVectors f r rows → (b : List ℕ) → IsVector f t b
    → InSpan f t (preimage f t r g rows) b ↔ InSpan f r rows (times_matrix f r g b)

-- The rows that are written for a space are in reduced echelon form and span it, two lists of rows with the same row space have
-- the same, and rows that are in reduced echelon form are written as they are.
abbrev pub BasisIsMeant : Type 0
BasisIsMeant =
    (f : Field) (n : ℕ) (rows : List (List ℕ)) → AreVectors f n rows
    → IsLeftBasis f n rows (reduced_basis f n rows)
    × ((sows : List (List ℕ)) → AreVectors f n sows → SameRowSpace f n rows sows → reduced_basis f n rows ≡ reduced_basis f n sows)
    × ((ks : List ℕ) → Leads n 0 rows ks → Clear rows ks → reduced_basis f n rows ≡ rows)

-- A set X of the left child with a set Y of the right child is independent in a join exactly where both are independent and the
-- images of their boundary spaces meet in zero alone.
abbrev pub IndependenceAtJoin : Type 0
IndependenceAtJoin =
    (f : Field) (op : Op) (l r : Tree) → IsValid f (Join op l r)
    → (X Y : List Bool) → length X ≡ size l → length Y ≡ size r
    → IsIndependent f (Join op l r) (X ++ Y)
    ↔ (IsIndependent f l X × IsIndependent f r Y
    × MeetTrivially (row_length op) (InImageOf f op op.g1 l X) (InImageOf f op op.g2 r Y))

-- A vector b is in the boundary space of X with Y at a join exactly where b times G3 is in the sum of the images of the boundary
-- spaces of X and of Y.
abbrev pub BoundarySpaceAtJoin : Type 0
BoundarySpaceAtJoin =
    (f : Field) (op : Op) (l r : Tree) → IsValid f (Join op l r)
    → (X Y : List Bool) → length X ≡ size l → length Y ≡ size r → (b : List ℕ) → IsVector f op.t3 b
    → InBoundarySpace f (Join op l r) (X ++ Y) b
    ↔ InSum f (InImageOf f op op.g1 l X) (InImageOf f op op.g2 r Y) (times_matrix f (row_length op) op.g3 b)

-- Elimination decides whether a vector is in a span, and whether two spans meet in zero alone.
abbrev pub SpansAreDecided : Type 0
SpansAreDecided =
    (f : Field) (n : ℕ) (rows : List (List ℕ)) → AreVectors f n rows
    → ((v : List ℕ) → IsVector f n v → (is_in_span f n rows v ≡ true) ↔ InSpan f n rows v)
    × ((sows : List (List ℕ)) → AreVectors f n sows
    → (meets_in_zero f n rows sows ≡ true) ↔ MeetTrivially n (InSpan f n rows) (InSpan f n sows))

-- W1: all b times G1 for b in the space of the left rows; and W2: all b times G2 for b in the space of the right rows.
abbrev pub LeftImage : Field → Op → List (List ℕ) → List ℕ → Type 0
LeftImage f op rows = InImage f op.t1 (row_length op) op.g1 (InSpan f op.t1 rows)

abbrev pub RightImage : Field → Op → List (List ℕ) → List ℕ → Type 0
RightImage f op rows = InImage f op.t2 (row_length op) op.g2 (InSpan f op.t2 rows)

-- the basis is that of the space of all b of F^t3 with b times G3 in W1 + W2
pub record IsSpaceOfSum (f : Field) (op : Op) (rows sows basis : List (List ℕ)) : Type 0 where
  pub reduced : IsReducedBasis f op.t3 basis
  pub all : (b : List ℕ) → IsVector f op.t3 b
      → InSpan f op.t3 basis b ↔ InSum f (LeftImage f op rows) (RightImage f op sows) (times_matrix f (row_length op) op.g3 b)

-- v is Dead exactly where W1 and W2 have a common vector other than zero; else it is the space of all b with b times G3 in W1 + W2.
pub record IsJoinOfSpaces (f : Field) (op : Op) (rows sows : List (List ℕ)) (v : Value) : Type 0 where
  pub dead : (v ≡ Dead) ↔ MeetNontrivially (row_length op) (LeftImage f op rows) (RightImage f op sows)
  pub alive : (v ≡ Dead → ⊥) → (basis : List (List ℕ)) × (v ≡ Span op.t3 basis) × IsSpaceOfSum f op rows sows basis

-- The join rule of `ind` means this for every pair of spaces, and gives Dead where a side is Dead.
abbrev pub JoinOfSpacesIsMeant : Type 0
JoinOfSpacesIsMeant =
    (f : Field) (op : Op) → IsValidOp f op
    → ((rows sows : List (List ℕ)) → AreVectors f op.t1 rows → AreVectors f op.t2 sows
    → IsJoinOfSpaces f op rows sows (ind_join f op (Span op.t1 rows) (Span op.t2 sows)))
    × ((v : Value) → (ind_join f op Dead v ≡ Dead) × (ind_join f op v Dead ≡ Dead))
