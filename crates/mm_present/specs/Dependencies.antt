-- Dependencies of the columns of a tree's matrix, and what they make of given columns over the same elements.
use Rattle.std.specs.Prelude.{ℕ, ◌+◌, ◌≡◌, ◌==◌, Bool, not, cond, Option, Some, None, nat_lt, All, IfOk, OnOk}
use Rattle.std.specs.Prelude.{List, [], ◌∷◌, ◌++◌, map, filter, take, drop}
use Rattle.std.specs.List.{list_all, position}
use Rattle.mm_field.specs.declared.Field.{Field}
use Rattle.mm_field.specs.Vectors.{zeros, combination, times_matrix, IsVector, AreVectors, InSpan}
use Rattle.mm_linear.specs.ReducedEchelon.{reduced_basis}
use Rattle.mm_logic.specs.Operator.{row_length}
use Rattle.mm_logic.specs.PresentMatrix.{internal, boundary_rows}
use Rattle.mm_logic.specs.Tree.{Tree, size, boundary}
use Rattle.mm_logic_laws.specs.MatrixLaws.{digits_at_join}
use Rattle.mm_matrix.specs.Orthogonal.{dot}
use Rattle.mm_matrix.specs.MatrixValue.{MatrixValue}
use Rattle.mm_base.specs.declared.failure.NoMemory.{NoMemory}
use Rattle.std.specs.declared.result.Result.{Result}
use Rattle.mm_ops.specs.OpValue.{OpValue}
use Rattle.mm_present.specs.Joining.{internal_rows}

-- the sums of products of a vector with some rows
abbrev pub products : Field → List (List ℕ) → List ℕ → List ℕ
products f rows x = map (dot f x) rows

-- coefficients for the elements of a tree that combine its columns to one with zeros as internal digits
pub record IsInner (f : Field) (T : Tree) (x : List ℕ) : Type 0 where
  pub vector : IsVector f (size T) x
  pub inner : products f (internal_rows f T) x ≡ zeros (internal T)

-- the boundary digits of the combination of a tree's columns with coefficients x, and the combination of given columns of g digits
abbrev pub pair_of : Field → ℕ → Tree → List (List ℕ) → List ℕ → List ℕ
pair_of f g T given x = products f (boundary_rows f T) x ++ combination f g x given

-- z is such a pair of inner coefficients
pub record IsPair (f : Field) (g : ℕ) (T : Tree) (given : List (List ℕ)) (z : List ℕ) : Type 0 where
  pub x : List ℕ
  pub inner : IsInner f T x
  pub gives : pair_of f g T given x ≡ z

-- rows with t zeros before them
abbrev pub after_zeros : ℕ → List (List ℕ) → List (List ℕ)
after_zeros t rows = map (λ v. zeros t ++ v) rows

-- The pairs, and the faults with zero boundary digits before them, span all pairs of inner coefficients.
pub record Account (f : Field) (g : ℕ) (T : Tree) (given pairs faults : List (List ℕ)) : Type 0 where
  pub sound : All (IsPair f g T given) (pairs ++ after_zeros (boundary T) faults)
  pub complete : (x : List ℕ) → IsInner f T x → InSpan f (boundary T + g) (pairs ++ after_zeros (boundary T) faults) (pair_of f g T given x)

-- whether the first c digits of a row are zero
abbrev pub is_zero_before : ℕ → List ℕ → Bool
is_zero_before c row = list_all (λ d. d == 0) (take c row)

-- the rows whose first c digits are zero, without these digits
abbrev pub tails : ℕ → List (List ℕ) → List (List ℕ)
tails c rows = map (drop c) (filter (is_zero_before c) rows)

-- the rows whose first t digits are not all zero
abbrev pub with_boundary : ℕ → List (List ℕ) → List (List ℕ)
with_boundary t rows = filter (λ row. not (is_zero_before t row)) rows

-- the lesser of two places, of which each may be missing
abbrev pub lesser : Option ℕ → Option ℕ → Option ℕ
lesser None j = j
lesser (Some i) None = Some i
lesser (Some i) (Some j) = cond (nat_lt j i) (Some j) (Some i)

-- the least place of a digit other than 0
abbrev pub first_nonzero : List ℕ → Option ℕ
first_nonzero v = position (λ d. not (d == 0)) v

-- the least place of a digit other than 0 in a vector, or an earlier one
abbrev pub least_place : Option ℕ → List (List ℕ) → Option ℕ
least_place least [] = least
least_place least (v ∷ vs) = least_place (lesser least (first_nonzero v)) vs

-- a row of boundary digits and given digits of a child, as a row of a join: its new internal digits, its boundary digits, its given digits
abbrev pub candidate : Field → (r t t3 : ℕ) → List (List ℕ) → List ℕ → List ℕ
candidate f r t t3 digits z =
    drop t3 (times_matrix f r digits (take t z)) ++ (take t3 (times_matrix f r digits (take t z)) ++ drop t z)

-- the rows of boundary digits and given digits at a join, from those of its children, of which some may have zeros as boundary digits
unfoldable pub joined_pairs : OpValue → ℕ → (left right : List (List ℕ)) → List (List ℕ)
joined_pairs op g left right =
    tails op.op.c (reduced_basis op.f (op.op.c + (op.op.t3 + g))
    (map (candidate op.f (row_length op.op) op.op.t1 op.op.t3 (digits_at_join op.f op.op op.op.g1)) left
    ++ map (candidate op.f (row_length op.op) op.op.t2 op.op.t3 (digits_at_join op.f op.op op.op.g2)) right))

-- What a walk over a tree finds: pairs, and the least place of a fault, which may be one from before.
pub record Finds (f : Field) (g : ℕ) (T : Tree) (given pairs : List (List ℕ)) (before after : Option ℕ) : Type 0 where
  pub faults : List (List ℕ)
  pub account : Account f g T given pairs faults
  pub least : after ≡ least_place before faults

-- a matrix of rows of t boundary digits and given digits
pub record ArePairs (f : Field) (t given : ℕ) (m : MatrixValue) : Type 0 where
  pub field : m.f ≡ f
  pub width : m.cols ≡ t + given
  pub each : AreVectors f m.cols m.rows

-- The outcome of a walk over a tree whose elements have the given columns from place `next` on.
abbrev pub Walks :
    Field → Tree → (columns : MatrixValue) → (next after : ℕ) → (before least : Option ℕ) → Result MatrixValue NoMemory → Type 0
Walks f T columns next after before least result =
    OnOk result (after ≡ next + size T)
    × IfOk result (λ pairs. ArePairs f (boundary T) columns.cols pairs
    × Finds f columns.cols T (take (size T) (drop next columns.rows)) pairs.rows before least)
