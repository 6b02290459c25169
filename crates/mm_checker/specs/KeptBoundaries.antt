-- How the checker keeps the boundaries of the subspaces in values.
use Rattle.std.specs.Prelude.{◌≡◌, ℕ, Bool, true, false, ◌&&◌, ◌==◌, List, length, slice_index_or}
use Rattle.std.specs.List.{list_all}
use Rattle.mm_checker.specs.Contents.{meaning}
use Rattle.mm_checker.specs.Claims.{are_spaces_of}
use Rattle.mm_checker.specs.declared.boundaries.Boundaries.{Boundaries}
use Rattle.mm_checker.specs.declared.boundaries.Boundaries.TheVariants as boundaries
use Rattle.mm_checker.specs.declared.certificate.Content.{Content}
use Rattle.mm_checker.specs.declared.certificate.Content.TheVariants as content
use Rattle.mm_checker.specs.declared.certificate.Valued.{Valued}

-- whether all subspaces are of F^t
abbrev pub allows : Boundaries → ℕ → Bool
allows boundaries.Free t = true
allows (boundaries.Of u) t = u == t
allows boundaries.Mixed t = false

-- what is kept of a number
abbrev pub kept_at : List Boundaries → ℕ → Boundaries
kept_at sizes n = slice_index_or sizes n boundaries.Free

-- whether all subspaces in a content are of F^t, by what is kept of its numbers
abbrev pub allowed_in : List Boundaries → ℕ → Content → Bool
allowed_in sizes t (content.Flag n) = true
allowed_in sizes t content.Dead = true
allowed_in sizes t (content.Space key) = key.t == t
allowed_in sizes t (content.Parts a b) = allows (kept_at sizes a) t && allows (kept_at sizes b) t
allowed_in sizes t (content.SetOf ns) = list_all (λ n. allows (kept_at sizes n) t) ns
allowed_in sizes t (content.OneOf a ns) = allows (kept_at sizes a) t && list_all (λ n. allows (kept_at sizes n) t) ns

abbrev pub IsSizeOf : List Boundaries → Content → Boundaries → Type 0
IsSizeOf sizes c b = (t : ℕ) → allows b t ≡ allowed_in sizes t c

-- The boundaries are kept of as many numbers as there are values, and are those of the values of the numbers.
pub record AreSized (values : List Valued) (sizes : List Boundaries) : Type 0 where
  pub count : length sizes ≡ length values
  pub each : (n t : ℕ) → allows (kept_at sizes n) t ≡ are_spaces_of t (meaning values n)
