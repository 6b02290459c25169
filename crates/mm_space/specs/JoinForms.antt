-- An operator's matrices in the form in which one elimination joins, and what the join answers.
use Rattle.std.specs.Prelude.{ℕ, ◌+◌, ◌-◌, ◌≤◌, List, ◌++◌, map, take, drop, length, replicate, Option, Some, None}
use Rattle.mm_field.specs.declared.Field.{Field}
use Rattle.mm_field.specs.Vectors.{zeros, combination, times_matrix, AreVectors, AreIndependent, InSpan, SameRowSpace}
use Rattle.mm_linear.specs.Decide.{echelon_of}
use Rattle.mm_linear.specs.Echelons.{ZeroFrom}
use Rattle.mm_linear.specs.Eliminate.{residue}
use Rattle.mm_linear.specs.Sums.{MeetTrivially}
use Rattle.mm_space.specs.Insertion.{IsHeld}
use Rattle.mm_space.specs.KeyValue.{KeyValue}
use Rattle.mm_space.specs.Preimages.{IsPreimage, tagged_rows}
use Rattle.mm_space.specs.SpaceValue.{SpaceValue}

-- three matrices with rows of r digits
pub record FormValue : Type 0 where
  pub f : Field
  pub r : ℕ
  pub g1 : List (List ℕ)
  pub g2 : List (List ℕ)
  pub g3 : List (List ℕ)

-- ---- what a join answers

-- all b times g, for the rows b
abbrev pub image_list : Field → ℕ → List (List ℕ) → List (List ℕ) → List (List ℕ)
image_list f r g rows = map (times_matrix f r g) rows

-- the sum of the images of two spans, as the span of all images
abbrev pub sum_of_images : Field → ℕ → (g1 g2 : List (List ℕ)) → (rows sows : List (List ℕ)) → SpaceValue
sum_of_images f r g1 g2 rows sows = record { f = f; r = r; rows = image_list f r g1 rows ++ image_list f r g2 sows }

-- the zero vector alone is b*G1 for a b of the left key and b*G2 for a b of the right one
abbrev pub ImagesMeetTrivially : FormValue → KeyValue → KeyValue → Type 0
ImagesMeetTrivially s left right =
    MeetTrivially s.r (InSpan s.f s.r (image_list s.f s.r s.g1 left.rows)) (InSpan s.f s.r (image_list s.f s.r s.g2 right.rows))

-- the key of all b such that b*G3 is in the sum of both images, and nothing where the images share another vector than zero
abbrev pub Joins : FormValue → KeyValue → KeyValue → Option KeyValue → Type 0
Joins s left right (Some key) =
    ImagesMeetTrivially s left right × IsPreimage (sum_of_images s.f s.r s.g1 s.g2 left.rows right.rows) s.g3 (length s.g3) key
Joins s left right None = ImagesMeetTrivially s left right → ⊥

-- ---- the form

-- x, of r digits, with room for tags before it and zeros after it
abbrev pub moved : ℕ → List ℕ → List ℕ
moved r x = zeros 6 ++ (x ++ zeros (18 - r))

-- x in its normal form: what is left of it beside rows
abbrev pub normal : Field → ℕ → List (List ℕ) → List ℕ → List ℕ
normal f r rows x = residue f 24 (moved r x) rows

abbrev pub no_rows : List (List ℕ)
no_rows = replicate 24 (zeros 24)

-- the tagged rows of g in echelon form
abbrev pub third_rows : Field → List (List ℕ) → List (List ℕ)
third_rows f g = echelon_of f 24 (tagged_rows f (length g) g no_rows)

-- the rows of g in their normal form beside the tagged rows of g3, and zero rows up to six
abbrev pub form_rows : Field → ℕ → List (List ℕ) → List (List ℕ) → List (List ℕ)
form_rows f r g3 g = map (normal f r (third_rows f g3)) g ++ replicate (6 - length g) (zeros 24)

-- matrices of at most six rows of r digits, those of g2 and of g3 independent
pub record HaveForm (f : Field) (r : ℕ) (g1 g2 g3 : List (List ℕ)) : Type 0 where
  pub narrow : r ≤ 18
  pub few1 : length g1 ≤ 6
  pub few2 : length g2 ≤ 6
  pub few3 : length g3 ≤ 6
  pub each1 : AreVectors f r g1
  pub each2 : AreVectors f r g2
  pub each3 : AreVectors f r g3
  pub independent2 : AreIndependent f r g2
  pub independent3 : AreIndependent f r g3
  pub within : ZeroFrom 24 (6 + r) (third_rows f g3)

-- ---- the steps of a join

-- all b times the first t rows of a form, for the rows b
abbrev pub form_images : Field → ℕ → List (List ℕ) → List (List ℕ) → List (List ℕ)
form_images f t form rows = map (λ b. combination f 24 b (take t form)) rows

-- all has the span of L and of R from row i on, and these spans meet in zero alone
pub record IsApartFrom (f : Field) (n r : ℕ) (L R : List (List ℕ)) (i : ℕ) (all : List (List ℕ)) : Type 0 where
  pub low : i ≤ length R
  pub held : IsHeld f n r all
  pub span : SameRowSpace f n (drop i R ++ L) all
  pub meet : MeetTrivially n (InSpan f n L) (InSpan f n (drop i R))
