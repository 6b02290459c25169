-- The vectors of an image, as they are kept.
use Rattle.std.specs.Prelude.{ℕ, List, map}
use Rattle.mm_field.specs.declared.Field.{Field}
use Rattle.mm_field.specs.Vectors.{combination}
use Rattle.mm_linear.specs.Padded.{padded}

-- the rows times g, with zeros after them
abbrev pub wide_images : Field → List (List ℕ) → List (List ℕ) → List (List ℕ)
wide_images f g rows = map (λ b. combination f 24 b (map (padded 24) g)) rows
