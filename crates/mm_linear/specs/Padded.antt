-- Vectors filled up with zeros to a greater length.
use Rattle.std.specs.Prelude.{ℕ, ◌-◌, List, ◌++◌, length}
use Rattle.mm_field.specs.Vectors.{zeros}

-- v with zeros after it, up to n entries
abbrev pub padded : ℕ → List ℕ → List ℕ
padded n v = v ++ zeros (n - length v)
