-- Subspaces of F^t by their reduced echelon basis, and how one is packed in a number.
use Rattle.std.specs.Prelude.{ℕ, suc, zero, ◌+◌, ◌*◌, ◌/◌, ◌%◌, ◌^◌, ◌≡◌, ◌↔◌, List, [], ◌∷◌, ◌++◌, map, length}
use Rattle.std.specs.List.{range_with_len}
use Rattle.mm_field.specs.declared.Field.{Field}
use Rattle.mm_field.specs.declared.Field.TheVariants.{Two, Three, Four, Five}
use Rattle.mm_field.specs.Vectors.{InSpan, IsVector, AreVectors}
use Rattle.mm_linear.specs.ReducedEchelon.{reduced_basis}

-- a subspace of F^t by its reduced echelon basis: first digits are 1, from left to right, with zeros above and below each
pub record KeyValue : Type 0 where
  pub f : Field
  pub t : ℕ
  pub rows : List (List ℕ)

-- the same vectors are in both keys
abbrev pub HaveSameVectors : KeyValue → KeyValue → Type 0
HaveSameVectors k u = (v : List ℕ) → IsVector k.f k.t v → InSpan k.f k.t k.rows v ↔ InSpan u.f u.t u.rows v

-- the key is the span of the vectors in F^t
pub record IsKeyOf (f : Field) (t : ℕ) (vectors : List (List ℕ)) (key : KeyValue) : Type 0 where
  pub field : key.f ≡ f
  pub length : key.t ≡ t
  pub each : AreVectors f t key.rows
  pub basis : key.rows ≡ reduced_basis f t vectors

-- n with these digits in base 8 put before its own, the lowest first
abbrev pub number_onto : ℕ → List ℕ → ℕ
number_onto n [] = n
number_onto n (d ∷ ds) = d + 8 * number_onto n ds

-- digit k of n in base 8, the lowest first: three bits
abbrev pub digit_at : ℕ → ℕ → ℕ
digit_at n k = n / 2 ^ (3 * k) % 8

-- the field's own number, and the field of a number
abbrev pub code_of : Field → ℕ
code_of Two = 0
code_of Three = 1
code_of Four = 2
code_of Five = 3

abbrev pub field_of : ℕ → Field
field_of zero = Two
field_of (suc zero) = Three
field_of (suc (suc zero)) = Four
field_of (suc (suc (suc k))) = Five

-- the digits of all rows, one after the other
abbrev pub joined_rows : List (List ℕ) → List ℕ
joined_rows [] = []
joined_rows (v ∷ vs) = v ++ joined_rows vs

-- t, the field, how many rows there are, and their digits
abbrev pub packed : KeyValue → ℕ
packed key = number_onto 0 (key.t ∷ code_of key.f ∷ length key.rows ∷ joined_rows key.rows)

-- the digits of row i of a packed key of width t
abbrev pub unpacked_row : ℕ → ℕ → ℕ → List ℕ
unpacked_row bits t i = map (λ j. digit_at bits (3 + t * i + j)) (range_with_len 0 t)

abbrev pub unpacked : ℕ → KeyValue
unpacked bits = record {
  f = field_of (digit_at bits 1);
  t = digit_at bits 0;
  rows = map (unpacked_row bits (digit_at bits 0)) (range_with_len 0 (digit_at bits 2));
}
