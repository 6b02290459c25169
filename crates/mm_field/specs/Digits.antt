-- The fields of two, three, four and five elements on the digits 0 to q-1.
use Rattle.std.specs.Prelude.{ℕ, ◌+◌, ◌*◌, ◌-◌, ◌%◌, bit_xor, List, [], ◌∷◌, slice_index, slice_index_or}
use Rattle.mm_field.specs.declared.Field.{Field}
use Rattle.mm_field.specs.declared.Field.TheVariants.{Two, Three, Four, Five}

-- q, the number of elements of the field
abbrev pub order : Field → ℕ
order Two = 2
order Three = 3
order Four = 4
order Five = 5

-- The sum of two digits: modulo q, and in GF(4) the bitwise exclusive or.
abbrev pub digit_sum : Field → ℕ → ℕ → ℕ
digit_sum Two a b = (a + b) % 2
digit_sum Three a b = (a + b) % 3
digit_sum Four a b = bit_xor a b
digit_sum Five a b = (a + b) % 5

-- The products in GF(4): 2 is a root of z^2 + z + 1, so 2*2 = 3, 2*3 = 1 and 3*3 = 2.
abbrev pub four_products : List (List ℕ)
four_products =
    (0 ∷ 0 ∷ 0 ∷ 0 ∷ [])
    ∷ (0 ∷ 1 ∷ 2 ∷ 3 ∷ [])
    ∷ (0 ∷ 2 ∷ 3 ∷ 1 ∷ [])
    ∷ (0 ∷ 3 ∷ 1 ∷ 2 ∷ [])
    ∷ []

-- the product of two digits: modulo q, and in GF(4) by its table
abbrev pub digit_product : Field → ℕ → ℕ → ℕ
digit_product Two a b = (a * b) % 2
digit_product Three a b = (a * b) % 3
digit_product Four a b = slice_index (slice_index_or four_products a []) b
digit_product Five a b = (a * b) % 5

-- the digit that adds up to 0 with a digit
abbrev pub digit_negative : Field → ℕ → ℕ
digit_negative Two a = a
digit_negative Three a = (3 - a) % 3
digit_negative Four a = a
digit_negative Five a = (5 - a) % 5

-- the digit whose product with a digit other than 0 is 1
abbrev pub digit_inverse : Field → ℕ → ℕ
digit_inverse Two a = a
digit_inverse Three a = a
digit_inverse Four a = slice_index (0 ∷ 1 ∷ 3 ∷ 2 ∷ []) a
digit_inverse Five a = slice_index (0 ∷ 1 ∷ 3 ∷ 2 ∷ 4 ∷ []) a

-- ---- The operations of the field. A number that is no digit is read modulo q, so that the laws hold of all numbers.

-- a + b
unfoldable pub plus : Field → ℕ → ℕ → ℕ
plus f a b = digit_sum f (a % order f) (b % order f)

-- a times b
unfoldable pub times : Field → ℕ → ℕ → ℕ
times f a b = digit_product f (a % order f) (b % order f)

-- -a
unfoldable pub negative : Field → ℕ → ℕ
negative f a = digit_negative f (a % order f)

-- 1/a, for a other than 0
unfoldable pub inverse : Field → ℕ → ℕ
inverse f a = digit_inverse f (a % order f)
