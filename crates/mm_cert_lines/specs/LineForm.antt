-- What a line of a certificate says, by its tokens, and which lines say nothing.
use Rattle.std.specs.Prelude.{ℕ, Bool, ◌&&◌, ◌==◌, nat_le, nat_lt, List, [], ◌∷◌, length, codes, Option, Some, None, if◌then◌else◌, nat_eq}
use Rattle.std.specs.List.{list_all}
use Rattle.std.specs.Str.{bytes_eq}
use Rattle.std.specs.Cmp.Lexicographic.{pointwise}
use Rattle.mm_base.specs.Names.{name_of}
use Rattle.mm_field.specs.declared.Field.{Field}
use Rattle.mm_linear.specs.ReducedEchelon.{reduced_basis}
use Rattle.mm_lines.specs.Numbers.{u32_of, i64_of}
use Rattle.mm_space.specs.DigitTexts.{vectors_of}
use Rattle.mm_space.specs.KeyValue.{KeyValue}
use Rattle.mm_cert_lines.specs.Fields.{◌>>=◌, only_if, two_of, four_of, five_of, numbers_of, at_most}
use Rattle.mm_cert_lines.specs.declared.certificate.AtomWord.{AtomWord}
use Rattle.mm_cert_lines.specs.declared.certificate.AtomWord.TheVariants as word
use Rattle.mm_cert_lines.specs.declared.certificate.CertLine.{CertLine}
use Rattle.mm_cert_lines.specs.declared.certificate.CertLine.TheVariants.{Val, More, Leaf, Glue, Node, Has, HasSet, End}
use Rattle.mm_cert_lines.specs.declared.certificate.Stated.{Stated}
use Rattle.mm_cert_lines.specs.declared.certificate.Stated.TheVariants as stated

-- ---- values

-- the words of a place that is `in` or an equation of elements
abbrev pub member_word : List ℕ → Option AtomWord
member_word t =
    if bytes_eq t (codes "unseen") then Some word.Unseen
    else if bytes_eq t (codes "yes") then Some word.Yes
    else if bytes_eq t (codes "no") then Some word.No
    else None

abbrev pub same_word : List ℕ → Option AtomWord
same_word t =
    if bytes_eq t (codes "none") then Some word.Neither
    else if bytes_eq t (codes "onlyx") then Some word.OnlyX
    else if bytes_eq t (codes "onlyy") then Some word.OnlyY
    else if bytes_eq t (codes "same") then Some word.Same
    else if bytes_eq t (codes "diff") then Some word.Diff
    else None

abbrev pub else_by : Option AtomWord → Option AtomWord → Option AtomWord
else_by None w = w
else_by (Some v) w = Some v

-- the word of an atom's value
abbrev pub atom_word : List ℕ → Option AtomWord
atom_word t =
    if bytes_eq t (codes "unit") then Some word.Unit
    else if bytes_eq t (codes "holds") then Some word.Holds
    else if bytes_eq t (codes "fails") then Some word.Fails
    else else_by (member_word t) (same_word t)

abbrev pub worded : Option AtomWord → Option Stated
worded None = None
worded (Some w) = Some (stated.Word w)

-- the value of one word
abbrev pub plain_value : List ℕ → Option Stated
plain_value t = if bytes_eq t (codes "dead") then Some stated.Dead else worded (atom_word t)

-- Whether these are the reduced echelon rows of a subspace of F^t.
unfoldable pub is_basis : Field → ℕ → List (List ℕ) → Bool
is_basis f t rows = nat_le t 6 && list_all (λ v. length v == t) rows && pointwise (pointwise nat_eq) (reduced_basis f t rows) rows

abbrev pub space_of : Field → ℕ → List (List ℕ) → Option KeyValue
space_of f t rows = only_if (is_basis f t rows) (record { f = f; t = t; rows = rows })

-- `space T GEN`
unfoldable pub space_value : Field → List (List ℕ) → Option Stated
space_value f ts = do
  s ← two_of ts
  t ← u32_of s.0
  rows ← vectors_of f s.1
  key ← space_of f t rows
  Some (stated.Space key)

-- `pair A B`
unfoldable pub pair_value : List (List ℕ) → Option Stated
pair_value ts = do
  s ← two_of ts
  a ← u32_of s.0
  b ← u32_of s.1
  Some (stated.Pair a b)

-- `set A ..`, of at most 1024 numbers
abbrev pub set_value : List (List ℕ) → Option Stated
set_value ts = at_most 1024 (numbers_of ts) >>= λ ns. Some (stated.Set ns)

-- `one A B ..`, of at most 1024 numbers
abbrev pub one_value : List (List ℕ) → Option Stated
one_value [] = None
one_value (t ∷ ts) = u32_of t >>= λ a. at_most 1023 (numbers_of ts) >>= λ ns. Some (stated.One a ns)

-- a value of numbers, or of a word that stands alone
abbrev pub small_value : Field → List ℕ → List (List ℕ) → Option Stated
small_value f t [] = plain_value t
small_value f t ts = if bytes_eq t (codes "space") then space_value f ts else if bytes_eq t (codes "pair") then pair_value ts else None

-- the tokens after the number of the place
abbrev pub value_of : Field → List ℕ → List (List ℕ) → Option Stated
value_of f t ts = if bytes_eq t (codes "set") then set_value ts else if bytes_eq t (codes "one") then one_value ts else small_value f t ts

-- ---- lines

-- `val P CONTENT`
abbrev pub value_line : Field → List (List ℕ) → Option CertLine
value_line f [] = None
value_line f (t ∷ []) = None
value_line f (t ∷ u ∷ ts) = u32_of t >>= λ p. value_of f u ts >>= λ v. Some (Val p v)

-- `more A ..`
abbrev pub more_line : List (List ℕ) → Option CertLine
more_line ts = numbers_of ts >>= λ ns. Some (More ns)

-- `leaf P K M V`
unfoldable pub leaf_line : List (List ℕ) → Option CertLine
leaf_line ts = do
  s ← four_of ts
  p ← u32_of s.0
  k ← u32_of s.1
  m ← u32_of s.2
  v ← u32_of s.3
  only_if (nat_lt m 65536) (Leaf (record { place = p; leaf = k; marks = m }) v)

-- `glue P O A B V`
unfoldable pub glue_line : List (List ℕ) → Option CertLine
glue_line ts = do
  s ← five_of ts
  p ← u32_of s.0
  o ← name_of s.1
  a ← u32_of s.2
  b ← u32_of s.3
  v ← u32_of s.4
  Some (Glue (record { place = p; op = o; left = a; right = b }) v)

-- `has V W X Y`
unfoldable pub row_line : List (List ℕ) → Option CertLine
row_line ts = do
  s ← four_of ts
  v ← u32_of s.0
  w ← i64_of s.1
  x ← u32_of s.2
  y ← u32_of s.3
  Some (HasSet v w x y)

-- `has V`, or a line of four numbers
abbrev pub has_line : List (List ℕ) → Option CertLine
has_line (t ∷ []) = u32_of t >>= λ v. Some (Has v)
has_line ts = row_line ts

-- a line of one word
abbrev pub bare_line : List ℕ → Option CertLine
bare_line t = if bytes_eq t (codes "node") then Some Node else if bytes_eq t (codes "end") then Some End else None

-- a line of a word and numbers, or of a word that stands alone
abbrev pub short_line : List ℕ → List (List ℕ) → Option CertLine
short_line t [] = bare_line t
short_line t ts =
    if bytes_eq t (codes "leaf") then leaf_line ts
    else if bytes_eq t (codes "glue") then glue_line ts
    else if bytes_eq t (codes "has") then has_line ts
    else None

-- What a line says by its tokens.
abbrev pub line_of : Field → List (List ℕ) → Option CertLine
line_of f [] = None
line_of f (t ∷ ts) = if bytes_eq t (codes "val") then value_line f ts else if bytes_eq t (codes "more") then more_line ts else short_line t ts
