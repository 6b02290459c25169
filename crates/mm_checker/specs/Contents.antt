-- The values that a certificate numbers: what each is made of, and which value it is.
use Rattle.std.specs.Prelude.{ℕ, Bool, true, false, ◌&&◌, ◌==◌, nat_lt, List, [], ◌∷◌, ◌++◌, map, length, reverse, slice_get, Option, Some, None, if◌then◌else◌, nat_eq}
use Rattle.std.specs.List.{list_all}
use Rattle.std.specs.Cmp.Lexicographic.{pointwise}
use Rattle.mm_logic.specs.Formula.{Formula}
use Rattle.mm_logic.specs.Formula.Formula.{Const, Ind, Member, SameElem, Sub, SameSet, Bin, ExSet, AllSet, ExElem, AllElem}
use Rattle.mm_logic.specs.Occurrence.{same}
use Rattle.mm_logic.specs.Value.{Value, collected}
use Rattle.mm_logic.specs.Value.{Value as value}
use Rattle.mm_checker.specs.Places.{first_part, second_part}
use Rattle.mm_cert_lines.specs.declared.certificate.AtomWord.{AtomWord}
use Rattle.mm_cert_lines.specs.declared.certificate.AtomWord.TheVariants as word
use Rattle.mm_checker.specs.declared.certificate.Content.{Content}
use Rattle.mm_checker.specs.declared.certificate.Content.TheVariants as content
use Rattle.mm_cert_lines.specs.declared.certificate.Stated.{Stated}
use Rattle.mm_cert_lines.specs.declared.certificate.Stated.TheVariants as stated
use Rattle.mm_checker.specs.declared.certificate.Valued.{Valued}

-- ---- which value a number is

-- the value of a content, where g says which values its numbers are
abbrev pub value_of : (ℕ → Value) → Content → Value
value_of g (content.Flag n) = value.Flag n
value_of g content.Dead = value.Dead
value_of g (content.Space key) = value.Span key.t key.rows
value_of g (content.Parts a b) = value.Pair (g a) (g b)
value_of g (content.SetOf ns) = collected (map g ns)
value_of g (content.OneOf a ns) = value.Pair (g a) (collected (map g ns))

-- the same of values of which the last stands first
abbrev pub meaning_in : List Valued → ℕ → Value
meaning_in [] n = value.Dead
meaning_in (v ∷ earlier) n = if n == length earlier then value_of (meaning_in earlier) v.content else meaning_in earlier n

-- The value of a number. Its content names lower numbers.
abbrev pub meaning : List Valued → ℕ → Value
meaning values n = meaning_in (reverse values) n

-- ---- which contents a place may have

-- the flag that a word stands for at an atom
abbrev pub flag_at : Formula → AtomWord → Option ℕ
flag_at (Const b) word.Unit = Some 0
flag_at (Member x a) word.Unseen = Some 0
flag_at (Member x a) word.Yes = Some 1
flag_at (Member x a) word.No = Some 2
flag_at (SameElem x y) word.Neither = Some 0
flag_at (SameElem x y) word.OnlyX = Some 1
flag_at (SameElem x y) word.OnlyY = Some 2
flag_at (SameElem x y) word.Same = Some 3
flag_at (SameElem x y) word.Diff = Some 4
flag_at (Sub a b) word.Holds = Some 0
flag_at (Sub a b) word.Fails = Some 1
flag_at (SameSet a b) word.Holds = Some 0
flag_at (SameSet a b) word.Fails = Some 1
flag_at F w = None

abbrev pub flag_content : Option ℕ → Option Content
flag_content None = None
flag_content (Some n) = Some (content.Flag n)

abbrev pub is_of_place : ℕ → Option Valued → Bool
is_of_place p None = false
is_of_place p (Some v) = v.place == p

-- whether n is the number of a value of place p
abbrev pub is_value : List Valued → ℕ → ℕ → Bool
is_value values p n = is_of_place p (slice_get values n)

abbrev pub is_rising : List ℕ → Bool
is_rising [] = true
is_rising (n ∷ []) = true
is_rising (n ∷ m ∷ ns) = nat_lt n m && is_rising (m ∷ ns)

-- whether these are numbers of values of place p, in rising order
abbrev pub are_members : List Valued → ℕ → List ℕ → Bool
are_members values p ns = list_all (is_value values p) ns && is_rising ns

abbrev pub unless_bad : Bool → Content → Option Content
unless_bad true c = Some c
unless_bad false c = None

abbrev pub is_ind : Formula → Bool
is_ind (Ind t) = true
is_ind F = false

abbrev pub is_over_sets : Formula → Bool
is_over_sets (ExSet k F) = true
is_over_sets (AllSet k F) = true
is_over_sets F = false

abbrev pub is_over_elements : Formula → Bool
is_over_elements (ExElem k F) = true
is_over_elements (AllElem k F) = true
is_over_elements F = false

-- the first formula of a connective
abbrev pub first_of : Formula → Option Formula
first_of (Bin o F G) = Some F
first_of F = None

abbrev pub pair_at : List Valued → ℕ → (a b : ℕ) → Option Formula → Option Content
pair_at values p a b None = None
pair_at values p a b (Some F) = unless_bad (is_value values (first_part p) a && is_value values (second_part p F) b) (content.Parts a b)

-- The content that a `val` line of place p says, where the place may have it: a connective has values of its two parts, a set
-- quantifier values of its part in rising order, an element quantifier the unassigned value and the members in rising order.
abbrev pub content_at : List Valued → ℕ → Formula → Stated → Option Content
content_at values p F (stated.Word w) = flag_content (flag_at F w)
content_at values p F stated.Dead = unless_bad (is_ind F) content.Dead
content_at values p F (stated.Space key) = unless_bad (is_ind F) (content.Space key)
content_at values p F (stated.Pair a b) = pair_at values p a b (first_of F)
content_at values p F (stated.Set ns) = unless_bad (is_over_sets F && are_members values (first_part p) ns) (content.SetOf ns)
content_at values p F (stated.One a ns) =
    unless_bad (is_over_elements F && is_value values (first_part p) a && are_members values (first_part p) ns) (content.OneOf a ns)

-- the content with more members
abbrev pub with_members : List Valued → ℕ → Content → List ℕ → Option Content
with_members values p (content.SetOf ns) ms =
    unless_bad (are_members values (first_part p) (ns ++ ms)) (content.SetOf (ns ++ ms))
with_members values p (content.OneOf a ns) ms =
    unless_bad (are_members values (first_part p) (ns ++ ms)) (content.OneOf a (ns ++ ms))
with_members values p c ms = None

-- ---- when two contents are one

abbrev pub is_same_list : List ℕ → List ℕ → Bool
is_same_list = pointwise nat_eq

abbrev pub is_same : Content → Content → Bool
is_same (content.Flag n) (content.Flag m) = n == m
is_same content.Dead content.Dead = true
is_same (content.Space k) (content.Space j) = same (value.Span k.t k.rows) (value.Span j.t j.rows)
is_same (content.Parts a b) (content.Parts c d) = (a == c) && (b == d)
is_same (content.SetOf ns) (content.SetOf ms) = is_same_list ns ms
is_same (content.OneOf a ns) (content.OneOf b ms) = (a == b) && is_same_list ns ms
is_same c d = false
