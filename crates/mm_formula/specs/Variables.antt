-- Words and variables.
use Rattle.std.specs.Prelude.{ℕ, Bool, true, false, not, ◌&&◌, ◌||◌, ◌==◌, nat_le, List, [], ◌∷◌, length, codes, Option, Some, None, if◌then◌else◌}
use Rattle.std.specs.Char.{is_ascii_alphabetic, is_ascii_uppercase, is_ascii_digit}
use Rattle.std.specs.List.{list_all}
use Rattle.std.specs.Str.{bytes_eq}

-- a letter, a digit or an underscore
abbrev pub is_word_byte : ℕ → Bool
is_word_byte b = is_ascii_alphabetic b || is_ascii_digit b || b == 95

-- a letter, and then letters, digits and underscores
abbrev pub is_word : List ℕ → Bool
is_word [] = false
is_word (b ∷ bs) = is_ascii_alphabetic b && list_all is_word_byte bs

-- a word that the grammar of formulas has for itself
unfoldable pub is_reserved : List ℕ → Bool
is_reserved w =
    if bytes_eq w (codes "iff") then true else
    if bytes_eq w (codes "implies") then true else
    if bytes_eq w (codes "or") then true else
    if bytes_eq w (codes "and") then true else
    if bytes_eq w (codes "not") then true else
    if bytes_eq w (codes "ex") then true else
    if bytes_eq w (codes "all") then true else
    if bytes_eq w (codes "true") then true else
    if bytes_eq w (codes "false") then true else
    if bytes_eq w (codes "ind") then true else
    if bytes_eq w (codes "in") then true else
    bytes_eq w (codes "sub")

-- a word of at most 16 bytes that is not reserved
abbrev pub is_var : List ℕ → Bool
is_var bytes = nat_le (length bytes) 16 && is_word bytes && not (is_reserved bytes)

-- the variable that the bytes spell
abbrev pub var_of : List ℕ → Option (List ℕ)
var_of bytes = if is_var bytes then Some bytes else None

-- a variable for a set begins with an upper-case letter, one for an element with a lower-case letter
abbrev pub is_set : List ℕ → Bool
is_set [] = false
is_set (b ∷ bs) = is_ascii_uppercase b
