-- The tokens of a text: its words and signs.
use Rattle.std.specs.Prelude.{ℕ, Bool, true, false, ◌&&◌, ◌||◌, ◌==◌, List, [], ◌∷◌, map, length, take_while, codes, if◌then◌else◌}
use Rattle.std.specs.Str.{bytes_eq}
use Rattle.mm_formula.specs.Variables.{is_word_byte, is_var}
use Rattle.mm_formula.specs.declared.formula.Connective.TheVariants.{And, Or, Implies, Iff}
use Rattle.mm_formula_text.specs.declared.token.Quantifier.TheVariants.{Ex, All}
use Rattle.mm_formula_text.specs.declared.token.Relation.TheVariants.{In, Sub, Equals}
use Rattle.mm_formula_text.specs.declared.token.Token.{Token}
use Rattle.mm_formula_text.specs.declared.token.Token.TheVariants.{Connective, Not, Quantifier, Const, Ind, Relation, Open, Close, Bar, Star, Zero, Variable, Unknown}

-- a space or a tab
abbrev pub is_blank : ℕ → Bool
is_blank b = b == 32 || b == 9

-- whether a text begins with a letter, a digit or an underscore
abbrev pub begins_word : List ℕ → Bool
begins_word [] = false
begins_word (b ∷ bs) = is_word_byte b

-- the words with a byte before the first
abbrev pub longer : ℕ → List (List ℕ) → List (List ℕ)
longer b [] = (b ∷ []) ∷ []
longer b (w ∷ ws) = (b ∷ w) ∷ ws

-- The words and signs of a text: each longest run of letters, digits and underscores is a word, and each other
-- byte that is no blank is a sign.
unfoldable pub lexemes : List ℕ → List (List ℕ)
lexemes [] = []
lexemes (b ∷ bs) =
    if is_blank b then lexemes bs
    else if is_word_byte b && begins_word bs then longer b (lexemes bs)
    else (b ∷ []) ∷ lexemes bs

-- the token that a word or a sign is
unfoldable pub token_of : List ℕ → Token
token_of w =
    if bytes_eq w (codes "iff") then Connective Iff else
    if bytes_eq w (codes "implies") then Connective Implies else
    if bytes_eq w (codes "or") then Connective Or else
    if bytes_eq w (codes "and") then Connective And else
    if bytes_eq w (codes "not") then Not else
    if bytes_eq w (codes "ex") then Quantifier Ex else
    if bytes_eq w (codes "all") then Quantifier All else
    if bytes_eq w (codes "true") then Const true else
    if bytes_eq w (codes "false") then Const false else
    if bytes_eq w (codes "ind") then Ind else
    if bytes_eq w (codes "in") then Relation In else
    if bytes_eq w (codes "sub") then Relation Sub else
    if bytes_eq w (codes "=") then Relation Equals else
    if bytes_eq w (codes "(") then Open else
    if bytes_eq w (codes ")") then Close else
    if bytes_eq w (codes "|") then Bar else
    if bytes_eq w (codes "*") then Star else
    if bytes_eq w (codes "0") then Zero else
    if is_var w then Variable w else Unknown

abbrev pub tokens : List ℕ → List Token
tokens bytes = map token_of (lexemes bytes)

-- the length of the word or sign that a text begins with
abbrev pub first_len : List ℕ → ℕ
first_len [] = 0
first_len (b ∷ bs) = if is_word_byte b then length (take_while is_word_byte (b ∷ bs)) else 1
