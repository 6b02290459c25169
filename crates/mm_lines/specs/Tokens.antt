-- The tokens of a line, and what stands from one of them on.
use Rattle.std.specs.Prelude.{ℕ, zero, suc, Bool, true, false, ◌||◌, ◌==◌, List, [], ◌∷◌, filter, reverse, if◌then◌else◌}
use Rattle.std.specs.List.{slice_split}

-- A blank is a space or a tab.
abbrev pub is_blank : ℕ → Bool
is_blank b = b == 32 || b == 9

-- not empty
abbrev pub has_some : {A : Type 0} → List A → Bool
has_some [] = false
has_some (x ∷ xs) = true

-- The tokens of a line are its longest runs of bytes that are not blanks.
unfoldable pub tokens : List ℕ → List (List ℕ)
tokens line = filter has_some (slice_split is_blank line)

-- a line without the blanks that it begins with
abbrev pub skip_blanks : List ℕ → List ℕ
skip_blanks [] = []
skip_blanks (b ∷ bs) = if is_blank b then skip_blanks bs else b ∷ bs

-- a line from its first blank on
abbrev pub skip_token : List ℕ → List ℕ
skip_token [] = []
skip_token (b ∷ bs) = if is_blank b then b ∷ bs else skip_token bs

-- a line without the blanks at its end
abbrev pub trim_end : List ℕ → List ℕ
trim_end line = reverse (skip_blanks (reverse line))

-- a line that begins with a token, without its first tokens
abbrev pub skip_tokens : ℕ → List ℕ → List ℕ
skip_tokens zero line = line
skip_tokens (suc k) line = skip_tokens k (skip_blanks (skip_token line))

-- A line from its token k on, counted from 0, without the blanks at its end. It is empty where there is no token k.
unfoldable pub rest_of : ℕ → List ℕ → List ℕ
rest_of k line = trim_end (skip_tokens k (skip_blanks line))
