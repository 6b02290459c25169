-- Lists of variables without repeats.
use Rattle.std.specs.Prelude.{◌≡◌, ℕ, Bool, false, List, [], ◌∷◌}
use Rattle.std.specs.List.{list_any}
use Rattle.std.specs.Str.{bytes_eq}

-- whether a variable is in a list
abbrev pub has : List ℕ → List (List ℕ) → Bool
has v vs = list_any (bytes_eq v) vs

-- no variable stands twice
abbrev pub IsDistinct : List (List ℕ) → Type 0
IsDistinct [] = Unit {0}
IsDistinct (v ∷ vs) = (has v vs ≡ false) × IsDistinct vs
