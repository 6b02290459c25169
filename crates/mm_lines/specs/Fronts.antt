-- A list that another one begins with.
use Rattle.std.specs.Prelude.{◌≡◌, List, ◌++◌}

-- xs is a front of ys
abbrev pub IsFront : {A : Type 0} → List A → List A → Type 0
IsFront {A} xs ys = (more : List A) × (xs ++ more ≡ ys)
