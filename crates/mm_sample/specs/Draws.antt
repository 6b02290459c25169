-- The generator of a sample: the numbers that it goes through, and what is drawn.
use Rattle.std.specs.Prelude.{ℕ, zero, suc, ◌+◌, ◌*◌, ◌%◌, ℤ, pos, List, [], ◌∷◌}

-- The number after x.
unfoldable pub next : ℕ → ℕ
next x = x * 48271 % 2147483647

-- The number so many draws after x.
abbrev pub after : (draws x : ℕ) → ℕ
after zero x = x
after (suc draws) x = next (after draws x)

-- The k-th draw after x, from 1, below m.
abbrev pub draw : (k m x : ℕ) → ℕ
draw k m x = after k x % m

-- The two digits that are drawn after x, below q.
abbrev pub digits_after : (q x : ℕ) → List ℕ
digits_after q x = draw 1 q x ∷ draw 2 q x ∷ []

-- The weight that is drawn after x: 1 plus a draw below 100.
abbrev pub weight_after : ℕ → ℤ
weight_after x = pos (1 + draw 1 100 x)
