-- Rows as they are kept in memory, as lists of digits.
use Rattle.std.specs.Prelude.{ℕ, List, map}
use Rattle.std.specs.declared.alloc.Global.{Global}
use Rattle.std.specs.declared.vec.Vec.{Vec}

abbrev pub digits : List (Vec ℕ Global) → List (List ℕ)
digits rows = map (λ r. r.items) rows
