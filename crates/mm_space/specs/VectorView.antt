-- How a `Vector` is kept.
use Rattle.std.specs.Prelude.{◌≤◌, ◌≡◌, length, take}
use Rattle.mm_linear.specs.Padded.{padded}
use Rattle.mm_space.specs.declared.vector.Vector.TheInside.{Inside}

-- at most 18 digits, and zeros after them
pub record IsStored (a : Inside) : Type 0 where
  pub short : a.len ≤ 18
  pub size : length a.digits ≡ 24
  pub back : record { len = length (take a.len a.digits); digits = padded 24 (take a.len a.digits) } ≡ a
