-- How a `Key` is kept.
use Rattle.std.specs.Prelude.{◌≡◌, ◌≤◌, length}
use Rattle.mm_field.specs.Vectors.{AreVectors}
use Rattle.mm_linear.specs.ReducedEchelon.{reduced_basis}
use Rattle.mm_space.specs.KeyValue.{KeyValue, packed, unpacked}
use Rattle.mm_space.specs.declared.key.Key.TheInside.{Inside}

-- the rows are at most t vectors of t digits, t at most 6, and the reduced echelon basis of their span
pub record IsReduced (key : KeyValue) : Type 0 where
  pub narrow : key.t ≤ 6
  pub few : length key.rows ≤ key.t
  pub each : AreVectors key.f key.t key.rows
  pub basis : reduced_basis key.f key.t key.rows ≡ key.rows

pub record IsPacked (k : Inside) : Type 0 where
  pub reduced : IsReduced (unpacked k.bits)
  pub back : packed (unpacked k.bits) ≡ k.bits
