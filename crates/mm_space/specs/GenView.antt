-- How a `Gen` is kept.
use Rattle.std.specs.Prelude.{◌-◌, ◌≤◌, ◌≡◌, [], ◌++◌, length, take, replicate}
use Rattle.mm_space.specs.declared.generator.Gen.TheInside.{Inside}

-- at most six rows, and empty vectors after them
pub record IsStored (g : Inside) : Type 0 where
  pub few : g.count ≤ 6
  pub size : length g.kept ≡ 6
  pub back : record { count = length (take g.count g.kept); kept = take g.count g.kept ++ replicate (6 - length (take g.count g.kept)) [] } ≡ g
