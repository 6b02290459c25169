use Rattle.std.proofs.Common.{◌+◌}
use Rattle.mm_space.specs.Preimages.{tagged_rows}
use Rattle.mm_space.proofs.Gathering.{IsGathering}
use Rattle.mm_space.proofs.images.residue_rows.Given as goal

abbrev pub invariant-loop-i : goal.invariant-loop-i
invariant-loop-i l = IsGathering l.f 24 (6 + l.r) (tagged_rows l.f l.t l.g l.space) l.i l.all
