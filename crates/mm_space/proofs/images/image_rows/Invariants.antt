use Rattle.mm_space.proofs.Gathering.{IsGathering}
use Rattle.mm_space.specs.Images.{wide_images}
use Rattle.mm_space.proofs.images.image_rows.Given as goal

abbrev pub invariant-loop-i : goal.invariant-loop-i
invariant-loop-i l = IsGathering l.f 24 l.r (wide_images l.f l.g l.key.rows) l.i l.rows
