use Rattle.std.proofs.Common.{refl}
use Rattle.mm_space.proofs.MarkLemmas.{highest}
use Rattle.mm_space.proofs.join_rows.last.Goals as goal

pub returns : goal.returns
returns c = highest c.args.places _ c.requires c.ranges.places.fits refl
