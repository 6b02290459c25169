use Rattle.mm_cli.proofs.MinorLemmas.{facts}
use Rattle.mm_cli.proofs.minors.matrix_of.Goals as goal

pub row-requires : goal.row-requires
row-requires c = (facts c.args.matrix.now c.requires).some
