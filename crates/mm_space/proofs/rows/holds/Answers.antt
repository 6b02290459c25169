use Rattle.mm_space.proofs.RowLemmas.{holds_decides}
use Rattle.mm_space.proofs.rows.holds.Goals as goal

pub returns : goal.returns
returns c =
    holds_decides c.args.f 24 c.args.r c.args.rows.now c.args.v.now c.reduced.result c.last_nonzero.result c.is_none.result
    c.requires.echelon c.requires.vector c.requires.narrow c.reduced.ensures.residue
    c.last_nonzero.ensures.found c.last_nonzero.ensures.none c.is_none.ensures
