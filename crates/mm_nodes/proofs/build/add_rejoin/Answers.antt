use Rattle.std.proofs.Common.{ap, ◌+◌, arith}
use Rattle.mm_nodes.proofs.EntryLemmas.{no_room, refused, entry_added}
use Rattle.mm_nodes.proofs.build.add_rejoin.Goals as goal

pub returns-in-Err-clause-adds : goal.returns-in-Err-clause-adds
returns-in-Err-clause-adds g c = no_room _ _ _ _ _ _ c.requires.exact c.in-Err.ensures

pub returns-in-Ok-rejoin-clause-adds : goal.returns-in-Ok-rejoin-clause-adds
returns-in-Ok-rejoin-clause-adds g c = entry_added _ _ _ _ _ _ _ _ c.in-Ok.room _ _ c.in-Ok.ensures c.in-Ok-rejoin.ensures.makes (ap (λ n. c.args.rows.now + n) c.row_count.ensures) (omega arith)

pub returns-in-Err-rejoin-clause-adds : goal.returns-in-Err-rejoin-clause-adds
returns-in-Err-rejoin-clause-adds g c = refused _ _ _ _ _ c.in-Ok.room _ c.requires.exact c.in-Ok.ensures c.in-Err-rejoin.ensures.makes
