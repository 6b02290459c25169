use Rattle.std.proofs.lemmas.Bool.{and_parts, ltb-true}
use Rattle.mm_states.proofs.GridLemmas.{put_keeps}
use Rattle.mm_states.proofs.grid.Grid.put.Goals as goal

pub returns-clause-others : goal.returns-clause-others
returns-clause-others c =
    let g = c.args.self.now in
    let p = and_parts _ _ c.requires.covered in
    put_keeps g.width c.args.left c.args.right c.args.id g.cells.items (ltb-true _ _ p.0) (ltb-true _ _ p.1) g.square
