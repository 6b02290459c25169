use Rattle.std.proofs.Common.{sym, refl, ◌∙◌, ◌≡◌, w64, to_z, of_z, arith}
use Rattle.std.proofs.lemmas.Int.{ints, to_z-of_z}
use Rattle.mm_checker.specs.KeptNodes.{kept_rows}
use Rattle.mm_checker.proofs.RowLemmas.{pair_some, light_at}
use Rattle.mm_checker.proofs.nodes.pair_choice.Goals as goal

pub sum-requires-clause-left : goal.sum-requires-clause-left
sum-requires-clause-left c = light_at (kept_rows c.args.left.now) c.args.x c.in_ok-first.first c.requires.left (sym c.in_ok-first.ensures)

pub sum-requires-clause-right : goal.sum-requires-clause-right
sum-requires-clause-right c = light_at (kept_rows c.args.right.now) c.args.y c.in_ok-second.second c.requires.right (sym c.in_ok-second.ensures)

pub returns : goal.returns
returns c =
    let e : to_z w64 (of_z w64 c.sum.result) ≡ c.sum.result = grind (arith, ints, to_z-of_z) in
    pair_some c.args.claims.now.glues.entries c.args.op c.args.x c.args.y c.args.left.now c.args.right.now c.in_ok-first.first c.in_ok-second.second _
    (sym c.in_ok-first.ensures) (sym c.in_ok-second.ensures) (c.at_glue.ensures, e ∙ c.sum.ensures, refl, refl)
