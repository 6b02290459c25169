use Rattle.std.proofs.Common.{◌≤◌, arith}
use Rattle.mm_lines.proofs.PlaceLemmas.{clean_both, goes_after_newline, begun_step}
use Rattle.mm_lines.proofs.place.cut.Goals as goal

pub returns-in-Some-clause-cut : goal.returns-in-Some-clause-cut
returns-in-Some-clause-cut c =
    let bytes = c.args.bytes.now in
    let p = c.args.place.now in
    let stop = c.in-Some.end in
    let found = c.in-Some.ensures in
    let order : p.start ≤ stop = omega (arith, c.requires.place.order, found.0) in
    let clean = clean_both bytes p.start p.searched stop c.requires.place.clean found.2 in
    (goes_after_newline c.args.ended bytes p stop order found.1 clean found.3, λ h. (omega (arith, order)), begun_step p.passing p.number)
