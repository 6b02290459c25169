use Rattle.std.proofs.Common.{◌≡◌, ◌∙◌, [], List, sym, subst, arith}
use Rattle.mm_lines.specs.Places.{Goes, found_in}
use Rattle.mm_lines.specs.declared.line.Line.{Line}
use Rattle.mm_lines.proofs.PlaceLemmas.{goes_on, nothing_in}
use Rattle.mm_lines.proofs.place.next_piece.Goals as goal

pub pieces-preserved : goal.pieces-preserved
pieces-preserved c =
    let bytes = c.args.bytes.now in
    let piece = c.in-Some.piece in
    let cut = c.in-Some.ensures.cut in
    let none : found_in piece ≡ [] = nothing_in piece.passed piece.number piece.bytes.now (sym c.is_handed_out.ensures ∙ c.if-is_handed_out.false) in
    let goes = goes_on c.args.ended bytes c.args.place.now c.pieces.place c.cut.new.place [] c.pieces.invariant.goes
    (subst (λ (l : List Line). Goes c.args.ended bytes c.pieces.place l c.cut.new.place) none cut.0) in
    record { place = c.in-Some.ensures.place; goes = goes; begun = omega (arith, c.pieces.invariant.begun, cut.2) }
