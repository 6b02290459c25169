use Rattle.std.proofs.Common.{◌+◌, arith, sym, subst}
use Rattle.mm_space.proofs.RowLemmas.{IsClearing, clearing_step, clearing_zero, cleared_from_rows}
use Rattle.mm_space.proofs.rows.clear_all.Goals.{then-d-ne0, else-d-ne0}
use Rattle.mm_space.proofs.rows.clear_all.Goals as goal

pub loop-i-preserved : goal.loop-i-preserved
loop-i-preserved c =
    let f = c.args.f in
    let p = c.args.p in
    let w = c.args.w.now in
    let rows = c.args.rows.now in
    let i = c.loop-i.i in
    let more = c.loop-i-test.true in
    let narrow = c.requires.narrow in
    let low = c.loop-i.auto.i in
    elim c.if-d-ne0.branch [
      | then-d-ne0 b ↦
          subst (λ m. IsClearing f 24 p w rows (i + 1) m) (sym b.rows-is)
          (clearing_step f 24 p w rows i c.loop-i.rows b.neg.result b.axpy.new.y low (omega arith) c.loop-i.invariant
          b.neg.ensures.negative b.axpy.ensures)
      | else-d-ne0 b ↦
          subst (λ m. IsClearing f 24 p w rows (i + 1) m) (sym b.rows-is)
          (clearing_zero f 24 p w rows i c.loop-i.rows c.requires.vector c.requires.echelon low (omega arith) c.loop-i.invariant
          b.if-d-ne0.false)
    ]

pub returns : goal.returns
returns c =
    let h = c.loop-i.invariant in
    let ended = c.loop-i-test.false in
    let place = c.requires.place in
    cleared_from_rows c.args.f 24 c.args.r c.args.p c.args.w.now c.args.rows.now c.loop-i.rows c.requires.vector c.requires.echelon
    c.requires.within place c.requires.narrow h.size h.before
    (λ k low l. h.done k low (omega arith))
    (λ k high. h.rest k (omega arith))
