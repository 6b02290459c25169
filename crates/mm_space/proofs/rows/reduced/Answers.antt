use Rattle.std.proofs.Common.{◌+◌, ◌<◌, arith, sym, subst}
use Rattle.mm_space.proofs.RowLemmas.{IsUnderway, underway_step, underway_zero, underway_end, residue_ends}
use Rattle.mm_linear.specs.Echelons.{EndsAt}
use Rattle.mm_space.proofs.rows.reduced.Goals.{then-rows-j-ne0, else-rows-j-ne0}
use Rattle.mm_space.proofs.rows.reduced.Goals as goal

pub loop-j-preserved : goal.loop-j-preserved
loop-j-preserved c =
    let f = c.args.f in
    let v = c.args.v.now in
    let rows = c.args.rows.now in
    let j = c.loop-j.j in
    let out = c.loop-j.out in
    let narrow = c.requires.narrow in
    let more = c.loop-j-test.true in
    let inside : j < 24 = omega arith in
    elim c.if-rows-j-ne0.branch [
      | then-rows-j-ne0 w ↦
          subst (λ y. IsUnderway f 24 v rows (j + 1) y) (sym w.out-is)
          (underway_step f 24 v rows j out w.neg.result w.axpy.new.y c.requires.echelon c.requires.vector inside c.loop-j.invariant
          w.neg.ensures.negative w.axpy.ensures)
      | else-rows-j-ne0 w ↦
          subst (λ y. IsUnderway f 24 v rows (j + 1) y) (sym w.out-is)
          (underway_zero f 24 v rows j out c.requires.echelon c.requires.vector inside c.loop-j.invariant w.if-rows-j-ne0.false)
    ]

pub returns : goal.returns
returns c =
    let f = c.args.f in
    let v = c.args.v.now in
    let rows = c.args.rows.now in
    let h = c.requires.echelon in
    let hv = c.requires.vector in
    let ended = c.loop-j-test.false in
    let out_is = underway_end f 24 v rows c.loop-j.j c.loop-j.out h hv (λ k low l. c.requires.ends k (omega arith) l) c.loop-j.invariant in
    record {
      residue = out_is;
      vector = c.loop-j.invariant.vector;
      ends = subst (λ u. EndsAt 24 c.args.r u) (sym out_is) (residue_ends f 24 c.args.r v rows h hv c.requires.within c.requires.ends);
    }
