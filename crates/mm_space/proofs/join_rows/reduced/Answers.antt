use Rattle.std.proofs.Common.{arith}
use Rattle.mm_space.proofs.MarkLemmas.{lowest_mark, without_is_less}
use Rattle.mm_space.proofs.MarkedSteps.{reducing_start, reducing_place, reducing_row, reducing_step, reducing_end}
use Rattle.mm_space.proofs.join_rows.reduced.Goals as goal

pub loop-left-init : goal.loop-left-init
loop-left-init c =
    reducing_start c.args.f 24 c.args.v.now c.args.marks c.support.result c.args.rows.now c.requires.vector c.support.ensures

pub bounds-v-j : goal.bounds-v-j
bounds-v-j c =
    (reducing_place c.args.f 24 c.args.v.now c.args.marks c.args.rows.now _ c.loop-left.left c.loop-left.out _ c.loop-left.invariant
    (lowest_mark c.loop-left.left c.loop-left-test.true c.loop-left.auto.left-fits.fits)).0

pub bounds-rows-j : goal.bounds-rows-j
bounds-rows-j c =
    (reducing_place c.args.f 24 c.args.v.now c.args.marks c.args.rows.now _ c.loop-left.left c.loop-left.out _ c.loop-left.invariant
    (lowest_mark c.loop-left.left c.loop-left-test.true c.loop-left.auto.left-fits.fits)).0

pub axpy-requires-clause-digits_x : goal.axpy-requires-clause-digits_x
axpy-requires-clause-digits_x c =
    (reducing_row c.args.f 24 c.args.v.now c.args.marks c.args.rows.now _ c.loop-left.left c.loop-left.out _ c.requires.echelon c.loop-left.invariant
    (lowest_mark c.loop-left.left c.loop-left-test.true c.loop-left.auto.left-fits.fits)).digits

pub loop-left-smaller : goal.loop-left-smaller
loop-left-smaller c =
    without_is_less c.loop-left.left _ (lowest_mark c.loop-left.left c.loop-left-test.true c.loop-left.auto.left-fits.fits)

pub loop-left-preserved : goal.loop-left-preserved
loop-left-preserved c =
    reducing_step c.args.f 24 c.args.v.now c.args.marks c.args.rows.now _ c.loop-left.left c.loop-left.out _ c.neg.result c.axpy.new.y
    c.requires.echelon c.requires.vector c.loop-left.invariant
    (lowest_mark c.loop-left.left c.loop-left-test.true c.loop-left.auto.left-fits.fits)
    c.neg.ensures.negative c.axpy.ensures

pub returns : goal.returns
returns c = record {
  residue = reducing_end c.args.f 24 c.args.v.now c.args.marks c.args.rows.now _ c.loop-left.left c.loop-left.out (omega arith)
      c.requires.echelon c.requires.vector c.loop-left.invariant c.loop-left-test.false;
  vector = c.loop-left.invariant.underway.vector;
}
