use Rattle.std.proofs.Common.{ℕ, ◌*◌, ◌%◌, ◌^◌, List, sym, subst, arith, bit_and, w64}
use Rattle.std.specs.Int.{trailing_zeros}
use Rattle.std.proofs.lemmas.Nat.Bits.{ones_shl}
use Rattle.mm_space.specs.MarkedRows.{marked_rows}
use Rattle.mm_space.proofs.MarkLemmas.{lowest_mark, without, without_is_less}
use Rattle.mm_space.proofs.MarkedSteps.{IsClearingMarked, clearing_start, clearing_place, clearing_row, clearing_next, clearing_next_zero, clearing_marked_end}
use Rattle.mm_space.proofs.join_rows.clear_column.Goals.{then-d-ne0, else-d-ne0}
use Rattle.mm_space.proofs.join_rows.clear_column.Goals as goal

pub loop-left-init : goal.loop-left-init
loop-left-init c =
    let marks = c.args.marks in
    let rows = c.args.rows.now in
    let place = c.requires.place in
    subst (λ (high : ℕ). IsClearingMarked c.args.f 24 c.args.p c.args.w.now marks (marked_rows 24 marks rows) (bit_and marks high) (bit_and marks high) rows)
    (sym (ones_shl 64 c.args.p (omega arith)))
    (clearing_start c.args.f 24 c.args.p c.args.w.now marks rows place (omega arith) c.requires.few c.told-rows)

pub bounds-rows-i : goal.bounds-rows-i
bounds-rows-i c =
    clearing_place c.args.f 24 c.args.p c.args.w.now c.args.marks (marked_rows 24 c.args.marks c.args.rows.now) _ c.loop-left.left c.loop-left.rows _
    c.loop-left.invariant (lowest_mark c.loop-left.left c.loop-left-test.true c.loop-left.auto.left-fits.fits)

pub neg-requires : goal.neg-requires
neg-requires c =
    let row = clearing_row c.args.f 24 c.args.p c.args.w.now c.args.marks (marked_rows 24 c.args.marks c.args.rows.now) _ c.loop-left.left c.loop-left.rows _
    c.requires.echelon c.loop-left.invariant (lowest_mark c.loop-left.left c.loop-left-test.true c.loop-left.auto.left-fits.fits) in
    row.digits c.args.p 0 (let long = row.len in let place = c.requires.place in omega (arith, long, place))

pub axpy-requires-clause-digits_y : goal.axpy-requires-clause-digits_y
axpy-requires-clause-digits_y c =
    (clearing_row c.args.f 24 c.args.p c.args.w.now c.args.marks (marked_rows 24 c.args.marks c.args.rows.now) _ c.loop-left.left c.loop-left.rows _
    c.requires.echelon c.loop-left.invariant (lowest_mark c.loop-left.left c.loop-left-test.true c.loop-left.auto.left-fits.fits)).digits

pub loop-left-smaller : goal.loop-left-smaller
loop-left-smaller c =
    without_is_less c.loop-left.left _ (lowest_mark c.loop-left.left c.loop-left-test.true c.loop-left.auto.left-fits.fits)

pub loop-left-preserved : goal.loop-left-preserved
loop-left-preserved c =
    let f = c.args.f in
    let p = c.args.p in
    let w = c.args.w.now in
    let marks = c.args.marks in
    let old = marked_rows 24 marks c.args.rows.now in
    let left = c.loop-left.left in
    let start = bit_and marks (18446744073709551615 * 2 ^ p % 18446744073709551616) in
    let i = trailing_zeros w64 left in
    let lowest = lowest_mark left c.loop-left-test.true c.loop-left.auto.left-fits.fits in
    elim c.if-d-ne0.branch [
      | then-d-ne0 b ↦
          subst (λ (m : List (List ℕ)). IsClearingMarked f 24 p w marks old start (without left i) m) (sym b.rows-is)
          (clearing_next f 24 p w marks old start left c.loop-left.rows i b.neg.result b.axpy.new.y c.requires.vector c.requires.echelon c.requires.place
          (omega arith) c.loop-left.invariant lowest b.neg.ensures.negative b.axpy.ensures)
      | else-d-ne0 b ↦
          subst (λ (m : List (List ℕ)). IsClearingMarked f 24 p w marks old start (without left i) m) (sym b.rows-is)
          (clearing_next_zero f 24 p w marks old start left c.loop-left.rows i c.requires.vector c.requires.echelon c.requires.place
          (omega arith) c.loop-left.invariant lowest b.if-d-ne0.false)
    ]

pub returns : goal.returns
returns c =
    clearing_marked_end c.args.f 24 c.args.p c.args.w.now c.args.marks (marked_rows 24 c.args.marks c.args.rows.now) _ c.loop-left.left c.loop-left.rows
    c.requires.vector c.requires.echelon c.requires.place (omega arith) c.loop-left.invariant c.loop-left-test.false
