use Rattle.std.proofs.Common.{◌+◌, ◌*◌, ◌≡◌, ◌≤◌, ◌<◌, arith, sym, subst, length, get_or, take, reverse, ap, ◌∙◌, [], List, ℕ}
use Rattle.std.specs.Prelude.{All}
use Rattle.mm_space.specs.KeyValue.{number_onto}
use Rattle.mm_space.specs.MarkedRows.{marked_rows}
use Rattle.mm_space.proofs.MarkLemmas.{length-marked, marked_on}
use Rattle.mm_space.proofs.PackLemmas.{power_most}
use Rattle.mm_space.proofs.PackSteps.{IsPacking, packing_step, packing_zero}
use Rattle.mm_space.proofs.key.with_rows.Goals.{then-has_row, else-has_row}
use Rattle.mm_space.proofs.key.with_rows.Goals as goal

pub with_row-packed-requires-clause-room : goal.with_row-packed-requires-clause-room
with_row-packed-requires-clause-room c =
    let more = c.loop-j-test.true in
    let narrow = c.requires.narrow in
    let few = c.loop-j.invariant.few in
    power_most (18 * c.loop-j.rank) 90 c.loop-j.packed c.loop-j.invariant.room (omega arith)

pub with_row-packed-requires-clause-digits : goal.with_row-packed-requires-clause-digits
with_row-packed-requires-clause-digits c =
    let more = c.loop-j-test.true in
    let narrow = c.requires.narrow in
    let marks = c.args.marks in
    let kept = c.args.rows.now in
    let here = c.has_row.ensures.some c.if-has_row.true in
    let told = length-marked 24 marks kept in
    subst (λ (v : List ℕ). All (λ d. d < 8) v) (marked_on 24 marks kept c.loop-j.j (omega arith) here.0)
    (c.requires.digits c.loop-j.j [] (omega (arith, told, more, narrow)))

pub loop-j-preserved : goal.loop-j-preserved
loop-j-preserved c =
    let t = c.args.t in
    let kept = c.args.rows.now in
    let marks = c.args.marks in
    let rows = marked_rows 24 marks kept in
    let j = c.loop-j.j in
    let more = c.loop-j-test.true in
    let narrow = c.requires.narrow in
    let told : length rows ≡ 24 = length-marked 24 marks kept in
    let room : t ≤ length rows = omega arith in
    elim c.if-has_row.branch [
      | then-has_row w ↦
          let here = c.has_row.ensures.some w.if-has_row.true in
          let same = marked_on 24 marks kept j (omega arith) here.0 in
          subst (λ p. IsPacking t rows (j + 1) p c.if-has_row.rank) (sym w.packed-is)
          (subst (λ k. IsPacking t rows (j + 1) w.with_row-packed.result k) (sym w.rank-is)
          (packing_step t rows j c.loop-j.packed c.loop-j.rank w.with_row-packed.result more room c.loop-j.invariant
          (λ e. here.1 (sym (ap (λ v. get_or v j 0) same) ∙ e))
          (w.with_row-packed.ensures.packed ∙ ap (λ v. number_onto c.loop-j.packed (reverse (take t v))) (sym same)) w.with_row-packed.ensures.room))
      | else-has_row w ↦
          subst (λ p. IsPacking t rows (j + 1) p c.if-has_row.rank) (sym w.packed-is)
          (subst (λ k. IsPacking t rows (j + 1) c.loop-j.packed k) (sym w.rank-is)
          (packing_zero t rows j c.loop-j.packed c.loop-j.rank more room c.loop-j.invariant (c.has_row.ensures.none w.if-has_row.false)))
    ]

pub returns-clause-room : goal.returns-clause-room
returns-clause-room c =
    let narrow = c.requires.narrow in
    let few = c.loop-j.invariant.few in
    let ended = c.loop-j.auto.j-end in
    power_most (18 * c.loop-j.rank) 108 c.loop-j.packed c.loop-j.invariant.room (omega arith)
