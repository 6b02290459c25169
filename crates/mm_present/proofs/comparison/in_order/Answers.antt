use Rattle.std.proofs.Common.{◌+◌, ℕ, length, map, take, List, sym, ap, subst, ◌∙◌, arith}
use Rattle.mm_field.specs.Vectors.{IsVector}
use Rattle.mm_present.specs.Comparing.{digit_at}
use Rattle.std.proofs.lemmas.List.{take_all}
use Rattle.mm_present.proofs.GrowLemmas.{row_pushed, row_fits, rows_done, next_value}
use Rattle.mm_present.proofs.CompareLemmas.{placed_vector}
use Rattle.mm_present.proofs.comparison.in_order.Goals as goal

pub push_row-requires : goal.push_row-requires
push_row-requires c =
    let m = c.args.rows.now in
    let places = c.args.places.now in
    let done = map (λ row. map (digit_at row) places) (take c.loop-i.i m.rows) in
    row_fits m.f (length places) c.loop-i.ordered done c.deref.result.now c.loop-i.invariant
    (subst (λ v. IsVector m.f (length places) v) (sym (c.deref.ensures.value ∙ c.in_ok-digits.ensures))
    (placed_vector m.f m.cols c.row.result.now places c.row.ensures.vector))

pub loop-i-preserved : goal.loop-i-preserved
loop-i-preserved c =
    let m = c.args.rows.now in
    let places = c.args.places.now in
    let i = c.loop-i.i in
    let h : List ℕ → List ℕ = λ row. map (digit_at row) places in
    row_pushed m.f (length places) c.loop-i.ordered c.push_row.new.self (map h (take i m.rows)) (map h (take (i + 1) m.rows)) c.deref.result.now
    c.loop-i.invariant c.in_ok-push_row.ensures.ok
    (next_value h m.rows i c.deref.result.now (omega (arith, c.rows-i-end.ensures.count))
    (c.deref.ensures.value ∙ c.in_ok-digits.ensures ∙ ap h c.row.ensures.value))

pub returns : goal.returns
returns c =
    let m = c.args.rows.now in
    let places = c.args.places.now in
    let h : List ℕ → List ℕ = λ row. map (digit_at row) places in
    rows_done m.f (length places) c.loop-i.ordered (map h (take c.loop-i.i m.rows)) (map h m.rows) c.loop-i.invariant
    (ap (map h) (take_all c.loop-i.i m.rows (omega (arith, c.rows-i-end.ensures.count))))
