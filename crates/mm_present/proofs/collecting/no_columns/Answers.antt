use Rattle.std.proofs.Common.{◌≡◌, ◌<◌, ◌+◌, map, [], refl, sym, ap, ◌∙◌, arith}
use Rattle.std.specs.List.{range_with_len}
use Rattle.mm_logic.specs.Tree as shapes
use Rattle.mm_logic.specs.PresentMatrix.{boundary_rows}
use Rattle.mm_present.proofs.GrowLemmas.{row_pushed, row_fits, rows_done}
use Rattle.std.proofs.lemmas.List.Elements.{All-nil}
use Rattle.std.proofs.lemmas.List.FromFn.{map-range_with_len_more}
use Rattle.mm_field.specs.Digits.{order}
use Rattle.mm_present.proofs.TreeRows.{rows_of_void}
use Rattle.mm_present.proofs.collecting.no_columns.Goals as goal

pub push_row-requires : goal.push_row-requires
push_row-requires c =
    row_fits c.args.f 0 c.loop.rows (map (λ k. []) (range_with_len 0 c.loop.counter)) [] c.loop.invariant
    (record { len = refl; digits = All-nil (λ d. d < order c.args.f) })

pub loop-preserved : goal.loop-preserved
loop-preserved c =
    let k = c.loop.counter in
    row_pushed c.args.f 0 c.loop.rows c.push_row.new.self (map (λ k. []) (range_with_len 0 k)) (map (λ k. []) (range_with_len 0 (k + 1))) []
    c.loop.invariant c.in_ok-push_row.ensures.ok (sym (map-range_with_len_more (λ k. []) 0 k k (omega arith)))

pub returns : goal.returns
returns c =
    let all : c.loop.counter ≡ c.args.t = omega arith in
    rows_done c.args.f 0 c.loop.rows (map (λ k. []) (range_with_len 0 c.loop.counter)) (boundary_rows c.args.f (shapes.Tree.Void c.args.t)) c.loop.invariant
    (ap (λ n. map (λ k. []) (range_with_len 0 n)) all ∙ sym (rows_of_void c.args.f c.args.t))
