use Rattle.std.proofs.Common.{◌≡◌, ◌<◌, ◌+◌, length, get_or, map, [], ◌∷◌, ◌++◌, refl, sym, ap, subst, ◌∙◌, arith}
use Rattle.std.specs.List.{range_with_len}
use Rattle.mm_field.specs.Vectors.{IsVector}
use Rattle.mm_logic.specs.Tree as shapes
use Rattle.mm_logic.specs.PresentMatrix.{boundary_rows}
use Rattle.mm_present.proofs.GrowLemmas.{row_pushed, row_fits, rows_done}
use Rattle.std.proofs.lemmas.List.Elements.{All-nil, All-cons}
use Rattle.std.proofs.lemmas.List.FromFn.{map-range_with_len_more}
use Rattle.mm_field.specs.Digits.{order}
use Rattle.mm_present.proofs.TreeRows.{rows_of_element}
use Rattle.mm_present.proofs.collecting.column.Goals as goal

pub push_row-requires : goal.push_row-requires
push_row-requires c =
    let v = c.args.v.now in
    let k = c.loop-k.k in
    row_fits c.args.f 1 c.loop-k.rows (map (λ k. get_or v k 0 ∷ []) (range_with_len 0 k)) (c.at.result ∷ []) c.loop-k.invariant
    (subst (λ d. IsVector c.args.f 1 (d ∷ [])) (sym c.at.ensures) (record {
      len = refl;
      digits = All-cons (λ d. d < order c.args.f) (get_or v k 0) [] (c.requires k 0 (omega (arith, c.len-k-end.ensures))) (All-nil (λ d. d < order c.args.f));
    }))

pub loop-k-preserved : goal.loop-k-preserved
loop-k-preserved c =
    let v = c.args.v.now in
    let k = c.loop-k.k in
    row_pushed c.args.f 1 c.loop-k.rows c.push_row.new.self (map (λ k. get_or v k 0 ∷ []) (range_with_len 0 k))
    (map (λ k. get_or v k 0 ∷ []) (range_with_len 0 (k + 1))) (c.at.result ∷ []) c.loop-k.invariant c.in_ok-push_row.ensures.ok
    (ap (λ d. map (λ k. get_or v k 0 ∷ []) (range_with_len 0 k) ++ (d ∷ []) ∷ []) c.at.ensures
    ∙ sym (map-range_with_len_more (λ k. get_or v k 0 ∷ []) 0 k k (omega arith)))

pub returns : goal.returns
returns c =
    let v = c.args.v.now in
    let all : c.loop-k.k ≡ length v = omega (arith, c.len-k-end.ensures) in
    rows_done c.args.f 1 c.loop-k.rows (map (λ k. get_or v k 0 ∷ []) (range_with_len 0 c.loop-k.k)) (boundary_rows c.args.f (shapes.Tree.Elem v)) c.loop-k.invariant
    (ap (λ n. map (λ k. get_or v k 0 ∷ []) (range_with_len 0 n)) all ∙ sym (rows_of_element c.args.f v))
