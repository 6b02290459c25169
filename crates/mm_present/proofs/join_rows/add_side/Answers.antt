use Rattle.std.proofs.Common.{◌-◌, ◌≡◌, [], get_or, subst, sym, ap, ◌∙◌, arith}
use Rattle.std.proofs.lemmas.List.{length-map, get_or-map}
use Rattle.std.proofs.lemmas.List.Elements.{All-drop}
use Rattle.mm_field.specs.Vectors.{AreDigits, IsVector, vector_sum, multiple}
use Rattle.mm_field.proofs.CombinationLemmas.{IsVector-combination}
use Rattle.mm_logic.specs.PresentMatrix.{row_of}
use Rattle.mm_present.proofs.join_rows.add_side.Goals as goal
use Rattle.mm_space.proofs.Gathering.{times_start, times_step}

pub loop-i-init : goal.loop-i-init
loop-i-init c =
    let s = c.args.side.now in
    let n = length-map s.digits.now.rows (λ u. get_or u c.args.k 0) in
    let count = c.requires.side.count in
    let rows = c.rows-i.ensures.count in
    record {
      low = omega arith;
      out_is = c.requires.zero ∙ times_start s.rows.f s.rows.cols c.rows-i.result (row_of s.digits.now.rows c.args.k) s.rows.rows (omega arith);
    }

pub axpy-requires-clause-digits_y : goal.axpy-requires-clause-digits_y
axpy-requires-clause-digits_y c =
    let s = c.args.side.now in
    subst (λ f. AreDigits f c.loop-i.out) (sym c.field.ensures)
    (subst (λ v. AreDigits s.rows.f v) (sym c.loop-i.invariant.out_is)
    (IsVector-combination s.rows.f s.rows.cols _ _ (All-drop (λ v. IsVector s.rows.f s.rows.cols v) c.loop-i.i s.rows.rows c.rows-i.ensures.each)).digits)

pub loop-i-preserved : goal.loop-i-preserved
loop-i-preserved c =
    let s = c.args.side.now in
    let k = c.args.k in
    let low = c.loop-i.invariant.low in
    let n = length-map s.digits.now.rows (λ u. get_or u k 0) in
    let count = c.requires.side.count in
    let a = get_or c.row.result.now k 0 in
    let x = c.row-in-loop-i.result.now in
    record {
      low = omega arith;
      out_is = times_step s.rows.f s.rows.cols (row_of s.digits.now.rows k) s.rows.rows c.loop-i.i c.loop-i.out
          a x c.axpy.new.y (omega arith) (omega arith) (omega arith)
          c.loop-i.invariant.out_is
          (ap (λ u. get_or u k 0) c.row.ensures.value ∙ sym (get_or-map (λ u. get_or u k 0) s.digits.now.rows (c.loop-i.i - 1) [] 0 (omega arith)))
          c.row-in-loop-i.ensures.value
          (subst (λ f. c.axpy.new.y ≡ vector_sum f c.loop-i.out (multiple f a x)) c.field.ensures c.axpy.ensures);
    }
