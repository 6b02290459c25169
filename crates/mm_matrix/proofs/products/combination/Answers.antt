use Rattle.std.proofs.Common.{refl, ◌-◌, ◌≡◌, length, drop, get_or, sym, ap, ap₂, subst, ◌∙◌, arith}
use Rattle.std.proofs.lemmas.List.{with_items_is}
use Rattle.std.proofs.lemmas.List.Elements.{All-drop}
use Rattle.mm_field.specs.Vectors.{IsVector, AreDigits, combination, vector_sum, multiple}
use Rattle.mm_field.proofs.CombinationLemmas.{IsVector-combination}
use Rattle.mm_matrix.proofs.ColumnLemmas.{combination_step}
use Rattle.mm_matrix.proofs.products.combination.Goals as goal

pub axpy-requires-clause-digits_y : goal.axpy-requires-clause-digits_y
axpy-requires-clause-digits_y c =
    let m = c.args.m.now in
    let i = c.loop-i.i in
    let v = IsVector-combination m.f m.cols (drop i c.args.coefficients.now) (drop i m.rows) (All-drop (λ v. IsVector m.f m.cols v) i m.rows c.rows-i.ensures.each) in
    rw c.field.ensures (subst (λ y. AreDigits m.f y) (sym (c.deref_mut.ensures.value ∙ c.loop-i.invariant)) v.digits)

pub loop-i-preserved : goal.loop-i-preserved
loop-i-preserved c =
    let m = c.args.m.now in
    let cs = c.args.coefficients.now in
    let i = c.loop-i.i in
    let f = m.f in
    let n = m.cols in
    let each = c.rows-i.ensures.each in
    let count = c.rows-i.ensures.count in
    let lc = c.requires.len in
    let now = combination f n (drop i cs) (drop i m.rows) in
    let old : c.deref_mut.result.now ≡ now = c.deref_mut.ensures.value ∙ c.loop-i.invariant in
    let hnow : IsVector f n now = IsVector-combination f n (drop i cs) (drop i m.rows) (All-drop (λ v. IsVector f n v) i m.rows each) in
    let hnext = IsVector-combination f n (drop (i - 1) cs) (drop (i - 1) m.rows) (All-drop (λ v. IsVector f n v) (i - 1) m.rows each) in
    let factor = get_or cs (i - 1) 0 in
    let new : c.axpy.new.y ≡ combination f n (drop (i - 1) cs) (drop (i - 1) m.rows) =
    c.axpy.ensures
    ∙ ap₂ (λ g y. vector_sum g y (multiple g factor c.row.result.now)) c.field.ensures old
    ∙ combination_step f n i factor cs c.row.result.now m.rows (omega arith) (omega arith) (omega arith) refl c.row.ensures.value in
    with_items_is c.loop-i.sum c.axpy.new.y
    (ap length new ∙ hnext.len ∙ sym hnow.len ∙ ap length (sym c.loop-i.invariant) ∙ sym c.loop-i.sum.ok.0) ∙ new
