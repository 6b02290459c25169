use Rattle.std.proofs.Common.{◌≡◌, ap, sym, subst, ◌∙◌, arith}
use Rattle.mm_field.specs.Vectors.{IsVector}
use Rattle.mm_matrix.specs.MatrixValue.{MatrixValue}
use Rattle.mm_present.proofs.PairLemmas.{candidate_fits}
use Rattle.mm_present.proofs.dependencies.put_candidates.Goals as goal

pub push_row-requires : goal.push_row-requires
push_row-requires c =
    let d = c.args.digits.now in
    let f = d.f in
    let old = c.args.candidates.now in
    let ef : c.loop-i.candidates.f ≡ f = ap (λ (m : MatrixValue). m.f) c.loop-i.invariant ∙ c.requires.same ∙ sym c.requires.field in
    let en : c.loop-i.candidates.cols ≡ old.cols = ap (λ (m : MatrixValue). m.cols) c.loop-i.invariant in
    let hz = subst (λ h. IsVector h c.args.pairs.now.cols c.row.result.now) (sym c.requires.field) c.row.ensures.vector in
    let fits = candidate_fits f d.cols c.args.t c.args.t3 c.args.pairs.now.cols c.loop-i.candidates.cols d.rows c.row.result.now c.rows.ensures.each hz
    c.requires.room c.requires.boundary (let e = c.requires.width in omega arith) in
    subst (λ h. IsVector h c.loop-i.candidates.cols c.deref.result.now) (sym ef)
    (subst (λ v. IsVector f c.loop-i.candidates.cols v) (sym (c.deref.ensures.value ∙ c.in_ok-row.ensures)) fits)
