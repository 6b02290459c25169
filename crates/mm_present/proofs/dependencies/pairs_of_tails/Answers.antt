use Rattle.std.proofs.Common.{◌<◌, ◌+◌, [], ◌∷◌, ◌++◌, length, ap, sym, subst, ◌∙◌, arith}
use Rattle.mm_field.specs.Vectors.{IsVector}
use Rattle.mm_matrix.specs.MatrixValue.{MatrixValue}
use Rattle.mm_present.specs.Dependencies.{with_boundary, tails, least_place}
use Rattle.mm_present.proofs.TailLemmas.{next_pairs, next_least}
use Rattle.mm_present.proofs.dependencies.pairs_of_tails.Goals as goal

pub put_tail-requires-clause-vector : goal.put_tail-requires-clause-vector
put_tail-requires-clause-vector c =
    subst (λ (m : MatrixValue). IsVector m.f (c.args.c + m.cols) c.row.result.now) (sym c.loop-i.invariant.pairs)
    (subst (λ n. IsVector c.args.space.now.f n c.row.result.now) c.requires.width c.row.ensures.vector)

pub put_tail-requires-clause-boundary : goal.put_tail-requires-clause-boundary
put_tail-requires-clause-boundary c =
    let e = ap (λ (m : MatrixValue). m.cols) c.loop-i.invariant.pairs in
    let b = c.requires.boundary in omega arith

pub loop-i-preserved : goal.loop-i-preserved
loop-i-preserved c =
    let k = c.args.c in
    let t = c.args.t in
    let rows = c.args.space.now.rows in
    let row = c.row.result.now in
    let l : c.loop-i.i < length rows = (let a = c.loop-i-test.true in let b = c.rows-i-end.ensures.count in omega arith) in
    let last = c.in_ok-put_tail.ensures in
    record {
      pairs =
          last.pairs
          ∙ ap (λ (m : MatrixValue). record m { rows = m.rows ++ with_boundary t (tails k (row ∷ [])) }) c.loop-i.invariant.pairs
          ∙ ap (λ vs. record { f = c.args.space.now.f; cols = c.args.cols; rows = vs }) (next_pairs k t c.loop-i.i rows row l c.row.ensures.value);
      least =
          last.least
          ∙ ap (λ o. least_place o (tails t (tails k (row ∷ [])))) c.loop-i.invariant.least
          ∙ next_least k t c.loop-i.i rows row c.args.least.now l c.row.ensures.value;
    }
