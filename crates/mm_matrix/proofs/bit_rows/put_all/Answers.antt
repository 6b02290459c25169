use Rattle.std.proofs.Common.{ℕ, ◌≡◌, ◌<◌, List, [], ◌∷◌, length, get_or, take, sym, ap, ◌∙◌, subst, arith}
use Rattle.std.proofs.lemmas.List.{take_all}
use Rattle.mm_field.specs.declared.Field.{Field}
use Rattle.mm_field.specs.declared.Field.TheVariants.{Two}
use Rattle.mm_field.specs.Vectors.{AreVectors, SameRowSpace}
use Rattle.mm_matrix.specs.BitRows.{bit_rows, AreWide, AreStairs}
use Rattle.mm_matrix.proofs.BitLemmas.{span_more}
use Rattle.mm_matrix.proofs.bit_rows.put_all.Goals as goal

pub loop-i-preserved : goal.loop-i-preserved
loop-i-preserved c =
    let m = c.args.m.now in
    let n = m.cols in
    let i = c.loop-i.i in
    let old = c.loop-i.rows.items in
    let new = c.put.new.rows.items in
    let e : c.cols.result ≡ n = c.cols.ensures in
    let each : AreVectors Two n m.rows = subst (λ (f : Field). AreVectors f n m.rows) c.requires.field c.rows-i-end.ensures.each in
    let stairs : AreStairs n (bit_rows n new) c.put.new.pivots.items =
    subst (λ (k : ℕ). AreStairs k (bit_rows k new) c.put.new.pivots.items) e c.in_ok-put.ensures.stairs in
    let step : SameRowSpace Two n (get_or m.rows i [] ∷ bit_rows n old) (bit_rows n new) =
    subst (λ (v : List ℕ). SameRowSpace Two n (v ∷ bit_rows n old) (bit_rows n new)) c.row.ensures.value
    (subst (λ (k : ℕ). SameRowSpace Two k (c.row.result.now ∷ bit_rows k old) (bit_rows k new)) e c.in_ok-put.ensures.span) in
    record {
      wide = subst (λ (k : ℕ). AreWide k new) e c.in_ok-put.ensures.wide;
      stairs = stairs;
      span =
          span_more Two n i m.rows (bit_rows n old) (bit_rows n new) each c.loop-i.invariant.stairs.each stairs.each
          (omega (arith, c.rows-i-end.ensures.count)) c.loop-i.invariant.span step;
    }

pub returns-clause-span : goal.returns-clause-span
returns-clause-span c =
    let m = c.args.m.now in
    subst (λ (x : List (List ℕ)). SameRowSpace Two m.cols x (bit_rows m.cols c.loop-i.rows.items))
    (take_all c.loop-i.i m.rows (omega (arith, c.rows-i-end.ensures.count))) c.loop-i.invariant.span
