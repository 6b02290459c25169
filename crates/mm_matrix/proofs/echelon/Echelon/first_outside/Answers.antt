use Rattle.std.proofs.Common.{ℕ, List, sym, subst, arith}
use Rattle.std.proofs.lemmas.List.{take_all}
use Rattle.std.proofs.lemmas.Bool.{both_ways}
use Rattle.mm_field.specs.Vectors.{InSpan, IsWithin}
use Rattle.mm_matrix.proofs.ReducedLemmas.{within_more}
use Rattle.mm_matrix.proofs.echelon.Echelon.first_outside.Goals as goal

pub loop-i-preserved : goal.loop-i-preserved
loop-i-preserved c =
    let s = c.args.self.now in
    within_more s.f s.cols c.loop-i.i s.rows c.args.m.now.rows (omega (arith, c.rows-i-end.ensures.count)) c.loop-i.invariant
    (subst (λ (v : List ℕ). InSpan s.f s.cols s.rows v) c.row.ensures.value
    (c.in_ok-holds.ensures.0 c.if-not-branch.false))

pub returns-then-not-branch : goal.returns-then-not-branch
returns-then-not-branch c =
    let s = c.args.self.now in
    record {
      is_row = omega (arith, c.rows-i-end.ensures.count);
      outside = λ p. both_ways c.in_ok-holds.field-0 c.if-not-branch.true
          (c.in_ok-holds.ensures.1 (subst (λ (v : List ℕ). InSpan s.f s.cols s.rows v) (sym c.row.ensures.value) p));
      before = c.loop-i.invariant;
    }

pub returns : goal.returns
returns c =
    let s = c.args.self.now in
    subst (λ (x : List (List ℕ)). IsWithin s.f s.cols x s.rows)
    (take_all c.loop-i.i c.args.m.now.rows (omega (arith, c.rows-i-end.ensures.count))) c.loop-i.invariant
