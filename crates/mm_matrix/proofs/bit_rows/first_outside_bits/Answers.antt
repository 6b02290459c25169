use Rattle.std.proofs.Common.{ℕ, ◌≡◌, ◌↔◌, List, sym, subst, arith}
use Rattle.std.specs.Bool.{IsTrue}
use Rattle.std.proofs.lemmas.List.{take_all}
use Rattle.std.proofs.lemmas.Bool.{both_ways}
use Rattle.mm_field.specs.declared.Field.{Field}
use Rattle.mm_field.specs.declared.Field.TheVariants.{Two}
use Rattle.mm_field.specs.Vectors.{AreVectors, InSpan, IsWithin}
use Rattle.mm_matrix.proofs.BitLemmas.{decides_of_others}
use Rattle.mm_matrix.proofs.ReducedLemmas.{within_more}
use Rattle.mm_matrix.proofs.bit_rows.first_outside_bits.Goals as goal

pub loop-i-preserved : goal.loop-i-preserved
loop-i-preserved c =
    let m = c.args.m.now in
    let n = m.cols in
    let i = c.loop-i.i in
    let others = c.args.others.now in
    let rows = c.put_all.new.rows.items in
    let each : AreVectors Two n others.rows =
    subst (λ (k : ℕ). AreVectors Two k others.rows) c.requires.cols (subst (λ (f : Field). AreVectors f others.cols others.rows) c.requires.same c.rows.ensures.each) in
    let told : IsTrue c.in_ok-is_inside.field-0 ↔ InSpan Two n others.rows c.row.result.now =
    decides_of_others n c.cols.result others.cols others.rows rows c.row.result.now c.in_ok-is_inside.field-0 c.requires.cols c.cols.ensures each
    c.in_ok-put_all.ensures.stairs.each c.in_ok-put_all.ensures.span c.in_ok-is_inside.ensures in
    within_more Two n i others.rows m.rows (omega (arith, c.rows-i-end.ensures.count)) c.loop-i.invariant
    (subst (λ (v : List ℕ). InSpan Two n others.rows v) c.row.ensures.value (told.0 c.if-not-branch.false))

pub returns-then-not-branch : goal.returns-then-not-branch
returns-then-not-branch c =
    let m = c.args.m.now in
    let n = m.cols in
    let i = c.loop-i.i in
    let others = c.args.others.now in
    let rows = c.put_all.new.rows.items in
    let each : AreVectors Two n others.rows =
    subst (λ (k : ℕ). AreVectors Two k others.rows) c.requires.cols (subst (λ (f : Field). AreVectors f others.cols others.rows) c.requires.same c.rows.ensures.each) in
    let told : IsTrue c.in_ok-is_inside.field-0 ↔ InSpan Two n others.rows c.row.result.now =
    decides_of_others n c.cols.result others.cols others.rows rows c.row.result.now c.in_ok-is_inside.field-0 c.requires.cols c.cols.ensures each
    c.in_ok-put_all.ensures.stairs.each c.in_ok-put_all.ensures.span c.in_ok-is_inside.ensures in
    record {
      is_row = omega (arith, c.rows-i-end.ensures.count);
      outside = λ p. both_ways c.in_ok-is_inside.field-0 c.if-not-branch.true
          (told.1 (subst (λ (v : List ℕ). InSpan Two n others.rows v) (sym c.row.ensures.value) p));
      before = c.loop-i.invariant;
    }

pub returns : goal.returns
returns c =
    let m = c.args.m.now in
    subst (λ (x : List (List ℕ)). IsWithin Two m.cols x c.args.others.now.rows)
    (take_all c.loop-i.i m.rows (omega (arith, c.rows-i-end.ensures.count))) c.loop-i.invariant
