use Rattle.std.proofs.Common.{ℕ, ◌≡◌, ◌<◌, ◌+◌, List, [], length, get_or, map, sym, ap, ap₂, ◌∙◌, subst, arith}
use Rattle.std.proofs.lemmas.List.{length-map, get_or-map, get_or_default}
use Rattle.mm_field.specs.declared.Field.TheVariants.{Two}
use Rattle.mm_linear.specs.Eliminate.{cleared}
use Rattle.mm_matrix.specs.BitRows.{bits, bit_rows}
use Rattle.mm_matrix.proofs.BitLemmas.{bits_of_row, IsVector-bits, stairs_start, stairs_step, stairs_end}
use Rattle.mm_matrix.proofs.ResidueLemmas.{IsResidueUpTo}
use Rattle.mm_matrix.proofs.bit_rows.reduce.Goals as goal

pub loop-i-init : goal.loop-i-init
loop-i-init c =
    let n = c.args.cols in
    record {
      wide = c.requires.wide;
      rest = stairs_start n (bit_rows n c.args.rows.now.items) c.args.pivots.now.items (bits n c.args.v.now) c.requires.stairs.each (IsVector-bits n c.args.v.now);
    }

pub clear-requires-clause-place : goal.clear-requires-clause-place
clear-requires-clause-place c =
    let n = c.args.cols in
    let e = c.requires.stairs.count in
    let m = length-map c.args.rows.now.items (bits_of_row n) in
    let at = get_or_default c.args.pivots.now.items c.loop-i.i 0 c.index.result.now (omega (arith, e, m)) in
    subst (λ (k : ℕ). k < n) (at ∙ sym c.index.ensures) (c.requires.stairs.inside c.loop-i.i (omega (arith, m)))

pub loop-i-preserved : goal.loop-i-preserved
loop-i-preserved c =
    let n = c.args.cols in
    let rows = c.args.rows.now.items in
    let ks = c.args.pivots.now.items in
    let i = c.loop-i.i in
    let e = c.requires.stairs.count in
    let m = length-map rows (bits_of_row n) in
    let is_pivot : get_or ks i 0 ≡ c.index.result.now = get_or_default ks i 0 c.index.result.now (omega (arith, e, m)) ∙ sym c.index.ensures in
    let is_row : get_or (bit_rows n rows) i [] ≡ bits n c.deref.result.now =
    get_or-map (bits_of_row n) rows i c.index-in-loop-i.result.now [] (omega arith) ∙ ap (bits_of_row n) (sym c.index-in-loop-i.ensures)
    ∙ ap (bits n) (sym c.deref.ensures.value) in
    record {
      wide = c.clear.ensures.wide;
      rest =
          subst (λ (u : List ℕ). IsResidueUpTo Two n (bit_rows n rows) ks (bits n c.args.v.now) u (i + 1))
          (ap₂ (λ (p : ℕ) (r : List ℕ). cleared Two p r (bits n c.loop-i.v)) is_pivot is_row ∙ sym c.clear.ensures.cleared)
          (stairs_step n i (bit_rows n rows) ks (bits n c.args.v.now) (bits n c.loop-i.v) c.requires.stairs (omega (arith, m)) c.loop-i.invariant.rest);
    }

pub returns-clause-residue : goal.returns-clause-residue
returns-clause-residue c =
    let n = c.args.cols in
    let rows = bit_rows n c.args.rows.now.items in
    let m = length-map c.args.rows.now.items (bits_of_row n) in
    let done : c.loop-i.i ≡ length rows = omega (arith, m) in
    stairs_end n rows c.args.pivots.now.items (bits n c.args.v.now) (bits n c.loop-i.v) c.requires.stairs
    (subst (λ (i : ℕ). IsResidueUpTo Two n rows c.args.pivots.now.items (bits n c.args.v.now) (bits n c.loop-i.v) i) done c.loop-i.invariant.rest)
