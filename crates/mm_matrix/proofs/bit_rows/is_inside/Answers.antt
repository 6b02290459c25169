use Rattle.std.proofs.Common.{ℕ, ◌≡◌, List, sym, ap, ◌∙◌, subst}
use Rattle.std.specs.Vec.{with_items}
use Rattle.mm_field.specs.declared.Field.TheVariants.{Two}
use Rattle.mm_matrix.specs.BitRows.{bits, bit_rows}
use Rattle.mm_matrix.specs.Residues.{IsResidue}
use Rattle.mm_matrix.proofs.BitLemmas.{rest_in_place, rest_of_row, rest_decides}
use Rattle.mm_matrix.proofs.bit_rows.is_inside.Goals as goal

pub returns : goal.returns
returns c =
    let n = c.args.cols in
    let rows = bit_rows n c.args.rows.now.items in
    let ks = c.args.pivots.now.items in
    let r = c.in_ok-rest.rest in
    let w = c.reduce.new.v in
    let row = c.args.row.now in
    let kept : (with_items r w).items ≡ w = rest_in_place n row r w c.requires.vector c.in_ok-rest.ensures.wide c.reduce.ensures.wide in
    let rest : IsResidue Two n rows ks row (bits n w) =
    rest_of_row n row rows ks r c.deref_mut.result.now w c.requires.vector c.in_ok-rest.ensures.digits c.deref_mut.ensures.value c.reduce.ensures.residue in
    rest_decides n rows ks row c.deref.result.now c.requires.stairs c.requires.vector
    (subst (λ (x : List ℕ). IsResidue Two n rows ks row (bits n x)) (sym (c.deref.ensures.value ∙ kept)) rest)
    c.first_one.result c.first_one.ensures.found c.first_one.ensures.none c.is_none.result c.is_none.ensures
