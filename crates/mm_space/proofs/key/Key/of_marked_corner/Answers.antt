use Rattle.std.proofs.Common.{arith, sym, ap, ◌∙◌, subst, map, reverse}
use Rattle.mm_space.specs.MarkedRows.{marked_rows}
use Rattle.mm_space.specs.SpaceValue.{corner}
use Rattle.mm_space.specs.KeyValue.{IsKeyOf, unpacked}
use Rattle.mm_space.proofs.PackLemmas.{unpacked-packed}
use Rattle.mm_space.proofs.PackSteps.{corner_basis, corner_key, packed_of, packs_corner}
use Rattle.mm_space.proofs.key.Key.of_marked_corner.Goals as goal

pub invariant_of-result : goal.invariant_of-result
invariant_of-result c =
    let f = c.args.f in
    let t = c.args.t in
    let rows = marked_rows 24 c.args.marks c.args.rows.now in
    let k = corner_key f 24 t rows c.requires.narrow (let l = c.requires.narrow in omega arith) c.requires.echelon in
    let p = c.with_rows-packed in
    packed_of (corner_basis f t rows) _ k.reduced k.fits
    (packs_corner f t rows c.code.result p.result.1 p.result.0 c.code.ensures p.ensures.rank p.ensures.packed)

pub returns : goal.returns
returns c =
    let f = c.args.f in
    let t = c.args.t in
    let rows = marked_rows 24 c.args.marks c.args.rows.now in
    let k = corner_key f 24 t rows c.requires.narrow (let l = c.requires.narrow in omega arith) c.requires.echelon in
    let p = c.with_rows-packed in
    let e = packs_corner f t rows c.code.result p.result.1 p.result.0 c.code.ensures p.ensures.rank p.ensures.packed in
    subst (λ key. IsKeyOf f t (map reverse (corner t rows)) key) (sym (ap unpacked e ∙ unpacked-packed (corner_basis f t rows) k.fits)) k.basis
