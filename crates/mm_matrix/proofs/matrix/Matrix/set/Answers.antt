use Rattle.std.proofs.Common.{ℕ, ◌<◌, List, [], length, get_or, sym, ap, ◌∙◌, arith, map, subst}
use Rattle.std.proofs.Math.ListN.{set}
use Rattle.std.proofs.lemmas.List.{map-set, length-map}
use Rattle.std.specs.Vec.{with_item}
use Rattle.mm_field.specs.Digits.{order}
use Rattle.mm_matrix.specs.MatrixValue.{MatrixValue}
use Rattle.mm_matrix.proofs.RowLemmas.{digits_of, item_is, item_vector, IsVector-set, AreVectors-set}
use Rattle.mm_matrix.proofs.matrix.Matrix.set.Goals as goal

pub index_mut-row-requires : goal.index_mut-row-requires
index_mut-row-requires c =
    let e = ap (λ (m : MatrixValue). length m.rows) c.self.view_is in
    omega (arith, length-map c.self.inside.rows.items digits_of, e)

pub index_mut-requires : goal.index_mut-requires
index_mut-requires c =
    let e = ap (λ (m : MatrixValue). length m.rows) c.self.view_is in
    let n = ap (λ (m : MatrixValue). m.cols) c.self.view_is in
    let l : c.args.i < length c.self.inside.rows.items = omega (arith, length-map c.self.inside.rows.items digits_of, e) in
    let v = item_vector c.self.inside.field c.self.inside.cols c.self.inside.rows.items c.self.invariant c.args.i
    c.index_mut-row.result.now l c.index_mut-row.ensures.value in
    omega (arith, v.len, n)

pub invariant_of-self : goal.invariant_of-self
invariant_of-self c =
    let e = ap (λ (m : MatrixValue). length m.rows) c.self.view_is in
    let f = ap (λ (m : MatrixValue). m.f) c.self.view_is in
    let l : c.args.i < length c.self.inside.rows.items = omega (arith, length-map c.self.inside.rows.items digits_of, e) in
    let v = item_vector c.self.inside.field c.self.inside.cols c.self.inside.rows.items c.self.invariant c.args.i
    c.index_mut-row.result.now l c.index_mut-row.ensures.value in
    let small : c.args.e < order c.self.inside.field = subst (λ g. c.args.e < order g) (sym f) c.requires.digit in
    AreVectors-set c.self.inside.field c.self.inside.cols c.self.inside.rows.items c.args.i
    (with_item c.index_mut-row.result.now c.args.j c.args.e) c.self.invariant
    (IsVector-set c.self.inside.field c.self.inside.cols c.args.j c.args.e c.index_mut-row.result.now.items small v)

pub returns : goal.returns
returns c =
    let e = ap (λ (m : MatrixValue). length m.rows) c.self.view_is in
    let l : c.args.i < length c.self.inside.rows.items = omega (arith, length-map c.self.inside.rows.items digits_of, e) in
    let row = item_is c.self.inside.rows.items c.args.i c.index_mut-row.result.now l c.index_mut-row.ensures.value in
    ap (λ (rows : List (List ℕ)). record { f = c.self.inside.field; cols = c.self.inside.cols; rows = rows })
    (map-set digits_of c.self.inside.rows.items c.args.i (with_item c.index_mut-row.result.now c.args.j c.args.e)
    ∙ ap (λ (r : List ℕ). set (map digits_of c.self.inside.rows.items) c.args.i (set r c.args.j c.args.e)) (sym row))
    ∙ ap (λ (m : MatrixValue). record { f = m.f; cols = m.cols; rows = set m.rows c.args.i (set (get_or m.rows c.args.i []) c.args.j c.args.e) }) c.self.view_is
