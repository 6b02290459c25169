use Rattle.std.proofs.Common.{◌≡◌, ◌+◌, ◌<◌, ◌++◌, List, ℕ, length, map, drop, get_or, Ok, Err, Result, Vec, Global, sym, ap, ap₂, subst, ◌∙◌, arith, All}
use Rattle.std.specs.Prelude.{IfOk}
use Rattle.mm_base.specs.declared.failure.NoMemory.{NoMemory}
use Rattle.mm_field.specs.Vectors.{zeros, IsVector}
use Rattle.mm_field.proofs.PartLemmas.{IsVector-append}
use Rattle.mm_field.proofs.VectorLemmas.{IsVector-zeros}
use Rattle.mm_logic.specs.Operator.{row_length}
use Rattle.mm_logic.specs.PresentMatrix.{column_digits}
use Rattle.mm_matrix.specs.MatrixValue.{MatrixValue}
use Rattle.mm_matrix.proofs.FreeLemmas.{free_inside}
use Rattle.mm_present.proofs.CoordinateLemmas.{digits_found, padded_is}
use Rattle.mm_present.proofs.coordinates.digits.Goals as goal

pub residue-requires : goal.residue-requires
residue-requires c =
    let op = c.args.op.now in
    let r = row_length op.op in
    let t = length op.op.g3 in
    let v = c.args.v.now in
    let valid = c.dimension-r.ensures.valid.third in
    let row : c.deref.result.now ≡ v ++ zeros t =
    c.deref.ensures.value
    ∙ padded_is v (c.dimension-r.result + c.t3.result) _ c.in_ok-row.row.items c.resize.new.self.items t c.in_ok-row.ensures c.in_ok-row.row.ok.0
    (omega (arith, c.dimension-r.ensures.value, c.t3.ensures, c.requires.vector.len, valid.count)) c.in_ok-resize.ensures.items in
    subst (λ (m : MatrixValue). IsVector m.f m.cols c.deref.result.now) (sym c.requires.basis.reduced)
    (subst (λ u. IsVector op.f (r + t) u) (sym row) (IsVector-append op.f r t v (zeros t) c.requires.vector (IsVector-zeros op.f t)))

pub read_off-requires-clause-start : goal.read_off-requires-clause-start
read_off-requires-clause-start c =
    let cols = c.in_ok-rest.ensures.vector.len in
    let is = ap (λ (m : MatrixValue). m.cols) c.requires.basis.reduced in
    omega (arith, ap length c.deref-2.ensures.value, c.dimension-r.ensures.value)

pub read_off-requires-clause-places : goal.read_off-requires-clause-places
read_off-requires-clause-places c =
    let op = c.args.op.now in
    let cols = c.in_ok-rest.ensures.vector.len in
    let is = ap (λ (m : MatrixValue). m.cols) c.requires.basis.reduced in
    let free = free_inside op.f (row_length op.op) op.op.g3 in
    let places = c.deref-3.ensures.value ∙ c.requires.basis.free in
    λ k d l.
    let at = subst (λ ks. All (λ j. j < row_length op.op) ks) (sym places) free k d l in
    omega (arith, ap length c.deref-2.ensures.value)

read : (r : Result (Vec ℕ Global) NoMemory) (x y : List ℕ) → IfOk r (λ digits. digits.items ≡ x) → x ≡ y → IfOk r (λ digits. digits.items ≡ y)
read (Err e) x y h q = tt
read (Ok digits) x y h q = h ∙ q

pub returns : goal.returns
returns c =
    let op = c.args.op.now in
    let r = row_length op.op in
    let g = op.op.g3 in
    let v = c.args.v.now in
    let valid = c.dimension-r.ensures.valid.third in
    let row : c.deref.result.now ≡ v ++ zeros (length g) =
    c.deref.ensures.value
    ∙ padded_is v (c.dimension-r.result + c.t3.result) _ c.in_ok-row.row.items c.resize.new.self.items (length g) c.in_ok-row.ensures c.in_ok-row.row.ok.0
    (omega (arith, c.dimension-r.ensures.value, c.t3.ensures, c.requires.vector.len, valid.count)) c.in_ok-resize.ensures.items in
    read c.read_off.result _ (column_digits op.f op.op v) c.read_off.ensures
    (ap (λ n. drop n c.deref-2.result.now ++ map (λ k. get_or c.deref-2.result.now k 0) c.deref-3.result.now) c.dimension-r.ensures.value
    ∙ ap₂ (λ (u ks : List ℕ). drop r u ++ map (λ k. get_or u k 0) ks) c.deref-2.ensures.value (c.deref-3.ensures.value ∙ c.requires.basis.free)
    ∙ digits_found op.f r g c.args.basis.now.reduced v c.deref.result.now c.in_ok-rest.rest.items valid.rows valid.independent c.requires.basis.reduced
    c.requires.vector row c.in_ok-rest.ensures)
