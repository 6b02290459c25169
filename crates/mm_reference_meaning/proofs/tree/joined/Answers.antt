use Rattle.std.proofs.Common.{◌≡◌, ◌++◌, length, take, drop, sym, ap, ap₂, ◌∙◌, subst, append_assoc}
use Rattle.mm_field.specs.Vectors.{AreVectors, AreDigits, zeros, combination}
use Rattle.mm_field.proofs.CombinationLemmas.{IsVector-combination}
use Rattle.mm_linear.specs.Coordinates.{coordinates}
use Rattle.mm_reference_meaning.specs.Rows.{rows_of}
use Rattle.mm_reference_meaning.proofs.ColumnLemmas.{tail_part}
use Rattle.mm_reference_meaning.proofs.tree.joined.Goals as goal

pub coordinates-requires-clause-rows : goal.coordinates-requires-clause-rows
coordinates-requires-clause-rows c =
    let hx = IsVector-combination c.args.f (length c.args.basis.now) (take c.args.t c.args.v.now) (rows_of c.args.g.now) c.requires.rows in
    subst (λ n. AreVectors c.args.f n (rows_of c.args.basis.now)) (sym (ap length c.deref.ensures.value ∙ ap length c.in_ok-x.ensures ∙ hx.len)) c.requires.basis

pub coordinates-requires-clause-vector : goal.coordinates-requires-clause-vector
coordinates-requires-clause-vector c =
    let hx = IsVector-combination c.args.f (length c.args.basis.now) (take c.args.t c.args.v.now) (rows_of c.args.g.now) c.requires.rows in
    subst (λ x. AreDigits c.args.f x) (sym (c.deref.ensures.value ∙ c.in_ok-x.ensures)) hx.digits

pub returns : goal.returns
returns c =
    let f = c.args.f in
    let n = length c.args.basis.now in
    let basis = rows_of c.args.basis.now in
    let t = c.args.t in
    let v = c.args.v.now in
    let x = combination f n (take t v) (rows_of c.args.g.now) in
    let hx = IsVector-combination f n (take t v) (rows_of c.args.g.now) c.requires.rows in
    let made : c.deref.result.now ≡ x = c.deref.ensures.value ∙ c.in_ok-x.ensures in
    let column : c.in_ok-column.column.items ≡ coordinates f n basis x =
    c.in_ok-column.ensures ∙ ap₂ (λ k u. coordinates f k basis u) (ap length made ∙ hx.len) made in
    let below : c.extend_from_slice.new.self.items ≡ (coordinates f n basis x ++ zeros c.args.before) ++ drop t v =
    c.in_ok-extend_from_slice.ensures.items
    ∙ ap₂ (λ a b. a ++ b) (c.in_ok-push_zeros.ensures ∙ ap (λ a. a ++ zeros c.args.before) column) (tail_part t v) in
    c.in_ok-push_zeros-2.ensures
    ∙ ap (λ u. u ++ zeros c.args.after) below
    ∙ append_assoc (coordinates f n basis x ++ zeros c.args.before) (drop t v) (zeros c.args.after)
    ∙ append_assoc (coordinates f n basis x) (zeros c.args.before) (drop t v ++ zeros c.args.after)
