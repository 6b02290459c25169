use Rattle.std.proofs.Common.{◌≡◌, length, take, ap, ◌∙◌, arith}
use Rattle.mm_field.proofs.CombinationLemmas.{IsVector-combination}
use Rattle.mm_present.proofs.dependencies.candidate.Goals as goal

pub with_boundary_last-requires : goal.with_boundary_last-requires
with_boundary_last-requires c =
    let d = c.args.digits.now in
    let long : length c.in_ok-image.image.items ≡ d.cols =
    ap length c.in_ok-image.ensures ∙ (IsVector-combination d.f d.cols (take c.args.t c.args.row.now) d.rows c.rows.ensures.each).len in
    let b = c.requires.boundary in
    let e = ap length c.deref.ensures.value in
    omega arith
