use Rattle.std.proofs.Common.{subst, sym, ap, ◌∙◌, []}
use Rattle.mm_space.specs.KeyValue.{IsKeyOf, unpacked}
use Rattle.mm_space.proofs.PackLemmas.{unpacked-packed}
use Rattle.mm_space.proofs.PackSteps.{no_rows, zero_key, packed_of, packs_zero}
use Rattle.mm_space.proofs.key.Key.zero.Goals as goal

pub invariant_of-result : goal.invariant_of-result
invariant_of-result c =
    let k = zero_key c.args.f c.args.t c.requires in
    packed_of (no_rows c.args.f c.args.t) _ k.reduced k.fits (packs_zero c.args.f c.args.t c.code.result c.code.ensures)

pub returns : goal.returns
returns c =
    let k = zero_key c.args.f c.args.t c.requires in
    subst (λ key. IsKeyOf c.args.f c.args.t [] key)
    (sym (ap unpacked (packs_zero c.args.f c.args.t c.code.result c.code.ensures) ∙ unpacked-packed (no_rows c.args.f c.args.t) k.fits))
    k.basis
