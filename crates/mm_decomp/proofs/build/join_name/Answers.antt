use Rattle.std.proofs.Common.{Bool, refl, sym, ap, subst, ◌∙◌, Some, None}
use Rattle.std.specs.Prelude.{if◌then◌else◌}
use Rattle.std.specs.Option.{IsSome}
use Rattle.mm_base.specs.Names.{name_of}
use Rattle.mm_decomp.specs.BuiltTree.{join_name}
use Rattle.mm_decomp.proofs.JoinNameLemmas.{join_name_is_name}
use Rattle.mm_decomp.proofs.build.join_name.Goals as goal

pub unwrap-requires : goal.unwrap-requires
unwrap-requires c =
    let n = c.args.number in
    subst (λ o. IsSome o)
    (sym (c.read.ensures ∙ ap name_of (c.as_bytes.ensures.value ∙ c.in_ok-text.ensures.ok) ∙ ap (λ (b : Bool). if b then Some (join_name n) else None) (join_name_is_name n c.ranges.number.fits)))
    refl
