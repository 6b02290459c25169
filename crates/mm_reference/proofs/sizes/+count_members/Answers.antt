use Rattle.std.proofs.Common.{length, refl, sym, subst}
use Rattle.mm_logic.specs.Value.{members}
use Rattle.mm_reference.specs.Sizes.{IsCount}
use Rattle.mm_reference.specs.Values.{value_of}
use Rattle.mm_reference.proofs.SizeLemmas.{count_more}
use Rattle.mm_reference.proofs.sizes.+count_members.Goals as goal

pub returns-in-With : goal.returns-in-With
returns-in-With t c =
    let n = length (members (value_of c.in-With.rest.value)) in
    let below : IsCount n c.count_members.result = subst (λ v. IsCount (length (members (value_of v))) c.count_members.result) c.deref.ensures c.count_members.ensures in
    subst (λ v. IsCount (length (members (value_of v))) c.add.result) (sym c.in-With.is)
    (count_more n c.add.result (c.add.ensures 1 n refl below))
