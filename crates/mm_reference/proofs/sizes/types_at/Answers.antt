use Rattle.std.proofs.Common.{◌≡◌, ◌∙◌, length, All, sym, ap, subst}
use Rattle.mm_logic.specs.Marks.{sets}
use Rattle.mm_logic_laws.proofs.LeastLemmas.{length-sets}
use Rattle.mm_reference_meaning.specs.Formulas.{tests_of}
use Rattle.mm_reference.proofs.sizes.types_at.Goals as goal

pub types_over-requires-clause-sets : goal.types_over-requires-clause-sets
types_over-requires-clause-sets c =
    let n = length c.deref-in-Least-2.result.now in
    let all : tests_of c.deref-in-Least.result.now ≡ sets n =
    ap tests_of c.deref-in-Least.ensures.value ∙ c.in_ok-all-in-Least.ensures ∙ ap sets (c.len.ensures ∙ sym c.deref-in-Least-2.ensures.len) in
    subst (λ xs. All (λ X. length X ≡ n) xs) (sym all) (length-sets n)
