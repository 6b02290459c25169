use Rattle.std.proofs.Common.{ℕ, ℤ, w64, ◌≤◌, List, ◌∷◌, refl, sym, ap, subst, ◌∙◌, length}
use Rattle.std.proofs.lemmas.Int.{to_z-of_z}
use Rattle.mm_field.specs.declared.Field.{Field}
use Rattle.mm_field.specs.Vectors.{AreDigits}
use Rattle.mm_tree.specs.NamedTree as named
use Rattle.mm_decomp.specs.BuiltTree.{first_digit}
use Rattle.mm_decomp.proofs.BuildLemmas.{first_digit_digits, first_digit_short, leaf_added}
use Rattle.mm_decomp.proofs.build.Building.leaf.Goals as goal

pub elem-requires-clause-digits : goal.elem-requires-clause-digits
elem-requires-clause-digits c =
    let self = c.args.self.now in
    subst (λ v. AreDigits self.builder.f v) (sym c.first_digit-digit.ensures)
    (subst (λ (f : Field). AreDigits f (first_digit c.args.column.now)) (sym c.requires.field) (first_digit_digits self.field c.args.column.now c.requires.column.digits))

pub elem-requires-clause-short : goal.elem-requires-clause-short
elem-requires-clause-short c = subst (λ v. length v ≤ 6) (sym c.first_digit-digit.ensures) (first_digit_short c.args.column.now)

pub returns : goal.returns
returns c k shapes b lh lm eh em ek eg =
    leaf_added k shapes c.args.self.now _ c.in_ok-form.form c.args.functional.now c.args.column.now c.args.name c.args.weight b lh lm eh em ek eg
    c.in_ok-form.ensures refl
    (c.in-Ok.ensures.ok
    ∙ ap (λ (z : ℤ). record c.args.self.now.builder { trees = named.Tree.Elem c.args.name c.first_digit-digit.result z ∷ c.args.self.now.builder.trees })
    (to_z-of_z w64 c.args.weight c.ranges.weight)
    ∙ ap (λ (v : List ℕ). record c.args.self.now.builder { trees = named.Tree.Elem c.args.name v c.args.weight ∷ c.args.self.now.builder.trees }) c.first_digit-digit.ensures)
    c.in_ok-push.ensures.items refl refl
