-- A tree as contracts see it: its field and the named tree.
use Rattle.std.specs.Prelude.{ℕ, zero, suc, ◌≡◌}
use Rattle.std.proofs.Common.{refl}
use Rattle.std.specs.Coded.{Coded, code_by, coded×, coded_ℕ}
use Rattle.mm_field.specs.declared.Field.{Field}
use Rattle.mm_field.specs.declared.Field.TheVariants.{Two, Three, Four, Five}
use Rattle.mm_tree.specs.NamedTree.{Tree}
use Rattle.mm_tree.specs.TreeCode.{tree_code}

pub record TreeValue : Type 0 where
  pub f : Field
  pub tree : Tree

abbrev number_of : Field → ℕ
number_of Two = 0
number_of Three = 1
number_of Four = 2
number_of Five = 3

abbrev field_of_number : ℕ → Field
field_of_number zero = Two
field_of_number (suc zero) = Three
field_of_number (suc (suc zero)) = Four
field_of_number (suc (suc (suc k))) = Five

pub field_back : (f : Field) → field_of_number (number_of f) ≡ f
field_back Two = refl
field_back Three = refl
field_back Four = refl
field_back Five = refl

abbrev pub field_code : Coded Field
field_code = code_by ℕ coded_ℕ number_of field_of_number field_back

abbrev pub tree_value_code : Coded TreeValue
tree_value_code =
    code_by (Field × Tree) (coded× field_code tree_code) (λ v. (v.f, v.tree)) (λ p. record { f = p.0; tree = p.1 }) (λ _. refl)
