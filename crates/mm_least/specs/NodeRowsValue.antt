-- What contracts see of the rows of a node.
use Rattle.std.specs.Prelude.{ℕ, ℤ, List, Option, ◌⊎◌, ◌≡◌}
use Rattle.std.proofs.Common.{refl, inl, inr}
use Rattle.std.specs.Coded.{Coded, code_by, coded×, coded⊎, coded_ℕ, coded_ℤ, coded_list, coded_option}
use base.Stored.{coded_unit}
use Rattle.mm_least.specs.Transitions.{TransitionValue, transition_code}
use Rattle.mm_least.specs.declared.row.Row.{Row}
use Rattle.mm_least.specs.declared.row.Origin.{Origin}
use Rattle.mm_least.specs.declared.row.Origin.TheVariants.{Out, Taken, Pair}

-- The name of the element of a leaf, a row for each type, what is known of the operator of a join, and the place of a row whose set is
-- empty, where one is known.
pub record NodeValue : Type 0 where
  pub name : Option (List ℕ)
  pub rows : List Row
  pub known : Option TransitionValue
  pub nothing : Option ℕ

-- how proofs tell rows apart
abbrev places : Origin → Unit {0} ⊎ (Unit {0} ⊎ (ℕ × ℕ))
places Out = inl tt
places Taken = inr (inl tt)
places (Pair i j) = inr (inr (i, j))

abbrev origin : Unit {0} ⊎ (Unit {0} ⊎ (ℕ × ℕ)) → Origin
origin (inl _) = Out
origin (inr (inl _)) = Taken
origin (inr (inr p)) = Pair p.0 p.1

pub origin-places : (o : Origin) → origin (places o) ≡ o
origin-places Out = refl
origin-places Taken = refl
origin-places (Pair i j) = refl

abbrev pub origin_code : Coded Origin
origin_code = code_by (Unit {0} ⊎ (Unit {0} ⊎ (ℕ × ℕ))) (coded⊎ coded_unit (coded⊎ coded_unit (coded× coded_ℕ coded_ℕ))) places origin origin-places

abbrev pub row_code : Coded Row
row_code = code_by (ℕ × (ℤ × Origin)) (coded× coded_ℕ (coded× coded_ℤ origin_code)) (λ r. (r.id, (r.weight, r.origin))) (λ p. record { id = p.0; weight = p.1.0; origin = p.1.1 }) (λ _. refl)

abbrev pub node_code : Coded NodeValue
node_code =
    code_by (Option (List ℕ) × (List Row × (Option TransitionValue × Option ℕ))) (coded× (coded_option (coded_list coded_ℕ)) (coded× (coded_list row_code) (coded× (coded_option transition_code) (coded_option coded_ℕ))))
    (λ n. (n.name, (n.rows, (n.known, n.nothing)))) (λ p. record { name = p.0; rows = p.1.0; known = p.1.1.0; nothing = p.1.1.1 }) (λ _. refl)
