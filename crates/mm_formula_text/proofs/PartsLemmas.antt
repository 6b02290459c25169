-- A variable is in the set of those that were seen exactly where the term has it.
use Rattle.std.proofs.Common.{◌≡◌, ℕ, Bool, true, false, not, ◌||◌, List, [], ◌∷◌, ◌++◌, refl, sym, ap, ap₂, ◌∙◌, if◌then◌else◌}
use Rattle.std.specs.List.{list_any}
use Rattle.mm_formula.specs.Repeats.{has}
use Rattle.mm_formula.specs.contracts.var.VarPartialEq.TheImpl.{eq-value}
use Rattle.mm_formula.specs.declared.formula.Term.{Term}
use Rattle.mm_formula.proofs.SameLemmas.{var_eq}
use Rattle.mm_formula_text.specs.Grammar.{mention}

pub seen_is : (v : List ℕ) (vs : List (List ℕ)) → list_any ((eq-value).it v) vs ≡ has v vs
seen_is v [] = refl
seen_is v (w ∷ vs) = ap₂ (λ (a b : Bool). a || b) (var_eq v w) (seen_is v vs)

pub mention-old : (t : Term) (v : List ℕ) → has v t.vars ≡ true → mention t v ≡ t
mention-old t v e = ap (λ (b : Bool). if b then t else record { whole = t.whole; vars = t.vars ++ v ∷ [] }) e

pub mention-new : (t : Term) (v : List ℕ) → has v t.vars ≡ false → mention t v ≡ record { whole = t.whole; vars = t.vars ++ v ∷ [] }
mention-new t v e = ap (λ (b : Bool). if b then t else record { whole = t.whole; vars = t.vars ++ v ∷ [] }) e

flip : (h b : Bool) → b ≡ not h → h ≡ not b
flip true b e = ap not (sym e)
flip false b e = ap not (sym e)

-- whether a variable was new tells whether the term had it
pub had : (v : List ℕ) (keys vars : List (List ℕ)) (b : Bool) → keys ≡ vars → b ≡ not (list_any ((eq-value).it v) keys) → has v vars ≡ not b
had v keys vars b k e = flip (has v vars) b (e ∙ ap not (seen_is v keys ∙ ap (has v) k))
