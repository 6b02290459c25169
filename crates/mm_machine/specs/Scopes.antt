-- The variables of the binders around a place, the innermost first.
use Rattle.std.specs.Prelude.{ℕ, List, [], ◌∷◌}
use Rattle.mm_machine.specs.declared.scope.Binders.{Binders, Outermost, Under'}

abbrev pub names : Binders → List (List ℕ)
names Outermost = []
names (Under' v p outer) = v ∷ names outer
