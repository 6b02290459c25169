-- How the checker finds the places of a formula: the binders around a place, and places put behind others.
use Rattle.std.specs.Prelude.{◌≡◌, ◌+◌, ℕ, Bool, true, false, List, [], ◌∷◌, ◌++◌, length}
use Rattle.mm_logic.specs.Formula.{Formula}
use Rattle.mm_formula.specs.Syntax.{Syntax}
use Rattle.mm_formula.specs.Syntax.{Syntax as syntax}
use Rattle.mm_checker.specs.KeptPlaces.{IsPlace}
use Rattle.mm_checker.specs.declared.places.Binders.{Binders, Outermost, Under'}
use Rattle.mm_checker.specs.declared.places.Place.{Place}
use Rattle.mm_checker.specs.declared.places.Place.TheVariants as place

-- the variables of binders, the innermost first
abbrev pub names : Binders → List (List ℕ)
names Outermost = []
names (Under' v p outer) = v ∷ names outer

-- the place of a quantifier over sets, or over elements
abbrev pub IsQuantifier : Bool → ℕ → Place → Type 0
IsQuantifier true slot k = k ≡ place.Set slot
IsQuantifier false slot k = k ≡ place.One slot

-- what is kept of the places from number p on
abbrev pub ArePlaces : ℕ → List Formula → List Place → Type 0
ArePlaces p [] [] = Unit {0}
ArePlaces p (F ∷ Fs) (k ∷ ks) = IsPlace p F k × ArePlaces (p + 1) Fs ks
ArePlaces p Fs ks = ⊥

-- The places of some formulas are put behind others.
abbrev pub PutsPlaces : List Place → List Formula → List Place → Type 0
PutsPlaces old Fs new = (ks : List Place) × (new ≡ old ++ ks) × ArePlaces (length old) Fs ks

-- an atom that is no `ind`
abbrev pub IsPlain : Syntax → Type 0
IsPlain (syntax.Const b) = Unit {0}
IsPlain (syntax.Member x a) = Unit {0}
IsPlain (syntax.SameElem x y) = Unit {0}
IsPlain (syntax.Sub a b) = Unit {0}
IsPlain (syntax.SameSet a b) = Unit {0}
IsPlain F = ⊥
