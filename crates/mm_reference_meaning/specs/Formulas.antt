-- The formulas and the marks that the program holds, as those of the definitions.
use Rattle.std.specs.Prelude.{ℕ, ◌+◌, ◌<◌, ◌&&◌, Bool, false, List, map, All, slice_index_or}
use Rattle.std.specs.List.{list_any}
use Rattle.std.specs.declared.vec.Vec.{Vec}
use Rattle.mm_logic.specs.Formula as formula
use Rattle.mm_logic.specs.Marks.{Marks}
use Rattle.mm_reference_meaning.specs.declared.meaning.Connective.{Connective}
use Rattle.mm_reference_meaning.specs.declared.meaning.Connective.TheVariants.{And, Or, Implies, Iff}
use Rattle.mm_reference_meaning.specs.declared.meaning.Term.{Term}
use Rattle.mm_reference_meaning.specs.declared.meaning.Formula.{Formula, Const, Ind, Member, SameElem, Sub, SameSet, Not', Bin', ExSet', AllSet', ExElem', AllElem'}

abbrev pub connective_of : Connective → formula.Connective
connective_of And = formula.Connective.And
connective_of Or = formula.Connective.Or
connective_of Implies = formula.Connective.Implies
connective_of Iff = formula.Connective.Iff

abbrev pub term_of : Term → formula.Term
term_of t = record { whole = t.whole; slots = t.slots.items }

abbrev pub formula_of : Formula → formula.Formula
formula_of (Const b) = formula.Formula.Const b
formula_of (Ind t) = formula.Formula.Ind (term_of t)
formula_of (Member x a) = formula.Formula.Member x a
formula_of (SameElem x y) = formula.Formula.SameElem x y
formula_of (Sub a b) = formula.Formula.Sub a b
formula_of (SameSet a b) = formula.Formula.SameSet a b
formula_of (Not' p F) = formula.Formula.Not (formula_of F)
formula_of (Bin' o p F q G) = formula.Formula.Bin (connective_of o) (formula_of F) (formula_of G)
formula_of (ExSet' k p F) = formula.Formula.ExSet k (formula_of F)
formula_of (AllSet' k p F) = formula.Formula.AllSet k (formula_of F)
formula_of (ExElem' k p F) = formula.Formula.ExElem k (formula_of F)
formula_of (AllElem' k p F) = formula.Formula.AllElem k (formula_of F)

-- the slots that a formula names are among those that an element has marks for
abbrev pub SlotsBelow : ℕ → Formula → Type 0
SlotsBelow n (Const b) = Unit {0}
SlotsBelow n (Ind t) = All (λ k. k < n) t.slots.items
SlotsBelow n (Member x a) = (x < n) × (a < n)
SlotsBelow n (SameElem x y) = (x < n) × (y < n)
SlotsBelow n (Sub a b) = (a < n) × (b < n)
SlotsBelow n (SameSet a b) = (a < n) × (b < n)
SlotsBelow n (Not' p F) = SlotsBelow n F
SlotsBelow n (Bin' o p F q G) = SlotsBelow n F × SlotsBelow n G
SlotsBelow n (ExSet' k p F) = (k < n) × SlotsBelow n F
SlotsBelow n (AllSet' k p F) = (k < n) × SlotsBelow n F
SlotsBelow n (ExElem' k p F) = (k < n) × SlotsBelow n F
SlotsBelow n (AllElem' k p F) = (k < n) × SlotsBelow n F

-- the marks of an element
abbrev pub marks_of : List Bool → Marks
marks_of m = λ k. slice_index_or m k false

-- some element has the slot
abbrev pub any_has : ℕ → List (List Bool) → Bool
any_has x ms = list_any (λ m. slice_index_or m x false) ms

-- some element has both slots
abbrev pub any_has_both : ℕ → ℕ → List (List Bool) → Bool
any_has_both x y ms = list_any (λ m. slice_index_or m x false && slice_index_or m y false) ms

-- the sets, as lists of tests
abbrev pub tests_of : {A : Type 0} → List (Vec Bool A) → List (List Bool)
tests_of sets = map (λ v. v.items) sets

-- how many nodes a formula has beside its atoms: what the program's recursion goes down by
abbrev pub inner_nodes : Formula → ℕ
inner_nodes (Not' p F) = inner_nodes F + 1
inner_nodes (Bin' o p F q G) = inner_nodes F + inner_nodes G + 1
inner_nodes (ExSet' k p F) = inner_nodes F + 1
inner_nodes (AllSet' k p F) = inner_nodes F + 1
inner_nodes (ExElem' k p F) = inner_nodes F + 1
inner_nodes (AllElem' k p F) = inner_nodes F + 1
inner_nodes _ = 0
