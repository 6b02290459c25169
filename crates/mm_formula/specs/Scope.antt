-- The scope of variables: which binder each occurrence names, and what a scoped formula may not exceed.
use Rattle.std.specs.Prelude.{◌≡◌, ℕ, ◌+◌, ◌≤◌, max, nat_lt, Bool, true, not, List, [], ◌∷◌, ◌++◌, length, map, filter, slice_get, Option, Some, None, if◌then◌else◌}
use Rattle.std.specs.List.{list_all}
use Rattle.std.specs.Str.{bytes_eq}
use Rattle.mm_formula.specs.declared.scope.TheConstants.{MAX_IN_SCOPE, MAX_NODES}
use Rattle.mm_formula.specs.Variables.{is_set}
use Rattle.mm_formula.specs.Repeats.{has}
use Rattle.mm_formula.specs.Syntax.{Syntax, nodes, is_well_sorted}
use Rattle.mm_formula.specs.Syntax.Syntax.{Const, Ind, Member, SameElem, Sub, SameSet, Not, Bin, Ex, All}
use Rattle.mm_formula.specs.declared.formula.Connective.{Connective}
use Rattle.mm_formula.specs.declared.formula.Connective.TheVariants as named
use Rattle.mm_formula.specs.declared.scope.ScopeFault.{ScopeFault}
use Rattle.mm_formula.specs.declared.scope.ScopeFault.TheVariants.{Unbound, TooManyInScope, TooManyNodes}
use Rattle.mm_logic.specs.Formula as slot

-- the variables of a list that no binder has
abbrev pub without : List (List ℕ) → List (List ℕ) → List (List ℕ)
without binders vs = filter (λ v. not (has v binders)) vs

-- The variables of a formula that no binder above them has, in reading order. The binders around the formula
-- stand innermost first.
abbrev pub unbound : List (List ℕ) → Syntax → List (List ℕ)
unbound binders (Const b) = []
unbound binders (Ind t) = without binders t.vars
unbound binders (Member x a) = without binders (x ∷ a ∷ [])
unbound binders (SameElem x y) = without binders (x ∷ y ∷ [])
unbound binders (Sub a b) = without binders (a ∷ b ∷ [])
unbound binders (SameSet a b) = without binders (a ∷ b ∷ [])
unbound binders (Not F) = unbound binders F
unbound binders (Bin c F G) = unbound binders F ++ unbound binders G
unbound binders (Ex v F) = unbound (v ∷ binders) F
unbound binders (All v F) = unbound (v ∷ binders) F

-- the most binders of a formula that one of its atoms stands under
abbrev pub depth : Syntax → ℕ
depth (Not F) = depth F
depth (Bin c F G) = max (depth F) (depth G)
depth (Ex v F) = depth F + 1
depth (All v F) = depth F + 1
depth _ = 0

-- the binders around a whole formula: its free variable, where there is one
abbrev pub outermost : Option (List ℕ) → List (List ℕ)
outermost None = []
outermost (Some v) = v ∷ []

abbrev pub fault_of : Option (List ℕ) → Bool → Bool → Option ScopeFault
fault_of (Some v) deep large = Some (Unbound v)
fault_of None deep large = if deep then Some TooManyInScope else if large then Some TooManyNodes else None

-- Why a formula with this free variable is not scoped: the first variable that nothing binds, more than 16
-- binders over an atom, the free variable among them, or more than 512 nodes.
abbrev pub scope_fault : Syntax → Option (List ℕ) → Option ScopeFault
scope_fault F free = fault_of (slice_get (unbound (outermost free) F) 0) (nat_lt MAX_IN_SCOPE (length (outermost free) + depth F)) (nat_lt MAX_NODES (nodes F))

-- What is true of a scoped formula: it is well sorted, its free variable is a set variable, each variable has a
-- binder, and the formula is within the limits.
pub record IsScoped (F : Syntax) (free : Option (List ℕ)) : Type 0 where
  pub sorted : is_well_sorted F ≡ true
  pub free_is_set : list_all is_set (outermost free) ≡ true
  pub bound : unbound (outermost free) F ≡ []
  pub in_scope : length (outermost free) + depth F ≤ MAX_IN_SCOPE
  pub size : nodes F ≤ MAX_NODES

-- ---- slots: the number of binders above a binder

-- the slot of the innermost binder of a variable
abbrev pub slot_in : List (List ℕ) → List ℕ → ℕ
slot_in [] v = 0
slot_in (w ∷ binders) v = if bytes_eq v w then length binders else slot_in binders v

abbrev pub connective : Connective → slot.Connective
connective named.And = slot.Connective.And
connective named.Or = slot.Connective.Or
connective named.Implies = slot.Connective.Implies
connective named.Iff = slot.Connective.Iff

-- the formula with the slot of its innermost binder in place of each variable
abbrev pub slotted : List (List ℕ) → Syntax → slot.Formula
slotted binders (Const b) = slot.Formula.Const b
slotted binders (Ind t) = slot.Formula.Ind (record { whole = t.whole; slots = map (slot_in binders) t.vars })
slotted binders (Member x a) = slot.Formula.Member (slot_in binders x) (slot_in binders a)
slotted binders (SameElem x y) = slot.Formula.SameElem (slot_in binders x) (slot_in binders y)
slotted binders (Sub a b) = slot.Formula.Sub (slot_in binders a) (slot_in binders b)
slotted binders (SameSet a b) = slot.Formula.SameSet (slot_in binders a) (slot_in binders b)
slotted binders (Not F) = slot.Formula.Not (slotted binders F)
slotted binders (Bin c F G) = slot.Formula.Bin (connective c) (slotted binders F) (slotted binders G)
slotted binders (Ex v F) = (if is_set v then slot.Formula.ExSet (length binders) (slotted (v ∷ binders) F) else slot.Formula.ExElem (length binders) (slotted (v ∷ binders) F))
slotted binders (All v F) = (if is_set v then slot.Formula.AllSet (length binders) (slotted (v ∷ binders) F) else slot.Formula.AllElem (length binders) (slotted (v ∷ binders) F))
