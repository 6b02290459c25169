-- Assignments of variables to the elements of a tree: one record of marks for each element, in leaf order.
use Rattle.std.specs.Prelude.{◌≡◌, ℕ, zero, suc, Bool, true, false, ◌==◌, ◌||◌, if◌then◌else◌, List, [], ◌∷◌, ◌++◌, map, replicate, slice_index_or}
use Rattle.std.specs.List.{list_any}
use Rattle.mm_logic.specs.Formula.{Term}

-- The marks of an element are the slots that hold it: those of the set variables that it is in, and of the element variables
-- that it is.
abbrev pub Marks : Type 0
Marks = ℕ → Bool

-- the marks of an element of which nothing is said
abbrev pub no_marks : Marks
no_marks = λ k. false

-- n elements without marks: the assignment of nothing
abbrev pub unmarked : ℕ → List Marks
unmarked n = replicate n no_marks

-- the marks with slot k exchanged for b
abbrev pub mark : ℕ → Bool → Marks → Marks
mark k b m = λ j. if j == k then b else m j

-- the assignment with the set X, one test for each element, as slot k
abbrev pub assign : ℕ → List Bool → List Marks → List Marks
assign k X [] = []
assign k [] (m ∷ ms) = mark k false m ∷ assign k [] ms
assign k (b ∷ X) (m ∷ ms) = mark k b m ∷ assign k X ms

-- the set of no element of n
abbrev pub none : ℕ → List Bool
none n = replicate n false

-- the set of element i alone, of n elements
abbrev pub only : ℕ → ℕ → List Bool
only zero i = []
only (suc n) zero = true ∷ none n
only (suc n) (suc i) = false ∷ only n i

-- all sets of n elements, in the order of their leaf words
abbrev pub sets : ℕ → List (List Bool)
sets zero = [] ∷ []
sets (suc n) = map (λ X. false ∷ X) (sets n) ++ map (λ X. true ∷ X) (sets n)

-- the sets of one element of n, in leaf order
abbrev pub singles : ℕ → List (List Bool)
singles zero = []
singles (suc n) = (true ∷ none n) ∷ map (λ X. false ∷ X) (singles n)

-- whether an element is in the union of a term
abbrev pub in_term : Term → Marks → Bool
in_term t m = t.whole || list_any m t.slots

-- element i has slot k: it is in the set variable, or it is the element variable, that has this slot
abbrev pub Has : List Marks → ℕ → ℕ → Type 0
Has ms k i = slice_index_or ms i no_marks k ≡ true

-- which elements have slot k
abbrev pub column : ℕ → List Marks → List Bool
column k ms = map (λ m. m k) ms

-- at most one test holds
abbrev pub AtMostOne : List Bool → Type 0
AtMostOne [] = Unit {0}
AtMostOne (b ∷ bs) = (b ≡ true → list_any (λ c. c) bs ≡ false) × AtMostOne bs

-- An assignment suits the sorts that e tells, where each slot of an element variable is had by at most one element: an element
-- variable that no element has is unassigned.
abbrev pub Singles : (ℕ → Bool) → List Marks → Type 0
Singles e ms = (k : ℕ) → e k ≡ true → AtMostOne (column k ms)
