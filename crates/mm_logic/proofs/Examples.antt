-- Sets of values and what occurs in lists of types, by computing.
use Rattle.std.proofs.Common.{◌≡◌, [], ◌∷◌, refl}
use Rattle.mm_logic.specs.Formula.Formula.{Const, ExSet}
use Rattle.std.proofs.Common.{true}
use Rattle.mm_logic.specs.Growth.{missing}
use Rattle.mm_logic.specs.Occurrence.{distinct, fresh, occurring, cells}
use Rattle.mm_logic.specs.Value.{collected}
use Rattle.mm_logic.specs.Value.Value.{Flag, Dead, Span, Empty, With}

-- a set has each value once, in order: flags, Dead, and then spaces
ordered : collected (Span 1 [] ∷ Flag 2 ∷ Dead ∷ Flag 1 ∷ Flag 2 ∷ []) ≡ With (Flag 1) (With (Flag 2) (With Dead (With (Span 1 []) Empty)))
ordered = refl

-- the different values of a list, each at its first place; and those that another list lacks
once : distinct (Flag 2 ∷ Flag 1 ∷ Flag 2 ∷ []) ≡ Flag 2 ∷ Flag 1 ∷ []
once = refl

new : fresh (Flag 1 ∷ []) (Flag 2 ∷ Flag 1 ∷ Flag 2 ∷ []) ≡ Flag 2 ∷ []
new = refl

-- below a set quantifier its members occur, and only those that were not there are missing
below : missing ((Flag 0 ∷ []) ∷ (Flag 0 ∷ []) ∷ []) (occurring (ExSet 0 (Const true)) (collected (Flag 0 ∷ []) ∷ []))
    ≡ (With (Flag 0) Empty ∷ []) ∷ [] ∷ []
below = refl

-- a set of one value has two cells, and its member one
three_cells : cells (ExSet 0 (Const true)) (collected (Flag 0 ∷ []) ∷ []) ≡ 3
three_cells = refl
