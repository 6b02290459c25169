-- The places of a formula.
use Rattle.std.specs.Prelude.{ℕ, ◌+◌, List, [], ◌∷◌, ◌++◌, length}
use Rattle.mm_logic.specs.Formula.{Formula}
use Rattle.mm_logic.specs.Formula.Formula.{Const, Ind, Member, SameElem, Sub, SameSet, Not, Bin, ExSet, AllSet, ExElem, AllElem}

-- The places of a formula are its nodes other than `not`, in reading order, a connective before its parts. They are numbered from 0.
abbrev pub places : Formula → List Formula
places (Const b) = Const b ∷ []
places (Ind t) = Ind t ∷ []
places (Member x a) = Member x a ∷ []
places (SameElem x y) = SameElem x y ∷ []
places (Sub a b) = Sub a b ∷ []
places (SameSet a b) = SameSet a b ∷ []
places (Not F) = places F
places (Bin o F G) = Bin o F G ∷ (places F ++ places G)
places (ExSet k F) = ExSet k F ∷ places F
places (AllSet k F) = AllSet k F ∷ places F
places (ExElem k F) = ExElem k F ∷ places F
places (AllElem k F) = AllElem k F ∷ places F

-- The parts of a place are the places directly below it. The first is the next place.
abbrev pub first_part : ℕ → ℕ
first_part p = p + 1

-- The second part of a connective comes after all places of its first formula.
abbrev pub second_part : ℕ → Formula → ℕ
second_part p F = p + 1 + length (places F)
