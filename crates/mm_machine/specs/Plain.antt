-- A formula with its connectives and quantifiers made alike: what a type is does not depend on which they are, and acceptance alone does.
use Rattle.mm_logic.specs.Formula.{Formula, Connective}
use Rattle.mm_logic.specs.Formula.Formula.{Const, Ind, Member, SameElem, Sub, SameSet, Not, Bin, ExSet, AllSet, ExElem, AllElem}

abbrev pub plain : Formula → Formula
plain (Const b) = Const b
plain (Ind u) = Ind u
plain (Member x a) = Member x a
plain (SameElem x y) = SameElem x y
plain (Sub a b) = Sub a b
plain (SameSet a b) = SameSet a b
plain (Not F) = Not (plain F)
plain (Bin o F G) = Bin Connective.And (plain F) (plain G)
plain (ExSet k F) = ExSet k (plain F)
plain (AllSet k F) = ExSet k (plain F)
plain (ExElem k F) = ExElem k (plain F)
plain (AllElem k F) = ExElem k (plain F)
