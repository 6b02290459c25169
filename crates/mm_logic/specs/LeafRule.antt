-- The leaf rule: the type of a formula at a leaf, from the leaf's letter.
use Rattle.std.specs.Prelude.{ℕ, true, false, if◌then◌else◌, [], ◌∷◌, List}
use Rattle.mm_field.specs.declared.Field.{Field}
use Rattle.mm_logic.specs.Formula.{Formula, implies, iff}
use Rattle.mm_logic.specs.Formula.Formula.{Const, Ind, Member, SameElem, Sub, SameSet, Not, Bin, ExSet, AllSet, ExElem, AllElem}
use Rattle.mm_logic.specs.Value.{Value, collected}
use Rattle.mm_logic.specs.Value.Value.{Pair}
use Rattle.mm_logic.specs.Marks.{Marks, mark, in_term}
use Rattle.mm_logic.specs.BoundarySpaces.{ind_elem, ind_void}
use Rattle.mm_logic.specs.AtomValues.{unit, unseen, member, same_elem, holding}

-- At an element with a vector and marks. A set quantifier tries the element outside its set and in it; an element quantifier
-- has the type where its variable is not this element, and as the one member of its set the type where it is.
abbrev pub elem_type : Field → Formula → List ℕ → Marks → Value
elem_type f (Const b) vec m = unit
elem_type f (Ind t) vec m = ind_elem f vec (in_term t m)
elem_type f (Member x a) vec m = if m x then member (m a) else unseen
elem_type f (SameElem x y) vec m = same_elem (m x) (m y) true
elem_type f (Sub a b) vec m = holding (implies (m a) (m b))
elem_type f (SameSet a b) vec m = holding (iff (m a) (m b))
elem_type f (Not F) vec m = elem_type f F vec m
elem_type f (Bin o F G) vec m = Pair (elem_type f F vec m) (elem_type f G vec m)
elem_type f (ExSet k F) vec m = collected (elem_type f F vec (mark k false m) ∷ elem_type f F vec (mark k true m) ∷ [])
elem_type f (AllSet k F) vec m = collected (elem_type f F vec (mark k false m) ∷ elem_type f F vec (mark k true m) ∷ [])
elem_type f (ExElem k F) vec m = Pair (elem_type f F vec (mark k false m)) (collected (elem_type f F vec (mark k true m) ∷ []))
elem_type f (AllElem k F) vec m = Pair (elem_type f F vec (mark k false m)) (collected (elem_type f F vec (mark k true m) ∷ []))

-- Where there is no element.
abbrev pub void_type : Field → Formula → ℕ → Value
void_type f (Const b) t = unit
void_type f (Ind _) t = ind_void f t
void_type f (Member x a) t = unseen
void_type f (SameElem x y) t = same_elem false false false
void_type f (Sub a b) t = holding true
void_type f (SameSet a b) t = holding true
void_type f (Not F) t = void_type f F t
void_type f (Bin o F G) t = Pair (void_type f F t) (void_type f G t)
void_type f (ExSet k F) t = collected (void_type f F t ∷ [])
void_type f (AllSet k F) t = collected (void_type f F t ∷ [])
void_type f (ExElem k F) t = Pair (void_type f F t) (collected [])
void_type f (AllElem k F) t = Pair (void_type f F t) (collected [])
