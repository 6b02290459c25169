-- What the value of a number is, over the numbers of the parts that it stands on.
use Rattle.std.specs.Prelude.{◌≡◌, ℕ, ◌<◌, List, map, length, drop}
use Rattle.mm_field.specs.declared.Field.{Field}
use Rattle.mm_logic.specs.Formula.{Formula}
use Rattle.mm_logic.specs.Formula.Formula.{Const, Ind, Member, SameElem, Sub, SameSet, Not, Bin, ExSet, AllSet, ExElem, AllElem}
use Rattle.mm_logic.specs.Value.{Value, Value as value, collected}
use Rattle.mm_logic.specs.Occurrence.{nodes}
use Rattle.mm_logic.specs.Growth.{root, type_at, tail_lists}
use Rattle.mm_states.specs.Lists.{AllFit}
use Rattle.mm_base_auto.specs.Atoms.{shown}
use Rattle.mm_machine.specs.declared.content.Content.{Content}
use Rattle.mm_machine.specs.declared.content.Content.TheVariants.{Atom, Pair, Set, One}

-- a number of F, whose lists are these
abbrev pub IsNumberOf : Formula → List (List Value) → ℕ → Type 0
IsNumberOf F lists id = id < length (root F lists)

-- a set of numbers, by its types
abbrev pub IsSetOf : Formula → List (List Value) → Value → List ℕ → Type 0
IsSetOf F lists v ids = (v ≡ collected (map (type_at F lists) ids)) × AllFit (IsNumberOf F lists) ids

-- a number and a set of numbers, by their types
abbrev pub IsOneOf : Formula → List (List Value) → Value → ℕ → List ℕ → Type 0
IsOneOf F lists v id ids =
    (v ≡ value.Pair (type_at F lists id) (collected (map (type_at F lists) ids))) × IsNumberOf F lists id × AllFit (IsNumberOf F lists) ids

-- the numbers of the two parts of a pair, by their types
abbrev pub IsPairOf : Formula → Formula → List (List Value) → Value → ℕ → ℕ → Type 0
IsPairOf F G lists v a b =
    (v ≡ value.Pair (type_at F lists a) (type_at G (drop (length (nodes F)) lists) b))
    × IsNumberOf F lists a × IsNumberOf G (drop (length (nodes F)) lists) b

-- The type with a number, shown: of an atom over f as it is, of other formulas by the numbers of the formulas that they are made of, whose
-- lists follow. A `not` shows what it stands on.
abbrev pub IsContent : Field → Formula → List (List Value) → ℕ → Content → Type 0
IsContent f (Not F) lists id c = IsContent f F (tail_lists lists) id c
IsContent f (Bin o F G) lists id (Pair a b) = IsPairOf F G (tail_lists lists) (type_at (Bin o F G) lists id) a b
IsContent f (ExSet k F) lists id (Set ids) = IsSetOf F (tail_lists lists) (type_at (ExSet k F) lists id) ids.now
IsContent f (AllSet k F) lists id (Set ids) = IsSetOf F (tail_lists lists) (type_at (AllSet k F) lists id) ids.now
IsContent f (ExElem k F) lists id (One a ids) = IsOneOf F (tail_lists lists) (type_at (ExElem k F) lists id) a ids.now
IsContent f (AllElem k F) lists id (One a ids) = IsOneOf F (tail_lists lists) (type_at (AllElem k F) lists id) a ids.now
IsContent f (Const b) lists id (Atom v) = v ≡ shown f (Const b) (type_at (Const b) lists id)
IsContent f (Ind u) lists id (Atom v) = v ≡ shown f (Ind u) (type_at (Ind u) lists id)
IsContent f (Member x a) lists id (Atom v) = v ≡ shown f (Member x a) (type_at (Member x a) lists id)
IsContent f (SameElem x y) lists id (Atom v) = v ≡ shown f (SameElem x y) (type_at (SameElem x y) lists id)
IsContent f (Sub a b) lists id (Atom v) = v ≡ shown f (Sub a b) (type_at (Sub a b) lists id)
IsContent f (SameSet a b) lists id (Atom v) = v ≡ shown f (SameSet a b) (type_at (SameSet a b) lists id)
IsContent f F lists id c = ⊥
