-- The type of a formula at a tree, read from the matrix of the tree and from all sets of its elements.
use Rattle.std.specs.Prelude.{◌&&◌, if◌then◌else◌, List, map, length}
use Rattle.std.specs.List.{list_any, list_all}
use Rattle.mm_field.specs.declared.Field.{Field}
use Rattle.mm_logic.specs.Formula.{Formula, implies, iff}
use Rattle.mm_logic.specs.Formula.Formula.{Const, Ind, Member, SameElem, Sub, SameSet, Not, Bin, ExSet, AllSet, ExElem, AllElem}
use Rattle.mm_logic.specs.Value.{Value, collected}
use Rattle.mm_logic.specs.Value.Value.{Pair}
use Rattle.mm_logic.specs.Marks.{Marks, assign, none, sets, singles}
use Rattle.mm_logic.specs.Tree.{Tree}
use Rattle.mm_logic.specs.Meaning.{union}
use Rattle.mm_logic.specs.BoundarySpaces.{ind_type}
use Rattle.mm_logic.specs.AtomValues.{unit, unseen, member, same_elem, holding}

-- The type of `ind` is Dead or a boundary space; that of another atom says how its variables are assigned in the tree; that of a
-- connective is the pair of the types of its parts, and that of `not` the type of its part; that of a set quantifier is the set of
-- the types over all sets of elements; that of an element quantifier is the type with the variable unassigned, and the set of the
-- types with it at one element.
abbrev pub type_of : Field → Formula → Tree → List Marks → Value
type_of f (Const b) T ms = unit
type_of f (Ind t) T ms = ind_type f T (union t ms)
type_of f (Member x a) T ms = if list_any (λ m. m x) ms then member (list_any (λ m. m x && m a) ms) else unseen
type_of f (SameElem x y) T ms = same_elem (list_any (λ m. m x) ms) (list_any (λ m. m y) ms) (list_any (λ m. m x && m y) ms)
type_of f (Sub a b) T ms = holding (list_all (λ m. implies (m a) (m b)) ms)
type_of f (SameSet a b) T ms = holding (list_all (λ m. iff (m a) (m b)) ms)
type_of f (Not F) T ms = type_of f F T ms
type_of f (Bin o F G) T ms = Pair (type_of f F T ms) (type_of f G T ms)
type_of f (ExSet k F) T ms = collected (map (λ X. type_of f F T (assign k X ms)) (sets (length ms)))
type_of f (AllSet k F) T ms = collected (map (λ X. type_of f F T (assign k X ms)) (sets (length ms)))
type_of f (ExElem k F) T ms =
    Pair (type_of f F T (assign k (none (length ms)) ms)) (collected (map (λ X. type_of f F T (assign k X ms)) (singles (length ms))))
type_of f (AllElem k F) T ms =
    Pair (type_of f F T (assign k (none (length ms)) ms)) (collected (map (λ X. type_of f F T (assign k X ms)) (singles (length ms))))
