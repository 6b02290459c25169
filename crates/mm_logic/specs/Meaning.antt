-- The meaning of a formula on a tree (satisfaction), as a relation and as a function that decides it.
use Rattle.std.specs.Prelude.{◌≡◌, ◌<◌, ◌⊎◌, ◌↔◌, ℕ, Bool, true, false, not, ◌&&◌, List, map, length}
use Rattle.std.specs.List.{list_any, list_all}
use Rattle.mm_field.specs.declared.Field.{Field}
use Rattle.mm_logic.specs.Formula.{Term, Formula, Connective, connect, implies, iff}
use Rattle.mm_logic.specs.Formula.Connective.{And, Or, Implies, Iff}
use Rattle.mm_logic.specs.Formula.Formula.{Const, Ind, Member, SameElem, Sub, SameSet, Not, Bin, ExSet, AllSet, ExElem, AllElem}
use Rattle.mm_logic.specs.Marks.{Marks, mark, assign, only, sets, singles, in_term, Has}
use Rattle.mm_logic.specs.Tree.{Tree}
use Rattle.mm_logic.specs.PresentMatrix.{IsIndependent, is_independent_set}

-- the elements of the union of a term: those of its set variables, its element variables, and all where it has the star
abbrev pub union : Term → List Marks → List Bool
union t ms = map (in_term t) ms

-- what a connective makes of two statements
abbrev pub Connected : Connective → Type 0 → Type 0 → Type 0
Connected And A B = A × B
Connected Or A B = A ⊎ B
Connected Implies A B = A → B
Connected Iff A B = A ↔ B

-- A formula holds on a tree under an assignment ms of its free variables: `ind` of a union where the union is independent in the
-- matrix of the tree; `x in X` where some element is x and is in X; `x = y` where some element is both; `X sub Y` and `X = Y`
-- element by element; constants and connectives by their truth tables; and the quantifiers range over all sets of elements and
-- over all elements. (Monadic second-order logic of matroids: Hliněný 2006, section 3.)
abbrev pub Holds : Field → Formula → Tree → List Marks → Type 0
Holds f (Const b) T ms = b ≡ true
Holds f (Ind t) T ms = IsIndependent f T (union t ms)
Holds f (Member x a) T ms = (i : ℕ) × Has ms x i × Has ms a i
Holds f (SameElem x y) T ms = (i : ℕ) × Has ms x i × Has ms y i
Holds f (Sub a b) T ms = (i : ℕ) → Has ms a i → Has ms b i
Holds f (SameSet a b) T ms = (i : ℕ) → Has ms a i ↔ Has ms b i
Holds f (Not F) T ms = Holds f F T ms → ⊥
Holds f (Bin o F G) T ms = Connected o (Holds f F T ms) (Holds f G T ms)
Holds f (ExSet k F) T ms = (X : List Bool) × (length X ≡ length ms) × Holds f F T (assign k X ms)
Holds f (AllSet k F) T ms = (X : List Bool) → length X ≡ length ms → Holds f F T (assign k X ms)
Holds f (ExElem k F) T ms = (i : ℕ) × (i < length ms) × Holds f F T (assign k (only (length ms) i) ms)
Holds f (AllElem k F) T ms = (i : ℕ) → i < length ms → Holds f F T (assign k (only (length ms) i) ms)

-- The same, decided: independence by elimination, and the quantifiers by listing.
abbrev pub holds : Field → Formula → Tree → List Marks → Bool
holds f (Const b) T ms = b
holds f (Ind t) T ms = is_independent_set f T (union t ms)
holds f (Member x a) T ms = list_any (λ m. m x && m a) ms
holds f (SameElem x y) T ms = list_any (λ m. m x && m y) ms
holds f (Sub a b) T ms = list_all (λ m. implies (m a) (m b)) ms
holds f (SameSet a b) T ms = list_all (λ m. iff (m a) (m b)) ms
holds f (Not F) T ms = not (holds f F T ms)
holds f (Bin o F G) T ms = connect o (holds f F T ms) (holds f G T ms)
holds f (ExSet k F) T ms = list_any (λ X. holds f F T (assign k X ms)) (sets (length ms))
holds f (AllSet k F) T ms = list_all (λ X. holds f F T (assign k X ms)) (sets (length ms))
holds f (ExElem k F) T ms = list_any (λ X. holds f F T (assign k X ms)) (singles (length ms))
holds f (AllElem k F) T ms = list_all (λ X. holds f F T (assign k X ms)) (singles (length ms))

-- A formula is well sorted where element variables stand in the element places of its atoms; e tells the slots of element
-- variables above it.
abbrev pub WellSorted : (ℕ → Bool) → Formula → Type 0
WellSorted e (Const b) = Unit {0}
WellSorted e (Ind t) = Unit {0}
WellSorted e (Member x a) = e x ≡ true
WellSorted e (SameElem x y) = (e x ≡ true) × (e y ≡ true)
WellSorted e (Sub a b) = Unit {0}
WellSorted e (SameSet a b) = Unit {0}
WellSorted e (Not F) = WellSorted e F
WellSorted e (Bin o F G) = WellSorted e F × WellSorted e G
WellSorted e (ExSet k F) = WellSorted (mark k false e) F
WellSorted e (AllSet k F) = WellSorted (mark k false e) F
WellSorted e (ExElem k F) = WellSorted (mark k true e) F
WellSorted e (AllElem k F) = WellSorted (mark k true e) F
