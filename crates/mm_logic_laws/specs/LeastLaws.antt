-- The laws of least sets.
use Rattle.std.specs.Prelude.{◌≡◌, ◌≢◌, ◌⊎◌, ◌↔◌, ℕ, ◌+◌, Bool, true, false, ℤ, Some, None, List, ◌++◌, length, Contains}
use Rattle.std.specs.List.{AllPairs}
use Rattle.mm_field.specs.declared.Field.{Field}
use Rattle.mm_logic.specs.Formula.{Formula}
use Rattle.mm_logic.specs.Value.{Value}
use Rattle.mm_logic.specs.Marks.{Marks, mark, assign, unmarked, Singles}
use Rattle.mm_logic.specs.Operator.{Op}
use Rattle.mm_logic.specs.Tree.{Tree, size, IsValid}
use Rattle.mm_logic.specs.Tree.Tree.{Join}
use Rattle.mm_logic.specs.Meaning.{WellSorted}
use Rattle.mm_logic.specs.Types.{type_of}
use Rattle.mm_logic.specs.Acceptance.{accepts}
use Rattle.mm_logic.specs.Occurrence.{distinct}
use Rattle.mm_logic.specs.StateSize.{types_at}
use Rattle.mm_logic.specs.StateSize.Query.{Least}
use Rattle.mm_logic.specs.Least.{Satisfies, IsLeastSet, least, IsBefore, IsFirst, AreFirsts}

-- The set that listing finds is the least set, there is no other least set, and nothing is found exactly where no set satisfies
-- the formula.
abbrev pub LeastSetIsMeant : Type 0
LeastSetIsMeant =
    (f : Field) (T : Tree) → IsValid f T → (F : Formula) (ws : List ℤ)
    → ((A : List Bool) → (least f F T ws ≡ Some A) ↔ IsLeastSet f F T ws A)
    × ((least f F T ws ≡ None) ↔ ((A : List Bool) → length A ≡ size T → Satisfies f F T A → ⊥))

-- Among the sets with one type at a join, as slot k, the first restricts at each child to the first of its own type there.
abbrev pub LeastSetsRestrict : Type 0
LeastSetsRestrict =
    (f : Field) (op : Op) (l r : Tree) → IsValid f (Join op l r)
    → (F : Formula) (e : ℕ → Bool) (k : ℕ) → WellSorted (mark k false e) F
    → (us vs : List Marks) → Singles e (us ++ vs) → length us ≡ size l → length vs ≡ size r
    → (ws zs : List ℤ) → length ws ≡ size l
    → (v : Value) (A B : List Bool) → length A ≡ size l → length B ≡ size r
    → IsFirst (ws ++ zs) (size l + size r) (λ Z. type_of f F (Join op l r) (assign k Z (us ++ vs)) ≡ v) (A ++ B)
    → IsFirst ws (size l) (λ Y. type_of f F l (assign k Y us) ≡ type_of f F l (assign k A us)) A
    × IsFirst zs (size r) (λ Y. type_of f F r (assign k Y vs) ≡ type_of f F r (assign k B vs)) B

-- Where rows and sows are the first sets of all types at the children, the first set of a type at the join is the first of those
-- that are one of rows with one of sows.
abbrev pub FirstsOfPairs : Type 0
FirstsOfPairs =
    (f : Field) (op : Op) (l r : Tree) → IsValid f (Join op l r)
    → (F : Formula) (e : ℕ → Bool) (k : ℕ) → WellSorted (mark k false e) F
    → (us vs : List Marks) → Singles e (us ++ vs) → length us ≡ size l → length vs ≡ size r
    → (ws zs : List ℤ) → length ws ≡ size l
    → (rows sows : List (List Bool))
    → AreFirsts ws (size l) (λ Y. type_of f F l (assign k Y us)) rows
    → AreFirsts zs (size r) (λ Y. type_of f F r (assign k Y vs)) sows
    → (A B : List Bool) → Contains rows A → Contains sows B
    → ((A' B' : List Bool) → Contains rows A' → Contains sows B'
    → type_of f F (Join op l r) (assign k (A' ++ B') (us ++ vs)) ≡ type_of f F (Join op l r) (assign k (A ++ B) (us ++ vs))
    → (A ++ B ≡ A' ++ B') ⊎ IsBefore (ws ++ zs) (A ++ B) (A' ++ B'))
    → IsFirst (ws ++ zs) (size l + size r)
    (λ Z. type_of f F (Join op l r) (assign k Z (us ++ vs)) ≡ type_of f F (Join op l r) (assign k (A ++ B) (us ++ vs))) (A ++ B)

-- Each type that occurs at the join is then that of one of rows with one of sows.
abbrev pub PairsOfFirstsHaveAllTypes : Type 0
PairsOfFirstsHaveAllTypes =
    (f : Field) (op : Op) (l r : Tree) → IsValid f (Join op l r)
    → (F : Formula) (e : ℕ → Bool) (k : ℕ) → WellSorted (mark k false e) F
    → (us vs : List Marks) → Singles e (us ++ vs) → length us ≡ size l → length vs ≡ size r
    → (ws zs : List ℤ) (rows sows : List (List Bool))
    → AreFirsts ws (size l) (λ Y. type_of f F l (assign k Y us)) rows
    → AreFirsts zs (size r) (λ Y. type_of f F r (assign k Y vs)) sows
    → (Z : List Bool) → length Z ≡ size (Join op l r)
    → (A B : List Bool) × Contains rows A × Contains sows B
    × (type_of f F (Join op l r) (assign k (A ++ B) (us ++ vs)) ≡ type_of f F (Join op l r) (assign k Z (us ++ vs)))

-- First sets of one type are one set.
abbrev pub FirstsHaveDifferentTypes : Type 0
FirstsHaveDifferentTypes =
    (ws : List ℤ) (n : ℕ) (type : List Bool → Value) (rows : List (List Bool)) → AreFirsts ws n type rows
    → (A B : List Bool) → Contains rows A → Contains rows B → type A ≡ type B → A ≡ B

-- So the first sets of a node, each listed once, are as many as its different types.
abbrev pub FirstsAreAsManyAsTypes : Type 0
FirstsAreAsManyAsTypes =
    (f : Field) (F : Formula) (T : Tree) (ws : List ℤ) (rows : List (List Bool))
    → AreFirsts ws (size T) (λ Y. type_of f F T (assign 0 Y (unmarked (size T)))) rows → AllPairs (λ A B. A ≢ B) rows
    → length rows ≡ length (distinct (types_at f (Least F) T))

-- Where rows are the first sets of all types at the root and none has an accepted type, no set satisfies the formula.
abbrev pub NothingWithoutAcceptedFirst : Type 0
NothingWithoutAcceptedFirst =
    (f : Field) (T : Tree) → IsValid f T → (F : Formula) (ws : List ℤ) (rows : List (List Bool))
    → AreFirsts ws (size T) (λ Y. type_of f F T (assign 0 Y (unmarked (size T)))) rows
    → ((A : List Bool) → Contains rows A → accepts F (type_of f F T (assign 0 A (unmarked (size T)))) ≡ false)
    → (A : List Bool) → length A ≡ size T → Satisfies f F T A → ⊥

-- Where rows are the first sets of all types at the root, the first of those with an accepted type is the least set.
abbrev pub AnswerOfFirsts : Type 0
AnswerOfFirsts =
    (f : Field) (T : Tree) → IsValid f T → (F : Formula) (ws : List ℤ) (rows : List (List Bool))
    → AreFirsts ws (size T) (λ Y. type_of f F T (assign 0 Y (unmarked (size T)))) rows
    → (A : List Bool) → Contains rows A → accepts F (type_of f F T (assign 0 A (unmarked (size T)))) ≡ true
    → ((B : List Bool) → Contains rows B → accepts F (type_of f F T (assign 0 B (unmarked (size T)))) ≡ true
    → (A ≡ B) ⊎ IsBefore ws A B)
    → IsLeastSet f F T ws A
