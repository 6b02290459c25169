-- Formulas as their syntax alone, without where their parts lie in memory.
use Rattle.std.specs.Prelude.{◌≡◌, ℕ, ◌+◌, Bool, true, not, ◌&&◌, List}
use Rattle.mm_formula.specs.Variables.{is_var, is_set}
use Rattle.std.specs.List.{list_all}
use Rattle.mm_formula.specs.Repeats.{IsDistinct}
use Rattle.mm_formula.specs.declared.formula.Term.{Term}
use Rattle.mm_formula.specs.declared.formula.Connective.{Connective}
use Rattle.mm_formula.specs.declared.formula.Formula as held

pub data Syntax : Type 0 where
  Const : Bool → Syntax
  Ind : Term → Syntax
  Member : (x set : List ℕ) → Syntax
  SameElem : (x y : List ℕ) → Syntax
  Sub : (a b : List ℕ) → Syntax
  SameSet : (a b : List ℕ) → Syntax
  Not : Syntax → Syntax
  Bin : Connective → Syntax → Syntax → Syntax
  Ex : (v : List ℕ) → Syntax → Syntax
  All : (v : List ℕ) → Syntax → Syntax

-- the syntax of a formula of the program
abbrev pub syntax_of : held.Formula → Syntax
syntax_of (held.Const b) = Const b
syntax_of (held.Ind t) = Ind t
syntax_of (held.Member x a) = Member x a
syntax_of (held.SameElem x y) = SameElem x y
syntax_of (held.Sub a b) = Sub a b
syntax_of (held.SameSet a b) = SameSet a b
syntax_of (held.Not' p F) = Not (syntax_of F)
syntax_of (held.Bin' c p F q G) = Bin c (syntax_of F) (syntax_of G)
syntax_of (held.Ex' v p F) = Ex v (syntax_of F)
syntax_of (held.All' v p F) = All v (syntax_of F)

-- Element variables stand where elements are spoken of, and set variables where sets are.
abbrev pub is_well_sorted : Syntax → Bool
is_well_sorted (Const b) = true
is_well_sorted (Ind t) = true
is_well_sorted (Member x a) = not (is_set x) && is_set a
is_well_sorted (SameElem x y) = not (is_set x) && not (is_set y)
is_well_sorted (Sub a b) = is_set a && is_set b
is_well_sorted (SameSet a b) = is_set a && is_set b
is_well_sorted (Not F) = is_well_sorted F
is_well_sorted (Bin c F G) = is_well_sorted F && is_well_sorted G
is_well_sorted (Ex v F) = is_well_sorted F
is_well_sorted (All v F) = is_well_sorted F

-- What is true of each formula that the program holds: its variables are variables, and no term repeats one.
abbrev pub IsProper : Syntax → Type 0
IsProper (Const b) = Unit {0}
IsProper (Ind t) = (list_all is_var t.vars ≡ true) × IsDistinct t.vars
IsProper (Member x a) = (is_var x ≡ true) × (is_var a ≡ true)
IsProper (SameElem x y) = (is_var x ≡ true) × (is_var y ≡ true)
IsProper (Sub a b) = (is_var a ≡ true) × (is_var b ≡ true)
IsProper (SameSet a b) = (is_var a ≡ true) × (is_var b ≡ true)
IsProper (Not F) = IsProper F
IsProper (Bin c F G) = IsProper F × IsProper G
IsProper (Ex v F) = (is_var v ≡ true) × IsProper F
IsProper (All v F) = (is_var v ≡ true) × IsProper F

-- the atoms, the `not`s, the connectives and the quantifiers of a formula
abbrev pub nodes : Syntax → ℕ
nodes (Not F) = 1 + nodes F
nodes (Bin c F G) = 1 + nodes F + nodes G
nodes (Ex v F) = 1 + nodes F
nodes (All v F) = 1 + nodes F
nodes _ = 1
