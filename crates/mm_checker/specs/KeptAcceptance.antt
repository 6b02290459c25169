-- Which values a formula accepts, by their numbers.
use Rattle.std.specs.Prelude.{◌≡◌, ◌∷◌, ℕ, Bool, true, false, ◌==◌, not, List, [], Option, Some}
use Rattle.std.specs.List.{list_any, list_all}
use Rattle.mm_formula.specs.Scope.{connective}
use Rattle.mm_formula.specs.Syntax.{Syntax}
use Rattle.mm_formula.specs.Syntax.{Syntax as syntax}
use Rattle.mm_formula.specs.Variables.{is_set}
use Rattle.mm_logic.specs.Formula.{connect}
use Rattle.mm_checker.specs.Contents.{meaning, value_of}
use Rattle.mm_checker.specs.Certificates.{content_of}
use Rattle.mm_checker.specs.declared.certificate.Content.{Content}
use Rattle.mm_checker.specs.declared.certificate.Content.TheVariants as content
use Rattle.mm_checker.specs.declared.certificate.Valued.{Valued}

abbrev pub has_flag : ℕ → Option Content → Bool
has_flag k (Some (content.Flag n)) = n == k
has_flag k c = false

abbrev pub is_dead : Option Content → Bool
is_dead (Some content.Dead) = true
is_dead c = false

-- the parts of the value of a connective, and the members of that of a quantifier
abbrev pub parts_in : Option Content → ℕ × ℕ
parts_in (Some (content.Parts a b)) = (a, b)
parts_in c = (0, 0)

abbrev pub members_in : Option Content → List ℕ
members_in (Some (content.SetOf ns)) = ns
members_in (Some (content.OneOf a ns)) = ns
members_in c = []

-- whether a formula accepts the value of a number
abbrev pub takes : List Valued → Syntax → ℕ → Bool
takes values (syntax.Const b) n = b
takes values (syntax.Ind t) n = not (is_dead (content_of values n))
takes values (syntax.Member x a) n = has_flag 1 (content_of values n)
takes values (syntax.SameElem x y) n = has_flag 3 (content_of values n)
takes values (syntax.Sub a b) n = has_flag 0 (content_of values n)
takes values (syntax.SameSet a b) n = has_flag 0 (content_of values n)
takes values (syntax.Not F) n = not (takes values F n)
takes values (syntax.Bin o F G) n =
    connect (connective o) (takes values F (parts_in (content_of values n)).0) (takes values G (parts_in (content_of values n)).1)
takes values (syntax.Ex v F) n = list_any (takes values F) (members_in (content_of values n))
takes values (syntax.All v F) n = list_all (takes values F) (members_in (content_of values n))

-- ---- values that are such as the formula's

-- a value of `ind`, and one of another atom
abbrev pub IsOfInd : Option Content → Type 0
IsOfInd (Some content.Dead) = Unit {0}
IsOfInd (Some (content.Space key)) = Unit {0}
IsOfInd c = ⊥

abbrev pub HasFlag : Option Content → Type 0
HasFlag (Some (content.Flag n)) = Unit {0}
HasFlag c = ⊥

abbrev pub HasParts : (ℕ → Type 0) → (ℕ → Type 0) → Option Content → Type 0
HasParts P Q (Some (content.Parts a b)) = P a × Q b
HasParts P Q c = ⊥

abbrev pub Each : (ℕ → Type 0) → List ℕ → Type 0
Each P [] = Unit {0}
Each P (n ∷ ns) = P n × Each P ns

-- members of a set, or those beside the unassigned value
abbrev pub HasMembers : Bool → (ℕ → Type 0) → Option Content → Type 0
HasMembers true P (Some (content.SetOf ns)) = Each P ns
HasMembers false P (Some (content.OneOf a ns)) = Each P ns
HasMembers b P c = ⊥

-- The value of a number, and the values below it, are such as the formula has them.
abbrev pub IsTyped : List Valued → Syntax → ℕ → Type 0
IsTyped values (syntax.Const b) n = Unit {0}
IsTyped values (syntax.Ind t) n = IsOfInd (content_of values n)
IsTyped values (syntax.Member x a) n = HasFlag (content_of values n)
IsTyped values (syntax.SameElem x y) n = HasFlag (content_of values n)
IsTyped values (syntax.Sub a b) n = HasFlag (content_of values n)
IsTyped values (syntax.SameSet a b) n = HasFlag (content_of values n)
IsTyped values (syntax.Not F) n = IsTyped values F n
IsTyped values (syntax.Bin o F G) n = HasParts (IsTyped values F) (IsTyped values G) (content_of values n)
IsTyped values (syntax.Ex v F) n = HasMembers (is_set v) (IsTyped values F) (content_of values n)
IsTyped values (syntax.All v F) n = HasMembers (is_set v) (IsTyped values F) (content_of values n)

-- Each number is the value of its content.
abbrev pub AreMeant : List Valued → Type 0
AreMeant values = (n : ℕ) (c : Content) → content_of values n ≡ Some c → meaning values n ≡ value_of (meaning values) c
