-- The canonical text of a formula.
use Rattle.std.specs.Prelude.{ℕ, Bool, true, false, List, [], ◌∷◌, ◌++◌, codes, if◌then◌else◌}
use Rattle.std.specs.List.{flat_map}
use Rattle.mm_formula.specs.Syntax.{Syntax}
use Rattle.mm_formula.specs.Syntax.Syntax.{Const, Ind, Member, SameElem, Sub, SameSet, Not, Bin, Ex, All}
use Rattle.mm_formula.specs.declared.formula.Connective as joint
use Rattle.mm_formula.specs.declared.formula.Connective.TheVariants.{And, Or, Implies, Iff}

-- a variable after a bar
abbrev pub barred : List ℕ → List ℕ
barred v = codes "|" ++ v

-- A term: its variables in order with bars between them, `*` last, and `0` where it is empty.
abbrev pub term_text : Bool → List (List ℕ) → List ℕ
term_text false [] = codes "0"
term_text true [] = codes "*"
term_text whole (v ∷ vs) = v ++ (flat_map barred vs ++ (if whole then codes "|*" else []))

-- a connective with a blank on each side
abbrev pub between : joint.Connective → List ℕ
between And = codes " and "
between Or = codes " or "
between Implies = codes " implies "
between Iff = codes " iff "

abbrev pub canonical : Syntax → List ℕ
canonical (Const true) = codes "true"
canonical (Const false) = codes "false"
canonical (Ind t) = codes "ind(" ++ (term_text t.whole t.vars ++ codes ")")
canonical (Member x a) = x ++ (codes " in " ++ a)
canonical (SameElem x y) = x ++ (codes " = " ++ y)
canonical (Sub a b) = a ++ (codes " sub " ++ b)
canonical (SameSet a b) = a ++ (codes " = " ++ b)
canonical (Not F) = codes "not " ++ canonical F
canonical (Bin c F G) = codes "(" ++ (canonical F ++ (between c ++ (canonical G ++ codes ")")))
canonical (Ex v F) = codes "ex " ++ (v ++ (codes " " ++ canonical F))
canonical (All v F) = codes "all " ++ (v ++ (codes " " ++ canonical F))
