-- Minor formulas computed: of one column of zeros, and of two parallel columns over GF(3).
use Rattle.std.proofs.Common.{◌≡◌, false, List, [], ◌∷◌, refl, ℕ}
use Rattle.std.specs.Prelude.{codes}
use Rattle.mm_field.specs.Digits.{plus, times, negative, inverse}
use Rattle.mm_field.specs.declared.Field.TheVariants.{Two, Three}
use Rattle.mm_linear.specs.Decide.{is_independent, new_place, echelon_of}
use Rattle.mm_formula.specs.Syntax.{Syntax}
use Rattle.mm_formula.specs.Syntax.Syntax.{Ind, Member, SameElem, Not, Bin, Ex}
use Rattle.mm_formula.specs.declared.formula.Connective.TheVariants.{And}
use Rattle.mm_minor.specs.MinorFormula.{minor_formula}

abbrev ind : List (List ℕ) → Syntax
ind vars = Ind (record { whole = false; vars = vars })

abbrev C : List ℕ
C = codes "C"

abbrev x1 : List ℕ
x1 = codes "x1"

abbrev x2 : List ℕ
x2 = codes "x2"

loop_formula : minor_formula (record { f = Two; cols = 1; rows = (0 ∷ []) ∷ [] })
    ≡ Ex C (Ex x1 (Bin And (Bin And (ind (C ∷ [])) (Not (Member x1 C))) (Not (ind (C ∷ x1 ∷ [])))))
unfolding minor_formula is_independent new_place echelon_of plus times negative inverse
loop_formula = refl

parallel_formula : minor_formula (record { f = Three; cols = 2; rows = (1 ∷ 2 ∷ []) ∷ [] })
    ≡ Ex C (Ex x1 (Ex x2 (
    Bin And (Bin And (Bin And (Bin And (Bin And (Bin And (ind (C ∷ [])) (Not (Member x1 C))) (Not (Member x2 C))) (Not (SameElem x1 x2)))
    (ind (C ∷ x1 ∷ []))) (ind (C ∷ x2 ∷ []))) (Not (ind (C ∷ x1 ∷ x2 ∷ []))))))
unfolding minor_formula is_independent new_place echelon_of plus times negative inverse
parallel_formula = refl
