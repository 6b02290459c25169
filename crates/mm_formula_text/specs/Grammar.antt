-- The grammar of formulas: which formula a text derives, one case for each production.
use Rattle.std.specs.Prelude.{◌≡◌, ℕ, Bool, true, false, List, [], ◌∷◌, ◌++◌, if◌then◌else◌}
use Rattle.mm_formula.specs.Variables.{is_set}
use Rattle.mm_formula.specs.Repeats.{has}
use Rattle.mm_formula.specs.Syntax as formula
use Rattle.mm_formula.specs.declared.formula.Term.{Term}
use Rattle.mm_formula.specs.declared.formula.Connective.TheVariants as connective
use Rattle.mm_formula_text.specs.declared.token.Quantifier.TheVariants as quantifier
use Rattle.mm_formula_text.specs.declared.token.Relation.TheVariants as relation
use Rattle.mm_formula_text.specs.declared.token.Token.{Token}
use Rattle.mm_formula_text.specs.declared.token.Token.TheVariants.{Connective, Not, Quantifier, Const, Ind, Relation, Open, Close, Bar, Star, Zero, Variable}
use Rattle.mm_formula_text.specs.Tokens.{is_blank, tokens}

-- ---- terms

-- no elements
abbrev pub nothing : Term
nothing = record { whole = false; vars = [] }

-- a term with a variable joined to it, which is kept at its first mention alone
abbrev pub mention : Term → List ℕ → Term
mention t v = if has v t.vars then t else record { whole = t.whole; vars = t.vars ++ v ∷ [] }

-- a term with all elements joined to it
abbrev pub mention_all : Term → Term
mention_all t = record { whole = true; vars = t.vars }

-- P, and T1 bar P
pub data DerivesUnion : List Token → Term → Type 0 where
  variable : {v : List ℕ} → DerivesUnion (Variable v ∷ []) (record { whole = false; vars = v ∷ [] })
  star : DerivesUnion (Star ∷ []) (record { whole = true; vars = [] })
  bar_variable : {ts : List Token} {t : Term} (v : List ℕ) → DerivesUnion ts t → DerivesUnion (ts ++ Bar ∷ Variable v ∷ []) (mention t v)
  bar_star : {ts : List Token} {t : Term} → DerivesUnion ts t → DerivesUnion (ts ++ Bar ∷ Star ∷ []) (mention_all t)

-- T
pub data DerivesTerm : List Token → Term → Type 0 where
  zero_sign : DerivesTerm (Zero ∷ []) nothing
  union : {ts : List Token} {t : Term} → DerivesUnion ts t → DerivesTerm ts t

-- ---- formulas

-- the five levels of the grammar, from the loosest: F, I, O, C and U
pub data Level : Type 0 where
  Equivalence Implication Disjunction Conjunction Unary : Level

pub data Derives : Level → List Token → formula.Syntax → Type 0 where
  -- F := F iff I | I
  iff : {ts us : List Token} {A B : formula.Syntax} → Derives Equivalence ts A → Derives Implication us B
      → Derives Equivalence (ts ++ Connective connective.Iff ∷ us) (formula.Syntax.Bin connective.Iff A B)
  implication : {ts : List Token} {A : formula.Syntax} → Derives Implication ts A → Derives Equivalence ts A
  -- I := O implies I | O
  implies : {ts us : List Token} {A B : formula.Syntax} → Derives Disjunction ts A → Derives Implication us B
      → Derives Implication (ts ++ Connective connective.Implies ∷ us) (formula.Syntax.Bin connective.Implies A B)
  disjunction : {ts : List Token} {A : formula.Syntax} → Derives Disjunction ts A → Derives Implication ts A
  -- O := O or C | C
  or : {ts us : List Token} {A B : formula.Syntax} → Derives Disjunction ts A → Derives Conjunction us B
      → Derives Disjunction (ts ++ Connective connective.Or ∷ us) (formula.Syntax.Bin connective.Or A B)
  conjunction : {ts : List Token} {A : formula.Syntax} → Derives Conjunction ts A → Derives Disjunction ts A
  -- C := C and U | U
  and : {ts us : List Token} {A B : formula.Syntax} → Derives Conjunction ts A → Derives Unary us B
      → Derives Conjunction (ts ++ Connective connective.And ∷ us) (formula.Syntax.Bin connective.And A B)
  unary : {ts : List Token} {A : formula.Syntax} → Derives Unary ts A → Derives Conjunction ts A
  -- U := not U | ex v U | all v U | ( F ) | true | false | ind ( T ) | x in X | x = y | X sub Y | X = Y
  negation : {ts : List Token} {A : formula.Syntax} → Derives Unary ts A → Derives Unary (Not ∷ ts) (formula.Syntax.Not A)
  ex : {ts : List Token} {v : List ℕ} {A : formula.Syntax} → Derives Unary ts A
      → Derives Unary (Quantifier quantifier.Ex ∷ Variable v ∷ ts) (formula.Syntax.Ex v A)
  all : {ts : List Token} {v : List ℕ} {A : formula.Syntax} → Derives Unary ts A
      → Derives Unary (Quantifier quantifier.All ∷ Variable v ∷ ts) (formula.Syntax.All v A)
  parentheses : {ts : List Token} {A : formula.Syntax} → Derives Equivalence ts A → Derives Unary (Open ∷ ts ++ Close ∷ []) A
  constant : {b : Bool} → Derives Unary (Const b ∷ []) (formula.Syntax.Const b)
  independent : {ts : List Token} {t : Term} → DerivesTerm ts t → Derives Unary (Ind ∷ Open ∷ ts ++ Close ∷ []) (formula.Syntax.Ind t)
  member : {x a : List ℕ} → is_set x ≡ false → is_set a ≡ true
      → Derives Unary (Variable x ∷ Relation relation.In ∷ Variable a ∷ []) (formula.Syntax.Member x a)
  same_element : {x y : List ℕ} → is_set x ≡ false → is_set y ≡ false
      → Derives Unary (Variable x ∷ Relation relation.Equals ∷ Variable y ∷ []) (formula.Syntax.SameElem x y)
  subset : {a b : List ℕ} → is_set a ≡ true → is_set b ≡ true
      → Derives Unary (Variable a ∷ Relation relation.Sub ∷ Variable b ∷ []) (formula.Syntax.Sub a b)
  same_set : {a b : List ℕ} → is_set a ≡ true → is_set b ≡ true
      → Derives Unary (Variable a ∷ Relation relation.Equals ∷ Variable b ∷ []) (formula.Syntax.SameSet a b)

-- ---- texts

abbrev pub ends_in_blank : List ℕ → Bool
ends_in_blank [] = false
ends_in_blank (b ∷ []) = is_blank b
ends_in_blank (b ∷ c ∷ bs) = ends_in_blank (c ∷ bs)

abbrev pub begins_in_blank : List ℕ → Bool
begins_in_blank [] = false
begins_in_blank (b ∷ bs) = is_blank b

-- The text derives the formula: no blank stands before its first token or after its last, and its tokens derive it.
pub record IsTextOf (F : formula.Syntax) (text : List ℕ) : Type 0 where
  pub first : begins_in_blank text ≡ false
  pub last : ends_in_blank text ≡ false
  pub derived : Derives Equivalence (tokens text) F
