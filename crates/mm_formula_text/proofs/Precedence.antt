-- The levels of the grammar as numbers, and what closing the frames of an automaton does.
use Rattle.std.proofs.Common.{◌≡◌, ℕ, ◌<◌, ◌≤◌, List, [], ◌∷◌, ◌++◌, refl, arith}
use Rattle.std.proofs.lemmas.Bool.{lt-ltb, le-ltb}
use Rattle.mm_formula.specs.Syntax as formula
use Rattle.mm_formula.specs.declared.formula.Connective as joint
use Rattle.mm_formula.specs.declared.formula.Connective.TheVariants as connective
use Rattle.mm_formula_text.specs.declared.token.Token.{Token}
use Rattle.mm_formula_text.specs.declared.token.Token.TheVariants.{Connective}
use Rattle.mm_formula_text.specs.Grammar.{Level, Derives}
use Rattle.mm_formula_text.specs.Grammar.Level.{Equivalence, Implication, Disjunction, Conjunction, Unary}
use Rattle.mm_formula_text.specs.Parser.{Frame, level, awaits, around, hole, close}

-- how tightly the formulas of a level bind
abbrev pub rank : Level → ℕ
rank Equivalence = 0
rank Implication = 1
rank Disjunction = 2
rank Conjunction = 3
rank Unary = 4

-- ---- the levels of a connective: of its two formulas, and of the whole

abbrev pub left : joint.Connective → Level
left connective.Iff = Equivalence
left connective.Implies = Disjunction
left connective.Or = Disjunction
left connective.And = Conjunction

abbrev pub right : joint.Connective → Level
right connective.Iff = Implication
right connective.Implies = Implication
right connective.Or = Conjunction
right connective.And = Unary

abbrev pub result : joint.Connective → Level
result connective.Iff = Equivalence
result connective.Implies = Implication
result connective.Or = Disjunction
result connective.And = Conjunction

pub result_rank : (c : joint.Connective) → rank (result c) ≡ level c
result_rank connective.Iff = refl
result_rank connective.Implies = refl
result_rank connective.Or = refl
result_rank connective.And = refl

-- a connective between two formulas of its levels
pub combined : (c : joint.Connective) {ts us : List Token} {A B : formula.Syntax} → Derives (left c) ts A → Derives (right c) us B
    → Derives (result c) (ts ++ Connective c ∷ us) (formula.Syntax.Bin c A B)
combined connective.Iff a b = Derives.iff a b
combined connective.Implies a b = Derives.implies a b
combined connective.Or a b = Derives.or a b
combined connective.And a b = Derives.and a b

-- a formula of a level is of each looser level
pub loosened : (m l : Level) {ts : List Token} {F : formula.Syntax} → rank m ≤ rank l → Derives l ts F → Derives m ts F
loosened Equivalence Equivalence h d = d
loosened Equivalence Implication h d = Derives.implication d
loosened Equivalence Disjunction h d = Derives.implication (Derives.disjunction d)
loosened Equivalence Conjunction h d = Derives.implication (Derives.disjunction (Derives.conjunction d))
loosened Equivalence Unary h d = Derives.implication (Derives.disjunction (Derives.conjunction (Derives.unary d)))
loosened Implication Equivalence h d = absurd (omega (arith, h))
loosened Implication Implication h d = d
loosened Implication Disjunction h d = Derives.disjunction d
loosened Implication Conjunction h d = Derives.disjunction (Derives.conjunction d)
loosened Implication Unary h d = Derives.disjunction (Derives.conjunction (Derives.unary d))
loosened Disjunction Equivalence h d = absurd (omega (arith, h))
loosened Disjunction Implication h d = absurd (omega (arith, h))
loosened Disjunction Disjunction h d = d
loosened Disjunction Conjunction h d = Derives.conjunction d
loosened Disjunction Unary h d = Derives.conjunction (Derives.unary d)
loosened Conjunction Equivalence h d = absurd (omega (arith, h))
loosened Conjunction Implication h d = absurd (omega (arith, h))
loosened Conjunction Disjunction h d = absurd (omega (arith, h))
loosened Conjunction Conjunction h d = d
loosened Conjunction Unary h d = Derives.unary d
loosened Unary Equivalence h d = absurd (omega (arith, h))
loosened Unary Implication h d = absurd (omega (arith, h))
loosened Unary Disjunction h d = absurd (omega (arith, h))
loosened Unary Conjunction h d = absurd (omega (arith, h))
loosened Unary Unary h d = d

-- ---- frames

pub close_stays : (least : ℕ) (frames : List Frame) (F : formula.Syntax) → hole frames ≤ least → close least frames F ≡ (frames, F)
close_stays least [] F h = refl
close_stays least (f ∷ frames) F h = rw (le-ltb least (awaits f) h) refl

pub close_pops : (least : ℕ) (f : Frame) (frames : List Frame) (F : formula.Syntax) → least < awaits f
    → close least (f ∷ frames) F ≡ close least frames (around f F)
close_pops least f frames F h = rw (lt-ltb least (awaits f) h) refl
