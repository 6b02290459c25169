-- What a reader answers to a text that derives a formula.
use Rattle.std.specs.Prelude.{◌≡◌, Result, Ok, Err}
use Rattle.mm_formula.specs.Syntax.{Syntax, syntax_of}
use Rattle.mm_formula.specs.declared.formula.Formula.{Formula}
use Rattle.mm_formula_text.specs.declared.fault.ReadFault.{ReadFault}
use Rattle.mm_formula_text.specs.declared.fault.ReadFault.TheVariants as fault

-- the formula itself, unless memory ran out
abbrev pub Answers : Result Formula ReadFault → Syntax → Type 0
Answers (Ok F) G = syntax_of F ≡ G
Answers (Err fault.Syntax) G = ⊥
Answers (Err fault.NoMemory) G = Unit {0}
