use Rattle.std.proofs.Common.{◌≡◌, length}
use Rattle.mm_formula.specs.Syntax.{syntax_of}
use Rattle.mm_formula_text.specs.Parser.{close}
use Rattle.mm_formula_text.specs.ParserValues.{frames_of}
use Rattle.mm_formula_text.proofs.parser.close.Given as goal

abbrev pub invariant-frames : goal.invariant-frames
invariant-frames l = close l.least (frames_of l.stack) (syntax_of l.formula) ≡ close l.least (frames_of l.initial.stack) (syntax_of l.initial.formula)

abbrev pub decreases-frames : goal.decreases-frames
decreases-frames l = length (frames_of l.stack)
