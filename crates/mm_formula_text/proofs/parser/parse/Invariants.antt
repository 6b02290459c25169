use Rattle.std.proofs.Common.{◌≡◌, length}
use Rattle.mm_formula_text.specs.Parser.{run, at, start}
use Rattle.mm_formula_text.specs.ParserValues.{frames_of, mode_of}
use Rattle.mm_formula_text.specs.Tokens.{tokens}
use Rattle.mm_formula_text.proofs.parser.parse.Given as goal

abbrev pub invariant-tokens : goal.invariant-tokens
invariant-tokens l = run (at (frames_of l.stack) (mode_of l.mode)) l.rest ≡ run start (tokens l.text)

abbrev pub decreases-tokens : goal.decreases-tokens
decreases-tokens l = length l.rest
