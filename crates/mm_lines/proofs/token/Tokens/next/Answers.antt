use Rattle.std.proofs.Common.{◌≡◌, ◌+◌, ◌<◌, List, ℕ, ◌∷◌, length, take, ap, ◌∙◌, sym, arith}
use Rattle.std.proofs.lemmas.Bool.Decides.{nat_tests}
use Rattle.std.proofs.lemmas.List.{take_rest}
use Rattle.mm_lines.specs.Tokens.{tokens}
use Rattle.mm_lines.proofs.TokenLemmas.{token_first, tokens_empty}
use Rattle.mm_lines.proofs.token.Tokens.next.Goals as goal

pub returns-then-is_empty : goal.returns-then-is_empty
returns-then-is_empty c =
    let line = c.skip_blanks-line.result.now in
    let same : c.args.self.now ≡ tokens line = sym c.self.view_is ∙ sym c.skip_blanks-line.ensures.tokens in
    let none : length line ≡ 0 = grind (arith, nat_tests) in
    (same ∙ tokens_empty line none, tokens_empty line none)

pub returns-in-Some : goal.returns-in-Some
returns-in-Some c =
    let line = c.skip_blanks-line.result.now in
    let at = c.in-Some.at in
    let same : c.args.self.now ≡ tokens line = sym c.self.view_is ∙ sym c.skip_blanks-line.ensures.tokens in
    let some : 0 < length line = grind (arith, nat_tests) in
    same ∙ token_first line at (c.skip_blanks-line.ensures.start some) (sym c.in-Some.ensures) ∙ ap (λ (r : List ℕ). take at line ∷ tokens r) (sym (take_rest line (at + 1)))
