use Rattle.std.proofs.Common.{◌∙◌, sym, length}
use Rattle.std.proofs.lemmas.Bool.{eqb-true, eqb-false}
use Rattle.mm_formula_text.proofs.TokenLemmas.{ends, goes_on, from}
use Rattle.mm_formula_text.proofs.token.Tokens.next.Goals as goal

pub returns-then-is_empty : goal.returns-then-is_empty
returns-then-is_empty c =
    let rest = c.self.inside.rest.now in let k = c.blanks_in_front.result in
    ends c.args.self.now rest k c.self.view_is c.blanks_in_front.ensures
    (eqb-true (length (from k rest)) 0 (sym c.is_empty.ensures ∙ c.if-is_empty.true))

pub returns : goal.returns
returns c =
    let rest = c.self.inside.rest.now in let k = c.blanks_in_front.result in
    goes_on c.args.self.now rest k c.first_len-size.result c.token_of-token.result c.self.view_is c.blanks_in_front.ensures
    (eqb-false (length (from k rest)) 0 (sym c.is_empty.ensures ∙ c.if-is_empty.false)) c.first_len-size.ensures c.token_of-token.ensures
