use Rattle.std.proofs.Common.{◌≡◌, true, sym, ◌∙◌, length}
use Rattle.std.proofs.lemmas.Bool.{leb-true, and_parts}
use Rattle.mm_formula.specs.Variables.{is_var, is_word, is_reserved}
use Rattle.std.specs.Prelude.{nat_le, not, ◌&&◌}
use Rattle.mm_formula.proofs.PaddedLemmas.{padded}
use Rattle.mm_formula.proofs.var.Var.read.Goals as goal

pub invariant_of-result : goal.invariant_of-result
invariant_of-result c =
    let bs = c.args.bytes.now in
    let h : is_var bs ≡ true = sym c.is_var.ensures ∙ c.if-not-is_var.false in
    let parts = and_parts (nat_le (length bs) 16) (is_word bs) (and_parts (nat_le (length bs) 16 && is_word bs) (not (is_reserved bs)) h).0 in
    padded bs c.copy_from_slice.new.self c.copy_from_slice.ensures.after h (leb-true (length bs) 16 parts.0)
