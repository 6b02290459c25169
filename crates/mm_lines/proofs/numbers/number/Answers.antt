use Rattle.std.proofs.Common.{◌∙◌, sym}
use Rattle.mm_lines.proofs.DecimalLemmas.{digits_bound}
use Rattle.mm_lines.proofs.numbers.number.Goals as goal

pub returns-then-is_number-clause-bound : goal.returns-then-is_number-clause-bound
returns-then-is_number-clause-bound c = digits_bound c.args.most c.args.bytes.now c.value.result (sym c.is_number.ensures ∙ c.if-is_number.true) c.value.ensures.bound
