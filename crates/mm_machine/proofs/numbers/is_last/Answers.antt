use Rattle.std.proofs.Common.{sym, ◌∙◌}
use Rattle.mm_machine.proofs.OperatorLemmas.{known_number}
use Rattle.mm_machine.proofs.numbers.is_last.Goals as goal

pub returns : goal.returns
returns c h = known_number c.args.parts.now.ops c.args.op.now c.get.result.now c.args.parts.now.last c.get.ensures (sym c.eq.ensures ∙ h)
