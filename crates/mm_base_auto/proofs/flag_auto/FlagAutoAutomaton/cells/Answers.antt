use Rattle.std.proofs.Common.{◌∙◌, sym}
use Rattle.mm_base_auto.proofs.AtomLemmas.{flag_cells}
use Rattle.mm_base_auto.proofs.flag_auto.FlagAutoAutomaton.cells.Goals as goal

pub returns : goal.returns
returns g c =
    let a = c.args.self.now in
    c.cells.ensures ∙ sym (flag_cells (g.R.FlagRule.shape a.rule) (g.met.R.FlagRule.atomic a.rule) a.flags.flags.items)
