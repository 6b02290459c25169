use Rattle.std.proofs.Common.{◌∙◌, ap}
use Rattle.mm_logic.specs.Acceptance.{accepts}
use Rattle.mm_base_auto.proofs.AtomLemmas.{flag_within, flag_type}
use Rattle.mm_base_auto.proofs.flag_auto.FlagAutoAutomaton.accepts.Goals as goal

pub get-requires : goal.get-requires
get-requires g c =
    let a = c.args.self.now in
    flag_within (g.R.FlagRule.shape a.rule) (g.met.R.FlagRule.atomic a.rule) a.flags.flags.items c.args.id c.requires

pub returns : goal.returns
returns g c =
    let a = c.args.self.now in
    let F = g.R.FlagRule.shape a.rule in
    c.accepts.ensures ∙ ap (accepts F) (flag_type F (g.met.R.FlagRule.atomic a.rule) a.flags.flags.items c.args.id c.get.result c.requires c.get.ensures)
