use Rattle.mm_states.specs.Letters.{leaf_type}
use Rattle.mm_base_auto.proofs.AtomLemmas.{flag_answers, flag_room}
use Rattle.mm_base_auto.proofs.flag_auto.FlagAutoAutomaton.leaf.Goals as goal

pub put-requires : goal.put-requires
put-requires g c =
    let a = c.args.self.now in
    flag_room (g.R.FlagRule.shape a.rule) (g.met.R.FlagRule.atomic a.rule) a.flags.flags.items c.args.room c.requires.roomy

pub returns-clause-answer : goal.returns-clause-answer
returns-clause-answer g c =
    let a = c.args.self.now in
    let F = g.R.FlagRule.shape a.rule in
    flag_answers F (g.met.R.FlagRule.atomic a.rule) (leaf_type F c.args.letter.now) c.at_leaf-flag.result a.flags.flags.items c.put.new.self.flags.items c.args.room c.put.result c.at_leaf-flag.ensures c.put.ensures.answer
