use Rattle.mm_base_auto.proofs.AtomLemmas.{flag_joined, flag_room, flag_within}
use Rattle.mm_base_auto.proofs.flag_auto.FlagAutoAutomaton.join.Goals as goal

pub get-requires : goal.get-requires
get-requires g c =
    let a = c.args.self.now in
    flag_within (g.R.FlagRule.shape a.rule) (g.met.R.FlagRule.atomic a.rule) a.flags.flags.items c.args.left c.requires.left_operand.within

pub get-requires-2 : goal.get-requires-2
get-requires-2 g c =
    let a = c.args.self.now in
    flag_within (g.R.FlagRule.shape a.rule) (g.met.R.FlagRule.atomic a.rule) a.flags.flags.items c.args.right c.requires.right_operand.within

pub put-requires : goal.put-requires
put-requires g c =
    let a = c.args.self.now in
    flag_room (g.R.FlagRule.shape a.rule) (g.met.R.FlagRule.atomic a.rule) a.flags.flags.items c.args.room c.requires.roomy

pub returns-clause-answer : goal.returns-clause-answer
returns-clause-answer g c =
    let a = c.args.self.now in
    flag_joined (g.R.FlagRule.shape a.rule) (g.met.R.FlagRule.atomic a.rule) c.args._op.now c.args.left c.args.right c.get.result c.get-2.result c.at_join-flag.result a.flags.flags.items
    c.put.new.self.flags.items c.args.room c.put.result c.requires.left_operand.within c.requires.right_operand.within c.get.ensures c.get-2.ensures (c.at_join-flag.ensures c.args._op.now) c.put.ensures.answer
