use Rattle.std.proofs.Common.{length, ap, arith}
use Rattle.mm_machine.specs.Parts.{lists, views}
use Rattle.mm_machine.proofs.NodeLemmas.{shapes_stay}
use Rattle.mm_machine.proofs.CallLemmas.{read_at, leaf_is, done_answers, done_before, done_machine}
use Rattle.mm_machine.proofs.machine.Machine.leaf_at.Goals as goal

pub leaf_at-requires : goal.leaf_at-requires
leaf_at-requires c = let m = c.args.self.now in read_at m.parts c.args.part m.field m.valid c.requires.part c.args.letter.now c.args.room c.requires.can

pub invariant_of-self : goal.invariant_of-self
invariant_of-self c =
    let m = c.args.self.now in
    record {
      valid = done_machine m.parts c.leaf_at.new.parts c.args.part _ c.args.room c.leaf_at.new.room c.leaf_at.result c.leaf_at.ensures.done m.field m.valid c.leaf_at.ensures.signs
          (omega (arith, ap length c.leaf_at.ensures.ops, m.valid.few)) c.leaf_at.ensures.cuts;
    }

pub returns-clause-others : goal.returns-clause-others
returns-clause-others c =
    let m = c.args.self.now in
    record {
      shape = shapes_stay m.parts.list.items c.leaf_at.new.parts.list.items c.leaf_at.ensures.signs;
      marked = ap (λ bs. lists (views bs)) c.leaf_at.ensures.cuts;
      before = done_before m.parts c.leaf_at.new.parts c.args.part _ c.args.room c.leaf_at.new.room c.leaf_at.result c.leaf_at.ensures.done m.field m.valid;
    }

pub returns-clause-answer : goal.returns-clause-answer
returns-clause-answer c =
    let m = c.args.self.now in
    done_answers m.parts c.leaf_at.new.parts c.args.part _ c.args.room c.leaf_at.new.room c.leaf_at.result c.leaf_at.ensures.done _ (leaf_is m.parts c.args.part c.args.letter.now)
