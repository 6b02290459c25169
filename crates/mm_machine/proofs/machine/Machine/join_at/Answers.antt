use Rattle.std.proofs.Common.{length, take, ap, ◌∙◌, arith}
use Rattle.mm_machine.specs.Parts.{lists, views}
use Rattle.mm_machine.proofs.NodeLemmas.{shapes_stay}
use Rattle.mm_machine.proofs.MachineLemmas.{keeps_signs, keeps_lists, keeps_marked, keeps_machine}
use Rattle.mm_machine.proofs.CallLemmas.{join_can, join_answers, no_number, done_before, done_machine}
use Rattle.mm_machine.proofs.machine.Machine.join_at.Goals as goal

pub invariant_of-self : goal.invariant_of-self
invariant_of-self c = let m = c.args.self.now in record { valid = keeps_machine m.parts c.number_of.new.parts c.number_of.ensures.keeps m.field c.number_of.ensures.few m.valid }

pub returns-in_err-number-clause-others : goal.returns-in_err-number-clause-others
returns-in_err-number-clause-others c =
    let m = c.args.self.now in
    let k = c.number_of.ensures.keeps in
    record {
      shape = shapes_stay m.parts.list.items c.number_of.new.parts.list.items (keeps_signs m.parts c.number_of.new.parts k);
      marked = keeps_marked m.parts c.number_of.new.parts k;
      before = ap (take c.args.part) (keeps_lists m.parts c.number_of.new.parts k);
    }

pub returns-in_err-number-clause-answer : goal.returns-in_err-number-clause-answer
returns-in_err-number-clause-answer c =
    let m = c.args.self.now in
    no_number m.parts c.number_of.new.parts c.number_of.ensures.keeps c.args.part m.field _ c.args.room c.from_residual.result m.valid c.requires.part c.from_residual.ensures

pub join_at-requires-clause-can : goal.join_at-requires-clause-can
join_at-requires-clause-can c =
    let m = c.args.self.now in
    join_can m.parts c.number_of.new.parts c.number_of.ensures.keeps c.args.part m.field c.args.op.now c.args.left c.args.right c.args.room c.number_of.ensures.few m.valid c.requires.part c.requires.can

pub invariant_of-self-2 : goal.invariant_of-self-2
invariant_of-self-2 c =
    let m = c.args.self.now in
    let mid = keeps_machine m.parts c.number_of.new.parts c.number_of.ensures.keeps m.field c.number_of.ensures.few m.valid in
    record {
      valid = done_machine c.number_of.new.parts c.join_at.new.parts c.args.part _ c.args.room c.join_at.new.room c.join_at.result c.join_at.ensures.done m.field mid c.join_at.ensures.signs
          (omega (arith, ap length c.join_at.ensures.ops, c.number_of.ensures.few)) c.join_at.ensures.cuts;
    }

pub returns-clause-others : goal.returns-clause-others
returns-clause-others c =
    let m = c.args.self.now in
    let k = c.number_of.ensures.keeps in
    let mid = keeps_machine m.parts c.number_of.new.parts k m.field c.number_of.ensures.few m.valid in
    record {
      shape = shapes_stay m.parts.list.items c.join_at.new.parts.list.items (c.join_at.ensures.signs ∙ keeps_signs m.parts c.number_of.new.parts k);
      marked = ap (λ bs. lists (views bs)) c.join_at.ensures.cuts ∙ keeps_marked m.parts c.number_of.new.parts k;
      before = done_before c.number_of.new.parts c.join_at.new.parts c.args.part _ c.args.room c.join_at.new.room c.join_at.result c.join_at.ensures.done m.field mid
          ∙ ap (take c.args.part) (keeps_lists m.parts c.number_of.new.parts k);
    }

pub returns-clause-answer : goal.returns-clause-answer
returns-clause-answer c =
    join_answers c.args.self.now.parts c.number_of.new.parts c.number_of.ensures.keeps c.args.part c.join_at.new.parts c.args.op.now c.args.left c.args.right c.args.room c.join_at.new.room c.join_at.result c.join_at.ensures.done
