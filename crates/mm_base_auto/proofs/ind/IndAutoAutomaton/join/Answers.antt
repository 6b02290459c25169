use Rattle.std.proofs.Common.{[], ◌∷◌, ◌∙◌, refl, sym, subst}
use Rattle.mm_logic.specs.BoundarySpaces.{ind_join}
use Rattle.mm_logic.specs.Formula.Formula.{Ind}
use Rattle.mm_logic.specs.PossibleValues.{IsSpaceOf}
use Rattle.mm_states.specs.Calls.{Answers}
use Rattle.mm_base_auto.specs.Terms.{term_of}
use Rattle.mm_base_auto.specs.Spaces.{ind_values, IsSpaceOver}
use Rattle.mm_base_auto.proofs.SpaceTableLemmas.{space_room, space_type, can_join}
use Rattle.mm_base_auto.proofs.ind.IndAutoAutomaton.join.Goals as goal

pub joined_in-requires-clause-left : goal.joined_in-requires-clause-left
joined_in-requires-clause-left c =
    let a = c.args.self.now in
    let vs = a.values.table in
    let at = c.get.ensures in
    let v = c.get.result.now in
    can_join a.field c.args.op.now.f c.args.op.now.op.t1 vs c.args.left v (c.requires.field refl) a.over at
    (subst (IsSpaceOf c.args.op.now.f c.args.op.now.op.t1) (sym (space_type vs c.args.left v c.requires.left_operand.within at)) c.requires.left_operand.value)

pub joined_in-requires-clause-right : goal.joined_in-requires-clause-right
joined_in-requires-clause-right c =
    let a = c.args.self.now in
    let vs = a.values.table in
    let at = c.get-2.ensures in
    let v = c.get-2.result.now in
    can_join a.field c.args.op.now.f c.args.op.now.op.t2 vs c.args.right v (c.requires.field refl) a.over at
    (subst (IsSpaceOf c.args.op.now.f c.args.op.now.op.t2) (sym (space_type vs c.args.right v c.requires.right_operand.within at)) c.requires.right_operand.value)

pub put-requires-clause-room : goal.put-requires-clause-room
put-requires-clause-room c =
    let a = c.args.self.now in
    space_room (Ind (term_of a.whole a.slots.items)) tt a.values.table c.args.room c.requires.roomy

pub put-requires-clause-over : goal.put-requires-clause-over
put-requires-clause-over c = subst (λ f. IsSpaceOver f c.in_ok-value.value) (sym (c.requires.field refl)) c.in_ok-value.ensures.over

pub returns-clause-answer : goal.returns-clause-answer
returns-clause-answer c =
    let a = c.args.self.now in
    let vs = a.values.table in
    let F = Ind (term_of a.whole a.slots.items) in
    let left = space_type vs c.args.left c.get.result.now c.requires.left_operand.within c.get.ensures in
    let right = space_type vs c.args.right c.get-2.result.now c.requires.right_operand.within c.get-2.ensures in
    subst (λ v. Answers F v (ind_values vs ∷ []) (ind_values c.put.new.self.values.table ∷ []) c.args.room c.put.result)
    (c.in_ok-value.ensures.value ∙ (λ i. ind_join c.args.op.now.f c.args.op.now.op (left i) (right i)))
    c.put.ensures.answer
