use Rattle.std.proofs.Common.{◌≡◌, [], map, subst}
use Rattle.mm_machine.specs.Blocks.{blocks_of, cuts_of}
use Rattle.mm_machine.specs.Empties.{emptied}
use Rattle.mm_machine.specs.Shapes.{sign}
use Rattle.mm_machine.proofs.MachineLemmas.{shape_stays, fresh_machine, fresh_lists, fresh_marked}
use Rattle.mm_machine.proofs.machine.MachineAutomaton.fresh.Goals as goal

pub invariant_of-result : goal.invariant_of-result
invariant_of-result c = record { valid = fresh_machine c.args.self.now.parts (record { ops = c.new.result; list = c.in_ok-list.list; last = 0 }) c.args.self.now.field c.args.self.now.valid (subst (λ z. map sign c.in_ok-list.list.items ≡ map sign z) c.as_slice.ensures.value c.in_ok-list.ensures.signs) c.new.ensures (subst (λ z. blocks_of [] c.in_ok-list.list.items ≡ map emptied (blocks_of [] z)) c.as_slice.ensures.value c.in_ok-list.ensures.blocks) (subst (λ z. cuts_of [] c.in_ok-list.list.items ≡ map emptied (blocks_of [] z)) c.as_slice.ensures.value c.in_ok-list.ensures.cuts) }

pub returns-clause-shape : goal.returns-clause-shape
returns-clause-shape c = shape_stays c.args.self.now.parts (record { ops = c.new.result; list = c.in_ok-list.list; last = 0 }) (subst (λ z. map sign c.in_ok-list.list.items ≡ map sign z) c.as_slice.ensures.value c.in_ok-list.ensures.signs)

pub returns-clause-lists : goal.returns-clause-lists
returns-clause-lists c = fresh_lists c.args.self.now.parts (record { ops = c.new.result; list = c.in_ok-list.list; last = 0 }) c.args.self.now.field c.args.self.now.valid (subst (λ z. map sign c.in_ok-list.list.items ≡ map sign z) c.as_slice.ensures.value c.in_ok-list.ensures.signs) c.new.ensures (subst (λ z. blocks_of [] c.in_ok-list.list.items ≡ map emptied (blocks_of [] z)) c.as_slice.ensures.value c.in_ok-list.ensures.blocks) (subst (λ z. cuts_of [] c.in_ok-list.list.items ≡ map emptied (blocks_of [] z)) c.as_slice.ensures.value c.in_ok-list.ensures.cuts)

pub returns-clause-marked : goal.returns-clause-marked
returns-clause-marked c = fresh_marked c.args.self.now.parts (record { ops = c.new.result; list = c.in_ok-list.list; last = 0 }) c.args.self.now.field c.args.self.now.valid (subst (λ z. map sign c.in_ok-list.list.items ≡ map sign z) c.as_slice.ensures.value c.in_ok-list.ensures.signs) c.new.ensures (subst (λ z. blocks_of [] c.in_ok-list.list.items ≡ map emptied (blocks_of [] z)) c.as_slice.ensures.value c.in_ok-list.ensures.blocks) (subst (λ z. cuts_of [] c.in_ok-list.list.items ≡ map emptied (blocks_of [] z)) c.as_slice.ensures.value c.in_ok-list.ensures.cuts)
