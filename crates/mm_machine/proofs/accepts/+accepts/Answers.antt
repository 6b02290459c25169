use Rattle.std.proofs.Common.{◌<◌, ◌+◌, drop, not, sym, length, ap, ◌∙◌, rules, arith}
use Rattle.std.proofs.lemmas.List.{length-map}
use Rattle.mm_machine.specs.Blocks.{block_of, blocks}
use Rattle.mm_machine.proofs.JoinCallLemmas.{within_parts}
use Rattle.mm_machine.proofs.LookLemmas.{not_look, not_number, pair_look, pair_look_second, pair_within, pair_numbers, set_look, set_numbers, one_look, one_numbers}
use Rattle.mm_machine.proofs.AcceptLemmas.{not_accepts_by, pair_accepts_by, set_accepts_by, one_accepts_by, not_head_at, atom_head_at}
use Rattle.mm_machine.specs.Parts.{type_in, views}
use Rattle.mm_logic.specs.Acceptance.{accepts}
use Rattle.mm_machine.specs.Shapes.{head_shape, shapes}
use Rattle.mm_logic.specs.Formula.{connect}
use Rattle.mm_formula.specs.Scope.{connective}
use Rattle.mm_machine.proofs.accepts.+accepts.Goals as goal

pub accepts_at-accepts_at-requires : goal.accepts_at-accepts_at-requires
accepts_at-accepts_at-requires t c = (omega (arith, c.decreases, within_parts c.args.parts.now.ops c.args.parts.now.list.items c.args.at c.requires.look.some), (not_look (blocks c.args.parts.now) c.args.at c.in-Not.ensures c.requires.look, not_number (blocks c.args.parts.now) c.args.at c.args.id c.in-Not.ensures c.requires.id))

pub accepts_at-accepts_at-left-requires : goal.accepts_at-accepts_at-left-requires
accepts_at-accepts_at-left-requires t c = (omega (arith, c.decreases, within_parts c.args.parts.now.ops c.args.parts.now.list.items c.args.at c.requires.look.some), (pair_look (blocks c.args.parts.now) c.args.at c.in-Pair.skip c.in-Pair.ensures c.requires.look, (pair_numbers (blocks c.args.parts.now) c.args.at c.in-Pair.skip c.args.id c.pair_at-first.result c.in-Pair.ensures c.requires.look c.pair_at-first.ensures).0))

pub accepts_at-overflow_add-at-in-Pair-3 : goal.accepts_at-overflow_add-at-in-Pair-3
accepts_at-overflow_add-at-in-Pair-3 t c = let h : c.args.at + 1 + c.in-Pair.skip < length c.args.parts.now.list.items = omega (arith, pair_within (blocks c.args.parts.now) c.args.at c.in-Pair.skip c.in-Pair.ensures c.requires.look, length-map c.args.parts.now.list.items (block_of c.args.parts.now.ops)) in search rules

pub accepts_at-accepts_at-right-requires : goal.accepts_at-accepts_at-right-requires
accepts_at-accepts_at-right-requires t c = (omega (arith, c.decreases, within_parts c.args.parts.now.ops c.args.parts.now.list.items c.args.at c.requires.look.some), (pair_look_second (blocks c.args.parts.now) c.args.at c.in-Pair.skip c.in-Pair.ensures c.requires.look, (pair_numbers (blocks c.args.parts.now) c.args.at c.in-Pair.skip c.args.id c.pair_at-first.result c.in-Pair.ensures c.requires.look c.pair_at-first.ensures).1))

pub accepts_at-accepts_members-requires : goal.accepts_at-accepts_members-requires
accepts_at-accepts_members-requires t c = (omega (arith, c.decreases, within_parts c.args.parts.now.ops c.args.parts.now.list.items c.args.at c.requires.look.some), (set_look (blocks c.args.parts.now) c.args.at c.in-Set.ensures c.requires.look, set_numbers (blocks c.args.parts.now) c.args.at c.args.id c.set_members_at.result.now c.in-Set.ensures c.requires.look c.set_members_at.ensures))

pub accepts_at-accepts_members-requires-in-One : goal.accepts_at-accepts_members-requires-in-One
accepts_at-accepts_members-requires-in-One t c = (omega (arith, c.decreases, within_parts c.args.parts.now.ops c.args.parts.now.list.items c.args.at c.requires.look.some), (one_look (blocks c.args.parts.now) c.args.at c.in-One.ensures c.requires.look, one_numbers (blocks c.args.parts.now) c.args.at c.args.id (c.one_parts_at.result.0, c.one_parts_at.result.1.now) c.in-One.ensures c.requires.look c.one_parts_at.ensures))

pub accepts_at-returns-in-Not : goal.accepts_at-returns-in-Not
accepts_at-returns-in-Not t c = ap not c.accepts_at.ensures ∙ not_accepts_by (blocks c.args.parts.now) c.args.at c.args.id (head_shape (drop c.args.at (shapes c.args.parts.now.list.items))) (head_shape (drop (c.args.at + 1) (shapes c.args.parts.now.list.items))) c.in-Not.ensures (not_head_at c.args.parts.now.ops c.args.parts.now.list.items c.args.at (within_parts c.args.parts.now.ops c.args.parts.now.list.items c.args.at c.requires.look.some) c.in-Not.ensures)

pub accepts_at-returns-in-Atom : goal.accepts_at-returns-in-Atom
accepts_at-returns-in-Atom t c = c.atom_accepts_at.ensures ∙ sym (ap (λ F. accepts F (type_in (views (drop c.args.at (blocks c.args.parts.now))) c.args.id)) (atom_head_at c.args.parts.now.ops c.args.parts.now.list.items c.args.at (within_parts c.args.parts.now.ops c.args.parts.now.list.items c.args.at c.requires.look.some) c.in-Atom.ensures))

pub accepts_at-returns-in-Pair : goal.accepts_at-returns-in-Pair
accepts_at-returns-in-Pair t c =
    c.connected.ensures ∙ (λ i. connect (connective c.connective_at.result) (c.accepts_at-left.ensures i) (c.accepts_at-right.ensures i))
    ∙ pair_accepts_by (blocks c.args.parts.now) c.args.at c.in-Pair.skip c.args.id c.pair_at-first.result (connective c.connective_at.result) (head_shape (drop c.args.at (shapes c.args.parts.now.list.items))) (head_shape (drop (c.args.at + 1) (shapes c.args.parts.now.list.items))) (head_shape (drop (c.args.at + 1 + c.in-Pair.skip) (shapes c.args.parts.now.list.items))) c.in-Pair.ensures c.pair_at-first.ensures (c.connective_at.ensures c.in-Pair.skip c.in-Pair.ensures)

pub accepts_at-returns-in-Set : goal.accepts_at-returns-in-Set
accepts_at-returns-in-Set t c =
    let k = c.quantifier_at-quantifier.ensures.sets c.in-Set.ensures in
    c.accepts_members.ensures ∙ set_accepts_by (blocks c.args.parts.now) c.args.at c.args.id c.set_members_at.result.now c.quantifier_at-quantifier.result k.0 (head_shape (drop c.args.at (shapes c.args.parts.now.list.items))) (head_shape (drop (c.args.at + 1) (shapes c.args.parts.now.list.items))) c.in-Set.ensures c.set_members_at.ensures k.1

pub accepts_at-returns-in-One : goal.accepts_at-returns-in-One
accepts_at-returns-in-One t c =
    let k = c.quantifier_at-quantifier-in-One.ensures.elements c.in-One.ensures in
    c.accepts_members-in-One.ensures ∙ one_accepts_by (blocks c.args.parts.now) c.args.at c.args.id (c.one_parts_at.result.0, c.one_parts_at.result.1.now) c.quantifier_at-quantifier-in-One.result k.0 (head_shape (drop c.args.at (shapes c.args.parts.now.list.items))) (head_shape (drop (c.args.at + 1) (shapes c.args.parts.now.list.items))) c.in-One.ensures c.one_parts_at.ensures k.1
