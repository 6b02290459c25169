use Rattle.std.proofs.Common.{sym, ◌∙◌}
use Rattle.mm_machine.specs.Shown.{shown_in}
use Rattle.mm_machine.proofs.BlockLemmas.{node_at}
use Rattle.mm_machine.proofs.JoinCallLemmas.{within_parts}
use Rattle.mm_machine.proofs.LookLemmas.{atom_kind_at, atom_number_back, node_shown, shown_head}
use Rattle.mm_machine.proofs.content.atom_value_at.Goals as goal

pub atom_value-requires-clause-kind : goal.atom_value-requires-clause-kind
atom_value-requires-clause-kind c = atom_kind_at c.args.parts.now.ops c.args.parts.now.list.items c.args.at c.index.result.now c.requires.look c.requires.kind c.index.ensures

pub atom_value-requires-clause-id : goal.atom_value-requires-clause-id
atom_value-requires-clause-id c = atom_number_back c.args.parts.now.ops c.args.parts.now.list.items c.args.at c.index.result.now c.args.id c.requires.look c.requires.kind c.index.ensures c.requires.id

pub returns : goal.returns
returns c =
    let p = c.args.parts.now in
    c.atom_value.ensures ∙ sym (node_at (λ bs. shown_in bs c.args.id) (shown_head c.args.id) (node_shown c.args.id) p.ops p.list.items c.args.at c.index.result.now (within_parts p.ops p.list.items c.args.at c.requires.look.some) c.index.ensures)
