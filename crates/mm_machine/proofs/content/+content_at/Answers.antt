use Rattle.std.proofs.Common.{arith}
use Rattle.mm_machine.specs.Blocks.{blocks}
use Rattle.mm_machine.proofs.JoinCallLemmas.{within_parts}
use Rattle.mm_machine.proofs.LookLemmas.{not_look, not_number}
use Rattle.mm_machine.proofs.ContentLemmas.{pair_content, set_content, one_content, atom_content, not_content, over_behind}
use Rattle.mm_machine.proofs.content.+content_at.Goals as goal

pub content_at-requires : goal.content_at-requires
content_at-requires t c =
    let p = c.args.parts.now in (
      omega (arith, c.decreases, within_parts p.ops p.list.items c.args.at c.requires.look.some),
      (not_look (blocks p) c.args.at c.in-Not.ensures c.requires.look, not_number (blocks p) c.args.at c.args.id c.in-Not.ensures c.requires.id),
    )

pub returns-in-Atom : goal.returns-in-Atom
returns-in-Atom t c F f o = let p = c.args.parts.now in atom_content p.ops p.list.items c.args.at F f c.args.id c.atom_value_at.result c.in-Atom.ensures o c.atom_value_at.ensures

pub returns-in-Not : goal.returns-in-Not
returns-in-Not t c F f o =
    let p = c.args.parts.now in
    not_content p.ops p.list.items c.args.at f c.args.id c.content_at.result c.in-Not.ensures (c.content_at.ensures F f (over_behind p.ops p.list.items c.args.at F f o))

pub returns-in-Pair : goal.returns-in-Pair
returns-in-Pair t c F f o =
    let p = c.args.parts.now in
    pair_content p.ops p.list.items c.args.at f c.in-Pair.field-0 c.args.id c.pair_at-first.result c.in-Pair.ensures c.requires.look.sound c.pair_at-first.ensures

pub returns-in-Set : goal.returns-in-Set
returns-in-Set t c F f o =
    let p = c.args.parts.now in
    set_content p.ops p.list.items c.args.at f c.args.id c.set_members_at.result c.in-Set.ensures c.requires.look.sound c.set_members_at.ensures

pub returns-in-One : goal.returns-in-One
returns-in-One t c F f o =
    let p = c.args.parts.now in
    let r = c.one_parts_at-unassigned.result in
    one_content p.ops p.list.items c.args.at f c.args.id r.0 r.1 c.in-One.ensures c.requires.look.sound c.one_parts_at-unassigned.ensures
