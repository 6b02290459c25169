use Rattle.std.proofs.Common.{ap, ◌∙◌, sym}
use Rattle.std.specs.List.{position}
use Rattle.std.specs.Str.{bytes_eq}
use Rattle.mm_base.proofs.NameLemmas.{name_eq}
use Rattle.mm_tree.proofs.ReplaceLemmas.{only_place}
use Rattle.mm_tree.proofs.replace.place_in.Goals as goal

pub returns-then-eq : goal.returns-then-eq
returns-then-eq c =
    only_place (bytes_eq c.args.name.now) c.as_slice.result.now c.args.names.now.keys c.only-item.result _ c.in-len1.len_at_least c.in-len1.len_below
    c.only-item.is c.as_slice.ensures.keys (sym (name_eq c.args.name.now c.only-item.result) ∙ sym c.eq.ensures ∙ c.if-eq.true)

pub returns-else-eq : goal.returns-else-eq
returns-else-eq c =
    only_place (bytes_eq c.args.name.now) c.as_slice.result.now c.args.names.now.keys c.only-item.result _ c.in-len1.len_at_least c.in-len1.len_below
    c.only-item.is c.as_slice.ensures.keys (sym (name_eq c.args.name.now c.only-item.result) ∙ sym c.eq.ensures ∙ c.if-eq.false)

pub returns : goal.returns
returns c = c.get_index_of.ensures.index ∙ ap (λ p. position p c.args.names.now.keys) (λ i x. name_eq c.args.name.now x i)
