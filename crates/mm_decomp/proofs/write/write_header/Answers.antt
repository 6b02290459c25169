use Rattle.std.proofs.Common.{◌∙◌}
use Rattle.mm_decomp.proofs.HeaderTextLemmas.{header_made}
use Rattle.mm_decomp.proofs.write.write_header.Goals as goal

pub returns : goal.returns
returns c =
    header_made c.args.names.now c.args.rows.now c.args.tree.now.tree _ _ _ _ _ _ _ _ _ _ c.new-text.ensures c.field.ensures c.node.ensures.tree
    (c.bytes.ensures ∙ c.in_ok-write_tree.ensures) c.in_ok-append_field.ensures c.in_ok-append_names.ensures c.in_ok-append_rows.ensures
    c.in_ok-append_operators.ensures c.in_ok-append.ensures.ok c.in_ok-append-2.ensures.ok
