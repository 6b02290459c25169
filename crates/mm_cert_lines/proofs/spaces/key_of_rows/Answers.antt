use Rattle.std.proofs.Common.{sym, ◌∙◌, arith}
use Rattle.mm_cert_lines.proofs.BasisLemmas.{vectors_are, key_is, no_key}
use Rattle.mm_cert_lines.proofs.spaces.key_of_rows.Goals as goal

pub span-key-requires-clause-rows : goal.span-key-requires-clause-rows
span-key-requires-clause-rows c =
    vectors_are c.args.f c.args.t c.args.rows.now (sym c.are_of.ensures ∙ c.if-not-are_of.false) c.requires

pub returns-then-are_same_rows : goal.returns-then-are_same_rows
returns-then-are_same_rows c =
    key_is c.args.f c.args.t c.args.rows.now c.span-key.result (omega (arith, c.if-t-gt6.false)) (sym c.are_of.ensures ∙ c.if-not-are_of.false)
    c.span-key.ensures.rows c.basis.result c.basis.ensures c.span-key.ensures.field c.span-key.ensures.length (sym c.if-are_same_rows.true ∙ c.are_same_rows.ensures)

pub returns : goal.returns
returns c =
    no_key c.args.f c.args.t c.args.rows.now c.span-key.result (omega (arith, c.if-t-gt6.false)) (sym c.are_of.ensures ∙ c.if-not-are_of.false)
    c.span-key.ensures.rows c.basis.result c.basis.ensures (sym c.if-are_same_rows.false ∙ c.are_same_rows.ensures)
