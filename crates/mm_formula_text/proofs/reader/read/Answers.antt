use Rattle.std.proofs.Common.{◌∙◌, sym}
use Rattle.mm_formula_text.proofs.TextLemmas.{Right, right}
use Rattle.mm_formula_text.proofs.reader.read.Goals as goal
use Rattle.mm_formula_text.proofs.reader.read.Goals.{After-parse}

-- what `parse` answers to a text that no blank begins or ends
answered : (c : After-parse) → Right c.args.bytes.now c.parse.result
answered c =
    right c.args.bytes.now c.parse.result (sym c.begins_in_blank.ensures ∙ c.if-begins_in_blank.false)
    (sym c.ends_in_blank.ensures ∙ c.if-ends_in_blank.false) c.parse.ensures

pub returns-clause-derived : goal.returns-clause-derived
returns-clause-derived c = (answered c).derived

pub returns-clause-only : goal.returns-clause-only
returns-clause-only c = (answered c).only

pub returns-clause-sorted : goal.returns-clause-sorted
returns-clause-sorted c = (answered c).sorted
