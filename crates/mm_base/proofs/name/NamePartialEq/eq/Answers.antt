use Rattle.std.proofs.Common.{ap₂, ◌∙◌}
use Rattle.std.specs.Str.{bytes_eq}
use Rattle.mm_base.proofs.NumberLemmas.{same_numbers, other_numbers}
use Rattle.mm_base.proofs.name.NamePartialEq.eq.Goals as goal

pub returns-then-from_le_bytes : goal.returns-then-from_le_bytes
returns-then-from_le_bytes c =
    same_numbers c.self.inside c.other.inside c.from_le_bytes.result c.from_le_bytes-2.result c.self.invariant c.other.invariant
    c.from_le_bytes.ensures c.from_le_bytes-2.ensures c.if-from_le_bytes.true ∙ ap₂ bytes_eq c.self.view_is c.other.view_is

pub returns-else-from_le_bytes : goal.returns-else-from_le_bytes
returns-else-from_le_bytes c =
    other_numbers c.self.inside c.other.inside c.from_le_bytes.result c.from_le_bytes-2.result c.self.invariant c.other.invariant
    c.from_le_bytes.ensures c.from_le_bytes-2.ensures c.if-from_le_bytes.false ∙ ap₂ bytes_eq c.self.view_is c.other.view_is
