use Rattle.std.proofs.Common.{◌≡◌, sym, ◌∙◌, Some, None}
use Rattle.mm_formula.specs.Variables.{var_of}
use Rattle.mm_minor.specs.MinorFormula.{element}
use Rattle.mm_minor.proofs.NameLemmas.{element_is_read}
use Rattle.mm_minor.proofs.names.element.Goals as goal

pub unreachable-requires : goal.unreachable-requires
unreachable-requires c =
    let read : c.read.result ≡ var_of (element c.args.i) = c.read.ensures in
    let e : Some (element c.args.i) ≡ None = sym (element_is_read c.args.i c.requires) ∙ sym read ∙ c.in-None.is in
    cc
