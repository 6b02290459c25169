-- What the parts of a term that is read keep beside it.
use Rattle.std.specs.Prelude.{◌≡◌}
use Rattle.mm_formula_text.specs.declared.term.Parts.TheInside.{Inside}

-- the variables that were seen are those of the term, in their order
abbrev pub IsSeen : Inside → Type 0
IsSeen p = p.seen.keys ≡ p.term.vars
