use Rattle.std.proofs.Common.{◌≡◌, ◌++◌, ◌∙◌, ap, subst, sym, List, ℕ}
use Rattle.mm_formula.specs.Syntax.{syntax_of}
use Rattle.mm_formula_text.specs.Grammar.{IsTextOf}
use Rattle.mm_formula_text.specs.Canonical.{canonical}
use Rattle.mm_formula_text.proofs.CanonicalLemmas.{canonical_derives}
use Rattle.mm_formula_text.proofs.printer.print.Goals as goal

pub returns-clause-derived : goal.returns-clause-derived
returns-clause-derived c =
    let F = syntax_of c.args.formula.now in
    let written = c.in_ok-write_formula.ensures in
    let T : List ℕ → Type 0 = IsTextOf F in
    let same : c.write_formula.new.out ≡ canonical F = written.text ∙ ap (λ (z : List ℕ). z ++ canonical F) c.new-text.ensures in
    subst T (sym same) (canonical_derives F written.proper c.requires)
