use Rattle.std.proofs.Common.{ap}
use Rattle.mm_formula.specs.Syntax.{syntax_of}
use Rattle.mm_job_text.specs.Checks.{found}
use Rattle.mm_job_text.specs.declared.refusal.Refusal.TheVariants as refusal
use Rattle.mm_header.proofs.FormulaLemmas.{derived_formula, no_formula_read}
use Rattle.mm_header.proofs.query.read_formula.Goals as goal

pub returns-in-Ok-clause-read : goal.returns-in-Ok-clause-read
returns-in-Ok-clause-read c =
    ap (λ o. found o refusal.Formula) (derived_formula (syntax_of c.in-Ok.formula) c.args.text.now c.in-Ok.ensures.derived)

pub returns-in-Err-Syntax-clause-read : goal.returns-in-Err-Syntax-clause-read
returns-in-Err-Syntax-clause-read c =
    ap (λ o. found o refusal.Formula) (no_formula_read c.args.text.now c.in-Err-Syntax.field-0 c.in-Err-Syntax.field-0-is c.in-Err-Syntax.ensures.only)
