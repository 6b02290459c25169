use Rattle.std.proofs.Common.{◌∙◌}
use Rattle.indexmap.proofs.CallerLemmas.{insert_entry-new}
use Rattle.mm_cert_lines.specs.contracts.certificate.GlueKeyPartialEq.TheImpl.{eq-value}
use Rattle.mm_checker.proofs.ClaimLemmas.{glue_lookup}
use Rattle.mm_checker.proofs.claims.Claims.add_glue.Goals as goal

pub returns-clause-glues : goal.returns-clause-glues
returns-clause-glues c =
    c.in_ok-insert.ensures.entries
    ∙ insert_entry-new (eq-value).it c.args.self.now.glues c.args.key c.args.value (glue_lookup c.args.key c.args.self.now.glues.entries ∙ c.requires)
