use Rattle.std.proofs.Common.{◌∙◌}
use Rattle.indexmap.proofs.CallerLemmas.{insert_entry-new}
use Rattle.mm_cert_lines.specs.contracts.certificate.LeafKeyPartialEq.TheImpl.{eq-value}
use Rattle.mm_checker.proofs.ClaimLemmas.{leaf_lookup}
use Rattle.mm_checker.proofs.claims.Claims.add_leaf.Goals as goal

pub returns-clause-leaves : goal.returns-clause-leaves
returns-clause-leaves c =
    c.in_ok-insert.ensures.entries
    ∙ insert_entry-new (eq-value).it c.args.self.now.leaves c.args.key c.args.value (leaf_lookup c.args.key c.args.self.now.leaves.entries ∙ c.requires)
