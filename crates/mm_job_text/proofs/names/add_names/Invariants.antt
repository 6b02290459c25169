use Rattle.std.proofs.Common.{◌≡◌, true, length}
use Rattle.std.specs.List.{list_all}
use Rattle.mm_base.specs.Names.{is_name}
use Rattle.mm_job_text.specs.HeaderLines.{with_names}
use Rattle.mm_job_text.proofs.names.add_names.Given as goal

abbrev pub invariant-tokens : goal.invariant-tokens
invariant-tokens l = record {
  formed : list_all is_name l.tokens ≡ true;
  same : with_names l.most l.number l.names l.tokens ≡ with_names l.initial.most l.initial.number l.initial.names l.initial.tokens;
}

abbrev pub decreases-tokens : goal.decreases-tokens
decreases-tokens l = length l.tokens
