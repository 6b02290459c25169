use Rattle.std.proofs.Common.{◌≡◌, length}
use Rattle.std.specs.List.{list_all}
use Rattle.mm_base.specs.Names.{is_name}
use Rattle.mm_job_text.proofs.names.are_names.Given as goal

abbrev pub invariant-tokens : goal.invariant-tokens
invariant-tokens l = list_all is_name l.tokens ≡ list_all is_name l.initial.tokens

abbrev pub decreases-tokens : goal.decreases-tokens
decreases-tokens l = length l.tokens
