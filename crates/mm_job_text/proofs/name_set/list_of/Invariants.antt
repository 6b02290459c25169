use Rattle.std.proofs.Common.{◌≡◌, take}
use Rattle.mm_job_text.proofs.name_set.list_of.Given as goal

abbrev pub invariant-loop-name : goal.invariant-loop-name
invariant-loop-name l = l.list ≡ take l.name-index l.names
