use Rattle.std.proofs.Common.{◌≡◌, ◌++◌, take}
use Rattle.mm_job.proofs.NameLemmas.{spaced_names}
use Rattle.mm_job.proofs.editor.append_names.Given as goal

abbrev pub invariant-loop-i : goal.invariant-loop-i
invariant-loop-i l = l.text ≡ l.fn.text ++ spaced_names (take l.i l.names)
