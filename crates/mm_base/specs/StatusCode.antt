-- The exit status of a process, by how the run ended.
use Rattle.std.specs.Prelude.{ℕ}
use Rattle.mm_base.specs.declared.status.Status.{Status}
use Rattle.mm_base.specs.declared.status.Status.TheVariants.{Done, Refused, Usage, EditRefused, ReadFault, WriteFault, NoMemory}

-- 0 where all was done, else the number of the reason
abbrev pub code_of : Status → ℕ
code_of Done = 0
code_of Refused = 1
code_of Usage = 2
code_of EditRefused = 3
code_of ReadFault = 4
code_of WriteFault = 5
code_of NoMemory = 6
