-- The limits of a header: of a job, and of a text whose dual is asked for.
use Rattle.mm_header.specs.declared.rules.HeaderRules.{HeaderRules}

abbrev pub job_rules : HeaderRules
job_rules = record { names = 8192; leaves = 8192 }

abbrev pub dual_rules : HeaderRules
dual_rules = record { names = 4096; leaves = 4096 }
