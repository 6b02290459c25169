-- What the tokens of an operator's line are to contracts.
use Rattle.std.specs.Prelude.{option_copied}
use Rattle.mm_job_text.specs.OperatorLines.{OperatorTokens}
use Rattle.mm_job_text.specs.declared.operator_line.Written.{Written}

abbrev pub tokens_of : Written → OperatorTokens
tokens_of w = record { name = w.name.now; t1 = w.t1.now; t2 = w.t2.now; t3 = w.t3.now; c = w.c.now; g1 = w.g1.now; g2 = w.g2.now; g3 = option_copied w.g3 }
