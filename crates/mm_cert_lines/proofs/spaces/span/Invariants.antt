use Rattle.std.proofs.Common.{drop}
use Rattle.mm_space.specs.SpaceValue.{IsSpanOf}
use Rattle.mm_cert_lines.proofs.spaces.span.Given as goal

abbrev pub invariant-loop-k : goal.invariant-loop-k
invariant-loop-k l = IsSpanOf l.fn.f l.t (drop l.k l.rows) l.space
