-- What the queries of the program are to contracts.
use Rattle.mm_formula.specs.Syntax.{syntax_of}
use Rattle.mm_formula.specs.declared.scope.Scoped.{Scoped}
use Rattle.mm_header.specs.Queries.{query_for}
use Rattle.mm_logic.specs.StateSize.{Query}

-- The query of a scoped formula: its free variable is the one that is sought.
abbrev pub query_value : Scoped → Query
query_value s = query_for s.free (syntax_of s.formula)
