-- Between code and definitions: the settings of the program.
use Rattle.std.specs.Prelude.{◌≤◌, Option, Some, None}
use Rattle.mm_formula.specs.declared.scope.Scoped.{Scoped}
use Rattle.mm_header.specs.Queries.{Question}
use Rattle.mm_header.specs.Queries.Question.{Spelled, Minor}
use Rattle.mm_header.specs.QueryValues.{query_value}
use Rattle.mm_job.specs.Settings.{Settings}
use Rattle.mm_job.specs.declared.settings.Settings.TheInside.{Inside}
use Rattle.mm_nodes.specs.declared.TheConstants.{MAX_LIMIT}

-- The query line spells the query, where none is given.
abbrev pub question_of : Option Scoped → Question
question_of None = Spelled
question_of (Some q) = Minor (query_value q)

-- what callers see of the fields
abbrev pub settings_of : Inside → Settings
settings_of s = record { question = question_of s.given; limit = s.limit }

abbrev pub AreSettings : Inside → Type 0
AreSettings s = s.limit ≤ MAX_LIMIT
