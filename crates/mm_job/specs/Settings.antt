-- How a job is asked.
use Rattle.std.specs.Prelude.{◌≡◌, ℕ, None}
use Rattle.std.proofs.Common.{refl, ◌⊎◌, inl, inr}
use Rattle.std.specs.Coded.{Coded, code_by, coded×, coded⊎, coded_ℕ}
use Rattle.mm_edit.specs.FormulaCode.{query_code}
use Rattle.mm_formula.specs.Syntax.{Syntax}
use Rattle.mm_header.specs.Queries.{Question, query_for}
use Rattle.mm_header.specs.Queries.Question.{Spelled, Minor}
use Rattle.mm_logic.specs.StateSize.{Query}

-- How the query line of a job is read, and the limit on sizes.
pub record Settings : Type 0 where
  pub question : Question
  pub limit : ℕ

-- The query line spells the query.
abbrev pub spelled : ℕ → Settings
spelled limit = record { question = Spelled; limit = limit }

-- The query line is the word `minor`, which asks whether this formula holds.
abbrev pub with_formula : ℕ → Syntax → Settings
with_formula limit F = record { question = Minor (query_for None F); limit = limit }

-- ---- how settings are told apart

abbrev pub of_question : Question → ℕ ⊎ Query
of_question Spelled = inl 0
of_question (Minor query) = inr query

abbrev pub to_question : ℕ ⊎ Query → Question
to_question (inl n) = Spelled
to_question (inr query) = Minor query

pub question_back : (question : Question) → to_question (of_question question) ≡ question
question_back Spelled = refl
question_back (Minor query) = refl

abbrev pub question_code : Coded Question
question_code = code_by (ℕ ⊎ Query) (coded⊎ coded_ℕ query_code) of_question to_question question_back

abbrev pub settings_code : Coded Settings
settings_code =
    code_by (Question × ℕ) (coded× question_code coded_ℕ) (λ s. (s.question, s.limit)) (λ p. record { question = p.0; limit = p.1 }) (λ s. refl)
