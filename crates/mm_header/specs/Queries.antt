-- The query of a text: what it is, and the line that gives it.
use Rattle.std.specs.Prelude.{ℕ, nat_le, ◌||◌, List, [], ◌∷◌, length, codes, Option, Some, None, Ok, Err, if◌then◌else◌}
use Rattle.std.specs.declared.result.Result.{Result}
use Rattle.mm_formula.specs.Scope.{scope_fault, slotted}
use Rattle.mm_formula.specs.Syntax.{Syntax}
use Rattle.mm_formula.specs.Variables.{is_var, is_set}
use Rattle.mm_formula.specs.declared.scope.ScopeFault.{ScopeFault}
use Rattle.mm_formula.specs.declared.scope.ScopeFault.TheVariants.{Unbound, TooManyInScope, TooManyNodes, NoMemory}
use Rattle.mm_formula_text.specs.Grammar.{begins_in_blank, ends_in_blank}
use Rattle.mm_formula_text.specs.Parser.{run, start}
use Rattle.mm_formula_text.specs.Tokens.{tokens}
use Rattle.mm_lines.specs.LineBytes.{bytes_of}
use Rattle.mm_lines.specs.Tokens.{rest_of}
use Rattle.mm_lines.specs.declared.line.Line.{Line}
use Rattle.mm_logic.specs.StateSize.{Query}
use Rattle.mm_logic.specs.StateSize.Query.{Decide, Least}
use Rattle.mm_job_text.specs.Arguments.{args, begins, is_word}
use Rattle.mm_job_text.specs.Checks.{◌>>=◌, ◌>>◌, require, found, unless, within}
use Rattle.mm_job_text.specs.declared.refusal.Limit.TheVariants as limit
use Rattle.mm_job_text.specs.declared.refusal.Refusal.{Refusal}
use Rattle.mm_job_text.specs.declared.refusal.Refusal.TheVariants as refusal

-- How a text asks: by a query that its query line spells, or by the word `minor`, which stands for a query that is given.
pub data Question : Type 0 where
  Spelled : Question
  Minor : Query → Question

-- The formula that the grammar derives from a text: a text derives one at most.
unfoldable pub formula_of : List ℕ → Option Syntax
formula_of text = if begins_in_blank text || ends_in_blank text then None else run start (tokens text)

-- The refusal of a formula that is not scoped, in the line with number n.
abbrev pub scope_refusal : ℕ → Option ScopeFault → Option Refusal
scope_refusal n None = None
scope_refusal n (Some (Unbound v)) = Some (refusal.Unbound v)
scope_refusal n (Some TooManyInScope) = Some (refusal.Over limit.Scope n)
scope_refusal n (Some TooManyNodes) = Some (refusal.Over limit.Nodes n)
scope_refusal n (Some NoMemory) = None

-- The most bytes of a formula.
abbrev pub most_formula : ℕ
most_formula = 4096

-- What a formula asks: whether it holds, or, where a set variable is sought, for the least set that satisfies it. Each variable is
-- its slot then, and the sought one has slot 0.
abbrev pub query_for : Option (List ℕ) → Syntax → Query
query_for None F = Decide (slotted [] F)
query_for (Some v) F = Least (slotted (v ∷ []) F)

-- The query of a formula that is scoped, in the line with number n.
abbrev pub scoped : ℕ → Option (List ℕ) → Syntax → Result Query Refusal
scoped n sought F = unless (scope_refusal n (scope_fault F sought)) >> Ok (query_for sought F)

-- The query of this text, in the line with number n, that seeks this variable, if any.
unfoldable pub query_of : ℕ → Option (List ℕ) → List ℕ → Result Query Refusal
query_of n sought text = do
  require (nat_le 1 (length text)) (refusal.Syntax n)
  within (length text) most_formula limit.Formula n
  F ← found (formula_of text) refusal.Formula
  scoped n sought F

abbrev pub first_of : List (List ℕ) → Option (List ℕ)
first_of [] = None
first_of (t ∷ ts) = Some t

abbrev pub set_variable_of : List ℕ → Option (List ℕ)
set_variable_of t = if is_var t then (if is_set t then Some t else None) else None

-- `least X FORMULA`
unfoldable pub least_query : Line → Result Query Refusal
least_query r = do
  t ← found (first_of (args r)) (refusal.Syntax r.number)
  v ← found (set_variable_of t) (refusal.Syntax r.number)
  query_of r.number (Some v) (rest_of 2 (bytes_of r))

-- `decide FORMULA` or `least X FORMULA`
unfoldable pub spelled_query : Line → Result Query Refusal
spelled_query r =
    if begins (codes "decide") r then query_of r.number None (rest_of 1 (bytes_of r))
    else if begins (codes "least") r then least_query r
    else Err (refusal.Syntax r.number)

-- `minor`
unfoldable pub minor_line : Line → Result (Unit {0}) Refusal
minor_line r = require (is_word (codes "minor") r) (refusal.Syntax r.number)

-- `minor`, which stands for this query
unfoldable pub minor_query : Query → Line → Result Query Refusal
minor_query query r = do
  minor_line r
  Ok query

-- The query line.
abbrev pub query_line : Question → Line → Result Query Refusal
query_line Spelled r = spelled_query r
query_line (Minor query) r = minor_query query r
