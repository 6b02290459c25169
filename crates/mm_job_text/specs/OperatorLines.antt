-- The lines of a header that give the operators.
use Rattle.std.specs.Prelude.{ℕ, ◌+◌, List, [], ◌∷◌, ◌++◌, map, All, Option, Some, None, Ok}
use Rattle.std.specs.declared.result.Result.{Result}
use Rattle.std.specs.Option.{option_map}
use Rattle.std.specs.List.{range_with_len}
use Rattle.mm_base.specs.Names.{is_name}
use Rattle.mm_field.specs.declared.Field.{Field}
use Rattle.mm_field.specs.Vectors.{AreDigits}
use Rattle.mm_linear.specs.Coordinates.{unit}
use Rattle.mm_lines.specs.Numbers.{u32_of}
use Rattle.mm_lines.specs.declared.line.Line.{Line}
use Rattle.mm_logic.specs.Operator.{Op}
use Rattle.mm_ops.specs.OpFaults.{fault_of}
use Rattle.mm_ops.specs.OpValue.{OpValue, operator}
use Rattle.mm_ops.specs.Tables.{OperatorList, refusal_of}
use Rattle.mm_ops.specs.declared.op.OpFault.{OpFault}
use Rattle.mm_ops.specs.declared.op.OpFault.TheVariants.{Bound, Shape, Dependent}
use Rattle.mm_ops.specs.declared.table.OpTableFault.{OpTableFault}
use Rattle.mm_ops.specs.declared.table.OpTableFault.TheVariants.{NameTaken, Full, NoMemory}
use Rattle.mm_job_text.specs.Arguments.{args}
use Rattle.mm_job_text.specs.Checks.{◌>>=◌, ◌>>◌, require, found, unless}
use Rattle.mm_space.specs.DigitTexts.{vectors_of}
use Rattle.mm_job_text.specs.declared.format.Format.{Format}
use Rattle.mm_job_text.specs.declared.format.Format.TheVariants as format
use Rattle.mm_job_text.specs.declared.operator_line.OperatorLine.{OperatorLine}
use Rattle.mm_job_text.specs.declared.operator_line.ThirdMatrix.{ThirdMatrix}
use Rattle.mm_job_text.specs.declared.operator_line.ThirdMatrix.TheVariants.{Units, Written}
use Rattle.mm_job_text.specs.declared.refusal.Limit.TheVariants as limit
use Rattle.mm_job_text.specs.declared.refusal.Refusal.{Refusal}
use Rattle.mm_job_text.specs.declared.refusal.Refusal.TheVariants as refusal

-- The tokens of an operator's line: its name, its four numbers and its matrices, of which the third one is written in format 2.
pub record OperatorTokens : Type 0 where
  pub name : List ℕ
  pub t1 : List ℕ
  pub t2 : List ℕ
  pub t3 : List ℕ
  pub c : List ℕ
  pub g1 : List ℕ
  pub g2 : List ℕ
  pub g3 : Option (List ℕ)

-- The third matrix among the tokens that are left, which are no more: format 2 has one.
abbrev pub third_of : Format → List (List ℕ) → Option (Option (List ℕ))
third_of format.One [] = Some None
third_of format.Two (g3 ∷ []) = Some (Some g3)
third_of version ts = None

-- The tokens after the word `op`, as many as the format has.
abbrev pub operator_tokens : Format → List (List ℕ) → Option OperatorTokens
operator_tokens version (name ∷ t1 ∷ t2 ∷ t3 ∷ c ∷ g1 ∷ g2 ∷ ts) =
    option_map (λ g3. record { name = name; t1 = t1; t2 = t2; t3 = t3; c = c; g1 = g1; g2 = g2; g3 = g3 }) (third_of version ts)
operator_tokens version ts = None

-- The third matrix, where it is written.
abbrev pub third_matrix : Field → Option (List ℕ) → Refusal → Result ThirdMatrix Refusal
third_matrix f None refused = Ok Units
third_matrix f (Some t) refused = found (vectors_of f t) refused >>= λ g3. Ok (Written g3)

-- What the tokens show, if they do.
unfoldable pub shown : Field → OperatorTokens → Refusal → Result OperatorLine Refusal
shown f t refused = do
  require (is_name t.name) refused
  t1 ← found (u32_of t.t1) refused
  t2 ← found (u32_of t.t2) refused
  t3 ← found (u32_of t.t3) refused
  c ← found (u32_of t.c) refused
  g1 ← found (vectors_of f t.g1) refused
  g2 ← found (vectors_of f t.g2) refused
  g3 ← third_matrix f t.g3 refused
  Ok (record { name = t.name; t1 = t1; t2 = t2; t3 = t3; c = c; g1 = g1; g2 = g2; g3 = g3 })

-- `op NAME T1 T2 T3 C G1 G2`, in format 2 with G3
unfoldable pub operator_fields : Format → Field → Line → Result OperatorLine Refusal
operator_fields version f r = do
  t ← found (operator_tokens version (args r)) (refusal.Syntax r.number)
  shown f t (refusal.Syntax r.number)

-- The first t of the unit vectors of r digits.
abbrev pub first_units : ℕ → ℕ → List (List ℕ)
first_units r t = map (unit r) (range_with_len 0 t)

-- The third matrix: as it is written, or the first unit vectors.
abbrev pub third_or_units : ℕ → ℕ → ThirdMatrix → List (List ℕ)
third_or_units t3 c Units = first_units (t3 + c) t3
third_or_units t3 c (Written g3) = g3

abbrev pub operator_of : OperatorLine → Op
operator_of w = operator w.t1 w.t2 w.t3 w.c w.g1 w.g2 (third_or_units w.t3 w.c w.g3)

-- The refusal of numbers and matrices that are no valid operator.
abbrev pub operator_refusal : ℕ → Option OpFault → Option Refusal
operator_refusal n None = None
operator_refusal n (Some Bound) = Some (refusal.Over limit.Bounds n)
operator_refusal n (Some Shape) = Some (refusal.Shape n)
operator_refusal n (Some (Dependent k)) = Some (refusal.Dependent n k)

-- The refusal of an operator that a table does not take.
abbrev pub table_refusal : ℕ → List ℕ → Option OpTableFault → Option Refusal
table_refusal n name None = None
table_refusal n name (Some NameTaken) = Some (refusal.Taken name)
table_refusal n name (Some Full) = Some (refusal.Over limit.Operators n)
table_refusal n name (Some NoMemory) = None

-- The operators with this one under its name, in the line with number n.
abbrev pub added : ℕ → OperatorList → List ℕ → OpValue → Result OperatorList Refusal
added n ops name op = unless (table_refusal n name (refusal_of name ops)) >> Ok (ops ++ (name, op) ∷ [])

-- The name and the operator of an `op` line.
unfoldable pub operator_line : Format → Field → Line → Result (List ℕ × OpValue) Refusal
operator_line version f r = do
  w ← operator_fields version f r
  unless (operator_refusal r.number (fault_of f (operator_of w)))
  Ok (w.name, record { f = f; op = operator_of w })

-- An `op` line, after these operators.
unfoldable pub op_line : Format → Field → OperatorList → Line → Result OperatorList Refusal
op_line version f ops r = operator_line version f r >>= λ named. added r.number ops named.0 named.1

-- A third matrix that is written has digits of the field.
abbrev pub HasThirdDigits : Field → ThirdMatrix → Type 0
HasThirdDigits f Units = Unit {0}
HasThirdDigits f (Written g3) = All (λ v. AreDigits f v) g3

-- The matrices have digits of the field.
pub record HasDigits (f : Field) (w : OperatorLine) : Type 0 where
  pub first : All (λ v. AreDigits f v) w.g1
  pub second : All (λ v. AreDigits f v) w.g2
  pub third : HasThirdDigits f w.g3
