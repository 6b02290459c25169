-- The operators that are read are valid.
use Rattle.std.proofs.Common.{All, ℕ, ◌<◌, ◌≡◌, Bool, true, false, ◌&&◌, Option, Some, None, List, [], ◌∷◌, ◌++◌, length, map, refl, subst}
use Rattle.std.specs.Prelude.{codes, nat_le, IfOk, Ok, if◌then◌else◌}
use Rattle.std.specs.List.{list_all}
use Rattle.std.specs.Str.{bytes_eq}
use Rattle.std.proofs.lemmas.List.Elements.{All-nil}
use Rattle.std.proofs.lemmas.Option.{same_Some}
use Rattle.mm_base.specs.Names.{is_name}
use Rattle.mm_field.specs.declared.Field.{Field}
use Rattle.mm_field.specs.Digits.{order}
use Rattle.mm_field.specs.Vectors.{AreDigits}
use Rattle.mm_linear.proofs.FirstUnits.{first_units_are}
use Rattle.mm_lines.specs.Numbers.{u32_of}
use Rattle.mm_lines.specs.declared.line.Line.{Line}
use Rattle.mm_logic.specs.Operator.{IsValidOp}
use Rattle.mm_ops.specs.OpFaults.{fault_of}
use Rattle.mm_ops.specs.OpValue.{OpValue}
use Rattle.mm_ops.specs.Tables.{OperatorList, op_named, refusal_of}
use Rattle.mm_ops.specs.declared.op.OpFault.{OpFault}
use Rattle.mm_ops.specs.declared.op.OpFault.TheVariants.{Bound, Shape, Dependent}
use Rattle.mm_ops.proofs.ValidOps.{valid_ops_exactly}
use Rattle.mm_job_laws.specs.HeaderLaws.{AreValidOps}
use Rattle.mm_job_text.specs.Arguments.{args}
use Rattle.mm_space.specs.DigitTexts.{is_digit, digit_of, digits_of, vectors_of}
use Rattle.mm_job_text.specs.OperatorLines.{OperatorTokens, operator_tokens, third_matrix, shown, operator_fields, third_or_units, operator_of, operator_refusal, table_refusal, operator_line, op_line, HasThirdDigits, HasDigits}
use Rattle.mm_job_text.specs.declared.format.Format.{Format}
use Rattle.mm_job_text.specs.declared.operator_line.OperatorLine.{OperatorLine}
use Rattle.mm_job_text.specs.declared.operator_line.ThirdMatrix.{ThirdMatrix}
use Rattle.mm_job_text.specs.declared.operator_line.ThirdMatrix.TheVariants.{Units, Written}
use Rattle.mm_job_text.specs.declared.refusal.Refusal.{Refusal}
use Rattle.mm_job_text.specs.declared.refusal.Refusal.TheVariants as refusal
use Rattle.mm_job_text.proofs.ReadingLemmas.{if_require, if_found, if_unless, if_ok}
use Rattle.mm_space.proofs.DigitTextLemmas.{digits_small, text_of_vectors}

-- ---- digits

pub digits_are : (f : Field) (t v : List ℕ) → digits_of f t ≡ Some v → AreDigits f v
digits_are f t v h = go (bytes_eq t (codes "-")) (nat_le 1 (length t)) (list_all (is_digit f) t) refl h
  where
    go : (dash long digits : Bool) → list_all (is_digit f) t ≡ digits →
        (if dash then Some [] else if long && digits then Some (map digit_of t) else None) ≡ Some v → AreDigits f v
    go true long digits e h = subst (λ w. AreDigits f w) (same_Some [] v h) (All-nil (λ d. d < order f))
    go false true true e h = subst (λ w. AreDigits f w) (same_Some (map digit_of t) v h) (digits_small f t e)
    go false true false e h = cc
    go false false digits e h = cc

-- each of some vectors has digits of the field
abbrev AreAllDigits : Field → List (List ℕ) → Type 0
AreAllDigits f g = All (λ v. AreDigits f v) g

-- ---- the words of an operator's line

third_are : (f : Field) (o : Option (List ℕ)) (e : Refusal) → IfOk (third_matrix f o e) (λ g3. HasThirdDigits f g3)
third_are f None e = tt
third_are f (Some t) e = if_found (λ g3. HasThirdDigits f g3) (vectors_of f t) e (λ g3. Ok (Written g3)) (λ g3 some. (text_of_vectors f t g3 some).digits)

shown_are : (f : Field) (t : OperatorTokens) (e : Refusal) → IfOk (shown f t e) (λ w. HasDigits f w)
unfolding shown
shown_are f t e =
    let P : OperatorLine → Type 0 = λ w. HasDigits f w in
    if_require P (is_name t.name) e _ (λ formed.
    if_found P (u32_of t.t1) e _ (λ t1 e1.
    if_found P (u32_of t.t2) e _ (λ t2 e2.
    if_found P (u32_of t.t3) e _ (λ t3 e3.
    if_found P (u32_of t.c) e _ (λ c e4.
    if_found P (vectors_of f t.g1) e _ (λ g1 first.
    if_found P (vectors_of f t.g2) e _ (λ g2 second.
    if_ok (λ g3. HasThirdDigits f g3) P (third_matrix f t.g3 e) _ (third_are f t.g3 e) (λ g3 third.
    record { first = (text_of_vectors f t.g1 g1 first).digits; second = (text_of_vectors f t.g2 g2 second).digits; third = third }))))))))

words_are : (version : Format) (f : Field) (r : Line) → IfOk (operator_fields version f r) (λ w. HasDigits f w)
unfolding operator_fields
words_are version f r =
    if_found (λ w. HasDigits f w) (operator_tokens version (args r)) (refusal.Syntax r.number) _ (λ t e. shown_are f t (refusal.Syntax r.number))

third_or_units_are : (f : Field) (t3 c : ℕ) (g3 : ThirdMatrix) → HasThirdDigits f g3 → AreAllDigits f (third_or_units t3 c g3)
third_or_units_are f t3 c Units h = λ k d l. (first_units_are f t3 c k d l).digits
third_or_units_are f t3 c (Written g3) h = h

no_fault : (n : ℕ) (o : Option OpFault) → operator_refusal n o ≡ None → o ≡ None
no_fault n None e = refl
no_fault n (Some Bound) e = cc
no_fault n (Some Shape) e = cc
no_fault n (Some (Dependent k)) e = cc

operator_is_valid : (f : Field) (w : OperatorLine) → HasDigits f w → fault_of f (operator_of w) ≡ None → IsValidOp f (operator_of w)
operator_is_valid f w h e =
    (valid_ops_exactly f (operator_of w) h.first h.second (third_or_units_are f w.t3 w.c w.g3 h.third)).0 e

-- ---- the operators

line_is_valid : (version : Format) (f : Field) (r : Line) → IfOk (operator_line version f r) (λ (named : List ℕ × OpValue). IsValidOp f named.1.op)
unfolding operator_line
line_is_valid version f r =
    if_ok (λ w. HasDigits f w) (λ (named : List ℕ × OpValue). IsValidOp f named.1.op) (operator_fields version f r) _ (words_are version f r) (λ w h.
    if_unless (λ (named : List ℕ × OpValue). IsValidOp f named.1.op) (operator_refusal r.number (fault_of f (operator_of w))) _ (λ none.
    operator_is_valid f w h (no_fault r.number (fault_of f (operator_of w)) none)))

ops_push : (f : Field) (ops : OperatorList) (entry : List ℕ × OpValue) → AreValidOps f ops → IsValidOp f entry.1.op → AreValidOps f (ops ++ entry ∷ [])
ops_push f [] entry h v = (v, tt)
ops_push f (first ∷ ops) entry h v = (h.0, ops_push f ops entry h.1 v)

pub ops_stay_valid : (version : Format) (f : Field) (ops : OperatorList) (r : Line) → AreValidOps f ops → IfOk (op_line version f ops r) (AreValidOps f)
unfolding op_line
ops_stay_valid version f ops r h =
    if_ok (λ (named : List ℕ × OpValue). IsValidOp f named.1.op) (AreValidOps f) (operator_line version f r) _ (line_is_valid version f r) (λ named v.
    if_unless (AreValidOps f) (table_refusal r.number named.0 (refusal_of named.0 ops)) _ (λ none. ops_push f ops (named.0, named.1) h v))

pub named_is_valid : (f : Field) (name : List ℕ) (ops : OperatorList) (op : OpValue) → AreValidOps f ops → op_named name ops ≡ Some op → IsValidOp f op.op
named_is_valid f name [] op h e = cc
named_is_valid f name (entry ∷ ops) op h e = go (bytes_eq name entry.0) e (named_is_valid f name ops op h.1)
  where
    go : (b : Bool) → (if b then Some entry.1 else op_named name ops) ≡ Some op → (op_named name ops ≡ Some op → IsValidOp f op.op) → IsValidOp f op.op
    go true e more = subst (λ (o : OpValue). IsValidOp f o.op) (same_Some entry.1 op e) h.0
    go false e more = more e
