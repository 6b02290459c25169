-- What the lines of a header keep: its names are different, and its operators are over the field.
use Rattle.std.proofs.Common.{◌≡◌, ℕ, Bool, true, false, not, List, [], ◌∷◌, ◌++◌, Option, Some, None, refl, sym, ap, subst}
use Rattle.std.specs.Prelude.{Ok, Err}
use Rattle.std.specs.List.{IsDistinct}
use Rattle.std.specs.Str.{bytes_eq}
use Rattle.std.specs.declared.result.Result.{Result}
use Rattle.mm_field.specs.declared.Field.{Field}
use Rattle.mm_lines.specs.declared.line.Line.{Line}
use Rattle.mm_ops.specs.OpValue.{OpValue}
use Rattle.mm_ops.specs.Tables.{OperatorList}
use Rattle.mm_tree.specs.Building.{AreOver}
use Rattle.mm_tree.specs.NamedTree.{is_one_of}
use Rattle.mm_tree.proofs.BuilderLemmas.{distinct_push}
use Rattle.mm_job_text.specs.Checks.{◌>>=◌, ◌>>◌, require, unless}
use Rattle.mm_job_text.specs.HeaderLines.{elements_line, with_name, with_names}
use Rattle.mm_job_text.specs.OperatorLines.{added, op_line, operator_fields, operator_line}
use Rattle.mm_job_text.specs.declared.format.Format.{Format}
use Rattle.mm_job_text.specs.declared.refusal.Refusal.{Refusal}

abbrev ok_of : {A : Type 0} → A → Result A Refusal
ok_of x = Ok x

abbrev err_of : {A : Type 0} → Refusal → Result A Refusal
err_of e = Err e

pub same_value : {A : Type 0} (x y : A) → Ok x ≡ ok_of y → x ≡ y
same_value x y h = cc

no_value : {A P : Type 0} (e : Refusal) (y : A) → err_of e ≡ Ok y → P
no_value e y h = absurd (let n : err_of e ≡ Ok y = h in cc)

-- ---- names

name_kept : (names : List (List ℕ)) (name : List ℕ) (new : List (List ℕ)) (first last : Refusal) (taken room : Bool) → is_one_of name names ≡ taken
    → (require (not taken) first >> (require room last >> Ok (names ++ name ∷ []))) ≡ Ok new → IsDistinct bytes_eq names → IsDistinct bytes_eq new
name_kept names name new first last true room is h d = no_value first new h
name_kept names name new first last false false is h d = no_value last new h
name_kept names name new first last false true is h d =
    subst (λ (l : List (List ℕ)). IsDistinct bytes_eq l) (same_value (names ++ name ∷ []) new h) (distinct_push names name d is)

names_step : (most n : ℕ) (ts names new : List (List ℕ)) (r : Result (List (List ℕ)) Refusal) → (r >>= λ more. with_names most n more ts) ≡ Ok new
    → ((more : List (List ℕ)) → r ≡ Ok more → IsDistinct bytes_eq more)
    → ((more : List (List ℕ)) → IsDistinct bytes_eq more → with_names most n more ts ≡ Ok new → IsDistinct bytes_eq new) → IsDistinct bytes_eq new
names_step most n ts names new (Err e) h one rest = no_value e new h
names_step most n ts names new (Ok more) h one rest = rest more (one more refl) h

names_kept : (most n : ℕ) (ts names new : List (List ℕ)) → with_names most n names ts ≡ Ok new → IsDistinct bytes_eq names → IsDistinct bytes_eq new
names_kept most n [] names new h d = subst (λ (l : List (List ℕ)). IsDistinct bytes_eq l) (same_value names new h) d
names_kept most n (t ∷ ts) names new h d =
    names_step most n ts names new (with_name most n names t) h (λ more is. name_kept names t more _ _ (is_one_of t names) _ refl is d) (λ more d more_is. names_kept most n ts more new more_is d)

line_kept : (most n : ℕ) (ts names new : List (List ℕ)) (e : Refusal) (b : Bool) → (require b e >> with_names most n names ts) ≡ Ok new → IsDistinct bytes_eq names → IsDistinct bytes_eq new
line_kept most n ts names new e true h d = names_kept most n ts names new h d
line_kept most n ts names new e false h d = no_value e new h

pub elements_kept : (most : ℕ) (names new : List (List ℕ)) (r : Line) → elements_line most names r ≡ Ok new → IsDistinct bytes_eq names → IsDistinct bytes_eq new
unfolding elements_line
elements_kept most names new r h d = line_kept most r.number _ names new _ _ h d

-- ---- operators

over_more : (f : Field) (ops : OperatorList) (name : List ℕ) (op : OpValue) → op.f ≡ f → AreOver f ops → AreOver f (ops ++ (name, op) ∷ [])
over_more f [] name op is h = (is, tt)
over_more f (entry ∷ ops) name op is h = (h.0, over_more f ops name op is h.1)

added_kept : (f : Field) (ops new : OperatorList) (name : List ℕ) (op : OpValue) (o : Option Refusal) → (unless o >> Ok (ops ++ (name, op) ∷ [])) ≡ Ok new → op.f ≡ f → AreOver f ops → AreOver f new
added_kept f ops new name op (Some e) h is over = no_value e new h
added_kept f ops new name op None h is over = subst (λ (l : OperatorList). AreOver f l) (same_value (ops ++ (name, op) ∷ []) new h) (over_more f ops name op is over)

unless_is : {B : Type 0} (o : Option Refusal) (x y : B) → (unless o >> Ok x) ≡ Ok y → x ≡ y
unless_is None x y h = same_value x y h
unless_is (Some e) x y h = no_value e y h

words_is : {A B : Type 0} (r : Result A Refusal) (k : A → Result B Refusal) (y : B) → (r >>= k) ≡ Ok y → (x : A) × (r ≡ Ok x) × (k x ≡ Ok y)
words_is (Err e) k y h = no_value e y h
words_is (Ok x) k y h = (x, refl, h)

operator_over : (version : Format) (f : Field) (r : Line) (named : List ℕ × OpValue) → operator_line version f r ≡ Ok named → named.1.f ≡ f
unfolding operator_line
operator_over version f r named h =
    let w = words_is (operator_fields version f r) _ named h in
    ap (λ (p : List ℕ × OpValue). p.1.f) (sym (unless_is _ _ named w.2))

pub operators_kept : (version : Format) (f : Field) (ops new : OperatorList) (r : Line) → op_line version f ops r ≡ Ok new → AreOver f ops → AreOver f new
unfolding op_line
operators_kept version f ops new r h over =
    let p = words_is (operator_line version f r) (λ named. added r.number ops named.0 named.1) new h in
    added_kept f ops new p.0.0 p.0.1 _ p.2 (operator_over version f r p.0 p.1) over
