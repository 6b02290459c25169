-- A line gives the query that it spells, and else none.
use Rattle.std.proofs.Common.{◌≡◌, ◌≤◌, ℕ, Bool, true, false, ◌||◌, List, [], ◌∷◌, length, Option, Some, None, refl, sym, ap, subst, ◌∙◌, arith}
use Rattle.std.specs.Prelude.{codes, nat_le, IfOk, Ok, Err, slice_get, if◌then◌else◌}
use Rattle.std.specs.declared.result.Result.{Result}
use Rattle.std.specs.List.{list_all}
use Rattle.std.specs.Str.{bytes_eq}
use Rattle.std.proofs.lemmas.Bool.{le-leb, le-ltb, leb-true}
use Rattle.mm_base.proofs.NameLemmas.{same_bytes}
use Rattle.mm_formula.specs.Scope.{IsScoped, fault_of, outermost, scope_fault}
use Rattle.mm_formula.specs.Syntax.{Syntax}
use Rattle.mm_formula.specs.Variables.{is_set, is_var}
use Rattle.std.proofs.lemmas.Option.{none-some, same_Some}
use Rattle.mm_formula.proofs.ScopeLemmas.{scoped}
use Rattle.mm_formula_text.specs.Grammar.{IsTextOf, begins_in_blank, ends_in_blank}
use Rattle.mm_formula_text.specs.Parser.{finish, run, start}
use Rattle.mm_formula_text.specs.Tokens.{lexemes, tokens}
use Rattle.mm_formula_text.proofs.ReadsAllLemmas.{run_reads}
use Rattle.mm_formula_text.proofs.ReadsOnlyLemmas.{run_derives}
use Rattle.mm_formula_text.proofs.TextLemmas.{sorted}
use Rattle.mm_header.proofs.FormulaLemmas.{derived_formula}
use Rattle.mm_header.specs.Queries.{first_of, formula_of, least_query, minor_line, minor_query, most_formula, query_for, query_line, query_of, scope_refusal, set_variable_of, spelled_query}
use Rattle.mm_header.specs.Queries.Question.{Spelled, Minor}
use Rattle.mm_job_laws.specs.AnswerLaws.{QueryLinesGiveWhatTheySpell, Seeks, Spells, formula_text}
use Rattle.mm_job_text.specs.Arguments.{args, begins, first_is, too_long}
use Rattle.mm_job_text.specs.Checks.{◌>>◌}
use Rattle.mm_job_text.specs.Readers.{refused_or, whole}
use Rattle.mm_job_text.specs.declared.refusal.Limit.TheVariants as limit
use Rattle.mm_job_text.specs.declared.refusal.Refusal.{Refusal}
use Rattle.mm_job_text.specs.declared.refusal.Refusal.TheVariants as refusal
use Rattle.mm_job_text.proofs.ReadingLemmas.{if_found, if_require, if_unless}
use Rattle.mm_lines.specs.LineBytes.{bytes_of, text_bytes}
use Rattle.mm_lines.specs.Tokens.{rest_of}
use Rattle.mm_lines.specs.Tokens.{tokens as line_tokens}
use Rattle.mm_lines.specs.declared.line.LineText.{LineText}
use Rattle.mm_lines.specs.declared.line.LineText.TheVariants.{Whole, TooLong}
use Rattle.mm_lines.specs.declared.line.Line.{Line}
use Rattle.mm_logic.specs.StateSize.{Query}

-- ---- what a query line gives

derives_from : (text : List ℕ) (F : Syntax) (b e : Bool) → begins_in_blank text ≡ b → ends_in_blank text ≡ e →
    (if b || e then None else run start (tokens text)) ≡ Some F → IsTextOf F text
derives_from text F true e p q h = absurd (let n : None ≡ Some F = h in cc)
derives_from text F false true p q h = absurd (let n : None ≡ Some F = h in cc)
derives_from text F false false p q h = record { first = p; last = q; derived = run_derives (tokens text) F h }

formula_derives : (text : List ℕ) (F : Syntax) → formula_of text ≡ Some F → IsTextOf F text
unfolding formula_of
formula_derives text F h = derives_from text F (begins_in_blank text) (ends_in_blank text) refl refl h

-- what is not refused has no fault
no_fault_left : (n : ℕ) (o : Option (List ℕ)) (deep large : Bool) → scope_refusal n (fault_of o deep large) ≡ None → fault_of o deep large ≡ None
no_fault_left n (Some v) deep large h = absurd (none-some (refusal.Unbound v) (sym h))
no_fault_left n None true large h = absurd (none-some (refusal.Over limit.Scope n) (sym h))
no_fault_left n None false true h = absurd (none-some (refusal.Over limit.Nodes n) (sym h))
no_fault_left n None false false h = refl

no_fault : (n : ℕ) (F : Syntax) (sought : Option (List ℕ)) → scope_refusal n (scope_fault F sought) ≡ None → scope_fault F sought ≡ None
no_fault n F sought h = no_fault_left n _ _ _ h

-- what is read of a text, where this variable is sought
record IsOf (sought : Option (List ℕ)) (text : List ℕ) (query : Query) : Type 0 where
  pub formula : Syntax
  pub short : length text ≤ most_formula
  pub derived : IsTextOf formula text
  pub scoped : IsScoped formula sought
  pub asks : query ≡ query_for sought formula

query_is_of : (n : ℕ) (sought : Option (List ℕ)) (text : List ℕ) → list_all is_set (outermost sought) ≡ true → IfOk (query_of n sought text) (λ query. IsOf sought text query)
unfolding query_of
query_is_of n sought text set =
    let P : Query → Type 0 = λ query. IsOf sought text query in
    if_require P (nat_le 1 (length text)) (refusal.Syntax n) _ (λ some.
    if_require P (nat_le (length text) most_formula) (refusal.Over limit.Formula n) _ (λ short.
    if_found P (formula_of text) refusal.Formula _ (λ F found.
    if_unless P (scope_refusal n (scope_fault F sought)) _ (λ none.
    let derived = formula_derives text F found in
    record {
      formula = F;
      short = leb-true _ _ short;
      derived = derived;
      scoped = scoped F sought (sorted derived.derived) set (no_fault n F sought none);
      asks = refl;
    }))))

if_weaker : {A : Type 0} (P Q : A → Type 0) (r : Result A Refusal) → ((x : A) → P x → Q x) → IfOk r P → IfOk r Q
if_weaker P Q (Ok x) k h = k x h
if_weaker P Q (Err e) k h = tt

spells_of : (r : Line) (sought : Option (List ℕ)) (query : Query) → Seeks r sought → IsOf sought (formula_text r sought) query → Spells r query
spells_of r sought query seeks h =
    record { sought = sought; formula = h.formula; seeks = seeks; short = h.short; derived = h.derived; scoped = h.scoped; asks = h.asks }

text_spells : (r : Line) (sought : Option (List ℕ)) → list_all is_set (outermost sought) ≡ true → Seeks r sought →
    IfOk (query_of r.number sought (formula_text r sought)) (λ query. Spells r query)
text_spells r sought set seeks =
    if_weaker (λ query. IsOf sought (formula_text r sought) query) (λ query. Spells r query) (query_of r.number sought (formula_text r sought))
    (λ query h. spells_of r sought query seeks h) (query_is_of r.number sought (formula_text r sought) set)

-- the set variable that a token is
record IsSetVariable (t v : List ℕ) : Type 0 where
  pub same : t ≡ v
  pub formed : is_var v ≡ true
  pub set : is_set v ≡ true

set_variable : (t v : List ℕ) → set_variable_of t ≡ Some v → IsSetVariable t v
set_variable t v h = go (is_var t) (is_set t) refl refl h
  where
    go : (formed set : Bool) → is_var t ≡ formed → is_set t ≡ set → (if formed then (if set then Some t else None) else None) ≡ Some v → IsSetVariable t v
    go true true p q h =
        let e = same_Some t v h in record { same = e; formed = ap is_var (sym e) ∙ p; set = ap is_set (sym e) ∙ q }
    go true false p q h = absurd (none-some v h)
    go false set p q h = absurd (none-some v h)

least_spells : (r : Line) → begins (codes "least") r ≡ true → IfOk (least_query r) (λ query. Spells r query)
unfolding least_query
least_spells r begun =
    let P : Query → Type 0 = λ query. Spells r query in
    if_found P (first_of (args r)) (refusal.Syntax r.number) _ (λ t first.
    if_found P (set_variable_of t) (refusal.Syntax r.number) _ (λ v variable.
    let is = set_variable t v variable in
    text_spells r (Some v) (rw is.set refl) (begun, first ∙ ap (λ t. Some t) is.same, is.formed)))

line_spells : (r : Line) → IfOk (spelled_query r) (λ query. Spells r query)
unfolding spelled_query
line_spells r = go (begins (codes "decide") r) (begins (codes "least") r) refl refl
  where
    go : (decide least : Bool) → begins (codes "decide") r ≡ decide → begins (codes "least") r ≡ least →
        IfOk (if decide then query_of r.number None (rest_of 1 (bytes_of r)) else if least then least_query r else Err (refusal.Syntax r.number))
        (λ query. Spells r query)
    go true least p q = text_spells r None refl p
    go false true p q = least_spells r q
    go false false p q = tt

-- the word `minor`, where it gives a query
pub minor_asks : (given : Query) (r : Line) (query : Query) → whole (query_line (Minor given)) r ≡ Ok query → (whole minor_line r ≡ Ok tt) × (query ≡ given)
unfolding minor_query
minor_asks given r query h = go (too_long r.text r.number) (minor_line r) h
  where
    go : (long : Option Refusal) (word : Result (Unit {0}) Refusal) → refused_or long (word >> Ok given) ≡ Ok query
        → (refused_or long word ≡ Ok tt) × (query ≡ given)
    go (Some e) word h = let x : Err e ≡ Ok query = h in absurd (cc)
    go None (Err e) h = let x : Err e ≡ Ok query = h in absurd (cc)
    go None (Ok u) h = let x : Ok given ≡ Ok query = h in (refl, cc)

pub whole_spells : (r : Line) (query : Query) → whole (query_line Spelled) r ≡ Ok query → Spells r query
whole_spells r query h = go (too_long r.text r.number) (spelled_query r) (line_spells r) h
  where
    go : (o : Option Refusal) (res : Result Query Refusal) → IfOk res (λ query. Spells r query) → refused_or o res ≡ Ok query → Spells r query
    go None res k h = subst (λ (res : Result Query Refusal). IfOk res (λ query. Spells r query)) h k
    go (Some e) res k h = let x : Err e ≡ Ok query = h in absurd (cc)

-- ---- what a line spells, it gives

some_text : (text : List ℕ) (F : Syntax) → IsTextOf F text → nat_le 1 (length text) ≡ true
unfolding lexemes finish
some_text [] F h = absurd (none-some F (run_reads [] F h.derived))
some_text (b ∷ bs) F h = le-leb 1 (length (b ∷ bs)) (omega arith)

without_fault : (o : Option (List ℕ)) (deep large : Bool) → o ≡ None → deep ≡ false → large ≡ false → fault_of o deep large ≡ None
without_fault None false false e p q = refl
without_fault None false true e p q = let x : true ≡ false = q in cc
without_fault None true large e p q = let x : true ≡ false = p in cc
without_fault (Some v) deep large e p q = absurd (none-some v (sym e))

scoped_without_fault : (F : Syntax) (sought : Option (List ℕ)) → IsScoped F sought → scope_fault F sought ≡ None
scoped_without_fault F sought h =
    without_fault _ _ _ (ap (λ (vs : List (List ℕ)). slice_get vs 0) h.bound) (le-ltb _ _ h.in_scope) (le-ltb _ _ h.size)

text_gives : (n : ℕ) (sought : Option (List ℕ)) (text : List ℕ) (F : Syntax) → length text ≤ most_formula → IsTextOf F text → IsScoped F sought →
    query_of n sought text ≡ Ok (query_for sought F)
unfolding query_of
text_gives n sought text F short derived scoped =
    rw (some_text text F derived, le-leb _ _ short, derived_formula F text derived, scoped_without_fault F sought scoped) refl

pub other_word : (a b : List ℕ) (ts : List (List ℕ)) → bytes_eq a b ≡ false → first_is b ts ≡ true → first_is a ts ≡ false
other_word a b [] e h = refl
other_word a b (t ∷ ts) e h = ap (bytes_eq a) (sym (same_bytes b t h)) ∙ e

pub whole_line : (t : LineText) (n : ℕ) (word : List ℕ) → first_is word (line_tokens (text_bytes t)) ≡ true → too_long t n ≡ None
unfolding line_tokens
whole_line (Whole bytes) n word h = refl
whole_line TooLong n word h = let x : false ≡ true = h in absurd (cc)

first_set : (v : List ℕ) → list_all is_set (outermost (Some v)) ≡ true → is_set v ≡ true
first_set v h = go (is_set v) refl h
  where
    go : (b : Bool) → is_set v ≡ b → list_all is_set (v ∷ []) ≡ true → is_set v ≡ true
    go true p h = p
    go false p h = let x : false ≡ true = sym (rw p refl) ∙ h in absurd (cc)

spelled_gives : (r : Line) (sought : Option (List ℕ)) (F : Syntax) → Seeks r sought → length (formula_text r sought) ≤ most_formula →
    IsTextOf F (formula_text r sought) → IsScoped F sought → whole (query_line Spelled) r ≡ Ok (query_for sought F)
unfolding spelled_query least_query
spelled_gives r None F seeks short derived scoped =
    rw (whole_line r.text r.number (codes "decide") seeks, seeks) (text_gives r.number None (rest_of 1 (bytes_of r)) F short derived scoped)
spelled_gives r (Some v) F seeks short derived scoped =
    rw (whole_line r.text r.number (codes "least") seeks.0, other_word (codes "decide") (codes "least") (line_tokens (bytes_of r)) refl seeks.0, seeks.0, seeks.1)
    (rw (seeks.2, first_set v scoped.free_is_set) (text_gives r.number (Some v) (rest_of 2 (bytes_of r)) F short derived scoped))

pub lines_give_what_they_spell : QueryLinesGiveWhatTheySpell
lines_give_what_they_spell r query = (
  whole_spells r query,
  (λ h. spelled_gives r h.sought h.formula h.seeks h.short h.derived h.scoped ∙ ap (λ (q : Query). Ok q) (sym h.asks)),
)
