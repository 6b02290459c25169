-- The formula of a text is the one that the grammar derives from it.
use Rattle.std.specs.Prelude.{◌≡◌, refl, ℕ, Bool, true, false, ◌||◌, List, Option, Some, None, Err, if◌then◌else◌}
use Rattle.std.proofs.Common.{ap, subst, ◌∙◌}
use Rattle.mm_formula.specs.Syntax.{Syntax}
use Rattle.mm_formula_text.specs.Answers.{Answers}
use Rattle.mm_formula_text.specs.declared.fault.ReadFault.{ReadFault}
use Rattle.mm_formula_text.specs.declared.fault.ReadFault.TheVariants as fault
use Rattle.mm_formula_text.specs.Grammar.{IsTextOf, begins_in_blank, ends_in_blank}
use Rattle.mm_formula_text.specs.Parser.{run, start}
use Rattle.mm_formula_text.specs.Tokens.{tokens}
use Rattle.mm_formula_text.proofs.ReadsAllLemmas.{run_reads}
use Rattle.mm_formula_text.proofs.ReadsOnlyLemmas.{run_derives}
use Rattle.mm_header.specs.Queries.{formula_of}

pub derived_formula : (F : Syntax) (text : List ℕ) → IsTextOf F text → formula_of text ≡ Some F
unfolding formula_of
derived_formula F text h =
    ap (λ (c : Bool). if c || ends_in_blank text then None else run start (tokens text)) h.first
    ∙ ap (λ (c : Bool). if c then None else run start (tokens text)) h.last
    ∙ run_reads (tokens text) F h.derived

none_derived : (text : List ℕ) (b e : Bool) (o : Option Syntax) → begins_in_blank text ≡ b → ends_in_blank text ≡ e → run start (tokens text) ≡ o
    → ((F : Syntax) → IsTextOf F text → ⊥) → (if b || e then None else o) ≡ None
none_derived text true e o p q r never = refl
none_derived text false true o p q r never = refl
none_derived text false false None p q r never = refl
none_derived text false false (Some F) p q r never = absurd (never F (record { first = p; last = q; derived = run_derives (tokens text) F r }))

pub no_formula : (text : List ℕ) → ((F : Syntax) → IsTextOf F text → ⊥) → formula_of text ≡ None
unfolding formula_of
no_formula text never = none_derived text (begins_in_blank text) (ends_in_blank text) (run start (tokens text)) refl refl refl never

-- the same, from what a reader answers
pub no_formula_read : (text : List ℕ) (e : ReadFault) → e ≡ fault.Syntax → ((F : Syntax) → IsTextOf F text → Answers (Err e) F) → formula_of text ≡ None
no_formula_read text e is h = no_formula text (λ F t. subst (λ (x : ReadFault). Answers (Err x) F) is (h F t))
