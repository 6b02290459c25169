-- Texts, what they derive and what the reader answers.
use Rattle.std.proofs.Common.{◌≡◌, ℕ, suc, ◌-◌, ◌≤◌, true, false, ◌&&◌, List, [], ◌∷◌, length, get_or, Some, None, Result, Ok, Err, refl, sym, ap, ◌∙◌, arith}
use Rattle.std.specs.Prelude.{IfOk}
use Rattle.std.proofs.lemmas.Bool.{and_from}
use Rattle.mm_formula.specs.Syntax as formula
use Rattle.mm_formula.specs.Syntax.{syntax_of, is_well_sorted}
use Rattle.mm_formula.specs.declared.formula.Formula.{Formula}
use Rattle.mm_formula_text.specs.declared.fault.ReadFault.{ReadFault}
use Rattle.mm_formula_text.specs.declared.fault.ReadFault.TheVariants as fault
use Rattle.mm_formula_text.specs.declared.token.Token.{Token}
use Rattle.mm_formula_text.specs.Tokens.{is_blank, tokens}
use Rattle.mm_formula_text.specs.Grammar.{Level, Derives, IsTextOf, begins_in_blank, ends_in_blank}
use Rattle.mm_formula_text.specs.Answers.{Answers}
use Rattle.mm_formula_text.specs.Parser.{run, start}
use Rattle.mm_formula_text.specs.ParserValues.{Gives}
use Rattle.mm_formula_text.proofs.ReadsAllLemmas.{run_reads}
use Rattle.mm_formula_text.proofs.ReadsOnlyLemmas.{run_derives, same_some}

-- the last byte of a text, by its place
pub last_byte : (text : List ℕ) → 1 ≤ length text → ends_in_blank text ≡ is_blank (get_or text (length text - 1) 0)
last_byte [] h = absurd (omega (arith, h))
last_byte (b ∷ []) h = refl
last_byte (b ∷ c ∷ bs) h =
    let e : length (c ∷ bs) - 1 ≡ length bs = omega arith in
    let f : length (b ∷ c ∷ bs) - 1 ≡ suc (length bs) = omega arith in
    last_byte (c ∷ bs) (omega arith) ∙ ap (λ (n : ℕ). is_blank (get_or (c ∷ bs) n 0)) e ∙ sym (ap (λ (n : ℕ). is_blank (get_or (b ∷ c ∷ bs) n 0)) f)

-- ---- what is derived is well sorted

pub both_sorted : (F G : formula.Syntax) → is_well_sorted F ≡ true → is_well_sorted G ≡ true → is_well_sorted F && is_well_sorted G ≡ true
both_sorted F G f g = and_from (is_well_sorted F) (is_well_sorted G) f g

pub sorted : {l : Level} {ts : List Token} {F : formula.Syntax} → Derives l ts F → is_well_sorted F ≡ true
sorted (Derives.iff {A = A} {B = B} a b) = both_sorted A B (sorted a) (sorted b)
sorted (Derives.implication a) = sorted a
sorted (Derives.implies {A = A} {B = B} a b) = both_sorted A B (sorted a) (sorted b)
sorted (Derives.disjunction a) = sorted a
sorted (Derives.or {A = A} {B = B} a b) = both_sorted A B (sorted a) (sorted b)
sorted (Derives.conjunction a) = sorted a
sorted (Derives.and {A = A} {B = B} a b) = both_sorted A B (sorted a) (sorted b)
sorted (Derives.unary a) = sorted a
sorted (Derives.negation a) = sorted a
sorted (Derives.ex a) = sorted a
sorted (Derives.all a) = sorted a
sorted (Derives.parentheses a) = sorted a
sorted Derives.constant = refl
sorted (Derives.independent d) = refl
sorted (Derives.member p q) = rw (p, q) refl
sorted (Derives.same_element p q) = rw (p, q) refl
sorted (Derives.subset p q) = rw (p, q) refl
sorted (Derives.same_set p q) = rw (p, q) refl

-- ---- what the reader answers

pub one : (F G : formula.Syntax) (text : List ℕ) → IsTextOf F text → IsTextOf G text → F ≡ G
one F G text f g = same_some F G (sym (run_reads (tokens text) F f.derived) ∙ run_reads (tokens text) G g.derived)

-- What a reader answers, for each text that no blank begins or ends.
pub record Right (text : List ℕ) (r : Result Formula ReadFault) : Type 0 where
  pub derived : IfOk r (λ F. IsTextOf (syntax_of F) text)
  pub only : (F : formula.Syntax) → IsTextOf F text → Answers r F
  pub sorted : IfOk r (λ F. is_well_sorted (syntax_of F) ≡ true)

pub right : (text : List ℕ) (r : Result Formula ReadFault) → begins_in_blank text ≡ false → ends_in_blank text ≡ false
    → Gives r (run start (tokens text)) → Right text r
right text (Ok F) first last g =
    let d = run_derives (tokens text) (syntax_of F) g in
    record {
      derived = record { first = first; last = last; derived = d };
      only = λ G t. same_some (syntax_of F) G (sym g ∙ run_reads (tokens text) G t.derived);
      sorted = sorted d;
    }
right text (Err fault.Syntax) first last g =
    record { derived = tt; only = λ G t. absurd (let e : None ≡ Some G = sym g ∙ run_reads (tokens text) G t.derived in cc); sorted = tt }
right text (Err fault.NoMemory) first last g = record { derived = tt; only = λ G t. tt; sorted = tt }
