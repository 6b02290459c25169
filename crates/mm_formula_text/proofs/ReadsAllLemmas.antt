-- The automaton reads each text that the grammar derives a formula from.
use Rattle.std.proofs.Common.{◌≡◌, ℕ, ◌<◌, ◌≤◌, List, [], ◌∷◌, ◌++◌, Some, refl, sym, ap, ◌∙◌, arith, append_assoc}
use Rattle.std.specs.Option.{option_and_then}
use Rattle.std.proofs.lemmas.List.{append-nil}
use Rattle.mm_formula.specs.Syntax as formula
use Rattle.mm_formula.specs.declared.formula.Term.{Term}
use Rattle.mm_formula.specs.declared.formula.Connective as joint
use Rattle.mm_formula.specs.declared.formula.Connective.TheVariants as connective
use Rattle.mm_formula_text.specs.declared.token.Quantifier.TheVariants as quantifier
use Rattle.mm_formula_text.specs.declared.token.Relation.TheVariants as relation
use Rattle.mm_formula_text.specs.declared.token.Token.{Token}
use Rattle.mm_formula_text.specs.declared.token.Token.TheVariants.{Connective, Const, Ind, Relation, Open, Close, Bar, Star, Variable}
use Rattle.mm_formula_text.specs.Grammar.{Level, Derives, DerivesTerm, DerivesUnion}
use Rattle.mm_formula_text.specs.Grammar.Level.{Equivalence, Implication, Disjunction, Conjunction, Unary}
use Rattle.mm_formula_text.specs.Parser.{Frame, level, awaits, hole, close, joined, leave, goes, atom, step, finish, whole, run, at, start}
use Rattle.mm_formula_text.specs.Parser.Frame.{Negation, Binder, Parenthesis, Left}
use Rattle.mm_formula_text.specs.Parser.Mode.{Operand, TermBegins, Parts, Complete}
use Rattle.mm_formula_text.proofs.Precedence.{rank, close_stays, close_pops}

-- how tightly a connective may bind, for a formula of the level to be complete before it
abbrev pub ends_before : Level → ℕ
ends_before Equivalence = 0
ends_before Implication = 0
ends_before Disjunction = 2
ends_before Conjunction = 3
ends_before Unary = 3

-- From these frames the tokens are read, and what is then pending is the formula, as soon as it is complete.
pub record Reads (frames : List Frame) (ts : List Token) (F : formula.Syntax) (l : Level) : Type 0 where
  pub pending : List Frame
  pub last : formula.Syntax
  pub runs : (rest : List Token) → run (at frames Operand) (ts ++ rest) ≡ run (at pending (Complete last)) rest
  pub closes : (n : ℕ) → n ≤ ends_before l → close n pending last ≡ close n frames F

pub run_joined : (c : joint.Connective) (pending frames : List Frame) (F A : formula.Syntax) (rest : List Token) → close (level c) pending F ≡ (frames, A)
    → run (at pending (Complete F)) (Connective c ∷ rest) ≡ run (at (Left c A ∷ frames) Operand) rest
unfolding step
run_joined c pending frames F A rest e = ap (λ p. option_and_then (λ next. run next rest) (joined c p)) e

pub run_left : (pending frames : List Frame) (F A : formula.Syntax) (rest : List Token) → close 0 pending F ≡ (Parenthesis ∷ frames, A)
    → run (at pending (Complete F)) (Close ∷ rest) ≡ run (at frames (Complete A)) rest
unfolding step
run_left pending frames F A rest e = ap (λ p. option_and_then (λ next. run next rest) (leave p)) e

pub looser : (l m : Level) (frames : List Frame) (ts : List Token) (F : formula.Syntax) → ends_before l ≤ ends_before m → Reads frames ts F m → Reads frames ts F l
looser l m frames ts F h r = record { pending = r.pending; last = r.last; runs = r.runs; closes = λ n le. r.closes n (omega (arith, le, h)) }

pub binary : (c : joint.Connective) (l la lb : Level) (frames : List Frame) (ts us : List Token) (A B : formula.Syntax)
    → hole frames ≤ level c → level c ≤ ends_before la → ends_before l < awaits (Left c A) → ends_before l ≤ ends_before lb
    → Reads frames ts A la → Reads (Left c A ∷ frames) us B lb → Reads frames (ts ++ Connective c ∷ us) (formula.Syntax.Bin c A B) l
binary c l la lb frames ts us A B h a p b first second = record {
  pending = second.pending;
  last = second.last;
  runs = λ rest. ap (run (at frames Operand)) (append_assoc ts (Connective c ∷ us) rest) ∙ first.runs (Connective c ∷ us ++ rest)
      ∙ run_joined c first.pending frames first.last A (us ++ rest) (first.closes (level c) a ∙ close_stays (level c) frames A h)
      ∙ second.runs rest;
  closes = λ n le. second.closes n (omega (arith, le, b)) ∙ close_pops n (Left c A) frames B (omega (arith, le, p));
}

-- a term up to its last part
pub reads_union : {ts : List Token} {t : Term} → DerivesUnion ts t → (frames : List Frame) (rest : List Token)
    → run (at frames TermBegins) (ts ++ rest) ≡ run (at frames (Parts t)) rest
unfolding step
reads_union DerivesUnion.variable frames rest = refl
reads_union DerivesUnion.star frames rest = refl
reads_union (DerivesUnion.bar_variable {ts = ts} v d) frames rest =
    ap (run (at frames TermBegins)) (append_assoc ts (Bar ∷ Variable v ∷ []) rest) ∙ reads_union d frames (Bar ∷ Variable v ∷ rest)
reads_union (DerivesUnion.bar_star {ts = ts} d) frames rest =
    ap (run (at frames TermBegins)) (append_assoc ts (Bar ∷ Star ∷ []) rest) ∙ reads_union d frames (Bar ∷ Star ∷ rest)

pub reads_term : {ts : List Token} {t : Term} → DerivesTerm ts t → (frames : List Frame) (rest : List Token)
    → run (at frames TermBegins) (ts ++ Close ∷ rest) ≡ run (at frames (Complete (formula.Syntax.Ind t))) rest
unfolding step
reads_term DerivesTerm.zero_sign frames rest = refl
reads_term (DerivesTerm.union d) frames rest = reads_union d frames (Close ∷ rest)

-- an atom is complete at once
pub at_once : (frames : List Frame) (ts : List Token) (F : formula.Syntax) (l : Level)
    → ((rest : List Token) → run (at frames Operand) (ts ++ rest) ≡ run (at frames (Complete F)) rest) → Reads frames ts F l
at_once frames ts F l h = record { pending = frames; last = F; runs = h; closes = λ n le. refl }

pub reads_atom : (frames : List Frame) (v w : List ℕ) (r : _) (F : formula.Syntax) → atom v r w ≡ Some F → Reads frames (Variable v ∷ Relation r ∷ Variable w ∷ []) F Unary
unfolding step
reads_atom frames v w r F e = at_once frames (Variable v ∷ Relation r ∷ Variable w ∷ []) F Unary
    (λ rest. ap (λ o. option_and_then (λ next. run next rest) (option_and_then (λ G. goes frames (Complete G)) o)) e)

pub reads : {l : Level} {ts : List Token} {F : formula.Syntax} → Derives l ts F → (frames : List Frame) → hole frames ≤ rank l → Reads frames ts F l
unfolding step
reads (Derives.iff {ts} {us} {A} {B} a b) frames h =
    binary connective.Iff Equivalence Equivalence Implication frames ts us A B h (omega arith) (omega arith) (omega arith)
    (reads a frames h) (reads b (Left connective.Iff A ∷ frames) (omega arith))
reads (Derives.implication {ts} {A} a) frames h = looser Equivalence Implication frames ts A (omega arith) (reads a frames (omega (arith, h)))
reads (Derives.implies {ts} {us} {A} {B} a b) frames h =
    binary connective.Implies Implication Disjunction Implication frames ts us A B h (omega arith) (omega arith) (omega arith)
    (reads a frames (omega (arith, h))) (reads b (Left connective.Implies A ∷ frames) (omega arith))
reads (Derives.disjunction {ts} {A} a) frames h = looser Implication Disjunction frames ts A (omega arith) (reads a frames (omega (arith, h)))
reads (Derives.or {ts} {us} {A} {B} a b) frames h =
    binary connective.Or Disjunction Disjunction Conjunction frames ts us A B h (omega arith) (omega arith) (omega arith)
    (reads a frames h) (reads b (Left connective.Or A ∷ frames) (omega arith))
reads (Derives.conjunction {ts} {A} a) frames h = looser Disjunction Conjunction frames ts A (omega arith) (reads a frames (omega (arith, h)))
reads (Derives.and {ts} {us} {A} {B} a b) frames h =
    binary connective.And Conjunction Conjunction Unary frames ts us A B h (omega arith) (omega arith) (omega arith)
    (reads a frames h) (reads b (Left connective.And A ∷ frames) (omega arith))
reads (Derives.unary {ts} {A} a) frames h = looser Conjunction Unary frames ts A (omega arith) (reads a frames (omega (arith, h)))
reads (Derives.negation {ts} {A} a) frames h =
    let r = reads a (Negation ∷ frames) (omega arith) in
    record {
      pending = r.pending;
      last = r.last;
      runs = r.runs;
      closes = λ n le. r.closes n le ∙ close_pops n Negation frames A (omega (arith, le));
    }
reads (Derives.ex {ts} {v} {A} a) frames h =
    let r = reads a (Binder quantifier.Ex v ∷ frames) (omega arith) in
    record {
      pending = r.pending;
      last = r.last;
      runs = r.runs;
      closes = λ n le. r.closes n le ∙ close_pops n (Binder quantifier.Ex v) frames A (omega (arith, le));
    }
reads (Derives.all {ts} {v} {A} a) frames h =
    let r = reads a (Binder quantifier.All v ∷ frames) (omega arith) in
    record {
      pending = r.pending;
      last = r.last;
      runs = r.runs;
      closes = λ n le. r.closes n le ∙ close_pops n (Binder quantifier.All v) frames A (omega (arith, le));
    }
reads (Derives.parentheses {ts} {A} a) frames h =
    let r = reads a (Parenthesis ∷ frames) (omega arith) in
    at_once frames (Open ∷ ts ++ Close ∷ []) A Unary
    (λ rest. ap (run (at (Parenthesis ∷ frames) Operand)) (append_assoc ts (Close ∷ []) rest) ∙ r.runs (Close ∷ rest)
    ∙ run_left r.pending frames r.last A rest (r.closes 0 (omega arith) ∙ close_stays 0 (Parenthesis ∷ frames) A (omega arith)))
reads (Derives.constant {b}) frames h = at_once frames (Const b ∷ []) (formula.Syntax.Const b) Unary (λ rest. refl)
reads (Derives.independent {ts} {t} d) frames h =
    at_once frames (Ind ∷ Open ∷ ts ++ Close ∷ []) (formula.Syntax.Ind t) Unary
    (λ rest. ap (run (at frames TermBegins)) (append_assoc ts (Close ∷ []) rest) ∙ reads_term d frames rest)
reads (Derives.member {x} {a} p q) frames h = reads_atom frames x a relation.In (formula.Syntax.Member x a) (rw (p, q) refl)
reads (Derives.same_element {x} {y} p q) frames h = reads_atom frames x y relation.Equals (formula.Syntax.SameElem x y) (rw (p, q) refl)
reads (Derives.subset {a} {b} p q) frames h = reads_atom frames a b relation.Sub (formula.Syntax.Sub a b) (rw (p, q) refl)
reads (Derives.same_set {a} {b} p q) frames h = reads_atom frames a b relation.Equals (formula.Syntax.SameSet a b) (rw (p, q) refl)

-- a formula that the tokens derive is the one that the automaton makes of them
pub run_reads : (ts : List Token) (F : formula.Syntax) → Derives Equivalence ts F → run start ts ≡ Some F
unfolding finish
run_reads ts F d =
    let r = reads d [] (omega arith) in
    ap (run start) (sym (append-nil ts)) ∙ r.runs [] ∙ ap whole (r.closes 0 (omega arith))
