-- The automaton reads no text but those that the grammar derives a formula from.
use Rattle.std.proofs.Common.{◌≡◌, ℕ, ◌<◌, ◌≤◌, Bool, true, false, inl, inr, List, [], ◌∷◌, ◌++◌, Some, None, refl, sym, ap, ◌∙◌, subst, arith, append_assoc}
use Rattle.std.specs.Prelude.{nat_lt}
use Rattle.std.proofs.lemmas.Option.{option_and_then_some, none-some}
use Rattle.std.proofs.lemmas.List.{append-nil}
use Rattle.std.proofs.lemmas.Bool.{cases_Bool, ltb-true, ltb-false}
use Rattle.mm_formula.specs.Variables.{is_set}
use Rattle.mm_formula.specs.Syntax as formula
use Rattle.mm_formula.specs.declared.formula.Term.{Term}
use Rattle.mm_formula.specs.declared.formula.Connective as joint
use Rattle.mm_formula.specs.declared.formula.Connective.TheVariants as connective
use Rattle.mm_formula_text.specs.declared.token.Quantifier as quantifiers
use Rattle.mm_formula_text.specs.declared.token.Quantifier.TheVariants as quantifier
use Rattle.mm_formula_text.specs.declared.token.Relation as relations
use Rattle.mm_formula_text.specs.declared.token.Relation.TheVariants as relation
use Rattle.mm_formula_text.specs.declared.token.Token.{Token}
use Rattle.mm_formula_text.specs.declared.token.Token.TheVariants.{Connective, Not, Quantifier, Const, Ind, Relation, Open, Close, Bar, Star, Zero, Variable, Unknown}
use Rattle.mm_formula_text.specs.Grammar.{Level, Derives, DerivesTerm, DerivesUnion, nothing, mention, mention_all}
use Rattle.mm_formula_text.specs.Grammar.Level.{Equivalence, Implication, Conjunction, Unary}
use Rattle.mm_formula_text.specs.Parser.{Frame, Mode, State, level, awaits, around, hole, close, atom, goes, operand, bound, first, second, independent, term_begins, ends_term, parts, next_part, leave, joined, complete, step, finish, whole, run, at, start}
use Rattle.mm_formula_text.specs.Parser.Frame.{Negation, Binder, Parenthesis, Left}
use Rattle.mm_formula_text.specs.Parser.Mode.{Operand, Bound, First, Second, Independent, TermBegins, Nothing, Parts, NextPart, Complete}
use Rattle.mm_formula_text.proofs.Precedence.{rank, left, right, result, result_rank, combined, loosened, close_stays, close_pops}

-- ---- which tokens a state has after it

-- the level of the formula that a frame makes
abbrev pub made : Frame → Level
made Parenthesis = Unary
made Negation = Unary
made (Binder q v) = Unary
made (Left c A) = result c

-- the tokens with which a frame begins
abbrev pub Begins : Frame → List Token → Type 0
Begins Parenthesis own = own ≡ Open ∷ []
Begins Negation own = own ≡ Not ∷ []
Begins (Binder q v) own = own ≡ Quantifier q ∷ Variable v ∷ []
Begins (Left c A) own = (ts : List Token) × (own ≡ ts ++ Connective c ∷ []) × Derives (left c) ts A

abbrev pub Spans : List Frame → List Token → Type 0
Spans [] ss = ss ≡ []
Spans (f ∷ frames) ss = (before : List Token) × (own : List Token) × (ss ≡ before ++ own) × Begins f own × (hole frames ≤ rank (made f)) × Spans frames before

-- the tokens with which an operand has begun
abbrev pub After : Mode → List Token → Type 0
After Operand own = own ≡ []
After (Bound q) own = own ≡ Quantifier q ∷ []
After (First v) own = own ≡ Variable v ∷ []
After (Second v r) own = own ≡ Variable v ∷ Relation r ∷ []
After Independent own = own ≡ Ind ∷ []
After TermBegins own = own ≡ Ind ∷ Open ∷ []
After Nothing own = own ≡ Ind ∷ Open ∷ Zero ∷ []
After (Parts t) own = (ts : List Token) × (own ≡ Ind ∷ Open ∷ ts) × DerivesUnion ts t
After (NextPart t) own = (ts : List Token) × (own ≡ Ind ∷ Open ∷ ts ++ Bar ∷ []) × DerivesUnion ts t
After (Complete F) own = Derives Unary own F

pub record Reached (ss : List Token) (s : State) : Type 0 where
  pub before : List Token
  pub own : List Token
  pub split : ss ≡ before ++ own
  pub spans : Spans s.frames before
  pub after : After s.mode own

pub hole_below : (frames : List Frame) → hole frames ≤ 4
hole_below [] = omega arith
hole_below (Parenthesis ∷ frames) = omega arith
hole_below (Negation ∷ frames) = omega arith
hole_below (Binder q v ∷ frames) = omega arith
hole_below (Left connective.Iff A ∷ frames) = omega arith
hole_below (Left connective.Implies A ∷ frames) = omega arith
hole_below (Left connective.Or A ∷ frames) = omega arith
hole_below (Left connective.And A ∷ frames) = omega arith

-- ---- closing

pub joined_with : (c : joint.Connective) (own us : List Token) (A B : formula.Syntax) → Begins (Left c A) own → Derives (right c) us B
    → Derives (result c) (own ++ us) (formula.Syntax.Bin c A B)
joined_with c own us A B b d =
    let D : List Token → Type 0 = λ ts. Derives (result c) ts (formula.Syntax.Bin c A B) in
    subst D (sym (ap (λ (z : List Token). z ++ us) b.1 ∙ append_assoc b.0 (Connective c ∷ []) us)) (combined c b.2 d)

-- a frame with the formula that it awaited
pub filled : (f : Frame) (l : Level) (own us : List Token) (B : formula.Syntax) → 0 < awaits f → awaits f ≤ rank l → Begins f own → Derives l us B
    → Derives (made f) (own ++ us) (around f B)
filled Parenthesis l own us B p h b d = absurd (omega (arith, p))
filled Negation l own us B p h b d =
    let D : List Token → Type 0 = λ z. Derives Unary (z ++ us) (formula.Syntax.Not B) in subst D (sym b) (Derives.negation (loosened Unary l h d))
filled (Binder quantifier.Ex v) l own us B p h b d =
    let D : List Token → Type 0 = λ z. Derives Unary (z ++ us) (formula.Syntax.Ex v B) in subst D (sym b) (Derives.ex (loosened Unary l h d))
filled (Binder quantifier.All v) l own us B p h b d =
    let D : List Token → Type 0 = λ z. Derives Unary (z ++ us) (formula.Syntax.All v B) in subst D (sym b) (Derives.all (loosened Unary l h d))
filled (Left connective.Iff A) l own us B p h b d = joined_with connective.Iff own us A B b (loosened Implication l h d)
filled (Left connective.Implies A) l own us B p h b d = joined_with connective.Implies own us A B b (loosened Implication l h d)
filled (Left connective.Or A) l own us B p h b d = joined_with connective.Or own us A B b (loosened Conjunction l h d)
filled (Left connective.And A) l own us B p h b d = joined_with connective.And own us A B b (loosened Unary l h d)

pub record Closed (least strength : ℕ) (ss us : List Token) (p : List Frame × formula.Syntax) : Type 0 where
  pub before : List Token
  pub own : List Token
  pub of : Level
  pub split : ss ++ us ≡ before ++ own
  pub spans : Spans p.0 before
  pub derived : Derives of own p.1
  pub fits : hole p.0 ≤ rank of
  pub strong : strength ≤ rank of
  pub stops : hole p.0 ≤ least

-- What is closed before a connective or an end is a formula, and binds as tightly as each frame that is closed makes.
pub closed : (least strength : ℕ) (makes : (f : Frame) → least < awaits f → strength ≤ rank (made f))
    (frames : List Frame) (l : Level) (ss us : List Token) (F : formula.Syntax)
    → Spans frames ss → hole frames ≤ rank l → strength ≤ rank l → Derives l us F → Closed least strength ss us (close least frames F)
closed least strength makes [] l ss us F s h m d = record { before = ss; own = us; of = l; split = refl; spans = s; derived = d; fits = h; strong = m; stops = omega arith }
closed least strength makes (f ∷ frames) l ss us F s h m d = elim (cases_Bool (nat_lt least (awaits f))) [
  | inl t ↦
      let above : least < awaits f = ltb-true least (awaits f) t in
      let r = closed least strength makes frames (made f) s.0 (s.1 ++ us) (around f F) s.5 s.4 (makes f above)
      (filled f l s.1 us F (omega (arith, above)) h s.3 d) in
      let C : List Frame × formula.Syntax → Type 0 = λ p. Closed least strength ss us p in
      subst C (sym (close_pops least f frames F above)) (record {
        before = r.before;
        own = r.own;
        of = r.of;
        split = ap (λ (z : List Token). z ++ us) s.2 ∙ append_assoc s.0 s.1 us ∙ r.split;
        spans = r.spans;
        derived = r.derived;
        fits = r.fits;
        strong = r.strong;
        stops = r.stops;
      })
  | inr e ↦
      let below : awaits f ≤ least = ltb-false least (awaits f) e in
      let C : List Frame × formula.Syntax → Type 0 = λ p. Closed least strength ss us p in
      subst C (sym (close_stays least (f ∷ frames) F below)) (record {
        before = ss;
        own = us;
        of = l;
        split = refl;
        spans = s;
        derived = d;
        fits = h;
        strong = m;
        stops = below;
      })
]

-- ---- one token more

pub same_some : {A : Type 0} (x y : A) → Some x ≡ Some y → x ≡ y
same_some x y h = cc

-- the same frames, and the operand has the token too
pub stays : (ss before own : List Token) (t : Token) (frames : List Frame) (mode : Mode) (s : State) → ss ≡ before ++ own → Spans frames before
    → After mode (own ++ t ∷ []) → goes frames mode ≡ Some s → Reached (ss ++ t ∷ []) s
stays ss before own t frames mode s e spans after h =
    let R : State → Type 0 = Reached (ss ++ t ∷ []) in
    subst R (same_some (at frames mode) s h) (record {
      before = before;
      own = own ++ t ∷ [];
      split = ap (λ (z : List Token). z ++ t ∷ []) e ∙ append_assoc before own (t ∷ []);
      spans = spans;
      after = after;
    })

-- a new frame, and an operand begins
pub opens : (ss before own : List Token) (t : Token) (f : Frame) (frames : List Frame) (s : State) → ss ≡ before ++ own → Spans frames before
    → Begins f (own ++ t ∷ []) → hole frames ≤ rank (made f) → goes (f ∷ frames) Operand ≡ Some s → Reached (ss ++ t ∷ []) s
opens ss before own t f frames s e spans begins fits h =
    let R : State → Type 0 = Reached (ss ++ t ∷ []) in
    subst R (same_some (at (f ∷ frames) Operand) s h) (record {
      before = before ++ (own ++ t ∷ []);
      own = [];
      split = ap (λ (z : List Token). z ++ t ∷ []) e ∙ append_assoc before own (t ∷ []) ∙ sym (append-nil (before ++ (own ++ t ∷ [])));
      spans = (before, own ++ t ∷ [], refl, begins, fits, spans);
      after = refl;
    })

-- the tokens of an operand with one more
abbrev pub more : (own ts : List Token) (t : Token) → own ≡ ts → own ++ t ∷ [] ≡ ts ++ t ∷ []
more own ts t e = ap (λ (z : List Token). z ++ t ∷ []) e

pub operand_reached : (ss before own : List Token) (t : Token) (frames : List Frame) (s : State) → ss ≡ before ++ own → Spans frames before
    → own ≡ [] → operand frames t ≡ Some s → Reached (ss ++ t ∷ []) s
operand_reached ss before own Not frames s e spans b h = opens ss before own Not Negation frames s e spans (more own [] Not b) (hole_below frames) h
operand_reached ss before own (Quantifier q) frames s e spans b h = stays ss before own (Quantifier q) frames (Bound q) s e spans (more own [] (Quantifier q) b) h
operand_reached ss before own Open frames s e spans b h = opens ss before own Open Parenthesis frames s e spans (more own [] Open b) (hole_below frames) h
operand_reached ss before own (Const v) frames s e spans b h =
    let D : List Token → Type 0 = λ ts. Derives Unary ts (formula.Syntax.Const v) in
    stays ss before own (Const v) frames (Complete (formula.Syntax.Const v)) s e spans (subst D (sym (more own [] (Const v) b)) Derives.constant) h
operand_reached ss before own (Variable v) frames s e spans b h = stays ss before own (Variable v) frames (First v) s e spans (more own [] (Variable v) b) h
operand_reached ss before own Ind frames s e spans b h = stays ss before own Ind frames Independent s e spans (more own [] Ind b) h
operand_reached ss before own (Connective c) frames s e spans b h = absurd (none-some s h)
operand_reached ss before own (Relation r) frames s e spans b h = absurd (none-some s h)
operand_reached ss before own Close frames s e spans b h = absurd (none-some s h)
operand_reached ss before own Bar frames s e spans b h = absurd (none-some s h)
operand_reached ss before own Star frames s e spans b h = absurd (none-some s h)
operand_reached ss before own Zero frames s e spans b h = absurd (none-some s h)
operand_reached ss before own Unknown frames s e spans b h = absurd (none-some s h)

pub bound_reached : (ss before own : List Token) (t : Token) (frames : List Frame) (q : quantifiers.Quantifier) (s : State) → ss ≡ before ++ own → Spans frames before
    → own ≡ Quantifier q ∷ [] → bound frames q t ≡ Some s → Reached (ss ++ t ∷ []) s
bound_reached ss before own (Variable v) frames q s e spans b h =
    opens ss before own (Variable v) (Binder q v) frames s e spans (more own (Quantifier q ∷ []) (Variable v) b) (hole_below frames) h
bound_reached ss before own t frames q s e spans b h = absurd (none-some s h)

pub first_reached : (ss before own : List Token) (t : Token) (frames : List Frame) (v : List ℕ) (s : State) → ss ≡ before ++ own → Spans frames before
    → own ≡ Variable v ∷ [] → first frames v t ≡ Some s → Reached (ss ++ t ∷ []) s
first_reached ss before own (Relation r) frames v s e spans b h =
    stays ss before own (Relation r) frames (Second v r) s e spans (more own (Variable v ∷ []) (Relation r) b) h
first_reached ss before own t frames v s e spans b h = absurd (none-some s h)

-- the atom of two variables
pub is_atom : (v : List ℕ) (r : relations.Relation) (w : List ℕ) (F G : formula.Syntax) → atom v r w ≡ Some F → atom v r w ≡ Some G
    → Derives Unary (Variable v ∷ Relation r ∷ Variable w ∷ []) F → Derives Unary (Variable v ∷ Relation r ∷ Variable w ∷ []) G
is_atom v r w F G f g d = let D : formula.Syntax → Type 0 = Derives Unary (Variable v ∷ Relation r ∷ Variable w ∷ []) in subst D (same_some F G (sym f ∙ g)) d

pub no_atom : (v : List ℕ) (r : relations.Relation) (w : List ℕ) (G : formula.Syntax) → atom v r w ≡ None → atom v r w ≡ Some G
    → Derives Unary (Variable v ∷ Relation r ∷ Variable w ∷ []) G
no_atom v r w G n g = absurd (none-some G (sym n ∙ g))

pub atom_derived : (v : List ℕ) (r : relations.Relation) (w : List ℕ) (x y : Bool) → is_set v ≡ x → is_set w ≡ y → (F : formula.Syntax) → atom v r w ≡ Some F
    → Derives Unary (Variable v ∷ Relation r ∷ Variable w ∷ []) F
atom_derived v relation.In w false true p q F h = is_atom v relation.In w (formula.Syntax.Member v w) F (rw (p, q) refl) h (Derives.member p q)
atom_derived v relation.In w false false p q F h = no_atom v relation.In w F (rw (p, q) refl) h
atom_derived v relation.In w true y p q F h = no_atom v relation.In w F (rw p refl) h
atom_derived v relation.Sub w true true p q F h = is_atom v relation.Sub w (formula.Syntax.Sub v w) F (rw (p, q) refl) h (Derives.subset p q)
atom_derived v relation.Sub w true false p q F h = no_atom v relation.Sub w F (rw (p, q) refl) h
atom_derived v relation.Sub w false y p q F h = no_atom v relation.Sub w F (rw p refl) h
atom_derived v relation.Equals w true true p q F h = is_atom v relation.Equals w (formula.Syntax.SameSet v w) F (rw (p, q) refl) h (Derives.same_set p q)
atom_derived v relation.Equals w false false p q F h = is_atom v relation.Equals w (formula.Syntax.SameElem v w) F (rw (p, q) refl) h (Derives.same_element p q)
atom_derived v relation.Equals w true false p q F h = no_atom v relation.Equals w F (rw (p, q) refl) h
atom_derived v relation.Equals w false true p q F h = no_atom v relation.Equals w F (rw (p, q) refl) h

pub second_reached : (ss before own : List Token) (t : Token) (frames : List Frame) (v : List ℕ) (r : relations.Relation) (s : State) → ss ≡ before ++ own → Spans frames before
    → own ≡ Variable v ∷ Relation r ∷ [] → second frames v r t ≡ Some s → Reached (ss ++ t ∷ []) s
second_reached ss before own (Variable w) frames v r s e spans b h =
    option_and_then_some (λ F. goes frames (Complete F)) (atom v r w) s h (λ F is gone.
    let D : List Token → Type 0 = λ ts. Derives Unary ts F in
    stays ss before own (Variable w) frames (Complete F) s e spans
    (subst D (sym (more own (Variable v ∷ Relation r ∷ []) (Variable w) b)) (atom_derived v r w (is_set v) (is_set w) refl refl F is)) gone)
second_reached ss before own t frames v r s e spans b h = absurd (none-some s h)

pub independent_reached : (ss before own : List Token) (t : Token) (frames : List Frame) (s : State) → ss ≡ before ++ own → Spans frames before
    → own ≡ Ind ∷ [] → independent frames t ≡ Some s → Reached (ss ++ t ∷ []) s
independent_reached ss before own Open frames s e spans b h = stays ss before own Open frames TermBegins s e spans (more own (Ind ∷ []) Open b) h
independent_reached ss before own t frames s e spans b h = absurd (none-some s h)

pub term_begins_reached : (ss before own : List Token) (t : Token) (frames : List Frame) (s : State) → ss ≡ before ++ own → Spans frames before
    → own ≡ Ind ∷ Open ∷ [] → term_begins frames t ≡ Some s → Reached (ss ++ t ∷ []) s
term_begins_reached ss before own Zero frames s e spans b h = stays ss before own Zero frames Nothing s e spans (more own (Ind ∷ Open ∷ []) Zero b) h
term_begins_reached ss before own (Variable v) frames s e spans b h =
    stays ss before own (Variable v) frames (Parts (record { whole = false; vars = v ∷ [] })) s e spans
    (Variable v ∷ [], more own (Ind ∷ Open ∷ []) (Variable v) b, DerivesUnion.variable) h
term_begins_reached ss before own Star frames s e spans b h =
    stays ss before own Star frames (Parts (record { whole = true; vars = [] })) s e spans
    (Star ∷ [], more own (Ind ∷ Open ∷ []) Star b, DerivesUnion.star) h
term_begins_reached ss before own t frames s e spans b h = absurd (none-some s h)

-- the term of `ind` is complete
pub term_reached : (ss before own ts : List Token) (t : Term) (frames : List Frame) (s : State) → ss ≡ before ++ own → Spans frames before
    → own ≡ Ind ∷ Open ∷ ts → DerivesTerm ts t → goes frames (Complete (formula.Syntax.Ind t)) ≡ Some s → Reached (ss ++ Close ∷ []) s
term_reached ss before own ts t frames s e spans b d h =
    let D : List Token → Type 0 = λ z. Derives Unary z (formula.Syntax.Ind t) in
    stays ss before own Close frames (Complete (formula.Syntax.Ind t)) s e spans (subst D (sym (more own (Ind ∷ Open ∷ ts) Close b)) (Derives.independent d)) h

pub nothing_reached : (ss before own : List Token) (t : Token) (frames : List Frame) (s : State) → ss ≡ before ++ own → Spans frames before
    → own ≡ Ind ∷ Open ∷ Zero ∷ [] → ends_term frames nothing t ≡ Some s → Reached (ss ++ t ∷ []) s
nothing_reached ss before own Close frames s e spans b h = term_reached ss before own (Zero ∷ []) nothing frames s e spans b DerivesTerm.zero_sign h
nothing_reached ss before own t frames s e spans b h = absurd (none-some s h)

pub parts_reached : (ss before own : List Token) (t : Token) (frames : List Frame) (u : Term) (s : State) → ss ≡ before ++ own → Spans frames before
    → After (Parts u) own → parts frames u t ≡ Some s → Reached (ss ++ t ∷ []) s
parts_reached ss before own Close frames u s e spans b h = term_reached ss before own b.0 u frames s e spans b.1 (DerivesTerm.union b.2) h
parts_reached ss before own Bar frames u s e spans b h =
    stays ss before own Bar frames (NextPart u) s e spans (b.0, more own (Ind ∷ Open ∷ b.0) Bar b.1, b.2) h
parts_reached ss before own t frames u s e spans b h = absurd (none-some s h)

pub next_part_reached : (ss before own : List Token) (t : Token) (frames : List Frame) (u : Term) (s : State) → ss ≡ before ++ own → Spans frames before
    → After (NextPart u) own → next_part frames u t ≡ Some s → Reached (ss ++ t ∷ []) s
next_part_reached ss before own (Variable v) frames u s e spans b h =
    stays ss before own (Variable v) frames (Parts (mention u v)) s e spans (
      b.0 ++ Bar ∷ Variable v ∷ [],
      more own (Ind ∷ Open ∷ b.0 ++ Bar ∷ []) (Variable v) b.1 ∙ ap (λ (z : List Token). Ind ∷ Open ∷ z) (append_assoc b.0 (Bar ∷ []) (Variable v ∷ [])),
      DerivesUnion.bar_variable v b.2,
    ) h
next_part_reached ss before own Star frames u s e spans b h =
    stays ss before own Star frames (Parts (mention_all u)) s e spans (
      b.0 ++ Bar ∷ Star ∷ [],
      more own (Ind ∷ Open ∷ b.0 ++ Bar ∷ []) Star b.1 ∙ ap (λ (z : List Token). Ind ∷ Open ∷ z) (append_assoc b.0 (Bar ∷ []) (Star ∷ [])),
      DerivesUnion.bar_star b.2,
    ) h
next_part_reached ss before own t frames u s e spans b h = absurd (none-some s h)

-- ---- after a formula

-- the frames that close before a connective make formulas that bind tightly enough for it
pub makes_left : (c : joint.Connective) (f : Frame) → level c < awaits f → rank (left c) ≤ rank (made f)
makes_left connective.Iff f h = omega arith
makes_left c Parenthesis h = absurd (omega (arith, h))
makes_left connective.Implies Negation h = omega arith
makes_left connective.Implies (Binder q v) h = omega arith
makes_left connective.Implies (Left connective.Iff A) h = absurd (omega (arith, h))
makes_left connective.Implies (Left connective.Implies A) h = absurd (omega (arith, h))
makes_left connective.Implies (Left connective.Or A) h = omega arith
makes_left connective.Implies (Left connective.And A) h = omega arith
makes_left connective.Or Negation h = omega arith
makes_left connective.Or (Binder q v) h = omega arith
makes_left connective.Or (Left connective.Iff A) h = absurd (omega (arith, h))
makes_left connective.Or (Left connective.Implies A) h = absurd (omega (arith, h))
makes_left connective.Or (Left connective.Or A) h = omega arith
makes_left connective.Or (Left connective.And A) h = omega arith
makes_left connective.And Negation h = omega arith
makes_left connective.And (Binder q v) h = omega arith
makes_left connective.And (Left connective.Iff A) h = absurd (omega (arith, h))
makes_left connective.And (Left connective.Implies A) h = absurd (omega (arith, h))
makes_left connective.And (Left connective.Or A) h = absurd (omega (arith, h))
makes_left connective.And (Left connective.And A) h = omega arith

pub left_below : (c : joint.Connective) → rank (left c) ≤ 4
left_below connective.Iff = omega arith
left_below connective.Implies = omega arith
left_below connective.Or = omega arith
left_below connective.And = omega arith

pub joined_reached : (ss before own : List Token) (c : joint.Connective) (p : List Frame × formula.Syntax) (s : State) → ss ≡ before ++ own
    → Closed (level c) (rank (left c)) before own p → joined c p ≡ Some s → Reached (ss ++ Connective c ∷ []) s
joined_reached ss before own c p s e r h =
    opens ss r.before r.own (Connective c) (Left c p.1) p.0 s (e ∙ r.split) r.spans
    (r.own, refl, loosened (left c) r.of r.strong r.derived) (omega (arith, r.stops, result_rank c)) h

-- a parenthesis with its formula
pub left_reached : (ss before own : List Token) (frames : List Frame) (F : formula.Syntax) (s : State) → ss ≡ before ++ own
    → Closed 0 0 before own (frames, F) → leave (frames, F) ≡ Some s → Reached (ss ++ Close ∷ []) s
left_reached ss before own (Parenthesis ∷ frames) F s e r h =
    let R : State → Type 0 = Reached (ss ++ Close ∷ []) in
    let D : List Token → Type 0 = λ z. Derives Unary (z ++ r.own ++ Close ∷ []) F in
    let front = r.spans.0 in let sign = r.spans.1 in
    subst R (same_some (at frames (Complete F)) s h) (record {
      before = front;
      own = sign ++ r.own ++ Close ∷ [];
      split = ap (λ (z : List Token). z ++ Close ∷ []) (e ∙ r.split ∙ ap (λ (z : List Token). z ++ r.own) r.spans.2 ∙ append_assoc front sign r.own)
          ∙ append_assoc front (sign ++ r.own) (Close ∷ []);
      spans = r.spans.5;
      after = subst D (sym r.spans.3) (Derives.parentheses (loosened Equivalence r.of (omega arith) r.derived));
    })
left_reached ss before own [] F s e r h = absurd (none-some s h)
left_reached ss before own (Negation ∷ frames) F s e r h = absurd (none-some s h)
left_reached ss before own (Binder q v ∷ frames) F s e r h = absurd (none-some s h)
left_reached ss before own (Left c A ∷ frames) F s e r h = absurd (none-some s h)

pub complete_reached : (ss before own : List Token) (t : Token) (frames : List Frame) (F : formula.Syntax) (s : State) → ss ≡ before ++ own → Spans frames before
    → Derives Unary own F → complete frames F t ≡ Some s → Reached (ss ++ t ∷ []) s
complete_reached ss before own (Connective c) frames F s e spans d h =
    joined_reached ss before own c (close (level c) frames F) s e
    (closed (level c) (rank (left c)) (makes_left c) frames Unary before own F spans (hole_below frames) (left_below c) d) h
complete_reached ss before own Close frames F s e spans d h =
    let p = close 0 frames F in
    left_reached ss before own p.0 p.1 s e
    (closed 0 0 (λ f above. omega arith) frames Unary before own F spans (hole_below frames) (omega arith) d) h
complete_reached ss before own t frames F s e spans d h = absurd (none-some s h)

-- ---- all tokens

pub step_reached : (ss : List Token) (frames : List Frame) (mode : Mode) (t : Token) (s : State) → Reached ss (at frames mode) → step (at frames mode) t ≡ Some s
    → Reached (ss ++ t ∷ []) s
unfolding step
step_reached ss frames Operand t s r h = operand_reached ss r.before r.own t frames s r.split r.spans r.after h
step_reached ss frames (Bound q) t s r h = bound_reached ss r.before r.own t frames q s r.split r.spans r.after h
step_reached ss frames (First v) t s r h = first_reached ss r.before r.own t frames v s r.split r.spans r.after h
step_reached ss frames (Second v q) t s r h = second_reached ss r.before r.own t frames v q s r.split r.spans r.after h
step_reached ss frames Independent t s r h = independent_reached ss r.before r.own t frames s r.split r.spans r.after h
step_reached ss frames TermBegins t s r h = term_begins_reached ss r.before r.own t frames s r.split r.spans r.after h
step_reached ss frames Nothing t s r h = nothing_reached ss r.before r.own t frames s r.split r.spans r.after h
step_reached ss frames (Parts u) t s r h = parts_reached ss r.before r.own t frames u s r.split r.spans r.after h
step_reached ss frames (NextPart u) t s r h = next_part_reached ss r.before r.own t frames u s r.split r.spans r.after h
step_reached ss frames (Complete F) t s r h = complete_reached ss r.before r.own t frames F s r.split r.spans r.after h

pub whole_derived : (ss before own : List Token) (frames : List Frame) (F G : formula.Syntax) → ss ≡ before ++ own → Closed 0 0 before own (frames, F)
    → whole (frames, F) ≡ Some G → Derives Equivalence ss G
whole_derived ss before own [] F G e r h =
    let T : List Token → Type 0 = λ z. Derives Equivalence z F in
    let D : formula.Syntax → Type 0 = Derives Equivalence ss in
    subst D (same_some F G h) (subst T (sym (e ∙ r.split ∙ ap (λ (z : List Token). z ++ r.own) r.spans)) (loosened Equivalence r.of (omega arith) r.derived))
whole_derived ss before own (f ∷ frames) F G e r h = absurd (none-some G h)

pub finish_derived : (ss : List Token) (frames : List Frame) (mode : Mode) (G : formula.Syntax) → Reached ss (at frames mode) → finish (at frames mode) ≡ Some G
    → Derives Equivalence ss G
unfolding finish
finish_derived ss frames (Complete F) G r h =
    let p = close 0 frames F in
    whole_derived ss r.before r.own p.0 p.1 G r.split
    (closed 0 0 (λ f above. omega arith) frames Unary r.before r.own F r.spans (hole_below frames) (omega arith) r.after) h
finish_derived ss frames mode G r h = absurd (none-some G h)

pub run_derives_from : (ts ss : List Token) (s : State) (F : formula.Syntax) → Reached ss s → run s ts ≡ Some F → Derives Equivalence (ss ++ ts) F
run_derives_from [] ss s F r h =
    let D : List Token → Type 0 = λ z. Derives Equivalence z F in subst D (sym (append-nil ss)) (finish_derived ss s.frames s.mode F r h)
run_derives_from (t ∷ ts) ss s F r h =
    let D : List Token → Type 0 = λ z. Derives Equivalence z F in
    option_and_then_some (λ next. run next ts) (step s t) F h (λ next is gone.
    subst D (append_assoc ss (t ∷ []) ts) (run_derives_from ts (ss ++ t ∷ []) next F (step_reached ss s.frames s.mode t next r is) gone))

-- a formula that the automaton makes of the tokens is one that they derive
pub run_derives : (ts : List Token) (F : formula.Syntax) → run start ts ≡ Some F → Derives Equivalence ts F
run_derives ts F h = run_derives_from ts [] start F (record { before = []; own = []; split = refl; spans = refl; after = refl }) h
