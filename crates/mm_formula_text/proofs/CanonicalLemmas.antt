-- The canonical text of a formula derives it.
use Rattle.std.proofs.Common.{◌≡◌, ℕ, suc, ◌≤◌, Bool, true, false, not, ◌&&◌, inl, inr, List, [], ◌∷◌, ◌++◌, length, take, drop, map, refl, sym, ap, ◌∙◌, subst, arith, append_assoc}
use Rattle.std.specs.Prelude.{nat_le, codes, if◌then◌else◌}
use Rattle.std.specs.Char.{is_ascii_alphabetic}
use Rattle.std.specs.List.{list_all, flat_map}
use Rattle.std.specs.Str.{bytes_eq}
use Rattle.std.proofs.Math.Seq.{take-append_seam, drop-append_seam}
use Rattle.std.proofs.lemmas.Bool.{cases_Bool, and_parts, not-true, or_parts}
use Rattle.std.proofs.lemmas.List.{append-nil}
use Rattle.mm_formula.specs.Variables.{is_word_byte, is_word, is_reserved, is_var, is_set}
use Rattle.mm_formula.specs.Repeats.{has, IsDistinct}
use Rattle.mm_formula.specs.Syntax as formula
use Rattle.mm_formula.specs.Syntax.{is_well_sorted, IsProper}
use Rattle.mm_formula.specs.declared.formula.Term.{Term}
use Rattle.mm_formula.specs.declared.formula.Connective as joint
use Rattle.mm_formula.specs.declared.formula.Connective.TheVariants as connective
use Rattle.mm_formula.proofs.SameLemmas.{same_swap}
use Rattle.mm_formula_text.specs.declared.token.Quantifier.TheVariants as quantifier
use Rattle.mm_formula_text.specs.declared.token.Relation.TheVariants as relation
use Rattle.mm_formula_text.specs.declared.token.Token.{Token}
use Rattle.mm_formula_text.specs.declared.token.Token.TheVariants.{Connective, Not, Quantifier, Const, Ind, Relation, Open, Close, Bar, Star, Zero, Variable}
use Rattle.mm_formula_text.specs.Tokens.{is_blank, begins_word, lexemes, token_of, tokens}
use Rattle.mm_formula_text.specs.Grammar.{Derives, DerivesTerm, DerivesUnion, mention, IsTextOf, begins_in_blank, ends_in_blank}
use Rattle.mm_formula_text.specs.Grammar.Level.{Equivalence, Unary}
use Rattle.mm_formula_text.specs.Canonical.{barred, term_text, between, canonical}
use Rattle.mm_formula_text.proofs.TokenLemmas.{word_len, word_len-on, word_len-end, lexemes-word, lexemes-last, word_byte_is_no_blank}
use Rattle.mm_formula_text.proofs.Precedence.{rank, left, right, result, combined, loosened}
use Rattle.mm_formula_text.proofs.ReadsOnlyLemmas.{left_below}
use Rattle.mm_base.proofs.NameLemmas.{same_bytes}

-- ---- a word in a text

pub word_len-append : (bs rest : List ℕ) → list_all is_word_byte bs ≡ true → begins_word rest ≡ false → word_len (bs ++ rest) ≡ length bs
word_len-append [] [] a h = refl
word_len-append [] (c ∷ rest) a h = word_len-end c rest h
word_len-append (b ∷ bs) rest a h =
    let p = and_parts (is_word_byte b) (list_all is_word_byte bs) a in
    word_len-on b (bs ++ rest) p.0 ∙ ap suc (word_len-append bs rest p.1 h)

pub letter_is_word_byte : (b : ℕ) → is_ascii_alphabetic b ≡ true → is_word_byte b ≡ true
letter_is_word_byte b h = rw h refl

-- a word in front of a text that does not go on with it
pub word_lexed : (w rest : List ℕ) → is_word w ≡ true → begins_word rest ≡ false → tokens (w ++ rest) ≡ token_of w ∷ tokens rest
word_lexed [] rest w h = absurd (let e : false ≡ true = w in cc)
word_lexed (b ∷ bs) rest w h =
    let p = and_parts (is_ascii_alphabetic b) (list_all is_word_byte bs) w in
    ap (map token_of) (lexemes-word b (bs ++ rest) (letter_is_word_byte b p.0)
    ∙ ap (λ (n : ℕ). (b ∷ take n (bs ++ rest)) ∷ lexemes (drop n (bs ++ rest))) (word_len-append bs rest p.1 h)
    ∙ ap (λ (z : List ℕ). (b ∷ z) ∷ lexemes (drop (length bs) (bs ++ rest))) (take-append_seam bs rest)
    ∙ ap (λ (z : List ℕ). (b ∷ bs) ∷ lexemes z) (drop-append_seam bs rest))

-- ---- a variable is no other token

pub neither_if : {b : Bool} (a : Bool) → (if a then true else b) ≡ false → (a ≡ false) × (b ≡ false)
neither_if false h = (refl, h)
neither_if true h = (h, absurd (let e : true ≡ false = h in cc))

pub record Variable_parts (v : List ℕ) : Type 0 where
  pub word : is_word v ≡ true
  pub free : is_reserved v ≡ false

pub parts_of : (v : List ℕ) → is_var v ≡ true → Variable_parts v
parts_of v h =
    let p = and_parts (nat_le (length v) 16 && is_word v) (not (is_reserved v)) h in
    record { word = (and_parts (nat_le (length v) 16) (is_word v) p.0).1; free = not-true (is_reserved v) p.1 }

pub no_sign : (v : List ℕ) (c : ℕ) → is_word v ≡ true → is_word (c ∷ []) ≡ false → bytes_eq v (c ∷ []) ≡ false
no_sign v c w n = elim (cases_Bool (bytes_eq v (c ∷ []))) [
  | inr f ↦ f
  | inl t ↦ absurd (let e : true ≡ false = sym w ∙ ap is_word (same_bytes v (c ∷ []) t) ∙ n in cc)
]

pub variable_token : (v : List ℕ) → is_var v ≡ true → token_of v ≡ Variable v
unfolding token_of is_reserved
variable_token v h =
    let p = parts_of v h in
    let iff = neither_if (bytes_eq v (codes "iff")) p.free in
    let implies = neither_if (bytes_eq v (codes "implies")) iff.1 in
    let or = neither_if (bytes_eq v (codes "or")) implies.1 in
    let and = neither_if (bytes_eq v (codes "and")) or.1 in
    let negation = neither_if (bytes_eq v (codes "not")) and.1 in
    let ex = neither_if (bytes_eq v (codes "ex")) negation.1 in
    let all = neither_if (bytes_eq v (codes "all")) ex.1 in
    let yes = neither_if (bytes_eq v (codes "true")) all.1 in
    let no = neither_if (bytes_eq v (codes "false")) yes.1 in
    let independent = neither_if (bytes_eq v (codes "ind")) no.1 in
    let member = neither_if (bytes_eq v (codes "in")) independent.1 in
    rw (
      h,
      iff.0,
      implies.0,
      or.0,
      and.0,
      negation.0,
      ex.0,
      all.0,
      yes.0,
      no.0,
      independent.0,
      member.0,
      member.1,
      no_sign v 61 p.word refl,
      no_sign v 40 p.word refl,
      no_sign v 41 p.word refl,
      no_sign v 124 p.word refl,
      no_sign v 42 p.word refl,
      no_sign v 48 p.word refl,
    ) refl

pub variable_lexed : (v rest : List ℕ) → is_var v ≡ true → begins_word rest ≡ false → tokens (v ++ rest) ≡ Variable v ∷ tokens rest
variable_lexed v rest h n = word_lexed v rest (parts_of v h).word n ∙ ap (λ (t : Token). t ∷ tokens rest) (variable_token v h)

-- ---- terms

abbrev pub barred_tokens : List (List ℕ) → List Token
barred_tokens [] = []
barred_tokens (v ∷ vs) = Bar ∷ Variable v ∷ barred_tokens vs

abbrev pub term_tokens : Bool → List (List ℕ) → List Token
term_tokens false [] = Zero ∷ []
term_tokens true [] = Star ∷ []
term_tokens whole (v ∷ vs) = Variable v ∷ (barred_tokens vs ++ (if whole then Bar ∷ Star ∷ [] else []))

pub barred_begins : (vs : List (List ℕ)) (rest : List ℕ) → begins_word rest ≡ false → begins_word (flat_map barred vs ++ rest) ≡ false
barred_begins [] rest h = h
barred_begins (v ∷ vs) rest h = refl

pub barred_lexed : (vs : List (List ℕ)) → list_all is_var vs ≡ true → (rest : List ℕ) → begins_word rest ≡ false
    → tokens (flat_map barred vs ++ rest) ≡ barred_tokens vs ++ tokens rest
unfolding lexemes token_of
barred_lexed [] a rest h = refl
barred_lexed (v ∷ vs) a rest h =
    let p = and_parts (is_var v) (list_all is_var vs) a in
    let others : List ℕ = flat_map barred vs in
    ap (λ (z : List ℕ). Bar ∷ tokens z) (append_assoc v others rest)
    ∙ ap (λ (ts : List Token). Bar ∷ ts) (variable_lexed v (others ++ rest) p.0 (barred_begins vs rest h)
    ∙ ap (λ (ts : List Token). Variable v ∷ ts) (barred_lexed vs p.1 rest h))

pub tail_lexed : (whole : Bool) (rest : List ℕ) → begins_word rest ≡ false
    → (tokens ((if whole then codes "|*" else []) ++ rest) ≡ (if whole then Bar ∷ Star ∷ [] else []) ++ tokens rest)
    × (begins_word ((if whole then codes "|*" else []) ++ rest) ≡ false)
unfolding lexemes token_of
tail_lexed true rest h = (refl, refl)
tail_lexed false rest h = (refl, h)

pub term_lexed : (whole : Bool) (vars : List (List ℕ)) → list_all is_var vars ≡ true → (rest : List ℕ) → begins_word rest ≡ false
    → tokens (term_text whole vars ++ rest) ≡ term_tokens whole vars ++ tokens rest
unfolding lexemes token_of
term_lexed false [] a rest h = ap (map token_of) (lexemes-last 48 rest refl h)
term_lexed true [] a rest h = refl
term_lexed whole (v ∷ vs) a rest h =
    let p = and_parts (is_var v) (list_all is_var vs) a in
    let others : List ℕ = flat_map barred vs in
    let tail : List ℕ = if whole then codes "|*" else [] in
    let q = tail_lexed whole rest h in
    ap tokens (append_assoc v (others ++ tail) rest ∙ ap (λ (z : List ℕ). v ++ z) (append_assoc others tail rest))
    ∙ variable_lexed v (others ++ (tail ++ rest)) p.0 (barred_begins vs (tail ++ rest) q.1)
    ∙ ap (λ (ts : List Token). Variable v ∷ ts) (barred_lexed vs p.1 (tail ++ rest) q.1
    ∙ ap (λ (ts : List Token). barred_tokens vs ++ ts) q.0
    ∙ sym (append_assoc (barred_tokens vs) (if whole then Bar ∷ Star ∷ [] else []) (tokens rest)))

pub apart_from : (us vs : List (List ℕ)) (u v : List ℕ) → has u (us ++ v ∷ vs) ≡ false → bytes_eq u v ≡ false
apart_from [] vs u v h = (or_parts (bytes_eq u v) (has u vs) h).0
apart_from (w ∷ us) vs u v h = apart_from us vs u v (or_parts (bytes_eq u w) (has u (us ++ v ∷ vs)) h).1

pub fresh : (us vs : List (List ℕ)) (v : List ℕ) → IsDistinct (us ++ v ∷ vs) → has v us ≡ false
fresh [] vs v d = refl
fresh (u ∷ us) vs v d = rw (same_swap u v (apart_from us vs u v d.0), fresh us vs v d.1) refl

abbrev pub term_of : Bool → List (List ℕ) → Term
term_of whole vars = record { whole = whole; vars = vars }

pub union_derived : (vs : List (List ℕ)) (ts : List Token) (whole : Bool) (us : List (List ℕ)) → DerivesUnion ts (term_of whole us) → IsDistinct (us ++ vs)
    → DerivesUnion (ts ++ barred_tokens vs) (term_of whole (us ++ vs))
union_derived [] ts whole us d n =
    let D : List Token → Type 0 = λ z. DerivesUnion z (term_of whole (us ++ [])) in
    let E : List (List ℕ) → Type 0 = λ z. DerivesUnion ts (term_of whole z) in
    subst D (sym (append-nil ts)) (subst E (sym (append-nil us)) d)
union_derived (v ∷ vs) ts whole us d n =
    let with_v : List Token = ts ++ Bar ∷ Variable v ∷ [] in
    let kept : mention (term_of whole us) v ≡ term_of whole (us ++ v ∷ []) = rw (fresh us vs v n) refl in
    let M : Term → Type 0 = DerivesUnion with_v in
    let N : List (List ℕ) → Type 0 = IsDistinct in
    let D : List Token → Type 0 = λ z. DerivesUnion z (term_of whole (us ++ v ∷ vs)) in
    let E : List (List ℕ) → Type 0 = λ z. DerivesUnion (with_v ++ barred_tokens vs) (term_of whole z) in
    subst D (append_assoc ts (Bar ∷ Variable v ∷ []) (barred_tokens vs))
    (subst E (append_assoc us (v ∷ []) vs)
    (union_derived vs with_v whole (us ++ v ∷ []) (subst M kept (DerivesUnion.bar_variable v d)) (subst N (sym (append_assoc us (v ∷ []) vs)) n)))

pub term_derived : (whole : Bool) (vars : List (List ℕ)) → IsDistinct vars → DerivesTerm (term_tokens whole vars) (term_of whole vars)
term_derived false [] n = DerivesTerm.zero_sign
term_derived true [] n = DerivesTerm.union DerivesUnion.star
term_derived false (v ∷ vs) n =
    let D : List Token → Type 0 = λ z. DerivesUnion (Variable v ∷ z) (term_of false (v ∷ vs)) in
    DerivesTerm.union (subst D (sym (append-nil (barred_tokens vs))) (union_derived vs (Variable v ∷ []) false (v ∷ []) DerivesUnion.variable n))
term_derived true (v ∷ vs) n =
    DerivesTerm.union (DerivesUnion.bar_star (union_derived vs (Variable v ∷ []) false (v ∷ []) DerivesUnion.variable n))

-- ---- formulas

abbrev pub formula_tokens : formula.Syntax → List Token
formula_tokens (formula.Syntax.Const b) = Const b ∷ []
formula_tokens (formula.Syntax.Ind t) = Ind ∷ Open ∷ term_tokens t.whole t.vars ++ Close ∷ []
formula_tokens (formula.Syntax.Member x a) = Variable x ∷ Relation relation.In ∷ Variable a ∷ []
formula_tokens (formula.Syntax.SameElem x y) = Variable x ∷ Relation relation.Equals ∷ Variable y ∷ []
formula_tokens (formula.Syntax.Sub a b) = Variable a ∷ Relation relation.Sub ∷ Variable b ∷ []
formula_tokens (formula.Syntax.SameSet a b) = Variable a ∷ Relation relation.Equals ∷ Variable b ∷ []
formula_tokens (formula.Syntax.Not F) = Not ∷ formula_tokens F
formula_tokens (formula.Syntax.Bin c F G) = Open ∷ (formula_tokens F ++ Connective c ∷ formula_tokens G) ++ Close ∷ []
formula_tokens (formula.Syntax.Ex v F) = Quantifier quantifier.Ex ∷ Variable v ∷ formula_tokens F
formula_tokens (formula.Syntax.All v F) = Quantifier quantifier.All ∷ Variable v ∷ formula_tokens F

pub right_below : (c : joint.Connective) → rank (right c) ≤ 4
right_below connective.Iff = omega arith
right_below connective.Implies = omega arith
right_below connective.Or = omega arith
right_below connective.And = omega arith

pub formula_derived : (F : formula.Syntax) → IsProper F → is_well_sorted F ≡ true → Derives Unary (formula_tokens F) F
formula_derived (formula.Syntax.Const b) p s = Derives.constant
formula_derived (formula.Syntax.Ind t) p s = Derives.independent (term_derived t.whole t.vars p.1)
formula_derived (formula.Syntax.Member x a) p s = let q = and_parts (not (is_set x)) (is_set a) s in Derives.member (not-true (is_set x) q.0) q.1
formula_derived (formula.Syntax.SameElem x y) p s =
    let q = and_parts (not (is_set x)) (not (is_set y)) s in Derives.same_element (not-true (is_set x) q.0) (not-true (is_set y) q.1)
formula_derived (formula.Syntax.Sub a b) p s = let q = and_parts (is_set a) (is_set b) s in Derives.subset q.0 q.1
formula_derived (formula.Syntax.SameSet a b) p s = let q = and_parts (is_set a) (is_set b) s in Derives.same_set q.0 q.1
formula_derived (formula.Syntax.Not F) p s = Derives.negation (formula_derived F p s)
formula_derived (formula.Syntax.Bin c F G) p s =
    let q = and_parts (is_well_sorted F) (is_well_sorted G) s in
    Derives.parentheses (loosened Equivalence (result c) (omega arith)
    (combined c (loosened (left c) Unary (left_below c) (formula_derived F p.0 q.0)) (loosened (right c) Unary (right_below c) (formula_derived G p.1 q.1))))
formula_derived (formula.Syntax.Ex v F) p s = Derives.ex (formula_derived F p.1 s)
formula_derived (formula.Syntax.All v F) p s = Derives.all (formula_derived F p.1 s)

pub between_lexed : (c : joint.Connective) (rest : List ℕ) → tokens (between c ++ rest) ≡ Connective c ∷ tokens rest
unfolding lexemes token_of
between_lexed connective.And rest = refl
between_lexed connective.Or rest = refl
between_lexed connective.Implies rest = refl
between_lexed connective.Iff rest = refl

pub between_begins : (c : joint.Connective) (rest : List ℕ) → begins_word (between c ++ rest) ≡ false
between_begins connective.And rest = refl
between_begins connective.Or rest = refl
between_begins connective.Implies rest = refl
between_begins connective.Iff rest = refl

-- two variables with a sign or a word between them
pub atom_lexed : (v w middle rest : List ℕ) (t : Token) → is_var v ≡ true → is_var w ≡ true → begins_word rest ≡ false
    → ((z : List ℕ) → tokens (middle ++ z) ≡ t ∷ tokens z) → ((z : List ℕ) → begins_word (middle ++ z) ≡ false)
    → tokens ((v ++ (middle ++ w)) ++ rest) ≡ Variable v ∷ t ∷ Variable w ∷ tokens rest
atom_lexed v w middle rest t hv hw h m b =
    ap tokens (append_assoc v (middle ++ w) rest ∙ ap (λ (z : List ℕ). v ++ z) (append_assoc middle w rest))
    ∙ variable_lexed v (middle ++ (w ++ rest)) hv (b (w ++ rest))
    ∙ ap (λ (ts : List Token). Variable v ∷ ts) (m (w ++ rest) ∙ ap (λ (ts : List Token). t ∷ ts) (variable_lexed w rest hw h))

-- a quantifier's variable and its blank, after the quantifier's word
pub bound_lexed : (v body rest : List ℕ) (ts : List Token) → is_var v ≡ true → tokens (body ++ rest) ≡ ts ++ tokens rest
    → tokens ((v ++ (codes " " ++ body)) ++ rest) ≡ Variable v ∷ ts ++ tokens rest
unfolding lexemes
bound_lexed v body rest ts hv h =
    ap tokens (append_assoc v (codes " " ++ body) rest) ∙ variable_lexed v (codes " " ++ (body ++ rest)) hv refl
    ∙ ap (λ (z : List Token). Variable v ∷ z) h

pub formula_lexed : (F : formula.Syntax) → IsProper F → (rest : List ℕ) → begins_word rest ≡ false
    → tokens (canonical F ++ rest) ≡ formula_tokens F ++ tokens rest
unfolding lexemes token_of
formula_lexed (formula.Syntax.Const true) p rest h = word_lexed (codes "true") rest refl h
formula_lexed (formula.Syntax.Const false) p rest h = word_lexed (codes "false") rest refl h
formula_lexed (formula.Syntax.Ind t) p rest h =
    let inner : List ℕ = term_text t.whole t.vars in
    ap (λ (z : List ℕ). Ind ∷ Open ∷ tokens z) (append_assoc inner (codes ")") rest)
    ∙ ap (λ (ts : List Token). Ind ∷ Open ∷ ts) (term_lexed t.whole t.vars p.0 (codes ")" ++ rest) refl
    ∙ sym (append_assoc (term_tokens t.whole t.vars) (Close ∷ []) (tokens rest)))
formula_lexed (formula.Syntax.Member x a) p rest h = atom_lexed x a (codes " in ") rest (Relation relation.In) p.0 p.1 h (λ z. refl) (λ z. refl)
formula_lexed (formula.Syntax.SameElem x y) p rest h = atom_lexed x y (codes " = ") rest (Relation relation.Equals) p.0 p.1 h (λ z. refl) (λ z. refl)
formula_lexed (formula.Syntax.Sub a b) p rest h = atom_lexed a b (codes " sub ") rest (Relation relation.Sub) p.0 p.1 h (λ z. refl) (λ z. refl)
formula_lexed (formula.Syntax.SameSet a b) p rest h = atom_lexed a b (codes " = ") rest (Relation relation.Equals) p.0 p.1 h (λ z. refl) (λ z. refl)
formula_lexed (formula.Syntax.Not F) p rest h = ap (λ (ts : List Token). Not ∷ ts) (formula_lexed F p rest h)
formula_lexed (formula.Syntax.Bin c F G) p rest h =
    let f : List ℕ = canonical F in let g : List ℕ = canonical G in
    let ft : List Token = formula_tokens F in let gt : List Token = formula_tokens G in
    let after : List ℕ = codes ")" ++ rest in
    ap (λ (z : List ℕ). Open ∷ tokens z) (append_assoc f (between c ++ (g ++ codes ")")) rest
    ∙ ap (λ (z : List ℕ). f ++ z) (append_assoc (between c) (g ++ codes ")") rest ∙ ap (λ (z : List ℕ). between c ++ z) (append_assoc g (codes ")") rest)))
    ∙ ap (λ (ts : List Token). Open ∷ ts) (formula_lexed F p.0 (between c ++ (g ++ after)) (between_begins c (g ++ after))
    ∙ ap (λ (ts : List Token). ft ++ ts) (between_lexed c (g ++ after) ∙ ap (λ (ts : List Token). Connective c ∷ ts) (formula_lexed G p.1 after refl))
    ∙ sym (append_assoc ft (Connective c ∷ gt) (Close ∷ tokens rest))
    ∙ sym (append_assoc (ft ++ Connective c ∷ gt) (Close ∷ []) (tokens rest)))
formula_lexed (formula.Syntax.Ex v F) p rest h =
    ap (λ (ts : List Token). Quantifier quantifier.Ex ∷ ts) (bound_lexed v (canonical F) rest (formula_tokens F) p.0 (formula_lexed F p.1 rest h))
formula_lexed (formula.Syntax.All v F) p rest h =
    ap (λ (ts : List Token). Quantifier quantifier.All ∷ ts) (bound_lexed v (canonical F) rest (formula_tokens F) p.0 (formula_lexed F p.1 rest h))

-- ---- no blank begins or ends the text

-- the last byte is there and is no blank
abbrev pub ends_well : List ℕ → Bool
ends_well [] = false
ends_well (b ∷ []) = not (is_blank b)
ends_well (b ∷ c ∷ bs) = ends_well (c ∷ bs)

pub ends_well-more : (b : ℕ) (bs : List ℕ) → ends_well bs ≡ true → ends_well (b ∷ bs) ≡ true
ends_well-more b [] h = absurd (let e : false ≡ true = h in cc)
ends_well-more b (c ∷ bs) h = h

pub ends_well-after : (xs ys : List ℕ) → ends_well ys ≡ true → ends_well (xs ++ ys) ≡ true
ends_well-after [] ys h = h
ends_well-after (x ∷ xs) ys h = ends_well-more x (xs ++ ys) (ends_well-after xs ys h)

pub no_blank_ends : (bs : List ℕ) → ends_well bs ≡ true → ends_in_blank bs ≡ false
no_blank_ends [] h = refl
no_blank_ends (b ∷ []) h = not-true (is_blank b) h
no_blank_ends (b ∷ c ∷ bs) h = no_blank_ends (c ∷ bs) h

pub word_ends_well : (b : ℕ) (bs : List ℕ) → is_word_byte b ≡ true → list_all is_word_byte bs ≡ true → ends_well (b ∷ bs) ≡ true
word_ends_well b [] h a = ap not (word_byte_is_no_blank b h)
word_ends_well b (c ∷ bs) h a = let p = and_parts (is_word_byte c) (list_all is_word_byte bs) a in word_ends_well c bs p.0 p.1

pub variable_ends_well : (v : List ℕ) → is_word v ≡ true → ends_well v ≡ true
variable_ends_well [] h = h
variable_ends_well (b ∷ bs) h = let p = and_parts (is_ascii_alphabetic b) (list_all is_word_byte bs) h in word_ends_well b bs (letter_is_word_byte b p.0) p.1

pub variable_begins : (v rest : List ℕ) → is_word v ≡ true → begins_in_blank (v ++ rest) ≡ false
variable_begins [] rest h = absurd (let e : false ≡ true = h in cc)
variable_begins (b ∷ bs) rest h =
    let p = and_parts (is_ascii_alphabetic b) (list_all is_word_byte bs) h in word_byte_is_no_blank b (letter_is_word_byte b p.0)

pub atom_ends : (v middle w : List ℕ) → is_var w ≡ true → ends_well (v ++ (middle ++ w)) ≡ true
atom_ends v middle w h = ends_well-after v (middle ++ w) (ends_well-after middle w (variable_ends_well w (parts_of w h).word))

pub canonical_ends : (F : formula.Syntax) → IsProper F → ends_well (canonical F) ≡ true
canonical_ends (formula.Syntax.Const true) p = refl
canonical_ends (formula.Syntax.Const false) p = refl
canonical_ends (formula.Syntax.Ind t) p = ends_well-after (codes "ind(") (term_text t.whole t.vars ++ codes ")") (ends_well-after (term_text t.whole t.vars) (codes ")") refl)
canonical_ends (formula.Syntax.Member x a) p = atom_ends x (codes " in ") a p.1
canonical_ends (formula.Syntax.SameElem x y) p = atom_ends x (codes " = ") y p.1
canonical_ends (formula.Syntax.Sub a b) p = atom_ends a (codes " sub ") b p.1
canonical_ends (formula.Syntax.SameSet a b) p = atom_ends a (codes " = ") b p.1
canonical_ends (formula.Syntax.Not F) p = ends_well-after (codes "not ") (canonical F) (canonical_ends F p)
canonical_ends (formula.Syntax.Bin c F G) p =
    ends_well-after (codes "(") (canonical F ++ (between c ++ (canonical G ++ codes ")")))
    (ends_well-after (canonical F) (between c ++ (canonical G ++ codes ")")) (ends_well-after (between c) (canonical G ++ codes ")") (ends_well-after (canonical G) (codes ")") refl)))
canonical_ends (formula.Syntax.Ex v F) p =
    ends_well-after (codes "ex ") (v ++ (codes " " ++ canonical F)) (ends_well-after v (codes " " ++ canonical F) (ends_well-after (codes " ") (canonical F) (canonical_ends F p.1)))
canonical_ends (formula.Syntax.All v F) p =
    ends_well-after (codes "all ") (v ++ (codes " " ++ canonical F)) (ends_well-after v (codes " " ++ canonical F) (ends_well-after (codes " ") (canonical F) (canonical_ends F p.1)))

pub canonical_begins : (F : formula.Syntax) → IsProper F → begins_in_blank (canonical F) ≡ false
canonical_begins (formula.Syntax.Const true) p = refl
canonical_begins (formula.Syntax.Const false) p = refl
canonical_begins (formula.Syntax.Ind t) p = refl
canonical_begins (formula.Syntax.Member x a) p = variable_begins x (codes " in " ++ a) (parts_of x p.0).word
canonical_begins (formula.Syntax.SameElem x y) p = variable_begins x (codes " = " ++ y) (parts_of x p.0).word
canonical_begins (formula.Syntax.Sub a b) p = variable_begins a (codes " sub " ++ b) (parts_of a p.0).word
canonical_begins (formula.Syntax.SameSet a b) p = variable_begins a (codes " = " ++ b) (parts_of a p.0).word
canonical_begins (formula.Syntax.Not F) p = refl
canonical_begins (formula.Syntax.Bin c F G) p = refl
canonical_begins (formula.Syntax.Ex v F) p = refl
canonical_begins (formula.Syntax.All v F) p = refl

-- ---- the whole text

pub canonical_derives : (F : formula.Syntax) → IsProper F → is_well_sorted F ≡ true → IsTextOf F (canonical F)
unfolding lexemes
canonical_derives F p s =
    let text : List ℕ = canonical F in
    let D : List Token → Type 0 = λ ts. Derives Equivalence ts F in
    record {
      first = canonical_begins F p;
      last = no_blank_ends text (canonical_ends F p);
      derived = subst D (sym (ap tokens (sym (append-nil text)) ∙ formula_lexed F p [] refl ∙ append-nil (formula_tokens F)))
          (loosened Equivalence Unary (omega arith) (formula_derived F p s));
    }
