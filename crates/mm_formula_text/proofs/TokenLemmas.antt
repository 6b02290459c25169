-- The words and signs of a text, one after another.
use Rattle.std.proofs.Common.{◌≡◌, ℕ, ◌-◌, Bool, true, false, inl, inr, List, [], ◌∷◌, length, take, drop, map, refl, sym, ap, ◌∙◌, arith}
use Rattle.std.specs.Prelude.{take_while, if◌then◌else◌, ◌==◌, cond}
use Rattle.std.proofs.lemmas.Bool.{cases_Bool, or_cases, eqb-true}
use Rattle.std.proofs.lemmas.List.Sums.{take_while-cons}
use Rattle.std.proofs.lemmas.List.{take_rest}
use Rattle.mm_formula.specs.Variables.{is_word_byte}
use Rattle.mm_formula_text.specs.Tokens.{is_blank, begins_word, longer, lexemes, token_of, tokens, first_len}
use Rattle.mm_formula_text.specs.declared.token.Token.{Token}

-- ---- a text by its first byte

pub lexemes-blank : (b : ℕ) (bs : List ℕ) → is_blank b ≡ true → lexemes (b ∷ bs) ≡ lexemes bs
unfolding lexemes
lexemes-blank b bs h = rw h refl

pub lexemes-on : (b : ℕ) (bs : List ℕ) → is_blank b ≡ false → is_word_byte b ≡ true → begins_word bs ≡ true
    → lexemes (b ∷ bs) ≡ longer b (lexemes bs)
unfolding lexemes
lexemes-on b bs h w n = rw (h, w, n) refl

pub lexemes-last : (b : ℕ) (bs : List ℕ) → is_blank b ≡ false → begins_word bs ≡ false
    → lexemes (b ∷ bs) ≡ (b ∷ []) ∷ lexemes bs
unfolding lexemes
lexemes-last b bs h n = elim (cases_Bool (is_word_byte b)) [ inl t ↦ rw (h, t, n) refl | inr f ↦ rw (h, f) refl ]

pub lexemes-sign : (b : ℕ) (bs : List ℕ) → is_blank b ≡ false → is_word_byte b ≡ false
    → lexemes (b ∷ bs) ≡ (b ∷ []) ∷ lexemes bs
unfolding lexemes
lexemes-sign b bs h w = rw (h, w) refl

-- ---- no byte of a word is a blank

pub word_byte_is_no_blank : (b : ℕ) → is_word_byte b ≡ true → is_blank b ≡ false
word_byte_is_no_blank b w = elim (cases_Bool (is_blank b)) [
  | inr f ↦ f
  | inl t ↦ elim (or_cases (b == 32) (b == 9) t) [
    | inl e ↦ absurd (let s : true ≡ false = sym w ∙ ap is_word_byte (eqb-true b 32 e) in cc)
    | inr e ↦ absurd (let s : true ≡ false = sym w ∙ ap is_word_byte (eqb-true b 9 e) in cc)
  ]
]

-- ---- a word is read to its end

abbrev pub word_len : List ℕ → ℕ
word_len bs = length (take_while is_word_byte bs)

pub word_len-on : (b : ℕ) (bs : List ℕ) → is_word_byte b ≡ true → word_len (b ∷ bs) ≡ length (b ∷ take_while is_word_byte bs)
word_len-on b bs h = ap length (take_while-cons is_word_byte b bs ∙ ap (λ (q : Bool). cond q (b ∷ take_while is_word_byte bs) []) h)

pub word_len-end : (b : ℕ) (bs : List ℕ) → is_word_byte b ≡ false → word_len (b ∷ bs) ≡ 0
word_len-end b bs h = ap length (take_while-cons is_word_byte b bs ∙ ap (λ (q : Bool). cond q (b ∷ take_while is_word_byte bs) []) h)

pub lexemes-word : (b : ℕ) (bs : List ℕ) → is_word_byte b ≡ true
    → lexemes (b ∷ bs) ≡ (b ∷ take (word_len bs) bs) ∷ lexemes (drop (word_len bs) bs)
lexemes-word b [] w = lexemes-last b [] (word_byte_is_no_blank b w) refl
lexemes-word b (c ∷ bs) w = elim (cases_Bool (is_word_byte c)) [
  | inl t ↦ lexemes-on b (c ∷ bs) (word_byte_is_no_blank b w) w t ∙ ap (longer b) (lexemes-word c bs t)
      ∙ ap (λ n. (b ∷ take n (c ∷ bs)) ∷ lexemes (drop n (c ∷ bs))) (sym (word_len-on c bs t))
  | inr f ↦ lexemes-last b (c ∷ bs) (word_byte_is_no_blank b w) f
      ∙ ap (λ n. (b ∷ take n (c ∷ bs)) ∷ lexemes (drop n (c ∷ bs))) (sym (word_len-end c bs f))
]

-- the first word or sign
pub lexemes-first : (b : ℕ) (bs : List ℕ) → is_blank b ≡ false
    → lexemes (b ∷ bs) ≡ take (first_len (b ∷ bs)) (b ∷ bs) ∷ lexemes (drop (first_len (b ∷ bs)) (b ∷ bs))
lexemes-first b bs h = elim (cases_Bool (is_word_byte b)) [
  | inl t ↦ lexemes-word b bs t
      ∙ ap (λ n. take n (b ∷ bs) ∷ lexemes (drop n (b ∷ bs)))
      (sym (ap (λ (q : Bool). if q then word_len (b ∷ bs) else 1) t ∙ word_len-on b bs t))
  | inr f ↦ lexemes-sign b bs h f
      ∙ ap (λ n. take n (b ∷ bs) ∷ lexemes (drop n (b ∷ bs))) (sym (ap (λ (q : Bool). if q then word_len (b ∷ bs) else 1) f))
]

-- ---- blanks in front of a text

abbrev pub blank_len : List ℕ → ℕ
blank_len bs = length (take_while is_blank bs)

abbrev pub begins_blank : List ℕ → Bool
begins_blank [] = false
begins_blank (b ∷ bs) = is_blank b

pub blank_len-on : (b : ℕ) (bs : List ℕ) → is_blank b ≡ true → blank_len (b ∷ bs) ≡ length (b ∷ take_while is_blank bs)
blank_len-on b bs h = ap length (take_while-cons is_blank b bs ∙ ap (λ (q : Bool). cond q (b ∷ take_while is_blank bs) []) h)

pub blank_len-end : (b : ℕ) (bs : List ℕ) → is_blank b ≡ false → blank_len (b ∷ bs) ≡ 0
blank_len-end b bs h = ap length (take_while-cons is_blank b bs ∙ ap (λ (q : Bool). cond q (b ∷ take_while is_blank bs) []) h)

pub skipped : (bs : List ℕ) → (lexemes bs ≡ lexemes (drop (blank_len bs) bs)) × (begins_blank (drop (blank_len bs) bs) ≡ false)
skipped [] = (refl, refl)
skipped (b ∷ bs) = elim (cases_Bool (is_blank b)) [
  | inl t ↦ (
    lexemes-blank b bs t ∙ (skipped bs).0 ∙ ap (λ n. lexemes (drop n (b ∷ bs))) (sym (blank_len-on b bs t)),
    ap (λ n. begins_blank (drop n (b ∷ bs))) (blank_len-on b bs t) ∙ (skipped bs).1,
  )
  | inr f ↦ (
    ap (λ n. lexemes (drop n (b ∷ bs))) (sym (blank_len-end b bs f)),
    ap (λ n. begins_blank (drop n (b ∷ bs))) (blank_len-end b bs f) ∙ f,
  )
]

-- ---- one step of the reader of tokens

pub none_left : (rest text : List ℕ) → text ≡ drop (blank_len rest) rest → length text ≡ 0 → (tokens rest ≡ []) × (tokens text ≡ [])
unfolding lexemes
none_left rest [] e z = (ap (map token_of) ((skipped rest).0 ∙ ap lexemes (sym e)), refl)
none_left rest (b ∷ bs) e z = absurd (let h : length (b ∷ bs) ≡ 0 = z in omega (arith, h))

pub next_token : (rest text : List ℕ) → text ≡ drop (blank_len rest) rest → (length text ≡ 0 → ⊥)
    → tokens rest ≡ token_of (take (first_len text) text) ∷ tokens (drop (first_len text) text)
next_token rest [] e n = absurd (n refl)
next_token rest (b ∷ bs) e n =
    ap (map token_of) ((skipped rest).0 ∙ ap lexemes (sym e) ∙ lexemes-first b bs (ap begins_blank e ∙ (skipped rest).1))

-- the part of a list from a place on, as a slice has it
abbrev pub from : ℕ → List ℕ → List ℕ
from k bs = take (length bs - k) (drop k bs)

pub ends : (now : List Token) (rest : List ℕ) (k : ℕ) → tokens rest ≡ now → k ≡ blank_len rest → length (from k rest) ≡ 0
    → (now ≡ []) × (tokens (from k rest) ≡ [])
ends now rest k v e z =
    let p = none_left rest (from k rest) (take_rest rest k ∙ ap (λ n. drop n rest) e) z in (sym v ∙ p.0, p.1)

pub goes_on : (now : List Token) (rest : List ℕ) (k s : ℕ) (token : Token) → tokens rest ≡ now → k ≡ blank_len rest
    → (length (from k rest) ≡ 0 → ⊥) → s ≡ first_len (from k rest) → token ≡ token_of (take s (from k rest))
    → now ≡ token ∷ tokens (from s (from k rest))
goes_on now rest k s token v e n f t =
    let text : List ℕ = from k rest in
    sym v ∙ next_token rest text (take_rest rest k ∙ ap (λ (n : ℕ). drop n rest) e) n
    ∙ ap (λ (n : ℕ). token_of (take n text) ∷ tokens (drop n text)) (sym f)
    ∙ ap (λ (w : Token). w ∷ tokens (drop s text)) (sym t)
    ∙ ap (λ (z : List ℕ). token ∷ tokens z) (sym (take_rest text s))
