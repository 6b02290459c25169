-- What stands from a token on has that token and those after it.
use Rattle.std.proofs.Common.{◌≡◌, ℕ, zero, suc, ◌+◌, ◌<◌, Bool, true, false, cond, List, [], ◌∷◌, ◌++◌, length, filter, drop, refl, sym, ap, ◌∙◌, arith}
use Rattle.std.specs.Prelude.{reverse, if◌then◌else◌}
use Rattle.std.specs.List.{slice_split, onto_first}
use Rattle.std.proofs.lemmas.List.{drop-drop, reverse-append, reverse-reverse}
use Rattle.std.proofs.lemmas.List.Splits.{slice_split-cons_yes, slice_split-cons_no, length-slice_split}
use Rattle.mm_lines.specs.Tokens.{has_some, is_blank, skip_blanks, skip_token, skip_tokens, tokens, trim_end, rest_of}
use Rattle.mm_lines.proofs.PlaceLemmas.{after}
use Rattle.mm_lines.proofs.TokenLemmas.{tokens_nil, tokens_blank}

some_part : (line : List ℕ) → 0 < length (slice_split is_blank line)
some_part line = omega (arith, length-slice_split is_blank line)

-- Blanks at the front and at the end.

blanks_case : (c : Bool) (b : ℕ) (bs : List ℕ) → is_blank b ≡ c → tokens (skip_blanks bs) ≡ tokens bs → tokens (if c then skip_blanks bs else b ∷ bs) ≡ tokens (b ∷ bs)
blanks_case true b bs e h = h ∙ sym (tokens_blank b bs e)
blanks_case false b bs e h = refl

skip_blanks_tokens : (line : List ℕ) → tokens (skip_blanks line) ≡ tokens line
skip_blanks_tokens [] = refl
skip_blanks_tokens (b ∷ bs) = blanks_case (is_blank b) b bs refl (skip_blanks_tokens bs)

onto_last : (x : ℕ) (ps : List (List ℕ)) → 0 < length ps → onto_first x (ps ++ [] ∷ []) ≡ onto_first x ps ++ [] ∷ []
onto_last x [] h = absurd (omega (arith, h))
onto_last x (p ∷ ps) h = refl

parts_case : (c : Bool) (x b : ℕ) (xs : List ℕ) → is_blank x ≡ c → slice_split is_blank (xs ++ b ∷ []) ≡ slice_split is_blank xs ++ [] ∷ []
    → slice_split is_blank (x ∷ xs ++ b ∷ []) ≡ slice_split is_blank (x ∷ xs) ++ [] ∷ []
parts_case true x b xs e h =
    slice_split-cons_yes is_blank x (xs ++ b ∷ []) e ∙ ap (λ (l : List (List ℕ)). [] ∷ l) h ∙ ap (λ (l : List (List ℕ)). l ++ [] ∷ []) (sym (slice_split-cons_yes is_blank x xs e))
parts_case false x b xs e h =
    slice_split-cons_no is_blank x (xs ++ b ∷ []) e ∙ ap (onto_first x) h ∙ onto_last x (slice_split is_blank xs) (some_part xs)
    ∙ ap (λ (l : List (List ℕ)). l ++ [] ∷ []) (sym (slice_split-cons_no is_blank x xs e))

parts_before_blank : (xs : List ℕ) (b : ℕ) → is_blank b ≡ true → slice_split is_blank (xs ++ b ∷ []) ≡ slice_split is_blank xs ++ [] ∷ []
parts_before_blank [] b e = slice_split-cons_yes is_blank b [] e
parts_before_blank (x ∷ xs) b e = parts_case (is_blank x) x b xs refl (parts_before_blank xs b e)

filter_case : (c : Bool) (p : List ℕ) (xs ys : List (List ℕ)) → xs ≡ ys → cond c (p ∷ xs) xs ≡ cond c (p ∷ ys) ys
filter_case c p xs ys h = ap (λ (l : List (List ℕ)). cond c (p ∷ l) l) h

filter_last : (ps : List (List ℕ)) → filter has_some (ps ++ [] ∷ []) ≡ filter has_some ps
filter_last [] = refl
filter_last (p ∷ ps) = filter_case (has_some p) p (filter has_some (ps ++ [] ∷ [])) (filter has_some ps) (filter_last ps)

blank_at_end : (xs : List ℕ) (b : ℕ) → is_blank b ≡ true → tokens (xs ++ b ∷ []) ≡ tokens xs
unfolding tokens
blank_at_end xs b e = ap (filter has_some) (parts_before_blank xs b e) ∙ filter_last (slice_split is_blank xs)

end_case : (c : Bool) (b : ℕ) (bs : List ℕ) → is_blank b ≡ c → tokens (reverse (skip_blanks bs)) ≡ tokens (reverse bs)
    → tokens (reverse (if c then skip_blanks bs else b ∷ bs)) ≡ tokens (reverse (b ∷ bs))
end_case true b bs e h = h ∙ sym (ap tokens (reverse-append (b ∷ []) bs) ∙ blank_at_end (reverse bs) b e)
end_case false b bs e h = refl

reversed_tokens : (line : List ℕ) → tokens (reverse (skip_blanks line)) ≡ tokens (reverse line)
reversed_tokens [] = refl
reversed_tokens (b ∷ bs) = end_case (is_blank b) b bs refl (reversed_tokens bs)

trim_end_tokens : (line : List ℕ) → tokens (trim_end line) ≡ tokens line
trim_end_tokens line = reversed_tokens (reverse line) ∙ ap tokens (reverse-reverse line)

-- One token.

after_onto : (x : ℕ) (ps : List (List ℕ)) → 0 < length ps → after (onto_first x ps) ≡ after ps
after_onto x [] h = absurd (omega (arith, h))
after_onto x (p ∷ ps) h = refl

after_case : (c : Bool) (x : ℕ) (xs : List ℕ) → is_blank x ≡ c → filter has_some (after (slice_split is_blank xs)) ≡ tokens (skip_token xs)
    → filter has_some (after (slice_split is_blank (x ∷ xs))) ≡ tokens (if c then x ∷ xs else skip_token xs)
unfolding tokens
after_case true x xs e h = ap (λ (l : List (List ℕ)). filter has_some (after l)) (slice_split-cons_yes is_blank x xs e) ∙ sym (tokens_blank x xs e)
after_case false x xs e h = ap (λ (l : List (List ℕ)). filter has_some (after l)) (slice_split-cons_no is_blank x xs e) ∙ ap (filter has_some) (after_onto x (slice_split is_blank xs) (some_part xs)) ∙ h

tokens_after : (line : List ℕ) → filter has_some (after (slice_split is_blank line)) ≡ tokens (skip_token line)
tokens_after [] = sym tokens_nil
tokens_after (x ∷ xs) = after_case (is_blank x) x xs refl (tokens_after xs)

onto_token : (b : ℕ) (ps : List (List ℕ)) → 0 < length ps → drop 1 (filter has_some (onto_first b ps)) ≡ filter has_some (after ps)
onto_token b [] h = absurd (omega (arith, h))
onto_token b (p ∷ ps) h = refl

-- the line is empty or begins with a token
abbrev Begins : List ℕ → Type 0
Begins [] = Unit {0}
Begins (b ∷ bs) = is_blank b ≡ false

begins_case : (c : Bool) (b : ℕ) (bs : List ℕ) → is_blank b ≡ c → Begins (skip_blanks bs) → Begins (if c then skip_blanks bs else b ∷ bs)
begins_case true b bs e h = h
begins_case false b bs e h = e

skipped_begins : (line : List ℕ) → Begins (skip_blanks line)
skipped_begins [] = tt
skipped_begins (b ∷ bs) = begins_case (is_blank b) b bs refl (skipped_begins bs)

skip_token_case : (c : Bool) (b : ℕ) (bs : List ℕ) → c ≡ false → (if c then b ∷ bs else skip_token bs) ≡ skip_token bs
skip_token_case false b bs e = refl
skip_token_case true b bs e = cc

skip_token_tokens : (line : List ℕ) → Begins line → tokens (skip_token line) ≡ drop 1 (tokens line)
unfolding tokens
skip_token_tokens [] h = refl
skip_token_tokens (b ∷ bs) h =
    ap tokens (skip_token_case (is_blank b) b bs h) ∙ sym (tokens_after bs) ∙ sym (onto_token b (slice_split is_blank bs) (some_part bs))
    ∙ ap (λ (l : List (List ℕ)). drop 1 (filter has_some l)) (sym (slice_split-cons_no is_blank b bs h))

-- All tokens before one.

skip_tokens_tokens : (k : ℕ) (line : List ℕ) → Begins line → tokens (skip_tokens k line) ≡ drop k (tokens line)
skip_tokens_tokens zero line h = refl
skip_tokens_tokens (suc k) line h =
    skip_tokens_tokens k (skip_blanks (skip_token line)) (skipped_begins (skip_token line))
    ∙ ap (drop k) (skip_blanks_tokens (skip_token line) ∙ skip_token_tokens line h)
    ∙ drop-drop k 1 (tokens line) ∙ ap (λ (n : ℕ). drop n (tokens line)) {x = 1 + k} {y = suc k} (omega arith)

pub rest_tokens : (k : ℕ) (line : List ℕ) → tokens (rest_of k line) ≡ drop k (tokens line)
unfolding rest_of
rest_tokens k line =
    trim_end_tokens (skip_tokens k (skip_blanks line)) ∙ skip_tokens_tokens k (skip_blanks line) (skipped_begins line) ∙ ap (drop k) (skip_blanks_tokens line)
