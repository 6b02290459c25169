-- The tokens of a line, from its front.
use Rattle.std.proofs.Common.{◌≡◌, ℕ, zero, suc, ◌+◌, ◌-◌, ◌<◌, ◌≤◌, Bool, true, false, cond, List, [], ◌∷◌, length, filter, get_or, take, drop, Some, None, refl, sym, ap, ◌∙◌, arith}
use Rattle.std.specs.List.{slice_split, onto_first, position}
use Rattle.std.proofs.lemmas.List.{length-take-le, take_rest}
use Rattle.std.proofs.lemmas.List.Quantifiers.{position-Some}
use Rattle.std.proofs.lemmas.List.Splits.{slice_split-cons_yes, slice_split-cons_no}
use Rattle.mm_lines.specs.Tokens.{has_some, is_blank, tokens}
use Rattle.mm_lines.proofs.CutLemmas.{cut_none, cut_found}

pub tokens_nil : tokens [] ≡ []
unfolding tokens
tokens_nil = refl

pub tokens_blank : (b : ℕ) (bs : List ℕ) → is_blank b ≡ true → tokens (b ∷ bs) ≡ tokens bs
unfolding tokens
tokens_blank b bs e = ap (filter has_some) (slice_split-cons_yes is_blank b bs e)

-- in the form of the pattern `[first, rest @ ..]`
pub tokens_step : (xs : List ℕ) → 1 ≤ length xs → is_blank (get_or xs 0 0) ≡ true → tokens (take (length xs - 1) (drop 1 xs)) ≡ tokens xs
tokens_step [] h e = absurd (omega arith)
tokens_step (x ∷ xs) h e = ap tokens (take_rest (x ∷ xs) 1) ∙ sym (tokens_blank x xs e)

has_some-true : (xs : List ℕ) → 0 < length xs → has_some xs ≡ true
has_some-true [] h = absurd (omega arith)
has_some-true (x ∷ xs) h = refl

pub filtered : (w : List ℕ) (ws : List (List ℕ)) → 0 < length w → filter has_some (w ∷ ws) ≡ w ∷ filter has_some ws
filtered w ws h = ap (λ (b : Bool). cond b (w ∷ filter has_some ws) (filter has_some ws)) (has_some-true w h)

pub token_last : (line : List ℕ) → 0 < length line → position is_blank line ≡ None → tokens line ≡ line ∷ []
unfolding tokens
token_last line some h = ap (filter has_some) (cut_none is_blank line h) ∙ filtered line [] some

starts : (line : List ℕ) (i : ℕ) → is_blank (get_or line 0 0) ≡ false → is_blank (get_or line i 0) ≡ true → 0 < i
starts line zero inside outside = cc
starts line (suc i) inside outside = omega arith

pub token_first : (line : List ℕ) (i : ℕ) → is_blank (get_or line 0 0) ≡ false → position is_blank line ≡ Some i → tokens line ≡ take i line ∷ tokens (drop (i + 1) line)
unfolding tokens
token_first line i inside h =
    let found = position-Some is_blank line i 0 h in
    let above = starts line i inside found.1 in
    let len = length-take-le i line (omega (arith, found.0)) in
    ap (filter has_some) (cut_found is_blank line i h) ∙ filtered (take i line) (slice_split is_blank (drop (i + 1) line)) (omega (arith, len, above))

pub tokens_empty : (xs : List ℕ) → length xs ≡ 0 → tokens xs ≡ []
tokens_empty [] h = tokens_nil
tokens_empty (x ∷ xs) h = absurd (omega (arith, h))

count_step : (b : ℕ) (parts : List (List ℕ)) → length (filter has_some (onto_first b parts)) ≤ length (filter has_some parts) + 1
count_step b [] = omega arith
count_step b ([] ∷ parts) = omega arith
count_step b ((c ∷ cs) ∷ parts) = omega arith

few_step : (c : Bool) (b : ℕ) (bs : List ℕ) → is_blank b ≡ c → length (filter has_some (slice_split is_blank bs)) ≤ length bs
    → length (filter has_some (slice_split is_blank (b ∷ bs))) ≤ length bs + 1
few_step true b bs e h = rw (slice_split-cons_yes is_blank b bs e) (omega (arith, h))
few_step false b bs e h = rw (slice_split-cons_no is_blank b bs e) (omega (arith, h, count_step b (slice_split is_blank bs)))

few : (line : List ℕ) → length (filter has_some (slice_split is_blank line)) ≤ length line
few [] = omega arith
few (b ∷ bs) = omega (arith, few_step (is_blank b) b bs refl (few bs))

-- a line has no more tokens than bytes
pub tokens_are_few : (line : List ℕ) → length (tokens line) ≤ length line
unfolding tokens
tokens_are_few line = few line
