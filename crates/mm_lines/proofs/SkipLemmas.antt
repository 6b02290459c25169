-- One step of each walk over a line: over blanks, over a token, and over blanks at the end.
use Rattle.std.proofs.Common.{◌≡◌, ℕ, zero, suc, ◌+◌, ◌-◌, ◌≤◌, Bool, true, false, List, [], ◌∷◌, ◌++◌, length, get_or, take, drop, refl, sym, ap, ◌∙◌, arith}
use Rattle.std.specs.Prelude.{reverse, if◌then◌else◌}
use Rattle.std.proofs.lemmas.List.{take_rest, take-append-drop, drop_more, drop_all, reverse-append}
use Rattle.mm_lines.specs.Tokens.{is_blank, skip_blanks, skip_token, skip_tokens, trim_end}

picked_yes : {A : Type 0} (c : Bool) (x y : A) → c ≡ true → (if c then x else y) ≡ x
picked_yes true x y h = refl
picked_yes false x y h = cc

picked_no : {A : Type 0} (c : Bool) (x y : A) → c ≡ false → (if c then x else y) ≡ y
picked_no false x y h = refl
picked_no true x y h = cc

-- in the form of the pattern `[first, rest @ ..]`
pub skip_blanks_step : (xs : List ℕ) → 1 ≤ length xs → is_blank (get_or xs 0 0) ≡ true → skip_blanks (take (length xs - 1) (drop 1 xs)) ≡ skip_blanks xs
skip_blanks_step [] h e = absurd (omega arith)
skip_blanks_step (x ∷ xs) h e = ap skip_blanks (take_rest (x ∷ xs) 1) ∙ sym (picked_yes (is_blank x) (skip_blanks xs) (x ∷ xs) e)

pub skip_token_step : (xs : List ℕ) → 1 ≤ length xs → is_blank (get_or xs 0 0) ≡ false → skip_token (take (length xs - 1) (drop 1 xs)) ≡ skip_token xs
skip_token_step [] h e = absurd (omega arith)
skip_token_step (x ∷ xs) h e = ap skip_token (take_rest (x ∷ xs) 1) ∙ sym (picked_no (is_blank x) (x ∷ xs) (skip_token xs) e)

-- nothing is skipped where nothing is left
pub empty_is_nil : (xs : List ℕ) → length xs ≡ 0 → xs ≡ []
empty_is_nil [] h = refl
empty_is_nil (x ∷ xs) h = absurd (omega (arith, h))

pub skip_tokens_nil : (k : ℕ) → skip_tokens k [] ≡ []
skip_tokens_nil zero = refl
skip_tokens_nil (suc k) = skip_tokens_nil k

-- a line is all but its last byte, and that byte
last_split : (xs : List ℕ) → 1 ≤ length xs → xs ≡ take (length xs - 1) xs ++ get_or xs (length xs - 1) 0 ∷ []
last_split xs h =
    sym (take-append-drop (length xs - 1) xs)
    ∙ ap (λ (l : List ℕ). take (length xs - 1) xs ++ l) (drop_more xs (length xs - 1) 0 (omega (arith, h)) ∙ ap (λ (l : List ℕ). get_or xs (length xs - 1) 0 ∷ l) (drop_all (length xs - 1 + 1) xs (omega (arith, h))))

reversed : (xs : List ℕ) → 1 ≤ length xs → reverse xs ≡ get_or xs (length xs - 1) 0 ∷ reverse (take (length xs - 1) xs)
reversed xs h = ap reverse (last_split xs h) ∙ reverse-append (take (length xs - 1) xs) (get_or xs (length xs - 1) 0 ∷ [])

-- in the form of the pattern `[before @ .., last]`
pub trim_end_step : (xs : List ℕ) → 1 ≤ length xs → is_blank (get_or xs (length xs - 1) 0) ≡ true → trim_end (take (length xs - 1) xs) ≡ trim_end xs
trim_end_step xs h e =
    let last = get_or xs (length xs - 1) 0 in
    let front = reverse (take (length xs - 1) xs) in
    ap reverse (sym (picked_yes (is_blank last) (skip_blanks front) (last ∷ front) e) ∙ ap skip_blanks (sym (reversed xs h)))

pub skip_nothing : (k : ℕ) (line : List ℕ) → length line ≡ 0 → line ≡ skip_tokens k line
skip_nothing k line h = empty_is_nil line h ∙ sym (skip_tokens_nil k) ∙ ap (skip_tokens k) (sym (empty_is_nil line h))

pub skip_no_token : (k : ℕ) (line : List ℕ) → k ≡ 0 → line ≡ skip_tokens k line
skip_no_token k line h = ap (λ (n : ℕ). skip_tokens n line) (sym h)
