-- Words with single blanks between them are the tokens of their line.
use Rattle.std.proofs.Common.{◌≡◌, ℕ, ◌+◌, ◌<◌, ◌≤◌, Bool, true, false, nat_eq, List, [], ◌∷◌, ◌++◌, length, filter, get_or, refl, ap, ◌∙◌, arith}
use Rattle.std.specs.Prelude.{◌==◌, All}
use Rattle.std.specs.List.{slice_split}
use Rattle.std.proofs.lemmas.Bool.{eqb-true, or_from}
use Rattle.std.proofs.lemmas.List.{length-append}
use Rattle.std.proofs.lemmas.List.Elements.{All-nil, All-cons, All-append, All-weaker}
use Rattle.std.proofs.lemmas.List.Splits.{slice_split_none, slice_split_at}
use Rattle.mm_lines.specs.Tokens.{has_some, is_blank, tokens}
use Rattle.mm_lines.proofs.TokenLemmas.{filtered}
use Rattle.mm_tree.specs.TreeText.{spaced}

-- a word of a written line: letters, digits, `_` and `-`, all of which are above `#` and the blanks
pub record IsWord (w : List ℕ) : Type 0 where
  pub some : 0 < length w
  pub bytes : All (λ b. 36 ≤ b) w

abbrev pub AreWords : List (List ℕ) → Type 0
AreWords [] = Unit {0}
AreWords (w ∷ ws) = IsWord w × AreWords ws

pub above_is_not : (b n : ℕ) (c : Bool) → n < b → nat_eq b n ≡ c → c ≡ false
above_is_not b n true h e = absurd (omega (arith, h, eqb-true b n e))
above_is_not b n false h e = refl

not_blank : (b : ℕ) → 36 ≤ b → is_blank b ≡ false
not_blank b h = or_from (b == 32) (b == 9) (above_is_not b 32 (b == 32) (omega arith) refl) (above_is_not b 9 (b == 9) (omega arith) refl)

solid : (w : List ℕ) → IsWord w → All (λ b. is_blank b ≡ false) w
solid w h = All-weaker (λ b. 36 ≤ b) (λ b. is_blank b ≡ false) not_blank w h.bytes

pub tokens_spaced : (w : List ℕ) (ws : List (List ℕ)) → AreWords (w ∷ ws) → tokens (spaced (w ∷ ws)) ≡ w ∷ ws
unfolding tokens
tokens_spaced w [] h = ap (filter has_some) (slice_split_none is_blank w (solid w h.0)) ∙ filtered w [] h.0.some
tokens_spaced w (v ∷ vs) h =
    ap (filter has_some) (slice_split_at is_blank w 32 (spaced (v ∷ vs)) (solid w h.0) refl)
    ∙ filtered w (slice_split is_blank (spaced (v ∷ vs))) h.0.some
    ∙ ap (λ (ts : List (List ℕ)). w ∷ ts) (tokens_spaced v vs h.1)

plain_word : (w : List ℕ) → IsWord w → All (λ b. 32 ≤ b) w
plain_word w h = All-weaker (λ b. 36 ≤ b) (λ b. 32 ≤ b) (λ b p. omega (arith, p)) w h.bytes

-- no newline and no carriage return is in such a line
pub plain_spaced : (ws : List (List ℕ)) → AreWords ws → All (λ b. 32 ≤ b) (spaced ws)
plain_spaced [] h = All-nil (λ b. 32 ≤ b)
plain_spaced (w ∷ []) h = plain_word w h.0
plain_spaced (w ∷ v ∷ vs) h =
    All-append (λ b. 32 ≤ b) w (32 ∷ spaced (v ∷ vs)) (plain_word w h.0)
    (All-cons (λ b. 32 ≤ b) 32 (spaced (v ∷ vs)) (omega arith) (plain_spaced (v ∷ vs) h.1))

first_of : (w rest : List ℕ) → IsWord w → 36 ≤ get_or (w ++ rest) 0 0
first_of [] rest h = absurd (omega (arith, h.some))
first_of (b ∷ bs) rest h = h.bytes 0 0 h.some

pub first_spaced : (w : List ℕ) (ws : List (List ℕ)) → IsWord w → 36 ≤ get_or (spaced (w ∷ ws)) 0 0
first_spaced w [] h = h.bytes 0 0 h.some
first_spaced w (v ∷ vs) h = first_of w (32 ∷ spaced (v ∷ vs)) h

pub length_spaced : (w v : List ℕ) (vs : List (List ℕ)) → length (spaced (w ∷ v ∷ vs)) ≡ length w + length (spaced (v ∷ vs)) + 1
length_spaced w v vs = length-append w (32 ∷ spaced (v ∷ vs)) ∙ omega arith
