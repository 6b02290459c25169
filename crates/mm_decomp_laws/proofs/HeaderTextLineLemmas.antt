-- The lines of a text that begins with lines of at most 4200 bytes are these lines, and those of what comes after them.
use Rattle.std.proofs.Common.{◌≡◌, ℕ, ◌+◌, ◌-◌, ◌*◌, ◌≤◌, Bool, true, false, List, [], ◌∷◌, ◌++◌, length, get_or, take, refl, ap, ◌∙◌, append_assoc, arith}
use Rattle.std.specs.Prelude.{◌==◌, not, nat_le, nat_lt, All, slice_index, if◌then◌else◌}
use Rattle.std.specs.List.{slice_split, AllByRecursion}
use Rattle.std.specs.Str.Lines.{strip_carriage_return}
use Rattle.std.proofs.lemmas.Bool.{leb-true, ltb-true, or_from}
use Rattle.std.proofs.lemmas.List.{length-append, take_all}
use Rattle.std.proofs.lemmas.List.Elements.{All-weaker}
use Rattle.std.proofs.lemmas.List.Splits.{slice_split_at}
use Rattle.mm_lines.specs.Lines.{is_newline, is_too_long, is_passed_over, kept_line, line_of, closed, numbered, lines_of, most_bytes, is_over, lines}
use Rattle.mm_lines.specs.Tokens.{has_some, tokens}
use Rattle.mm_lines.specs.declared.line.Line.{Line}
use Rattle.mm_lines.specs.declared.line.LineText.TheVariants.{TooLong}
use Rattle.mm_tree.specs.TreeText.{text_of_lines}
use Rattle.mm_job_text.proofs.SpacedLemmas.{above_is_not}
use Rattle.mm_job_text.proofs.TextLineLemmas.{ArePlain, line_at, lines_at, not_newline, nonempty}

-- a line that is read as it is
pub record IsReadLine (line : List ℕ) : Type 0 where
  pub plain : All (λ b. 32 ≤ b) line
  pub short : length line ≤ 4200
  pub first : 36 ≤ get_or line 0 0
  pub seen : has_some (tokens line) ≡ true

abbrev pub AreReadLines : List (List ℕ) → Type 0
AreReadLines ls = AllByRecursion IsReadLine ls

pub of_plain : (ls : List (List ℕ)) → ArePlain ls → AreReadLines ls
of_plain [] h = tt
of_plain (l ∷ ls) h = (record { plain = h.0.plain; short = omega (arith, h.0.short); first = h.0.first; seen = h.0.seen }, of_plain ls h.1)

pub lines_both : (xs ys : List (List ℕ)) → AreReadLines xs → AreReadLines ys → AreReadLines (xs ++ ys)
lines_both [] ys p q = q
lines_both (x ∷ xs) ys p q = (p.0, lines_both xs ys p.1 q)

no_newline : (line : List ℕ) → IsReadLine line → All (λ b. is_newline b ≡ false) line
no_newline line h = All-weaker (λ b. 32 ≤ b) (λ b. is_newline b ≡ false) not_newline line h.plain

split_text : (ls : List (List ℕ)) (rest : List ℕ) → AreReadLines ls → slice_split is_newline (text_of_lines ls ++ rest) ≡ ls ++ slice_split is_newline rest
split_text [] rest h = refl
split_text (l ∷ ls) rest h =
    ap (slice_split is_newline) (append_assoc l (10 ∷ text_of_lines ls) rest)
    ∙ slice_split_at is_newline l 10 (text_of_lines ls ++ rest) (no_newline l h.0) refl
    ∙ ap (λ (parts : List (List ℕ)). l ∷ parts) (split_text ls rest h.1)

closed_is : (parts : List (List ℕ)) → closed true parts ≡ parts
closed_is [] = refl
closed_is (p ∷ []) = refl
closed_is (p ∷ q ∷ parts) = ap (λ (all : List (List ℕ)). p ∷ all) (closed_is (q ∷ parts))

not_long : (line : List ℕ) (b : Bool) → length line ≤ 4200 → nat_le 65537 (length line) ≡ b → b ≡ false
not_long line true h e = absurd (omega (arith, h, leb-true 65537 (length line) e))
not_long line false h e = refl

no_return : (line : List ℕ) → IsReadLine line → strip_carriage_return line ≡ line
no_return line h =
    let last = h.plain (length line - 1) 0 (omega (arith, nonempty line h.first)) in
    ap (λ (b : Bool). if b then take (length line - 1) line else line)
    (above_is_not (slice_index line (length line - 1)) 13 (slice_index line (length line - 1) == 13) (omega (arith, last)) refl)

not_passed : (line : List ℕ) → IsReadLine line → is_passed_over line ≡ false
not_passed line h =
    or_from (slice_index line 0 == 35) (not (has_some (tokens line))) (above_is_not (slice_index line 0) 35 (slice_index line 0 == 35) (omega (arith, h.first)) refl)
    (ap not h.seen)

line_of_line : (number : ℕ) (line : List ℕ) → IsReadLine line → line_of number line ≡ line_at number line ∷ []
line_of_line number line h =
    ap (λ (b : Bool). if b then record { number = number; text = TooLong } ∷ [] else kept_line number (strip_carriage_return line)) (not_long line (is_too_long line) h.short refl)
    ∙ ap (kept_line number) (no_return line h)
    ∙ ap (λ (b : Bool). if b then [] else line_at number line ∷ []) (not_passed line h)

numbered_front : (number : ℕ) (ls parts : List (List ℕ)) → AreReadLines ls → numbered number (ls ++ parts) ≡ lines_at number ls ++ numbered (number + length ls) parts
numbered_front number [] parts h = ap (λ (k : ℕ). numbered k parts) {x = number} {y = number + 0} (omega arith)
numbered_front number (l ∷ ls) parts h =
    ap (λ (front : List Line). front ++ numbered (number + 1) (ls ++ parts)) (line_of_line number l h.0)
    ∙ ap (λ (more : List Line). line_at number l ∷ more)
    (numbered_front (number + 1) ls parts h.1
    ∙ ap (λ (k : ℕ). lines_at (number + 1) ls ++ numbered k parts) {x = number + 1 + length ls} {y = number + length (l ∷ ls)} (omega arith))

not_over : (text : List ℕ) (b : Bool) → length text ≤ most_bytes → nat_lt most_bytes (length text) ≡ b → b ≡ false
not_over text true h e = absurd (omega (arith, h, ltb-true most_bytes (length text) e))
not_over text false h e = refl

pub lines_of_front : (ls : List (List ℕ)) (rest : List ℕ) → AreReadLines ls → length (text_of_lines ls ++ rest) ≤ most_bytes
    → lines (text_of_lines ls ++ rest) ≡ lines_at 1 ls ++ numbered (length ls + 1) (slice_split is_newline rest)
unfolding lines lines_of
lines_of_front ls rest h small =
    let text = text_of_lines ls ++ rest in
    let parts = slice_split is_newline rest in
    ap (λ (b : Bool). lines_of (not b) (take most_bytes text)) (not_over text (is_over text) small refl)
    ∙ ap (lines_of true) (take_all most_bytes text small)
    ∙ ap (numbered 1) (closed_is (slice_split is_newline text) ∙ split_text ls rest h)
    ∙ numbered_front 1 ls parts h
    ∙ ap (λ (k : ℕ). lines_at 1 ls ++ numbered k parts) {x = 1 + length ls} {y = length ls + 1} (omega arith)

pub length_lines : (ls : List (List ℕ)) → AreReadLines ls → length (text_of_lines ls) ≤ 4201 * length ls
length_lines [] h = omega arith
length_lines (l ∷ ls) h = omega (arith, length-append l (10 ∷ text_of_lines ls), h.0.short, length_lines ls h.1)
