-- The lines of a text whose lines are short, begin with no `#` and end with no carriage return are these lines.
use Rattle.std.proofs.Common.{◌≡◌, ℕ, ◌+◌, ◌-◌, ◌*◌, ◌<◌, ◌≤◌, Bool, true, false, nat_lt, List, [], ◌∷◌, ◌++◌, length, get_or, take, refl, ap, ap₂, ◌∙◌, arith}
use Rattle.std.specs.Prelude.{◌==◌, not, nat_le, All, slice_index, if◌then◌else◌}
use Rattle.std.specs.List.{slice_split, AllByRecursion}
use Rattle.std.specs.Str.Lines.{strip_carriage_return}
use Rattle.std.proofs.lemmas.Bool.{leb-true, ltb-true, or_from}
use Rattle.std.proofs.lemmas.List.{length-append, take_all}
use Rattle.std.proofs.lemmas.List.Elements.{All-weaker}
use Rattle.std.proofs.lemmas.List.Splits.{slice_split_at}
use Rattle.mm_lines.specs.Lines.{is_newline, is_too_long, is_passed_over, kept_line, line_of, closed, numbered, lines_of, most_bytes, is_over, lines}
use Rattle.mm_lines.specs.Tokens.{has_some, tokens}
use Rattle.mm_lines.specs.declared.line.Line.{Line}
use Rattle.mm_lines.specs.declared.line.LineText.TheVariants.{Whole, TooLong}
use Rattle.mm_lines.proofs.TokenLemmas.{tokens_nil}
use Rattle.mm_tree.specs.TreeText.{text_of_lines}
use Rattle.mm_job_text.proofs.SpacedLemmas.{above_is_not}

-- a line that is read as it is
pub record IsPlainLine (line : List ℕ) : Type 0 where
  pub plain : All (λ b. 32 ≤ b) line
  pub short : length line ≤ 60
  pub first : 36 ≤ get_or line 0 0
  pub seen : has_some (tokens line) ≡ true

abbrev pub ArePlain : List (List ℕ) → Type 0
ArePlain ls = AllByRecursion IsPlainLine ls

abbrev pub line_at : ℕ → List ℕ → Line
line_at number text = record { number = number; text = Whole text }

-- lines with their numbers, of which this is the first
abbrev pub lines_at : ℕ → List (List ℕ) → List Line
lines_at number [] = []
lines_at number (l ∷ ls) = line_at number l ∷ lines_at (number + 1) ls

pub lines_at_both : (number : ℕ) (xs ys : List (List ℕ)) → lines_at number (xs ++ ys) ≡ lines_at number xs ++ lines_at (number + length xs) ys
lines_at_both number [] ys = ap (λ (k : ℕ). lines_at k ys) {x = number} {y = number + 0} (omega arith)
lines_at_both number (x ∷ xs) ys =
    ap (λ (ls : List Line). line_at number x ∷ ls)
    (lines_at_both (number + 1) xs ys
    ∙ ap (λ (k : ℕ). lines_at (number + 1) xs ++ lines_at k ys) {x = number + 1 + length xs} {y = number + length (x ∷ xs)} (omega arith))

pub not_newline : (b : ℕ) → 32 ≤ b → is_newline b ≡ false
not_newline b h = above_is_not b 10 (b == 10) (omega arith) refl

no_newline : (line : List ℕ) → IsPlainLine line → All (λ b. is_newline b ≡ false) line
no_newline line h = All-weaker (λ b. 32 ≤ b) (λ b. is_newline b ≡ false) not_newline line h.plain

pub split_text : (ls : List (List ℕ)) → ArePlain ls → slice_split is_newline (text_of_lines ls) ≡ ls ++ [] ∷ []
split_text [] h = refl
split_text (l ∷ ls) h =
    slice_split_at is_newline l 10 (text_of_lines ls) (no_newline l h.0) refl ∙ ap (λ (parts : List (List ℕ)). l ∷ parts) (split_text ls h.1)

pub closed_all : (ls : List (List ℕ)) → closed true (ls ++ [] ∷ []) ≡ ls ++ [] ∷ []
closed_all [] = refl
closed_all (l ∷ []) = refl
closed_all (l ∷ k ∷ ls) = ap (λ (parts : List (List ℕ)). l ∷ parts) (closed_all (k ∷ ls))

pub nonempty : (line : List ℕ) → 36 ≤ get_or line 0 0 → 0 < length line
nonempty [] h = absurd (omega arith)
nonempty (b ∷ bs) h = omega arith

not_long : (line : List ℕ) (b : Bool) → length line ≤ 60 → nat_le 65537 (length line) ≡ b → b ≡ false
not_long line true h e = absurd (omega (arith, leb-true 65537 (length line) e))
not_long line false h e = refl

no_return : (line : List ℕ) → IsPlainLine line → strip_carriage_return line ≡ line
no_return line h =
    let last = h.plain (length line - 1) 0 (omega (arith, nonempty line h.first)) in
    ap (λ (b : Bool). if b then take (length line - 1) line else line)
    (above_is_not (slice_index line (length line - 1)) 13 (slice_index line (length line - 1) == 13) (omega (arith, last)) refl)

not_passed : (line : List ℕ) → IsPlainLine line → is_passed_over line ≡ false
not_passed line h =
    or_from (slice_index line 0 == 35) (not (has_some (tokens line))) (above_is_not (slice_index line 0) 35 (slice_index line 0 == 35) (omega (arith, h.first)) refl)
    (ap not h.seen)

line_of_plain : (number : ℕ) (line : List ℕ) → IsPlainLine line → line_of number line ≡ line_at number line ∷ []
line_of_plain number line h =
    ap (λ (b : Bool). if b then record { number = number; text = TooLong } ∷ [] else kept_line number (strip_carriage_return line)) (not_long line (is_too_long line) h.short refl)
    ∙ ap (kept_line number) (no_return line h)
    ∙ ap (λ (b : Bool). if b then [] else line_at number line ∷ []) (not_passed line h)

-- an empty piece at the end of a text is no line
pub no_line : (number : ℕ) → numbered number ([] ∷ []) ≡ []
no_line number = ap (λ (ts : List (List ℕ)). (if not (has_some ts) then [] else line_at number [] ∷ []) ++ []) tokens_nil

numbered_plain : (number : ℕ) (ls : List (List ℕ)) → ArePlain ls → numbered number (ls ++ [] ∷ []) ≡ lines_at number ls
numbered_plain number [] h = no_line number
numbered_plain number (l ∷ ls) h = ap₂ (λ (xs ys : List Line). xs ++ ys) (line_of_plain number l h.0) (numbered_plain (number + 1) ls h.1)

pub length_text : (ls : List (List ℕ)) → ArePlain ls → length (text_of_lines ls) ≤ 61 * length ls
length_text [] h = omega arith
length_text (l ∷ ls) h = omega (arith, length-append l (10 ∷ text_of_lines ls), h.0.short, length_text ls h.1)

not_over : (text : List ℕ) (b : Bool) → length text ≤ most_bytes → nat_lt most_bytes (length text) ≡ b → b ≡ false
not_over text true h e = absurd (omega (arith, h, ltb-true most_bytes (length text) e))
not_over text false h e = refl

pub lines_of_text : (ls : List (List ℕ)) → ArePlain ls → length ls ≤ 1000000 → lines (text_of_lines ls) ≡ lines_at 1 ls
unfolding lines lines_of
lines_of_text ls h few =
    let text = text_of_lines ls in
    let small : length text ≤ most_bytes = omega (arith, length_text ls h) in
    ap (λ (b : Bool). lines_of (not b) (take most_bytes text)) (not_over text (is_over text) small refl)
    ∙ ap (lines_of true) (take_all most_bytes text small)
    ∙ ap (λ (parts : List (List ℕ)). numbered 1 (closed true parts)) (split_text ls h)
    ∙ ap (numbered 1) (closed_all ls)
    ∙ numbered_plain 1 ls h
