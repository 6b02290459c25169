-- Lines that are written are found again.
use Rattle.std.proofs.Common.{◌≡◌, ◌-◌, ℕ, List, [], ◌∷◌, ◌++◌, length, take, All, Some, refl, sym, ap, ◌∙◌, append_assoc, arith}
use Rattle.std.specs.Prelude.{slice_get}
use Rattle.std.specs.List.{join_with_byte, slice_split}
use Rattle.std.proofs.lemmas.List.{length-append}
use Rattle.std.proofs.Math.Seq.{take-append_seam}
use Rattle.std.proofs.lemmas.List.Elements.{All-head, All-tail}
use Rattle.std.proofs.lemmas.List.Splits.{slice_split_at, slice_split_none}
use Rattle.mm_lines.specs.Lines.{is_newline}
use Rattle.mm_sample.specs.Summary.{HasNoNewline, WrittenLinesAreFound, lines_in}
use Rattle.mm_tree.specs.TreeText.{text_of_lines}

-- the lines with a newline between each two
abbrev between : List (List ℕ) → List ℕ
between lines = join_with_byte 10 lines

with_last_newline : (line : List ℕ) (lines : List (List ℕ)) → text_of_lines (line ∷ lines) ≡ between (line ∷ lines) ++ 10 ∷ []
with_last_newline line [] = refl
with_last_newline line (next ∷ more) =
    ap (λ (t : List ℕ). line ++ 10 ∷ t) (with_last_newline next more) ∙ sym (append_assoc line (10 ∷ between (next ∷ more)) (10 ∷ []))

split_again : (line : List ℕ) (lines : List (List ℕ)) → All HasNoNewline (line ∷ lines) → slice_split is_newline (between (line ∷ lines)) ≡ line ∷ lines
split_again line [] h = slice_split_none is_newline line (All-head HasNoNewline line [] h)
split_again line (next ∷ more) h =
    slice_split_at is_newline line 10 (between (next ∷ more)) (All-head HasNoNewline line (next ∷ more) h) refl
    ∙ ap (λ (ls : List (List ℕ)). line ∷ ls) (split_again next more (All-tail HasNoNewline line (next ∷ more) h))

at_length : (bytes : List ℕ) (b : ℕ) → slice_get (bytes ++ b ∷ []) (length bytes) ≡ Some b
at_length [] b = refl
at_length (x ∷ xs) b = at_length xs b

one_longer : (bytes : List ℕ) (b : ℕ) → length (bytes ++ b ∷ []) - 1 ≡ length bytes
one_longer bytes b = omega (arith, length-append bytes (b ∷ []))

last_byte : (bytes : List ℕ) (b : ℕ) → slice_get (bytes ++ b ∷ []) (length (bytes ++ b ∷ []) - 1) ≡ Some b
last_byte bytes b = ap (λ (k : ℕ). slice_get (bytes ++ b ∷ []) k) (one_longer bytes b) ∙ at_length bytes b

before_last : (bytes : List ℕ) (b : ℕ) → take (length (bytes ++ b ∷ []) - 1) (bytes ++ b ∷ []) ≡ bytes
before_last bytes b = ap (λ (k : ℕ). take k (bytes ++ b ∷ [])) (one_longer bytes b) ∙ take-append_seam bytes (b ∷ [])

pub written_are_found : WrittenLinesAreFound
written_are_found line lines h =
    let text = with_last_newline line lines in (
      ap (λ (t : List ℕ). slice_get t (length t - 1)) text ∙ last_byte (between (line ∷ lines)) 10,
      ap lines_in text ∙ ap (λ (t : List ℕ). slice_split is_newline t) (before_last (between (line ∷ lines)) 10) ∙ split_again line lines h,
    )
