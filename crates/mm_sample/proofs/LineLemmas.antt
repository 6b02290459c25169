-- Lines between newlines.
use Rattle.std.proofs.Common.{◌≡◌, ◌<◌, ◌+◌, List, [], ◌∷◌, ℕ, length, refl, sym, ap, ◌∙◌, arith, Some, None, take, drop}
use Rattle.std.specs.List.{position, slice_split}
use Rattle.std.proofs.lemmas.List.Splits.{length-slice_split}
use Rattle.std.proofs.lemmas.List.Sums.{count_by-le-length}
use Rattle.mm_lines.specs.Lines.{is_newline}
use Rattle.mm_lines.proofs.CutLemmas.{cut_found, cut_none}
use Rattle.mm_sample.specs.Summary.{first_line, last_line}

pub some_line : (bytes : List ℕ) → 0 < length (slice_split is_newline bytes)
some_line bytes = omega (arith, length-slice_split is_newline bytes)

last_of_more : (line : List ℕ) (lines : List (List ℕ)) → 0 < length lines → last_line (line ∷ lines) ≡ last_line lines
last_of_more line [] h = absurd (omega (arith, h))
last_of_more line (next ∷ lines) h = refl

pub last_after : (bytes : List ℕ) (at : ℕ) → position is_newline bytes ≡ Some at
    → last_line (slice_split is_newline bytes) ≡ last_line (slice_split is_newline (drop (at + 1) bytes))
last_after bytes at h =
    let rest = slice_split is_newline (drop (at + 1) bytes) in
    ap last_line (cut_found is_newline bytes at h) ∙ last_of_more (take at bytes) rest (some_line (drop (at + 1) bytes))

pub last_alone : (bytes : List ℕ) → position is_newline bytes ≡ None → last_line (slice_split is_newline bytes) ≡ bytes
last_alone bytes h = ap last_line (cut_none is_newline bytes h)

pub one_more : (bytes : List ℕ) (at : ℕ) → position is_newline bytes ≡ Some at
    → length (slice_split is_newline bytes) ≡ 1 + length (slice_split is_newline (drop (at + 1) bytes))
one_more bytes at h = ap length (cut_found is_newline bytes at h) ∙ omega arith

pub one_alone : (bytes : List ℕ) → position is_newline bytes ≡ None → length (slice_split is_newline bytes) ≡ 1
one_alone bytes h = ap length (cut_none is_newline bytes h)

pub first_before : (bytes : List ℕ) (at : ℕ) → position is_newline bytes ≡ Some at → take at bytes ≡ first_line (slice_split is_newline bytes)
first_before bytes at h = sym (ap first_line (cut_found is_newline bytes at h))

pub first_alone : (bytes : List ℕ) → position is_newline bytes ≡ None → bytes ≡ first_line (slice_split is_newline bytes)
first_alone bytes h = sym (ap first_line (cut_none is_newline bytes h))

-- as many lines as bytes at most, and one more
pub lines_are_few : (bytes : List ℕ) → length (slice_split is_newline bytes) < length bytes + 2
lines_are_few bytes = omega (arith, length-slice_split is_newline bytes, count_by-le-length is_newline bytes)
