-- A search after a place says where no newline stands.
use Rattle.std.proofs.Common.{◌≡◌, ℕ, ◌+◌, ◌-◌, ◌<◌, ◌≤◌, true, List, get_or, drop, ap, ◌∙◌, arith}
use Rattle.std.proofs.lemmas.List.{get_or-drop}
use Rattle.std.proofs.lemmas.Bool.{false_from_ne_true}
use Rattle.mm_lines.specs.Lines.{is_newline}
use Rattle.mm_lines.specs.Places.{NoNewline}

after_place : (bytes rest : List ℕ) (from k : ℕ) → rest ≡ drop from bytes → from ≤ k → get_or rest (k - from) 0 ≡ get_or bytes k 0
after_place bytes rest from k same low =
    ap (λ (l : List ℕ). get_or l (k - from) 0) same ∙ get_or-drop from bytes (k - from) 0 ∙ ap (λ (n : ℕ). get_or bytes n 0) {x = from + (k - from)} {y = k} (omega (arith, low))

pub searched : (bytes rest : List ℕ) (from stop : ℕ) → rest ≡ drop from bytes → ((k : ℕ) → 0 ≤ k → k < stop → is_newline (get_or rest k 0) ≡ true → ⊥) → NoNewline bytes from (from + stop)
searched bytes rest from stop same h k low high =
    false_from_ne_true (is_newline (get_or bytes k 0)) (λ e. h (k - from) (omega arith) (omega (arith, low, high)) (ap is_newline (after_place bytes rest from k same low) ∙ e))
