-- The text of edits, one after another.
use Rattle.std.proofs.Common.{◌≡◌, ◌<◌, ◌+◌, ◌-◌, List, ◌++◌, ℕ, suc, sym, ap, ◌∙◌, append_assoc, append-nil, arith}
use Rattle.mm_sample.specs.SampleText.{after_edit, edit_lines, edits}
use Rattle.mm_tree.specs.TreeText.{text_of_lines}
use Rattle.mm_tree.proofs.TextLemmas.{text_of_both}

-- a text with so many edits after it
abbrev pub with_edits : (q n : ℕ) → List ℕ → (x count : ℕ) → List ℕ
with_edits q n text x count = text ++ text_of_lines (edits q n x count)

one_edit : (q n : ℕ) (text : List ℕ) (x k : ℕ)
    → with_edits q n (text ++ text_of_lines (edit_lines q n x)) (after_edit x) k ≡ with_edits q n text x (suc k)
unfolding edits
one_edit q n text x k =
    append_assoc text (text_of_lines (edit_lines q n x)) (text_of_lines (edits q n (after_edit x) k))
    ∙ ap (λ (t : List ℕ). text ++ t) (sym (text_of_both (edit_lines q n x) (edits q n (after_edit x) k)))

pub edits_step : (q n : ℕ) (text : List ℕ) (x i : ℕ) → i < n
    → with_edits q n (text ++ text_of_lines (edit_lines q n x)) (after_edit x) (n - (i + 1)) ≡ with_edits q n text x (n - i)
edits_step q n text x i below = one_edit q n text x (n - (i + 1)) ∙ ap (λ k. with_edits q n text x k) (omega (arith, below))

pub edits_done : (q n : ℕ) (text : List ℕ) (x : ℕ) → with_edits q n text x 0 ≡ text
unfolding edits
edits_done q n text x = append-nil text
