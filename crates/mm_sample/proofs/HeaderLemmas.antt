-- The text of the lines before the tree, from its parts.
use Rattle.std.proofs.Common.{◌≡◌, ◌<◌, ◌+◌, List, [], ◌∷◌, ◌++◌, ℕ, length, map, take, refl, sym, ap, ◌∙◌, append_assoc, arith, slice_index_or}
use Rattle.std.specs.Prelude.{codes}
use Rattle.std.specs.Fmt.{decimal}
use Rattle.std.specs.List.{range_with_len}
use Rattle.std.proofs.lemmas.List.{map-append, take_more}
use Rattle.std.proofs.lemmas.List.FromFn.{map-range_with_len_more}
use Rattle.mm_field.specs.declared.Field.{Field}
use Rattle.mm_field.specs.Digits.{order}
use Rattle.mm_sample.specs.SampleText.{elements_line, header_lines, row_line}
use Rattle.mm_sample.specs.SampleTree.{element_name}
use Rattle.mm_tree.specs.TreeText.{spaced, text_of_lines}
use Rattle.mm_tree.proofs.TextLemmas.{text_of_both}

-- ---- the line of elements

spaced_more : (w : List ℕ) (ws : List (List ℕ)) (v : List ℕ) → spaced (w ∷ (ws ++ v ∷ [])) ≡ spaced (w ∷ ws) ++ 32 ∷ v
spaced_more w [] v = refl
spaced_more w (u ∷ us) v = ap (λ (t : List ℕ). w ++ 32 ∷ t) (spaced_more u us v) ∙ sym (append_assoc w (32 ∷ spaced (u ∷ us)) (32 ∷ v))

elements_more : (i : ℕ) → elements_line (i + 1) ≡ elements_line i ++ 32 ∷ element_name (i + 1)
elements_more i =
    ap (λ (names : List (List ℕ)). spaced (codes "elements" ∷ names)) (map-range_with_len_more element_name 1 i (i + 1) (omega arith))
    ∙ spaced_more (codes "elements") (map element_name (range_with_len 1 i)) (element_name (i + 1))

pub elements_grow : (text : List ℕ) (i : ℕ) → ((text ++ elements_line i) ++ 32 ∷ []) ++ element_name (i + 1) ≡ text ++ elements_line (i + 1)
elements_grow text i =
    append_assoc (text ++ elements_line i) (32 ∷ []) (element_name (i + 1))
    ∙ append_assoc text (elements_line i) (32 ∷ element_name (i + 1))
    ∙ ap (λ (t : List ℕ). text ++ t) (sym (elements_more i))

-- ---- the rows

abbrev pub rows_text : List (List ℕ) → List ℕ
rows_text rows = text_of_lines (map row_line rows)

pub rows_grow : (text : List ℕ) (rows : List (List ℕ)) (i : ℕ) → i < length rows
    → (text ++ rows_text (take i rows)) ++ text_of_lines (row_line (slice_index_or rows i []) ∷ []) ≡ text ++ rows_text (take (i + 1) rows)
rows_grow text rows i below =
    let row : List (List ℕ) = slice_index_or rows i [] ∷ [] in
    append_assoc text (rows_text (take i rows)) (rows_text row)
    ∙ ap (λ (t : List ℕ). text ++ t)
    (sym (text_of_both (map row_line (take i rows)) (map row_line row))
    ∙ ap text_of_lines (sym (map-append row_line (take i rows) row) ∙ ap (λ (rs : List (List ℕ)). map row_line rs) (sym (take_more rows i [] below))))

-- ---- the whole header

abbrev operator_lines : List (List ℕ)
operator_lines = codes "op p 2 2 2 0 10/01 10/01" ∷ codes "op s 2 2 2 1 100/011 010/001" ∷ codes "tree" ∷ []

joined_parts : (a b c d e g h i : List ℕ) → ((((((a ++ b) ++ c) ++ d) ++ e) ++ g) ++ h) ++ i ≡ a ++ (b ++ (c ++ (d ++ (e ++ (g ++ (h ++ i))))))
joined_parts a b c d e g h i =
    append_assoc (((((a ++ b) ++ c) ++ d) ++ e) ++ g) h i
    ∙ append_assoc ((((a ++ b) ++ c) ++ d) ++ e) g (h ++ i)
    ∙ append_assoc (((a ++ b) ++ c) ++ d) e (g ++ (h ++ i))
    ∙ append_assoc ((a ++ b) ++ c) d (e ++ (g ++ (h ++ i)))
    ∙ append_assoc (a ++ b) c (d ++ (e ++ (g ++ (h ++ i))))
    ∙ append_assoc a b (c ++ (d ++ (e ++ (g ++ (h ++ i)))))

pub header_parts : (text : List ℕ) (f : Field) (n : ℕ) (rows : List (List ℕ))
    → ((((((text ++ codes "mso 1\nfield ") ++ decimal (order f)) ++ codes "\n") ++ elements_line n) ++ codes "\n") ++ rows_text rows) ++ text_of_lines operator_lines
    ≡ text ++ text_of_lines (header_lines f n rows)
header_parts text f n rows =
    joined_parts text (codes "mso 1\nfield ") (decimal (order f)) (codes "\n") (elements_line n) (codes "\n") (rows_text rows) (text_of_lines operator_lines)
    ∙ ap (λ (t : List ℕ). text ++ (codes "mso 1\nfield " ++ (decimal (order f) ++ (codes "\n" ++ (elements_line n ++ (codes "\n" ++ t))))))
    (sym (text_of_both (map row_line rows) operator_lines))
