-- The text of a sample: a job with a tree of n elements, the question for a least basis, and n edits.
use Rattle.std.specs.Prelude.{ℕ, zero, suc, ◌+◌, ◌*◌, ◌-◌, ◌==◌, List, [], ◌∷◌, ◌++◌, map, codes, if◌then◌else◌}
use Rattle.std.specs.Fmt.{decimal, signed_decimal}
use Rattle.std.specs.List.{range_with_len}
use Rattle.mm_field.specs.declared.Field.{Field}
use Rattle.mm_field.specs.Digits.{order}
use Rattle.mm_present.specs.Comparing.{present_rows}
use Rattle.mm_sample.specs.Draws.{after, digits_after, draw, weight_after}
use Rattle.mm_sample.specs.SampleTree.{element_name, sample_tree}
use Rattle.mm_tree.specs.TreeText.{elem_text, spaced, text_of_lines, tree_text}

-- `elements e1 .. en`
abbrev pub elements_line : ℕ → List ℕ
elements_line n = spaced (codes "elements" ∷ map element_name (range_with_len 1 n))

-- `row DIGITS`
abbrev pub row_line : List ℕ → List ℕ
row_line row = codes "row " ++ map (λ d. 48 + d) row

-- The lines before those of the tree, whose matrix has these rows.
abbrev pub header_lines : Field → ℕ → List (List ℕ) → List (List ℕ)
header_lines f n rows =
    codes "mso 1" ∷ (codes "field " ++ decimal (order f)) ∷ elements_line n ∷ (map row_line rows
    ++ codes "op p 2 2 2 0 10/01 10/01" ∷ codes "op s 2 2 2 1 100/011 010/001" ∷ codes "tree" ∷ [])

-- The question for a basis of least weight.
abbrev pub query_line : List ℕ
query_line = codes "least X ind(X) and all y (y in X or not ind(X|y))"

-- `weight NAME WEIGHT`, the weight drawn after x.
abbrev pub weight_lines : List ℕ → ℕ → List (List ℕ)
weight_lines name x = spaced (codes "weight" ∷ name ∷ signed_decimal (weight_after x) ∷ []) ∷ []

-- `replace NAME 0`, a leaf of this name whose digits and weight are drawn after x, and `end`.
abbrev pub replace_lines : (q : ℕ) → List ℕ → ℕ → List (List ℕ)
replace_lines q name x =
    spaced (codes "replace" ∷ name ∷ codes "0" ∷ []) ∷ elem_text name (digits_after q x) (weight_after (after 2 x)) ∷ codes "end" ∷ []

-- The edit that is drawn after x: first its element, one of n, and then whether it is a weight (0) or a new leaf (1).
unfoldable pub edit_lines : (q n x : ℕ) → List (List ℕ)
edit_lines q n x =
    let name = element_name (1 + draw 1 n x) in
    if draw 2 2 x == 0 then weight_lines name (after 2 x) else replace_lines q name (after 2 x)

-- The number after the draws of an edit: three for a weight, five for a new leaf.
unfoldable pub after_edit : ℕ → ℕ
after_edit x = if draw 2 2 x == 0 then after 3 x else after 5 x

-- So many edits, drawn after x.
unfoldable pub edits : (q n x : ℕ) → ℕ → List (List ℕ)
edits q n x zero = []
edits q n x (suc k) = edit_lines q n x ++ edits q n (after_edit x) k

-- The text of n elements: the draws of n leaves, of n - 1 joins, and of n edits.
unfoldable pub sample_text : Field → (n seed : ℕ) → List ℕ
sample_text f n seed =
    let tree = sample_tree f n seed in
    text_of_lines (header_lines f n (present_rows f tree)) ++ tree_text tree
    ++ text_of_lines (query_line ∷ edits (order f) n (after (4 * n - 1) seed) n)
