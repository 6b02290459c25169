-- How a tree is written. What such lines say is the reading of a tree's lines, which stands where the lines of a job are read, in
-- mm_job_text/specs/TreeLines: there they are read back as the same tree.
use Rattle.std.specs.Prelude.{ℕ, ℤ, List, [], ◌∷◌, ◌++◌, codes}
use Rattle.std.specs.Fmt.{decimal, signed_decimal}
use Rattle.std.specs.List.{join_with_byte}
use Rattle.mm_field.specs.declared.Field.TheVariants.{Five}
use Rattle.mm_field.specs.Vectors.{AreDigits}
use Rattle.mm_space.specs.VectorText.{vector_text}
use Rattle.mm_tree.specs.NamedTree.{Tree}
use Rattle.mm_tree.specs.NamedTree.Tree.{Elem, Void, Join}

-- Words with a single blank between each two.
abbrev pub spaced : List (List ℕ) → List ℕ
spaced words = join_with_byte 32 words

-- `elem NAME VECTOR WEIGHT`
abbrev pub elem_text : (name vec : List ℕ) → ℤ → List ℕ
elem_text name vec weight = spaced (codes "elem" ∷ name ∷ vector_text vec ∷ signed_decimal weight ∷ [])

-- `void NAME T`
abbrev pub void_text : List ℕ → ℕ → List ℕ
void_text name t = spaced (codes "void" ∷ name ∷ decimal t ∷ [])

-- `join NAME`
abbrev pub join_text : List ℕ → List ℕ
join_text name = spaced (codes "join" ∷ name ∷ [])

-- The lines of the nodes of a tree: each join's after those of its left and then of its right subtree.
unfoldable pub node_lines : Tree → List (List ℕ)
node_lines (Elem name vec weight) = elem_text name vec weight ∷ []
node_lines (Void name t) = void_text name t ∷ []
node_lines (Join name op left right) = node_lines left ++ (node_lines right ++ join_text name ∷ [])

-- Lines as a text: a newline ends each.
abbrev pub text_of_lines : List (List ℕ) → List ℕ
text_of_lines [] = []
text_of_lines (line ∷ lines) = line ++ 10 ∷ text_of_lines lines

-- The text of a tree: the lines of its nodes, and `end`.
unfoldable pub tree_text : Tree → List ℕ
tree_text tree = text_of_lines (node_lines tree ++ codes "end" ∷ [])

-- Digits that one byte shows.
abbrev pub AreShown : List ℕ → Type 0
AreShown vec = AreDigits Five vec

-- Each vector of the tree has digits that one byte shows.
abbrev pub HasShownDigits : Tree → Type 0
HasShownDigits (Elem name vec weight) = AreShown vec
HasShownDigits (Void name t) = Unit {0}
HasShownDigits (Join name op left right) = HasShownDigits left × HasShownDigits right
