-- What is answered to the text of a header whose dual is asked for.
use Rattle.std.specs.Prelude.{ℕ, List, [], ◌∷◌, codes, Option, Some, None, Ok, Err}
use Rattle.std.specs.declared.result.Result.{Result}
use Rattle.mm_field.specs.declared.Field.{Field}
use Rattle.mm_tree.specs.TreeText.{text_of_lines}
use Rattle.mm_decomp.specs.BuildOutput.{matrix_in, output_of}
use Rattle.mm_decomp.specs.BuiltTree.{built}
use Rattle.mm_decomp.specs.GivenTrees.{GivenTree, given_tree_of}
use Rattle.mm_decomp.specs.HeaderText.{field_text, header_text}
use Rattle.mm_decomp.specs.Duals.{dual_of}
use Rattle.mm_decomp.specs.Shapes.{Shape}
use Rattle.mm_decomp.specs.Spaces.{Given}
use Rattle.mm_decomp.specs.TreeShapes.{element_shape}

-- The header of a tree without elements.
abbrev pub empty_text : Field → List ℕ
empty_text f = text_of_lines (codes "mso 1" ∷ field_text f ∷ codes "tree" ∷ codes "void v 0" ∷ codes "end" ∷ [])

-- The header of the tree that is built for the dual and a shape.
abbrev pub dual_header : Given → Option Shape → List ℕ
dual_header given None = empty_text given.f
dual_header given (Some shape) = header_text given.names (matrix_in (dual_of given)) (built (dual_of given) 0 [] shape)

abbrev pub dual_of_tree : GivenTree → List ℕ
dual_of_tree t = dual_header t.given (element_shape t.tree)

-- The header that `dual` makes of a text, or the words of its refusal.
unfoldable pub dual_output : List ℕ → Result (List ℕ) (List ℕ)
dual_output text = output_of (λ t. Ok (dual_of_tree t)) (given_tree_of text)
