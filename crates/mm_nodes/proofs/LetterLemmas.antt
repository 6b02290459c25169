-- A leaf of a valid tree can be read.
use Rattle.std.proofs.Common.{◌≡◌, ◌≤◌, ℕ, List, Option, Some, None, sym, subst}
use Rattle.mm_field.specs.declared.Field.{Field}
use Rattle.mm_logic.specs.Formula.{Formula}
use Rattle.mm_logic.specs.Value.{Value}
use Rattle.mm_states.specs.Letters.{IsLetter, IsVectorOf, leaf_type, type_at_leaf, marks_of}
use Rattle.mm_states.specs.Letters as letters
use Rattle.mm_states.specs.Calls.{CanRead}
use Rattle.mm_states.specs.declared.letter.Letter.{Letter}
use Rattle.mm_tree.specs.NamedTree.{shape, boundary}
use Rattle.mm_tree.specs.Nodes.{named_leaf, IsOver}
use Rattle.mm_tree.specs.ValidTree.{IsValidTree}
use Rattle.mm_tree.specs.declared.node.Item.{Item}
use Rattle.mm_tree.specs.declared.node.Leaf.{Leaf}
use Rattle.mm_tree.specs.declared.node.Node as nodes_of
use Rattle.mm_nodes.specs.Calls.{CanMakeLeaf}
use Rattle.mm_nodes.specs.LeafLetters.{IsLetterOf, vec_of}

vector_of_item : (leaf : Leaf) (item : Option Item) → IsOver leaf.field (nodes_of.Leaf (record leaf { item = item })) → IsValidTree leaf.field (named_leaf (record leaf { item = item }))
    → (leaf.t ≤ 6) × IsVectorOf leaf.field leaf.t (vec_of item)
unfolding shape IsOver boundary
vector_of_item leaf None o v = (v.valid_shape, tt)
vector_of_item leaf (Some item) o v = (subst (λ t. t ≤ 6) (sym o.1) v.valid_shape.1, (sym o.1, v.valid_shape.0))

pub can_read : (F : Formula) (g : Field) (lists : List (List Value)) (leaf : Leaf) (marks : ℕ) (letter : Letter) (room : ℕ) → CanMakeLeaf F g lists leaf room → IsLetterOf leaf marks letter
    → CanRead F g lists letter room
can_read F g lists leaf marks letter room c h =
    let both = vector_of_item leaf leaf.item c.over c.valid in
    record {
      field = subst (letters.IsOver F g) (sym h.field) c.field;
      readable = record {
        boundary = subst (λ t. t ≤ 6) (sym h.boundary) both.0;
        vector = subst (λ v. IsVectorOf letter.field letter.t v) (sym h.vector)
            (subst (λ t. IsVectorOf letter.field t (vec_of leaf.item)) (sym h.boundary) (subst (λ f. IsVectorOf f leaf.t (vec_of leaf.item)) (sym h.field) both.1));
      };
      roomy = c.roomy;
    }

-- what the leaf rule gives for a letter
pub letter_type : (F : Formula) (leaf : Leaf) (marks : ℕ) (letter : Letter) → IsLetterOf leaf marks letter
    → leaf_type F letter ≡ type_at_leaf leaf.field F leaf.t (marks_of marks) (vec_of leaf.item)
letter_type F leaf marks letter h = λ i. type_at_leaf (h.field i) F (h.boundary i) (marks_of (h.marked i)) (h.vector i)
