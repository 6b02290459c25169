-- The claims of a certificate: which value stands at a place at a leaf, and which value a join makes of two; and what the rules
-- give of earlier claims.
use Rattle.std.specs.Prelude.{ℕ, ◌^◌, bit_or, bit_xor, Bool, true, false, ◌&&◌, ◌==◌, List, [], ◌∷◌, ◌++◌, map, Option, Some, None, if◌then◌else◌}
use Rattle.std.specs.Int.{bit_at}
use Rattle.std.specs.Ordering.{nat_cmp}
use Rattle.std.specs.Str.{bytes_eq}
use Rattle.mm_field.specs.declared.Field.{Field}
use Rattle.mm_logic.specs.Formula.{Formula}
use Rattle.mm_logic.specs.Formula.Formula.{Const, Ind, Member, SameElem, Sub, SameSet, Not, Bin, ExSet, AllSet, ExElem, AllElem}
use Rattle.mm_logic.specs.JoinRule.{join_type}
use Rattle.mm_logic.specs.LeafRule.{elem_type, void_type}
use Rattle.mm_logic.specs.Marks.{Marks}
use Rattle.mm_logic.specs.Operator.{Op}
use Rattle.mm_logic.specs.Order.{normal}
use Rattle.mm_logic.specs.Value.{Value}
use Rattle.mm_logic.specs.Value.{Value as value}
use Rattle.mm_tree.specs.NamedTree.{Tree}
use Rattle.mm_tree.specs.NamedTree.Tree.{Elem, Void, Join}
use Rattle.mm_checker.specs.Places.{first_part, second_part}
use Rattle.mm_checker.specs.Contents.{value_of}
use Rattle.mm_checker.specs.declared.certificate.Content.{Content}
use Rattle.mm_checker.specs.declared.certificate.Content.TheVariants as content
use Rattle.mm_cert_lines.specs.declared.certificate.GlueKey.{GlueKey}
use Rattle.mm_cert_lines.specs.declared.certificate.LeafKey.{LeafKey}

-- ---- claims

abbrev pub LeafClaims : Type 0
LeafClaims = List (LeafKey × ℕ)

abbrev pub GlueClaims : Type 0
GlueClaims = List (GlueKey × ℕ)

abbrev pub is_same_leaf : LeafKey → LeafKey → Bool
is_same_leaf a b = (a.place == b.place) && (a.leaf == b.leaf) && (a.marks == b.marks)

abbrev pub is_same_glue : GlueKey → GlueKey → Bool
is_same_glue a b = (a.place == b.place) && bytes_eq a.op b.op && (a.left == b.left) && (a.right == b.right)

-- the value of the claim with this key
abbrev pub claimed : {K : Type 0} → (K → K → Bool) → List (K × ℕ) → K → Option ℕ
claimed same [] key = None
claimed same (claim ∷ claims) key = if same key claim.0 then Some claim.1 else claimed same claims key

abbrev pub at_leaf : LeafClaims → ℕ → ℕ → ℕ → Option ℕ
at_leaf claims p k m = claimed is_same_leaf claims (record { place = p; leaf = k; marks = m })

abbrev pub at_glue : GlueClaims → ℕ → List ℕ → ℕ → ℕ → Option ℕ
at_glue claims p op a b = claimed is_same_glue claims (record { place = p; op = op; left = a; right = b })

-- all of these numbers, where each is there
abbrev pub with_number : Option ℕ → Option (List ℕ) → Option (List ℕ)
with_number None ns = None
with_number (Some n) None = None
with_number (Some n) (Some ns) = Some (n ∷ ns)

abbrev pub all_numbers : List (Option ℕ) → Option (List ℕ)
all_numbers [] = Some []
all_numbers (n ∷ ns) = with_number n (all_numbers ns)

-- ---- contents from numbers

abbrev pub parts_of : Option ℕ → Option ℕ → Option Content
parts_of (Some a) (Some b) = Some (content.Parts a b)
parts_of a b = None

-- the set of these numbers
abbrev pub set_of : Option (List ℕ) → Option Content
set_of None = None
set_of (Some ns) = Some (content.SetOf (normal nat_cmp ns))

abbrev pub one_of : Option ℕ → Option (List ℕ) → Option Content
one_of (Some a) (Some ns) = Some (content.OneOf a (normal nat_cmp ns))
one_of a ns = None

-- the content of a value of an atom
abbrev pub atom_content : Field → Value → Content
atom_content f (value.Flag n) = content.Flag n
atom_content f (value.Span t rows) = content.Space (record { f = f; t = t; rows = rows })
atom_content f v = content.Dead

-- ---- the leaf rule

-- bit s of the marks says that the element is in, or is, the variable of slot s
abbrev pub marks_of : ℕ → Marks
marks_of m = λ s. bit_at m s == 1

abbrev pub without_slot : ℕ → ℕ → ℕ
without_slot s m = if bit_at m s == 1 then bit_xor m (2 ^ s) else m

abbrev pub with_slot : ℕ → ℕ → ℕ
with_slot s m = bit_or m (2 ^ s)

abbrev pub has_element : Tree → Bool
has_element (Elem name vec weight) = true
has_element (Void name t) = false
has_element (Join name op left right) = false

-- the value that the leaf rule gives
abbrev pub leaf_type : Field → Formula → Tree → Marks → Value
leaf_type f F (Elem name vec weight) m = elem_type f F vec m
leaf_type f F (Void name t) m = void_type f F t
leaf_type f F (Join name op left right) m = void_type f F op.t3

module _ (claims : LeafClaims) (p k m : ℕ) (has : Bool) where
  -- what is claimed of the part of a quantifier with its variable away from the element, and at it, where there is an element
  abbrev pub without_element : ℕ → Option ℕ
  without_element s = at_leaf claims (first_part p) k (without_slot s m)

  abbrev pub at_element : ℕ → List (Option ℕ)
  at_element s = if has then at_leaf claims (first_part p) k (with_slot s m) ∷ [] else []

  -- the set of both, and the first with the set of the second
  abbrev pub set_at_leaf : ℕ → Option Content
  set_at_leaf s = set_of (all_numbers (without_element s ∷ at_element s))

  abbrev pub one_at_leaf : ℕ → Option Content
  one_at_leaf s = one_of (without_element s) (all_numbers (at_element s))

module _ (f : Field) (claims : LeafClaims) (p k m : ℕ) (leaf : Tree) where
  -- The content that the leaf rule gives at place p of leaf k with marks m: that of an atom from the leaf, and that of a compound
  -- place from earlier claims of its parts, where these are there.
  abbrev pub leaf_content : Formula → Option Content
  leaf_content (Bin o F G) = parts_of (at_leaf claims (first_part p) k m) (at_leaf claims (second_part p F) k m)
  leaf_content (ExSet s F) = set_at_leaf claims p k m (has_element leaf) s
  leaf_content (AllSet s F) = set_at_leaf claims p k m (has_element leaf) s
  leaf_content (ExElem s F) = one_at_leaf claims p k m (has_element leaf) s
  leaf_content (AllElem s F) = one_at_leaf claims p k m (has_element leaf) s
  leaf_content (Not F) = None
  leaf_content (Const b) = Some (atom_content f (leaf_type f (Const b) leaf (marks_of m)))
  leaf_content (Ind t) = Some (atom_content f (leaf_type f (Ind t) leaf (marks_of m)))
  leaf_content (Member x a) = Some (atom_content f (leaf_type f (Member x a) leaf (marks_of m)))
  leaf_content (SameElem x y) = Some (atom_content f (leaf_type f (SameElem x y) leaf (marks_of m)))
  leaf_content (Sub a b) = Some (atom_content f (leaf_type f (Sub a b) leaf (marks_of m)))
  leaf_content (SameSet a b) = Some (atom_content f (leaf_type f (SameSet a b) leaf (marks_of m)))

-- ---- the join rule

-- whether all subspaces in a value are of F^t
abbrev pub are_spaces_of : ℕ → Value → Bool
are_spaces_of t (value.Flag n) = true
are_spaces_of t value.Dead = true
are_spaces_of t (value.Span u rows) = u == t
are_spaces_of t (value.Pair v w) = are_spaces_of t v && are_spaces_of t w
are_spaces_of t value.Empty = true
are_spaces_of t (value.With v rest) = are_spaces_of t v && are_spaces_of t rest

abbrev pub is_atom : Content → Bool
is_atom (content.Flag n) = true
is_atom content.Dead = true
is_atom (content.Space key) = true
is_atom c = false

-- the value of a content of an atom, which has no numbers below it
abbrev pub atom_value : Content → Value
atom_value c = value_of (λ n. value.Dead) c

module _ (claims : GlueClaims) (p : ℕ) (name : List ℕ) where
  abbrev pub glued : ℕ → ℕ → Option ℕ
  glued a b = at_glue claims (first_part p) name a b

  -- each of these with each of those
  abbrev pub glued_pairs : List ℕ → List ℕ → List (Option ℕ)
  glued_pairs [] ms = []
  glued_pairs (n ∷ ns) ms = map (glued n) ms ++ glued_pairs ns ms

  abbrev pub both_parts : ℕ → Content → Content → Option Content
  both_parts second (content.Parts a b) (content.Parts c d) = parts_of (glued a c) (at_glue claims second name b d)
  both_parts second x y = None

  abbrev pub all_members : Content → Content → Option Content
  all_members (content.SetOf ns) (content.SetOf ms) = set_of (all_numbers (glued_pairs ns ms))
  all_members x y = None

  -- the element is on the left, or it is on the right
  abbrev pub on_either_side : Content → Content → Option Content
  on_either_side (content.OneOf a ns) (content.OneOf b ms) =
      one_of (glued a b) (all_numbers (map (λ n. glued n b) ns ++ map (glued a) ms))
  on_either_side x y = None

module _ (f : Field) (claims : GlueClaims) (p : ℕ) (name : List ℕ) (op : Op) where
  abbrev pub of_atoms : Formula → Content → Content → Option Content
  of_atoms F x y =
      if is_atom x && is_atom y then Some (atom_content f (join_type f F op (atom_value x) (atom_value y))) else None

  -- The content that the join rule gives at place p of two contents: that of an atom from them, and that of a compound place from
  -- earlier claims of its parts, where these are there.
  abbrev pub glue_content : Formula → Content → Content → Option Content
  glue_content (Bin o F G) x y = both_parts claims p name (second_part p F) x y
  glue_content (ExSet s F) x y = all_members claims p name x y
  glue_content (AllSet s F) x y = all_members claims p name x y
  glue_content (ExElem s F) x y = on_either_side claims p name x y
  glue_content (AllElem s F) x y = on_either_side claims p name x y
  glue_content (Not F) x y = None
  glue_content (Const b) x y = of_atoms (Const b) x y
  glue_content (Ind t) x y = of_atoms (Ind t) x y
  glue_content (Member a b) x y = of_atoms (Member a b) x y
  glue_content (SameElem a b) x y = of_atoms (SameElem a b) x y
  glue_content (Sub a b) x y = of_atoms (Sub a b) x y
  glue_content (SameSet a b) x y = of_atoms (SameSet a b) x y
