-- When a certificate passes, and what it answers.
use Rattle.std.specs.Prelude.{◌≡◌, ℕ, Bool, true, false, ◌&&◌, ◌||◌, ◌==◌, not, ℤ, pos, int_lt, List, [], ◌∷◌, ◌++◌, slice_get, Option, Some, None, is_some, if◌then◌else◌}
use Rattle.std.specs.List.{list_any, items_where_true}
use Rattle.std.specs.Str.{bytes_eq}
use Rattle.mm_field.specs.declared.Field.{Field}
use Rattle.mm_logic.specs.Acceptance.{accepts}
use Rattle.mm_logic.specs.Formula.{Formula}
use Rattle.mm_logic.specs.Operator.{Op}
use Rattle.mm_tree.specs.NamedTree.{Tree, element_names}
use Rattle.mm_tree.specs.NamedTree.Tree.{Elem, Void, Join}
use Rattle.mm_checker.specs.Places.{places}
use Rattle.mm_checker.specs.Contents.{meaning, is_value, content_at, with_members, is_same}
use Rattle.mm_checker.specs.Claims.{LeafClaims, GlueClaims, claimed, is_same_leaf, is_same_glue, leaf_content, glue_content, are_spaces_of, has_element}
use Rattle.mm_checker.specs.NodeLines.{TreeLine, Row, Rooted, lines_from, leaves, choice, node_passes, next_row, with_node}
use Rattle.mm_cert_lines.specs.declared.certificate.CertLine.{CertLine}
use Rattle.mm_cert_lines.specs.declared.certificate.CertLine.TheVariants.{Val, More, Leaf, Glue, Node, Has, HasSet, End}
use Rattle.mm_checker.specs.declared.certificate.Content.{Content}
use Rattle.mm_cert_lines.specs.declared.certificate.GlueKey.{GlueKey}
use Rattle.mm_cert_lines.specs.declared.certificate.LeafKey.{LeafKey}
use Rattle.mm_cert_lines.specs.declared.certificate.Stated.{Stated}
use Rattle.mm_checker.specs.declared.certificate.Valued.{Valued}

-- What a certificate is about: a formula over a named tree, and whether it is decided or a least set for its slot 0 is sought.
pub record Subject : Type 0 where
  pub f : Field
  pub formula : Formula
  pub least : Bool
  pub tree : Tree

-- `val` lines come first, then `leaf` and `glue` lines, and then those of nodes.
pub data Stage : Type 0 where
  Values Claims Nodes : Stage

-- a node that is begun, and its rows so far
pub record Begun : Type 0 where
  pub node : TreeLine
  pub rows : List Row

-- What the lines so far say: the values by their numbers, and the one that may still get members; the claims; the trees that are
-- done and not joined yet, the last first; the node that is begun, and those to come.
pub record State : Type 0 where
  pub stage : Stage
  pub values : List Valued
  pub unended : Option Valued
  pub leaf_claims : LeafClaims
  pub glue_claims : GlueClaims
  pub trees : List Rooted
  pub begun : Option Begun
  pub to_come : List TreeLine

abbrev pub start : Subject → State
start s = record {
  stage = Values;
  values = [];
  unended = None;
  leaf_claims = [];
  glue_claims = [];
  trees = [];
  begun = None;
  to_come = lines_from 0 s.tree;
}

-- The answer of a formula that is decided; a least set by its weight and the names of its elements; or that there is none.
pub data Answer : Type 0 where
  Truth : Bool → Answer
  Least : ℤ → List (List ℕ) → Answer
  Nothing : Answer

-- what a line makes of a state
pub data Next : Type 0 where
  Goes : State → Next
  Done : Answer → Next

infixl 10 ◌>>=◌
abbrev pub ◌>>=◌ : {A B : Type 0} → Option A → (A → Option B) → Option B
None >>= g = None
(Some x) >>= g = g x

abbrev pub only_if : {A : Type 0} → Bool → A → Option A
only_if false x = None
only_if true x = Some x

-- ---- values

abbrev pub is_valued : Valued → Valued → Bool
is_valued v w = (v.place == w.place) && is_same v.content w.content

abbrev pub closed : State → Option Valued → Option State
closed st None = Some st
closed st (Some v) = only_if (not (list_any (is_valued v) st.values)) (record st { values = st.values ++ v ∷ []; unended = None })

-- The value that may still get members is ended by each line but `more`, and then is no earlier value of its place again.
abbrev pub ended : State → Option State
ended st = closed st st.unended

abbrev pub before_claims : Stage → Bool
before_claims Values = true
before_claims Claims = false
before_claims Nodes = false

abbrev pub before_nodes : Stage → Bool
before_nodes Values = true
before_nodes Claims = true
before_nodes Nodes = false

abbrev pub opened : State → ℕ → Option Content → Option State
opened st p None = None
opened st p (Some c) = Some (record st { unended = Some (record { place = p; content = c }) })

abbrev pub val_line : Subject → ℕ → Stated → State → Option State
val_line s p stated st =
    slice_get (places s.formula) p
    >>= λ F. only_if (before_claims st.stage) st
    >>= λ st. opened st p (content_at st.values p F stated)

abbrev pub more_line : List ℕ → State → Option State
more_line ns st = st.unended >>= λ v. opened st v.place (with_members st.values v.place v.content ns)

-- ---- claims

abbrev pub content_of : List Valued → ℕ → Option Content
content_of values n = slice_get values n >>= λ v. Some v.content

-- The value of a place at a leaf, with marks, and none where there is no element: it passes where the key is new and the
-- leaf rule gives the value.
abbrev pub leaf_line : Subject → LeafKey → ℕ → State → Option State
leaf_line s key v st =
    slice_get (places s.formula) key.place
    >>= λ F. slice_get (leaves s.tree) key.leaf
    >>= λ leaf. leaf_content s.f st.leaf_claims key.place key.leaf key.marks leaf F
    >>= λ given. content_of st.values v
    >>= λ told. only_if
    (before_nodes st.stage && (has_element leaf || key.marks == 0)
    && not (is_some (claimed is_same_leaf st.leaf_claims key)) && is_value st.values key.place v && is_same given told)
    (record st { stage = Claims; leaf_claims = st.leaf_claims ++ (key, v) ∷ [] })

-- the operator of a join of the tree with this name
abbrev pub first_op : Option Op → Option Op → Option Op
first_op (Some op) other = Some op
first_op None other = other

abbrev pub op_named : List ℕ → Tree → Option Op
op_named name (Elem n vec weight) = None
op_named name (Void n t) = None
op_named name (Join n op left right) =
    if bytes_eq name n then Some op else first_op (op_named name left) (op_named name right)

-- The value that an operator of the tree makes of two values whose subspaces are of its boundaries.
abbrev pub glue_line : Subject → GlueKey → ℕ → State → Option State
glue_line s key v st =
    slice_get (places s.formula) key.place
    >>= λ F. op_named key.op s.tree
    >>= λ op. content_of st.values key.left
    >>= λ left. content_of st.values key.right
    >>= λ right. only_if
    (before_nodes st.stage && is_value st.values key.place key.left && is_value st.values key.place key.right
    && are_spaces_of op.t1 (meaning st.values key.left) && are_spaces_of op.t2 (meaning st.values key.right)) st
    >>= λ st. glue_content s.f st.glue_claims key.place key.op op F left right
    >>= λ given. content_of st.values v
    >>= λ told. only_if
    (not (is_some (claimed is_same_glue st.glue_claims key)) && is_value st.values key.place v && is_same given told)
    (record st { stage = Claims; glue_claims = st.glue_claims ++ (key, v) ∷ [] })

-- ---- nodes

abbrev pub finished : Subject → State → Option Begun → Option State
finished s st None = Some st
finished s st (Some b) =
    only_if (node_passes s.least st.leaf_claims st.glue_claims st.trees b.node b.rows)
    (record st { trees = with_node st.trees b.node b.rows; begun = None })

-- The node that is begun is tested at the next line that is no `has`.
abbrev pub node_ended : Subject → State → Option State
node_ended s st = finished s st st.begun

abbrev pub begin : State → List TreeLine → Option State
begin st [] = None
begin st (node ∷ nodes) = Some (record st { stage = Nodes; begun = Some (record { node = node; rows = [] }); to_come = nodes })

abbrev pub node_line : Subject → State → Option State
node_line s st = node_ended s st >>= λ st. begin st st.to_come

-- a row more
abbrev pub has_line : Subject → (v : ℕ) → ℤ → (x y : ℕ) → State → Option State
has_line s v w x y st =
    st.begun
    >>= λ b. next_row b.rows x y (choice s.least st.leaf_claims st.glue_claims st.trees b.node x y) v w
    >>= λ r. Some (record st { begun = Some (record { node = b.node; rows = b.rows ++ r ∷ [] }) })

-- ---- the answer

abbrev pub is_accepted : Subject → State → Row → Bool
is_accepted s st r = accepts s.formula (meaning st.values r.value)

-- the first of the lightest rows that are accepted
abbrev pub lighter : Row → Option Row → Row
lighter r None = r
lighter r (Some q) = if int_lt q.weight r.weight then q else r

abbrev pub lightest : (Row → Bool) → List Row → Option Row
lightest p [] = None
lightest p (r ∷ rows) = if p r then Some (lighter r (lightest p rows)) else lightest p rows

-- The names of the elements of the set are given in leaf order.
abbrev pub least_answer : List (List ℕ) → Option Row → Answer
least_answer names None = Nothing
least_answer names (Some r) = Least r.weight (items_where_true r.set names)

abbrev pub answer : Subject → List (List ℕ) → (Row → Bool) → List Row → Answer
answer s names accepted rows = if s.least then least_answer names (lightest accepted rows) else Truth (list_any accepted rows)

abbrev pub answer_of : Subject → State → List Rooted → List TreeLine → Option Answer
answer_of s st (root ∷ []) [] = Some (answer s (element_names s.tree) (is_accepted s st) root.rows)
answer_of s st trees to_come = None

abbrev pub is_begun : Option Begun → Bool
is_begun None = false
is_begun (Some b) = true

-- `end`, after the last node
abbrev pub end_line : Subject → State → Option Answer
end_line s st = only_if (is_begun st.begun) st >>= λ st. node_ended s st >>= λ st. answer_of s st st.trees st.to_come

-- ---- a line

abbrev pub goes : Option State → Option Next
goes None = None
goes (Some st) = Some (Goes st)

abbrev pub done : Option Answer → Option Next
done None = None
done (Some a) = Some (Done a)

-- What a line makes of the lines before it: nothing where it does not pass.
unfoldable pub step : Subject → State → CertLine → Option Next
step s st (Val p stated) = goes (ended st >>= val_line s p stated)
step s st (More ns) = goes (more_line ns st)
step s st (Leaf key v) = goes (ended st >>= leaf_line s key v)
step s st (Glue key v) = goes (ended st >>= glue_line s key v)
step s st Node = goes (ended st >>= node_line s)
step s st (Has v) = goes (ended st >>= λ st. only_if (not s.least) st >>= has_line s v (pos 0) 0 0)
step s st (HasSet v w x y) = goes (ended st >>= λ st. only_if s.least st >>= has_line s v w x y)
step s st End = done (ended st >>= end_line s)

-- what the lines after a line owe, where rest says when they pass
abbrev pub PassesAfter : (State → Type 0) → List CertLine → Answer → Option Next → Type 0
PassesAfter rest lines a None = ⊥
PassesAfter rest lines a (Some (Goes st)) = rest st
PassesAfter rest lines a (Some (Done b)) = (lines ≡ []) × (b ≡ a)

-- A certificate passes with an answer where each line passes and the last one gives the answer.
abbrev pub Passes : Subject → State → List CertLine → Answer → Type 0
Passes s st [] a = ⊥
Passes s st (line ∷ lines) a = PassesAfter (λ next. Passes s next lines a) lines a (step s st line)
