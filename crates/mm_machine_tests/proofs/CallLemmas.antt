-- What the calls of tests need: the value of a leaf can be joined, and lists that grew within room are short.
use Rattle.std.proofs.Common.{◌≡◌, ◌<◌, ◌≤◌, ◌+◌, ◌^◌, ℕ, List, [], ◌∷◌, map, drop, length, refl, sym, ap, ◌∙◌, subst, arith, Option, Some, None}
use Rattle.std.proofs.lemmas.List.{drop-map}
use Rattle.mm_logic.specs.Formula.{Formula}
use Rattle.mm_logic.specs.Value.{Value}
use Rattle.mm_logic.specs.PossibleValues.{IsValueOf}
use Rattle.mm_logic.specs.LeafRule.{elem_type}
use Rattle.mm_logic.specs.Occurrence.{nodes, occurring, list_cells}
use Rattle.mm_logic.specs.Growth.{missing_cells, no_values, type_at}
use Rattle.mm_logic.proofs.GrowthLemmas.{list_cells-grown}
use Rattle.mm_logic_laws.proofs.PossibleValueLemmas.{rules_keep_values}
use Rattle.mm_ops.specs.OpValue.{OpValue}
use Rattle.mm_field.specs.declared.Field.{Field}
use Rattle.mm_states.specs.declared.letter.Letter.{Letter}
use Rattle.mm_states.specs.Letters.{IsLetter, IsVectorOf, IsOver, leaf_type, type_at_leaf, marks_of}
use Rattle.mm_states.specs.Calls.{IsRoomy, IsOperand, CanRead, CanJoin, Numbers}

pub leaf_value : (F : Formula) (l : Letter) → IsLetter l → IsValueOf l.field l.t F (leaf_type F l)
leaf_value F l h = by l.vec h.vector
  where
    by : (v : Option (List ℕ)) → IsVectorOf l.field l.t v → IsValueOf l.field l.t F (type_at_leaf l.field F l.t (marks_of l.marks) v)
    by None k = (rules_keep_values l.field F).1 l.t
    by (Some vec) k = subst (λ t. IsValueOf l.field t F (elem_type l.field F vec (marks_of l.marks))) k.0 ((rules_keep_values l.field F).0 vec (marks_of l.marks))

no_cells : (Fs Gs : List Formula) → list_cells Fs (map (λ G. []) Gs) ≡ 0
no_cells [] Gs = refl
no_cells (F ∷ Fs) [] = refl
no_cells (F ∷ Fs) (G ∷ Gs) = omega (arith, no_cells Fs Gs)

pub empty_cells : (part : ℕ) (F : Formula) (Fs : List Formula) (lists : List (List Value)) → lists ≡ drop part (no_values F) → list_cells Fs lists ≡ 0
empty_cells part F Fs lists e = ap (list_cells Fs) (e ∙ drop-map (λ G. []) part (nodes F)) ∙ no_cells Fs (drop part (nodes F))

pub grown_cells : (F : Formula) (v : Value) (olds nows : List (List Value)) (room id : ℕ) → Numbers F v olds nows id × (missing_cells F olds (v ∷ []) ≤ room)
    → list_cells (nodes F) nows ≤ list_cells (nodes F) olds + room
grown_cells F v olds nows room id a = omega (arith, list_cells-grown (nodes F) olds nows (occurring F (v ∷ [])) a.0.grown, a.1)

-- the number of a leaf, as an operand
pub leaf_operand : (F : Formula) (l : Letter) (f : Field) (t : ℕ) (nows : List (List Value)) (id : ℕ) → IsLetter l → l.field ≡ f → t ≡ l.t
    → (olds : List (List Value)) → Numbers F (leaf_type F l) olds nows id → IsOperand F f t nows id
leaf_operand F l f t nows id h e b olds n = record {
  within = n.within;
  value = subst (λ g. IsValueOf g t F (type_at F nows id)) e (subst (λ s. IsValueOf l.field s F (type_at F nows id)) (sym b) (subst (IsValueOf l.field l.t F) (sym n.value) (leaf_value F l h)));
}

pub can_read : (F : Formula) (g : Field) (part : ℕ) (G : Formula) (lists : List (List Value)) (l : Letter) (room : ℕ) → room < 2 ^ 32 → IsLetter l → IsOver F g l.field → lists ≡ drop part (no_values G)
    → CanRead F g lists l room
can_read F g part G lists l room m h o e = record { field = o; readable = h; roomy = omega (arith, m, empty_cells part G (nodes F) lists e) }

module _ (F : Formula) (g : Field) (l : Letter) (op : OpValue) (h : IsLetter l) (e : l.field ≡ op.f) (b : op.op.t1 ≡ l.t) (c : op.op.t2 ≡ l.t) (o : IsOver F g l.field)
    (olds nows : List (List Value)) (none : list_cells (nodes F) olds ≡ 0) (id : ℕ) (a : Numbers F (leaf_type F l) olds nows id × (missing_cells F olds (leaf_type F l ∷ []) ≤ 1000)) where
  -- the leaf's cells
  pub leaf_cells : list_cells (nodes F) nows ≤ 1000
  leaf_cells = omega (arith, none, grown_cells F (leaf_type F l) olds nows 1000 id a)

  -- the join of the leaf with itself, of an automaton of the same formula whose lists are those
  pub can_join : (G : Formula) (k : Field) (lists : List (List Value)) → G ≡ F → k ≡ g → lists ≡ nows → CanJoin G k lists op id id 1000
  can_join G k lists s t u =
      subst (λ H. CanJoin H k lists op id id 1000) (sym s)
      (subst (λ x. CanJoin F x lists op id id 1000) (sym t)
      (subst (λ ls. CanJoin F g ls op id id 1000) (sym u)
      (record {
        field = λ i. o i ∙ e;
        left_operand = leaf_operand F l op.f op.op.t1 nows id h e b olds a.0;
        right_operand = leaf_operand F l op.f op.op.t2 nows id h e c olds a.0;
        roomy = omega (arith, leaf_cells);
      })))

  -- the cells after a join
  pub join_cells : (G : Formula) (v : Value) (lists news : List (List Value)) (join : ℕ) → G ≡ F → lists ≡ nows → Numbers G v lists news join × (missing_cells G lists (v ∷ []) ≤ 1000)
      → list_cells (nodes G) news ≤ 2000
  join_cells G v lists news join s u n =
      let same : list_cells (nodes G) lists ≡ list_cells (nodes F) nows = λ i. list_cells (nodes (s i)) (u i) in
      omega (arith, leaf_cells, grown_cells G v lists news 1000 join n, same)

-- cells by the formula
pub cells_by : (F G : Formula) (lists : List (List Value)) (most : ℕ) → G ≡ F → most < 2 ^ 32 → list_cells (nodes F) lists ≤ most → list_cells (nodes G) lists < 2 ^ 32
cells_by F G lists most e m h = omega (arith, m, h, ap (λ H. list_cells (nodes H) lists) e)
