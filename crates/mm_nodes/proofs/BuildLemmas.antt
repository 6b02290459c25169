-- A tree built from its two parts.
use Rattle.std.proofs.Common.{◌≡◌, ◌+◌, ℕ, Bool, true, false, ◌||◌, List, [], ◌++◌, length, refl, sym, ap, ◌∙◌, subst, arith}
use Rattle.std.specs.List.{list_any}
use Rattle.std.proofs.lemmas.List.Folds.{list_any-append}
use Rattle.mm_logic.specs.Formula.{Formula}
use Rattle.mm_logic.specs.Value.{Value}
use Rattle.mm_logic.specs.Order.{SameMembers}
use Rattle.mm_logic.specs.Occurrence.{occurring, distinct}
use Rattle.mm_logic.specs.Growth.{AllGrown}
use Rattle.mm_logic.specs.JoinRule.{all_pairs, join_type}
use Rattle.mm_logic.proofs.GrowthLemmas.{calls-then, AllGrown-same, occurring-same, AllBegin-grown}
use Rattle.mm_logic_laws.specs.ValueLaws.{types_by_rules}
use Rattle.mm_ops.specs.OpValue.{OpValue}
use Rattle.mm_tree.specs.NamedTree.{Tree, shape}
use Rattle.mm_tree.specs.NamedTree.Tree.{Join}
use Rattle.mm_nodes.specs.KeptTrees.{KeptTree, top, row_sum, StandsFor}
use Rattle.mm_nodes.specs.KeptNodes.{tree_of}
use Rattle.mm_nodes.specs.Demands.{Frame, IsWithin, made, made_rows}
use Rattle.mm_nodes.specs.Calls.{Exceeds}
use Rattle.mm_nodes.specs.Walks.{pair_types, BuildsTree, JoinsParts}
use Rattle.mm_nodes.specs.declared.kept.Kept.{Kept}
use Rattle.mm_nodes.specs.declared.keeps.Keeps.{Ghosts}
use Rattle.mm_nodes.proofs.RoomLemmas.{within-append, within-left, within-right, within-then, within-same, exceeds_part, exceeds_later}
use Rattle.mm_nodes.proofs.StandsLemmas.{Laws, Stands, has, made-join, made_rows-join, stands-stays, stands-rows, as_many, all_pairs-same, same-then}

or_turn : (a b : Bool) → (a || b) ≡ (b || a)
or_turn true b = or_true b
  where
    or_true : (c : Bool) → true ≡ (c || true)
    or_true true = refl
    or_true false = refl
or_turn false b = or_false b
  where
    or_false : (c : Bool) → c ≡ (c || false)
    or_false true = refl
    or_false false = refl

-- the order of lists is no matter
turned : (xs ys zs : List Value) → SameMembers ((xs ++ ys) ++ zs) (zs ++ (xs ++ ys))
turned xs ys zs p =
    list_any-append p (xs ++ ys) zs ∙ or_turn (list_any p (xs ++ ys)) (list_any p zs) ∙ sym (list_any-append p zs (xs ++ ys))

module _ {N : Type 0} (K : Ghosts N) (laws : Laws K) (F : Formula) (op : OpValue) (name : List ℕ) (l r : Tree) where
  abbrev frame : List (List Value) → Frame
  frame lists = record { f = op.f; F = F; lists = lists }

  abbrev types : Tree → List Value
  types T = types_by_rules op.f (K.query F) (shape T)

  abbrev made_at : Tree → List Value
  made_at T = made op.f (K.query F) (shape T)

  abbrev rows_at : Tree → ℕ
  rows_at T = made_rows op.f (K.query F) (shape T)

  abbrev whole : Tree
  whole = Join name op.op l r

  -- what the join is asked for are the types of the rules
  pub asked_types : (lists : List (List Value)) (a b : KeptTree N) → Stands K laws (frame lists) l a → Stands K laws (frame lists) r b → SameMembers (pair_types K F lists op (top a) (top b)) (types whole)
  unfolding shape
  asked_types lists a b g h =
      subst (λ (G : Formula). SameMembers (pair_types K F lists op (top a) (top b)) (all_pairs (join_type op.f G op.op) (types l) (types r))) (sym (laws.asks F))
      (all_pairs-same (join_type op.f F op.op) (K.types (frame lists) (top a)) (types l) (K.types (frame lists) (top b)) (types r)
      (has K laws (frame lists) l a g).types (has K laws (frame lists) r b h).types)

  pub left_within : IsWithin (made_at l) (made_at whole)
  left_within = subst (λ vs. IsWithin (made_at l) vs) (sym (made-join K laws (frame []) name op.op l r))
      (within-then (made_at l) (made_at l ++ made_at r) (types whole ++ (made_at l ++ made_at r)) (within-left (made_at l) (made_at r)) (within-right (types whole) (made_at l ++ made_at r)))

  pub right_within : IsWithin (made_at r) (made_at whole)
  right_within = subst (λ vs. IsWithin (made_at r) vs) (sym (made-join K laws (frame []) name op.op l r))
      (within-then (made_at r) (made_at l ++ made_at r) (types whole ++ (made_at l ++ made_at r)) (within-right (made_at l) (made_at r)) (within-right (types whole) (made_at l ++ made_at r)))

  pub own_within : IsWithin (types whole) (made_at whole)
  own_within = subst (λ vs. IsWithin (types whole) vs) (sym (made-join K laws (frame []) name op.op l r)) (within-left (types whole) (made_at l ++ made_at r))

  pub full_left : (olds : List (List Value)) (before limit : ℕ) → Exceeds F olds (made_at l) (before + rows_at l) limit → Exceeds F olds (made_at whole) (before + rows_at whole) limit
  full_left olds before limit e =
      let all = made_rows-join K laws (frame []) name op.op l r in
      exceeds_part F olds (made_at l) (made_at whole) (before + rows_at l) (before + rows_at whole) limit left_within (omega (arith, all)) e

  module _ (olds mids : List (List Value)) (limit before middle : ℕ) (first : Kept N) (m : BuildsTree K F olds mids op.f l limit before middle first) where
    pub full_right : Exceeds F mids (made_at r) (middle + rows_at r) limit → Exceeds F olds (made_at whole) (before + rows_at whole) limit
    full_right e =
        let all = made_rows-join K laws (frame []) name op.op l r in
        let one = stands-rows K laws (frame mids) l (tree_of first) m.stands in
        let sum = m.rows in
        exceeds_later F olds mids (made_at l) (made_at r) (made_at whole) (middle + rows_at r) (before + rows_at whole) limit m.grown left_within right_within (omega (arith, all, one, sum)) e

    module _ (lasts : List (List Value)) (last : ℕ) (second : Kept N) (k : BuildsTree K F mids lasts op.f r limit middle last second) where
      both_grown : AllGrown olds lasts (occurring F (made_at l ++ made_at r))
      both_grown = calls-then F olds mids lasts (made_at l) (made_at r) m.grown k.grown

      pub left_stands : Stands K laws (frame lasts) l (tree_of first)
      left_stands = stands-stays K laws (frame mids) lasts l (tree_of first) (AllBegin-grown mids lasts (occurring F (made_at r)) k.grown) m.stands

      asked : List Value
      asked = pair_types K F lasts op (top (tree_of first)) (top (tree_of second))

      asked_same : SameMembers asked (types whole)
      unfolding asked
      asked_same = asked_types lasts (tree_of first) (tree_of second) left_stands k.stands

      pub full_join : Exceeds F lasts (pair_types K F lasts op (top (tree_of first)) (top (tree_of second)))
          (last + length (distinct (pair_types K F lasts op (top (tree_of first)) (top (tree_of second))))) limit → Exceeds F olds (made_at whole) (before + rows_at whole) limit
      unfolding asked
      full_join e =
          let all = made_rows-join K laws (frame []) name op.op l r in
          let one = stands-rows K laws (frame mids) l (tree_of first) m.stands in
          let two = stands-rows K laws (frame lasts) r (tree_of second) k.stands in
          let own = as_many asked (types whole) asked_same in
          let sum = m.rows in
          let more = k.rows in
          exceeds_later F olds lasts (made_at l ++ made_at r) asked (made_at whole) (last + length (distinct asked)) (before + rows_at whole) limit both_grown
          (within-append (made_at l) (made_at r) (made_at whole) left_within right_within)
          (within-then asked (types whole) (made_at whole) (within-same asked (types whole) asked_same) own_within) (omega (arith, all, one, two, own, sum, more)) e

      pub tree_built : (nows : List (List Value)) (after : ℕ) (kept : Kept N) → JoinsParts K F lasts nows op (tree_of first) (tree_of second) limit last after kept
          → BuildsTree K F olds nows op.f whole limit before after kept
      unfolding asked
      tree_built nows after kept j =
          let later = AllBegin-grown lasts nows (occurring F asked) j.adds.grown in
          record {
            stands = subst (λ R. StandsFor (K.IsLeaf (frame nows)) (K.IsJoin (frame nows)) whole R) (sym j.tree)
                (j.adds.is, stands-stays K laws (frame lasts) nows l (tree_of first) later left_stands, stands-stays K laws (frame lasts) nows r (tree_of second) later k.stands);
            sums = j.sums;
            grown = AllGrown-same olds nows (occurring F ((made_at l ++ made_at r) ++ asked)) (occurring F (made_at whole))
                (occurring-same F ((made_at l ++ made_at r) ++ asked) (made_at whole)
                (subst (λ vs. SameMembers ((made_at l ++ made_at r) ++ asked) vs) (sym (made-join K laws (frame []) name op.op l r))
                (same-then ((made_at l ++ made_at r) ++ asked) (asked ++ (made_at l ++ made_at r)) (types whole ++ (made_at l ++ made_at r)) (turned (made_at l) (made_at r) asked)
                (λ p. list_any-append p asked (made_at l ++ made_at r) ∙ ap (λ b. b || list_any p (made_at l ++ made_at r)) (asked_same p) ∙ sym (list_any-append p (types whole) (made_at l ++ made_at r))))))
                (calls-then F olds lasts nows (made_at l ++ made_at r) asked both_grown j.adds.grown);
            cells = j.adds.cells;
            rows =
                let sum = m.rows in
                let more = k.rows in
                let own = j.adds.rows in
                let tree = ap (row_sum K.rows) j.tree in
                omega (arith, sum, more, own, tree);
            small = j.adds.small;
          }
