-- The rows of a leaf and of a join.
use Rattle.std.proofs.Common.{◌≡◌, ◌<◌, ◌≤◌, ◌+◌, ◌==◌, ℕ, zero, suc, Bool, true, false, if◌then◌else◌, ℤ, pos, List, [], ◌∷◌, map, length, Option, Some, None, Result, Ok, Err, refl, sym, ap, ◌∙◌, subst, arith}
use Rattle.std.specs.Int.{bit_at}
use Rattle.std.proofs.lemmas.Nat.Bits.{bit_at-zero, bit_at-suc}
use Rattle.mm_field.specs.declared.Field.{Field}
use Rattle.mm_logic.specs.Formula.{Formula}
use Rattle.mm_logic.specs.Value.{Value}
use Rattle.mm_logic.specs.Marks.{mark, no_marks}
use Rattle.mm_logic.specs.Occurrence.{nodes as parts, occurring, distinct}
use Rattle.mm_logic.specs.StateSize.Query.{Least}
use Rattle.mm_logic.specs.JoinRule.{join_type, all_pairs}
use Rattle.mm_logic.specs.Growth.{root, type_at, missing_cells, AllBegin, AllGrown}
use Rattle.mm_logic.proofs.GrowthLemmas.{AllBegin-grown, list_cells-grown}
use Rattle.mm_logic_laws.specs.ValueLaws.{types_by_rules}
use Rattle.mm_ops.specs.OpValue.{OpValue}
use Rattle.mm_states.specs.Letters.{leaf_type, type_at_leaf, marks_of}
use Rattle.mm_states.specs.declared.letter.Letter.{Letter}
use Rattle.mm_tree.specs.NamedTree.{shape}
use Rattle.mm_tree.specs.Nodes.{named_leaf}
use Rattle.mm_tree.specs.declared.node.Item.{Item}
use Rattle.mm_tree.specs.declared.node.Leaf.{Leaf}
use Rattle.mm_nodes.specs.Demands.{IsExact}
use Rattle.mm_nodes.specs.LeafLetters.{IsLetterOf, vec_of}
use Rattle.mm_nodes.specs.declared.keeps.KeepFault.{KeepFault}
use Rattle.mm_nodes.specs.declared.keeps.KeepFault.TheVariants.{Full, NoMemory}
use Rattle.mm_nodes.proofs.LetterLemmas.{letter_type}
use Rattle.mm_nodes.proofs.RoomLemmas.{exact-then}
use Rattle.mm_states.specs.Lists.{AllFit}
use Rattle.mm_least.specs.declared.row.Row.{Row}
use Rattle.mm_least.specs.declared.row.Origin.{Origin}
use Rattle.mm_least.specs.declared.row.Origin.TheVariants.{Out, Taken}
use Rattle.mm_least.specs.Transitions.{TransitionValue, AreIn, ArePlaces, named, IsKnown, Told, IsTableOf}
use Rattle.mm_least.specs.NodeRowsValue.{NodeValue}
use Rattle.mm_least.specs.Rows.{shown}
use Rattle.mm_least.specs.Candidates.{Candidate, candidate, put_all, types_of, held, typed, leaf_candidates, pairs_of}
use Rattle.mm_least.specs.BestLaws.{Different, best-count}
use Rattle.mm_least.specs.Passes.{AreWithin, Passed, AreTooMany, Passes, AreOperands}
use Rattle.mm_least.specs.EmptySets.{ComesFromBoth}
use Rattle.mm_least.specs.RowCalls.{IsLeaf, IsJoinRows, MadeRows, MakesRows, IsNodeOf, row_types}
use Rattle.mm_least.specs.RowLaws.{within-stays, held-stays, of-types}
use Rattle.mm_least.specs.declared.found.Found.{Found}
use Rattle.mm_least.specs.Logs.{AreApart}
use Rattle.mm_least.specs.FoundTypes.{IsFound, names_of, rows_of}
use Rattle.mm_least.proofs.PassLemmas.{tells_apart}
use Rattle.mm_least.proofs.FoundLemmas.{different_types}
use Rattle.mm_least.proofs.WalkLemmas.{passed_none, passed_then, too_many_then, typed_stays}

-- ---- the marks of a leaf

both_false : (b : Bool) → false ≡ (if b then false else false)
both_false true = refl
both_false false = refl

never_zero : (k : ℕ) → (suc k == 0) ≡ false
never_zero k = grind (arith)

no_mark : (k : ℕ) → (bit_at 0 k == 1) ≡ mark 0 false no_marks k
no_mark k = ap (λ n. n == 1) (bit_at-zero k) ∙ both_false (k == 0)

one_mark : (k : ℕ) → (bit_at 1 k == 1) ≡ mark 0 true no_marks k
one_mark zero = refl
one_mark (suc k) = ap (λ n. n == 1) (bit_at-suc 1 k ∙ bit_at-zero k) ∙ sym (ap (λ b. if b then true else false) (never_zero k))

left_out : marks_of 0 ≡ mark 0 false no_marks
left_out = λ i k. no_mark k i

taken_in : marks_of 1 ≡ mark 0 true no_marks
taken_in = λ i k. one_mark k i

weight_in : Option Item → ℤ
weight_in None = pos 0
weight_in (Some item) = item.weight

module _ (F : Formula) (leaf : Leaf) where
  at_leaf : Bool → Option Item → Value
  at_leaf b item = type_at_leaf leaf.field F leaf.t (mark 0 b no_marks) (vec_of item)

  offered : (item : Option Item) (i : Item) → item ≡ Some i
      → leaf_candidates leaf.field F (named_leaf (record leaf { item = item })) ≡ candidate (at_leaf false item) (pos 0) Out ∷ candidate (at_leaf true item) i.weight Taken ∷ []
  unfolding at_leaf weight_in
  offered None i e = cc
  offered (Some item) i e = ap (λ w. candidate (at_leaf false (Some item)) (pos 0) Out ∷ candidate (at_leaf true (Some item)) w Taken ∷ []) (ap weight_in e)

  offered_first : (item : Option Item) → (rest : List (Candidate Origin)) × (leaf_candidates leaf.field F (named_leaf (record leaf { item = item })) ≡ candidate (at_leaf false item) (pos 0) Out ∷ rest)
  unfolding at_leaf
  offered_first None = ([], refl)
  offered_first (Some item) = (_, refl)

  first_type : (letter : Letter) → IsLetterOf leaf 0 letter → leaf_type F letter ≡ at_leaf false leaf.item
  unfolding at_leaf
  first_type letter h = letter_type F leaf 0 letter h ∙ ap (λ m. type_at_leaf leaf.field F leaf.t m (vec_of leaf.item)) left_out

  second_type : (letter : Letter) → IsLetterOf leaf 1 letter → leaf_type F letter ≡ at_leaf true leaf.item
  unfolding at_leaf
  second_type letter h = letter_type F leaf 1 letter h ∙ ap (λ m. type_at_leaf leaf.field F leaf.t m (vec_of leaf.item)) taken_in

  module _ (l0 : Letter) (h0 : IsLetterOf leaf 0 l0) where
    pub offers_first : (rest : List (Candidate Origin)) × (leaf_candidates leaf.field F (named_leaf leaf) ≡ candidate (leaf_type F l0) (pos 0) Out ∷ rest)
    offers_first = ((offered_first leaf.item).0, (offered_first leaf.item).1 ∙ ap (λ v. candidate v (pos 0) Out ∷ (offered_first leaf.item).0) (sym (first_type l0 h0)))

    pub first_full : (olds : List (List Value)) (rows0 : List Row) (room0 : ℕ) → IsExact F olds → AreWithin F olds (shown rows0) → AreTooMany F olds (candidate (leaf_type F l0) (pos 0) Out ∷ []) rows0 room0
        → AreTooMany F olds (leaf_candidates leaf.field F (named_leaf leaf)) rows0 room0
    first_full olds rows0 room0 e w h =
        subst (λ cs. AreTooMany F olds cs rows0 room0) (sym offers_first.1)
        (too_many_then F olds olds [] (candidate (leaf_type F l0) (pos 0) Out ∷ []) offers_first.0 rows0 rows0 room0 room0 (passed_none F olds rows0 room0 e w) h)

    module _ (l1 : Letter) (h1 : IsLetterOf leaf 1 l1) (item : Item) (has : leaf.item ≡ Some item) where
      pub offers_both : leaf_candidates leaf.field F (named_leaf leaf) ≡ candidate (leaf_type F l0) (pos 0) Out ∷ candidate (leaf_type F l1) item.weight Taken ∷ []
      offers_both = offered leaf.item item has ∙ (λ i. candidate (sym (first_type l0 h0) i) (pos 0) Out ∷ candidate (sym (second_type l1 h1) i) item.weight Taken ∷ [])

      pub both_pass : (olds mids nows : List (List Value)) (rows0 rows1 rows2 : List Row) (room0 room1 room2 : ℕ) (result : Result (Unit {0}) KeepFault) → Passed F olds mids (candidate (leaf_type F l0) (pos 0) Out ∷ []) rows0 rows1 room0 room1
          → Passes F mids nows (candidate (leaf_type F l1) item.weight Taken ∷ []) rows1 rows2 room1 room2 result
          → Passes F olds nows (leaf_candidates leaf.field F (named_leaf leaf)) rows0 rows2 room0 room2 result
      both_pass olds mids nows rows0 rows1 rows2 room0 room1 room2 (Ok u) p q =
          subst (λ cs. Passed F olds nows cs rows0 rows2 room0 room2) (sym offers_both) (passed_then F olds mids (candidate (leaf_type F l0) (pos 0) Out ∷ []) (candidate (leaf_type F l1) item.weight Taken ∷ []) [] rows0 rows1 room0 room1 p nows rows2 room2 q)
      both_pass olds mids nows rows0 rows1 rows2 room0 room1 room2 (Err e) p q = λ full.
          subst (λ cs. AreTooMany F olds cs rows0 room0) (sym offers_both) (too_many_then F olds mids (candidate (leaf_type F l0) (pos 0) Out ∷ []) (candidate (leaf_type F l1) item.weight Taken ∷ []) [] rows0 rows1 room0 room1 p (q full))

pub leaf_types : (f : Field) (F : Formula) (leaf : Leaf) → types_of (leaf_candidates f F (named_leaf leaf)) ≡ types_by_rules f (Least F) (shape (named_leaf leaf))
unfolding shape
leaf_types f F leaf = by leaf.item
  where
    by : (item : Option Item) → types_of (leaf_candidates f F (named_leaf (record leaf { item = item }))) ≡ types_by_rules f (Least F) (shape (named_leaf (record leaf { item = item })))
    by None = refl
    by (Some item) = refl

pub is_leaf : (leaf : Leaf) → IsLeaf (named_leaf leaf)
is_leaf leaf = by leaf.item
  where
    by : (item : Option Item) → IsLeaf (named_leaf (record leaf { item = item }))
    by None = tt
    by (Some item) = tt

-- ---- from a walk to rows

module _ (F : Formula) (olds nows : List (List Value)) (cs : List (Candidate Origin)) (vs : List Value) (types : types_of cs ≡ vs) (room : ℕ) where
  pub made_rows : (Is : NodeValue → Type 0) (n : NodeValue) (rest : ℕ) → Is n → Passed F olds nows cs [] n.rows room rest → MadeRows F olds nows Is vs room n
  made_rows Is n rest is p =
      let more = list_cells-grown (parts F) olds nows (occurring F (types_of cs)) p.grown in
      let sum = p.taken in
      record {
        is = is;
        grown = subst (λ us. AllGrown olds nows (occurring F us)) types p.grown;
        fits = subst (λ us. missing_cells F olds us + length n.rows ≤ room) types (omega (arith, more, sum));
      }

  pub too_many_rows : AreTooMany F olds cs [] room → room < missing_cells F olds vs + length (distinct vs)
  too_many_rows h =
      let count = best-count cs in
      subst (λ us. room < missing_cells F olds us + length (distinct us)) types (omega (arith, h, count))

-- no more rows than room
pub few_rows : (F : Formula) (olds nows : List (List Value)) (cs : List (Candidate Origin)) (rows : List Row) (room rest : ℕ) → Passed F olds nows cs [] rows room rest → length rows ≤ room
few_rows F olds nows cs rows room rest p =
    let more = list_cells-grown (parts F) olds nows (occurring F (types_of cs)) p.grown in
    let sum = p.taken in
    omega (arith, more, sum)

pub operands_within : (F : Formula) (f : Field) (t : ℕ) (lists : List (List Value)) (ps : List (ℕ × ℤ)) → AreOperands F f t lists ps → AreWithin F lists ps
operands_within F f t lists [] h = tt
operands_within F f t lists (p ∷ ps) h = (h.0.within, operands_within F f t lists ps h.1)

ids_in : (F : Formula) (lists : List (List Value)) (rows : List Row) → AreWithin F lists (shown rows) → AreIn F lists (map (λ r. r.id) rows)
ids_in F lists [] h = tt
ids_in F lists (r ∷ rows) h = (h.0, ids_in F lists rows h.1)

types_held : (F : Formula) (lists : List (List Value)) (rows : List Row) → map (type_at F lists) (map (λ r. r.id) rows) ≡ types_of (held F lists rows)
types_held F lists [] = refl
types_held F lists (r ∷ rows) = ap (λ vs. type_at F lists r.id ∷ vs) (types_held F lists rows)

module _ (F : Formula) (op : OpValue) (olds nows : List (List Value)) (a b n : NodeValue) (ao : AreOperands F op.f op.op.t1 olds (shown a.rows)) (bo : AreOperands F op.f op.op.t2 olds (shown b.rows)) (room rest : ℕ)
    (p : Passed F olds nows (pairs_of (join_type op.f F op.op) (typed F olds (shown a.rows)) 0 (typed F olds (shown b.rows))) [] n.rows room rest) where
  grows : AllBegin olds nows
  grows = AllBegin-grown olds nows _ p.grown

  pub joins_rows : IsKnown (record { f = op.f; F = F; lists = nows }) op.op n.known → ComesFromBoth a.nothing b.nothing n.rows n.nothing → IsJoinRows (record { f = op.f; F = F; lists = nows }) op.op a b n
  joins_rows known nothing = record {
    left_within = within-stays F olds nows (shown a.rows) grows (operands_within F op.f op.op.t1 olds (shown a.rows) ao);
    right_within = within-stays F olds nows (shown b.rows) grows (operands_within F op.f op.op.t2 olds (shown b.rows) bo);
    within = p.within;
    rows =
        p.best
        ∙ (λ i. put_all (pairs_of (join_type op.f F op.op) (sym (typed_stays F op.f op.op.t1 olds nows (shown a.rows) grows ao) i) 0 (sym (typed_stays F op.f op.op.t2 olds nows (shown b.rows) grows bo) i)) []);
    known = known;
    nothing = nothing;
  }

  types_now : (rows : List Row) → AreWithin F olds (shown rows) → types_of (held F olds rows) ≡ map (type_at F nows) (map (λ r. r.id) rows)
  types_now rows w = ap types_of (sym (held-stays F olds nows rows grows w)) ∙ sym (types_held F nows rows)

  module _ (exact : IsExact F olds) (ids table : List ℕ) (apart : AreApart ids) (placed : ArePlaces ids table) (occur : (n : ℕ) → AllFit (λ id. id < n) (named ids table) → AllFit (λ id. id < n) ids)
      (told : Told F olds nows [] (named ids table) (types_of (pairs_of (join_type op.f F op.op) (typed F olds (shown a.rows)) 0 (typed F olds (shown b.rows))))) where
    all_in : AreIn F nows ids
    all_in = occur (length (root F nows)) told.within

    node_known : (known : Option TransitionValue) → IsTableOf a.rows b.rows ids table known → IsKnown (record { f = op.f; F = F; lists = nows }) op.op known
    node_known None is = tt
    node_known (Some t) is =
        let aw = operands_within F op.f op.op.t1 olds (shown a.rows) ao in
        let bw = operands_within F op.f op.op.t2 olds (shown b.rows) bo in
        record {
          left_within = subst (AreIn F nows) (sym is.left) (ids_in F nows a.rows (within-stays F olds nows (shown a.rows) grows aw));
          right_within = subst (AreIn F nows) (sym is.right) (ids_in F nows b.rows (within-stays F olds nows (shown b.rows) grows bw));
          within = subst (AreIn F nows) (sym is.ids_are) all_in;
          different =
              subst (λ is. Different (map (type_at F nows) is)) (sym is.ids_are)
              (different_types (type_at F nows) (length (root F nows)) (tells_apart F nows (exact-then F olds nows _ exact p.grown)) ids all_in apart);
          placed = subst (λ is. ArePlaces is t.table) (sym is.ids_are) (subst (ArePlaces ids) (sym is.table_is) placed);
          tells =
              (λ i. map (type_at F nows) (named (is.ids_are i) (is.table_is i))) ∙ told.tells ∙ of-types F olds (join_type op.f F op.op) a.rows b.rows 0
              ∙ (λ i. all_pairs (join_type op.f F op.op) ((types_now a.rows aw ∙ ap (map (type_at F nows)) (sym is.left)) i) ((types_now b.rows bw ∙ ap (map (type_at F nows)) (sym is.right)) i));
        }

    pub made_node : IsTableOf a.rows b.rows ids table n.known → ComesFromBoth a.nothing b.nothing n.rows n.nothing
        → MadeRows F olds nows (IsJoinRows (record { f = op.f; F = F; lists = nows }) op.op a b)
        (all_pairs (join_type op.f F op.op) (row_types (record { f = op.f; F = F; lists = olds }) a) (row_types (record { f = op.f; F = F; lists = olds }) b)) room n
    made_node is nothing =
        made_rows F olds nows (pairs_of (join_type op.f F op.op) (typed F olds (shown a.rows)) 0 (typed F olds (shown b.rows))) _ (of-types F olds (join_type op.f F op.op) a.rows b.rows 0) room
        (IsJoinRows (record { f = op.f; F = F; lists = nows }) op.op a b) n rest (joins_rows (node_known n.known is) nothing) p

-- a node that is made, or want of memory
pub node_made : (F : Formula) (op : OpValue) (olds nows : List (List Value)) (a b : NodeValue) → AreOperands F op.f op.op.t1 olds (shown a.rows) → AreOperands F op.f op.op.t2 olds (shown b.rows) → IsExact F olds
    → (found : Found) → IsFound found → (room rest : ℕ) → Passed F olds nows (pairs_of (join_type op.f F op.op) (typed F olds (shown a.rows)) 0 (typed F olds (shown b.rows))) [] (rows_of found) room rest
    → Told F olds nows [] (names_of found) (types_of (pairs_of (join_type op.f F op.op) (typed F olds (shown a.rows)) 0 (typed F olds (shown b.rows))))
    → (result : Result NodeValue KeepFault) → IsNodeOf (rows_of found) a.rows b.rows a.nothing b.nothing found.ids.items found.table.items result
    → MakesRows F olds nows (IsJoinRows (record { f = op.f; F = F; lists = nows }) op.op a b)
    (all_pairs (join_type op.f F op.op) (row_types (record { f = op.f; F = F; lists = olds }) a) (row_types (record { f = op.f; F = F; lists = olds }) b)) room result
node_made F op olds nows a b ao bo exact found h room rest p told (Ok n) is =
    made_node F op olds nows a b n ao bo room rest
    (subst (λ (rs : List Row). Passed F olds nows (pairs_of (join_type op.f F op.op) (typed F olds (shown a.rows)) 0 (typed F olds (shown b.rows))) [] rs room rest) (sym is.0) p)
    exact found.ids.items found.table.items h.apart h.tabled h.occur told is.1
    (subst (λ (rs : List Row). ComesFromBoth a.nothing b.nothing rs n.nothing) (sym is.0) is.2)
node_made F op olds nows a b ao bo exact found h room rest p told (Err e) is = λ full. absurd (not_both e is full)
  where
    not_both : (f : KeepFault) → f ≡ NoMemory → f ≡ Full → ⊥
    not_both f p q = cc
