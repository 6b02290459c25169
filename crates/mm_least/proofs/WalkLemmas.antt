-- The walk over the candidates of a join.
use Rattle.std.proofs.Common.{◌≡◌, ◌<◌, ◌+◌, ◌+ℤ◌, ℕ, zero, suc, ℤ, List, [], ◌∷◌, ◌++◌, take, drop, map, length, get_or, Result, Ok, Err, refl, sym, ap, ◌∙◌, subst, arith, take-append-drop, append_assoc}
use Rattle.std.specs.Prelude.{OnOk}
use Rattle.std.proofs.lemmas.List.{map-append, take_more, length-take-le}
use Rattle.mm_field.specs.declared.Field.{Field}
use Rattle.mm_logic.specs.Formula.{Formula}
use Rattle.mm_logic.specs.Value.{Value}
use Rattle.mm_logic.specs.Occurrence.{nodes as parts, occurring, list_cells}
use Rattle.mm_logic.specs.JoinRule.{join_type}
use Rattle.mm_logic.specs.Growth.{root, type_at, missing_cells, AllBegin, AllGrown}
use Rattle.mm_logic.specs.PossibleValues.{IsValueOf}
use Rattle.mm_logic.proofs.GrowthLemmas.{AllBegin-grown, type_at-begins, within-begins, list_cells-grown, calls-then, missing-more, missing-calls, append-nothing}
use Rattle.mm_ops.specs.OpValue.{OpValue}
use Rattle.mm_states.specs.Lists.{AllFit}
use Rattle.mm_states.specs.Calls.{IsOperand, IsRoomy, Numbers, value_of_join}
use Rattle.mm_nodes.specs.Demands.{IsExact}
use Rattle.mm_nodes.specs.declared.keeps.KeepFault.{KeepFault}
use Rattle.mm_nodes.specs.declared.keeps.KeepFault.TheVariants.{Full}
use Rattle.mm_nodes.proofs.RoomLemmas.{exact-then, exact_none}
use Rattle.mm_least.specs.declared.row.Row.{Row}
use Rattle.mm_least.specs.declared.row.Origin.{Origin}
use Rattle.mm_least.specs.declared.row.Origin.TheVariants.{Pair}
use Rattle.mm_least.specs.Rows.{shown}
use Rattle.mm_least.specs.Candidates.{Candidate, candidate, put_all, types_of, held, typed, typed_by, pairs_with, pairs_of}
use Rattle.mm_least.specs.BestLaws.{put_all-longer, put_all-append}
use Rattle.mm_least.specs.Passes.{AreWithin, Passed, AreTooMany, Passes, AreOperands}
use Rattle.mm_least.specs.Transitions.{AreIn, Told}
use Rattle.mm_least.specs.RowLaws.{ids-within, ids-stay, append_fits}

pub types-append : (cs ds : List (Candidate Origin)) → types_of (cs ++ ds) ≡ types_of cs ++ types_of ds
types-append cs ds = map-append (λ c. c.type) cs ds

pub passed_none : (F : Formula) (olds : List (List Value)) (rows : List Row) (room : ℕ) → IsExact F olds → AreWithin F olds (shown rows) → Passed F olds olds [] rows rows room room
passed_none F olds rows room e w = record { grown = exact_none F olds e; within = w; best = refl; taken = refl; roomy = omega arith }

module _ (F : Formula) (olds mids : List (List Value)) (cs ds rest : List (Candidate Origin)) (rows0 rows1 : List Row) (room0 room1 : ℕ) (p : Passed F olds mids cs rows0 rows1 room0 room1) where
  cells_more : list_cells (parts F) mids ≡ list_cells (parts F) olds + missing_cells F olds (types_of cs)
  cells_more = list_cells-grown (parts F) olds mids (occurring F (types_of cs)) p.grown

  pub passed_then : (nows : List (List Value)) (rows2 : List Row) (room2 : ℕ) → Passed F mids nows ds rows1 rows2 room1 room2 → Passed F olds nows (cs ++ ds) rows0 rows2 room0 room2
  passed_then nows rows2 room2 q =
      let one = p.taken in
      let two = q.taken in
      let three = p.roomy in
      let four = q.roomy in
      record {
        grown = subst (λ vs. AllGrown olds nows (occurring F vs)) (sym (types-append cs ds)) (calls-then F olds mids nows (types_of cs) (types_of ds) p.grown q.grown);
        within = q.within;
        best = q.best ∙ ap (put_all ds) p.best ∙ sym (put_all-append cs ds (held F olds rows0));
        taken = omega (arith, one, two);
        roomy = omega (arith, three, four);
      }

  pub too_many_then : AreTooMany F mids ds rows1 room1 → AreTooMany F olds ((cs ++ ds) ++ rest) rows0 room0
  too_many_then h =
      let taken = p.taken in
      let more = cells_more in
      let calls = missing-calls F olds mids (types_of cs) (types_of ds) p.grown in
      let first = ap (missing_cells F olds) (types-append cs ds) in
      let all = missing-more F olds (types_of (cs ++ ds)) (types_of rest) in
      let whole = ap (missing_cells F olds) (types-append (cs ++ ds) rest) in
      let longer = put_all-longer rest (put_all (cs ++ ds) (held F olds rows0)) in
      let long = ap length (put_all-append (cs ++ ds) rest (held F olds rows0)) in
      let same = ap length (put_all-append cs ds (held F olds rows0) ∙ ap (put_all ds) (sym p.best)) in
      omega (arith, h, taken, more, calls, first, all, whole, longer, long, same)

  pub goes_on : (nows : List (List Value)) (rows2 : List Row) (room2 : ℕ) (e : KeepFault) → Passes F mids nows ds rows1 rows2 room1 room2 (Err e) → e ≡ Full → AreTooMany F olds ((cs ++ ds) ++ rest) rows0 room0
  goes_on nows rows2 room2 e h full = too_many_then (h full)

  pub still_exact : IsExact F olds → IsExact F mids
  still_exact e = exact-then F olds mids (types_of cs) e p.grown

  pub begins : AllBegin olds mids
  begins = AllBegin-grown olds mids (occurring F (types_of cs)) p.grown

  pub still_roomy : IsRoomy F olds room0 → IsRoomy F mids room1
  still_roomy h = let r = p.roomy in omega (arith, h, r)

pub fit_at : (P : ℕ × ℤ → Type 0) (rows : List Row) (k : ℕ) (d : Row) → AllFit P (shown rows) → k < length rows → P ((get_or rows k d).id, (get_or rows k d).weight)
fit_at P [] k d h l = absurd (omega (arith, l))
fit_at P (r ∷ rows) zero d h l = h.0
fit_at P (r ∷ rows) (suc k) d h l = fit_at P rows k d h.1 (omega (arith, l))

pub operand_stays : (F : Formula) (f : Field) (t : ℕ) (olds nows : List (List Value)) (id : ℕ) → AllBegin olds nows → IsOperand F f t olds id → IsOperand F f t nows id
operand_stays F f t olds nows id b h = record { within = within-begins F olds nows id b h.within; value = subst (IsValueOf f t F) (sym (type_at-begins F olds nows id b h.within)) h.value }

pub operands_stay : (F : Formula) (f : Field) (t : ℕ) (olds nows : List (List Value)) (ps : List (ℕ × ℤ)) → AllBegin olds nows → AreOperands F f t olds ps → AreOperands F f t nows ps
operands_stay F f t olds nows [] b h = tt
operands_stay F f t olds nows (p ∷ ps) b h = (operand_stays F f t olds nows p.0 b h.0, operands_stay F f t olds nows ps b h.1)

pub typed_stays : (F : Formula) (f : Field) (t : ℕ) (olds nows : List (List Value)) (ps : List (ℕ × ℤ)) → AllBegin olds nows → AreOperands F f t olds ps → typed F nows ps ≡ typed F olds ps
typed_stays F f t olds nows [] b h = refl
typed_stays F f t olds nows (p ∷ ps) b h = (λ i. (type_at-begins F olds nows p.0 b h.0.within i, p.1) ∷ typed_stays F f t olds nows ps b h.1 i)

module _ (F : Formula) (op : OpValue) where
  pub value_stays : (olds mids : List (List Value)) (left right : ℕ) → AllBegin olds mids → left < length (root F olds) → right < length (root F olds) → value_of_join F mids op left right ≡ value_of_join F olds op left right
  value_stays olds mids left right b l r = (λ i. join_type op.f F op.op (type_at-begins F olds mids left b l i) (type_at-begins F olds mids right b r i))

module _ (j : Value → Value → Value) where
  with-append : (p : Value × ℤ) (i : ℕ) (qs rs : List (Value × ℤ)) (n : ℕ) → pairs_with j p i (qs ++ rs) n ≡ pairs_with j p i qs n ++ pairs_with j p i rs (n + length qs)
  with-append p i [] rs n = ap (pairs_with j p i rs) (omega arith)
  with-append p i (q ∷ qs) rs n =
      ap (λ cs. candidate (j p.0 q.0) (p.1 +ℤ q.1) (Pair i n) ∷ cs)
      (with-append p i qs rs (suc n) ∙ ap (λ m. pairs_with j p i qs (suc n) ++ pairs_with j p i rs m) (omega arith))

  of-append : (ps ss : List (Value × ℤ)) (n : ℕ) (qs : List (Value × ℤ)) → pairs_of j (ps ++ ss) n qs ≡ pairs_of j ps n qs ++ pairs_of j ss (n + length ps) qs
  of-append [] ss n qs = ap (λ m. pairs_of j ss m qs) (omega arith)
  of-append (p ∷ ps) ss n qs =
      ap (λ cs. pairs_with j p n qs 0 ++ cs) (of-append ps ss (suc n) qs ∙ ap (λ m. pairs_of j ps (suc n) qs ++ pairs_of j ss m qs) (omega arith))
      ∙ sym (append_assoc (pairs_with j p n qs 0) (pairs_of j ps (suc n) qs) (pairs_of j ss (n + length (p ∷ ps)) qs))

module _ (type : ℕ → Value) where
  typed-append : (rs ss : List Row) → typed_by type (shown (rs ++ ss)) ≡ typed_by type (shown rs) ++ typed_by type (shown ss)
  typed-append [] ss = refl
  typed-append (r ∷ rs) ss = ap (λ ps. (type r.id, r.weight) ∷ ps) (typed-append rs ss)

  typed-length : (rs : List Row) → length (typed_by type (shown rs)) ≡ length rs
  typed-length [] = refl
  typed-length (r ∷ rs) = let e = typed-length rs in omega (arith, e)

  module _ (rows : List Row) (k : ℕ) (d : Row) (l : k < length rows) where
    next : typed_by type (shown (take (k + 1) rows)) ≡ typed_by type (shown (take k rows)) ++ (type (get_or rows k d).id, (get_or rows k d).weight) ∷ []
    next = ap (λ rs. typed_by type (shown rs)) (take_more rows k d l) ∙ typed-append (take k rows) (get_or rows k d ∷ [])

    front : 0 + length (typed_by type (shown (take k rows))) ≡ k
    front = let e = typed-length (take k rows) ∙ length-take-le k rows (omega (arith, l)) in omega (arith, e)

    whole : typed_by type (shown rows) ≡ typed_by type (shown (take (k + 1) rows)) ++ typed_by type (shown (drop (k + 1) rows))
    whole = ap (λ rs. typed_by type (shown rs)) (sym (take-append-drop (k + 1) rows)) ∙ typed-append (take (k + 1) rows) (drop (k + 1) rows)

    module _ (j : Value → Value → Value) where
      pub with-next : (p : Value × ℤ) (i : ℕ) → pairs_with j p i (typed_by type (shown (take (k + 1) rows))) 0
          ≡ pairs_with j p i (typed_by type (shown (take k rows))) 0 ++ candidate (j p.0 (type (get_or rows k d).id)) (p.1 +ℤ (get_or rows k d).weight) (Pair i k) ∷ []
      with-next p i =
          ap (λ qs. pairs_with j p i qs 0) next
          ∙ with-append j p i (typed_by type (shown (take k rows))) ((type (get_or rows k d).id, (get_or rows k d).weight) ∷ []) 0
          ∙ ap (λ m. pairs_with j p i (typed_by type (shown (take k rows))) 0 ++ candidate (j p.0 (type (get_or rows k d).id)) (p.1 +ℤ (get_or rows k d).weight) (Pair i m) ∷ []) front

      pub with-whole : (p : Value × ℤ) (i : ℕ) → (rest : List (Candidate Origin)) × (pairs_with j p i (typed_by type (shown rows)) 0 ≡ pairs_with j p i (typed_by type (shown (take (k + 1) rows))) 0 ++ rest)
      with-whole p i = (_, ap (λ qs. pairs_with j p i qs 0) whole ∙ with-append j p i (typed_by type (shown (take (k + 1) rows))) (typed_by type (shown (drop (k + 1) rows))) 0)

      pub of-next : (qs : List (Value × ℤ)) → pairs_of j (typed_by type (shown (take (k + 1) rows))) 0 qs
          ≡ pairs_of j (typed_by type (shown (take k rows))) 0 qs ++ pairs_with j (type (get_or rows k d).id, (get_or rows k d).weight) k qs 0
      of-next qs =
          ap (λ ps. pairs_of j ps 0 qs) next
          ∙ of-append j (typed_by type (shown (take k rows))) ((type (get_or rows k d).id, (get_or rows k d).weight) ∷ []) 0 qs
          ∙ ap (λ cs. pairs_of j (typed_by type (shown (take k rows))) 0 qs ++ cs)
          (no_more (pairs_with j (type (get_or rows k d).id, (get_or rows k d).weight) (0 + length (typed_by type (shown (take k rows)))) qs 0)
          ∙ ap (λ m. pairs_with j (type (get_or rows k d).id, (get_or rows k d).weight) m qs 0) front)
        where
          no_more : (cs : List (Candidate Origin)) → cs ++ [] ≡ cs
          no_more [] = refl
          no_more (c ∷ cs) = ap (λ ds. c ∷ ds) (no_more cs)

      pub of-whole : (qs : List (Value × ℤ)) → (rest : List (Candidate Origin)) × (pairs_of j (typed_by type (shown rows)) 0 qs ≡ pairs_of j (typed_by type (shown (take (k + 1) rows))) 0 qs ++ rest)
      of-whole qs = (_, ap (λ ps. pairs_of j ps 0 qs) whole ∙ of-append j (typed_by type (shown (take (k + 1) rows))) (typed_by type (shown (drop (k + 1) rows))) 0 qs)

-- ---- what a table is told

pub at_ok : {P : Type 0} (r : Result (Unit {0}) KeepFault) → P → OnOk r P
at_ok (Ok u) h = h
at_ok (Err e) h = tt

pub told_none : (F : Formula) (lists : List (List Value)) (ids : List ℕ) → AreIn F lists ids → Told F lists lists ids ids []
told_none F lists ids h = record { within = h; tells = append-nothing (map (type_at F lists) ids) }

pub told_then : (F : Formula) (olds mids nows : List (List Value)) (t0 t1 t2 : List ℕ) (us vs : List Value) → Told F olds mids t0 t1 us → Told F mids nows t1 t2 vs → Told F olds nows t0 t2 (us ++ vs)
told_then F olds mids nows t0 t1 t2 us vs p q = record { within = q.within; tells = q.tells ∙ ap (λ ws. ws ++ vs) p.tells ∙ append_assoc (map (type_at F olds) t0) us vs }

pub told_one : (F : Formula) (olds mids : List (List Value)) (v : Value) (id : ℕ) (t0 t1 : List ℕ) → Numbers F v olds mids id → AreIn F olds t0 → t1 ≡ t0 ++ id ∷ [] → Told F olds mids t0 t1 (v ∷ [])
told_one F olds mids v id t0 t1 n h e =
    let b = AllBegin-grown olds mids (occurring F (v ∷ [])) n.grown in
    record {
      within = subst (AreIn F mids) (sym e) (append_fits (λ i. i < length (root F mids)) t0 (id ∷ []) (ids-within F olds mids t0 b h) (n.within, tt));
      tells = ap (map (type_at F mids)) e ∙ map-append (type_at F mids) t0 (id ∷ []) ∙ (λ i. ids-stay F olds mids t0 b h i ++ n.value i ∷ []);
    }

-- ---- one step of the walk over the right rows

module _ (F : Formula) (op : OpValue) (olds mids : List (List Value)) (left : Row) (place : ℕ) (right : List Row) (k : ℕ) (d : Row) (l : k < length right)
    (lo : left.id < length (root F olds)) (ro : AreOperands F op.f op.op.t2 olds (shown right)) (rows0 rows1 rows2 : List Row) (room0 room1 room2 : ℕ) where
  abbrev pub made_of : List Row → List (Candidate Origin)
  made_of rs = pairs_with (join_type op.f F op.op) (type_at F olds left.id, left.weight) place (typed F olds (shown rs)) 0

  abbrev pub this : List (List Value) → Candidate Origin
  this lists = candidate (value_of_join F lists op left.id (get_or right k d).id) (left.weight +ℤ (get_or right k d).weight) (Pair place k)

  module _ (p : Passed F olds mids (made_of (take k right)) rows0 rows1 room0 room1) where
    grows : AllBegin olds mids
    grows = AllBegin-grown olds mids (occurring F (types_of (made_of (take k right)))) p.grown

    this_stays : this mids ∷ [] ≡ this olds ∷ []
    this_stays =
        ap (λ v. candidate v (left.weight +ℤ (get_or right k d).weight) (Pair place k) ∷ [])
        (value_stays F op olds mids left.id (get_or right k d).id grows lo (fit_at (λ q. IsOperand F op.f op.op.t2 olds q.0) right k d ro l).within)

    pub with_step : (nows : List (List Value)) → Passed F mids nows (this mids ∷ []) rows1 rows2 room1 room2 → Passed F olds nows (made_of (take (k + 1) right)) rows0 rows2 room0 room2
    with_step nows q =
        subst (λ cs. Passed F olds nows cs rows0 rows2 room0 room2) (sym (with-next (type_at F olds) right k d l (join_type op.f F op.op) (type_at F olds left.id, left.weight) place))
        (passed_then F olds mids (made_of (take k right)) (this olds ∷ []) [] rows0 rows1 room0 room1 p nows rows2 room2 (subst (λ cs. Passed F mids nows cs rows1 rows2 room1 room2) this_stays q))

    pub with_told : (nows : List (List Value)) (t0 t1 t2 : List ℕ) → Told F olds mids t0 t1 (types_of (made_of (take k right))) → Told F mids nows t1 t2 (types_of (this mids ∷ []))
        → Told F olds nows t0 t2 (types_of (made_of (take (k + 1) right)))
    with_told nows t0 t1 t2 a b =
        subst (λ cs. Told F olds nows t0 t2 (types_of cs)) (sym (with-next (type_at F olds) right k d l (join_type op.f F op.op) (type_at F olds left.id, left.weight) place))
        (subst (Told F olds nows t0 t2) (sym (types-append (made_of (take k right)) (this olds ∷ [])))
        (told_then F olds mids nows t0 t1 t2 _ _ a (subst (λ cs. Told F mids nows t1 t2 (types_of cs)) this_stays b)))

    pub with_full : AreTooMany F mids (this mids ∷ []) rows1 room1 → AreTooMany F olds (made_of right) rows0 room0
    with_full h =
        let rest = with-whole (type_at F olds) right k d l (join_type op.f F op.op) (type_at F olds left.id, left.weight) place in
        subst (λ cs. AreTooMany F olds cs rows0 room0)
        (sym (rest.1 ∙ ap (λ cs. cs ++ rest.0) (with-next (type_at F olds) right k d l (join_type op.f F op.op) (type_at F olds left.id, left.weight) place)))
        (too_many_then F olds mids (made_of (take k right)) (this olds ∷ []) rest.0 rows0 rows1 room0 room1 p (subst (λ cs. AreTooMany F mids cs rows1 room1) this_stays h))

-- ---- one step of the walk over the left rows

module _ (F : Formula) (op : OpValue) (olds mids : List (List Value)) (left right : List Row) (k : ℕ) (d : Row) (l : k < length left)
    (lo : AreOperands F op.f op.op.t1 olds (shown left)) (ro : AreOperands F op.f op.op.t2 olds (shown right)) (rows0 rows1 rows2 : List Row) (room0 room1 room2 : ℕ) where
  abbrev pub all_of : List Row → List (Candidate Origin)
  all_of ls = pairs_of (join_type op.f F op.op) (typed F olds (shown ls)) 0 (typed F olds (shown right))

  abbrev pub those : List (List Value) → List (Candidate Origin)
  those lists = pairs_with (join_type op.f F op.op) (type_at F lists (get_or left k d).id, (get_or left k d).weight) k (typed F lists (shown right)) 0

  module _ (p : Passed F olds mids (all_of (take k left)) rows0 rows1 room0 room1) where
    those_stay : those mids ≡ those olds
    those_stay =
        let b = AllBegin-grown olds mids (occurring F (types_of (all_of (take k left)))) p.grown in
        (λ i. pairs_with (join_type op.f F op.op)
        (type_at-begins F olds mids (get_or left k d).id b (fit_at (λ q. IsOperand F op.f op.op.t1 olds q.0) left k d lo l).within i, (get_or left k d).weight) k
        (typed_stays F op.f op.op.t2 olds mids (shown right) b ro i) 0)

    pub of_step : (nows : List (List Value)) → Passed F mids nows (those mids) rows1 rows2 room1 room2 → Passed F olds nows (all_of (take (k + 1) left)) rows0 rows2 room0 room2
    of_step nows q =
        subst (λ cs. Passed F olds nows cs rows0 rows2 room0 room2) (sym (of-next (type_at F olds) left k d l (join_type op.f F op.op) (typed F olds (shown right))))
        (passed_then F olds mids (all_of (take k left)) (those olds) [] rows0 rows1 room0 room1 p nows rows2 room2 (subst (λ cs. Passed F mids nows cs rows1 rows2 room1 room2) those_stay q))

    pub of_told : (nows : List (List Value)) (t0 t1 t2 : List ℕ) → Told F olds mids t0 t1 (types_of (all_of (take k left))) → Told F mids nows t1 t2 (types_of (those mids))
        → Told F olds nows t0 t2 (types_of (all_of (take (k + 1) left)))
    of_told nows t0 t1 t2 a b =
        subst (λ cs. Told F olds nows t0 t2 (types_of cs)) (sym (of-next (type_at F olds) left k d l (join_type op.f F op.op) (typed F olds (shown right))))
        (subst (Told F olds nows t0 t2) (sym (types-append (all_of (take k left)) (those olds)))
        (told_then F olds mids nows t0 t1 t2 _ _ a (subst (λ cs. Told F mids nows t1 t2 (types_of cs)) those_stay b)))

    pub of_full : AreTooMany F mids (those mids) rows1 room1 → AreTooMany F olds (all_of left) rows0 room0
    of_full h =
        let rest = of-whole (type_at F olds) left k d l (join_type op.f F op.op) (typed F olds (shown right)) in
        subst (λ cs. AreTooMany F olds cs rows0 room0) (sym (rest.1 ∙ ap (λ cs. cs ++ rest.0) (of-next (type_at F olds) left k d l (join_type op.f F op.op) (typed F olds (shown right)))))
        (too_many_then F olds mids (all_of (take k left)) (those olds) rest.0 rows0 rows1 room0 room1 p (subst (λ cs. AreTooMany F mids cs rows1 room1) those_stay h))

-- what holds of a formula, a field and lists holds of equal ones
pub of_same : (P : Formula → Field → List (List Value) → Type 0) (F G : Formula) (f g : Field) (ls ms : List (List Value)) → G ≡ F → g ≡ f → ms ≡ ls → P F f ls → P G g ms
of_same P F G f g ls ms a b c h = subst (λ X. P X g ms) (sym a) (subst (λ x. P F x ms) (sym b) (subst (λ l. P F f l) (sym c) h))
