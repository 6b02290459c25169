-- The walk over candidates whose types a table tells.
use Rattle.std.proofs.Common.{◌≡◌, ◌<◌, ◌≤◌, ◌+◌, ◌*◌, ◌+ℤ◌, ℕ, zero, suc, nat_eq, Bool, true, false, ℤ, List, [], ◌∷◌, ◌++◌, take, map, length, get_or, pos, Option, Some, None, Result, Ok, Err, refl, sym, ap, ◌∙◌, subst, arith, length-append}
use Rattle.std.proofs.Math.Nat.{suc-mul, mul-le-mul_right}
use Rattle.std.proofs.lemmas.Grind.{take_at_read}
use Rattle.std.proofs.lemmas.List.{length-map, map-append, get_or_default, get_or-map, get_or_append_left, get_or-append-add}
use Rattle.std.specs.declared.vec.Vec.{Vec}
use Rattle.std.specs.declared.alloc.Global.{Global}
use Rattle.mm_logic.specs.Formula.{Formula}
use Rattle.mm_logic.specs.Operator.{Op}
use Rattle.mm_logic.specs.Value.{Value}
use Rattle.mm_logic.specs.Value.Value.{Dead}
use Rattle.mm_logic.specs.Occurrence.{nodes as parts, same, occurring, distinct}
use Rattle.mm_logic.specs.JoinRule.{all_pairs, join_type}
use Rattle.mm_logic.specs.Growth.{root, type_at, missing_cells, AllGrown}
use Rattle.mm_logic.proofs.GrowthLemmas.{list_cells-grown}
use Rattle.mm_ops.specs.OpValue.{OpValue}
use Rattle.mm_states.specs.Lists.{AllFit}
use Rattle.mm_nodes.specs.Demands.{Frame, IsExact}
use Rattle.mm_nodes.specs.declared.keeps.KeepFault.{KeepFault}
use Rattle.mm_nodes.proofs.RoomLemmas.{within-then, same-within}
use Rattle.mm_nodes.proofs.KeptTypeLemmas.{nothing_grows}
use Rattle.mm_least.specs.declared.row.Row.{Row}
use Rattle.mm_least.specs.declared.row.Origin.{Origin}
use Rattle.mm_least.specs.declared.row.Origin.TheVariants.{Out, Pair}
use Rattle.mm_least.specs.Rows.{put_row, shown}
use Rattle.mm_least.specs.Candidates.{Candidate, candidate, put_all, typed, typed_by, held_by, pairs_with, pairs_of}
use Rattle.mm_least.specs.BestLaws.{Different, same_itself, put_all-append}
use Rattle.mm_least.specs.Transitions.{TransitionValue, ArePlaces, named, IsTransition, IsKnown}
use Rattle.mm_least.specs.declared.log.Entry.{Entry}
use Rattle.mm_least.specs.Logs.{AreApart, IsLog, Offered, standing}
use Rattle.mm_least.specs.KnownRows.{AreRowPlaces, AreBelow, Reads, PutsAll, RowsKnown}
use Rattle.mm_least.specs.NodeRowsValue.{NodeValue}
use Rattle.mm_least.specs.EmptySets.{ComesFromBoth}
use Rattle.mm_least.specs.RowCalls.{CanBeJoined, IsJoinRows, MadeRows, MakesRows, IsNodeAgain, row_types}
use Rattle.mm_least.specs.RowLaws.{append_fits, join_has}
use Rattle.mm_least.proofs.PassLemmas.{places_tell, put_held, put_below, tells_apart}
use Rattle.mm_least.proofs.WalkLemmas.{with-next, of-next}
use Rattle.mm_least.proofs.NodeLemmas.{operands_within}

-- ---- tables of pairs

module _ (j : Value → Value → Value) (ws : List Value) where
  pub pairs_length : (vs : List Value) → length (all_pairs j vs ws) ≡ length vs * length ws
  pairs_length [] = omega arith
  pairs_length (v ∷ vs) =
      let one = length-append (map (j v) ws) (all_pairs j vs ws) in
      let two = length-map ws (j v) in
      let rest = pairs_length vs in
      let more = suc-mul (length vs) (length ws) in
      omega (arith, one, two, rest, more)

  pub pair_at : (vs : List Value) (i k : ℕ) (d : Value) → i < length vs → k < length ws → get_or (all_pairs j vs ws) (i * length ws + k) d ≡ j (get_or vs i d) (get_or ws k d)
  pair_at [] i k d l m = absurd (omega (arith, l))
  pair_at (v ∷ vs) zero k d l m =
      let front : zero * length ws + k ≡ k = omega arith in
      let inside : k < length (map (j v) ws) = subst (λ n. k < n) (sym (length-map ws (j v))) m in
      ap (λ n. get_or (all_pairs j (v ∷ vs) ws) n d) front ∙ get_or_append_left (map (j v) ws) (all_pairs j vs ws) d k inside ∙ get_or-map (j v) ws k d d m
  pair_at (v ∷ vs) (suc i) k d l m =
      let more = suc-mul i (length ws) in
      let long = length-map ws (j v) in
      let back : suc i * length ws + k ≡ length (map (j v) ws) + (i * length ws + k) = omega (arith, more, long) in
      ap (λ n. get_or (all_pairs j (v ∷ vs) ws) n d) back ∙ get_or-append-add (map (j v) ws) (all_pairs j vs ws) (i * length ws + k) d ∙ pair_at vs i k d (omega (arith, l)) m

-- a column of a row of a table is in the table
pub column_within : (rows width i k : ℕ) → i < rows → k < width → i * width + k < rows * width
column_within rows width i k l m =
    let more = suc-mul i width in
    let up : suc i ≤ rows = omega (arith, l) in
    let all = mul-le-mul_right width up in
    omega (arith, more, all, m)

pub row_within : (rows width i : ℕ) → i < rows → i * width + width ≤ rows * width
row_within rows width i l =
    let more = suc-mul i width in
    let up : suc i ≤ rows = omega (arith, l) in
    let all = mul-le-mul_right width up in
    omega (arith, more, all)

fit_place : (P : ℕ → Type 0) (ids : List ℕ) (k d : ℕ) → AllFit P ids → k < length ids → P (get_or ids k d)
fit_place P [] k d h l = absurd (omega (arith, l))
fit_place P (i ∷ ids) zero d h l = h.0
fit_place P (i ∷ ids) (suc k) d h l = fit_place P ids k d h.1 (omega (arith, l))

-- ---- candidates by a table

module _ (t : TransitionValue) where
  pub puts_none : (rows : List Row) → PutsAll t (λ type join. []) rows rows
  puts_none rows type join n r b = (refl, b)

  pub puts_then : (cs ds : (ℕ → Value) → (Value → Value → Value) → List (Candidate Origin)) (rows0 rows1 rows2 : List Row) → PutsAll t cs rows0 rows1 → PutsAll t ds rows1 rows2
      → PutsAll t (λ type join. cs type join ++ ds type join) rows0 rows2
  puts_then cs ds rows0 rows1 rows2 p q type join n r b =
      let one = p type join n r b in
      let two = q type join n r one.1 in
      (two.0 ∙ ap (put_all (ds type join)) one.0 ∙ sym (put_all-append (cs type join) (ds type join) (held_by type rows0)), two.1)

  pub puts_one : (sized : length t.table ≡ length t.left * length t.right) → ArePlaces t.ids t.table → (left right at column : ℕ) → at < length t.left → get_or t.left at 0 ≡ left → column < length t.right
      → get_or t.right column 0 ≡ right → (weight : ℤ) (origin : Origin) (rows0 rows : List Row)
      → rows ≡ put_row (record { id = get_or t.ids (get_or t.table (at * length t.right + column) 0) 0; weight = weight; origin = origin }) rows0
      → PutsAll t (λ type join. candidate (join (type left) (type right)) weight origin ∷ []) rows0 rows
  puts_one sized placed left right at column l i m k weight origin rows0 rows e type join n r b =
      let place = at * length t.right + column in
      let inside : place < length t.table = subst (λ x. place < x) (sym sized) (column_within (length t.left) (length t.right) at column l m) in
      let there : place < length (named t.ids t.table) = subst (λ x. place < x) (sym (length-map t.table (λ p. get_or t.ids p 0))) inside in
      let id = get_or t.ids (get_or t.table place 0) 0 in
      let row : Row = record { id = id; weight = weight; origin = origin } in
      let below = fit_place (λ x. x < n) t.ids (get_or t.table place 0) 0 r.below (fit_place (λ p. p < length t.ids) t.table place 0 placed inside) in
      let tells : type id ≡ join (type left) (type right) =
      ap type (sym (get_or-map (λ p. get_or t.ids p 0) t.table place 0 0 inside)) ∙ sym (get_or-map type (named t.ids t.table) place 0 Dead there) ∙ ap (λ vs. get_or vs place Dead) r.tells
      ∙ ap (λ w. get_or (all_pairs join (map type t.left) (map type t.right)) (at * w + column) Dead) (sym (length-map t.right type))
      ∙ pair_at join (map type t.right) (map type t.left) at column Dead (subst (λ x. at < x) (sym (length-map t.left type)) l) (subst (λ x. column < x) (sym (length-map t.right type)) m)
      ∙ (λ x. join (get_or-map type t.left at 0 Dead l x) (get_or-map type t.right column 0 Dead m x))
      ∙ (λ x. join (type (i x)) (type (k x))) in (
        ap (held_by type) e ∙ put_held type n r.apart row rows0 below b ∙ ap (λ v. put_all (candidate v weight origin ∷ []) (held_by type rows0)) tells,
        subst (AreBelow n) (sym e) (put_below type n r.apart row rows0 below b),
      )

  module _ (left : Row) (i : ℕ) (right : List Row) (k : ℕ) (d : Row) (l : k < length right) where
    pub with_next_puts : (rows0 rows1 rows2 : List Row)
        → PutsAll t (λ type join. pairs_with join (type left.id, left.weight) i (typed_by type (shown (take k right))) 0) rows0 rows1
        → PutsAll t (λ type join. candidate (join (type left.id) (type (get_or right k d).id)) (left.weight +ℤ (get_or right k d).weight) (Pair i k) ∷ []) rows1 rows2
        → PutsAll t (λ type join. pairs_with join (type left.id, left.weight) i (typed_by type (shown (take (k + 1) right))) 0) rows0 rows2
    with_next_puts rows0 rows1 rows2 p q type join n r b =
        let both =
        puts_then (λ type join. pairs_with join (type left.id, left.weight) i (typed_by type (shown (take k right))) 0)
        (λ type join. candidate (join (type left.id) (type (get_or right k d).id)) (left.weight +ℤ (get_or right k d).weight) (Pair i k) ∷ []) rows0 rows1 rows2 p q type join n r b in
        (both.0 ∙ ap (λ cs. put_all cs (held_by type rows0)) (sym (with-next type right k d l join (type left.id, left.weight) i)), both.1)

  module _ (left right : List Row) (k : ℕ) (d : Row) (l : k < length left) where
    pub of_next_puts : (rows0 rows1 rows2 : List Row) → PutsAll t (λ type join. pairs_of join (typed_by type (shown (take k left))) 0 (typed_by type (shown right))) rows0 rows1
        → PutsAll t (λ type join. pairs_with join (type (get_or left k d).id, (get_or left k d).weight) k (typed_by type (shown right)) 0) rows1 rows2
        → PutsAll t (λ type join. pairs_of join (typed_by type (shown (take (k + 1) left))) 0 (typed_by type (shown right))) rows0 rows2
    of_next_puts rows0 rows1 rows2 p q type join n r b =
        let both =
        puts_then (λ type join. pairs_of join (typed_by type (shown (take k left))) 0 (typed_by type (shown right)))
        (λ type join. pairs_with join (type (get_or left k d).id, (get_or left k d).weight) k (typed_by type (shown right)) 0) rows0 rows1 rows2 p q type join n r b in
        (both.0 ∙ ap (λ cs. put_all cs (held_by type rows0)) (sym (of-next type left k d l join (typed_by type (shown right)))), both.1)

-- ---- the walks

abbrev pub no_row : Row
no_row = record { id = 0; weight = pos 0; origin = Out }

pub all_taken : (rows : List Row) (k : ℕ) → length rows ≤ k → take k rows ≡ rows
all_taken [] zero l = refl
all_taken [] (suc k) l = refl
all_taken (r ∷ rows) zero l = absurd (omega (arith, l))
all_taken (r ∷ rows) (suc k) l = ap (λ rs. r ∷ rs) (all_taken rows k (omega (arith, l)))

-- a bound of numbers
module _ (ids : List ℕ) where
  below_more : (m n : ℕ) → m ≤ n → (ks : List ℕ) → AllFit (λ k. k < m) ks → AllFit (λ k. k < n) ks
  below_more m n l [] h = tt
  below_more m n l (k ∷ ks) h = ((let i = h.0 in omega (arith, i, l)), below_more m n l ks h.1)

  pub bound_next : (k m n : ℕ) → k < length ids → m ≤ n → get_or ids k 0 < n → AllFit (λ i. i < m) (take k ids) → AllFit (λ i. i < n) (take (k + 1) ids)
  bound_next k m n l up above h =
      subst (AllFit (λ i. i < n)) (sym (take_at_read ids k 0 l).1) (append_fits (λ i. i < n) (take k ids) (get_or ids k 0 ∷ []) (below_more m n up (take k ids) h) (above, tt))

-- places of the types of rows
module _ (ids : List ℕ) where
  pub places_next : (rows : List Row) (k : ℕ) → k < length rows → (place : ℕ) → place < length ids → get_or ids place 0 ≡ (get_or rows k no_row).id → (places : List ℕ) → AreRowPlaces ids (take k rows) places
      → AreRowPlaces ids (take (k + 1) rows) (places ++ place ∷ [])
  places_next rows k l place m is places h = record {
    placed = append_fits (λ p. p < length ids) places (place ∷ []) h.placed (m, tt);
    named_so =
        map-append (λ p. get_or ids p 0) places (place ∷ []) ∙ (λ i. h.named_so i ++ is i ∷ []) ∙ sym (map-append (λ (r : Row). r.id) (take k rows) (get_or rows k no_row ∷ []))
        ∙ ap (map (λ (r : Row). r.id)) (sym (take_at_read rows k no_row l).1);
  }

  module _ (rows : List Row) (places : List ℕ) (h : AreRowPlaces ids rows places) where
    pub places_long : length places ≡ length rows
    places_long = sym (length-map places (λ p. get_or ids p 0)) ∙ ap length h.named_so ∙ length-map rows (λ (r : Row). r.id)

    pub row_placed : (k : ℕ) → k < length rows → get_or places k 0 < length ids
    row_placed k l = fit_place (λ p. p < length ids) places k 0 h.placed (subst (λ n. k < n) (sym places_long) l)

    pub row_named : (k : ℕ) → k < length rows → get_or ids (get_or places k 0) 0 ≡ (get_or rows k no_row).id
    row_named k l =
        sym (get_or-map (λ p. get_or ids p 0) places k 0 0 (subst (λ n. k < n) (sym places_long) l)) ∙ ap (λ xs. get_or xs k 0) h.named_so
        ∙ get_or-map (λ (r : Row). r.id) rows k no_row 0 l

module _ (t : TransitionValue) (sized : length t.table ≡ length t.left * length t.right) (placed : ArePlaces t.ids t.table) where
  -- one pair more
  pub pair_offered : (left : Row) (at : ℕ) → at < length t.left → get_or t.left at 0 ≡ left.id → (right : List Row) (k : ℕ) → k < length right → (place column : ℕ) (rs : List ℕ) → rs ≡ t.right → column < length rs
      → get_or rs column 0 ≡ (get_or right k no_row).id → (width : ℕ) → width ≡ length t.right → (made d : ℕ) (table : List ℕ) → made ≡ get_or table (at * width + column) d → table ≡ t.table → (ids : List ℕ) → ids ≡ t.ids
      → (before olds : List Entry) (lasts : List (Option ℕ)) (nows : List Entry)
      → Offered ids (record { id = get_or ids made 0; weight = left.weight +ℤ (get_or right k no_row).weight; origin = Pair place k }) olds lasts nows
      → PutsAll t (λ type join. pairs_with join (type left.id, left.weight) place (typed_by type (shown (take k right))) 0) (standing before) (standing olds)
      → IsLog t.ids lasts nows × PutsAll t (λ type join. pairs_with join (type left.id, left.weight) place (typed_by type (shown (take (k + 1) right))) 0) (standing before) (standing nows)
  pair_offered left at there here right k l place column rs rs_is m is width width_is made d table made_is table_is ids ids_is before olds lasts nows offered puts =
      let weight = left.weight +ℤ (get_or right k no_row).weight in
      let inside : column < length t.right = subst (λ (xs : List ℕ). column < length xs) rs_is m in
      let named_so : get_or t.right column 0 ≡ (get_or right k no_row).id = subst (λ (xs : List ℕ). get_or xs column 0 ≡ (get_or right k no_row).id) rs_is is in
      let within : at * length t.right + column < length t.table = subst (λ x. at * length t.right + column < x) (sym sized) (column_within (length t.left) (length t.right) at column there inside) in
      let this : made ≡ get_or t.table (at * length t.right + column) 0 =
      made_is ∙ (λ x. get_or (table_is x) (at * width_is x + column) d) ∙ get_or_default t.table (at * length t.right + column) d 0 within in
      let o =
      subst (λ (x : ℕ). Offered t.ids (record { id = get_or t.ids x 0; weight = weight; origin = Pair place k }) olds lasts nows) this
      (subst (λ (xs : List ℕ). Offered xs (record { id = get_or xs made 0; weight = weight; origin = Pair place k }) olds lasts nows) ids_is offered) in (
        o.log,
        with_next_puts t left place right k no_row l (standing before) (standing olds) (standing nows) puts
            (puts_one t sized placed left.id (get_or right k no_row).id at column there here inside named_so weight (Pair place k) (standing olds) (standing nows) o.put),
      )

-- the pair of a row and a column is in the table
pub pair_in_table : (t : TransitionValue) → length t.table ≡ length t.left * length t.right → (at column : ℕ) → at < length t.left → column < length t.right → (width : ℕ) → width ≡ length t.right → (table : List ℕ) → table ≡ t.table
    → at * width + column < length table
pair_in_table t sized at column l m width w table e =
    subst (λ (xs : List ℕ). at * width + column < length xs) (sym e)
    (subst (λ n. at * width + column < n) (sym sized) (subst (λ n. at * n + column < length t.left * length t.right) (sym w) (column_within (length t.left) (length t.right) at column l m)))

pub rows_known : (t : TransitionValue) (cs : (ℕ → Value) → (Value → Value → Value) → List (Candidate Origin)) (olds : List Entry) (nows : List Entry) (rows : List Row) → olds ≡ [] → rows ≡ standing nows
    → PutsAll t cs (standing olds) (standing nows) → PutsAll t cs [] rows
rows_known t cs olds nows rows e f h = subst (λ (rs : List Row). PutsAll t cs rs rows) (ap standing e) (subst (PutsAll t cs (standing olds)) (sym f) h)

-- ---- the rows of a join whose transition is known

-- numbers of different types are different
pub known_apart : (type : ℕ → Value) (ids : List ℕ) → Different (map type ids) → AreApart ids
known_apart type ids d p q l m = by (nat_eq (get_or ids p 0) (get_or ids q 0)) (nat_eq p q) refl refl
  where
    inside : (k : ℕ) → k < length ids → k < length (map type ids)
    inside k h = subst (λ n. k < n) (sym (length-map ids type)) h

    tell : same (type (get_or ids p 0)) (type (get_or ids q 0)) ≡ nat_eq p q
    tell = (λ i. same (sym (get_or-map type ids p 0 Dead l) i) (sym (get_or-map type ids q 0 Dead m) i)) ∙ places_tell (map type ids) p q Dead d (inside p l) (inside q m)

    one_number : (i k : ℕ) → nat_eq i k ≡ true → i ≡ k
    one_number i k e = grind (arith)

    itself : (i : ℕ) → nat_eq i i ≡ true
    itself i = grind (arith)

    by : (b c : Bool) → nat_eq (get_or ids p 0) (get_or ids q 0) ≡ b → nat_eq p q ≡ c → nat_eq (get_or ids p 0) (get_or ids q 0) ≡ nat_eq p q
    by true c e f = e ∙ sym (sym tell ∙ ap (λ x. same (type x) (type (get_or ids q 0))) (one_number (get_or ids p 0) (get_or ids q 0) e) ∙ same_itself (type (get_or ids q 0)))
    by false true e f = let c : true ≡ false = sym (itself (get_or ids q 0)) ∙ ap (λ k. nat_eq (get_or ids k 0) (get_or ids q 0)) (sym (one_number p q f)) ∙ e in cc
    by false false e f = e ∙ sym f

pub known_sized : (fr : Frame) (op : Op) (t : TransitionValue) → IsTransition fr op t → length t.table ≡ length t.left * length t.right
known_sized fr op t h =
    sym (length-map t.table (λ p. get_or t.ids p 0)) ∙ sym (length-map (named t.ids t.table) (type_at fr.F fr.lists)) ∙ ap length h.tells
    ∙ pairs_length (join_type fr.f fr.F op) (map (type_at fr.F fr.lists) t.right) (map (type_at fr.F fr.lists) t.left)
    ∙ (λ i. length-map t.left (type_at fr.F fr.lists) i * length-map t.right (type_at fr.F fr.lists) i)

module _ (F : Formula) (op : OpValue) (lists : List (List Value)) (t : TransitionValue) (h : IsTransition (record { f = op.f; F = F; lists = lists }) op.op t) (exact : IsExact F lists)
    (a b : NodeValue) (ca : CanBeJoined (record { f = op.f; F = F; lists = lists }) op.op.t1 a) (cb : CanBeJoined (record { f = op.f; F = F; lists = lists }) op.op.t2 b) where
  abbrev fr : Frame
  fr = record { f = op.f; F = F; lists = lists }

  abbrev vs : List Value
  vs = all_pairs (join_type op.f F op.op) (row_types fr a) (row_types fr b)

  reads : Reads (type_at F lists) (join_type op.f F op.op) (length (root F lists)) t
  reads = record { apart = tells_apart F lists exact; below = h.within; tells = h.tells }

  module _ (rows : List Row) (puts : PutsAll t (λ type join. pairs_of join (typed_by type (shown a.rows)) 0 (typed_by type (shown b.rows))) [] rows) where
    done : (held_by (type_at F lists) rows ≡ put_all (pairs_of (join_type op.f F op.op) (typed F lists (shown a.rows)) 0 (typed F lists (shown b.rows))) []) × AreBelow (length (root F lists)) rows
    done = puts (type_at F lists) (join_type op.f F op.op) (length (root F lists)) reads tt

    module _ (n : NodeValue) (e : n.rows ≡ rows) (k : n.known ≡ Some t) (nothing : ComesFromBoth a.nothing b.nothing rows n.nothing) where
      is : IsJoinRows fr op.op a b n
      is = record {
        left_within = operands_within F op.f op.op.t1 lists (shown a.rows) ca.operands;
        right_within = operands_within F op.f op.op.t2 lists (shown b.rows) cb.operands;
        within = subst (AreBelow (length (root F lists))) (sym e) done.1;
        rows = ap (held_by (type_at F lists)) e ∙ done.0;
        known = subst (IsKnown fr op.op) (sym k) h;
        nothing = subst (λ (rs : List Row). ComesFromBoth a.nothing b.nothing rs n.nothing) (sym e) nothing;
      }

      grown : AllGrown lists lists (occurring F vs)
      grown =
          let has = join_has fr op.op a b n is in
          nothing_grows F lists vs exact (within-then vs (row_types fr n) (root F lists) (same-within (row_types fr n) vs has.types) has.kept)

      none : missing_cells F lists vs ≡ 0
      none = let more = list_cells-grown (parts F) lists lists (occurring F vs) grown in omega (arith, more)

      pub known_made : (room : ℕ) → length rows ≤ room → MadeRows F lists lists (IsJoinRows fr op.op a b) vs room n
      known_made room l =
          let long = ap length e in
          let nothing = none in
          record { is = is; grown = grown; fits = omega (arith, l, long, nothing) }

      pub known_full : (room : ℕ) → room < length rows → room < missing_cells F lists vs + length (distinct vs)
      known_full room l =
          let has = join_has fr op.op a b n is in
          let many = has.counted in
          let long = ap length e in
          omega (arith, l, long, many)

    none_both : (left right : Option ℕ) → ComesFromBoth left right rows None
    none_both (Some i) (Some j) = tt
    none_both (Some i) None = refl
    none_both None right = refl

    pub made_again : (room : ℕ) (result : Result NodeValue KeepFault) → IsNodeAgain rows t a.nothing b.nothing room result → MakesRows F lists lists (IsJoinRows fr op.op a b) vs room result
    made_again room (Ok n) is = known_made n is.0 is.1 is.3 room is.2
    made_again room (Err e) is = λ full. known_full (record { name = None; rows = rows; known = Some t; nothing = None }) refl refl (none_both a.nothing b.nothing) room (is full)

pub puts_at : (t : TransitionValue) (cs : (ℕ → Value) → (Value → Value → Value) → List (Candidate Origin)) (result : Result (Option (Vec Row Global)) KeepFault) (found : Option (Vec Row Global)) (rows : Vec Row Global)
    → result ≡ Ok found → found ≡ Some rows → RowsKnown t cs result → PutsAll t cs [] rows.items
puts_at t cs result found rows e f h = subst (λ (r : Result (Option (Vec Row Global)) KeepFault). RowsKnown t cs r) (e ∙ ap Ok f) h
