-- The walk over candidates, step by step.
use Rattle.std.proofs.Common.{◌≡◌, ◌<◌, ◌≤◌, ◌+◌, ◌-◌, ℕ, zero, suc, Bool, true, false, not, ◌||◌, if◌then◌else◌, ℤ, int_lt, nat_eq, List, [], ◌∷◌, ◌++◌, filter, sum_by, length, get_or, Result, Ok, Err, refl, sym, ap, ◌∙◌, subst, arith}
use Rattle.std.proofs.Common.{◌+ℤ◌, pos, w64, SFits, to_z, of_z}
use Rattle.std.proofs.lemmas.Int.{to_z-of_z}
use Rattle.std.proofs.lemmas.List.{length-map, map-append}
use Rattle.mm_logic.specs.Formula.{Formula}
use Rattle.mm_logic.specs.Value.{Value}
use Rattle.mm_logic.specs.Value.Value.{Dead}
use Rattle.mm_logic.specs.Occurrence.{same, is_among, distinct, fresh, nodes as parts, occurring, list_cells}
use Rattle.mm_logic.specs.Growth.{root, type_at, no_values, missing_cells, Grown, AllBegin}
use Rattle.mm_logic.proofs.BagLemmas.{sum_by-cons}
use Rattle.mm_logic.proofs.OccurrenceLemmas.{same_flip}
use Rattle.mm_logic.proofs.GrowthLemmas.{members-distinct, AllBegin-grown, none_missing_cells, type_at-begins, list_cells-grown}
use Rattle.mm_states.specs.Calls.{Numbers}
use Rattle.mm_states.specs.declared.letter.AutoFault.{AutoFault}
use Rattle.mm_states.specs.declared.letter.AutoFault.TheVariants as auto
use Rattle.mm_nodes.specs.Demands.{IsExact, IsWithin}
use Rattle.mm_nodes.specs.declared.keeps.KeepFault.{KeepFault}
use Rattle.mm_nodes.specs.declared.keeps.KeepFault.TheVariants.{Full, NoMemory}
use Rattle.mm_nodes.proofs.EmptyLemmas.{root_none}
use Rattle.mm_nodes.proofs.RoomLemmas.{root-grows, exact-then, exact-cells, within-append, within-left, within-then, within-cells}
use Rattle.mm_least.specs.declared.row.Row.{Row}
use Rattle.mm_least.specs.declared.row.Origin.{Origin}
use Rattle.mm_least.specs.declared.row.Origin.TheVariants.{Out}
use Rattle.mm_least.specs.RowLaws.{types_within, held-stays, within-stays}
use Rattle.mm_least.specs.Rows.{put_row, Puts, AddsRow, shown}
use Rattle.mm_least.proofs.RowLemmas.{adds_in_place}
use Rattle.mm_least.specs.Candidates.{Candidate, candidate, put, held, held_by}
use Rattle.mm_least.specs.KnownRows.{TellsApart, AreBelow}
use Rattle.mm_least.specs.BestLaws.{Different, same_itself, put-longer}
use Rattle.mm_least.specs.Passes.{AreWithin, AreTooMany, Passes, IsFaultOf}

-- ---- types of exact lists are different

count_each : (vs : List Value) → sum_by (λ v. 1) vs ≡ length vs
count_each [] = refl
count_each (v ∷ vs) = sum_by-cons (λ v. 1) v vs ∙ (let e : sum_by (λ v. 1) vs ≡ length vs = count_each vs in omega (arith, e))

filter-shorter : (p : Value → Bool) (vs : List Value) → length (filter p vs) ≤ length vs
filter-shorter p [] = omega arith
filter-shorter p (v ∷ vs) = by (p v) refl (filter-shorter p vs)
  where
    by : (b : Bool) → p v ≡ b → length (filter p vs) ≤ length vs → length (filter p (v ∷ vs)) ≤ length (v ∷ vs)
    by true e two = let one = ap (λ x. length (if x then v ∷ filter p vs else filter p vs)) e in omega (arith, one, two)
    by false e two = let one = ap (λ x. length (if x then v ∷ filter p vs else filter p vs)) e in omega (arith, one, two)

all_kept : (v : Value) (vs : List Value) → length (filter (λ w. not (same v w)) vs) ≡ length vs → is_among vs v ≡ false
all_kept v [] e = refl
all_kept v (w ∷ vs) e = by (same v w) refl (all_kept v vs)
  where
    p : Value → Bool
    p = λ w. not (same v w)

    by : (b : Bool) → same v w ≡ b → (length (filter p vs) ≡ length vs → is_among vs v ≡ false) → is_among (w ∷ vs) v ≡ false
    by true h rest =
        let one = ap (λ x. length (if not x then w ∷ filter p vs else filter p vs)) h in
        let two = filter-shorter p vs in
        absurd (omega (arith, one, two, e))
    by false h rest =
        let one = ap (λ x. length (if not x then w ∷ filter p vs else filter p vs)) h in
        ap (λ x. x || is_among vs v) h ∙ rest (omega (arith, one, e))

distinct-shorter : (vs : List Value) → length (distinct vs) ≤ length vs
distinct-shorter [] = omega arith
distinct-shorter (v ∷ vs) = let one = filter-shorter (λ w. not (same v w)) (distinct vs) in let two = distinct-shorter vs in omega (arith, one, two)

different_length : (vs : List Value) → length (distinct vs) ≡ length vs → Different vs
different_length [] e = tt
different_length (v ∷ vs) e =
    let one = filter-shorter (λ w. not (same v w)) (distinct vs) in
    let two = distinct-shorter vs in
    let kept : length (filter (λ w. not (same v w)) (distinct vs)) ≡ length (distinct vs) = omega (arith, one, two, e) in
    (sym (members-distinct vs (same v)) ∙ all_kept v (distinct vs) kept, different_length vs (omega (arith, one, two, e)))

none_grown : (old vs : List Value) → old ≡ [] → Grown old vs vs → Different vs
none_grown old vs e g =
    let same_lists : vs ≡ g.added = g.longer ∙ ap (λ us. us ++ g.added) e in
    let all : length g.added ≡ length (fresh old vs) = sym (count_each g.added) ∙ g.exactly (λ v. 1) ∙ count_each (fresh old vs) in
    let fewer = filter-shorter (λ v. not (is_among old v)) (distinct vs) in
    let few = distinct-shorter vs in
    let long = ap length same_lists in
    different_length vs (omega (arith, all, fewer, few, long))

pub exact-different : (F : Formula) (lists : List (List Value)) → root F (no_values F) ≡ [] → IsExact F lists → Different (root F lists)
exact-different F lists n e = none_grown (root F (no_values F)) (root F lists) n (root-grows F (no_values F) lists (root F lists) e)

or_first : (a b : Bool) → (a || b) ≡ false → a ≡ false
or_first false b e = refl
or_first true b e = e

or_second : (a b : Bool) → (a || b) ≡ false → b ≡ false
or_second false b e = e
or_second true b e = cc

not_there : (v : Value) (vs : List Value) (j : ℕ) (d : Value) → is_among vs v ≡ false → j < length vs → same v (get_or vs j d) ≡ false
not_there v [] j d n l = absurd (omega (arith, l))
not_there v (w ∷ vs) zero d n l = or_first (same v w) _ n
not_there v (w ∷ vs) (suc j) d n l = not_there v vs j d (or_second (same v w) _ n) (omega (arith, l))

equal_places : (i : ℕ) → nat_eq i i ≡ true
equal_places i = grind (arith)

other_places : (i j : ℕ) → (i ≡ j → ⊥) → nat_eq i j ≡ false
other_places i j n = grind (arith)

next_places : (i j : ℕ) → nat_eq (suc i) (suc j) ≡ nat_eq i j
next_places i j = grind (arith)

-- in a list of different values the places tell the values
pub places_tell : (vs : List Value) (i j : ℕ) (d : Value) → Different vs → i < length vs → j < length vs → same (get_or vs i d) (get_or vs j d) ≡ nat_eq i j
places_tell [] i j d h l m = absurd (omega (arith, l))
places_tell (v ∷ vs) zero zero d h l m = same_itself v
places_tell (v ∷ vs) zero (suc j) d h l m = not_there v vs j d h.0 (omega (arith, m)) ∙ sym (other_places zero (suc j) (λ e. omega (arith, e)))
places_tell (v ∷ vs) (suc i) zero d h l m = same_flip (get_or vs i d) v ∙ not_there v vs i d h.0 (omega (arith, l)) ∙ sym (other_places (suc i) zero (λ e. omega (arith, e)))
places_tell (v ∷ vs) (suc i) (suc j) d h l m = places_tell vs i j d h.1 (omega (arith, l)) (omega (arith, m)) ∙ sym (next_places i j)

-- ---- rows hold candidates

module _ (type : ℕ → Value) (n : ℕ) (apart : TellsApart type n) where
  pub put_held : (r : Row) (rows : List Row) → r.id < n → AreBelow n rows
      → held_by type (put_row r rows) ≡ put (candidate (type r.id) r.weight r.origin) (held_by type rows)
  put_held r [] l h = refl
  put_held r (s ∷ rows) l h = by (nat_eq s.id r.id) (int_lt r.weight s.weight) refl refl (put_held r rows l h.1)
    where
      c : Candidate Origin
      c = candidate (type r.id) r.weight r.origin

      d : Candidate Origin
      d = candidate (type s.id) s.weight s.origin

      tell : same d.type c.type ≡ nat_eq s.id r.id
      tell = apart s.id r.id h.0 l

      row_branch : (b : Bool) → nat_eq s.id r.id ≡ b → put_row r (s ∷ rows) ≡ (if b then (if int_lt r.weight s.weight then rows ++ r ∷ [] else s ∷ rows) else s ∷ put_row r rows)
      row_branch b e = ap (λ x. if x then (if int_lt r.weight s.weight then rows ++ r ∷ [] else s ∷ rows) else s ∷ put_row r rows) e

      branch : (b : Bool) → nat_eq s.id r.id ≡ b
          → put c (d ∷ held_by type rows) ≡ (if b then (if int_lt r.weight s.weight then held_by type rows ++ c ∷ [] else d ∷ held_by type rows) else d ∷ put c (held_by type rows))
      branch b e = ap (λ x. if x then (if int_lt r.weight s.weight then held_by type rows ++ c ∷ [] else d ∷ held_by type rows) else d ∷ put c (held_by type rows)) (tell ∙ e)

      by : (b less : Bool) → nat_eq s.id r.id ≡ b → int_lt r.weight s.weight ≡ less → held_by type (put_row r rows) ≡ put c (held_by type rows) → held_by type (put_row r (s ∷ rows)) ≡ put c (d ∷ held_by type rows)
      by true true e i rest =
          ap (held_by type) (row_branch true e ∙ ap (λ x. if x then rows ++ r ∷ [] else s ∷ rows) i) ∙ map-append _ rows (r ∷ [])
          ∙ sym (branch true e ∙ ap (λ x. if x then held_by type rows ++ c ∷ [] else d ∷ held_by type rows) i)
      by true false e i rest =
          ap (held_by type) (row_branch true e ∙ ap (λ x. if x then rows ++ r ∷ [] else s ∷ rows) i)
          ∙ sym (branch true e ∙ ap (λ x. if x then held_by type rows ++ c ∷ [] else d ∷ held_by type rows) i)
      by false less e i rest = ap (held_by type) (row_branch false e) ∙ ap (λ cs. d ∷ cs) rest ∙ sym (branch false e)

  pub put_below : (r : Row) (rows : List Row) → r.id < n → AreBelow n rows → AreBelow n (put_row r rows)
  put_below r [] l h = (l, tt)
  put_below r (s ∷ rows) l h = by (nat_eq s.id r.id) (int_lt r.weight s.weight) refl refl (put_below r rows l h.1)
    where
      last : (ss : List Row) → AreBelow n ss → AreBelow n (ss ++ r ∷ [])
      last [] k = (l, tt)
      last (s ∷ ss) k = (k.0, last ss k.1)

      at_place : (b less : Bool) → List Row
      at_place b less = if b then (if less then rows ++ r ∷ [] else s ∷ rows) else s ∷ put_row r rows

      by : (b less : Bool) → nat_eq s.id r.id ≡ b → int_lt r.weight s.weight ≡ less → AreBelow n (put_row r rows) → AreBelow n (put_row r (s ∷ rows))
      by true true e i rest = subst (λ ss. AreBelow n ss) (sym (λ k. at_place (e k) (i k))) (last rows h.1)
      by true false e i rest = subst (λ ss. AreBelow n ss) (sym (λ k. at_place (e k) (i k))) h
      by false less e i rest = subst (λ ss. AreBelow n ss) (sym (λ k. at_place (e k) (i k))) (h.0, rest)

-- different numbers in exact lists stand for different types
pub tells_apart : (F : Formula) (lists : List (List Value)) → IsExact F lists → TellsApart (type_at F lists) (length (root F lists))
tells_apart F lists e i k l m = places_tell (root F lists) i k Dead (exact-different F lists (root_none F) e) l m

pub held-length : (F : Formula) (lists : List (List Value)) (rows : List Row) → length (held F lists rows) ≡ length rows
held-length F lists rows = length-map rows (λ r. candidate (type_at F lists r.id) r.weight r.origin)

-- ---- one candidate

-- nothing is missing of a type that is in exact lists
nothing_missing : (F : Formula) (lists : List (List Value)) (v : Value) (id : ℕ) → IsExact F lists → id < length (root F lists) → type_at F lists id ≡ v → missing_cells F lists (v ∷ []) ≡ 0
nothing_missing F lists v id e l t =
    let r : Row = record { id = id; weight = pos 0; origin = Out } in
    let there : IsWithin (v ∷ []) (root F lists ++ []) =
    within-then (v ∷ []) (root F lists) (root F lists ++ []) (subst (λ w. IsWithin (w ∷ []) (root F lists)) t (types_within F lists (r ∷ []) (l, tt))) (within-left (root F lists) []) in
    let all = within-cells F (root F lists ++ v ∷ []) (root F lists ++ []) (within-append (root F lists) (v ∷ []) (root F lists ++ []) (within-left (root F lists) []) there) in
    let one = exact-cells F lists (v ∷ []) e in
    let none = exact-cells F lists [] e in
    let zero_cells = none_missing_cells F lists in
    omega (arith, all, one, none, zero_cells)

module _ (F : Formula) (olds mids : List (List Value)) (v : Value) (id : ℕ) (w : ℤ) (o : Origin) (rows0 rows : List Row) (room0 room : ℕ)
    (n : Numbers F v olds mids id) (exact : IsExact F olds) (within : AreWithin F olds (shown rows0)) (fits : missing_cells F olds (v ∷ []) ≤ room0) where
  abbrev pub row : Row
  row = record { id = id; weight = w; origin = o }

  begins : AllBegin olds mids
  begins = AllBegin-grown olds mids (occurring F (v ∷ [])) n.grown

  apart : TellsApart (type_at F mids) (length (root F mids))
  apart = tells_apart F mids (exact-then F olds mids (v ∷ []) exact n.grown)

  best : held F mids (put_row row rows0) ≡ put (candidate v w o) (held F olds rows0)
  best =
      put_held (type_at F mids) (length (root F mids)) apart row rows0 n.within (within-stays F olds mids (shown rows0) begins within)
      ∙ (λ i. put (candidate (n.value i) w o) (held-stays F olds mids rows0 begins within i))

  more : list_cells (parts F) mids ≡ list_cells (parts F) olds + missing_cells F olds (v ∷ [])
  more = list_cells-grown (parts F) olds mids (occurring F (v ∷ [])) n.grown

  pub added_cells : list_cells (parts F) olds ≤ list_cells (parts F) mids
  added_cells = omega (arith, more)

  pub cells_fit : list_cells (parts F) mids - list_cells (parts F) olds ≤ room0
  cells_fit = omega (arith, more, fits)

  pub cells_below : (bound : ℕ) → list_cells (parts F) olds + room0 < bound → list_cells (parts F) mids < bound
  cells_below bound h = omega (arith, more, fits, h)

  pub one_passes : (used : ℕ) → used ≡ list_cells (parts F) mids - list_cells (parts F) olds → (result : Result (Unit {0}) KeepFault) → AddsRow row rows0 rows (room0 - used) room result
      → Passes F olds mids (candidate v w o ∷ []) rows0 rows room0 room result
  one_passes used u (Ok t) a =
      let longer = put-longer (candidate v w o) (held F olds rows0) in
      let one = ap length best in
      let two = held-length F mids (put_row row rows0) in
      let three = held-length F olds rows0 in
      let long = ap length a.0 in
      let sum = a.1 in
      record {
        grown = n.grown;
        within = subst (λ rs. AreWithin F mids (shown rs)) (sym a.0) (put_below (type_at F mids) (length (root F mids)) apart row rows0 n.within (within-stays F olds mids (shown rows0) begins within));
        best = ap (held F mids) a.0 ∙ best;
        taken = omega (arith, sum, u, more, fits);
        roomy = omega (arith, sum, u, more, fits, longer, one, two, three, long);
      }
  one_passes used u (Err e) a = λ full.
      let less = a full in
      let one = ap length best in
      let two = held-length F mids (put_row row rows0) in
      omega (arith, less, one, two, u, more, fits)

-- a candidate of a type that has a row takes nothing of the room
pub known_passes : (F : Formula) (olds mids : List (List Value)) (v : Value) (id : ℕ) (w : ℤ) (o : Origin) (rows0 rows : List Row) (room0 : ℕ)
    → Numbers F v olds mids id → IsExact F olds → AreWithin F olds (shown rows0) → missing_cells F olds (v ∷ []) ≤ room0 → id < length (root F olds)
    → (result : Result (Unit {0}) KeepFault) → Puts (record { id = id; weight = w; origin = o }) rows0 rows result → Passes F olds mids (candidate v w o ∷ []) rows0 rows room0 room0 result
known_passes F olds mids v id w o rows0 rows room0 n exact within fits l result a =
    let starts = AllBegin-grown olds mids (occurring F (v ∷ [])) n.grown in
    let none = nothing_missing F olds v id exact l (sym (type_at-begins F olds mids id starts l) ∙ n.value) in
    let more = list_cells-grown (parts F) olds mids (occurring F (v ∷ [])) n.grown in
    let same_cells : 0 ≡ list_cells (parts F) mids - list_cells (parts F) olds = omega (arith, none, more) in
    let all : room0 ≡ room0 - 0 = omega arith in
    one_passes F olds mids v id w o rows0 rows room0 room0 n exact within fits 0 same_cells result
    (subst (λ r. AddsRow (record { id = id; weight = w; origin = o }) rows0 rows r room0 result) all (adds_in_place (record { id = id; weight = w; origin = o }) rows0 rows room0 result a))

pub one_refused : (F : Formula) (olds : List (List Value)) (v : Value) (w : ℤ) (o : Origin) (rows0 : List Row) (room0 : ℕ) (fault : AutoFault) (e : KeepFault) → IsFaultOf fault e
    → (fault ≡ auto.Full → room0 < missing_cells F olds (v ∷ [])) → e ≡ Full → AreTooMany F olds (candidate v w o ∷ []) rows0 room0
one_refused F olds v w o rows0 room0 auto.Full e i h full =
    let less = h refl in
    let longer = put-longer (candidate v w o) (held F olds rows0) in
    let three = held-length F olds rows0 in
    omega (arith, less, longer, three)
one_refused F olds v w o rows0 room0 auto.NoMemory e i h full = absurd (not_both e i full)
  where
    not_both : (f : KeepFault) → f ≡ NoMemory → f ≡ Full → ⊥
    not_both f p q = cc

pub weight_is : (l r : ℤ) → SFits w64 l → SFits w64 r → SFits w64 (l +ℤ r) → to_z w64 (of_z w64 (to_z w64 (of_z w64 l) +ℤ to_z w64 (of_z w64 r))) ≡ l +ℤ r
weight_is l r f g h =
    (λ i. to_z w64 (of_z w64 (to_z-of_z w64 l f i +ℤ to_z-of_z w64 r g i))) ∙ to_z-of_z w64 (l +ℤ r) h
