-- What a walk over the pairs of a join has found.
use Rattle.std.proofs.Common.{◌≡◌, ◌⊎◌, inl, inr, ◌<◌, ◌≤◌, ◌+◌, ◌-◌, ℕ, zero, suc, nat_eq, Bool, true, false, ◌||◌, if◌then◌else◌, int_lt, List, [], ◌∷◌, ◌++◌, map, length, get_or, Option, Some, None, Result, Ok, Err, refl, sym, ap, ◌∙◌, subst, arith, length-append}
use Rattle.std.specs.Prelude.{OnOk}
use Rattle.std.proofs.lemmas.List.{map-append, get_or_append_left, get_or-append-add}
use Rattle.std.proofs.lemmas.List.Folds.{list_any-append}
use Rattle.mm_logic.specs.Formula.{Formula}
use Rattle.mm_logic.specs.Value.{Value}
use Rattle.mm_logic.specs.Occurrence.{is_among}
use Rattle.mm_logic.proofs.SetLemmas.{or_swap, or_twice}
use Rattle.mm_states.specs.Lists.{AllFit}
use Rattle.mm_states.specs.Calls.{Numbers}
use Rattle.mm_nodes.specs.declared.keeps.KeepFault.{KeepFault}
use Rattle.mm_nodes.specs.declared.keeps.KeepFault.TheVariants.{Full, NoMemory}
use Rattle.mm_least.specs.declared.row.Row.{Row}
use Rattle.mm_least.specs.declared.log.Entry.{Entry}
use Rattle.mm_least.specs.declared.found.Found.{Found}
use Rattle.mm_least.specs.Rows.{Puts, AddsRow, put_row}
use Rattle.mm_least.specs.BestLaws.{Different}
use Rattle.mm_least.specs.RowLaws.{append_fits}
use Rattle.mm_least.specs.Transitions.{named, AreIn, ArePlaces, Told}
use Rattle.mm_least.specs.Logs.{is_at, standing, IsLast, AreNamed, AreApart, IsLog, Offered}
use Rattle.mm_least.specs.KnownRows.{TellsApart}
use Rattle.mm_least.specs.FoundTypes.{is_in, has_row, rows_of, names_of, IsPlaceAmong, AreFound, IsFound, IsAdded, IsEntered, Enters, IsPut, PutsFound, PutsNew, AddsFound}
use Rattle.mm_least.proofs.RowLemmas.{put_none}
use Rattle.mm_least.proofs.WalkLemmas.{told_one}

-- ---- numbers

one_number : (i k : ℕ) → nat_eq i k ≡ true → i ≡ k
one_number i k e = grind (arith)

itself : (i : ℕ) → nat_eq i i ≡ true
itself i = grind (arith)

same_number : (i k : ℕ) → i ≡ k → nat_eq i k ≡ true
same_number i k e = grind (arith)

other_way : (i k : ℕ) → nat_eq i k ≡ false → nat_eq k i ≡ false
other_way i k e = grind (arith)

before_other : (i k : ℕ) → i < k → nat_eq i k ≡ false
before_other i k e = grind (arith)

next_numbers : (i k : ℕ) → nat_eq (suc i) (suc k) ≡ nat_eq i k
next_numbers i k = grind (arith)

before_or_last : (i n : ℕ) → i < n + 1 → (i < n) ⊎ (i ≡ n)
before_or_last zero zero l = inr refl
before_or_last zero (suc n) l = inl (omega arith)
before_or_last (suc i) zero l = absurd (omega (arith, l))
before_or_last (suc i) (suc n) l = elim (before_or_last i n (omega (arith, l))) [ inl m ↦ inl (omega (arith, m)) | inr e ↦ inr (ap suc e) ]

or_left : (a b : Bool) → (a || b) ≡ false → a ≡ false
or_left false b e = refl
or_left true b e = e

or_right : (a b : Bool) → (a || b) ≡ false → b ≡ false
or_right false b e = e
or_right true b e = cc

or_here : (a b : Bool) → a ≡ true → (a || b) ≡ true
or_here a b e = ap (λ (x : Bool). x || b) e

or_later : (a b : Bool) → b ≡ true → (a || b) ≡ true
or_later true b e = refl
or_later false b e = e

or_last : (a b : Bool) → (a || (b || false)) ≡ (b || a)
or_last true true = refl
or_last true false = refl
or_last false true = refl
or_last false false = refl

or_known : (a b : Bool) → (a ≡ true → b ≡ true) → (a || b) ≡ b
or_known true b f = sym (f refl)
or_known false b f = refl

-- ---- numbers among others

pub in_at_place : (ids : List ℕ) (p : ℕ) → p < length ids → is_in (get_or ids p 0) ids ≡ true
in_at_place [] p l = absurd (omega (arith, l))
in_at_place (i ∷ ids) zero l = or_here (nat_eq i i) (is_in i ids) (itself i)
in_at_place (i ∷ ids) (suc p) l = or_later (nat_eq i (get_or ids p 0)) (is_in (get_or ids p 0) ids) (in_at_place ids p (omega (arith, l)))

not_at_place : (ids : List ℕ) (id p : ℕ) → is_in id ids ≡ false → p < length ids → nat_eq (get_or ids p 0) id ≡ false
not_at_place [] id p n l = absurd (omega (arith, l))
not_at_place (i ∷ ids) id zero n l = or_left (nat_eq i id) (is_in id ids) n
not_at_place (i ∷ ids) id (suc p) n l = not_at_place ids id p (or_right (nat_eq i id) (is_in id ids) n) (omega (arith, l))

pub number_fits : (P : ℕ → Type 0) (ids : List ℕ) (p : ℕ) → AllFit P ids → p < length ids → P (get_or ids p 0)
number_fits P [] p h l = absurd (omega (arith, l))
number_fits P (i ∷ ids) zero h l = h.0
number_fits P (i ∷ ids) (suc p) h l = number_fits P ids p h.1 (omega (arith, l))

front_fits : (P : ℕ → Type 0) (ks js : List ℕ) → AllFit P (ks ++ js) → AllFit P ks
front_fits P [] js h = tt
front_fits P (k ∷ ks) js h = (h.0, front_fits P ks js h.1)

back_fits : (P : ℕ → Type 0) (ks js : List ℕ) → AllFit P (ks ++ js) → AllFit P js
back_fits P [] js h = h
back_fits P (k ∷ ks) js h = back_fits P ks js h.1

last_of : {X : Type 0} (xs : List X) (x d : X) → get_or (xs ++ x ∷ []) (length xs) d ≡ x
last_of xs x d =
    let none : length xs ≡ length xs + 0 = omega arith in
    ap (λ n. get_or (xs ++ x ∷ []) n d) none ∙ get_or-append-add xs (x ∷ []) 0 d

-- ---- a row put beside others

pub row_put : (q : ℕ) (r : Row) (rows : List Row) → has_row q (put_row r rows) ≡ (nat_eq r.id q || has_row q rows)
row_put q r [] = refl
row_put q r (s ∷ rows) = by (nat_eq s.id r.id) (int_lt r.weight s.weight) refl refl (row_put q r rows)
  where
    branch : (b : Bool) → nat_eq s.id r.id ≡ b → put_row r (s ∷ rows) ≡ (if b then (if int_lt r.weight s.weight then rows ++ r ∷ [] else s ∷ rows) else s ∷ put_row r rows)
    branch b e = ap (λ x. if x then (if int_lt r.weight s.weight then rows ++ r ∷ [] else s ∷ rows) else s ∷ put_row r rows) e

    by : (b less : Bool) → nat_eq s.id r.id ≡ b → int_lt r.weight s.weight ≡ less → has_row q (put_row r rows) ≡ (nat_eq r.id q || has_row q rows)
        → has_row q (put_row r (s ∷ rows)) ≡ (nat_eq r.id q || (nat_eq s.id q || has_row q rows))
    by true true e l rest =
        ap (has_row q) (branch true e ∙ ap (λ x. if x then rows ++ r ∷ [] else s ∷ rows) l)
        ∙ list_any-append (λ s. nat_eq s.id q) rows (r ∷ []) ∙ or_last (has_row q rows) (nat_eq r.id q) ∙ sym (or_twice (nat_eq r.id q) (has_row q rows))
        ∙ ap (λ x. nat_eq r.id q || (nat_eq x q || has_row q rows)) (sym (one_number s.id r.id e))
    by true false e l rest =
        ap (has_row q) (branch true e ∙ ap (λ x. if x then rows ++ r ∷ [] else s ∷ rows) l)
        ∙ sym (or_twice (nat_eq s.id q) (has_row q rows)) ∙ ap (λ x. nat_eq x q || (nat_eq s.id q || has_row q rows)) (one_number s.id r.id e)
    by false less e l rest =
        ap (has_row q) (branch false e) ∙ ap (λ x. nat_eq s.id q || x) rest ∙ or_swap (nat_eq s.id q) (nat_eq r.id q) (has_row q rows)

put_count : (r : Row) (rows : List Row) → has_row r.id rows ≡ true → length (put_row r rows) ≡ length rows
put_count r [] h = cc
put_count r (s ∷ rows) h = by (nat_eq s.id r.id) (int_lt r.weight s.weight) refl refl (put_count r rows)
  where
    branch : (b : Bool) → nat_eq s.id r.id ≡ b → put_row r (s ∷ rows) ≡ (if b then (if int_lt r.weight s.weight then rows ++ r ∷ [] else s ∷ rows) else s ∷ put_row r rows)
    branch b e = ap (λ x. if x then (if int_lt r.weight s.weight then rows ++ r ∷ [] else s ∷ rows) else s ∷ put_row r rows) e

    by : (b less : Bool) → nat_eq s.id r.id ≡ b → int_lt r.weight s.weight ≡ less → (has_row r.id rows ≡ true → length (put_row r rows) ≡ length rows) → length (put_row r (s ∷ rows)) ≡ length (s ∷ rows)
    by true true e l rest =
        let all = ap length (branch true e ∙ ap (λ x. if x then rows ++ r ∷ [] else s ∷ rows) l) in
        let one = length-append rows (r ∷ []) in
        omega (arith, all, one)
    by true false e l rest = ap length (branch true e ∙ ap (λ x. if x then rows ++ r ∷ [] else s ∷ rows) l)
    by false less e l rest = ap length (branch false e) ∙ ap suc (rest (sym (ap (λ b. b || has_row r.id rows) e) ∙ h))

-- ---- one type more

-- the log, where a type has no row yet
module _ (ids : List ℕ) (lasts : List (Option ℕ)) (log : List Entry) (id : ℕ) (is : IsLog ids lasts log) where
  further : (es : List Entry) (m n : ℕ) → m ≤ n → AllFit (λ e. e.place < m) es → AllFit (λ e. e.place < n) es
  further [] m n l h = tt
  further (e ∷ es) m n l h = ((let i = h.0 in omega (arith, i, l)), further es m n l h.1)

  none_at : (es : List Entry) (m p : ℕ) → m ≤ p → AllFit (λ e. e.place < m) es → is_at p es ≡ false
  none_at [] m p l h = refl
  none_at (e ∷ es) m p l h = (λ i. before_other e.place p (let j = h.0 in omega (arith, j, l)) i || none_at es m p l h.1 i)

  still_named : (es : List Entry) → AllFit (λ e. e.place < length ids) es → AreNamed ids es → AreNamed (ids ++ id ∷ []) es
  still_named [] h k = tt
  still_named (e ∷ es) h k = (k.0 ∙ sym (get_or_append_left ids (id ∷ []) 0 e.place h.0), still_named es h.1 k.1)

  longer : length (lasts ++ None ∷ []) ≡ length lasts + 1
  longer = length-append lasts (None ∷ [])

  last_so : (p : ℕ) → (p < length lasts) ⊎ (p ≡ length lasts) → IsLast log p (get_or (lasts ++ None ∷ []) p None)
  last_so p (inl l) = subst (IsLast log p) (sym (get_or_append_left lasts (None ∷ []) None p l)) (is.knows.last p l)
  last_so p (inr e) =
      subst (IsLast log p) (sym (ap (λ n. get_or (lasts ++ None ∷ []) n None) e ∙ last_of lasts None None))
      (none_at log (length lasts) p (omega (arith, e)) is.knows.placed)

  pub log_longer : IsLog (ids ++ id ∷ []) (lasts ++ None ∷ []) log
  log_longer = record {
    long = longer ∙ ap (λ n. n + 1) is.long ∙ sym (length-append ids (id ∷ []));
    knows = record {
      placed = further log (length lasts) (length (lasts ++ None ∷ [])) (let l = longer in omega (arith, l)) is.knows.placed;
      last = λ p l. last_so p (before_or_last p (length lasts) (let m = longer in omega (arith, l, m)));
    };
    named = still_named log (subst (λ n. AllFit (λ e. e.place < n) log) is.long is.knows.placed) is.named;
  }

module _ (ids : List ℕ) (id : ℕ) (new : is_in id ids ≡ false) where
  more : length (ids ++ id ∷ []) ≡ length ids + 1
  more = length-append ids (id ∷ [])

  at_front : (p : ℕ) → p < length ids → get_or (ids ++ id ∷ []) p 0 ≡ get_or ids p 0
  at_front p l = get_or_append_left ids (id ∷ []) 0 p l

  at_end : (p : ℕ) → p ≡ length ids → get_or (ids ++ id ∷ []) p 0 ≡ id
  at_end p e = ap (λ n. get_or (ids ++ id ∷ []) n 0) e ∙ last_of ids id 0

  pub apart_longer : AreApart ids → AreApart (ids ++ id ∷ [])
  apart_longer h p q l m = by (before_or_last p (length ids) (let s = more in omega (arith, l, s))) (before_or_last q (length ids) (let s = more in omega (arith, m, s)))
    where
      by : (p < length ids) ⊎ (p ≡ length ids) → (q < length ids) ⊎ (q ≡ length ids) → nat_eq (get_or (ids ++ id ∷ []) p 0) (get_or (ids ++ id ∷ []) q 0) ≡ nat_eq p q
      by (inl i) (inl k) = (λ x. nat_eq (at_front p i x) (at_front q k x)) ∙ h p q i k
      by (inl i) (inr k) =
          (λ x. nat_eq (at_front p i x) (at_end q k x)) ∙ not_at_place ids id p new i ∙ sym (before_other p q (omega (arith, i, k)))
      by (inr i) (inl k) =
          (λ x. nat_eq (at_end p i x) (at_front q k x)) ∙ other_way (get_or ids q 0) id (not_at_place ids id q new k) ∙ sym (other_way q p (before_other q p (omega (arith, i, k))))
      by (inr i) (inr k) = (λ x. nat_eq (at_end p i x) (at_end q k x)) ∙ itself id ∙ sym (same_number p q (i ∙ sym k))

  pub placed_longer : (table : List ℕ) → ArePlaces ids table → ArePlaces (ids ++ id ∷ []) table
  placed_longer [] h = tt
  placed_longer (p ∷ table) h = ((let l = h.0 in let s = more in omega (arith, l, s)), placed_longer table h.1)

  pub named_longer : (table : List ℕ) → ArePlaces ids table → named (ids ++ id ∷ []) table ≡ named ids table
  named_longer [] h = refl
  named_longer (p ∷ table) h = (λ i. at_front p h.0 i ∷ named_longer table h.1 i)

  module _ (olds nows : List (Option ℕ)) (sets : (k : ℕ) → get_or nows k None ≡ (if nat_eq id k then Some (length ids) else get_or olds k None)) (h : (k : ℕ) → IsPlaceAmong ids k (get_or olds k None)) where
    pub place_longer : (k : ℕ) → IsPlaceAmong (ids ++ id ∷ []) k (get_or nows k None)
    place_longer k = by (nat_eq id k) refl
      where
        old : (o : Option ℕ) → nat_eq id k ≡ false → IsPlaceAmong ids k o → IsPlaceAmong (ids ++ id ∷ []) k o
        old (Some p) n i = ((let l = i.0 in let s = more in omega (arith, l, s)), at_front p i.0 ∙ i.1)
        old None n i = list_any-append (λ i. nat_eq i k) ids (id ∷ []) ∙ (λ x. i x || (n x || false))

        by : (b : Bool) → nat_eq id k ≡ b → IsPlaceAmong (ids ++ id ∷ []) k (get_or nows k None)
        by true e =
            subst (IsPlaceAmong (ids ++ id ∷ []) k) (sym (sets k ∙ ap (λ x. if x then Some (length ids) else get_or olds k None) e))
            ((let s = more in omega (arith, s)), at_end (length ids) refl ∙ one_number id k e)
        by false e =
            subst (IsPlaceAmong (ids ++ id ∷ []) k) (sym (sets k ∙ ap (λ x. if x then Some (length ids) else get_or olds k None) e))
            (old (get_or olds k None) e (h k))

-- ---- what is found stays so

named_last : (ids table : List ℕ) (p : ℕ) → named ids (table ++ p ∷ []) ≡ named ids table ++ get_or ids p 0 ∷ []
named_last ids table p = map-append (λ q. get_or ids q 0) table (p ∷ [])

-- a row of a type that has one
module _ (ids : List ℕ) (places lasts : List (Option ℕ)) (log : List Entry) (table : List ℕ) (p : ℕ) (r : Row) (l : p < length ids) (name : get_or ids p 0 ≡ r.id)
    (h : AreFound ids places lasts log table) (nows : List (Option ℕ)) (later : List Entry) (o : Offered ids r log nows later) where
  there : is_in r.id ids ≡ true
  there = subst (λ i. is_in i ids ≡ true) name (in_at_place ids p l)

  pub found_count : length (standing later) ≡ length (standing log)
  found_count = ap length o.put ∙ put_count r (standing log) (h.kinds r.id ∙ there)

  pub found_again : AreFound ids places nows later (table ++ p ∷ [])
  found_again = record {
    logged = o.log;
    apart = h.apart;
    placed = h.placed;
    tabled = append_fits (λ q. q < length ids) table (p ∷ []) h.tabled (l, tt);
    occur = λ n k. h.occur n (front_fits (λ i. i < n) (named ids table) (get_or ids p 0 ∷ []) (subst (AllFit (λ i. i < n)) (named_last ids table p) k));
    counted = found_count ∙ h.counted;
    kinds = λ q. ap (has_row q) o.put ∙ row_put q r (standing log) ∙ ap (λ b. nat_eq r.id q || b) (h.kinds q)
        ∙ or_known (nat_eq r.id q) (is_in q ids) (λ e. subst (λ i. is_in i ids ≡ true) (one_number r.id q e) there);
  }

-- a row of a type that has none
module _ (ids : List ℕ) (olds lasts : List (Option ℕ)) (log : List Entry) (table : List ℕ) (r : Row) (new : is_in r.id ids ≡ false)
    (h : AreFound ids olds lasts log table) (places nows : List (Option ℕ)) (later : List Entry) (sets : (k : ℕ) → get_or places k None ≡ (if nat_eq r.id k then Some (length ids) else get_or olds k None))
    (o : Offered (ids ++ r.id ∷ []) r log nows later) where
  pub new_last : standing later ≡ standing log ++ r ∷ []
  new_last = o.put ∙ put_none r (standing log) (h.kinds r.id ∙ new)

  pub new_names : named (ids ++ r.id ∷ []) (table ++ length ids ∷ []) ≡ named ids table ++ r.id ∷ []
  new_names =
      named_last (ids ++ r.id ∷ []) table (length ids)
      ∙ (λ i. named_longer ids r.id new table h.tabled i ++ at_end ids r.id new (length ids) refl i ∷ [])

  pub found_new : AreFound (ids ++ r.id ∷ []) places nows later (table ++ length ids ∷ [])
  found_new = record {
    logged = o.log;
    apart = apart_longer ids r.id new h.apart;
    placed = place_longer ids r.id new olds places sets h.placed;
    tabled =
        append_fits (λ q. q < length (ids ++ r.id ∷ [])) table (length ids ∷ []) (placed_longer ids r.id new table h.tabled)
        ((let s = length-append ids (r.id ∷ []) in omega (arith, s)), tt);
    occur = λ n k.
        let all = subst (AllFit (λ i. i < n)) new_names k in
        append_fits (λ i. i < n) ids (r.id ∷ []) (h.occur n (front_fits (λ i. i < n) (named ids table) (r.id ∷ []) all)) (back_fits (λ i. i < n) (named ids table) (r.id ∷ []) all);
    counted =
        let one = ap length new_last in
        let two = length-append (standing log) (r ∷ []) in
        let three = length-append ids (r.id ∷ []) in
        let four = h.counted in
        omega (arith, one, two, three, four);
    kinds = λ q. ap (has_row q) new_last ∙ list_any-append (λ s. nat_eq s.id q) (standing log) (r ∷ []) ∙ ap (λ b. b || (nat_eq r.id q || false)) (h.kinds q)
        ∙ sym (list_any-append (λ i. nat_eq i q) ids (r.id ∷ []));
  }

-- ---- the steps

pub put_found : (r : Row) (olds nows : Found) (p : ℕ) → p < length olds.ids.items → get_or olds.ids.items p 0 ≡ r.id → IsFound olds → IsEntered p r olds nows
    → IsPut r olds nows × (length (rows_of nows) ≡ length (rows_of olds))
put_found r olds nows p l name h e =
    let ids = olds.ids.items in
    let again = found_again ids olds.places.items olds.lasts.items olds.log.items olds.table.items p r l name h nows.lasts.items nows.log.items e.offered in (
      record {
        found =
            subst (λ xs. AreFound xs nows.places.items nows.lasts.items nows.log.items nows.table.items) (sym e.ids)
            (subst (λ ps. AreFound ids ps nows.lasts.items nows.log.items nows.table.items) (sym e.places)
            (subst (λ ts. AreFound ids olds.places.items nows.lasts.items nows.log.items ts) (sym e.table) again));
        rows = e.offered.put;
        names = (λ i. named (e.ids i) (e.table i)) ∙ named_last ids olds.table.items p ∙ ap (λ i. names_of olds ++ i ∷ []) name;
      },
      found_count ids olds.places.items olds.lasts.items olds.log.items olds.table.items p r l name h nows.lasts.items nows.log.items e.offered,
    )

module _ (r : Row) (olds mids : Found) (p : ℕ) (new : is_in r.id olds.ids.items ≡ false) (h : IsFound olds) (a : IsAdded r.id olds mids p) where
  pub added_there : p < length mids.ids.items
  added_there = let s = length-append olds.ids.items (r.id ∷ []) in let t = ap length a.ids in let u = a.last in omega (arith, s, t, u)

  pub added_apart : AreApart mids.ids.items
  added_apart = subst AreApart (sym a.ids) (apart_longer olds.ids.items r.id new h.apart)

  pub added_named : r.id ≡ get_or mids.ids.items p 0
  added_named = sym ((λ i. get_or (a.ids i) p 0) ∙ at_end olds.ids.items r.id new p a.last)

  pub added_log : IsLog mids.ids.items mids.lasts.items mids.log.items
  added_log =
      subst (λ xs. IsLog xs mids.lasts.items mids.log.items) (sym a.ids)
      (subst (λ ls. IsLog (olds.ids.items ++ r.id ∷ []) ls mids.log.items) (sym a.lasts)
      (subst (IsLog (olds.ids.items ++ r.id ∷ []) (olds.lasts.items ++ None ∷ [])) (sym a.log) (log_longer olds.ids.items olds.lasts.items olds.log.items r.id h.logged)))

  module _ (nows : Found) (e : IsEntered p r mids nows) where
    ids_are : nows.ids.items ≡ olds.ids.items ++ r.id ∷ []
    ids_are = e.ids ∙ a.ids

    table_is : nows.table.items ≡ olds.table.items ++ length olds.ids.items ∷ []
    table_is = e.table ∙ (λ i. a.table i ++ a.last i ∷ [])

    offered : Offered (olds.ids.items ++ r.id ∷ []) r olds.log.items nows.lasts.items nows.log.items
    offered =
        subst (λ xs. Offered xs r olds.log.items nows.lasts.items nows.log.items) a.ids
        (subst (λ es. Offered mids.ids.items r es nows.lasts.items nows.log.items) a.log e.offered)

    sets : (k : ℕ) → get_or nows.places.items k None ≡ (if nat_eq r.id k then Some (length olds.ids.items) else get_or olds.places.items k None)
    sets k = ap (λ ps. get_or ps k None) e.places ∙ a.places k ∙ ap (λ n. if nat_eq r.id k then Some n else get_or olds.places.items k None) a.last

    pub put_new : IsPut r olds nows × (rows_of nows ≡ rows_of olds ++ r ∷ [])
    put_new = (
      record {
        found =
            subst (λ xs. AreFound xs nows.places.items nows.lasts.items nows.log.items nows.table.items) (sym ids_are)
            (subst (λ ts. AreFound (olds.ids.items ++ r.id ∷ []) nows.places.items nows.lasts.items nows.log.items ts) (sym table_is)
            (found_new olds.ids.items olds.places.items olds.lasts.items olds.log.items olds.table.items r new h nows.places.items nows.lasts.items nows.log.items sets offered));
        rows = offered.put;
        names = (λ i. named (ids_are i) (table_is i)) ∙ new_names olds.ids.items olds.places.items olds.lasts.items olds.log.items olds.table.items r new h nows.places.items nows.lasts.items nows.log.items sets offered;
      },
      new_last olds.ids.items olds.places.items olds.lasts.items olds.log.items olds.table.items r new h nows.places.items nows.lasts.items nows.log.items sets offered,
    )

pub entered_found : (r : Row) (olds nows : Found) (p : ℕ) → p < length olds.ids.items → get_or olds.ids.items p 0 ≡ r.id → IsFound olds → (result : Result (Unit {0}) KeepFault) → Enters p r olds nows result → PutsFound r olds nows result
entered_found r olds nows p l name h (Ok u) e = put_found r olds nows p l name h e
entered_found r olds nows p l name h (Err f) e = e

pub entered_new : (r : Row) (olds mids nows : Found) (p : ℕ) → is_in r.id olds.ids.items ≡ false → IsFound olds → IsAdded r.id olds mids p → (result : Result (Unit {0}) KeepFault) → Enters p r mids nows result → PutsNew r olds nows result
entered_new r olds mids nows p new h a (Ok u) e = put_new r olds mids p new h a nows e
entered_new r olds mids nows p new h a (Err f) e = e

-- ---- different types

module _ (type : ℕ → Value) (n : ℕ) (tells : TellsApart type n) where
  not_among : (id : ℕ) (ids : List ℕ) → id < n → AllFit (λ i. i < n) ids → ((q : ℕ) → q < length ids → nat_eq id (get_or ids q 0) ≡ false) → is_among (map type ids) (type id) ≡ false
  not_among id [] l h f = refl
  not_among id (i ∷ ids) l h f =
      (λ x. (tells id i l h.0 ∙ f 0 (omega arith)) x || not_among id ids l h.1 (λ q m. f (suc q) (omega (arith, m))) x)

  pub different_types : (ids : List ℕ) → AllFit (λ i. i < n) ids → AreApart ids → Different (map type ids)
  different_types [] h a = tt
  different_types (i ∷ ids) h a = (
    not_among i ids h.0 h.1 (λ q m. a 0 (suc q) (omega arith) (omega (arith, m)) ∙ before_other 0 (suc q) (omega arith)),
    different_types ids h.1 (λ p q l m. a (suc p) (suc q) (omega (arith, l)) (omega (arith, m)) ∙ next_numbers p q),
  )

-- ---- what a pair leaves

not_both : (e : KeepFault) → e ≡ NoMemory → e ≡ Full → ⊥
not_both e p q = cc

pub puts_row : (r : Row) (olds nows : Found) (result : Result (Unit {0}) KeepFault) → PutsFound r olds nows result → Puts r (rows_of olds) (rows_of nows) result
puts_row r olds nows (Ok u) p = (p.0.rows, p.1)
puts_row r olds nows (Err e) p = p

pub adds_row : (r : Row) (olds nows : Found) (room rest : ℕ) (result : Result (Unit {0}) KeepFault) → is_in r.id olds.ids.items ≡ false → IsFound olds → AddsFound r olds nows room rest result
    → AddsRow r (rows_of olds) (rows_of nows) room rest result
adds_row r olds nows room rest (Ok u) n h p =
    let long = ap length p.1 ∙ length-append (rows_of olds) (r ∷ []) in
    let took = p.2 in
    (p.0.rows, omega (arith, long, took))
adds_row r olds nows room rest (Err e) n h p = λ full.
    let none = p full in
    let long = ap length (put_none r (rows_of olds) (h.kinds r.id ∙ n)) ∙ length-append (rows_of olds) (r ∷ []) in
    omega (arith, none, long)

pub told_again : (F : Formula) (lists mids : List (List Value)) (v : Value) (r : Row) (olds nows : Found) (result : Result (Unit {0}) KeepFault) → Numbers F v lists mids r.id → AreIn F lists (names_of olds)
    → PutsFound r olds nows result → OnOk result (Told F lists mids (names_of olds) (names_of nows) (v ∷ []))
told_again F lists mids v r olds nows (Ok u) n h p = told_one F lists mids v r.id (names_of olds) (names_of nows) n h p.0.names
told_again F lists mids v r olds nows (Err e) n h p = tt

pub told_new : (F : Formula) (lists mids : List (List Value)) (v : Value) (r : Row) (olds nows : Found) (room rest : ℕ) (result : Result (Unit {0}) KeepFault) → Numbers F v lists mids r.id
    → AreIn F lists (names_of olds) → AddsFound r olds nows room rest result → OnOk result (Told F lists mids (names_of olds) (names_of nows) (v ∷ []))
told_new F lists mids v r olds nows room rest (Ok u) n h p = told_one F lists mids v r.id (names_of olds) (names_of nows) n h p.0.names
told_new F lists mids v r olds nows room rest (Err e) n h p = tt

pub found_again_is : (r : Row) (olds nows : Found) (result : Result (Unit {0}) KeepFault) → PutsFound r olds nows result → OnOk result (IsFound nows)
found_again_is r olds nows (Ok u) p = p.0.found
found_again_is r olds nows (Err e) p = tt

pub found_new_is : (r : Row) (olds nows : Found) (room rest : ℕ) (result : Result (Unit {0}) KeepFault) → AddsFound r olds nows room rest result → OnOk result (IsFound nows)
found_new_is r olds nows room rest (Ok u) p = p.0.found
found_new_is r olds nows room rest (Err e) p = tt

pub adds_found : (r : Row) (olds nows : Found) (room : ℕ) (result : Result (Unit {0}) KeepFault) → (room ≡ 0 → ⊥) → PutsNew r olds nows result → AddsFound r olds nows room (room - 1) result
adds_found r olds nows room (Ok u) some p = (p.0, p.1, omega (arith, some))
adds_found r olds nows room (Err e) some p = λ full. absurd (not_both e p full)
