-- Rows in the order in which they were found.
use Rattle.std.proofs.Common.{◌≡◌, ◌<◌, ◌≤◌, ◌+◌, ℕ, zero, suc, nat_eq, nat_lt, Bool, true, false, ◌||◌, if◌then◌else◌, int_lt, List, [], ◌∷◌, ◌++◌, drop, length, get_or, set, Option, Some, None, refl, sym, ap, ◌∙◌, subst, arith, append_assoc, length-append}
use Rattle.std.proofs.lemmas.List.{get_or_append_left, get_or-append-add, get_or-set_same, get_or-set_other, drop-append-le}
use Rattle.std.proofs.lemmas.List.Folds.{list_any-append}
use Rattle.mm_states.specs.Lists.{AllFit}
use Rattle.mm_least.specs.declared.row.Row.{Row}
use Rattle.mm_least.specs.declared.log.Entry.{Entry}
use Rattle.mm_least.specs.Rows.{put_row}
use Rattle.mm_least.specs.RowLaws.{append_fits}
use Rattle.mm_least.specs.Logs.{is_at, standing, IsLast, KnowsLast, AreNamed, AreApart, IsLog, Offered}
use Rattle.mm_least.proofs.RowLemmas.{if_cons}

or_first : (a b : Bool) → (a || b) ≡ false → a ≡ false
or_first false b e = refl
or_first true b e = e

or_second : (a b : Bool) → (a || b) ≡ false → b ≡ false
or_second false b e = e
or_second true b e = cc

or_here : (a b : Bool) → a ≡ true → (a || b) ≡ true
or_here a b e = ap (λ (x : Bool). x || b) e

or_later : (a b : Bool) → b ≡ true → (a || b) ≡ true
or_later true b e = refl
or_later false b e = e

or_none : (a b : Bool) → a ≡ false → b ≡ false → (a || (b || false)) ≡ false
or_none a b e f = (λ i. e i || (f i || false))

same_place : (p q : ℕ) → p ≡ q → nat_eq p q ≡ true
same_place p q e = grind (arith)

other_place : (p q : ℕ) → (p ≡ q → ⊥) → nat_eq p q ≡ false
other_place p q n = grind (arith)

other_way : (p q : ℕ) → nat_eq p q ≡ false → nat_eq q p ≡ false
other_way p q e = grind (arith)

one_place : (p q : ℕ) → nat_eq p q ≡ true → p ≡ q
one_place p q e = grind (arith)

abbrev entry : ℕ → Row → Entry
entry p r = record { place = p; row = r }

at_last : (q : ℕ) (log : List Entry) (x : Entry) → is_at q (log ++ x ∷ []) ≡ (is_at q log || (nat_eq x.place q || false))
at_last q log x = list_any-append (λ e. nat_eq e.place q) log (x ∷ [])

-- an entry from a number on is found there
at_later : (log : List Entry) (n m p : ℕ) (d : Entry) → n ≤ m → m < length log → (get_or log m d).place ≡ p → is_at p (drop n log) ≡ true
at_later [] n m p d l i e = absurd (omega (arith, i))
at_later (x ∷ log) zero zero p d l i e = or_here (nat_eq x.place p) (is_at p log) (same_place x.place p e)
at_later (x ∷ log) zero (suc m) p d l i e = or_later (nat_eq x.place p) (is_at p log) (at_later log zero m p d (omega arith) (omega (arith, i)) e)
at_later (x ∷ log) (suc n) zero p d l i e = absurd (omega (arith, l))
at_later (x ∷ log) (suc n) (suc m) p d l i e = at_later log n m p d (omega (arith, l)) (omega (arith, i)) e

module _ (r : Row) (p : ℕ) where
  stands_last : (log : List Entry) → is_at p log ≡ false → standing (log ++ entry p r ∷ []) ≡ standing log ++ r ∷ []
  stands_last [] n = refl
  stands_last (e ∷ log) n = by (is_at e.place log) refl (stands_last log (or_second (nat_eq e.place p) (is_at p log) n))
    where
      at : is_at e.place (log ++ entry p r ∷ []) ≡ (is_at e.place log || (nat_eq p e.place || false))
      at = at_last e.place log (entry p r)

      by : (b : Bool) → is_at e.place log ≡ b → standing (log ++ entry p r ∷ []) ≡ standing log ++ r ∷ [] → standing ((e ∷ log) ++ entry p r ∷ []) ≡ standing (e ∷ log) ++ r ∷ []
      by true h rest =
          ap (λ b. if b then standing (log ++ entry p r ∷ []) else e.row ∷ standing (log ++ entry p r ∷ [])) (at ∙ or_here (is_at e.place log) (nat_eq p e.place || false) h) ∙ rest
          ∙ ap (λ b. (if b then standing log else e.row ∷ standing log) ++ r ∷ []) (sym h)
      by false h rest =
          ap (λ b. if b then standing (log ++ entry p r ∷ []) else e.row ∷ standing (log ++ entry p r ∷ []))
          (at ∙ or_none (is_at e.place log) (nat_eq p e.place) h (other_way e.place p (or_first (nat_eq e.place p) (is_at p log) n)))
          ∙ ap (λ rows. e.row ∷ rows) rest
          ∙ ap (λ b. (if b then standing log else e.row ∷ standing log) ++ r ∷ []) (sym h)

  -- the numbers of entries tell their places from this one
  abbrev Tells : List Entry → Type 0
  Tells log = AllFit (λ e. nat_eq e.row.id r.id ≡ nat_eq e.place p) log

  -- one more entry before others, where it is at another place
  put_before : (e : Entry) (log : List Entry) (more : List Entry) (b : Bool) → nat_eq e.place p ≡ false → nat_eq e.row.id r.id ≡ nat_eq e.place p → put_row r (standing log) ≡ (if b then standing (log ++ entry p r ∷ []) else standing log)
      → put_row r (standing (e ∷ log)) ≡ (if b then standing ((e ∷ log) ++ entry p r ∷ []) else standing (e ∷ log))
  put_before e log more b n t rest = by (is_at e.place log) refl
    where
      both : (there : Bool) → is_at e.place log ≡ there → is_at e.place (log ++ entry p r ∷ []) ≡ there
      both true h = at_last e.place log (entry p r) ∙ or_here (is_at e.place log) (nat_eq p e.place || false) h
      both false h = at_last e.place log (entry p r) ∙ or_none (is_at e.place log) (nat_eq p e.place) h (other_way e.place p n)

      by : (there : Bool) → is_at e.place log ≡ there → put_row r (standing (e ∷ log)) ≡ (if b then standing ((e ∷ log) ++ entry p r ∷ []) else standing (e ∷ log))
      by true h =
          ap (λ x. put_row r (if x then standing log else e.row ∷ standing log)) h ∙ rest
          ∙ (λ i. if b then (if sym (both true h) i then standing (log ++ entry p r ∷ []) else e.row ∷ standing (log ++ entry p r ∷ [])) else (if sym h i then standing log else e.row ∷ standing log))
      by false h =
          ap (λ x. put_row r (if x then standing log else e.row ∷ standing log)) h
          ∙ ap (λ x. if x then (if int_lt r.weight e.row.weight then standing log ++ r ∷ [] else e.row ∷ standing log) else e.row ∷ put_row r (standing log)) (t ∙ n)
          ∙ ap (λ rows. e.row ∷ rows) rest ∙ if_cons b e.row (standing (log ++ entry p r ∷ [])) (standing log)
          ∙ (λ i. if b then (if sym (both false h) i then standing (log ++ entry p r ∷ []) else e.row ∷ standing (log ++ entry p r ∷ [])) else (if sym h i then standing log else e.row ∷ standing log))

  -- a row of a type without one
  put_first : (log : List Entry) → Tells log → is_at p log ≡ false → put_row r (standing log) ≡ standing (log ++ entry p r ∷ [])
  put_first [] t n = refl
  put_first (e ∷ log) t n =
      put_before e log [] true (or_first (nat_eq e.place p) (is_at p log) n) t.0 (put_first log t.1 (or_second (nat_eq e.place p) (is_at p log) n))

  -- a row of a type that has one
  put_again : (log : List Entry) (k : ℕ) (d : Entry) → Tells log → k < length log → (get_or log k d).place ≡ p → is_at p (drop (k + 1) log) ≡ false
      → put_row r (standing log) ≡ (if int_lt r.weight (get_or log k d).row.weight then standing (log ++ entry p r ∷ []) else standing log)
  put_again [] k d t l i n = absurd (omega (arith, l))
  put_again (e ∷ log) zero d t l i n =
      let here : nat_eq e.place p ≡ true = same_place e.place p i in
      let alone : is_at e.place log ≡ false = ap (λ q. is_at q log) i ∙ n in
      let more : is_at e.place (log ++ entry p r ∷ []) ≡ true =
      at_last e.place log (entry p r) ∙ or_later (is_at e.place log) (nat_eq p e.place || false) (or_here (nat_eq p e.place) false (same_place p e.place (sym i))) in
      ap (λ x. put_row r (if x then standing log else e.row ∷ standing log)) alone
      ∙ ap (λ x. if x then (if int_lt r.weight e.row.weight then standing log ++ r ∷ [] else e.row ∷ standing log) else e.row ∷ put_row r (standing log)) (t.0 ∙ here)
      ∙ (λ j. if int_lt r.weight e.row.weight then (sym (stands_last log n) ∙ sym (ap (λ x. if x then standing (log ++ entry p r ∷ []) else e.row ∷ standing (log ++ entry p r ∷ [])) more)) j
      else sym (ap (λ x. if x then standing log else e.row ∷ standing log) alone) j)
  put_again (e ∷ log) (suc k) d t l i n =
      let up : suc (k + 1) ≡ suc k + 1 = omega arith in
      by (nat_eq e.place p) refl (put_again log k d t.1 (omega (arith, l)) i (ap (λ m. is_at p (drop m (e ∷ log))) up ∙ n))
    where
      by : (b : Bool) → nat_eq e.place p ≡ b → put_row r (standing log) ≡ (if int_lt r.weight (get_or log k d).row.weight then standing (log ++ entry p r ∷ []) else standing log)
          → put_row r (standing (e ∷ log)) ≡ (if int_lt r.weight (get_or log k d).row.weight then standing ((e ∷ log) ++ entry p r ∷ []) else standing (e ∷ log))
      by true h rest =
          let there : is_at e.place log ≡ true = at_later log 0 k e.place d (omega arith) (omega (arith, l)) (i ∙ sym (one_place e.place p h)) in
          let more : is_at e.place (log ++ entry p r ∷ []) ≡ true = at_last e.place log (entry p r) ∙ or_here (is_at e.place log) (nat_eq p e.place || false) there in
          ap (λ x. put_row r (if x then standing log else e.row ∷ standing log)) there ∙ rest
          ∙ (λ j. if int_lt r.weight (get_or log k d).row.weight then (if sym more j then standing (log ++ entry p r ∷ []) else e.row ∷ standing (log ++ entry p r ∷ [])) else (if sym there j then standing log else e.row ∷ standing log))
      by false h rest = put_before e log [] (int_lt r.weight (get_or log k d).row.weight) h t.0 rest

-- ---- one entry more

module _ (log : List Entry) (x : Entry) where
  last_at : (d : Entry) → get_or (log ++ x ∷ []) (length log) d ≡ x
  last_at d =
      let none : length log ≡ length log + 0 = omega arith in
      ap (λ n. get_or (log ++ x ∷ []) n d) none ∙ get_or-append-add log (x ∷ []) 0 d

  nothing_after : (xs : List Entry) (n : ℕ) → n ≡ length xs → drop n xs ≡ []
  nothing_after [] zero e = refl
  nothing_after [] (suc n) e = refl
  nothing_after (y ∷ xs) zero e = absurd (omega (arith, e))
  nothing_after (y ∷ xs) (suc n) e = nothing_after xs n (omega (arith, e))

  long : length (log ++ x ∷ []) ≡ length log + 1
  long = length-append log (x ∷ [])

  is_last : IsLast (log ++ x ∷ []) x.place (Some (length log))
  is_last = (
    (let l = long in omega (arith, l)),
    λ d. ap (λ e. e.place) (last_at d),
    ap (is_at x.place) (nothing_after (log ++ x ∷ []) (length log + 1) (sym long)),
  )

  still_last : (q : ℕ) (o : Option ℕ) → nat_eq x.place q ≡ false → IsLast log q o → IsLast (log ++ x ∷ []) q o
  still_last q None n h = at_last q log x ∙ or_none (is_at q log) (nat_eq x.place q) h n
  still_last q (Some k) n h = (
    (let l = long in let i = h.0 in omega (arith, l, i)),
    λ d. ap (λ e. e.place) (get_or_append_left log (x ∷ []) d k h.0) ∙ h.1 d,
    ap (is_at q) (drop-append-le (k + 1) log (x ∷ []) (let i = h.0 in omega (arith, i))) ∙ at_last q (drop (k + 1) log) x ∙ or_none (is_at q (drop (k + 1) log)) (nat_eq x.place q) h.2 n,
  )

  pub knows_more : (lasts nows : List (Option ℕ)) → x.place < length lasts → nows ≡ set lasts x.place (Some (length log)) → length nows ≡ length lasts → KnowsLast lasts log → KnowsLast nows (log ++ x ∷ [])
  knows_more lasts nows l e n k = record {
    placed = subst (λ m. AllFit (λ y. y.place < m) (log ++ x ∷ [])) (sym n) (append_fits (λ y. y.place < length lasts) log (x ∷ []) k.placed (l, tt));
    last = λ q i. by q (subst (λ m. q < m) n i) (nat_eq x.place q) refl;
  }
    where
      by : (q : ℕ) → q < length lasts → (b : Bool) → nat_eq x.place q ≡ b → IsLast (log ++ x ∷ []) q (get_or nows q None)
      by q i true h =
          let here = one_place x.place q h in
          subst (λ o. IsLast (log ++ x ∷ []) q o) (sym (ap (λ os. get_or os q None) e ∙ ap (λ p. get_or (set lasts x.place (Some (length log))) p None) (sym here) ∙ get_or-set_same lasts x.place (Some (length log)) None l))
          (subst (λ p. IsLast (log ++ x ∷ []) p (Some (length log))) here is_last)
      by q i false h =
          let apart : q ≡ x.place → ⊥ = λ s. let c : true ≡ false = sym (same_place x.place q (sym s)) ∙ h in cc in
          subst (λ o. IsLast (log ++ x ∷ []) q o) (sym (ap (λ os. get_or os q None) e ∙ get_or-set_other lasts x.place q (Some (length log)) None apart))
          (still_last q (get_or lasts q None) h (k.last q i))

-- ---- an offer

module _ (ids : List ℕ) (p : ℕ) (r : Row) (there : p < length ids) (apart : AreApart ids) (name : r.id ≡ get_or ids p 0) (lasts : List (Option ℕ)) (log : List Entry) (is : IsLog ids lasts log) where
  tells : (es : List Entry) → AllFit (λ e. e.place < length lasts) es → AreNamed ids es → AllFit (λ e. nat_eq e.row.id r.id ≡ nat_eq e.place p) es
  tells [] h k = tt
  tells (e ∷ es) h k = ((λ i. nat_eq (k.0 i) (name i)) ∙ apart e.place p (subst (λ n. e.place < n) is.long h.0) there, tells es h.1 k.1)

  pub stays_offered : (k : ℕ) (d : Entry) → get_or lasts p None ≡ Some k → int_lt r.weight (get_or log k d).row.weight ≡ false → Offered ids r log lasts log
  stays_offered k d e w =
      let last = subst (IsLast log p) e (is.knows.last p (subst (λ n. p < n) (sym is.long) there)) in
      record {
        log = is;
        put = sym (put_again r p log k d (tells log is.knows.placed is.named) last.0 (last.1 d) last.2 ∙ ap (λ b. if b then standing (log ++ entry p r ∷ []) else standing log) w);
      }

  module _ (nows : List (Option ℕ)) (later : List Entry) (moved : nows ≡ set lasts p (Some (length log))) (long : length nows ≡ length lasts) (pushed : later ≡ log ++ entry p r ∷ []) where
    new_log : IsLog ids nows later
    new_log = record {
      long = long ∙ is.long;
      knows = subst (KnowsLast nows) (sym pushed) (knows_more log (entry p r) lasts nows (subst (λ n. p < n) (sym is.long) there) moved long is.knows);
      named = subst (AreNamed ids) (sym pushed) (append_fits (λ e. e.row.id ≡ get_or ids e.place 0) log (entry p r ∷ []) is.named (name, tt));
    }

    pub first_offered : get_or lasts p None ≡ None → Offered ids r log nows later
    first_offered e = record {
      log = new_log;
      put = ap standing pushed ∙ sym (put_first r p log (tells log is.knows.placed is.named) (subst (IsLast log p) e (is.knows.last p (subst (λ n. p < n) (sym is.long) there))));
    }

    pub again_offered : (k : ℕ) (d : Entry) → get_or lasts p None ≡ Some k → int_lt r.weight (get_or log k d).row.weight ≡ true → Offered ids r log nows later
    again_offered k d e w =
        let last = subst (IsLast log p) e (is.knows.last p (subst (λ n. p < n) (sym is.long) there)) in
        record {
          log = new_log;
          put = ap standing pushed ∙ sym (put_again r p log k d (tells log is.knows.placed is.named) last.0 (last.1 d) last.2 ∙ ap (λ b. if b then standing (log ++ entry p r ∷ []) else standing log) w);
        }

-- ---- the rows that stand, one by one

drop_next : (log : List Entry) (k : ℕ) (d : Entry) → k < length log → drop k log ≡ get_or log k d ∷ drop (k + 1) log
drop_next [] k d l = absurd (omega (arith, l))
drop_next (e ∷ log) zero d l = refl
drop_next (e ∷ log) (suc k) d l =
    let up : suc (k + 1) ≡ suc k + 1 = omega arith in
    drop_next log k d (omega (arith, l)) ∙ ap (λ m. get_or log k d ∷ drop m (e ∷ log)) up

module _ (log : List Entry) (k : ℕ) (d : Entry) (l : k < length log) where
  next_stands : (b : Bool) → is_at (get_or log k d).place (drop (k + 1) log) ≡ b → standing (drop k log) ≡ (if b then standing (drop (k + 1) log) else (get_or log k d).row ∷ standing (drop (k + 1) log))
  next_stands b h = ap standing (drop_next log k d l) ∙ ap (λ x. if x then standing (drop (k + 1) log) else (get_or log k d).row ∷ standing (drop (k + 1) log)) h

  pub stands_here : (o : Option ℕ) → IsLast log (get_or log k d).place o → o ≡ Some k → standing (drop k log) ≡ (get_or log k d).row ∷ standing (drop (k + 1) log)
  stands_here o h e = next_stands false (subst (IsLast log (get_or log k d).place) e h).2

  pub stands_later : (o : Option ℕ) → IsLast log (get_or log k d).place o → (o ≡ Some k → ⊥) → standing (drop k log) ≡ standing (drop (k + 1) log)
  stands_later None h n =
      let there : is_at (get_or log k d).place log ≡ true = at_later log 0 k (get_or log k d).place d (omega arith) l refl in
      let c : true ≡ false = sym there ∙ h in cc
  stands_later (Some m) h n = next_stands true (by_order (nat_lt m k) refl)
    where
      by_order : (b : Bool) → nat_lt m k ≡ b → is_at (get_or log k d).place (drop (k + 1) log) ≡ true
      by_order true less =
          let before : m < k = grind (arith) in
          let there : is_at (get_or log k d).place (drop (m + 1) log) ≡ true = at_later log (m + 1) k (get_or log k d).place d (omega (arith, before)) l refl in
          let c : true ≡ false = sym there ∙ h.2 in cc
      by_order false more =
          let apart : m ≡ k → ⊥ = λ s. n (ap Some s) in
          let after : k < m = grind (arith) in
          at_later log (k + 1) m (get_or log k d).place d (omega (arith, after)) h.0 (h.1 d)

place_within : (n : ℕ) (log : List Entry) (k : ℕ) (d : Entry) → AllFit (λ e. e.place < n) log → k < length log → (get_or log k d).place < n
place_within n [] k d h l = absurd (omega (arith, l))
place_within n (e ∷ log) zero d h l = h.0
place_within n (e ∷ log) (suc k) d h l = place_within n log k d h.1 (omega (arith, l))

module _ (lasts : List (Option ℕ)) (log : List Entry) (knows : KnowsLast lasts log) (k : ℕ) (d : Entry) (l : k < length log) (olds : List Row) (before : olds ++ standing (drop k log) ≡ standing log) where
  last_there : IsLast log (get_or log k d).place (get_or lasts (get_or log k d).place None)
  last_there = knows.last (get_or log k d).place (place_within (length lasts) log k d knows.placed l)

  pub goes_in : get_or lasts (get_or log k d).place None ≡ Some k → (rows : List Row) → rows ≡ olds ++ (get_or log k d).row ∷ [] → rows ++ standing (drop (k + 1) log) ≡ standing log
  goes_in e rows r =
      ap (λ rs. rs ++ standing (drop (k + 1) log)) r ∙ append_assoc olds ((get_or log k d).row ∷ []) (standing (drop (k + 1) log))
      ∙ ap (λ rs. olds ++ rs) (sym (stands_here log k d l (get_or lasts (get_or log k d).place None) last_there e)) ∙ before

  pub stays_out : (get_or lasts (get_or log k d).place None ≡ Some k → ⊥) → olds ++ standing (drop (k + 1) log) ≡ standing log
  stays_out n = ap (λ rs. olds ++ rs) (sym (stands_later log k d l (get_or lasts (get_or log k d).place None) last_there n)) ∙ before
