-- A row put beside others.
use Rattle.std.proofs.Common.{◌≡◌, ◌<◌, ◌+◌, ◌-◌, Some, Result, Ok, Err, ℕ, zero, suc, Bool, true, false, ◌||◌, if◌then◌else◌, int_lt, nat_eq, List, [], ◌∷◌, ◌++◌, take, drop, length, get_or, refl, sym, ap, ◌∙◌, arith, append_assoc, length-append}
use Rattle.std.specs.List.{list_any}
use Rattle.mm_least.specs.declared.row.Row.{Row}
use Rattle.mm_least.specs.Rows.{IsPlaceIn, Appends, Puts, AddsRow, put_row}
use Rattle.mm_nodes.specs.declared.keeps.KeepFault.{KeepFault}
use Rattle.mm_nodes.specs.declared.keeps.KeepFault.TheVariants.{Full, NoMemory}
use Rattle.std.proofs.lemmas.List.{length-take-le, length-drop}

or_left : (a b : Bool) → (a || b) ≡ false → a ≡ false
or_left false b e = refl
or_left true b e = e

or_right : (a b : Bool) → (a || b) ≡ false → b ≡ false
or_right false b e = e
or_right true b e = cc

not_both : (e : KeepFault) → e ≡ NoMemory → e ≡ Full → ⊥
not_both e p q = cc

nat_eq_true : (a b : ℕ) → a ≡ b → nat_eq a b ≡ true
nat_eq_true a b e = grind (arith)

pub if_cons : (b : Bool) (s : Row) (xs ys : List Row) → s ∷ (if b then xs else ys) ≡ (if b then s ∷ xs else s ∷ ys)
if_cons true s xs ys = refl
if_cons false s xs ys = refl

pub put_found : (r : Row) (rows : List Row) (k : ℕ) (d : Row) → k < length rows → list_any (λ s. nat_eq s.id r.id) (take k rows) ≡ false → (get_or rows k d).id ≡ r.id
    → put_row r rows ≡ (if int_lt r.weight (get_or rows k d).weight then take k rows ++ (drop (suc k) rows ++ r ∷ []) else rows)
put_found r [] k d l n e = absurd (omega (arith, l))
put_found r (s ∷ rows) zero d l n e =
    ap (λ b. if b then (if int_lt r.weight s.weight then rows ++ r ∷ [] else s ∷ rows) else s ∷ put_row r rows) (nat_eq_true s.id r.id e)
put_found r (s ∷ rows) (suc k) d l n e =
    ap (λ b. if b then (if int_lt r.weight s.weight then rows ++ r ∷ [] else s ∷ rows) else s ∷ put_row r rows) (or_left (nat_eq s.id r.id) _ n)
    ∙ ap (λ xs. s ∷ xs) (put_found r rows k d (omega (arith, l)) (or_right (nat_eq s.id r.id) _ n) e)
    ∙ if_cons (int_lt r.weight (get_or rows k d).weight) s (take k rows ++ (drop (suc k) rows ++ r ∷ [])) rows

pub put_none : (r : Row) (rows : List Row) → list_any (λ s. nat_eq s.id r.id) rows ≡ false → put_row r rows ≡ rows ++ r ∷ []
put_none r [] n = refl
put_none r (s ∷ rows) n =
    ap (λ b. if b then (if int_lt r.weight s.weight then rows ++ r ∷ [] else s ∷ rows) else s ∷ put_row r rows) (or_left (nat_eq s.id r.id) _ n)
    ∙ ap (λ xs. s ∷ xs) (put_none r rows (or_right (nat_eq s.id r.id) _ n))

module _ (r x : Row) (rows : List Row) (k : ℕ) (place : IsPlaceIn rows r.id (Some k)) (there : x ≡ get_or rows k x) where
  found : put_row r rows ≡ (if int_lt r.weight x.weight then take k rows ++ (drop (suc k) rows ++ r ∷ []) else rows)
  found =
      put_found r rows k x place.0 place.1 (place.2 x)
      ∙ ap (λ y. if int_lt r.weight y.weight then take k rows ++ (drop (suc k) rows ++ r ∷ []) else rows) (sym there)

  pub replaced : (mids nows : List Row) (result : Result (Unit {0}) KeepFault) → int_lt r.weight x.weight ≡ true → mids ≡ take k rows ++ drop (suc k) rows → Appends r mids nows result → Puts r rows nows result
  replaced mids nows (Ok u) less without last =
      let all : nows ≡ take k rows ++ (drop (suc k) rows ++ r ∷ []) = last ∙ ap (λ xs. xs ++ r ∷ []) without ∙ append_assoc (take k rows) (drop (suc k) rows) (r ∷ []) in
      let front = length-take-le k rows (omega (arith, place.0)) in
      let back = length-drop (suc k) rows in
      let one = length-append (take k rows) (drop (suc k) rows ++ r ∷ []) in
      let two = length-append (drop (suc k) rows) (r ∷ []) in
      let long = ap length all in
      let inside = place.0 in (
        all ∙ sym (found ∙ ap (λ b. if b then take k rows ++ (drop (suc k) rows ++ r ∷ []) else rows) less),
        omega (arith, front, back, one, two, long, inside),
      )
  replaced mids nows (Err e) less without last = last

  pub stays : int_lt r.weight x.weight ≡ false → rows ≡ put_row r rows
  stays more = sym (found ∙ ap (λ b. if b then take k rows ++ (drop (suc k) rows ++ r ∷ []) else rows) more)

pub adds_in_place : (r : Row) (olds nows : List Row) (room : ℕ) (result : Result (Unit {0}) KeepFault) → Puts r olds nows result → AddsRow r olds nows room room result
adds_in_place r olds nows room (Ok u) p = (p.0, ap (λ n. room + n) p.1)
adds_in_place r olds nows room (Err e) p = λ full. absurd (not_both e p full)

pub adds_last : (r : Row) (olds nows : List Row) (room : ℕ) (result : Result (Unit {0}) KeepFault) → list_any (λ s. nat_eq s.id r.id) olds ≡ false → (room ≡ 0 → ⊥) → Appends r olds nows result
    → AddsRow r olds nows room (room - 1) result
adds_last r olds nows room (Ok u) none some a =
    let long = ap length a ∙ length-append olds (r ∷ []) in
    (a ∙ sym (put_none r olds none), omega (arith, long, some))
adds_last r olds nows room (Err e) none some a = λ full. absurd (not_both e a full)
