-- A join that is put at its place in a cache.
use Rattle.std.proofs.Common.{◌≡◌, ◌<◌, ◌/◌, ◌^◌, ◌==◌, ◌&&◌, ℕ, suc, zero, Bool, true, false, not, List, [], ◌∷◌, length, set, replicate, Option, Some, None, slice_get, refl, sym, ap, ◌∙◌, arith, if◌then◌else◌, inl, inr}
use Rattle.std.specs.Prelude.{◌⊎◌}
use Rattle.std.proofs.lemmas.Bool.{and_parts, eqb-true, eqb-false}
use Rattle.mm_states.specs.declared.grid.TheConstants.{NOTHING}
use Rattle.mm_states.specs.declared.cache.Slot.{Slot}
use Rattle.mm_states.specs.Cells.{spread, slot_answer, cache_answer, Forgets, Keeps}

four_hold : (a b c d : Bool) → (a && b && c && d) ≡ true → (a ≡ true) × (b ≡ true) × (c ≡ true) × (d ≡ true)
four_hold a b c d e =
    let p = and_parts (a && b && c) d e in
    let q = and_parts (a && b) c p.0 in
    let r = and_parts a b q.0 in
    (r.0, r.1, q.1, p.1)

-- what a place with a join answers is this join
slot_tells : (s : Slot) (o l r i : ℕ) → slot_answer (Some s) o l r ≡ Some i → (s.op ≡ o) × (s.left ≡ l) × (s.right ≡ r) × (s.id ≡ i) × (not (s.id == NOTHING) ≡ true)
slot_tells s o l r i h = by (s.op == o && s.left == l && s.right == r && not (s.id == NOTHING)) refl h
  where
    by : (b : Bool) → (s.op == o && s.left == l && s.right == r && not (s.id == NOTHING)) ≡ b → (if b then Some s.id else None) ≡ Some i
        → (s.op ≡ o) × (s.left ≡ l) × (s.right ≡ r) × (s.id ≡ i) × (not (s.id == NOTHING) ≡ true)
    by true e a =
        let p = four_hold (s.op == o) (s.left == l) (s.right == r) (not (s.id == NOTHING)) e in
        let some : Some s.id ≡ Some i = a in
        (eqb-true s.op o p.0, eqb-true s.left l p.1, eqb-true s.right r p.2, cc, p.3)
    by false e a = let no : None ≡ Some i = a in cc

pub get_set_same : {A : Type 0} (xs : List A) (k : ℕ) (x : A) → k < length xs → slice_get (set xs k x) k ≡ Some x
get_set_same [] k x l = absurd (omega arith)
get_set_same (y ∷ xs) zero x l = refl
get_set_same (y ∷ xs) (suc k) x l = get_set_same xs k x (omega arith)

pub get_set_other : {A : Type 0} (xs : List A) (k j : ℕ) (x : A) → (j ≡ k → ⊥) → slice_get (set xs k x) j ≡ slice_get xs j
get_set_other [] k j x n = refl
get_set_other (y ∷ xs) zero zero x n = absurd (n refl)
get_set_other (y ∷ xs) zero (suc j) x n = refl
get_set_other (y ∷ xs) (suc k) zero x n = refl
get_set_other (y ∷ xs) (suc k) (suc j) x n = get_set_other xs k j x (λ e. n (ap suc e))

-- what is answered after a put
pub put_keeps : (shift op left right id : ℕ) (slots : List Slot) (place : ℕ) → place < length slots
    → Keeps (cache_answer shift slots) (cache_answer shift (set slots place (record { op = op; left = left; right = right; id = id }))) op left right id
put_keeps shift op left right id slots place within o l r i h = by (at == place) refl
  where
    at : ℕ
    at = spread o l r / 2 ^ shift

    by : (b : Bool) → (at == place) ≡ b → ((o ≡ op) × (l ≡ left) × (r ≡ right) × (i ≡ id)) ⊎ (cache_answer shift slots o l r ≡ Some i)
    by true e =
        let s : Slot = record { op = op; left = left; right = right; id = id } in
        let there : slice_get (set slots place s) at ≡ Some s = ap (slice_get (set slots place s)) (eqb-true _ _ e) ∙ get_set_same slots place s within in
        let tells = slot_tells s o l r i (ap (λ z. slot_answer z o l r) (sym there) ∙ h) in
        inl (sym tells.0, sym tells.1, sym tells.2, sym tells.3)
    by false e = inr (ap (λ z. slot_answer z o l r) (sym (get_set_other slots place at _ (eqb-false _ _ e))) ∙ h)

-- a cache of empty places answers nothing
abbrev empty : Slot
empty = record { op = 0; left = 0; right = 0; id = NOTHING }

no_slot : (n k o l r i : ℕ) → slot_answer (slice_get (replicate n empty) k) o l r ≡ Some i → ⊥
no_slot zero k o l r i h = let e : None ≡ Some i = h in cc
no_slot (suc n) zero o l r i h = let t = slot_tells empty o l r i h in let no : false ≡ true = t.4 in cc
no_slot (suc n) (suc k) o l r i h = no_slot n k o l r i h

pub nothing_in : (shift n o l r i : ℕ) → cache_answer shift (replicate n empty) o l r ≡ Some i → ⊥
nothing_in shift n o l r i h = no_slot n (spread o l r / 2 ^ shift) o l r i h

-- what another cache answers, put into one
pub copied : (old mid new : ℕ → ℕ → ℕ → Option ℕ) (op left right id : ℕ) → Forgets old mid → old op left right ≡ Some id → Keeps mid new op left right id → Forgets old new
copied old mid new op left right id f e k o l r i h = by (k o l r i h)
  where
    by : ((o ≡ op) × (l ≡ left) × (r ≡ right) × (i ≡ id)) ⊎ (mid o l r ≡ Some i) → old o l r ≡ Some i
    by (inl p) = (λ j. old (p.0 j) (p.1 j) (p.2 j)) ∙ e ∙ ap Some (sym p.3)
    by (inr a) = f o l r i a

-- a join that is kept after others were forgotten
pub kept_after : (old mid new : ℕ → ℕ → ℕ → Option ℕ) (op left right id : ℕ) → Forgets old mid → Keeps mid new op left right id → Keeps old new op left right id
kept_after old mid new op left right id f k o l r i h = by (k o l r i h)
  where
    by : ((o ≡ op) × (l ≡ left) × (r ≡ right) × (i ≡ id)) ⊎ (mid o l r ≡ Some i) → ((o ≡ op) × (l ≡ left) × (r ≡ right) × (i ≡ id)) ⊎ (old o l r ≡ Some i)
    by (inl p) = inl p
    by (inr a) = inr (f o l r i a)
