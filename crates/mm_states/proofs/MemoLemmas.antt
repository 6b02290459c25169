-- Grids and a cache side by side: what is answered after one of them changed.
use Rattle.std.proofs.Common.{◌≡◌, ◌<◌, ◌≤◌, ◌==◌, ◌&&◌, ◌++◌, ◌+◌, ◌*◌, ℕ, suc, zero, Bool, true, false, List, [], ◌∷◌, length, set, get_or, Option, Some, None, slice_get, refl, sym, ap, ◌∙◌, subst, arith, if◌then◌else◌, inl, inr}
use Rattle.std.specs.Prelude.{◌⊎◌, nat_lt}
use Rattle.std.proofs.lemmas.Option.{slice_get-get_or}
use Rattle.std.proofs.lemmas.Bool.{and_parts, ltb-true, lt-ltb, eqb-true, eqb-false}
use Rattle.mm_states.specs.declared.grid.TheConstants.{NOTHING}
use Rattle.mm_states.specs.declared.grid.Grid.{Grid}
use Rattle.mm_states.specs.declared.cache.Slot.{Slot}
use Rattle.mm_states.specs.Cells.{number_in, covers, grid_answer, cache_answer, ForgetsIn, KeepsIn, Forgets, Keeps}
use Rattle.mm_states.specs.Memos.{has_cell, covered, cell_answer, answer_of}
use Rattle.mm_states.proofs.CacheLemmas.{get_set_same, get_set_other}

-- the answer of one grid with a cache after it
abbrev answer_beside : Option Grid → Option ℕ → ℕ → ℕ → Option ℕ
answer_beside g cached left right = if has_cell g left right then cell_answer g left right else cached

covers_wider : (w n l r : ℕ) → w ≤ n → covers w l r ≡ true → covers n l r ≡ true
covers_wider w n l r h c =
    let p = and_parts (nat_lt l w) (nat_lt r w) c in
    (λ i. lt-ltb l n (omega (arith, ltb-true l w p.0, h)) i && lt-ltb r n (omega (arith, ltb-true r w p.1, h)) i)

-- a grid answers a join that it has a cell for
answered : (g : Grid) (l r i : ℕ) → grid_answer g.width g.cells.items l r ≡ Some i → covers g.width l r ≡ true
answered g l r i h = by (covers g.width l r) refl
  where
    by : (b : Bool) → covers g.width l r ≡ b → covers g.width l r ≡ true
    by true e = e
    by false e = let no : None ≡ Some i = sym (ap (λ b. if b then answer else None) e) ∙ h in cc
      where
        answer : Option ℕ
        answer = number_in (get_or g.cells.items (l * g.width + r) NOTHING)

from_grid : (g : Grid) (cached : Option ℕ) (l r i : ℕ) → grid_answer g.width g.cells.items l r ≡ Some i → answer_beside (Some g) cached l r ≡ Some i
from_grid g cached l r i h = ap (λ b. if b then grid_answer g.width g.cells.items l r else cached) (answered g l r i h) ∙ h

from_cache : (g : Option Grid) (cached : Option ℕ) (l r i : ℕ) → has_cell g l r ≡ false → cached ≡ Some i → answer_beside g cached l r ≡ Some i
from_cache g cached l r i e h = ap (λ b. if b then cell_answer g l r else cached) e ∙ h

-- a wider grid in place of one
beside_wider : (g n : Grid) (cached : Option ℕ) (l r i : ℕ) → g.width ≤ n.width → ForgetsIn (grid_answer g.width g.cells.items) (grid_answer n.width n.cells.items)
    → answer_beside (Some n) cached l r ≡ Some i → answer_beside (Some g) cached l r ≡ Some i
beside_wider g n cached l r i w f h = by (covers n.width l r) refl h
  where
    by : (b : Bool) → covers n.width l r ≡ b → (if b then grid_answer n.width n.cells.items l r else cached) ≡ Some i → answer_beside (Some g) cached l r ≡ Some i
    by true e a = from_grid g cached l r i (f l r i a)
    by false e a = old (covers g.width l r) refl
      where
        old : (b : Bool) → covers g.width l r ≡ b → answer_beside (Some g) cached l r ≡ Some i
        old true c = let no : false ≡ true = sym e ∙ covers_wider g.width n.width l r w c in cc
        old false c = from_cache (Some g) cached l r i c a

pub widened : (grids : List Grid) (shift : ℕ) (slots : List Slot) (op : ℕ) (g n : Grid) → slice_get grids op ≡ Some g → op < length grids → g.width ≤ n.width
    → ForgetsIn (grid_answer g.width g.cells.items) (grid_answer n.width n.cells.items) → Forgets (answer_of grids shift slots) (answer_of (set grids op n) shift slots)
widened grids shift slots op g n at within w f o l r i h = by (o == op) refl
  where
    cached : Option ℕ
    cached = cache_answer shift slots o l r

    by : (b : Bool) → (o == op) ≡ b → answer_of grids shift slots o l r ≡ Some i
    by true e =
        let same : o ≡ op = eqb-true o op e in
        let new : slice_get (set grids op n) o ≡ Some n = ap (slice_get (set grids op n)) same ∙ get_set_same grids op n within in
        let old : slice_get grids o ≡ Some g = ap (slice_get grids) same ∙ at in
        ap (λ z. answer_beside z cached l r) old ∙ beside_wider g n cached l r i w f (sym (ap (λ z. answer_beside z cached l r) new) ∙ h)
    by false e = ap (λ z. answer_beside z cached l r) (sym (get_set_other grids op o n (eqb-false o op e))) ∙ h

-- a grid without cells at the end
pub pushed : (grids : List Grid) (shift : ℕ) (slots : List Slot) (n : Grid) → n.width ≡ 0 → Forgets (answer_of grids shift slots) (answer_of (grids ++ n ∷ []) shift slots)
pushed grids shift slots n w o l r i h = go grids o (cache_answer shift slots o l r) h
  where
    none : covers n.width l r ≡ false
    none = by (covers n.width l r) refl
      where
        by : (b : Bool) → covers n.width l r ≡ b → covers n.width l r ≡ false
        by true e = absurd (omega (arith, w, ltb-true l n.width (and_parts (nat_lt l n.width) (nat_lt r n.width) e).0))
        by false e = e

    go : (gs : List Grid) (k : ℕ) (cached : Option ℕ) → answer_beside (slice_get (gs ++ n ∷ []) k) cached l r ≡ Some i → answer_beside (slice_get gs k) cached l r ≡ Some i
    go [] zero cached a = sym (ap (λ b. if b then grid_answer n.width n.cells.items l r else cached) none) ∙ a
    go [] (suc k) cached a = a
    go (x ∷ gs) zero cached a = a
    go (x ∷ gs) (suc k) cached a = go gs k cached a

-- a join that is put into a grid
pub grid_kept : (grids : List Grid) (shift : ℕ) (slots : List Slot) (op left right id : ℕ) (g n : Grid) → slice_get grids op ≡ Some g → op < length grids → n.width ≡ g.width
    → KeepsIn (grid_answer g.width g.cells.items) (grid_answer n.width n.cells.items) left right id → Keeps (answer_of grids shift slots) (answer_of (set grids op n) shift slots) op left right id
grid_kept grids shift slots op left right id g n at within w k o l r i h = by (o == op) refl
  where
    cached : Option ℕ
    cached = cache_answer shift slots o l r

    here : (b : Bool) → covers n.width l r ≡ b → o ≡ op → (if b then grid_answer n.width n.cells.items l r else cached) ≡ Some i
        → ((o ≡ op) × (l ≡ left) × (r ≡ right) × (i ≡ id)) ⊎ (answer_beside (Some g) cached l r ≡ Some i)
    here true c same a = of (k l r i a)
      where
        of : ((l ≡ left) × (r ≡ right) × (i ≡ id)) ⊎ (grid_answer g.width g.cells.items l r ≡ Some i)
            → ((o ≡ op) × (l ≡ left) × (r ≡ right) × (i ≡ id)) ⊎ (answer_beside (Some g) cached l r ≡ Some i)
        of (inl p) = inl (same, p.0, p.1, p.2)
        of (inr q) = inr (from_grid g cached l r i q)
    here false c same a = inr (from_cache (Some g) cached l r i (ap (λ z. covers z l r) (sym w) ∙ c) a)

    by : (b : Bool) → (o == op) ≡ b → ((o ≡ op) × (l ≡ left) × (r ≡ right) × (i ≡ id)) ⊎ (answer_of grids shift slots o l r ≡ Some i)
    by true e =
        let same : o ≡ op = eqb-true o op e in
        let new : slice_get (set grids op n) o ≡ Some n = ap (slice_get (set grids op n)) same ∙ get_set_same grids op n within in
        let old : slice_get grids o ≡ Some g = ap (slice_get grids) same ∙ at in
        subst (λ z. ((o ≡ op) × (l ≡ left) × (r ≡ right) × (i ≡ id)) ⊎ (answer_beside z cached l r ≡ Some i)) (sym old)
        (here (covers n.width l r) refl same (sym (ap (λ z. answer_beside z cached l r) new) ∙ h))
    by false e = inr (ap (λ z. answer_beside z cached l r) (sym (get_set_other grids op o n (eqb-false o op e))) ∙ h)

pub grid_there : (grids : List Grid) (shift : ℕ) (slots : List Slot) (op left right id : ℕ) (n : Grid) → op < length grids → grid_answer n.width n.cells.items left right ≡ Some id
    → answer_of (set grids op n) shift slots op left right ≡ Some id
grid_there grids shift slots op left right id n within h =
    ap (λ z. answer_beside z (cache_answer shift slots op left right) left right) (get_set_same grids op n within)
    ∙ from_grid n (cache_answer shift slots op left right) left right id h

-- a join that is kept in the cache
pub cache_kept : (grids : List Grid) (shift later : ℕ) (slots new : List Slot) (op left right id : ℕ) → Keeps (cache_answer shift slots) (cache_answer later new) op left right id
    → Keeps (answer_of grids shift slots) (answer_of grids later new) op left right id
cache_kept grids shift later slots new op left right id k o l r i h = by (covered grids o l r) refl h
  where
    by : (b : Bool) → covered grids o l r ≡ b → (if b then cell_answer (slice_get grids o) l r else cache_answer later new o l r) ≡ Some i
        → ((o ≡ op) × (l ≡ left) × (r ≡ right) × (i ≡ id)) ⊎ (answer_of grids shift slots o l r ≡ Some i)
    by true e a = inr (ap (λ b. if b then cell_answer (slice_get grids o) l r else cache_answer shift slots o l r) e ∙ a)
    by false e a = of (k o l r i a)
      where
        of : ((o ≡ op) × (l ≡ left) × (r ≡ right) × (i ≡ id)) ⊎ (cache_answer shift slots o l r ≡ Some i)
            → ((o ≡ op) × (l ≡ left) × (r ≡ right) × (i ≡ id)) ⊎ (answer_of grids shift slots o l r ≡ Some i)
        of (inl p) = inl p
        of (inr q) = inr (from_cache (slice_get grids o) (cache_answer shift slots o l r) l r i e q)

pub cache_there : (grids : List Grid) (shift : ℕ) (slots : List Slot) (op left right id : ℕ) → covered grids op left right ≡ false → cache_answer shift slots op left right ≡ Some id
    → answer_of grids shift slots op left right ≡ Some id
cache_there grids shift slots op left right id e h = from_cache (slice_get grids op) (cache_answer shift slots op left right) left right id e h

pub forgets_then : (old mid new : ℕ → ℕ → ℕ → Option ℕ) → Forgets old mid → Forgets mid new → Forgets old new
forgets_then old mid new f g o l r i h = f o l r i (g o l r i h)

-- a join with a cell has a grid
pub covered_within : (grids : List Grid) (op left right : ℕ) → covered grids op left right ≡ true → op < length grids
covered_within [] op left right h = let no : false ≡ true = h in cc
covered_within (g ∷ grids) zero left right h = omega arith
covered_within (g ∷ grids) (suc op) left right h = omega (arith, covered_within grids op left right h)

-- the grid at a place
pub grid_at : (grids : List Grid) (op : ℕ) (g : Grid) → op < length grids → g ≡ get_or grids op g → slice_get grids op ≡ Some g
grid_at grids op g h e = slice_get-get_or grids op g h ∙ ap Some (sym e)
