-- A number that is put into a cell of a square, or into a place of a cache.
use Rattle.std.proofs.Common.{◌≡◌, ◌<◌, ◌+◌, ◌*◌, ◌/◌, ◌==◌, ℕ, suc, zero, Bool, true, false, List, length, set, get_or, replicate, Option, Some, None, refl, sym, ap, ◌∙◌, subst, arith, if◌then◌else◌, inl, inr}
use Rattle.std.specs.Prelude.{◌⊎◌, nat_lt}
use Rattle.std.proofs.lemmas.Bool.{and_parts, ltb-true, eqb-true, eqb-false}
use Rattle.std.proofs.lemmas.Nat.{div-mul-add, mul-add-lt}
use Rattle.std.proofs.lemmas.List.{get_or-set_same, get_or-set_other}
use Rattle.mm_states.specs.declared.grid.TheConstants.{NOTHING}
use Rattle.mm_states.specs.Cells.{number_in, covers, grid_answer, ForgetsIn, KeepsIn}

pub number_known : (id i : ℕ) → number_in id ≡ Some i → i ≡ id
number_known id i = by (id == NOTHING)
  where
    by : (b : Bool) → (if b then None else Some id) ≡ Some i → i ≡ id
    by true h = let e : None ≡ Some i = h in cc
    by false h = let e : Some id ≡ Some i = h in cc

-- the place of a join in a square tells the join
pub place_tells : (w l r left right : ℕ) → r < w → right < w → l * w + r ≡ left * w + right → (l ≡ left) × (r ≡ right)
place_tells w l r left right h k e =
    let same : l ≡ left = sym (div-mul-add l w r h) ∙ ap (λ n. n / w) e ∙ div-mul-add left w right k in
    (same, omega (arith, e, ap (λ n. n * w) same))

-- what is answered after a put
pub put_keeps : (w left right id : ℕ) (cells : List ℕ) → left < w → right < w → length cells ≡ w * w
    → KeepsIn (grid_answer w cells) (grid_answer w (set cells (left * w + right) id)) left right id
put_keeps w left right id cells lw rw long l r i h = by (covers w l r) refl h
  where
    at : ℕ → Option ℕ
    at k = number_in (get_or (set cells (left * w + right) id) k NOTHING)

    here : (b : Bool) → (l * w + r == left * w + right) ≡ b → covers w l r ≡ true → at (l * w + r) ≡ Some i
        → ((l ≡ left) × (r ≡ right) × (i ≡ id)) ⊎ (grid_answer w cells l r ≡ Some i)
    here true e c a =
        let p = and_parts (nat_lt l w) (nat_lt r w) c in
        let same : l * w + r ≡ left * w + right = eqb-true _ _ e in
        let tells = place_tells w l r left right (ltb-true r w p.1) rw same in
        let value : get_or (set cells (left * w + right) id) (l * w + r) NOTHING ≡ id =
        ap (λ k. get_or (set cells (left * w + right) id) k NOTHING) same
        ∙ get_or-set_same cells (left * w + right) id NOTHING (subst (λ n. left * w + right < n) (sym long) (mul-add-lt left w right w lw rw)) in
        inl (tells.0, tells.1, number_known id i (ap number_in (sym value) ∙ a))
    here false e c a =
        inr
        (ap (λ b. if b then number_in (get_or cells (l * w + r) NOTHING) else None) c
        ∙ ap number_in (sym (get_or-set_other cells (left * w + right) (l * w + r) id NOTHING (eqb-false _ _ e)))
        ∙ a)

    by : (b : Bool) → covers w l r ≡ b → (if b then at (l * w + r) else None) ≡ Some i
        → ((l ≡ left) × (r ≡ right) × (i ≡ id)) ⊎ (grid_answer w cells l r ≡ Some i)
    by true c a = here (l * w + r == left * w + right) refl c a
    by false c a = let e : None ≡ Some i = a in cc

-- an empty square answers nothing
replicated : (n k : ℕ) → get_or (replicate n NOTHING) k NOTHING ≡ NOTHING
replicated zero k = refl
replicated (suc n) zero = refl
replicated (suc n) (suc k) = replicated n k

pub nothing_in : (w n l r i : ℕ) → grid_answer w (replicate n NOTHING) l r ≡ Some i → ⊥
nothing_in w n l r i h = by (covers w l r) h
  where
    by : (b : Bool) → (if b then number_in (get_or (replicate n NOTHING) (l * w + r) NOTHING) else None) ≡ Some i → ⊥
    by true a = let e : number_in NOTHING ≡ Some i = ap number_in (sym (replicated n (l * w + r))) ∙ a in cc
    by false a = let e : None ≡ Some i = a in cc

-- what another square answers, put into one
pub copied : (old mid new : ℕ → ℕ → Option ℕ) (left right id : ℕ) → ForgetsIn old mid → old left right ≡ Some id → KeepsIn mid new left right id → ForgetsIn old new
copied old mid new left right id f e k l r i h = by (k l r i h)
  where
    by : ((l ≡ left) × (r ≡ right) × (i ≡ id)) ⊎ (mid l r ≡ Some i) → old l r ≡ Some i
    by (inl p) = (λ j. old (p.0 j) (p.1 j)) ∙ e ∙ ap Some (sym p.2)
    by (inr a) = f l r i a
