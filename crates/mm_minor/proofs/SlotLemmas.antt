-- The slots of the variables of the minor formula: the contracted set has slot 0, and element i has slot i + 1.
use Rattle.std.proofs.Common.{◌≡◌, ℕ, zero, suc, ◌+◌, ◌<◌, Bool, true, false, List, [], ◌∷◌, map, length, refl, ap, ◌∙◌, arith}
use Rattle.std.specs.Prelude.{if◌then◌else◌}
use Rattle.std.specs.List.{range_with_len}
use Rattle.std.specs.Str.{bytes_eq}
use Rattle.std.proofs.lemmas.Bool.{or_parts, or_left, or_right}
use Rattle.mm_formula.specs.Repeats.{has}
use Rattle.mm_formula.specs.Scope.{slot_in}
use Rattle.mm_minor.specs.MinorFormula.{contracted, element, elements}
use Rattle.mm_minor.proofs.NameLemmas.{element_same, element_not_after, contracted_not_element}

-- the binders below some more
abbrev pub under : List (List ℕ) → List (List ℕ) → List (List ℕ)
under [] binders = binders
under (v ∷ vs) binders = under vs (v ∷ binders)

-- the binders around the conditions of the minor formula
abbrev pub all_binders : ℕ → List (List ℕ)
all_binders k = under (elements k) (contracted ∷ [])

slot_kept : (vs binders : List (List ℕ)) (v : List ℕ) → has v vs ≡ false → slot_in (under vs binders) v ≡ slot_in binders v
slot_kept [] binders v h = refl
slot_kept (w ∷ vs) binders v h =
    let p = or_parts (bytes_eq v w) (has v vs) h in
    slot_kept vs (w ∷ binders) v p.1 ∙ ap (λ (b : Bool). if b then length binders else slot_in binders v) p.0

slot_at : (m a i : ℕ) (binders : List (List ℕ)) → i < m
    → slot_in (under (map element (range_with_len a m)) binders) (element (a + i)) ≡ length binders + i
slot_at zero a i binders l = absurd (omega arith)
slot_at (suc m) a zero binders l =
    let all = under (map element (range_with_len (a + 1) m)) (element a ∷ binders) in
    let e : a + zero ≡ a = omega arith in
    let n : length binders ≡ length binders + zero = omega arith in
    ap (λ (j : ℕ). slot_in all (element j)) e
    ∙ slot_kept (map element (range_with_len (a + 1) m)) (element a ∷ binders) (element a) (element_not_after m (a + 1) a (omega arith))
    ∙ ap (λ (b : Bool). if b then length binders else slot_in binders (element a)) (element_same a) ∙ n
slot_at (suc m) a (suc i) binders l =
    let all = under (map element (range_with_len (a + 1) m)) (element a ∷ binders) in
    let e : a + suc i ≡ (a + 1) + i = omega arith in
    let n : length (element a ∷ binders) + i ≡ length binders + suc i = omega arith in
    ap (λ (j : ℕ). slot_in all (element j)) e ∙ slot_at m (a + 1) i (element a ∷ binders) (omega (arith, l)) ∙ n

pub contracted_slot : (k : ℕ) → slot_in (all_binders k) contracted ≡ 0
contracted_slot k = slot_kept (elements k) (contracted ∷ []) contracted (contracted_not_element k 0)

pub element_slot : (k i : ℕ) → i < k → slot_in (all_binders k) (element i) ≡ suc i
element_slot k i l =
    let e : i ≡ 0 + i = omega arith in
    let n : length (contracted ∷ []) + i ≡ suc i = omega arith in
    ap (λ (j : ℕ). slot_in (all_binders k) (element j)) e ∙ slot_at k 0 i (contracted ∷ []) l ∙ n

-- ---- each variable has a binder

bound_above : (vs binders : List (List ℕ)) (v : List ℕ) → has v binders ≡ true → has v (under vs binders) ≡ true
bound_above [] binders v h = h
bound_above (w ∷ vs) binders v h = bound_above vs (w ∷ binders) v (or_right (bytes_eq v w) (has v binders) h)

bound_at : (m a i : ℕ) (binders : List (List ℕ)) → i < m → has (element (a + i)) (under (map element (range_with_len a m)) binders) ≡ true
bound_at zero a i binders l = absurd (omega arith)
bound_at (suc m) a zero binders l =
    let all = under (map element (range_with_len (a + 1) m)) (element a ∷ binders) in
    let e : a + zero ≡ a = omega arith in
    ap (λ (j : ℕ). has (element j) all) e
    ∙ bound_above (map element (range_with_len (a + 1) m)) (element a ∷ binders) (element a) (or_left (bytes_eq (element a) (element a)) (has (element a) binders) (element_same a))
bound_at (suc m) a (suc i) binders l =
    let all = under (map element (range_with_len (a + 1) m)) (element a ∷ binders) in
    let e : a + suc i ≡ (a + 1) + i = omega arith in
    ap (λ (j : ℕ). has (element j) all) e ∙ bound_at m (a + 1) i (element a ∷ binders) (omega (arith, l))

pub contracted_bound : (k : ℕ) → has contracted (all_binders k) ≡ true
contracted_bound k = bound_above (elements k) (contracted ∷ []) contracted refl

pub element_bound : (k i : ℕ) → i < k → has (element i) (all_binders k) ≡ true
element_bound k i l =
    let e : i ≡ 0 + i = omega arith in
    ap (λ (j : ℕ). has (element j) (all_binders k)) e ∙ bound_at k 0 i (contracted ∷ []) l
