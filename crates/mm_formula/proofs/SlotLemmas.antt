-- In the formula with slots of a scoped formula, element variables stand where elements are spoken of.
use Rattle.std.proofs.Common.{◌≡◌, ℕ, ◌<◌, Bool, true, false, not, inl, inr, List, [], ◌∷◌, ◌++◌, length, refl, sym, ap, ◌∙◌, subst, arith}
use Rattle.std.specs.Prelude.{if◌then◌else◌, Option, Some, None}
use Rattle.std.specs.List.{list_all}
use Rattle.std.specs.Str.{bytes_eq}
use Rattle.std.proofs.lemmas.Bool.{cases_Bool, and_parts, not-true, or_cases, ne_eqb, eq-eqb}
use Rattle.mm_formula.specs.Variables.{is_set}
use Rattle.mm_formula.specs.Repeats.{has}
use Rattle.mm_formula.specs.Syntax.{Syntax, is_well_sorted}
use Rattle.mm_formula.specs.Syntax.Syntax.{Const, Ind, Member, SameElem, Sub, SameSet, Not, Bin, Ex, All}
use Rattle.mm_formula.specs.Scope.{without, unbound, outermost, slot_in, slotted, IsScoped}
use Rattle.mm_base.proofs.NameLemmas.{same_bytes}
use Rattle.mm_logic.specs.Marks.{mark}
use Rattle.mm_logic.specs.Meaning.{WellSorted}
use Rattle.mm_logic.specs.Formula as slot

-- the kinds of the slots are those of the variables that have them
abbrev pub Agree : (ℕ → Bool) → List (List ℕ) → Type 0
Agree kinds binders = (v : List ℕ) → has v binders ≡ true → kinds (slot_in binders v) ≡ not (is_set v)

pub slot_below : (binders : List (List ℕ)) (v : List ℕ) → has v binders ≡ true → slot_in binders v < length binders
slot_below [] v h = absurd (let e : false ≡ true = h in cc)
slot_below (w ∷ binders) v h = elim (cases_Bool (bytes_eq v w)) [
  | inl t ↦ rw t (omega arith)
  | inr f ↦ let g : has v binders ≡ true = (rw f at h) in
      rw f (omega (arith, slot_below binders v g))
]

pub mark_same : (k : ℕ) (b : Bool) (e : ℕ → Bool) → mark k b e k ≡ b
mark_same k b e = rw (eq-eqb k k refl) refl

pub mark_other : (k j : ℕ) (b : Bool) (e : ℕ → Bool) → j < k → mark k b e j ≡ e j
mark_other k j b e h = rw (ne_eqb j k (λ q. omega (arith, h, q))) refl

pub agree_more : (kinds : ℕ → Bool) (binders : List (List ℕ)) (v : List ℕ) → Agree kinds binders → Agree (mark (length binders) (not (is_set v)) kinds) (v ∷ binders)
agree_more kinds binders v a w h =
    let k : ℕ = length binders in
    let M : ℕ → Bool = mark k (not (is_set v)) kinds in
    elim (cases_Bool (bytes_eq w v)) [
      | inl t ↦ ap (λ (q : Bool). M (if q then k else slot_in binders w)) t ∙ mark_same k (not (is_set v)) kinds ∙ ap (λ (z : List ℕ). not (is_set z)) (sym (same_bytes w v t))
      | inr f ↦ let g : has w binders ≡ true = (rw f at h) in
          ap (λ (q : Bool). M (if q then k else slot_in binders w)) f
          ∙ mark_other k (slot_in binders w) (not (is_set v)) kinds (slot_below binders w g) ∙ a w g
    ]

-- a variable that is not kept as unbound is bound
pub bound_first : (binders : List (List ℕ)) (v : List ℕ) (vs : List (List ℕ)) → without binders (v ∷ vs) ≡ [] → (has v binders ≡ true) × (without binders vs ≡ [])
bound_first binders v vs h = elim (cases_Bool (has v binders)) [
  | inl t ↦ (t, (rw t at h))
  | inr f ↦ absurd (let e : v ∷ without binders vs ≡ [] = (rw f at h) in cc)
]

pub both_empty : (xs ys : List (List ℕ)) → xs ++ ys ≡ [] → (xs ≡ []) × (ys ≡ [])
both_empty [] ys h = (refl, h)
both_empty (x ∷ xs) ys h = absurd (let e : x ∷ (xs ++ ys) ≡ [] = h in cc)

pub element_kind : (kinds : ℕ → Bool) (binders : List (List ℕ)) (v : List ℕ) → Agree kinds binders → has v binders ≡ true → is_set v ≡ false → kinds (slot_in binders v) ≡ true
element_kind kinds binders v a h s = a v h ∙ ap not s

pub slots_sorted : (F : Syntax) (kinds : ℕ → Bool) (binders : List (List ℕ)) → Agree kinds binders → unbound binders F ≡ [] → is_well_sorted F ≡ true
    → WellSorted kinds (slotted binders F)
slots_sorted (Const b) kinds binders a u s = tt
slots_sorted (Ind t) kinds binders a u s = tt
slots_sorted (Member x set) kinds binders a u s =
    let p = and_parts (not (is_set x)) (is_set set) s in
    element_kind kinds binders x a (bound_first binders x (set ∷ []) u).0 (not-true (is_set x) p.0)
slots_sorted (SameElem x y) kinds binders a u s =
    let p = and_parts (not (is_set x)) (not (is_set y)) s in
    let q = bound_first binders x (y ∷ []) u in
    (element_kind kinds binders x a q.0 (not-true (is_set x) p.0), element_kind kinds binders y a (bound_first binders y [] q.1).0 (not-true (is_set y) p.1))
slots_sorted (Sub x y) kinds binders a u s = tt
slots_sorted (SameSet x y) kinds binders a u s = tt
slots_sorted (Not F) kinds binders a u s = slots_sorted F kinds binders a u s
slots_sorted (Bin c F G) kinds binders a u s =
    let p = and_parts (is_well_sorted F) (is_well_sorted G) s in
    let q = both_empty (unbound binders F) (unbound binders G) u in
    (slots_sorted F kinds binders a q.0 p.0, slots_sorted G kinds binders a q.1 p.1)
slots_sorted (Ex v F) kinds binders a u s =
    let body : slot.Formula = slotted (v ∷ binders) F in let k : ℕ = length binders in
    let r : WellSorted (mark k (not (is_set v)) kinds) body = slots_sorted F (mark k (not (is_set v)) kinds) (v ∷ binders) (agree_more kinds binders v a) u s in
    let W : Bool → Type 0 = λ q. WellSorted (mark k (not q) kinds) body in
    let S : Bool → Type 0 = λ q. WellSorted kinds (if q then slot.Formula.ExSet k body else slot.Formula.ExElem k body) in
    elim (cases_Bool (is_set v)) [ inl t ↦ subst S (sym t) (subst W t r) | inr f ↦ subst S (sym f) (subst W f r) ]
slots_sorted (All v F) kinds binders a u s =
    let body : slot.Formula = slotted (v ∷ binders) F in let k : ℕ = length binders in
    let r : WellSorted (mark k (not (is_set v)) kinds) body = slots_sorted F (mark k (not (is_set v)) kinds) (v ∷ binders) (agree_more kinds binders v a) u s in
    let W : Bool → Type 0 = λ q. WellSorted (mark k (not q) kinds) body in
    let S : Bool → Type 0 = λ q. WellSorted kinds (if q then slot.Formula.AllSet k body else slot.Formula.AllElem k body) in
    elim (cases_Bool (is_set v)) [ inl t ↦ subst S (sym t) (subst W t r) | inr f ↦ subst S (sym f) (subst W f r) ]

-- the free variable stands for a set
pub agree_outermost : (free : Option (List ℕ)) → list_all is_set (outermost free) ≡ true → Agree (λ _. false) (outermost free)
agree_outermost None h v b = absurd (let e : false ≡ true = b in cc)
agree_outermost (Some w) h v b =
    elim (or_cases (bytes_eq v w) false b) [
      | inl t ↦ sym (ap (λ (z : List ℕ). not (is_set z)) (same_bytes v w t) ∙ ap not (and_parts (is_set w) true h).0)
      | inr e ↦ absurd (let f : false ≡ true = e in cc)
    ]

pub scoped_sorted : (F : Syntax) (free : Option (List ℕ)) → IsScoped F free → WellSorted (λ _. false) (slotted (outermost free) F)
scoped_sorted F free s = slots_sorted F (λ _. false) (outermost free) (agree_outermost free s.free_is_set) s.bound s.sorted
