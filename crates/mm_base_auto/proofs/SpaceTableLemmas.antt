-- A table of values of `ind` over one field, as a list of values.
use Rattle.std.proofs.Common.{◌≡◌, ◌<◌, ◌+◌, ◌^◌, ◌==◌, ℕ, true, List, [], ◌∷◌, length, get_or, All, slice_get, Some, Result, Ok, Err, refl, sym, ap, ◌∙◌, subst, arith}
use Rattle.std.proofs.lemmas.List.{length-map, get_or-map}
use Rattle.std.proofs.lemmas.Bool.{eqb-true}
use Rattle.std.proofs.lemmas.Option.{get_or_from_slice_get}
use Rattle.mm_field.specs.declared.Field.{Field}
use Rattle.mm_logic.specs.Formula.{Formula}
use Rattle.mm_logic.specs.Value.{Value, Value as value}
use Rattle.mm_logic.specs.Value.Value.{Span}
use Rattle.mm_logic.specs.Occurrence.{same, nodes, list_cells}
use Rattle.mm_logic.specs.PossibleValues.{IsSpaceOf}
use Rattle.mm_space.specs.KeyValue.{KeyValue, packed}
use Rattle.mm_states.specs.declared.letter.AutoFault.{AutoFault}
use Rattle.mm_states.specs.Calls.{Answers, IsRoomy}
use Rattle.mm_states.proofs.FitLemmas.{fits_all, all_fits, AllFit-at}
use Rattle.mm_states.proofs.KeyLemmas.{same_true, same_self, both_ways, put_fits}
use Rattle.mm_combine.specs.Puts.{PutsKey}
use Rattle.mm_base_auto.specs.Atoms.{IsAtomic}
use Rattle.mm_base_auto.specs.Spaces.{ind_value, ind_values, IsSpaceOver, CanJoinSpaces}
use Rattle.mm_base_auto.specs.declared.space.IndValue.{IndValue}
use Rattle.mm_base_auto.specs.declared.space.IndValue.TheVariants.{Dead, Space}
use Rattle.mm_base_auto.specs.contracts.space.IndValuePartialEq.TheImpl.{eq-value as ind_eq}
use Rattle.mm_base_auto.proofs.PackedLemmas.{packed_same}
use Rattle.mm_base_auto.proofs.AtomLemmas.{key_answers, atom_cells}

abbrev span_length : Value → ℕ
span_length (Span t rows) = t
span_length _ = 0

abbrev span_rows : Value → List (List ℕ)
span_rows (Span t rows) = rows
span_rows _ = []

eqb-itself : (n : ℕ) → (n == n) ≡ true
eqb-itself n = grind (arith)

-- equal keys of one field have equal values
spaces_exact : (f : Field) (a b : IndValue) → IsSpaceOver f a → IsSpaceOver f b → (ind_eq).it a b ≡ same (ind_value a) (ind_value b)
spaces_exact f Dead Dead h k = refl
spaces_exact f Dead (Space b) h k = refl
spaces_exact f (Space a) Dead h k = refl
spaces_exact f (Space a) (Space b) h k =
    both_ways ((ind_eq).it (Space a) (Space b)) (same (Span a.t a.rows) (Span b.t b.rows))
    (λ e.
    let z : a ≡ b = packed_same f a b h k (eqb-true (packed a) (packed b) e) in
    ap (λ (c : KeyValue). same (Span a.t a.rows) (Span c.t c.rows)) (sym z) ∙ same_self (Span a.t a.rows))
    (λ e.
    let v = same_true (Span a.t a.rows) (Span b.t b.rows) e in
    let z : a ≡ b = λ i. record { f = (h.0 ∙ sym k.0) i; t = ap span_length v i; rows = ap span_rows v i } in
    ap (λ (c : KeyValue). packed a == packed c) (sym z) ∙ eqb-itself (packed a))

module _ (f : Field) where
  -- what putting a value answers
  pub space_answers : (F : Formula) → IsAtomic F → (v : IndValue) (olds nows : List IndValue) (room : ℕ) (r : Result ℕ AutoFault) → IsSpaceOver f v → All (IsSpaceOver f) olds
      → PutsKey (ind_eq).it (λ k. 1) v olds nows room r → Answers F (ind_value v) (ind_values olds ∷ []) (ind_values nows ∷ []) room r
  space_answers F a v olds nows room r h hs p =
      key_answers (ind_eq).it ind_value (IsSpaceOver f) (spaces_exact f) F a v olds nows room r h (fits_all (IsSpaceOver f) olds hs) p

  pub spaces_stay : (v : IndValue) (olds nows : List IndValue) (room : ℕ) (r : Result ℕ AutoFault) → IsSpaceOver f v → All (IsSpaceOver f) olds
      → PutsKey (ind_eq).it (λ k. 1) v olds nows room r → All (IsSpaceOver f) nows
  spaces_stay v olds nows room (Ok id) h hs p =
      all_fits (IsSpaceOver f) nows (put_fits (ind_eq).it ind_value (IsSpaceOver f) (spaces_exact f) v olds nows h (fits_all (IsSpaceOver f) olds hs) p.values)
  spaces_stay v olds nows room (Err e) h hs p = subst (All (IsSpaceOver f)) (sym p.0) hs

pub space_cells : (F : Formula) → IsAtomic F → (vs : List IndValue) → list_cells (nodes F) (ind_values vs ∷ []) ≡ length vs
space_cells F a vs = atom_cells F a (ind_values vs) ∙ length-map vs ind_value

pub space_room : (F : Formula) → IsAtomic F → (vs : List IndValue) (room : ℕ) → IsRoomy F (ind_values vs ∷ []) room → length vs + room < 2 ^ 32
space_room F a vs room h = omega (arith, h, space_cells F a vs)

-- the type of a number
pub space_type : (vs : List IndValue) (id : ℕ) (v : IndValue) → id < length (ind_values vs) → slice_get vs id ≡ Some v → ind_value v ≡ get_or (ind_values vs) id value.Dead
space_type vs id v h e = ap ind_value (sym (get_or_from_slice_get vs id v v e)) ∙ sym (get_or-map ind_value vs id v value.Dead (subst (λ k. id < k) (length-map vs ind_value) h))

-- a value of the list that is a space of F^t can be joined there
pub can_join : (f g : Field) (t : ℕ) (vs : List IndValue) (id : ℕ) (v : IndValue) → f ≡ g → All (IsSpaceOver f) vs → slice_get vs id ≡ Some v → IsSpaceOf g t (ind_value v) → CanJoinSpaces g t v
can_join f g t vs id Dead e hs at h = tt
can_join f g t vs id (Space key) e hs at h =
    let over : IsSpaceOver f (Space key) = AllFit-at (IsSpaceOver f) vs id (Space key) (fits_all (IsSpaceOver f) vs hs) at in
    (over.0 ∙ e, h.0)
