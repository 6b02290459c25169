-- Values put into a set one after the other.
use Rattle.std.proofs.Common.{◌≡◌, Bool, true, false, ◌||◌, List, [], ◌∷◌, ◌++◌, refl, sym, ap, ap₂, ◌∙◌}
use Rattle.std.specs.List.{list_any}
use Rattle.std.specs.declared.cmp.Ordering.{Ordering}
use Rattle.std.specs.declared.cmp.Ordering.TheVariants.{Less, Equal, Greater}
use Rattle.std.proofs.lemmas.List.Folds.{list_any-append}
use Rattle.mm_logic.specs.Order.{by_order, insert, normal}
use Rattle.mm_logic.specs.Value.{Value, set_of, collected, value_cmp}
use Rattle.mm_logic.specs.Value.Value.{Empty, With}
use Rattle.mm_logic.proofs.ValueLemmas.{collected-same}

placed : (v w : Value) (ws : List Value) (o : Ordering) → value_cmp v w ≡ o →
    set_of (insert value_cmp v (w ∷ ws)) ≡ set_of (by_order o (v ∷ w ∷ ws) (w ∷ ws) (w ∷ insert value_cmp v ws))
placed v w ws o e = ap (λ x. set_of (by_order x (v ∷ w ∷ ws) (w ∷ ws) (w ∷ insert value_cmp v ws))) e

pub put_first : (v w rest : Value) (ws : List Value) → With w rest ≡ set_of ws → value_cmp v w ≡ Less →
    With v (With w rest) ≡ set_of (insert value_cmp v ws)
put_first v w rest [] e o = let clash : With w rest ≡ Empty = e in cc
put_first v w rest (x ∷ ws) e o =
    let same : w ≡ x = cc in
    ap (With v) e ∙ sym (placed v x ws Less (ap (value_cmp v) (sym same) ∙ o))

pub there_already : (v w rest : Value) (ws : List Value) → With w rest ≡ set_of ws → value_cmp v w ≡ Equal →
    With w rest ≡ set_of (insert value_cmp v ws)
there_already v w rest [] e o = let clash : With w rest ≡ Empty = e in cc
there_already v w rest (x ∷ ws) e o =
    let same : w ≡ x = cc in
    e ∙ sym (placed v x ws Equal (ap (value_cmp v) (sym same) ∙ o))

pub put_later : (v w rest longer : Value) (ws : List Value) → With w rest ≡ set_of ws → value_cmp v w ≡ Greater →
    ((xs : List Value) → rest ≡ set_of xs → longer ≡ set_of (insert value_cmp v xs)) → With w longer ≡ set_of (insert value_cmp v ws)
put_later v w rest longer [] e o h = let clash : With w rest ≡ Empty = e in cc
put_later v w rest longer (x ∷ ws) e o h =
    let same : w ≡ x = cc in
    let others : rest ≡ set_of ws = cc in
    ap₂ With same (h ws others) ∙ sym (placed v x ws Greater (ap (value_cmp v) (sym same) ∙ o))

pub put_alone : (v u : Value) (ws : List Value) → ((w rest : Value) → u ≡ With w rest → ⊥) → u ≡ set_of ws →
    With v u ≡ set_of (insert value_cmp v ws)
put_alone v u [] other e = ap (With v) e
put_alone v u (x ∷ ws) other e = absurd (other x (set_of ws) e)

-- the last of some values put into the set of the others
pub last_put : (vs : List Value) (v : Value) → set_of (insert value_cmp v (normal value_cmp vs)) ≡ collected (vs ++ (v ∷ []))
last_put vs v = collected-same (v ∷ vs) (vs ++ (v ∷ [])) (λ p. moved p (list_any-append p vs (v ∷ [])))
  where
    moved : (p : Value → Bool) → list_any p (vs ++ (v ∷ [])) ≡ (list_any p vs || list_any p (v ∷ [])) → list_any p (v ∷ vs) ≡ list_any p (vs ++ (v ∷ []))
    moved p e = swapped (p v) (list_any p vs) ∙ sym e
      where
        swapped : (a b : Bool) → (a || b) ≡ (b || (a || false))
        swapped true true = refl
        swapped true false = refl
        swapped false true = refl
        swapped false false = refl
