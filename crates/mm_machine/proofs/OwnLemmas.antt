-- The parts of the first part's formula, which stand before those of others.
use Rattle.std.proofs.Common.{◌≡◌, ℕ, suc, zero, List, [], ◌∷◌, ◌++◌, length, take, drop, sym, ap, subst}
use Rattle.mm_field.specs.declared.Field.{Field}
use Rattle.mm_logic.specs.Occurrence.{nodes}
use Rattle.mm_base_auto.specs.Atoms.{IsAtomic}
use Rattle.mm_states.specs.Lists.{AllFit}
use Rattle.mm_machine.specs.Parts.{View, head_formula, own_views, IsNodeOver, IsFormulaOver, Extends}
use Rattle.mm_machine.proofs.PartLemmas.{Extends-head}
use Rattle.mm_machine.proofs.DoneLemmas.{atomic_nodes}

pub Extends-take : (k : ℕ) (vs ws : List View) → Extends vs ws → Extends (take k vs) (take k ws)
Extends-take zero vs ws h = tt
Extends-take (suc k) [] [] h = tt
Extends-take (suc k) (v ∷ vs) (w ∷ ws) h = (h.0, h.1, h.2, Extends-take k vs ws h.3)
Extends-take (suc k) [] (w ∷ ws) h = absurd h
Extends-take (suc k) (v ∷ vs) [] h = absurd h

over_one : (f : Field) (v w : View) → w.formula ≡ v.formula → w.field ≡ v.field → IsNodeOver f v → IsNodeOver f w
over_one f v w e g h = subst (λ F. IsFormulaOver F w.field f) (sym e) (subst (λ x. IsFormulaOver v.formula x f) (sym g) h)

pub over_stays : (f : Field) (vs ws : List View) → Extends vs ws → AllFit (IsNodeOver f) vs → AllFit (IsNodeOver f) ws
over_stays f [] [] e h = tt
over_stays f (v ∷ vs) (w ∷ ws) e h = (over_one f v w e.0 e.1 h.0, over_stays f vs ws e.3 h.1)
over_stays f [] (w ∷ ws) e h = absurd e
over_stays f (v ∷ vs) [] e h = absurd e

pub own_stays : (f : Field) (vs ws : List View) → Extends vs ws → AllFit (IsNodeOver f) (own_views vs) → AllFit (IsNodeOver f) (own_views ws)
own_stays f vs ws e h =
    let k : ℕ = length (nodes (head_formula vs)) in
    subst (λ F. AllFit (IsNodeOver f) (take (length (nodes F)) ws)) (sym (Extends-head vs ws e))
    (over_stays f (take k vs) (take k ws) (Extends-take k vs ws e) h)

-- an atom has one part
pub own_first : (P : View → Type 0) (v : View) (vs : List View) → IsAtomic v.formula → AllFit P (own_views (v ∷ vs)) → P v
own_first P v vs a h = (subst (λ Fs. AllFit P (take (length Fs) (v ∷ vs))) (atomic_nodes v.formula a) h).0

-- a connective has those of its first part, and those of its second part after them
pub first_own : {A K : Type 0} (P : K → Type 0) (xs ys : List A) (vs : List K) → AllFit P (take (length (xs ++ ys)) vs) → AllFit P (take (length xs) vs)
first_own P [] ys vs h = tt
first_own P (x ∷ xs) ys [] h = tt
first_own P (x ∷ xs) ys (v ∷ vs) h = (h.0, first_own P xs ys vs h.1)

pub second_own : {A K : Type 0} (P : K → Type 0) (xs ys : List A) (vs : List K) → AllFit P (take (length (xs ++ ys)) vs) → AllFit P (take (length ys) (drop (length xs) vs))
second_own P [] ys vs h = h
second_own P (x ∷ xs) [] [] h = tt
second_own P (x ∷ xs) (y ∷ ys) [] h = tt
second_own P (x ∷ xs) ys (v ∷ vs) h = second_own P xs ys vs h.1
