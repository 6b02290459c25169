-- Empty lists.
use Rattle.std.proofs.Common.{◌≡◌, ◌≤◌, ℕ, List, [], ◌∷◌, map, length, refl, sym, ap, ◌∙◌, subst, arith}
use Rattle.std.specs.Prelude.{OnOk, OnErr, Result, Ok, Err}
use Rattle.mm_logic.specs.Formula.{Formula}
use Rattle.mm_logic.specs.Formula.Formula.{Const, Ind, Member, SameElem, Sub, SameSet, Not, Bin, ExSet, AllSet, ExElem, AllElem}
use Rattle.mm_logic.specs.Value.{Value}
use Rattle.mm_logic.specs.Occurrence.{nodes as parts, occurring, list_cells}
use Rattle.mm_logic.specs.Growth.{root, no_values, AllGrown}
use Rattle.mm_logic.proofs.GrowthLemmas.{AllGrown-none}
use Rattle.mm_logic.proofs.OccurrenceLemmas.{cells-none}
use Rattle.mm_nodes.specs.Demands.{IsExact}

pub root_none : (F : Formula) → root F (no_values F) ≡ []
root_none (Const b) = refl
root_none (Ind t) = refl
root_none (Member x a) = refl
root_none (SameElem x y) = refl
root_none (Sub a b) = refl
root_none (SameSet a b) = refl
root_none (Not F) = root_none F
root_none (Bin o F G) = refl
root_none (ExSet k F) = refl
root_none (AllSet k F) = refl
root_none (ExElem k F) = refl
root_none (AllElem k F) = refl

abbrev the_none : List Value
the_none = []

none_long : (Fs : List Formula) → length (map (λ (G : Formula). the_none) Fs) ≡ length Fs
none_long [] = refl
none_long (F ∷ Fs) = let e = none_long Fs in omega (arith, e)

-- empty lists are exact
pub exact_empty : (F : Formula) (lists : List (List Value)) → lists ≡ no_values F → IsExact F lists
exact_empty F lists e =
    subst (IsExact F) (sym e)
    (subst (λ vs. AllGrown (no_values F) (no_values F) (occurring F vs)) (sym (root_none F))
    (AllGrown-none F (no_values F) (let many = none_long (parts F) in omega (arith, many))))

pub empty_cells : (F : Formula) (lists : List (List Value)) (limit : ℕ) → lists ≡ no_values F → list_cells (parts F) lists ≤ limit
empty_cells F lists limit e = let none = ap (list_cells (parts F)) e ∙ cells-none F in omega (arith, none)

-- what holds after an Ok, and after a refusal
pub by_result : {E : Type 0} {P Q X Y Z : Type 0} (r : Result (Unit {0}) E) → OnOk r P → (P → Q) → OnErr r X → OnErr r Y → OnErr r Z → (X → Y → Z → Q) → Q
by_result (Ok u) p f x y z g = f p
by_result (Err e) p f x y z g = g x y z

pub on_ok : {E : Type 0} {P Q : Type 0} (r : Result (Unit {0}) E) → OnOk r P → (P → Q) → OnOk r Q
on_ok (Ok u) p f = f p
on_ok (Err e) p f = tt
