-- Sets and elements of a join are those of its children, in exactly one way.
use Rattle.std.proofs.Common.{◌≡◌, ◌<◌, ◌≤◌, ◌+◌, ◌-◌, if◌then◌else◌, ltb-true, ℕ, suc, zero, Bool, true, false, List, [], ◌∷◌, ◌++◌, length, take, drop, refl, sym, ap, ◌∙◌, arith}
use Rattle.std.proofs.lemmas.List.{length-take-le, length-drop, take-append-drop}
use Rattle.std.proofs.lemmas.Bool.{ltb-false}
use Rattle.std.proofs.Math.Nat.{zero-add}
use Rattle.std.specs.Prelude.{nat_lt}
use Rattle.mm_logic.specs.Marks.{none, only}
use Rattle.mm_logic.specs.Tree.{size}
use Rattle.mm_logic_laws.specs.SplitLaws.ChildElement.{OfLeft, OfRight}
use Rattle.mm_logic_laws.specs.SplitLaws.{SetsSplitOnce, ChildElement, IsElement, ElementsSplitOnce, SinglesSplitOnce}

same_front : (P Q P' Q' : List Bool) → length P ≡ length P' → P ++ Q ≡ P' ++ Q' → (P ≡ P') × (Q ≡ Q')
same_front [] Q [] Q' l e = (refl, e)
same_front [] Q (y ∷ P') Q' l e = absurd (omega arith)
same_front (x ∷ P) Q [] Q' l e = absurd (omega arith)
same_front (x ∷ P) Q (y ∷ P') Q' l e =
    let h : x ≡ y = cc in
    let t : P ++ Q ≡ P' ++ Q' = cc in
    let r : (P ≡ P') × (Q ≡ Q') = same_front P Q P' Q' (omega (arith, l)) t in
    (λ i. h i ∷ r.0 i, r.1)

pub sets-split_once : SetsSplitOnce
sets-split_once op l r X e =
    let n = size l in (
      take n X,
      drop n X,
      record { left = length-take-le n X (omega (arith, e)); right = length-drop n X ∙ omega (arith, e); whole = take-append-drop n X },
      λ P' Q' s.
          same_front P' Q' (take n X) (drop n X) (s.left ∙ sym (length-take-le n X (omega (arith, e)))) (s.whole ∙ sym (take-append-drop n X)),
    )

none_in_parts : (n m : ℕ) → none (n + m) ≡ none n ++ none m
none_in_parts zero m = ap none (omega arith)
none_in_parts (suc n) m = ap none (let e : suc n + m ≡ suc (n + m) = omega arith in e) ∙ ap (λ X. false ∷ X) (none_in_parts n m)

only_left : (n m i : ℕ) → i < n → only (n + m) i ≡ only n i ++ none m
only_left zero m i l = absurd (omega arith)
only_left (suc n) m zero l = ap (λ k. only k zero) (let e : suc n + m ≡ suc (n + m) = omega arith in e) ∙ ap (λ X. true ∷ X) (none_in_parts n m)
only_left (suc n) m (suc i) l =
    ap (λ k. only k (suc i)) (let e : suc n + m ≡ suc (n + m) = omega arith in e) ∙ ap (λ X. false ∷ X) (only_left n m i (omega (arith, l)))

only_right : (n m i : ℕ) → only (n + m) (n + i) ≡ none n ++ only m i
only_right zero m i = (λ j. only (zero-add m j) (zero-add i j))
only_right (suc n) m i =
    (λ j. only (suc_front n m j) (suc_front n i j)) ∙ ap (λ X. false ∷ X) (only_right n m i)
  where
    suc_front : (a b : ℕ) → suc a + b ≡ suc (a + b)
    suc_front a b = omega arith

pub singles-split_once : SinglesSplitOnce
singles-split_once op l r i = ((λ h. only_left (size l) (size r) i h), (λ h. only_right (size l) (size r) i))

pub elements-split_once : ElementsSplitOnce
elements-split_once op l r k h = go (nat_lt k (size l)) refl
  where
    go : (b : Bool) → nat_lt k (size l) ≡ b →
        IsElement l r k (if b then OfLeft k else OfRight (k - size l))
        × ((other : ChildElement) → IsElement l r k other → other ≡ (if b then OfLeft k else OfRight (k - size l)))
    go true e = ((ltb-true k (size l) e, refl), only_place (ltb-true k (size l) e))
      where
        only_place : k < size l → (other : ChildElement) → IsElement l r k other → other ≡ OfLeft k
        only_place below (OfLeft i) p = ap OfLeft (sym p.1)
        only_place below (OfRight i) p = absurd (omega (arith, p.0, p.1))
    go false e = ((omega (arith, ltb-false k (size l) e), omega (arith, ltb-false k (size l) e)), only_place (ltb-false k (size l) e))
      where
        only_place : size l ≤ k → (other : ChildElement) → IsElement l r k other → other ≡ OfRight (k - size l)
        only_place above (OfLeft i) p = absurd (omega (arith, p.0, p.1))
        only_place above (OfRight i) p = ap OfRight (omega (arith, p.1))
