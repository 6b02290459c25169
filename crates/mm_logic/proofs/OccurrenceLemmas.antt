-- What occurs in a list of types followed by others, and how cells grow.
use Rattle.std.proofs.Common.{◌≡◌, ◌+◌, ◌≤◌, ℕ, suc, Bool, true, false, not, cond, ◌&&◌, ◌||◌, List, [], ◌∷◌, ◌++◌, map, length, filter, flat_map, sum_by, All, refl, sym, ap, ◌∙◌, arith}
use Rattle.std.proofs.lemmas.List.{map-append, length-append}
use Rattle.std.proofs.lemmas.List.Sums.{sum_by-append}
use Rattle.std.proofs.lemmas.List.Elements.{filter-append, filter_agree, All-head, All-tail}
use Rattle.std.proofs.lemmas.Grind.{flat_map-append}
use Rattle.std.proofs.lemmas.Cmp.{eq_by_cmp_equiv}
use Rattle.std.proofs.Math.Bool.{and_comm}
use Rattle.mm_logic.specs.Formula.{Formula}
use Rattle.mm_logic.specs.Formula.Formula.{Const, Ind, Member, SameElem, Sub, SameSet, Not, Bin, ExSet, AllSet, ExElem, AllElem}
use Rattle.mm_logic.specs.Value.{Value, members, first, second}
use Rattle.mm_logic.specs.Occurrence.{same, is_among, distinct, fresh, elem_parts, own_cells, nodes, list_cells, cells, occurring}
use Rattle.mm_logic.specs.Growth.{missing, missing_cells, beside, no_values}
use Rattle.mm_logic.proofs.ValueLemmas.{value_total}

beside-append : (a b c d : List (List Value)) → length a ≡ length b → beside (a ++ c) (b ++ d) ≡ beside a b ++ beside c d
beside-append [] [] c d e = refl
beside-append [] (y ∷ b) c d e = absurd (omega arith)
beside-append (x ∷ a) [] c d e = absurd (omega arith)
beside-append (x ∷ a) (y ∷ b) c d e = ap (λ z. (x ++ y) ∷ z) (beside-append a b c d (omega (arith, e)))

pub nodes-occurring : (F : Formula) (vs : List Value) → length (nodes F) ≡ length (occurring F vs)
nodes-occurring (Const b) vs = refl
nodes-occurring (Ind t) vs = refl
nodes-occurring (Member x a) vs = refl
nodes-occurring (SameElem x y) vs = refl
nodes-occurring (Sub a b) vs = refl
nodes-occurring (SameSet a b) vs = refl
nodes-occurring (Not F) vs = ap suc (nodes-occurring F vs)
nodes-occurring (Bin o F G) vs = ap suc (length-append (nodes F) (nodes G) ∙ (λ i. nodes-occurring F (map first vs) i + nodes-occurring G (map second vs) i) ∙ sym (length-append (occurring F (map first vs)) (occurring G (map second vs))))
nodes-occurring (ExSet k F) vs = ap suc (nodes-occurring F _)
nodes-occurring (AllSet k F) vs = ap suc (nodes-occurring F _)
nodes-occurring (ExElem k F) vs = ap suc (nodes-occurring F _)
nodes-occurring (AllElem k F) vs = ap suc (nodes-occurring F _)

-- at each node the values of K followed by vs are those of K and those of vs
pub occurrence-splits : (F : Formula) (K vs : List Value) → occurring F (K ++ vs) ≡ beside (occurring F K) (occurring F vs)
occurrence-splits (Const b) K vs = refl
occurrence-splits (Ind t) K vs = refl
occurrence-splits (Member x a) K vs = refl
occurrence-splits (SameElem x y) K vs = refl
occurrence-splits (Sub a b) K vs = refl
occurrence-splits (SameSet a b) K vs = refl
occurrence-splits (Not F) K vs = ap (λ z. [] ∷ z) (occurrence-splits F K vs)
occurrence-splits (Bin o F G) K vs =
    ap (λ z. (K ++ vs) ∷ z)
    ((λ i. occurring F (map-append first K vs i) ++ occurring G (map-append second K vs i))
    ∙ (λ i. occurrence-splits F (map first K) (map first vs) i ++ occurrence-splits G (map second K) (map second vs) i)
    ∙ sym (beside-append (occurring F (map first K)) (occurring F (map first vs)) (occurring G (map second K)) (occurring G (map second vs)) (sym (nodes-occurring F _) ∙ nodes-occurring F _)))
occurrence-splits (ExSet k F) K vs = ap (λ z. (K ++ vs) ∷ z) (ap (occurring F) (flat_map-append members K vs) ∙ occurrence-splits F (flat_map members K) (flat_map members vs))
occurrence-splits (AllSet k F) K vs = ap (λ z. (K ++ vs) ∷ z) (ap (occurring F) (flat_map-append members K vs) ∙ occurrence-splits F (flat_map members K) (flat_map members vs))
occurrence-splits (ExElem k F) K vs = ap (λ z. (K ++ vs) ∷ z) (ap (occurring F) (flat_map-append elem_parts K vs) ∙ occurrence-splits F (flat_map elem_parts K) (flat_map elem_parts vs))
occurrence-splits (AllElem k F) K vs = ap (λ z. (K ++ vs) ∷ z) (ap (occurring F) (flat_map-append elem_parts K vs) ∙ occurrence-splits F (flat_map elem_parts K) (flat_map elem_parts vs))

-- ---- cells

-- where each value passes, each is kept
pub filter_kept : (p : Value → Bool) (vs : List Value) → All (λ v. p v ≡ true) vs → filter p vs ≡ vs
filter_kept p [] h = refl
filter_kept p (v ∷ vs) h =
    ap (λ b. cond b (v ∷ filter p vs) (filter p vs)) (All-head (λ x. p x ≡ true) v vs h)
    ∙ ap (λ z. v ∷ z) (filter_kept p vs (All-tail (λ x. p x ≡ true) v vs h))

pub filter-filter : (p q : Value → Bool) (vs : List Value) → filter p (filter q vs) ≡ filter (λ v. q v && p v) vs
filter-filter p q [] = refl
filter-filter p q (v ∷ vs) = by (q v) (filter-filter p q vs)
  where
    by : (b : Bool) → filter p (filter q vs) ≡ filter (λ w. q w && p w) vs → filter p (cond b (v ∷ filter q vs) (filter q vs)) ≡ cond (b && p v) (v ∷ filter (λ w. q w && p w) vs) (filter (λ w. q w && p w) vs)
    by true ih = λ i. cond (p v) (v ∷ ih i) (ih i)
    by false ih = ih

pub not_or : (a b : Bool) → (not a && not b) ≡ not (a || b)
not_or true b = refl
not_or false b = refl

-- needs that `same` is symmetric
pub distinct-append : ((v w : Value) → same v w ≡ same w v) → (K vs : List Value) → distinct (K ++ vs) ≡ distinct K ++ fresh K vs
distinct-append flip [] vs = sym (filter_kept (λ v. true) (distinct vs) (λ k d l. refl))
distinct-append flip (x ∷ K) vs =
    ap (λ z. x ∷ z)
    (ap (filter (λ w. not (same x w))) (distinct-append flip K vs)
    ∙ filter-append (λ w. not (same x w)) (distinct K) (fresh K vs)
    ∙ ap (λ z. filter (λ w. not (same x w)) (distinct K) ++ z)
    (filter-filter (λ w. not (same x w)) (λ v. not (is_among K v)) (distinct vs)
    ∙ filter_agree _ _ (λ v. and_comm (not (is_among K v)) (not (same x v)) ∙ ap (λ b. not b && not (is_among K v)) (flip x v) ∙ not_or (same v x) (is_among K v)) (distinct vs)))

pub same_flip : (v w : Value) → same v w ≡ same w v
same_flip = (eq_by_cmp_equiv value_total).symm

-- a count of the different values of two lists
count-append : (f : Value → ℕ) (K vs : List Value) → sum_by f (distinct (K ++ vs)) ≡ sum_by f (distinct K) + sum_by f (fresh K vs)
count-append f K vs = ap (sum_by f) (distinct-append same_flip K vs) ∙ sum_by-append f (distinct K) (fresh K vs)

pub swap_middle : (a b c d : ℕ) → (a + b) + (c + d) ≡ (a + c) + (b + d)
swap_middle a b c d = omega arith

list_cells-beside : (Fs : List Formula) (olds news : List (List Value)) → length Fs ≡ length olds → length Fs ≡ length news
    → list_cells Fs (map distinct (beside olds news)) ≡ list_cells Fs (map distinct olds) + list_cells Fs (missing olds news)
list_cells-beside [] [] [] h k = refl
list_cells-beside (F ∷ Fs) (K ∷ olds) (vs ∷ news) h k =
    (λ i. count-append (own_cells F) K vs i + list_cells-beside Fs olds news (omega (arith, h)) (omega (arith, k)) i)
    ∙ swap_middle (sum_by (own_cells F) (distinct K)) (sum_by (own_cells F) (fresh K vs)) (list_cells Fs (map distinct olds)) (list_cells Fs (missing olds news))
list_cells-beside [] (K ∷ olds) news h k = absurd (omega arith)
list_cells-beside [] [] (vs ∷ news) h k = absurd (omega arith)
list_cells-beside (F ∷ Fs) [] news h k = absurd (omega arith)
list_cells-beside (F ∷ Fs) (K ∷ olds) [] h k = absurd (omega arith)

cells-append : (F : Formula) (K vs : List Value) → cells F (K ++ vs) ≡ cells F K + missing_cells F (occurring F K) vs
cells-append F K vs =
    ap (λ z. list_cells (nodes F) (map distinct z)) (occurrence-splits F K vs)
    ∙ list_cells-beside (nodes F) (occurring F K) (occurring F vs) (nodes-occurring F K) (nodes-occurring F vs)

-- so the cells grow by those of the values that were missing
pub cells-grow : (F : Formula) (K vs : List Value)
    → (cells F (K ++ vs) ≡ cells F K + missing_cells F (occurring F K) vs) × (cells F K ≤ cells F (K ++ vs))
cells-grow F K vs = (cells-append F K vs, omega (arith, cells-append F K vs))

-- empty lists have no cells
pub cells-none : (F : Formula) → list_cells (nodes F) (no_values F) ≡ 0
cells-none F = go (nodes F)
  where
    go : (Fs : List Formula) → list_cells Fs (map (λ G. []) Fs) ≡ 0
    go [] = refl
    go (G ∷ Fs) = omega (arith, go Fs)
