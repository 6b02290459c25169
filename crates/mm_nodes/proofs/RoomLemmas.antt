-- Lists that are exact, and when their cells exceed a limit.
use Rattle.std.proofs.Common.{rules, ◌≡◌, ◌<◌, ◌≤◌, ◌+◌, ℕ, Bool, true, false, not, ◌||◌, List, [], ◌∷◌, ◌++◌, map, length, refl, sym, ap, ◌∙◌, arith, All}
use Rattle.std.specs.List.{list_any}
use Rattle.std.proofs.lemmas.List.{length-map}
use Rattle.std.proofs.lemmas.List.Folds.{list_any-append}
use Rattle.mm_logic.specs.Formula.{Formula}
use Rattle.mm_logic.specs.Formula.Formula.{Const, Ind, Member, SameElem, Sub, SameSet, Not, Bin, ExSet, AllSet, ExElem, AllElem}
use Rattle.mm_logic.specs.Value.{Value}
use Rattle.mm_logic.specs.Order.{SameMembers}
use Rattle.mm_logic.specs.Occurrence.{nodes, occurring, distinct, fresh, is_among, list_cells, cells}
use Rattle.mm_logic.specs.Growth.{root, head_list, tail_lists, no_values, missing, missing_cells, Grown, AllGrown}
use Rattle.mm_logic.proofs.OccurrenceLemmas.{nodes-occurring, filter_kept, distinct-append, same_flip, cells-none}
use Rattle.mm_logic.proofs.GrowthLemmas.{members-bag, members-distinct, calls-then, list_cells-grown, occurring-same, AllGrown-same, missing-more, missing-calls, missing-same, AllGrown-none}
use Rattle.mm_nodes.specs.Demands.{IsWithin, IsExact}
use Rattle.mm_nodes.specs.Calls.{Exceeds}

always : (ws : List Value) → All (λ v. not (is_among [] v) ≡ true) ws
always ws = search rules

none_known : (vs : List Value) → fresh [] vs ≡ distinct vs
none_known vs = filter_kept (λ v. not (is_among [] v)) (distinct vs) (always (distinct vs))

missing_none : (Fs : List Formula) (vss : List (List Value)) → length Fs ≡ length vss → missing (map (λ G. []) Fs) vss ≡ map distinct vss
missing_none [] [] e = refl
missing_none (F ∷ Fs) (vs ∷ vss) e = (λ i. none_known vs i ∷ missing_none Fs vss (omega (arith, e)) i)
missing_none [] (vs ∷ vss) e = absurd (omega (arith, e))
missing_none (F ∷ Fs) [] e = absurd (omega (arith, e))

-- what is missing in empty lists is all
pub cells-missing : (F : Formula) (vs : List Value) → missing_cells F (no_values F) vs ≡ cells F vs
cells-missing F vs = ap (list_cells (nodes F)) (missing_none (nodes F) (occurring F vs) (nodes-occurring F vs))

any_append : (p : Value → Bool) (xs ys : List Value) → list_any p (xs ++ ys) ≡ (list_any p xs || list_any p ys)
any_append p xs ys = list_any-append p xs ys

or_of : (a b c : Bool) → (a ≡ true → c ≡ true) → (b ≡ true → c ≡ true) → (a || b) ≡ true → c ≡ true
or_of true b c f g h = f refl
or_of false b c f g h = g h

or_second : (a b : Bool) → (a ≡ true → b ≡ true) → b ≡ (a || b)
or_second true b f = f refl
or_second false b f = refl

or_left : (a b : Bool) → a ≡ true → (a || b) ≡ true
or_left a b e = ap (λ (x : Bool). x || b) e

or_right : (a b : Bool) → b ≡ true → (a || b) ≡ true
or_right true b e = refl
or_right false b e = e

pub within-append : (xs ys zs : List Value) → IsWithin xs zs → IsWithin ys zs → IsWithin (xs ++ ys) zs
within-append xs ys zs f g p h = or_of _ _ _ (f p) (g p) (sym (any_append p xs ys) ∙ h)

pub within-left : (xs ys : List Value) → IsWithin xs (xs ++ ys)
within-left xs ys p h = any_append p xs ys ∙ or_left _ _ h

pub within-right : (xs ys : List Value) → IsWithin ys (xs ++ ys)
within-right xs ys p h = any_append p xs ys ∙ or_right _ _ h

pub within-then : (xs ys zs : List Value) → IsWithin xs ys → IsWithin ys zs → IsWithin xs zs
within-then xs ys zs f g p h = g p (f p h)

pub within-same : (xs ys : List Value) → SameMembers xs ys → IsWithin xs ys
within-same xs ys e p h = sym (e p) ∙ h

pub same-within : (xs ys : List Value) → SameMembers xs ys → IsWithin ys xs
same-within xs ys e p h = e p ∙ h

-- fewer types have no more cells
pub within-cells : (F : Formula) (vs ws : List Value) → IsWithin vs ws → cells F vs ≤ cells F ws
within-cells F vs ws h =
    let all : SameMembers ws (vs ++ ws) = λ p. or_second (list_any p vs) (list_any p ws) (h p) ∙ sym (any_append p vs ws) in
    let one = missing-more F (no_values F) vs ws in
    let two = missing-same F (no_values F) ws (vs ++ ws) all in
    omega (arith, one, two, cells-missing F vs, cells-missing F ws)

head-grows : (olds nows : List (List Value)) (vs : List Value) (more : List (List Value)) → AllGrown olds nows (vs ∷ more) → Grown (head_list olds) (head_list nows) vs
head-grows (old ∷ olds) (now ∷ nows) vs more g = g.0
head-grows [] nows vs more g = absurd g
head-grows (old ∷ olds) [] vs more g = absurd g

tail-grows : (olds nows : List (List Value)) (vs : List Value) (more : List (List Value)) → AllGrown olds nows (vs ∷ more) → AllGrown (tail_lists olds) (tail_lists nows) more
tail-grows (old ∷ olds) (now ∷ nows) vs more g = g.1
tail-grows [] nows vs more g = absurd g
tail-grows (old ∷ olds) [] vs more g = absurd g

-- the list of the root grows by the types that were asked for
pub root-grows : (F : Formula) (olds nows : List (List Value)) (vs : List Value) → AllGrown olds nows (occurring F vs) → Grown (root F olds) (root F nows) vs
root-grows (Const b) olds nows vs g = head-grows olds nows vs [] g
root-grows (Ind t) olds nows vs g = head-grows olds nows vs [] g
root-grows (Member x a) olds nows vs g = head-grows olds nows vs [] g
root-grows (SameElem x y) olds nows vs g = head-grows olds nows vs [] g
root-grows (Sub a b) olds nows vs g = head-grows olds nows vs [] g
root-grows (SameSet a b) olds nows vs g = head-grows olds nows vs [] g
root-grows (Not F) olds nows vs g = root-grows F (tail_lists olds) (tail_lists nows) vs (tail-grows olds nows [] (occurring F vs) g)
root-grows (Bin o F G) olds nows vs g = head-grows olds nows vs _ g
root-grows (ExSet k F) olds nows vs g = head-grows olds nows vs _ g
root-grows (AllSet k F) olds nows vs g = head-grows olds nows vs _ g
root-grows (ExElem k F) olds nows vs g = head-grows olds nows vs _ g
root-grows (AllElem k F) olds nows vs g = head-grows olds nows vs _ g

-- what has grown has the members of the old list and of what it grew by
pub grown-members : (old now vs : List Value) → Grown old now vs → SameMembers now (old ++ vs)
grown-members old now vs g p =
    ap (list_any p) g.longer ∙ any_append p old g.added
    ∙ (λ i. sym (members-distinct old p) i || members-bag g.added (fresh old vs) g.exactly p i)
    ∙ sym (any_append p (distinct old) (fresh old vs)) ∙ ap (list_any p) (sym (distinct-append same_flip old vs)) ∙ members-distinct (old ++ vs) p

-- exact lists stay exact
pub exact-then : (F : Formula) (olds nows : List (List Value)) (vs : List Value) → IsExact F olds → AllGrown olds nows (occurring F vs) → IsExact F nows
exact-then F olds nows vs e g =
    AllGrown-same (no_values F) nows (occurring F (root F olds ++ vs)) (occurring F (root F nows))
    (occurring-same F (root F olds ++ vs) (root F nows) (λ p. sym (grown-members (root F olds) (root F nows) vs (root-grows F olds nows vs g) p)))
    (calls-then F (no_values F) olds nows (root F olds) vs e g)

-- the cells of exact lists, and of what is missing there
pub exact-cells : (F : Formula) (lists : List (List Value)) (vs : List Value) → IsExact F lists → list_cells (nodes F) lists + missing_cells F lists vs ≡ cells F (root F lists ++ vs)
exact-cells F lists vs e =
    let whole = list_cells-grown (nodes F) (no_values F) lists (occurring F (root F lists)) e in
    let none = cells-none F in
    let both = missing-calls F (no_values F) lists (root F lists) vs e in
    let all = cells-missing F (root F lists ++ vs) in
    omega (arith, whole, none, both, all)

pub exceeds_call : (F : Formula) (lists : List (List Value)) (vs : List Value) (rows limit : ℕ) → IsExact F lists → limit < list_cells (nodes F) lists + missing_cells F lists vs + rows → Exceeds F lists vs rows limit
exceeds_call F lists vs rows limit e h all f g =
    let c = exact-cells F lists vs e in
    let w = within-cells F (root F lists ++ vs) all (within-append (root F lists) vs all f g) in
    omega (arith, c, w, h)

-- what exceeds the limit later, exceeded it before
pub exceeds_later : (F : Formula) (olds mids : List (List Value)) (us vs ws : List Value) (few many limit : ℕ) → AllGrown olds mids (occurring F us) → IsWithin us ws → IsWithin vs ws
    → few ≤ many → Exceeds F mids vs few limit → Exceeds F olds ws many limit
exceeds_later F olds mids us vs ws few many limit g f h le e all p q =
    let more = grown-members (root F olds) (root F mids) us (root-grows F olds mids us g) in
    let one = e all (within-then (root F mids) (root F olds ++ us) all (within-same (root F mids) (root F olds ++ us) more) (within-append (root F olds) us all p (within-then us ws all f q)))
    (within-then vs ws all h q) in
    omega (arith, one, le)

pub exceeds_part : (F : Formula) (lists : List (List Value)) (vs ws : List Value) (few many limit : ℕ) → IsWithin vs ws → few ≤ many → Exceeds F lists vs few limit → Exceeds F lists ws many limit
exceeds_part F lists vs ws few many limit h le e all p q =
    let one = e all p (within-then vs ws all h q) in
    omega (arith, one, le)

grown_length : (olds nows vss : List (List Value)) → AllGrown olds nows vss → length nows ≡ length olds
grown_length olds nows [] g = ap length g
grown_length (old ∷ olds) (now ∷ nows) (vs ∷ vss) g = let e = grown_length olds nows vss g.1 in omega (arith, e)
grown_length [] nows (vs ∷ vss) g = absurd g
grown_length (old ∷ olds) [] (vs ∷ vss) g = absurd g

-- nothing is asked of exact lists
pub exact_none : (F : Formula) (lists : List (List Value)) → IsExact F lists → AllGrown lists lists (occurring F [])
exact_none F lists e =
    let long = grown_length (no_values F) lists (occurring F (root F lists)) e in
    let many = length-map (nodes F) (λ (G : Formula). no_value) in
    AllGrown-none F lists (omega (arith, long, many))
  where
    no_value : List Value
    no_value = []
