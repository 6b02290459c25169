-- Counts of cells and rows, one node of a formula or of a tree after the other.
use Rattle.std.proofs.Common.{◌≡◌, ◌<◌, ◌+◌, ◌≤◌, cond, take, get_or, append-nil, Bor, ◌^◌, ℕ, suc, Bool, true, false, not, Option, Some, None, IfSome, IfNone, List, [], ◌∷◌, ◌++◌, length, map, filter, sum_by, refl, sym, ap, ap₂, ◌∙◌, subst, arith}
use Rattle.std.proofs.lemmas.List.{length-append, length-map, map-append, get_or-map}
use Rattle.std.proofs.lemmas.List.Sums.{sum_by-append}
use Rattle.mm_logic.specs.Formula.{Formula, Connective}
use Rattle.mm_logic.specs.Formula.Formula.{Bin}
use Rattle.mm_logic.specs.Value.{Value, first, second}
use Rattle.mm_logic.specs.Occurrence.{distinct, is_among, nodes, occurring, own_cells, list_cells, cells}
use Rattle.mm_logic.proofs.OccurrenceLemmas.{nodes-occurring, distinct-append, same_flip}
use Rattle.mm_reference.specs.Sizes.{IsCount, query_of}
use Rattle.mm_reference_meaning.specs.Formulas.{formula_of}
use Rattle.mm_reference_meaning.specs.declared.meaning.Formula as code_formula
use Rattle.mm_reference.specs.declared.sizes.Question.{Question}
use Rattle.mm_reference.specs.declared.sizes.Question.TheVariants.{Decide, Least}
use Rattle.mm_logic.specs.StateSize.{asked}
use Rattle.mm_reference.specs.Values.{value_of, seen_of}
use Rattle.mm_reference.specs.declared.values as code
use Rattle.mm_reference_meaning.proofs.AssignmentLemmas.{take_next}

pub count_more : (n : ℕ) (r : Option ℕ) → IsCount (1 + n) r → IsCount (suc n) r
count_more n r h = subst (λ k. IsCount k r) (let e : 1 + n ≡ suc n = omega arith in e) h

pub count_is : (n : ℕ) (r : Option ℕ) → IsCount n r → IfSome r (λ k. k ≡ n)
count_is n (Some k) h = h
count_is n None h = tt

pub count_is_less : (n : ℕ) (r : Option ℕ) (P : Type 0) → IsCount n r → IfNone r (P → n < 2 ^ 64 → ⊥)
count_is_less n (Some k) P h = tt
count_is_less n None P h = λ p l. let over : 2 ^ 64 ≤ n = h in absurd (omega arith)

-- ---- different values

-- the different values with one more value
pub distinct_next : (vs : List Value) (v : Value) → distinct (vs ++ (v ∷ [])) ≡ distinct vs ++ filter (λ w. not (is_among vs w)) (v ∷ [])
distinct_next vs v = distinct-append same_flip vs (v ∷ [])

-- one value, unless it is among those before
abbrev pub unless : Value → Bool → List Value
unless v true = []
unless v false = v ∷ []

unless_is : (v : Value) (b : Bool) → cond (not b) (v ∷ []) [] ≡ unless v b
unless_is v true = refl
unless_is v false = refl

pub distinct_same : (vs : List Value) (v : Value) → is_among vs v ≡ true → distinct (vs ++ (v ∷ [])) ≡ distinct vs
distinct_same vs v e =
    distinct_next vs v ∙ ap (λ xs. distinct vs ++ xs) (unless_is v (is_among vs v) ∙ ap (unless v) e) ∙ append-nil (distinct vs)

pub distinct_new : (vs : List Value) (v : Value) → is_among vs v ≡ false → distinct (vs ++ (v ∷ [])) ≡ distinct vs ++ (v ∷ [])
distinct_new vs v e = distinct_next vs v ∙ ap (λ xs. distinct vs ++ xs) (unless_is v (is_among vs v) ∙ ap (unless v) e)

sum_next : (f : Value → ℕ) (vs : List Value) (v : Value) → sum_by f (vs ++ (v ∷ [])) ≡ sum_by f vs + f v
sum_next f vs v = sum_by-append f vs (v ∷ []) ∙ omega arith

pub counted_same : (f : Value → ℕ) (vs : List Value) (v : Value) (r : Option ℕ) → is_among vs v ≡ true → IsCount (sum_by f (distinct vs)) r →
    IsCount (sum_by f (distinct (vs ++ (v ∷ [])))) r
counted_same f vs v r e h = subst (λ xs. IsCount (sum_by f xs) r) (sym (distinct_same vs v e)) h

pub counted_new : (f : Value → ℕ) (vs : List Value) (v : Value) (r : Option ℕ) → is_among vs v ≡ false → IsCount (sum_by f (distinct vs) + f v) r →
    IsCount (sum_by f (distinct (vs ++ (v ∷ [])))) r
counted_new f vs v r e h = subst (λ n. IsCount n r) (sym (ap (sum_by f) (distinct_new vs v e) ∙ sum_next f (distinct vs) v)) h

pub as_many_same : (vs : List Value) (v : Value) (r : Option ℕ) → is_among vs v ≡ true → IsCount (length (distinct vs)) r →
    IsCount (length (distinct (vs ++ (v ∷ [])))) r
as_many_same vs v r e h = subst (λ xs. IsCount (length xs) r) (sym (distinct_same vs v e)) h

pub one_more_new : (vs : List Value) (v : Value) (r : Option ℕ) → is_among vs v ≡ false → IsCount (length (distinct vs) + 1) r →
    IsCount (length (distinct (vs ++ (v ∷ [])))) r
one_more_new vs v r e h = subst (λ n. IsCount n r) (sym (ap length (distinct_new vs v e) ∙ length-append (distinct vs) (v ∷ []))) h

-- the values seen up to a place, and the one there
pub seen_next : (i : ℕ) (values : List (Bor code.Value.Value)) (value : Bor code.Value.Value) → i < length values → value ≡ get_or values i value →
    seen_of (take (i + 1) values) ≡ seen_of (take i values) ++ (value_of value.now ∷ [])
seen_next i values value l e =
    ap seen_of (take_next i values value l) ∙ map-append (λ v. value_of v.now) (take i values) (get_or values i value ∷ [])
    ∙ ap (λ v. seen_of (take i values) ++ (value_of v.now ∷ [])) (sym e)

pub seen_at : (i : ℕ) (values : List (Bor code.Value.Value)) (value : Bor code.Value.Value) (d : Value) → i < length values → value ≡ get_or values i value →
    get_or (seen_of values) i d ≡ value_of value.now
seen_at i values value d l e = get_or-map (λ v. value_of v.now) values i value d l ∙ ap (λ v. value_of v.now) (sym e)

-- ---- cells, node by node

cells_after : (Fs Gs : List Formula) (vss wss : List (List Value)) → length Fs ≡ length vss →
    list_cells (Fs ++ Gs) (vss ++ wss) ≡ list_cells Fs vss + list_cells Gs wss
cells_after [] Gs [] wss e = omega arith
cells_after [] Gs (vs ∷ vss) wss e = absurd (omega arith)
cells_after (F ∷ Fs) Gs [] wss e = absurd (omega arith)
cells_after (F ∷ Fs) Gs (vs ∷ vss) wss e =
    ap (λ n. sum_by (own_cells F) vs + n) (cells_after Fs Gs vss wss (omega arith))
    ∙ sum_assoc (sum_by (own_cells F) vs) (list_cells Fs vss) (list_cells Gs wss)
  where
    sum_assoc : (a b c : ℕ) → a + (b + c) ≡ (a + b) + c
    sum_assoc a b c = omega arith

-- an atom keeps values at its own node alone
abbrev pub IsAtom : Formula → Type 0
IsAtom F = (nodes F ≡ F ∷ []) × ((vs : List Value) → occurring F vs ≡ vs ∷ [])

pub cells_atom : (F : Formula) (vs : List Value) → IsAtom F → sum_by (own_cells F) (distinct vs) ≡ cells F vs
cells_atom F vs h =
    alone (sum_by (own_cells F) (distinct vs)) ∙ sym (ap₂ (λ Fs vss. list_cells Fs (map distinct vss)) h.0 (h.1 vs))
  where
    alone : (n : ℕ) → n ≡ n + 0
    alone n = omega arith

pub cells_bin : (o : Connective) (F G : Formula) (vs : List Value) →
    sum_by (own_cells (Bin o F G)) (distinct vs) + (cells F (map first vs) + cells G (map second vs)) ≡ cells (Bin o F G) vs
cells_bin o F G vs =
    ap (λ n. sum_by (own_cells (Bin o F G)) (distinct vs) + n)
    (sym (ap (list_cells (nodes F ++ nodes G)) (map-append distinct (occurring F (map first vs)) (occurring G (map second vs)))
    ∙ cells_after (nodes F) (nodes G) (map distinct (occurring F (map first vs))) (map distinct (occurring G (map second vs)))
    (nodes-occurring F (map first vs) ∙ sym (length-map (occurring F (map first vs)) distinct))))

-- ---- rows, node by node

pub sum_join : {X : Type 0} (g : X → ℕ) (x : X) (ls rs : List X) → g x + (sum_by g ls + sum_by g rs) ≡ sum_by g (x ∷ (ls ++ rs))
sum_join g x ls rs = ap (λ n. g x + n) (sym (sum_by-append g ls rs)) ∙ sym (sum_by-append g (x ∷ []) (ls ++ rs) ∙ omega arith)

-- the formula that is asked
pub asked_is : (question : Question) (F : code_formula.Formula) → formula_of F ≡ asked (query_of question F)
asked_is Decide F = refl
asked_is Least F = refl
