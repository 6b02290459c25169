-- The best of each type: one for each type, in different types.
use Rattle.std.proofs.Common.{◌≡◌, ◌≤◌, Bool, true, false, not, ◌||◌, if◌then◌else◌, int_lt, List, [], ◌∷◌, ◌++◌, filter, length, refl, sym, ap, ◌∙◌, subst, arith, length-append}
use Rattle.std.specs.List.{list_any}
use Rattle.std.specs.Ordering.{is_eq}
use Rattle.std.specs.declared.cmp.Ordering.TheVariants.{Equal}
use Rattle.std.specs.declared.cmp.Ordering.{Ordering}
use Rattle.std.proofs.lemmas.Cmp.{tied_itself}
use Rattle.std.proofs.lemmas.List.{length-map, map-append}
use Rattle.std.proofs.lemmas.List.Folds.{list_any-append}
use Rattle.mm_logic.specs.Value.{Value, value_cmp}
use Rattle.mm_logic.specs.Order.{SameMembers}
use Rattle.mm_logic.specs.Occurrence.{same, is_among, distinct}
use Rattle.mm_logic.proofs.ValueLemmas.{value_total, value_exact}
use Rattle.mm_logic.proofs.SetLemmas.{or_swap, or_twice}
use Rattle.mm_logic.proofs.OccurrenceLemmas.{same_flip}
use Rattle.mm_nodes.proofs.StandsLemmas.{as_many}
use Rattle.mm_least.specs.Candidates.{Candidate, put, put_all, types_of}

-- no value is the same as a later one
abbrev pub Different : List Value → Type 0
Different [] = Unit {0}
Different (v ∷ vs) = (is_among vs v ≡ false) × Different vs

is_equal : (o : Ordering) → is_eq o ≡ true → o ≡ Equal
is_equal Ordering.Less e = cc
is_equal Equal e = refl
is_equal Ordering.Greater e = cc

pub same_is_equal : (v w : Value) → same v w ≡ true → v ≡ w
same_is_equal v w e = value_exact v w (is_equal (value_cmp v w) e)

pub same_itself : (v : Value) → same v v ≡ true
same_itself v = ap is_eq (tied_itself value_total v)

or_false : (a b : Bool) → a ≡ false → b ≡ false → (a || b) ≡ false
or_false a b e f = (λ i. e i || f i)

or_last : (a b : Bool) → (a || (b || false)) ≡ (b || a)
or_last true true = refl
or_last true false = refl
or_last false true = refl
or_last false false = refl

pub different_last : (vs : List Value) (v : Value) → Different vs → is_among vs v ≡ false → Different (vs ++ v ∷ [])
different_last [] v d n = (refl, tt)
different_last (w ∷ vs) v d n = (
  list_any-append (same w) vs (v ∷ []) ∙ or_false (is_among vs w) (same w v || false) d.0 (or_false (same w v) false (same_flip w v ∙ first (same v w) _ n) refl),
  different_last vs v d.1 (second (same v w) _ n),
)
  where
    first : (a b : Bool) → (a || b) ≡ false → a ≡ false
    first false b e = refl
    first true b e = e

    second : (a b : Bool) → (a || b) ≡ false → b ≡ false
    second false b e = e
    second true b e = cc

filter_all : (v : Value) (vs : List Value) → is_among vs v ≡ false → filter (λ w. not (same v w)) vs ≡ vs
filter_all v [] n = refl
filter_all v (w ∷ vs) n = by (same v w) refl (filter_all v vs)
  where
    by : (b : Bool) → same v w ≡ b → (is_among vs v ≡ false → filter (λ w. not (same v w)) vs ≡ vs) → filter (λ w. not (same v w)) (w ∷ vs) ≡ w ∷ vs
    by true e rest = let c : true ≡ false = sym (ap (λ b. b || is_among vs v) e) ∙ n in cc
    by false e rest =
        ap (λ b. if not b then w ∷ filter (λ w. not (same v w)) vs else filter (λ w. not (same v w)) vs) e
        ∙ ap (λ ws. w ∷ ws) (rest (sym (ap (λ b. b || is_among vs v) e) ∙ n))

pub distinct_itself : (vs : List Value) → Different vs → distinct vs ≡ vs
distinct_itself [] d = refl
distinct_itself (v ∷ vs) d = ap (λ ws. v ∷ filter (λ w. not (same v w)) ws) (distinct_itself vs d.1) ∙ ap (λ ws. v ∷ ws) (filter_all v vs d.0)

no_more : (vs : List Value) → vs ++ [] ≡ vs
no_more [] = refl
no_more (v ∷ vs) = ap (λ ws. v ∷ ws) (no_more vs)

module _ {From : Type 0} where
  types-last : (ds : List (Candidate From)) (c : Candidate From) → types_of (ds ++ c ∷ []) ≡ types_of ds ++ c.type ∷ []
  types-last ds c = map-append (λ d. d.type) ds (c ∷ [])

  chosen : Candidate From → Candidate From → List (Candidate From) → Bool → List (Candidate From)
  chosen c d ds less = if less then ds ++ c ∷ [] else d ∷ ds

  branch : (c d : Candidate From) (ds : List (Candidate From)) (b : Bool) → same d.type c.type ≡ b → put c (d ∷ ds) ≡ (if b then (if int_lt c.weight d.weight then ds ++ c ∷ [] else d ∷ ds) else d ∷ put c ds)
  branch c d ds b e = ap (λ x. if x then (if int_lt c.weight d.weight then ds ++ c ∷ [] else d ∷ ds) else d ∷ put c ds) e

  pub put-members : (c : Candidate From) (ds : List (Candidate From)) → SameMembers (types_of (put c ds)) (c.type ∷ types_of ds)
  put-members c [] p = refl
  put-members c (d ∷ ds) p = by (same d.type c.type) (int_lt c.weight d.weight) refl refl (put-members c ds p)
    where
      any : List (Candidate From) → Bool
      any es = list_any p (types_of es)

      by : (b less : Bool) → same d.type c.type ≡ b → int_lt c.weight d.weight ≡ less → any (put c ds) ≡ (p c.type || any ds) → any (put c (d ∷ ds)) ≡ (p c.type || (p d.type || any ds))
      by true true e l rest =
          ap any (branch c d ds true e ∙ ap (λ x. if x then ds ++ c ∷ [] else d ∷ ds) l)
          ∙ ap (list_any p) (types-last ds c) ∙ list_any-append p (types_of ds) (c.type ∷ []) ∙ or_last (any ds) (p c.type) ∙ sym (or_twice (p c.type) (any ds))
          ∙ ap (λ x. p c.type || (p x || any ds)) (sym (same_is_equal d.type c.type e))
      by true false e l rest =
          ap any (branch c d ds true e ∙ ap (λ x. if x then ds ++ c ∷ [] else d ∷ ds) l)
          ∙ sym (or_twice (p d.type) (any ds)) ∙ ap (λ x. p x || (p d.type || any ds)) (same_is_equal d.type c.type e)
      by false less e l rest =
          ap any (branch c d ds false e) ∙ ap (λ x. p d.type || x) rest ∙ or_swap (p d.type) (p c.type) (any ds)

  pub put-different : (c : Candidate From) (ds : List (Candidate From)) → Different (types_of ds) → Different (types_of (put c ds))
  put-different c [] h = (refl, tt)
  put-different c (d ∷ ds) h = by (same d.type c.type) (int_lt c.weight d.weight) refl refl (put-different c ds h.1)
    where
      by : (b less : Bool) → same d.type c.type ≡ b → int_lt c.weight d.weight ≡ less → Different (types_of (put c ds)) → Different (types_of (put c (d ∷ ds)))
      by true true e l rest =
          subst (λ es. Different (types_of es)) (sym (branch c d ds true e ∙ ap (λ x. if x then ds ++ c ∷ [] else d ∷ ds) l))
          (subst Different (sym (types-last ds c))
          (different_last (types_of ds) c.type h.1 (subst (λ v. is_among (types_of ds) v ≡ false) (same_is_equal d.type c.type e) h.0)))
      by true false e l rest = subst (λ es. Different (types_of es)) (sym (branch c d ds true e ∙ ap (λ x. if x then ds ++ c ∷ [] else d ∷ ds) l)) h
      by false less e l rest =
          subst (λ es. Different (types_of es)) (sym (branch c d ds false e))
          (put-members c ds (same d.type) ∙ or_false (same d.type c.type) (is_among (types_of ds) d.type) e h.0, rest)

  pub put_all-members : (cs ds : List (Candidate From)) → SameMembers (types_of (put_all cs ds)) (types_of cs ++ types_of ds)
  put_all-members [] ds p = refl
  put_all-members (c ∷ cs) ds p =
      put_all-members cs (put c ds) p ∙ list_any-append p (types_of cs) (types_of (put c ds))
      ∙ ap (λ x. list_any p (types_of cs) || x) (put-members c ds p) ∙ or_swap (list_any p (types_of cs)) (p c.type) (list_any p (types_of ds))
      ∙ ap (λ x. p c.type || x) (sym (list_any-append p (types_of cs) (types_of ds)))

  pub put_all-different : (cs ds : List (Candidate From)) → Different (types_of ds) → Different (types_of (put_all cs ds))
  put_all-different [] ds h = h
  put_all-different (c ∷ cs) ds h = put_all-different cs (put c ds) (put-different c ds h)

  pub best-members : (cs : List (Candidate From)) → SameMembers (types_of (put_all cs [])) (types_of cs)
  best-members cs p = put_all-members cs [] p ∙ ap (list_any p) (no_more (types_of cs))

  -- as many as there are types
  pub best-count : (cs : List (Candidate From)) → length (put_all cs []) ≡ length (distinct (types_of cs))
  best-count cs =
      sym (length-map (put_all cs []) (λ c. c.type)) ∙ ap length (sym (distinct_itself (types_of (put_all cs [])) (put_all-different cs [] tt)))
      ∙ as_many (types_of (put_all cs [])) (types_of cs) (best-members cs)

  pub put-longer : (c : Candidate From) (ds : List (Candidate From)) → length ds ≤ length (put c ds)
  put-longer c [] = omega arith
  put-longer c (d ∷ ds) = by (same d.type c.type) (int_lt c.weight d.weight) refl refl (put-longer c ds)
    where
      by : (b less : Bool) → same d.type c.type ≡ b → int_lt c.weight d.weight ≡ less → length ds ≤ length (put c ds) → length (d ∷ ds) ≤ length (put c (d ∷ ds))
      by true true e l rest =
          let one = ap length (branch c d ds true e ∙ ap (λ x. if x then ds ++ c ∷ [] else d ∷ ds) l) in
          let two = length-append ds (c ∷ []) in
          omega (arith, one, two)
      by true false e l rest =
          let one = ap length (branch c d ds true e ∙ ap (λ x. if x then ds ++ c ∷ [] else d ∷ ds) l) in
          omega (arith, one)
      by false less e l rest =
          let one = ap length (branch c d ds false e) in
          omega (arith, one, rest)

  pub put_all-longer : (cs ds : List (Candidate From)) → length ds ≤ length (put_all cs ds)
  put_all-longer [] ds = omega arith
  put_all-longer (c ∷ cs) ds = let one = put_all-longer cs (put c ds) in let two = put-longer c ds in omega (arith, one, two)

  pub put_all-append : (cs ds es : List (Candidate From)) → put_all (cs ++ ds) es ≡ put_all ds (put_all cs es)
  put_all-append [] ds es = refl
  put_all-append (c ∷ cs) ds es = put_all-append cs ds (put c es)
