-- The best of candidates whose sets ascend are the first sets of their types.
use Rattle.std.proofs.Common.{◌≡◌, ◌⊎◌, inl, inr, ◌<ℤ◌, ℕ, zero, suc, ℤ, int_lt, Bool, true, false, ◌||◌, if◌then◌else◌, List, [], ◌∷◌, ◌++◌, map, length, refl, sym, ap, ◌∙◌, subst, arith, All, Contains}
use Rattle.std.proofs.lemmas.List.Elements.{All-nil, All-cons}
use Rattle.mm_logic.specs.Value.{Value}
use Rattle.mm_logic.specs.Occurrence.{same, is_among}
use Rattle.mm_logic.specs.Least.{weight, precedes, IsFirst, AreFirsts}
use Rattle.mm_logic_laws.proofs.LeastLemmas.{AtMost, at_most-then, is_less, not_less}
use Rattle.mm_states.specs.Lists.{AllFit}
use Rattle.mm_least.specs.Candidates.{Candidate, put, put_all, types_of}
use Rattle.mm_least.specs.BestLaws.{Different, same_is_equal, same_itself, put_all-different}
use Rattle.mm_least.specs.RowLaws.{append_fits, or_later, put_all_fits}
use Rattle.mm_least.specs.LeastSets.{IsAscending}

-- ---- some of a list

abbrev pub AnyFit : {K : Type 0} → (K → Type 0) → List K → Type 0
AnyFit P [] = ⊥
AnyFit P (k ∷ ks) = P k ⊎ AnyFit P ks

module _ {K : Type 0} where
  pub any_left : (P : K → Type 0) (ks js : List K) → AnyFit P ks → AnyFit P (ks ++ js)
  any_left P (k ∷ ks) js (inl p) = inl p
  any_left P (k ∷ ks) js (inr h) = inr (any_left P ks js h)
  any_left P [] js h = absurd h

  pub any_right : (P : K → Type 0) (ks js : List K) → AnyFit P js → AnyFit P (ks ++ js)
  any_right P [] js h = h
  any_right P (k ∷ ks) js h = inr (any_right P ks js h)

  pub any_to : (P Q : K → Type 0) (ks : List K) → ((k : K) → P k → Q k) → AnyFit P ks → AnyFit Q ks
  any_to P Q (k ∷ ks) f (inl p) = inl (f k p)
  any_to P Q (k ∷ ks) f (inr h) = inr (any_to P Q ks f h)
  any_to P Q [] f h = absurd h

  -- where each fits R, one that fits P fits both
  pub any_both : (P R : K → Type 0) (ks : List K) → AllFit R ks → AnyFit P ks → AnyFit (λ k. P k × R k) ks
  any_both P R (k ∷ ks) a (inl p) = inl (p, a.0)
  any_both P R (k ∷ ks) a (inr h) = inr (any_both P R ks a.1 h)
  any_both P R [] a h = absurd h

  pub all_to : (P Q : K → Type 0) (ks : List K) → ((k : K) → P k → Q k) → AllFit P ks → AllFit Q ks
  all_to P Q [] f h = tt
  all_to P Q (k ∷ ks) f h = (f k h.0, all_to P Q ks f h.1)

  pub all_of : (P : K → Type 0) (ks : List K) → AllFit P ks → All P ks
  all_of P [] h = All-nil P
  all_of P (k ∷ ks) h = All-cons P k ks h.0 (all_of P ks h.1)

  pub all_there : (ks : List K) → AllFit (λ k. AnyFit (λ j. j ≡ k) ks) ks
  all_there [] = tt
  all_there (k ∷ ks) = (inl refl, all_to (λ i. AnyFit (λ j. j ≡ i) ks) (λ i. AnyFit (λ j. j ≡ i) (k ∷ ks)) ks (λ i h. inr h) (all_there ks))

  pub any_some : (P : K → Type 0) (ks : List K) → AnyFit P ks → (k : K) × P k
  any_some P (k ∷ ks) (inl p) = (k, p)
  any_some P (k ∷ ks) (inr h) = any_some P ks h
  any_some P [] h = absurd h

  pub contains_any : (ks : List K) (k : K) → AnyFit (λ j. j ≡ k) ks → Contains ks k
  contains_any (j ∷ ks) k (inl e) = (0, omega arith, e)
  contains_any (j ∷ ks) k (inr h) = let c = contains_any ks k h in (suc c.0, omega (arith, c.1), c.2)
  contains_any [] k h = absurd h

  pub any_contains : (ks : List K) (k : K) → Contains ks k → AnyFit (λ j. j ≡ k) ks
  any_contains [] k (i, l, e) = absurd (omega (arith, l))
  any_contains (j ∷ ks) k (zero, l, e) = inl e
  any_contains (j ∷ ks) k (suc i, l, e) = inr (any_contains ks k (i, omega (arith, l), e))

module _ {K L : Type 0} (g : K → L) where
  pub all_map : (P : L → Type 0) (ks : List K) → AllFit (λ k. P (g k)) ks → AllFit P (map g ks)
  all_map P [] h = tt
  all_map P (k ∷ ks) h = (h.0, all_map P ks h.1)

  pub all_mapped : (P : L → Type 0) (ks : List K) → AllFit P (map g ks) → AllFit (λ k. P (g k)) ks
  all_mapped P [] h = tt
  all_mapped P (k ∷ ks) h = (h.0, all_mapped P ks h.1)

  pub any_map : (P : L → Type 0) (ks : List K) → AnyFit (λ k. P (g k)) ks → AnyFit P (map g ks)
  any_map P (k ∷ ks) (inl p) = inl p
  any_map P (k ∷ ks) (inr h) = inr (any_map P ks h)
  any_map P [] h = absurd h

  pub any_mapped : (P : L → Type 0) (ks : List K) → AnyFit P (map g ks) → AnyFit (λ k. P (g k)) ks
  any_mapped P (k ∷ ks) (inl p) = inl p
  any_mapped P (k ∷ ks) (inr h) = inr (any_mapped P ks h)
  any_mapped P [] h = absurd h

-- ---- one candidate more

module _ {From : Type 0} (ws : List ℤ) (set : From → List Bool) where
  -- a candidate weighs what its set weighs
  abbrev pub IsWeighed : Candidate From → Type 0
  IsWeighed c = c.weight ≡ weight ws (set c.origin)

  abbrev pub Precedes : Candidate From → Candidate From → Type 0
  Precedes c d = precedes (set c.origin) (set d.origin) ≡ true

  -- d has the type of c, and its set is that of c or before it
  abbrev pub IsAsGood : (c d : Candidate From) → Type 0
  IsAsGood c d = (d.type ≡ c.type) × AtMost ws (set d.origin) (set c.origin)

  abbrev pub sets : List (Candidate From) → List (List Bool)
  sets cs = map (λ c. set c.origin) cs

  lighter : (c d : Candidate From) → IsWeighed c → IsWeighed d → int_lt c.weight d.weight ≡ true → AtMost ws (set c.origin) (set d.origin)
  lighter c d wc wd h = inr (inl (subst (λ w. w <ℤ weight ws (set d.origin)) wc (subst (λ w. c.weight <ℤ w) wd (is_less c.weight d.weight h))))

  not_lighter : (c d : Candidate From) → IsWeighed c → IsWeighed d → int_lt c.weight d.weight ≡ false → Precedes d c → AtMost ws (set d.origin) (set c.origin)
  not_lighter c d wc wd h p = by (int_lt d.weight c.weight) refl
    where
      by : (b : Bool) → int_lt d.weight c.weight ≡ b → AtMost ws (set d.origin) (set c.origin)
      by true e = lighter d c wd wc e
      by false e = inr (inr (sym wd ∙ not_less d.weight c.weight e h ∙ wc, p))

  keeps : (Q : Candidate From → Type 0) (c : Candidate From) → ((d : Candidate From) → Q d → IsAsGood d c → Q c) → IsWeighed c
      → (ds : List (Candidate From)) → AllFit IsWeighed ds → AnyFit Q ds → AnyFit Q (put c ds)
  keeps Q c up wc [] wds h = absurd h
  keeps Q c up wc (d ∷ ds) wds h = by (same d.type c.type) (int_lt c.weight d.weight) refl refl h (λ k. keeps Q c up wc ds wds.1 k)
    where
      by : (b less : Bool) → same d.type c.type ≡ b → int_lt c.weight d.weight ≡ less → AnyFit Q (d ∷ ds) → (AnyFit Q ds → AnyFit Q (put c ds))
          → AnyFit Q (if b then (if less then ds ++ c ∷ [] else d ∷ ds) else d ∷ put c ds)
      by true true e l (inl q) rest = any_right Q ds (c ∷ []) (inl (up d q (sym (same_is_equal d.type c.type e), lighter c d wc wds.0 l)))
      by true true e l (inr k) rest = any_left Q ds (c ∷ []) k
      by true false e l k rest = k
      by false less e l (inl q) rest = inl q
      by false less e l (inr k) rest = inr (rest k)

  found : (c : Candidate From) → IsWeighed c → (ds : List (Candidate From)) → AllFit IsWeighed ds → AllFit (λ d. Precedes d c) ds → AnyFit (IsAsGood c) (put c ds)
  found c wc [] wds p = inl (refl, inl refl)
  found c wc (d ∷ ds) wds p = by (same d.type c.type) (int_lt c.weight d.weight) refl refl (found c wc ds wds.1 p.1)
    where
      by : (b less : Bool) → same d.type c.type ≡ b → int_lt c.weight d.weight ≡ less → AnyFit (IsAsGood c) (put c ds)
          → AnyFit (IsAsGood c) (if b then (if less then ds ++ c ∷ [] else d ∷ ds) else d ∷ put c ds)
      by true true e l rest = any_right (IsAsGood c) ds (c ∷ []) (inl (refl, inl refl))
      by true false e l rest = inl (same_is_equal d.type c.type e, not_lighter c d wc wds.0 l p.0)
      by false less e l rest = inr rest

  ascends_last : (ds : List (Candidate From)) (c : Candidate From) → IsAscending (sets ds) → AllFit (λ d. Precedes d c) ds → IsAscending (sets (ds ++ c ∷ []))
  ascends_last [] c a p = (tt, tt)
  ascends_last (d ∷ ds) c a p = (
    all_map (λ e. set e.origin) (λ Y. precedes (set d.origin) Y ≡ true) (ds ++ c ∷ [])
        (append_fits (Precedes d) ds (c ∷ []) (all_mapped (λ e. set e.origin) (λ Y. precedes (set d.origin) Y ≡ true) ds a.0) (p.0, tt)),
    ascends_last ds c a.1 p.1,
  )

  ascends : (c : Candidate From) (ds : List (Candidate From)) → IsAscending (sets ds) → AllFit (λ d. Precedes d c) ds → IsAscending (sets (put c ds))
  ascends c [] a p = (tt, tt)
  ascends c (d ∷ ds) a p = by (same d.type c.type) (int_lt c.weight d.weight) (ascends c ds a.1 p.1)
    where
      by : (b less : Bool) → IsAscending (sets (put c ds)) → IsAscending (sets (if b then (if less then ds ++ c ∷ [] else d ∷ ds) else d ∷ put c ds))
      by true true rest = ascends_last ds c a.1 p.1
      by true false rest = a
      by false less rest = (
        all_map (λ e. set e.origin) (λ Y. precedes (set d.origin) Y ≡ true) (put c ds)
            (put_all_fits (Precedes d) (c ∷ []) ds (p.0, tt) (all_mapped (λ e. set e.origin) (λ Y. precedes (set d.origin) Y ≡ true) ds a.0)),
        rest,
      )

  -- ---- all candidates

  as_good_then : (x d c : Candidate From) → IsAsGood x d → IsAsGood d c → IsAsGood x c
  as_good_then x d c h k = (k.0 ∙ h.0, at_most-then ws (set c.origin) (set d.origin) (set x.origin) k.1 h.1)

  all_keeps : (Q : Candidate From → Type 0) → ((d c : Candidate From) → Q d → IsAsGood d c → Q c)
      → (cs ds : List (Candidate From)) → AllFit IsWeighed cs → AllFit IsWeighed ds → AnyFit Q ds → AnyFit Q (put_all cs ds)
  all_keeps Q up [] ds wcs wds h = h
  all_keeps Q up (c ∷ cs) ds wcs wds h =
      all_keeps Q up cs (put c ds) wcs.1 (put_all_fits IsWeighed (c ∷ []) ds (wcs.0, tt) wds) (keeps Q c (λ d. up d c) wcs.0 ds wds h)

  -- each precedes each of the others
  abbrev AllPrecede : (ds cs : List (Candidate From)) → Type 0
  AllPrecede ds cs = AllFit (λ d. AllFit (Precedes d) cs) ds

  precede_first : (c : Candidate From) (cs ds : List (Candidate From)) → AllPrecede ds (c ∷ cs) → AllFit (λ d. Precedes d c) ds
  precede_first c cs ds p = all_to (λ d. AllFit (Precedes d) (c ∷ cs)) (λ d. Precedes d c) ds (λ d h. h.0) p

  precede_rest : (c : Candidate From) (cs ds : List (Candidate From)) → IsAscending (sets (c ∷ cs)) → AllPrecede ds (c ∷ cs) → AllPrecede (put c ds) cs
  precede_rest c cs ds a p =
      put_all_fits (λ d. AllFit (Precedes d) cs) (c ∷ []) ds (all_mapped (λ e. set e.origin) (λ Y. precedes (set c.origin) Y ≡ true) cs a.0, tt)
      (all_to (λ d. AllFit (Precedes d) (c ∷ cs)) (λ d. AllFit (Precedes d) cs) ds (λ d h. h.1) p)

  all_found : (cs ds : List (Candidate From)) → AllFit IsWeighed cs → AllFit IsWeighed ds → IsAscending (sets cs) → AllPrecede ds cs
      → AllFit (λ c. AnyFit (IsAsGood c) (put_all cs ds)) cs
  all_found [] ds wcs wds a p = tt
  all_found (c ∷ cs) ds wcs wds a p =
      let weighed = put_all_fits IsWeighed (c ∷ []) ds (wcs.0, tt) wds in (
        all_keeps (IsAsGood c) (λ d e. as_good_then c d e) cs (put c ds) wcs.1 weighed (found c wcs.0 ds wds (precede_first c cs ds p)),
        all_found cs (put c ds) wcs.1 weighed a.1 (precede_rest c cs ds a p),
      )

  all_ascend : (cs ds : List (Candidate From)) → IsAscending (sets cs) → IsAscending (sets ds) → AllPrecede ds cs → IsAscending (sets (put_all cs ds))
  all_ascend [] ds a b p = b
  all_ascend (c ∷ cs) ds a b p = all_ascend cs (put c ds) a.1 (ascends c ds b (precede_first c cs ds p)) (precede_rest c cs ds a p)

-- ---- one of each type

module _ {From : Type 0} where
  among : (v : Value) (ds : List (Candidate From)) → AnyFit (λ d. d.type ≡ v) ds → is_among (types_of ds) v ≡ true
  among v (d ∷ ds) (inl e) = ap (λ t. same v t || is_among (types_of ds) v) e ∙ ap (λ b. b || is_among (types_of ds) v) (same_itself v)
  among v (d ∷ ds) (inr h) = or_later (same v d.type) (is_among (types_of ds) v) (among v ds h)
  among v [] h = absurd h

  -- what is true of one of a type is true of each of this type
  only_one : (Q : Candidate From → Type 0) (ds : List (Candidate From)) → Different (types_of ds)
      → (d : Candidate From) → AnyFit (λ e. e ≡ d) ds → AnyFit (λ e. (e.type ≡ d.type) × Q e) ds → Q d
  only_one Q (e ∷ ds) u d (inl s) (inl q) = subst Q s q.1
  only_one Q (e ∷ ds) u d (inl s) (inr h) =
      let t = among e.type ds (any_to (λ c. (c.type ≡ d.type) × Q c) (λ c. c.type ≡ e.type) ds (λ c q. q.0 ∙ ap (λ (x : Candidate From). x.type) (sym s)) h) in
      let clash : false ≡ true = sym u.0 ∙ t in cc
  only_one Q (e ∷ ds) u d (inr m) (inl q) =
      let t = among e.type ds (any_to (λ c. c ≡ d) (λ c. c.type ≡ e.type) ds (λ c s. ap (λ (x : Candidate From). x.type) s ∙ sym q.0) m) in
      let clash : false ≡ true = sym u.0 ∙ t in cc
  only_one Q (e ∷ ds) u d (inr m) (inr h) = only_one Q ds u.1 d m h
  only_one Q [] u d m h = absurd m

-- ---- first sets

-- Candidates offer the sets of n elements: they stand in the order of their sets, and for each set there is one of its type that is not
-- after it.
pub record Offers {From : Type 0} (ws : List ℤ) (n : ℕ) (type : List Bool → Value) (set : From → List Bool) (cs : List (Candidate From)) : Type 0 where
  pub types : AllFit (λ c. c.type ≡ type (set c.origin)) cs
  pub weighed : AllFit (IsWeighed ws set) cs
  pub sizes : AllFit (λ c. length (set c.origin) ≡ n) cs
  pub ascending : IsAscending (sets ws set cs)
  pub enough : (Z : List Bool) → length Z ≡ n → AnyFit (λ c. (type (set c.origin) ≡ type Z) × AtMost ws (set c.origin) Z) cs

module _ {From : Type 0} (ws : List ℤ) (n : ℕ) (type : List Bool → Value) (set : From → List Bool) (cs : List (Candidate From)) (o : Offers ws n type set cs) where
  abbrev best : List (Candidate From)
  best = put_all cs []

  best_types : AllFit (λ c. c.type ≡ type (set c.origin)) best
  best_types = put_all_fits (λ c. c.type ≡ type (set c.origin)) cs [] o.types tt

  -- one of the best has the type of a set and is not after it
  reaches : (Z : List Bool) → length Z ≡ n → AnyFit (λ d. (d.type ≡ type Z) × AtMost ws (set d.origin) Z) best
  reaches Z lz =
      let P : Candidate From → Type 0 = λ c. (type (set c.origin) ≡ type Z) × AtMost ws (set c.origin) Z in
      let G : Candidate From → Type 0 = λ c. AnyFit (IsAsGood ws set c) best in
      let c = any_some (λ c. (P c × (c.type ≡ type (set c.origin))) × G c) cs
      (any_both (λ c. P c × (c.type ≡ type (set c.origin))) G cs (all_found ws set cs [] o.weighed tt o.ascending tt)
      (any_both P (λ c. c.type ≡ type (set c.origin)) cs o.types (o.enough Z lz))) in
      any_to (IsAsGood ws set c.0) (λ d. (d.type ≡ type Z) × AtMost ws (set d.origin) Z) best
      (λ d h. (h.0 ∙ c.1.0.1 ∙ c.1.0.0.0, at_most-then ws (set d.origin) (set c.0.origin) Z h.1 c.1.0.0.1)) c.1.1

  abbrev IsFirstOfType : List Bool → Type 0
  IsFirstOfType A = IsFirst ws n (λ Y. type Y ≡ type A) A

  is_first : (d : Candidate From) → (d.type ≡ type (set d.origin)) × (length (set d.origin) ≡ n) × AnyFit (λ e. e ≡ d) best → IsFirstOfType (set d.origin)
  is_first d h = record {
    size = h.1;
    member = refl;
    best = λ Z lz e.
        only_one (λ c. AtMost ws (set c.origin) Z) best (put_all-different cs [] tt) d h.2
        (any_to (λ c. (c.type ≡ type Z) × AtMost ws (set c.origin) Z) (λ c. (c.type ≡ d.type) × AtMost ws (set c.origin) Z) best (λ c k. (k.0 ∙ e ∙ sym h.0, k.1)) (reaches Z lz));
  }

  all_first : (ds : List (Candidate From)) → AllFit (λ c. c.type ≡ type (set c.origin)) ds → AllFit (λ c. length (set c.origin) ≡ n) ds
      → AllFit (λ d. AnyFit (λ e. e ≡ d) best) ds → AllFit (λ d. IsFirstOfType (set d.origin)) ds
  all_first [] t l m = tt
  all_first (d ∷ ds) t l m = (is_first d (t.0, l.0, m.0), all_first ds t.1 l.1 m.1)

  pub first_sets : AreFirsts ws n type (sets ws set (put_all cs []))
  first_sets = record {
    firsts = all_of IsFirstOfType (sets ws set best) (all_map (λ c. set c.origin) IsFirstOfType best
        (all_first best best_types (put_all_fits (λ c. length (set c.origin) ≡ n) cs [] o.sizes tt) (all_there best)));
    complete = λ Y l.
        let T : Candidate From → Type 0 = λ c. c.type ≡ type (set c.origin) in
        let R : Candidate From → Type 0 = λ d. (d.type ≡ type Y) × AtMost ws (set d.origin) Y in
        let d = any_some (λ d. (R d × T d) × AnyFit (λ e. e ≡ d) best) best
        (any_both (λ d. R d × T d) (λ d. AnyFit (λ e. e ≡ d) best) best (all_there best) (any_both R T best best_types (reaches Y l))) in (
          set d.0.origin,
          contains_any (sets ws set best) (set d.0.origin)
              (any_map (λ c. set c.origin) (λ X. X ≡ set d.0.origin) best (any_to (λ e. e ≡ d.0) (λ e. set e.origin ≡ set d.0.origin) best (λ e s. ap (λ (x : Candidate From). set x.origin) s) d.1.1)),
          sym d.1.0.1 ∙ d.1.0.0.0,
        );
  }

  pub ascending_sets : IsAscending (sets ws set (put_all cs []))
  ascending_sets = all_ascend ws set cs [] o.ascending tt tt
