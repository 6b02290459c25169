-- The least place at which some vector has a digit other than 0.
use Rattle.std.proofs.Common.{ℕ, zero, suc, ◌<◌, ◌≤◌, ◌≡◌, ◌≢◌, ◌⊎◌, inl, inr, Bool, true, false, not, cond, Option, Some, None, List, [], ◌∷◌, ◌++◌, length, get_or, refl, sym, ap, ◌∙◌, arith}
use Rattle.std.specs.Prelude.{nat_eq, nat_lt, IfSome, IfNone}
use Rattle.std.proofs.lemmas.List.{get_or-replicate}
use Rattle.mm_field.specs.Vectors.{zeros}
use Rattle.std.specs.List.{All}
use Rattle.std.proofs.lemmas.Bool.{eqb-true, false_from_ne_true, ltb-true, lt-ltb, cases_lt}
use Rattle.std.proofs.lemmas.List.Elements.{All-nil, All-cons}
use Rattle.std.proofs.lemmas.List.Quantifiers.{position-Some}
use Rattle.mm_present.specs.Dependencies.{first_nonzero, lesser, least_place}
use Rattle.mm_present.proofs.CompareLemmas.{position_found, position_none}

-- ---- one vector

abbrev nonzero : ℕ → Bool
nonzero d = not (nat_eq d 0)

not_false : (b : Bool) → not b ≡ false → b ≡ true
not_false true e = refl
not_false false e = cc

zero_here : (d : ℕ) → nonzero d ≡ false → d ≡ 0
zero_here d e = eqb-true d 0 (not_false (nat_eq d 0) e)

nonzero_here : (d : ℕ) → nonzero d ≡ true → d ≢ 0
nonzero_here zero e q = cc
nonzero_here (suc d) e q = cc

pub is_nonzero : (d : ℕ) → d ≢ 0 → nonzero d ≡ true
is_nonzero d e = ap not (false_from_ne_true (nat_eq d 0) (λ t. e (eqb-true d 0 t)))

record HasFirst (v : List ℕ) : Type 0 where
  at : ℕ
  inside : at < length v
  found : nonzero (get_or v at 0) ≡ true
  before : (k : ℕ) → k < at → nonzero (get_or v k 0) ≡ false

search_first : (v : List ℕ) → ((k : ℕ) → k < length v → get_or v k 0 ≡ 0) ⊎ HasFirst v
search_first [] = inl (λ k l. absurd (omega arith))
search_first (suc d ∷ v) = inr (record { at = 0; inside = omega arith; found = is_nonzero (suc d) (λ q. cc); before = λ k l. absurd (omega arith) })
search_first (zero ∷ v) = elim (search_first v) [
  | inl none ↦ inl (λ k. later none k)
  | inr h ↦ inr (record { at = suc h.at; inside = (let l = h.inside in omega arith); found = h.found; before = λ k. sooner h k })
]
  where
    later : ((k : ℕ) → k < length v → get_or v k 0 ≡ 0) → (k : ℕ) → k < suc (length v) → get_or (zero ∷ v) k 0 ≡ 0
    later none zero l = refl
    later none (suc k) l = none k (omega arith)

    sooner : (h : HasFirst v) → (k : ℕ) → k < suc h.at → nonzero (get_or (zero ∷ v) k 0) ≡ false
    sooner h zero l = refl
    sooner h (suc k) l = h.before k (omega arith)

pub none_nonzero : (v : List ℕ) → first_nonzero v ≡ None → (k : ℕ) → k < length v → get_or v k 0 ≡ 0
none_nonzero v e = elim (search_first v) [
  | inl none ↦ none
  | inr h ↦ absurd (let found : Some h.at ≡ None = position_found nonzero v h.at 0 h.inside h.found h.before ∙ e in cc)
]

pub found_nonzero : (v : List ℕ) (i : ℕ) → first_nonzero v ≡ Some i → (get_or v i 0 ≢ 0) × ((k : ℕ) → k < i → get_or v k 0 ≡ 0)
found_nonzero v i e =
    let p = position-Some nonzero v i 0 e in
    (nonzero_here (get_or v i 0) p.1, λ k l. zero_here (get_or v k 0) (p.2 k l))

-- ---- many vectors

-- what is known of the least place
pub record IsLeast (least : Option ℕ) (vs : List (List ℕ)) (i : ℕ) : Type 0 where
  pub from : (least ≡ Some i) ⊎ ((j : ℕ) × (j < length vs) × (get_or (get_or vs j []) i 0 ≢ 0))
  pub below : (m : ℕ) → least ≡ Some m → i ≤ m
  pub before : All (λ (v : List ℕ). (k : ℕ) → k < length v → k < i → get_or v k 0 ≡ 0) vs

same_Some : (m n : ℕ) → Some m ≡ Some n → m ≡ n
same_Some m n e = cc

record IsLesser (a b : Option ℕ) (i : ℕ) : Type 0 where
  from : (a ≡ Some i) ⊎ (b ≡ Some i)
  first : (m : ℕ) → a ≡ Some m → i ≤ m
  other : (m : ℕ) → b ≡ Some m → i ≤ m

le_of_not : (n m : ℕ) → nat_lt n m ≡ false → m ≤ n
le_of_not n m t = elim (cases_lt n m) [
  | inl l ↦ let yes : true ≡ false = sym (lt-ltb n m l) ∙ t in cc
  | inr l ↦ l
]

lesser_is : (a b : Option ℕ) (i : ℕ) → lesser a b ≡ Some i → IsLesser a b i
lesser_is None b i e = record {
  from = inr e;
  first = λ m q. let bad : None ≡ Some m = q in cc;
  other = λ m q. let s = same_Some i m (sym e ∙ q) in omega arith;
}
lesser_is (Some m) None i e = record {
  from = inl e;
  first = λ k q. let s = same_Some i k (sym e ∙ q) in omega arith;
  other = λ k q. let bad : None ≡ Some k = q in cc;
}
lesser_is (Some m) (Some n) i e = go (nat_lt n m) refl e
  where
    go : (b : Bool) → nat_lt n m ≡ b → cond b (Some n) (Some m) ≡ Some i → IsLesser (Some m) (Some n) i
    go true t q =
        let s = same_Some n i q in
        let l : n < m = ltb-true n m t in
        record {
          from = inr q;
          first = λ k p. (let a = same_Some m k p in omega arith);
          other = λ k p. (let a = same_Some n k p in omega arith);
        }
    go false t q =
        let s = same_Some m i q in
        let l : m ≤ n = le_of_not n m t in
        record {
          from = inl q;
          first = λ k p. (let a = same_Some m k p in omega arith);
          other = λ k p. (let a = same_Some n k p in omega arith);
        }

none_lesser : (a b : Option ℕ) → lesser a b ≡ None → (a ≡ None) × (b ≡ None)
none_lesser None b e = (refl, e)
none_lesser (Some m) None e = cc
none_lesser (Some m) (Some n) e = go (nat_lt n m) e
  where
    go : (b : Bool) → cond b (Some n) (Some m) ≡ None → (Some m ≡ None) × (Some n ≡ None)
    go true q = cc
    go false q = cc

pub none_least : (least : Option ℕ) (vs : List (List ℕ)) → least_place least vs ≡ None →
    (least ≡ None) × All (λ (v : List ℕ). (k : ℕ) → k < length v → get_or v k 0 ≡ 0) vs
none_least least [] e = (e, All-nil (λ (v : List ℕ). (k : ℕ) → k < length v → get_or v k 0 ≡ 0))
none_least least (v ∷ vs) e =
    let p = none_least (lesser least (first_nonzero v)) vs e in
    let q = none_lesser least (first_nonzero v) p.0 in
    (q.0, All-cons (λ (v : List ℕ). (k : ℕ) → k < length v → get_or v k 0 ≡ 0) v vs (none_nonzero v q.1) p.1)

zero_to : (v : List ℕ) (i : ℕ) (o : Option ℕ) → first_nonzero v ≡ o → ((m : ℕ) → o ≡ Some m → i ≤ m) → (k : ℕ) → k < length v → k < i → get_or v k 0 ≡ 0
zero_to v i None e low k l m = none_nonzero v e k l
zero_to v i (Some n) e low k l m = (found_nonzero v n e).1 k (let a = low n refl in omega arith)

pub found_least : (least : Option ℕ) (vs : List (List ℕ)) (i : ℕ) → least_place least vs ≡ Some i → IsLeast least vs i
found_least least [] i e = record {
  from = inl e;
  below = λ m q. let s = same_Some i m (sym e ∙ q) in omega arith;
  before = All-nil (λ (v : List ℕ). (k : ℕ) → k < length v → k < i → get_or v k 0 ≡ 0);
}
found_least least (v ∷ vs) i e =
    let h = found_least (lesser least (first_nonzero v)) vs i e in
    record {
      from = elim h.from [
        | inl q ↦ first (lesser_is least (first_nonzero v) i q)
        | inr q ↦ inr (suc q.0, (let l : q.0 < length vs = q.1 in omega arith), q.2)
      ];
      below = λ m q. low (lesser least (first_nonzero v)) refl h.below m q;
      before = All-cons (λ (v : List ℕ). (k : ℕ) → k < length v → k < i → get_or v k 0 ≡ 0) v vs
          (zero_to v i (first_nonzero v) refl (λ m q. right (lesser least (first_nonzero v)) refl h.below m q)) h.before;
    }
  where
    first : IsLesser least (first_nonzero v) i → (least ≡ Some i) ⊎ ((j : ℕ) × (j < length (v ∷ vs)) × (get_or (get_or (v ∷ vs) j []) i 0 ≢ 0))
    first h = elim h.from [
      | inl q ↦ inl q
      | inr q ↦ inr (0, omega arith, (found_nonzero v i q).0)
    ]

    low : (o : Option ℕ) → lesser least (first_nonzero v) ≡ o → ((m : ℕ) → o ≡ Some m → i ≤ m) → (m : ℕ) → least ≡ Some m → i ≤ m
    low None p h m q = let bad : Some m ≡ None = sym q ∙ (none_lesser least (first_nonzero v) p).0 in cc
    low (Some n) p h m q =
        let a = (lesser_is least (first_nonzero v) n p).first m q in
        let b = h n refl in omega arith

    right : (o : Option ℕ) → lesser least (first_nonzero v) ≡ o → ((m : ℕ) → o ≡ Some m → i ≤ m) → (m : ℕ) → first_nonzero v ≡ Some m → i ≤ m
    right None p h m q = let bad : Some m ≡ None = sym q ∙ (none_lesser least (first_nonzero v) p).1 in cc
    right (Some n) p h m q =
        let a = (lesser_is least (first_nonzero v) n p).other m q in
        let b = h n refl in omega arith

pub least_place-append : (least : Option ℕ) (us vs : List (List ℕ)) → least_place least (us ++ vs) ≡ least_place (least_place least us) vs
least_place-append least [] vs = refl
least_place-append least (u ∷ us) vs = least_place-append (lesser least (first_nonzero u)) us vs

-- the first place, by what is known of it
pub first_by_clauses : (v : List ℕ) (o : Option ℕ) → IfSome o (λ p. (p < length v) × (get_or v p 0 ≢ 0)) → IfSome o (λ p. (k : ℕ) → k < p → get_or v k 0 ≡ 0) →
    IfNone o (v ≡ zeros (length v)) → o ≡ first_nonzero v
first_by_clauses v (Some p) found least none =
    position_found nonzero v p 0 found.0 (is_nonzero (get_or v p 0) found.1) (λ k l. ap nonzero (least k l))
first_by_clauses v None found least none =
    position_none nonzero v 0 (λ k l. ap nonzero (ap (λ u. get_or u k 0) none ∙ get_or-replicate (length v) k 0 0 l))
