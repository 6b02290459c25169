-- What a list has grown by, where some of it was there.
use Rattle.std.proofs.Common.{◌≡◌, Bool, true, false, not, ◌||◌, List, [], ◌∷◌, ◌++◌, filter, sum_by, length, cond, refl, sym, ap, ◌∙◌, subst, arith, append_assoc, append-nil}
use Rattle.std.specs.List.{list_any}
use Rattle.std.specs.Ordering.{is_eq, ordering_reverse}
use Rattle.std.specs.declared.cmp.Ordering.{Ordering}
use Rattle.std.specs.declared.cmp.Ordering.TheVariants.{Less, Equal, Greater}
use Rattle.std.proofs.lemmas.List.Folds.{list_any-append}
use Rattle.mm_logic.specs.Formula.{Formula}
use Rattle.mm_logic.specs.Value.{Value, value_cmp}
use Rattle.mm_logic.specs.Order.{SameMembers}
use Rattle.mm_logic.specs.Occurrence.{same, is_among, distinct, fresh, occurring}
use Rattle.mm_logic.specs.Growth.{Grown, AllGrown, AllSame, beside, no_values, root}
use Rattle.mm_logic.proofs.ValueLemmas.{value_total}
use Rattle.mm_logic.proofs.GrowthLemmas.{members-distinct, Grown-then, Grown-same, occurring-same}
use Rattle.mm_logic.proofs.OccurrenceLemmas.{nodes-occurring, occurrence-splits}
use Rattle.mm_nodes.specs.Demands.{IsExact, IsWithin}
use Rattle.mm_nodes.proofs.RoomLemmas.{within-right, within-then, same-within, grown-members}

same_self : (v : Value) → same v v ≡ true
same_self v = by_order (value_cmp v v) (value_total.antisymm v v)
  where
    by_order : (r : Ordering) → r ≡ ordering_reverse r → is_eq r ≡ true
    by_order Equal e = refl
    by_order Less e = cc
    by_order Greater e = cc

or_here : (a b c : Bool) → b ≡ true → (a || (b || c)) ≡ true
or_here true true c e = refl
or_here false true c e = refl
or_here true false c e = refl
or_here false false c e = cc

-- each value of a list is among it
each_among : (us vs : List Value) → list_any (λ v. not (is_among (us ++ vs) v)) vs ≡ false
each_among us [] = refl
each_among us (v ∷ vs) =
    let here : is_among (us ++ v ∷ vs) v ≡ true = list_any-append (same v) us (v ∷ vs) ∙ or_here (list_any (same v) us) (same v v) (list_any (same v) vs) (same_self v) in
    let rest : list_any (λ w. not (is_among (us ++ v ∷ vs) w)) vs ≡ false =
    ap (λ ws. list_any (λ w. not (is_among ws w)) vs) (sym (append_assoc us (v ∷ []) vs)) ∙ each_among (us ++ v ∷ []) vs in
    (λ i. not (here i) || rest i)

any_kept : (p : Value → Bool) (xs : List Value) → list_any (λ v. true) (filter p xs) ≡ list_any p xs
any_kept p [] = refl
any_kept p (x ∷ xs) = by_test (p x) (any_kept p xs)
  where
    by_test : (b : Bool) → list_any (λ v. true) (filter p xs) ≡ list_any p xs → list_any (λ v. true) (cond b (x ∷ filter p xs) (filter p xs)) ≡ (b || list_any p xs)
    by_test true e = refl
    by_test false e = e

nothing : (xs : List Value) → list_any (λ v. true) xs ≡ false → xs ≡ []
nothing [] e = refl
nothing (x ∷ xs) e = cc

-- nothing is fresh that is there
pub fresh_none : (K vs : List Value) → IsWithin vs K → fresh K vs ≡ []
fresh_none K vs h =
    let p : Value → Bool = λ v. not (is_among K v) in
    nothing (fresh K vs) (any_kept (λ v. not (is_among K v)) (distinct vs) ∙ members-distinct vs (λ v. not (is_among K v))
    ∙ by_test (list_any (λ v. not (is_among K v)) vs) (h (λ v. not (is_among K v))))
  where
    by_test : (b : Bool) → (b ≡ true → list_any (λ v. not (is_among K v)) K ≡ true) → b ≡ false
    by_test false f = refl
    by_test true f = let e : list_any (λ v. not (is_among K v)) K ≡ true = f refl in sym e ∙ each_among [] K

or_within : (a b : Bool) → (a ≡ true → b ≡ true) → (a || b) ≡ b
or_within true b f = sym (f refl)
or_within false b f = refl

-- A list that has grown by some of these, and has all of them, has grown by these.
pub grown_by_all : (old now some all : List Value) → Grown old now some → IsWithin some all → IsWithin all now → Grown old now all
grown_by_all old now some all g h k =
    Grown-same old now (some ++ all) all (λ p. list_any-append p some all ∙ or_within (list_any p some) (list_any p all) (h p))
    (Grown-then old now now some all g (record { added = []; longer = sym (append-nil now); exactly = λ f. ap (sum_by f) (sym (fresh_none now all k)) }))

-- ---- exact lists have all that occurs in the types of the root

nothing_more : (firsts lists uss vss : List (List Value)) → AllGrown firsts lists uss → AllSame uss (beside uss vss) → length uss ≡ length vss → AllGrown lists lists vss
nothing_more firsts lists [] [] g s e = refl
nothing_more (first ∷ firsts) (list ∷ lists) (us ∷ uss) (vs ∷ vss) g s e =
    let there : IsWithin us list =
    within-then us (first ++ us) list (within-right first us) (same-within list (first ++ us) (grown-members first list us g.0)) in
    let inside : IsWithin vs list = within-then vs us list (within-then vs (us ++ vs) us (within-right us vs) (same-within us (us ++ vs) s.0)) there in (
      record { added = []; longer = sym (append-nil list); exactly = λ f. ap (sum_by f) (sym (fresh_none list vs inside)) },
      nothing_more firsts lists uss vss g.1 s.1 (omega (arith, e)),
    )
nothing_more firsts lists [] (vs ∷ vss) g s e = absurd (omega (arith, e))
nothing_more firsts lists (us ∷ uss) [] g s e = absurd (omega (arith, e))
nothing_more [] lists (us ∷ uss) (vs ∷ vss) g s e = absurd g
nothing_more (first ∷ firsts) [] (us ∷ uss) (vs ∷ vss) g s e = absurd g

-- lists that are exact grow by nothing for types that are there
pub nothing_grows : (F : Formula) (lists : List (List Value)) (vs : List Value) → IsExact F lists → IsWithin vs (root F lists) → AllGrown lists lists (occurring F vs)
nothing_grows F lists vs e h =
    let K = root F lists in
    let all : SameMembers K (K ++ vs) = λ p. sym (or_back (list_any p K) (list_any p vs) (h p)) ∙ sym (list_any-append p K vs) in
    nothing_more (no_values F) lists (occurring F K) (occurring F vs) e (subst (AllSame (occurring F K)) (occurrence-splits F K vs) (occurring-same F K (K ++ vs) all))
    (sym (nodes-occurring F K) ∙ nodes-occurring F vs)
  where
    or_back : (a b : Bool) → (b ≡ true → a ≡ true) → (a || b) ≡ a
    or_back true b f = refl
    or_back false true f = sym (f refl)
    or_back false false f = refl
