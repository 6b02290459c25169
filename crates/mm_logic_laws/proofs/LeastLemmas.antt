-- First sets: that there is one, that it is the only one, and what its parts at a join are.
use Rattle.std.proofs.Common.{◌≡◌, ◌⊎◌, inl, inr, ◌<◌, ◌+◌, ℕ, suc, zero, Bool, true, false, not, ◌&&◌, ◌||◌, if◌then◌else◌, ℤ, pos, ◌+ℤ◌, ◌<ℤ◌, int_lt, List, [], ◌∷◌, ◌++◌, length, map, take, drop, refl, sym, ap, ap₂, ◌∙◌, subst, arith, length-drop, take-append-drop, filter, Option, Some, None, All, Contains, ◌↔◌}
use Rattle.std.proofs.lemmas.Int.{ints}
use Rattle.std.proofs.lemmas.List.{length-append, length-take-le, take_at, drop_at}
use Rattle.std.specs.List.{list_any}
use Rattle.mm_logic_laws.proofs.AcceptLemmas.{accepts-type_of}
use Rattle.std.proofs.lemmas.List.Elements.{All-nil, All-cons, All-append, All-map, All-filter, All-contains, filter_passes, Contains-append_left, Contains-append_right}
use Rattle.std.proofs.Math.IntN.{+ℤ_assoc}
use Rattle.mm_linear.proofs.SubspaceTests.{Contains-map, Contains-filter}
use Rattle.mm_logic.specs.Tree.Tree.{Join}
use Rattle.mm_linear.proofs.SpaceLemmas.{false_true}
use Rattle.mm_logic.specs.Formula.{Formula}
use Rattle.mm_logic.specs.Meaning.{WellSorted}
use Rattle.mm_logic.specs.Operator.{Op}
use Rattle.mm_field.specs.declared.Field.{Field}
use Rattle.mm_logic_laws.specs.LeastLaws.{LeastSetIsMeant, LeastSetsRestrict, FirstsOfPairs, PairsOfFirstsHaveAllTypes, FirstsHaveDifferentTypes, NothingWithoutAcceptedFirst, AnswerOfFirsts}
use Rattle.mm_logic_laws.proofs.MeaningLemmas.{meaning_decided}
use Rattle.mm_logic_laws.proofs.SplitLemmas.{length-assign, Singles-set}
use Rattle.mm_logic_laws.proofs.TypeLemmas.{join_law}
use Rattle.mm_logic.specs.Value.{Value}
use Rattle.mm_logic.specs.Acceptance.{accepts}
use Rattle.mm_logic.specs.JoinRule.{join_type}
use Rattle.mm_logic.specs.Least.{weight, precedes, IsBefore, IsFirst, AreFirsts, is_before, first_of, first_set, Satisfies, holds_of, least}
use Rattle.mm_logic.specs.Marks.{Marks, mark, assign, sets, AtMostOne, Singles, unmarked}
use Rattle.mm_logic.specs.Tree.{Tree, size, IsValid}
use Rattle.mm_logic.specs.Types.{type_of}

-- X is Y, or before it
abbrev pub AtMost : List ℤ → List Bool → List Bool → Type 0
AtMost ws X Y = (X ≡ Y) ⊎ IsBefore ws X Y

pub precedes-itself : (X : List Bool) → precedes X X ≡ false
precedes-itself [] = refl
precedes-itself (true ∷ X) = precedes-itself X
precedes-itself (false ∷ X) = precedes-itself X

pub precedes-or : (X Y : List Bool) → length X ≡ length Y → precedes Y X ≡ false → (X ≡ Y) ⊎ (precedes X Y ≡ true)
precedes-or [] [] e h = inl refl
precedes-or [] (y ∷ Y) e h = absurd (omega arith)
precedes-or (x ∷ X) [] e h = absurd (omega arith)
precedes-or (false ∷ X) (true ∷ Y) e h = inr refl
precedes-or (true ∷ X) (false ∷ Y) e h = let c : true ≡ false = h in cc
precedes-or (false ∷ X) (false ∷ Y) e h = elim (precedes-or X Y (omega arith) h) [ inl q ↦ inl (ap (λ Z. false ∷ Z) q) | inr p ↦ inr p ]
precedes-or (true ∷ X) (true ∷ Y) e h = elim (precedes-or X Y (omega arith) h) [ inl q ↦ inl (ap (λ Z. true ∷ Z) q) | inr p ↦ inr p ]

pub precedes-then : (X Y Z : List Bool) → precedes X Y ≡ true → precedes Y Z ≡ true → precedes X Z ≡ true
precedes-then [] Y Z p q = let c : false ≡ true = p in cc
precedes-then (x ∷ X) [] Z p q = let c : false ≡ true = p in cc
precedes-then (x ∷ X) (y ∷ Y) [] p q = let c : false ≡ true = q in cc
precedes-then (false ∷ X) (false ∷ Y) (false ∷ Z) p q = precedes-then X Y Z p q
precedes-then (false ∷ X) (false ∷ Y) (true ∷ Z) p q = refl
precedes-then (false ∷ X) (true ∷ Y) (false ∷ Z) p q = let c : false ≡ true = q in cc
precedes-then (false ∷ X) (true ∷ Y) (true ∷ Z) p q = refl
precedes-then (true ∷ X) (false ∷ Y) (z ∷ Z) p q = let c : false ≡ true = p in cc
precedes-then (true ∷ X) (true ∷ Y) (false ∷ Z) p q = let c : false ≡ true = q in cc
precedes-then (true ∷ X) (true ∷ Y) (true ∷ Z) p q = precedes-then X Y Z p q

pub lt-then : (a b c : ℤ) → a <ℤ b → b <ℤ c → a <ℤ c
lt-then a b c p q = omega (arith, ints)

pub before-then : (ws : List ℤ) (X Y Z : List Bool) → IsBefore ws X Y → IsBefore ws Y Z → IsBefore ws X Z
before-then ws X Y Z (inl p) (inl q) = inl (lt-then (weight ws X) (weight ws Y) (weight ws Z) p q)
before-then ws X Y Z (inl p) (inr q) = inl (subst (λ w. weight ws X <ℤ w) q.0 p)
before-then ws X Y Z (inr p) (inl q) = inl (subst (λ w. w <ℤ weight ws Z) (sym p.0) q)
before-then ws X Y Z (inr p) (inr q) = inr (p.0 ∙ q.0, precedes-then X Y Z p.1 q.1)

pub at_most-then : (ws : List ℤ) (X Y Z : List Bool) → AtMost ws X Y → AtMost ws Y Z → AtMost ws X Z
at_most-then ws X Y Z (inl e) h = subst (λ W. AtMost ws W Z) (sym e) h
at_most-then ws X Y Z (inr p) (inl e) = inr (subst (λ W. IsBefore ws X W) e p)
at_most-then ws X Y Z (inr p) (inr q) = inr (before-then ws X Y Z p q)

-- the test of two sets decides between them
pub not_less : (a b : ℤ) → int_lt a b ≡ false → int_lt b a ≡ false → a ≡ b
not_less a b p q = grind (arith, ints)

pub is_less : (a b : ℤ) → int_lt a b ≡ true → a <ℤ b
is_less a b p = grind (arith, ints)

before-when : (ws : List ℤ) (X Y : List Bool) → is_before ws X Y ≡ true → IsBefore ws X Y
before-when ws X Y h = by (int_lt (weight ws X) (weight ws Y)) (int_lt (weight ws Y) (weight ws X)) refl refl h
  where
    by : (a b : Bool) → int_lt (weight ws X) (weight ws Y) ≡ a → int_lt (weight ws Y) (weight ws X) ≡ b
        → (a || (not b && precedes X Y)) ≡ true → IsBefore ws X Y
    by true b p q e = inl (is_less (weight ws X) (weight ws Y) p)
    by false true p q e = let c : false ≡ true = e in cc
    by false false p q e = inr (not_less (weight ws X) (weight ws Y) p q, e)

pub at_most-when_not : (ws : List ℤ) (X Y : List Bool) → length X ≡ length Y → is_before ws Y X ≡ false → AtMost ws X Y
at_most-when_not ws X Y l h = by (int_lt (weight ws Y) (weight ws X)) (int_lt (weight ws X) (weight ws Y)) refl refl h
  where
    by : (a b : Bool) → int_lt (weight ws Y) (weight ws X) ≡ a → int_lt (weight ws X) (weight ws Y) ≡ b
        → (a || (not b && precedes Y X)) ≡ false → AtMost ws X Y
    by true b p q e = let c : true ≡ false = e in cc
    by false true p q e = inr (inl (is_less (weight ws X) (weight ws Y) q))
    by false false p q e = elim (precedes-or X Y l e) [ inl s ↦ inl s | inr s ↦ inr (inr (not_less (weight ws X) (weight ws Y) q p, s)) ]

-- ---- the first of a list

-- the first of X and Xs is one of them, and is at most each
record IsFirstOf (ws : List ℤ) (P : List Bool → Type 0) (X : List Bool) (Xs : List (List Bool)) (W : List Bool) : Type 0 where
  pub holds : P W
  pub own : AtMost ws W X
  pub others : All (λ Y. AtMost ws W Y) Xs

first_of_is : (ws : List ℤ) (n : ℕ) (P : List Bool → Type 0) (X : List Bool) (Xs : List (List Bool)) →
    length X ≡ n → P X → All (λ Y. length Y ≡ n) Xs → All P Xs → IsFirstOf ws P X Xs (first_of ws X Xs)
first_of_is ws n P X [] l p ls ps = record { holds = p; own = inl refl; others = All-nil (λ Y. AtMost ws X Y) }
first_of_is ws n P X (Y ∷ Ys) l p ls ps =
    by (is_before ws Y X) refl
    (first_of_is ws n P Y Ys (ls 0 [] (omega arith)) (ps 0 [] (omega arith)) (λ k d m. ls (suc k) d (omega arith)) (λ k d m. ps (suc k) d (omega arith)))
    (first_of_is ws n P X Ys l p (λ k d m. ls (suc k) d (omega arith)) (λ k d m. ps (suc k) d (omega arith)))
  where
    by : (b : Bool) → is_before ws Y X ≡ b → IsFirstOf ws P Y Ys (first_of ws Y Ys) → IsFirstOf ws P X Ys (first_of ws X Ys) →
        IsFirstOf ws P X (Y ∷ Ys) (first_of ws (if b then Y else X) Ys)
    by true e f g = record {
      holds = f.holds;
      own = at_most-then ws (first_of ws Y Ys) Y X f.own (inr (before-when ws Y X e));
      others = All-cons (λ Z. AtMost ws (first_of ws Y Ys) Z) Y Ys f.own f.others;
    }
    by false e f g = record {
      holds = g.holds;
      own = g.own;
      others = All-cons (λ Z. AtMost ws (first_of ws X Ys) Z) Y Ys
          (at_most-then ws (first_of ws X Ys) X Y g.own (at_most-when_not ws X Y (l ∙ sym (ls 0 [] (omega arith))) e)) g.others;
    }

-- ---- all sets

pub length-sets : (n : ℕ) → All (λ X. length X ≡ n) (sets n)
length-sets zero = All-cons (λ X. length X ≡ zero) [] [] refl (All-nil (λ X. length X ≡ zero))
length-sets (suc n) =
    All-append (λ X. length X ≡ suc n) (map (λ X. false ∷ X) (sets n)) (map (λ X. true ∷ X) (sets n))
    (All-map (λ X. length X ≡ suc n) (λ X. false ∷ X) (sets n) (λ k d l. ap suc (length-sets n k d l)))
    (All-map (λ X. length X ≡ suc n) (λ X. true ∷ X) (sets n) (λ k d l. ap suc (length-sets n k d l)))

sets-contain : (X : List Bool) → Contains (sets (length X)) X
sets-contain [] = (0, omega arith, refl)
sets-contain (false ∷ X) =
    Contains-append_left (map (λ Y. false ∷ Y) (sets (length X))) (map (λ Y. true ∷ Y) (sets (length X))) (false ∷ X)
    (Contains-map (λ Y. false ∷ Y) (sets (length X)) X (sets-contain X))
sets-contain (true ∷ X) =
    Contains-append_right (map (λ Y. false ∷ Y) (sets (length X))) (map (λ Y. true ∷ Y) (sets (length X))) (true ∷ X)
    (Contains-map (λ Y. true ∷ Y) (sets (length X)) X (sets-contain X))

kept-contain : (n : ℕ) (p : List Bool → Bool) (A : List Bool) → length A ≡ n → p A ≡ true → Contains (filter p (sets n)) A
kept-contain n p A l t = Contains-filter p (sets n) A (subst (λ m. Contains (sets m) A) l (sets-contain A)) t

-- what is found is the first of the sets that pass the test, and nothing is found only where none passes
pub found-is_first : (ws : List ℤ) (n : ℕ) (p : List Bool → Bool) (W : List Bool) → first_set ws (filter p (sets n)) ≡ Some W →
    IsFirst ws n (λ A. p A ≡ true) W
found-is_first ws n p W q = go (filter p (sets n)) refl
  where
    go : (Xs : List (List Bool)) → filter p (sets n) ≡ Xs → IsFirst ws n (λ A. p A ≡ true) W
    go [] e = let clash : None ≡ Some W = sym (ap (first_set ws) e) ∙ q in cc
    go (X ∷ Xs) e =
        let same_some : Some (first_of ws X Xs) ≡ Some W = sym (ap (first_set ws) e) ∙ q in
        let same : first_of ws X Xs ≡ W = cc in
        let ls = subst (λ Ys. All (λ Y. length Y ≡ n) Ys) e (All-filter p (λ Y. length Y ≡ n) (sets n) (length-sets n)) in
        let ps = subst (λ Ys. All (λ Y. p Y ≡ true) Ys) e (filter_passes p (sets n)) in
        let f = first_of_is ws n (λ Y. (length Y ≡ n) × (p Y ≡ true)) X Xs (ls 0 [] (omega arith)) (ls 0 [] (omega arith), ps 0 [] (omega arith))
        (λ k d m. ls (suc k) d (omega arith)) (λ k d m. (ls (suc k) d (omega arith), ps (suc k) d (omega arith))) in
        subst (λ V. IsFirst ws n (λ A. p A ≡ true) V) same
        (record {
          size = f.holds.0;
          member = f.holds.1;
          best = λ Y l t.
              let c = subst (λ Ys. Contains Ys Y) e (kept-contain n p Y l t) in
              subst (λ Z. AtMost ws (first_of ws X Xs) Z) c.2
              (All-cons (λ Z. AtMost ws (first_of ws X Xs) Z) X Xs f.own f.others c.0 Y c.1);
        })

pub none-found : (ws : List ℤ) (n : ℕ) (p : List Bool → Bool) → first_set ws (filter p (sets n)) ≡ None →
    (A : List Bool) → length A ≡ n → p A ≡ true → ⊥
none-found ws n p q A l t = go (filter p (sets n)) refl
  where
    go : (Xs : List (List Bool)) → filter p (sets n) ≡ Xs → ⊥
    go [] e =
        let c = subst (λ Ys. Contains Ys A) e (kept-contain n p A l t) in
        let a : c.0 < 0 = c.1 in omega arith
    go (X ∷ Xs) e = let clash : Some (first_of ws X Xs) ≡ None = sym (ap (first_set ws) e) ∙ q in cc

-- there is only one first set
not_both : (ws : List ℤ) (X Y : List Bool) → IsBefore ws X Y → IsBefore ws Y X → ⊥
not_both ws X Y p q = go (before-then ws X Y X p q)
  where
    irreflexive : (a : ℤ) → a <ℤ a → ⊥
    irreflexive a h = omega (arith, ints)

    go : IsBefore ws X X → ⊥
    go (inl h) = irreflexive (weight ws X) h
    go (inr h) = let c : false ≡ true = sym (precedes-itself X) ∙ h.1 in cc

pub first_unique : (ws : List ℤ) (n : ℕ) (P : List Bool → Type 0) (X Y : List Bool) → IsFirst ws n P X → IsFirst ws n P Y → X ≡ Y
first_unique ws n P X Y f g = go (f.best Y g.size g.member) (g.best X f.size f.member)
  where
    go : AtMost ws X Y → AtMost ws Y X → X ≡ Y
    go (inl e) h = e
    go (inr p) (inl e) = sym e
    go (inr p) (inr q) = absurd (not_both ws X Y p q)

-- ---- sets at a join

pub add_zero_z : (a : ℤ) → a ≡ pos 0 +ℤ a
add_zero_z a = omega (arith, ints)

pub weight-append : (us vs : List ℤ) (A B : List Bool) → length us ≡ length A → weight (us ++ vs) (A ++ B) ≡ weight us A +ℤ weight vs B
weight-append [] vs [] B e = add_zero_z (weight vs B)
weight-append [] vs (a ∷ A) B e = absurd (omega arith)
weight-append (u ∷ us) vs [] B e = absurd (omega arith)
weight-append (u ∷ us) vs (true ∷ A) B e =
    ap (λ w. u +ℤ w) (weight-append us vs A B (omega arith)) ∙ sym (+ℤ_assoc u (weight us A) (weight vs B))
weight-append (u ∷ us) vs (false ∷ A) B e = weight-append us vs A B (omega arith)

pub precedes-left : (A A' B : List Bool) → length A ≡ length A' → precedes (A ++ B) (A' ++ B) ≡ precedes A A'
precedes-left [] [] B e = precedes-itself B
precedes-left [] (a ∷ A') B e = absurd (omega arith)
precedes-left (a ∷ A) [] B e = absurd (omega arith)
precedes-left (true ∷ A) (true ∷ A') B e = precedes-left A A' B (omega arith)
precedes-left (true ∷ A) (false ∷ A') B e = refl
precedes-left (false ∷ A) (true ∷ A') B e = refl
precedes-left (false ∷ A) (false ∷ A') B e = precedes-left A A' B (omega arith)

pub precedes-right : (A B B' : List Bool) → precedes (A ++ B) (A ++ B') ≡ precedes B B'
precedes-right [] B B' = refl
precedes-right (true ∷ A) B B' = precedes-right A B B'
precedes-right (false ∷ A) B B' = precedes-right A B B'

pub less_left : (a b c : ℤ) → (a +ℤ c) <ℤ (b +ℤ c) → a <ℤ b
less_left a b c h = omega (arith, ints)

pub less_right : (a b c : ℤ) → (c +ℤ a) <ℤ (c +ℤ b) → a <ℤ b
less_right a b c h = omega (arith, ints)

pub same_left : (a b c : ℤ) → a +ℤ c ≡ b +ℤ c → a ≡ b
same_left a b c h = omega (arith, ints)

pub same_right : (a b c : ℤ) → c +ℤ a ≡ c +ℤ b → a ≡ b
same_right a b c h = omega (arith, ints)

at_most-left : (us vs : List ℤ) (A A' B : List Bool) → length us ≡ length A → length A ≡ length A' →
    AtMost (us ++ vs) (A ++ B) (A' ++ B) → AtMost us A A'
at_most-left us vs A A' B l m h = go h
  where
    w : weight (us ++ vs) (A ++ B) ≡ weight us A +ℤ weight vs B
    w = weight-append us vs A B l

    w' : weight (us ++ vs) (A' ++ B) ≡ weight us A' +ℤ weight vs B
    w' = weight-append us vs A' B (l ∙ m)

    go : AtMost (us ++ vs) (A ++ B) (A' ++ B) → AtMost us A A'
    go (inl e) = inl (sym (take_at A B (length A) refl) ∙ ap (take (length A)) e ∙ take_at A' B (length A) (sym m))
    go (inr (inl p)) = inr (inl (less_left (weight us A) (weight us A') (weight vs B)
        (subst (λ x. x <ℤ (weight us A' +ℤ weight vs B)) w (subst (λ x. weight (us ++ vs) (A ++ B) <ℤ x) w' p))))
    go (inr (inr p)) = inr (inr (same_left (weight us A) (weight us A') (weight vs B) (sym w ∙ p.0 ∙ w'), sym (precedes-left A A' B m) ∙ p.1))

at_most-right : (us vs : List ℤ) (A B B' : List Bool) → length us ≡ length A → AtMost (us ++ vs) (A ++ B) (A ++ B') → AtMost vs B B'
at_most-right us vs A B B' l h = go h
  where
    w : weight (us ++ vs) (A ++ B) ≡ weight us A +ℤ weight vs B
    w = weight-append us vs A B l

    w' : weight (us ++ vs) (A ++ B') ≡ weight us A +ℤ weight vs B'
    w' = weight-append us vs A B' l

    go : AtMost (us ++ vs) (A ++ B) (A ++ B') → AtMost vs B B'
    go (inl e) = inl (sym (drop_at A B (length A) refl) ∙ ap (drop (length A)) e ∙ drop_at A B' (length A) refl)
    go (inr (inl p)) = inr (inl (less_right (weight vs B) (weight vs B') (weight us A)
        (subst (λ x. x <ℤ (weight us A +ℤ weight vs B')) w (subst (λ x. weight (us ++ vs) (A ++ B) <ℤ x) w' p))))
    go (inr (inr p)) = inr (inr (same_right (weight vs B) (weight vs B') (weight us A) (sym w ∙ p.0 ∙ w'), sym (precedes-right A B B') ∙ p.1))

-- The first set of a type restricts to the first of its own type on each side, where the types of both sides give the type.
pub first-restricts : (us vs : List ℤ) (n m : ℕ) (type left right : List Bool → Value) (j : Value → Value → Value) →
    ((A B : List Bool) → length A ≡ n → length B ≡ m → type (A ++ B) ≡ j (left A) (right B)) →
    length us ≡ n → (v : Value) (A B : List Bool) → length A ≡ n → length B ≡ m →
    IsFirst (us ++ vs) (n + m) (λ Z. type Z ≡ v) (A ++ B) →
    IsFirst us n (λ Y. left Y ≡ left A) A × IsFirst vs m (λ Y. right Y ≡ right B) B
first-restricts us vs n m type left right j law lu v A B la lb f = (
  record {
    size = la;
    member = refl;
    best = λ Y ly e. at_most-left us vs A Y B (lu ∙ sym la) (la ∙ sym ly)
        (f.best (Y ++ B) (length-append Y B ∙ ap₂ (λ x y. x + y) ly lb)
        (law Y B ly lb ∙ ap (λ t. j t (right B)) e ∙ sym (law A B la lb) ∙ f.member));
  },
  record {
    size = lb;
    member = refl;
    best = λ Y ly e. at_most-right us vs A B Y (lu ∙ sym la)
        (f.best (A ++ Y) (length-append A Y ∙ ap₂ (λ x y. x + y) la ly)
        (law A Y la ly ∙ ap (λ t. j (left A) t) e ∙ sym (law A B la lb) ∙ f.member));
  },
)

-- ---- the first set of a type is found among pairs of first sets

pub more_left : (a b c : ℤ) → a <ℤ b → (a +ℤ c) <ℤ (b +ℤ c)
more_left a b c h = omega (arith, ints)

pub more_right : (a b c : ℤ) → a <ℤ b → (c +ℤ a) <ℤ (c +ℤ b)
more_right a b c h = omega (arith, ints)

pub at_most-more_left : (us vs : List ℤ) (A A' B : List Bool) → length us ≡ length A → length A ≡ length A' →
    AtMost us A A' → AtMost (us ++ vs) (A ++ B) (A' ++ B)
at_most-more_left us vs A A' B l m h = go h
  where
    w : weight (us ++ vs) (A ++ B) ≡ weight us A +ℤ weight vs B
    w = weight-append us vs A B l

    w' : weight (us ++ vs) (A' ++ B) ≡ weight us A' +ℤ weight vs B
    w' = weight-append us vs A' B (l ∙ m)

    go : AtMost us A A' → AtMost (us ++ vs) (A ++ B) (A' ++ B)
    go (inl e) = inl (ap (λ X. X ++ B) e)
    go (inr (inl p)) = inr (inl (subst (λ x. weight (us ++ vs) (A ++ B) <ℤ x) (sym w')
        (subst (λ x. x <ℤ (weight us A' +ℤ weight vs B)) (sym w) (more_left (weight us A) (weight us A') (weight vs B) p))))
    go (inr (inr p)) = inr (inr (w ∙ ap (λ x. x +ℤ weight vs B) p.0 ∙ sym w', precedes-left A A' B m ∙ p.1))

pub at_most-more_right : (us vs : List ℤ) (A B B' : List Bool) → length us ≡ length A →
    AtMost vs B B' → AtMost (us ++ vs) (A ++ B) (A ++ B')
at_most-more_right us vs A B B' l h = go h
  where
    w : weight (us ++ vs) (A ++ B) ≡ weight us A +ℤ weight vs B
    w = weight-append us vs A B l

    w' : weight (us ++ vs) (A ++ B') ≡ weight us A +ℤ weight vs B'
    w' = weight-append us vs A B' l

    go : AtMost vs B B' → AtMost (us ++ vs) (A ++ B) (A ++ B')
    go (inl e) = inl (ap (λ X. A ++ X) e)
    go (inr (inl p)) = inr (inl (subst (λ x. weight (us ++ vs) (A ++ B) <ℤ x) (sym w')
        (subst (λ x. x <ℤ (weight us A +ℤ weight vs B')) (sym w) (more_right (weight vs B) (weight vs B') (weight us A) p))))
    go (inr (inr p)) = inr (inr (w ∙ ap (λ x. weight us A +ℤ x) p.0 ∙ sym w', precedes-right A B B' ∙ p.1))

pub first-of-pairs : (us vs : List ℤ) (n m : ℕ) (type left right : List Bool → Value) (j : Value → Value → Value) →
    ((A B : List Bool) → length A ≡ n → length B ≡ m → type (A ++ B) ≡ j (left A) (right B)) → length us ≡ n →
    (rows sows : List (List Bool)) → AreFirsts us n left rows → AreFirsts vs m right sows →
    (A B : List Bool) → Contains rows A → Contains sows B →
    ((A' B' : List Bool) → Contains rows A' → Contains sows B' → type (A' ++ B') ≡ type (A ++ B) → AtMost (us ++ vs) (A ++ B) (A' ++ B')) →
    IsFirst (us ++ vs) (n + m) (λ Z. type Z ≡ type (A ++ B)) (A ++ B)
first-of-pairs us vs n m type left right j law lu rows sows hr hs A B ca cb best =
    let fa = All-contains (λ X. IsFirst us n (λ Y. left Y ≡ left X) X) rows A hr.firsts ca in
    let fb = All-contains (λ X. IsFirst vs m (λ Y. right Y ≡ right X) X) sows B hs.firsts cb in
    record {
      size = length-append A B ∙ ap₂ (λ x y. x + y) fa.size fb.size;
      member = refl;
      best = λ Z lz e.
          let P = take n Z in
          let Q = drop n Z in
          let lp : length P ≡ n = length-take-le n Z (omega arith) in
          let lq : length Q ≡ m = length-drop n Z ∙ omega arith in
          let parts : P ++ Q ≡ Z = take-append-drop n Z in
          let p = hr.complete P lp in
          let q = hs.complete Q lq in
          let fp = All-contains (λ X. IsFirst us n (λ Y. left Y ≡ left X) X) rows p.0 hr.firsts p.1 in
          let fq = All-contains (λ X. IsFirst vs m (λ Y. right Y ≡ right X) X) sows q.0 hs.firsts q.1 in
          let same : type (p.0 ++ q.0) ≡ type (A ++ B) =
          law p.0 q.0 fp.size fq.size ∙ ap₂ (λ x y. j x y) p.2 q.2 ∙ sym (law P Q lp lq) ∙ ap type parts ∙ e in
          let one = best p.0 q.0 p.1 q.1 same in
          let two = at_most-more_left us vs p.0 P q.0 (lu ∙ sym fp.size) (fp.size ∙ sym lp) (fp.best P lp (sym p.2)) in
          let three = at_most-more_right us vs P q.0 Q (lu ∙ sym lp) (fq.best Q lq (sym q.2)) in
          subst (λ X. AtMost (us ++ vs) (A ++ B) X) parts
          (at_most-then (us ++ vs) (A ++ B) (P ++ q.0) (P ++ Q)
          (at_most-then (us ++ vs) (A ++ B) (p.0 ++ q.0) (P ++ q.0) one two) three);
    }

-- each type of a set at a join is that of one of rows with one of sows
pub pairs-complete : (us vs : List ℤ) (n m : ℕ) (type left right : List Bool → Value) (j : Value → Value → Value) →
    ((A B : List Bool) → length A ≡ n → length B ≡ m → type (A ++ B) ≡ j (left A) (right B)) →
    (rows sows : List (List Bool)) → AreFirsts us n left rows → AreFirsts vs m right sows →
    (Z : List Bool) → length Z ≡ n + m → (A B : List Bool) × Contains rows A × Contains sows B × (type (A ++ B) ≡ type Z)
pairs-complete us vs n m type left right j law rows sows hr hs Z lz =
    let P = take n Z in
    let Q = drop n Z in
    let lp : length P ≡ n = length-take-le n Z (omega arith) in
    let lq : length Q ≡ m = length-drop n Z ∙ omega arith in
    let p = hr.complete P lp in
    let q = hs.complete Q lq in
    let fp = All-contains (λ X. IsFirst us n (λ Y. left Y ≡ left X) X) rows p.0 hr.firsts p.1 in
    let fq = All-contains (λ X. IsFirst vs m (λ Y. right Y ≡ right X) X) sows q.0 hs.firsts q.1 in (
      p.0,
      q.0,
      p.1,
      q.1,
      law p.0 q.0 fp.size fq.size ∙ ap₂ (λ x y. j x y) p.2 q.2 ∙ sym (law P Q lp lq) ∙ ap type (take-append-drop n Z),
    )

-- leaf words are compared part by part
pub precedes-parts : (A A' B B' : List Bool) → length A ≡ length A' →
    precedes (A ++ B) (A' ++ B') ≡ (precedes A A' || (not (precedes A' A) && precedes B B'))
precedes-parts [] [] B B' e = refl
precedes-parts [] (a ∷ A') B B' e = absurd (omega arith)
precedes-parts (a ∷ A) [] B B' e = absurd (omega arith)
precedes-parts (true ∷ A) (true ∷ A') B B' e = precedes-parts A A' B B' (omega arith)
precedes-parts (true ∷ A) (false ∷ A') B B' e = refl
precedes-parts (false ∷ A) (true ∷ A') B B' e = refl
precedes-parts (false ∷ A) (false ∷ A') B B' e = precedes-parts A A' B B' (omega arith)

-- no element has a mark
pub Singles-unmarked : (e : ℕ → Bool) (n : ℕ) → Singles e (unmarked n)
Singles-unmarked e n k is = go n
  where
    nothing : (n : ℕ) → list_any (λ b. b) (map (λ m. m k) (unmarked n)) ≡ false
    nothing zero = refl
    nothing (suc n) = nothing n

    go : (n : ℕ) → AtMostOne (map (λ m. m k) (unmarked n))
    go zero = tt
    go (suc n) = ((λ t. let c : false ≡ true = t in cc), go n)

-- ---- over formulas

pub assign-append : (k : ℕ) (A B : List Bool) (us vs : List Marks) → length A ≡ length us → assign k (A ++ B) (us ++ vs) ≡ assign k A us ++ assign k B vs
assign-append k [] B [] vs e = refl
assign-append k [] B (u ∷ us) vs e = absurd (omega arith)
assign-append k (a ∷ A) B [] vs e = absurd (omega arith)
assign-append k (a ∷ A) B (u ∷ us) vs e = ap (λ z. mark k a u ∷ z) (assign-append k A B us vs (omega arith))

-- a first set of one property is a first set of another that says the same
pub first-same : (ws : List ℤ) (n : ℕ) (P Q : List Bool → Type 0) → ((X : List Bool) → P X ↔ Q X) → (A : List Bool) → IsFirst ws n P A → IsFirst ws n Q A
first-same ws n P Q e A h =
    record { size = h.size; member = (e A).0 h.member; best = λ Y l q. h.best Y l ((e Y).1 q) }

pub least-set_meant : LeastSetIsMeant
least-set_meant f T ok F ws = (
  (λ A. (
    (λ e. first-same ws n P Q says A (found-is_first ws n p A e)),
    (λ h. found_it A h (least f F T ws) refl),
  )),
  ((λ e A l s. none-found ws n p e A l ((says A).1 s)), (λ none. nothing none (least f F T ws) refl)),
)
  where
    n : ℕ
    n = size T

    p : List Bool → Bool
    p = holds_of f F T

    P : List Bool → Type 0
    P = λ X. p X ≡ true

    Q : List Bool → Type 0
    Q = Satisfies f F T

    says : (X : List Bool) → P X ↔ Q X
    says X = meaning_decided f T ok F (assign 0 X (unmarked (size T)))

    found_it : (A : List Bool) → IsFirst ws n Q A → (o : Option (List Bool)) → least f F T ws ≡ o → least f F T ws ≡ Some A
    found_it A h (Some B) e =
        e ∙ ap (λ X. Some X) (first_unique ws n Q B A (first-same ws n P Q says B (found-is_first ws n p B e)) h)
    found_it A h None e = absurd (none-found ws n p e A h.size ((says A).1 h.member))

    nothing : ((A : List Bool) → length A ≡ size T → Satisfies f F T A → ⊥) → (o : Option (List Bool)) → least f F T ws ≡ o → least f F T ws ≡ None
    nothing none None e = e
    nothing none (Some B) e =
        let h = found-is_first ws n p B e in absurd (none B h.size ((says B).0 h.member))

-- the type of a set of each child, put together
type_of_pair : (f : Field) (op : Op) (l r : Tree) → IsValid f (Join op l r) → (F : Formula) (e : ℕ → Bool) (k : ℕ) → WellSorted (mark k false e) F →
    (us vs : List Marks) → Singles e (us ++ vs) → length us ≡ size l → length vs ≡ size r →
    (P Q : List Bool) → length P ≡ size l → length Q ≡ size r →
    type_of f F (Join op l r) (assign k (P ++ Q) (us ++ vs)) ≡ join_type f F op (type_of f F l (assign k P us)) (type_of f F r (assign k Q vs))
type_of_pair f op l r ok F e k w us vs s lu lv P Q lp lq =
    ap (type_of f F (Join op l r)) (assign-append k P Q us vs (lp ∙ sym lu))
    ∙ join_law f F (mark k false e) op l r (assign k P us) (assign k Q vs) w
    (Singles-set e k P Q us vs s) (length-assign k P us ∙ lu) (length-assign k Q vs ∙ lv) ok

pub least-restricts : LeastSetsRestrict
least-restricts f op l r ok F e k w us vs s lu lv ws zs lw v A B la lb h =
    first-restricts ws zs (size l) (size r)
    (λ Z. type_of f F (Join op l r) (assign k Z (us ++ vs)))
    (λ Y. type_of f F l (assign k Y us))
    (λ Y. type_of f F r (assign k Y vs))
    (join_type f F op) (type_of_pair f op l r ok F e k w us vs s lu lv)
    lw v A B la lb h

pub firsts-of-pairs : FirstsOfPairs
firsts-of-pairs f op l r ok F e k w us vs s lu lv ws zs lw rows sows hr hs A B ca cb best =
    first-of-pairs ws zs (size l) (size r)
    (λ Z. type_of f F (Join op l r) (assign k Z (us ++ vs)))
    (λ Y. type_of f F l (assign k Y us))
    (λ Y. type_of f F r (assign k Y vs))
    (join_type f F op) (type_of_pair f op l r ok F e k w us vs s lu lv)
    lw rows sows hr hs A B ca cb best

pub pairs_have_all_types : PairsOfFirstsHaveAllTypes
pairs_have_all_types f op l r ok F e k w us vs s lu lv ws zs rows sows hr hs Z lz =
    pairs-complete ws zs (size l) (size r)
    (λ Z. type_of f F (Join op l r) (assign k Z (us ++ vs)))
    (λ Y. type_of f F l (assign k Y us))
    (λ Y. type_of f F r (assign k Y vs))
    (join_type f F op) (type_of_pair f op l r ok F e k w us vs s lu lv)
    rows sows hr hs Z lz

pub different_types : FirstsHaveDifferentTypes
different_types ws n type rows h A B ca cb e =
    let fa = All-contains (λ X. IsFirst ws n (λ Y. type Y ≡ type X) X) rows A h.firsts ca in
    let fb = All-contains (λ X. IsFirst ws n (λ Y. type Y ≡ type X) X) rows B h.firsts cb in
    first_unique ws n (λ Y. type Y ≡ type A) A B fa (record { size = fb.size; member = sym e; best = λ Y l q. fb.best Y l (q ∙ e) })

pub nothing_without : NothingWithoutAcceptedFirst
nothing_without f T ok F ws rows h none A la s =
    let p = h.complete A la in
    let marks = assign 0 A (unmarked (size T)) in
    let holds = accepts-type_of f F T marks ∙ (meaning_decided f T ok F marks).1 s in
    false_true ⊥ (sym (none p.0 p.1) ∙ ap (accepts F) p.2 ∙ holds)

-- the first of the accepted first sets at the root is the answer
pub answer-of-firsts : AnswerOfFirsts
answer-of-firsts f T ok F ws rows h A ca acc best =
    let τ = λ (X : List Bool). type_of f F T (assign 0 X (unmarked (size T))) in
    let fa = All-contains (λ X. IsFirst ws (size T) (λ Y. τ Y ≡ τ X) X) rows A h.firsts ca in
    let meant = λ (X : List Bool). accepts-type_of f F T (assign 0 X (unmarked (size T))) in
    let says = λ (X : List Bool). meaning_decided f T ok F (assign 0 X (unmarked (size T))) in
    record {
      size = fa.size;
      member = (says A).0 (sym (meant A) ∙ acc);
      best = λ Y ly t.
          let p = h.complete Y ly in
          let fp = All-contains (λ X. IsFirst ws (size T) (λ Y. τ Y ≡ τ X) X) rows p.0 h.firsts p.1 in
          at_most-then ws A p.0 Y (best p.0 p.1 (ap (accepts F) p.2 ∙ meant Y ∙ (says Y).1 t)) (fp.best Y ly (sym p.2));
    }
