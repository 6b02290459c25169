-- The function `holds` decides the relation `Holds`.
use Rattle.std.proofs.Common.{◌≡◌, ◌<◌, ◌↔◌, ◌⊎◌, ℕ, suc, zero, Bool, true, false, not, ◌&&◌, ◌||◌, List, [], ◌∷◌, map, length, get_or, refl, sym, ap, ◌∙◌, subst, arith, inl, inr}
use Rattle.std.specs.List.{list_any, list_all}
use Rattle.std.proofs.lemmas.List.Folds.{list_any-append}
use Rattle.std.proofs.lemmas.Bool.{or_cases, or_left, or_right, and_parts, and_from, both_ways, not-true, false_from_ne_true}
use Rattle.std.proofs.Math.Bool.{or-false}
use Rattle.mm_logic.specs.Formula.{Connective, connect, implies, iff}
use Rattle.mm_logic.specs.Formula.Connective.{And, Or, Implies, Iff}
use Rattle.mm_logic.specs.Formula.Formula.{Const, Ind, Member, SameElem, Sub, SameSet, Not, Bin, ExSet, AllSet, ExElem, AllElem}
use Rattle.mm_logic.specs.Marks.{Marks, no_marks, assign, none, only, sets, singles}
use Rattle.mm_logic.specs.Meaning.{union, Connected, Holds, holds}
use Rattle.mm_logic_laws.specs.MeaningLaws.{MeaningIsDecided}
use Rattle.mm_logic.proofs.SetLemmas.{list_any-map, list_all-any}
use Rattle.mm_logic_laws.proofs.MatrixLemmas.{independence_decided}
use Rattle.mm_linear.proofs.SpaceLemmas.{false_true}

-- b decides P
abbrev Decides : Bool → Type 0 → Type 0
Decides b P = (b ≡ true) ↔ P

-- ---- the list of sets is all sets

two_halves : (p : List Bool → Bool) (n : ℕ) → list_any p (sets (suc n)) ≡ (list_any (λ X. p (false ∷ X)) (sets n) || list_any (λ X. p (true ∷ X)) (sets n))
two_halves p n =
    list_any-append p (map (λ X. false ∷ X) (sets n)) (map (λ X. true ∷ X) (sets n))
    ∙ (λ i. list_any-map p (λ X. false ∷ X) (sets n) i || list_any-map p (λ X. true ∷ X) (sets n) i)

pub some_set : (p : List Bool → Bool) (n : ℕ) → list_any p (sets n) ≡ true → (X : List Bool) × (length X ≡ n) × (p X ≡ true)
some_set p zero h = ([], refl, sym (or-false (p [])) ∙ h)
some_set p (suc n) h = by (or_cases _ _ (sym (two_halves p n) ∙ h)) (some_set (λ X. p (false ∷ X)) n) (some_set (λ X. p (true ∷ X)) n)
  where
    by : (list_any (λ X. p (false ∷ X)) (sets n) ≡ true) ⊎ (list_any (λ X. p (true ∷ X)) (sets n) ≡ true)
        → (list_any (λ X. p (false ∷ X)) (sets n) ≡ true → (X : List Bool) × (length X ≡ n) × (p (false ∷ X) ≡ true))
        → (list_any (λ X. p (true ∷ X)) (sets n) ≡ true → (X : List Bool) × (length X ≡ n) × (p (true ∷ X) ≡ true))
        → (X : List Bool) × (length X ≡ suc n) × (p X ≡ true)
    by (inl e) f g = let r = f e in (false ∷ r.0, ap suc r.1, r.2)
    by (inr e) f g = let r = g e in (true ∷ r.0, ap suc r.1, r.2)

pub from_set : (p : List Bool → Bool) (X : List Bool) → p X ≡ true → list_any p (sets (length X)) ≡ true
from_set p [] h = or-false (p []) ∙ h
from_set p (false ∷ X) h = two_halves p (length X) ∙ or_left _ _ (from_set (λ Y. p (false ∷ Y)) X h)
from_set p (true ∷ X) h = two_halves p (length X) ∙ or_right _ _ (from_set (λ Y. p (true ∷ Y)) X h)

-- ---- the list of single elements is all elements

pub some_only : (p : List Bool → Bool) (n : ℕ) → list_any p (singles n) ≡ true → (i : ℕ) × (i < n) × (p (only n i) ≡ true)
some_only p zero h = let c : false ≡ true = h in cc
some_only p (suc n) h =
    by (or_cases (p (true ∷ none n)) (list_any (λ X. p (false ∷ X)) (singles n)) (ap (λ b. p (true ∷ none n) || b) (sym (list_any-map p (λ X. false ∷ X) (singles n))) ∙ h))
    (some_only (λ X. p (false ∷ X)) n)
  where
    by : (p (true ∷ none n) ≡ true) ⊎ (list_any (λ X. p (false ∷ X)) (singles n) ≡ true)
        → (list_any (λ X. p (false ∷ X)) (singles n) ≡ true → (i : ℕ) × (i < n) × (p (false ∷ only n i) ≡ true))
        → (i : ℕ) × (i < suc n) × (p (only (suc n) i) ≡ true)
    by (inl e) f = (zero, omega arith, e)
    by (inr e) f = let r = f e in (suc r.0, omega (arith, r.1), r.2)

pub from_only : (p : List Bool → Bool) (n i : ℕ) → i < n → p (only n i) ≡ true → list_any p (singles n) ≡ true
from_only p zero i l h = absurd (omega arith)
from_only p (suc n) zero l h = or_left (p (true ∷ none n)) (list_any p (map (λ X. false ∷ X) (singles n))) h
from_only p (suc n) (suc i) l h =
    or_right (p (true ∷ none n)) (list_any p (map (λ X. false ∷ X) (singles n)))
    (list_any-map p (λ X. false ∷ X) (singles n) ∙ from_only (λ X. p (false ∷ X)) n i (omega (arith, l)) h)

-- ---- the elements of an assignment

some_element : (p : Marks → Bool) (ms : List Marks) → list_any p ms ≡ true → (i : ℕ) × (p (get_or ms i no_marks) ≡ true)
some_element p [] h = let c : false ≡ true = h in cc
some_element p (m ∷ ms) h = by (or_cases (p m) (list_any p ms) h) (some_element p ms)
  where
    by : (p m ≡ true) ⊎ (list_any p ms ≡ true) → (list_any p ms ≡ true → (i : ℕ) × (p (get_or ms i no_marks) ≡ true))
        → (i : ℕ) × (p (get_or (m ∷ ms) i no_marks) ≡ true)
    by (inl e) f = (zero, e)
    by (inr e) f = let r = f e in (suc r.0, r.1)

from_element : (p : Marks → Bool) (ms : List Marks) (i : ℕ) → p no_marks ≡ false → p (get_or ms i no_marks) ≡ true → list_any p ms ≡ true
from_element p [] i none h = let c : false ≡ true = sym none ∙ h in cc
from_element p (m ∷ ms) zero none h = or_left (p m) (list_any p ms) h
from_element p (m ∷ ms) (suc i) none h = or_right (p m) (list_any p ms) (from_element p ms i none h)

each_element : (p : Marks → Bool) (ms : List Marks) → p no_marks ≡ true → list_all p ms ≡ true → (i : ℕ) → p (get_or ms i no_marks) ≡ true
each_element p [] none h i = none
each_element p (m ∷ ms) none h zero = (and_parts (p m) (list_all p ms) h).0
each_element p (m ∷ ms) none h (suc i) = each_element p ms none (and_parts (p m) (list_all p ms) h).1 i

all_elements : (p : Marks → Bool) (ms : List Marks) → ((i : ℕ) → p (get_or ms i no_marks) ≡ true) → list_all p ms ≡ true
all_elements p [] h = refl
all_elements p (m ∷ ms) h = (λ i. h zero i && list_all p ms) ∙ all_elements p ms (λ i. h (suc i))

-- ---- truth tables

implies_says : (a b : Bool) → implies a b ≡ true → a ≡ true → b ≡ true
implies_says true b h k = h
implies_says false b h k = false_true _ k

implies_from : (a b : Bool) → (a ≡ true → b ≡ true) → implies a b ≡ true
implies_from true b h = h refl
implies_from false b h = refl

iff_says : (a b : Bool) → iff a b ≡ true → (a ≡ true) ↔ (b ≡ true)
iff_says true b h = ((λ e. h), (λ e. refl))
iff_says false true h = false_true _ h
iff_says false false h = ((λ e. e), (λ e. e))

iff_from : (a b : Bool) → (a ≡ true) ↔ (b ≡ true) → iff a b ≡ true
iff_from true b h = h.0 refl
iff_from false true h = h.1 refl
iff_from false false h = refl

negation : (b : Bool) (P : Type 0) → Decides b P → Decides (not b) (P → ⊥)
negation true P h = ((λ e. false_true _ e), (λ k. absurd (k (h.0 refl))))
negation false P h = ((λ e p. false_true _ (h.1 p)), (λ k. refl))

connective : (o : Connective) (b c : Bool) (P Q : Type 0) → Decides b P → Decides c Q → Decides (connect o b c) (Connected o P Q)
connective And b c P Q h k =
    ((λ e. let parts = and_parts b c e in (h.0 parts.0, k.0 parts.1)), (λ p. and_from b c (h.1 p.0) (k.1 p.1)))
connective Or b c P Q h k = ((λ e. split (or_cases b c e)), merge)
  where
    split : (b ≡ true) ⊎ (c ≡ true) → P ⊎ Q
    split (inl e) = inl (h.0 e)
    split (inr e) = inr (k.0 e)

    merge : P ⊎ Q → (b || c) ≡ true
    merge (inl p) = or_left b c (h.1 p)
    merge (inr q) = or_right b c (k.1 q)
connective Implies b c P Q h k = ((λ e p. k.0 (implies_says b c e (h.1 p))), (λ q. implies_from b c (λ e. k.1 (q (h.0 e)))))
connective Iff b c P Q h k = (
  (λ e. let s = iff_says b c e in ((λ p. k.0 (s.0 (h.1 p))), (λ q. h.0 (s.1 (k.1 q))))),
  (λ s. iff_from b c ((λ e. k.1 (s.0 (h.0 e))), (λ e. h.1 (s.1 (k.0 e))))),
)

-- all pass where none fails
all_from_none : {A : Type 0} (p : A → Bool) (xs : List A) → (list_any (λ x. not (p x)) xs ≡ true → ⊥) → list_all p xs ≡ true
all_from_none p xs h = list_all-any p xs ∙ ap not (false_from_ne_true (list_any (λ x. not (p x)) xs) h)

none_fails : {A : Type 0} (p : A → Bool) (xs : List A) → list_all p xs ≡ true → list_any (λ x. not (p x)) xs ≡ true → ⊥
none_fails p xs h k = false_true _ (sym (ap not k) ∙ sym (list_all-any p xs) ∙ h)

passes : (b : Bool) → (not b ≡ true → ⊥) → b ≡ true
passes true h = refl
passes false h = absurd (h refl)

-- ---- quantifiers, whatever the formula below

some_set_decides : (p : List Bool → Bool) (P : List Bool → Type 0) (n : ℕ) → ((X : List Bool) → Decides (p X) (P X))
    → Decides (list_any p (sets n)) ((X : List Bool) × (length X ≡ n) × P X)
some_set_decides p P n h = (
  (λ e. let r = some_set p n e in (r.0, r.1, (h r.0).0 r.2)),
  (λ r. subst (λ k. list_any p (sets k) ≡ true) r.1 (from_set p r.0 ((h r.0).1 r.2))),
)

all_sets_decide : (p : List Bool → Bool) (P : List Bool → Type 0) (n : ℕ) → ((X : List Bool) → Decides (p X) (P X))
    → Decides (list_all p (sets n)) ((X : List Bool) → length X ≡ n → P X)
all_sets_decide p P n h = (
  (λ e X l. (h X).0 (passes (p X) (λ q. none_fails p (sets n) e (subst (λ k. list_any (λ Y. not (p Y)) (sets k) ≡ true) l (from_set (λ Y. not (p Y)) X q))))),
  (λ each. all_from_none p (sets n) (λ e. let r = some_set (λ Y. not (p Y)) n e in both_ways (p r.0) (not-true (p r.0) r.2) ((h r.0).1 (each r.0 r.1)))),
)

some_element_decides : (p : List Bool → Bool) (P : List Bool → Type 0) (n : ℕ) → ((X : List Bool) → Decides (p X) (P X))
    → Decides (list_any p (singles n)) ((i : ℕ) × (i < n) × P (only n i))
some_element_decides p P n h = (
  (λ e. let r = some_only p n e in (r.0, r.1, (h (only n r.0)).0 r.2)),
  (λ r. from_only p n r.0 r.1 ((h (only n r.0)).1 r.2)),
)

all_elements_decide : (p : List Bool → Bool) (P : List Bool → Type 0) (n : ℕ) → ((X : List Bool) → Decides (p X) (P X))
    → Decides (list_all p (singles n)) ((i : ℕ) → i < n → P (only n i))
all_elements_decide p P n h = (
  (λ e i l. (h (only n i)).0 (passes (p (only n i)) (λ q. none_fails p (singles n) e (from_only (λ Y. not (p Y)) n i l q)))),
  (λ each. all_from_none p (singles n) (λ e. let r = some_only (λ Y. not (p Y)) n e in both_ways (p (only n r.0)) (not-true (p (only n r.0)) r.2) ((h (only n r.0)).1 (each r.0 r.1)))),
)

-- ---- the law

pub meaning_decided : MeaningIsDecided
meaning_decided f T ok (Const b) ms = ((λ e. e), (λ e. e))
meaning_decided f T ok (Ind t) ms = independence_decided f T ok (union t ms)
meaning_decided f T ok (Member x a) ms = (
  (λ e. let r = some_element (λ m. m x && m a) ms e in let parts = and_parts (get_or ms r.0 no_marks x) (get_or ms r.0 no_marks a) r.1 in (r.0, parts.0, parts.1)),
  (λ r. from_element (λ m. m x && m a) ms r.0 refl (and_from (get_or ms r.0 no_marks x) (get_or ms r.0 no_marks a) r.1 r.2)),
)
meaning_decided f T ok (SameElem x y) ms = (
  (λ e. let r = some_element (λ m. m x && m y) ms e in let parts = and_parts (get_or ms r.0 no_marks x) (get_or ms r.0 no_marks y) r.1 in (r.0, parts.0, parts.1)),
  (λ r. from_element (λ m. m x && m y) ms r.0 refl (and_from (get_or ms r.0 no_marks x) (get_or ms r.0 no_marks y) r.1 r.2)),
)
meaning_decided f T ok (Sub a b) ms = (
  (λ e i. implies_says (get_or ms i no_marks a) (get_or ms i no_marks b) (each_element (λ m. implies (m a) (m b)) ms refl e i)),
  (λ h. all_elements (λ m. implies (m a) (m b)) ms (λ i. implies_from (get_or ms i no_marks a) (get_or ms i no_marks b) (h i))),
)
meaning_decided f T ok (SameSet a b) ms = (
  (λ e i. iff_says (get_or ms i no_marks a) (get_or ms i no_marks b) (each_element (λ m. iff (m a) (m b)) ms refl e i)),
  (λ h. all_elements (λ m. iff (m a) (m b)) ms (λ i. iff_from (get_or ms i no_marks a) (get_or ms i no_marks b) (h i))),
)
meaning_decided f T ok (Not F) ms = negation (holds f F T ms) (Holds f F T ms) (meaning_decided f T ok F ms)
meaning_decided f T ok (Bin o F G) ms =
    connective o (holds f F T ms) (holds f G T ms) (Holds f F T ms) (Holds f G T ms) (meaning_decided f T ok F ms) (meaning_decided f T ok G ms)
meaning_decided f T ok (ExSet k F) ms =
    some_set_decides (λ X. holds f F T (assign k X ms)) (λ X. Holds f F T (assign k X ms)) (length ms) (λ X. meaning_decided f T ok F (assign k X ms))
meaning_decided f T ok (AllSet k F) ms =
    all_sets_decide (λ X. holds f F T (assign k X ms)) (λ X. Holds f F T (assign k X ms)) (length ms) (λ X. meaning_decided f T ok F (assign k X ms))
meaning_decided f T ok (ExElem k F) ms =
    some_element_decides (λ X. holds f F T (assign k X ms)) (λ X. Holds f F T (assign k X ms)) (length ms) (λ X. meaning_decided f T ok F (assign k X ms))
meaning_decided f T ok (AllElem k F) ms =
    all_elements_decide (λ X. holds f F T (assign k X ms)) (λ X. Holds f F T (assign k X ms)) (length ms) (λ X. meaning_decided f T ok F (assign k X ms))
