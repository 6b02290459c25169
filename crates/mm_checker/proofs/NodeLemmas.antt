-- Each set of elements has a row of its own type that is at least as good: how this goes up a tree.
use Rattle.std.proofs.Common.{◌≡◌, ◌⊎◌, inl, inr, ℕ, zero, suc, ◌+◌, ◌<◌, Bool, true, false, not, ◌&&◌, ◌||◌, ℤ, pos, ◌<ℤ◌, int_lt, List, [], ◌∷◌, ◌++◌, map, length, Option, Some, None, refl, sym, ap, ap₂, ◌∙◌, subst, arith, nat_lt}
use Rattle.std.specs.List.{slice_get, list_any, list_all, range_with_len}
use Rattle.std.proofs.lemmas.Bool.{and_parts, eqb-true}
use Rattle.std.proofs.lemmas.List.{length-replicate, replicate-append-replicate}
use Rattle.mm_field.specs.declared.Field.{Field}
use Rattle.mm_logic.specs.Formula.{Formula}
use Rattle.mm_logic.specs.JoinRule.{joined, lettered}
use Rattle.mm_logic.specs.Least.{weight, precedes}
use Rattle.mm_logic.specs.Marks.{Marks, assign, unmarked, no_marks}
use Rattle.mm_logic.specs.Tree as shapes
use Rattle.mm_logic.specs.Value.{Value}
use Rattle.mm_logic_laws.proofs.SplitLemmas.{length-assign}
use Rattle.mm_logic_laws.proofs.LeastLemmas.{AtMost, at_most-then, not_less, is_less, assign-append}
use Rattle.mm_tree.specs.NamedTree.{Tree, shape, weights}
use Rattle.mm_checker.specs.NodeLines.{Row, Choice, is_number, is_earlier, is_as_good, is_met}

-- ---- lists by place

pub at_push : {A : Type 0} (xs : List A) (x : A) (n : ℕ) (y : A) → slice_get (xs ++ x ∷ []) n ≡ Some y → (slice_get xs n ≡ Some y) ⊎ ((n ≡ length xs) × (x ≡ y))
at_push [] x zero y e = inr (refl, cc)
at_push [] x (suc n) y e = let no : None ≡ Some y = e in cc
at_push (z ∷ xs) x zero y e = inl e
at_push (z ∷ xs) x (suc n) y e = elim (at_push xs x n y e) [ inl h ↦ inl h | inr h ↦ inr (ap suc h.0, h.1) ]

pub at_below : {A : Type 0} (xs : List A) (n : ℕ) (y : A) → slice_get xs n ≡ Some y → n < length xs
at_below [] n y e = let no : None ≡ Some y = e in cc
at_below (z ∷ xs) zero y e = omega arith
at_below (z ∷ xs) (suc n) y e = let h = at_below xs n y e in omega (arith, h)

pub all_at : {A : Type 0} (p : A → Bool) (xs : List A) → list_all p xs ≡ true → (n : ℕ) (y : A) → slice_get xs n ≡ Some y → p y ≡ true
all_at p [] h n y e = let no : None ≡ Some y = e in cc
all_at p (z ∷ xs) h zero y e = let same : z ≡ y = cc in ap p (sym same) ∙ (and_parts (p z) (list_all p xs) h).0
all_at p (z ∷ xs) h (suc n) y e = all_at p xs (and_parts (p z) (list_all p xs) h).1 n y e

pub any_at : {A : Type 0} (p : A → Bool) (xs : List A) → list_any p xs ≡ true → (n : ℕ) × (y : A) × (slice_get xs n ≡ Some y) × (p y ≡ true)
any_at p [] h = let no : false ≡ true = h in cc
any_at p (z ∷ xs) h = by (any_at p xs) (p z) refl h
  where
    by : (list_any p xs ≡ true → (n : ℕ) × (y : _) × (slice_get xs n ≡ Some y) × (p y ≡ true)) → (b : Bool) → p z ≡ b → (b || list_any p xs) ≡ true
        → (n : ℕ) × (y : _) × (slice_get (z ∷ xs) n ≡ Some y) × (p y ≡ true)
    by ih true e h = (zero, z, refl, e)
    by ih false e h = let r = ih h in (suc r.0, r.1, r.2, r.3)

range_at : (p : ℕ → Bool) (from n : ℕ) → list_all p (range_with_len from n) ≡ true → (k : ℕ) → k < n → p (from + k) ≡ true
range_at p from zero h k l = absurd (omega (arith, l))
range_at p from (suc n) h zero l = subst (λ i. p i ≡ true) (omega arith) (and_parts (p from) (list_all p (range_with_len (from + 1) n)) h).0
range_at p from (suc n) h (suc k) l =
    subst (λ i. p i ≡ true) (omega arith)
    (range_at p (from + 1) n (and_parts (p from) (list_all p (range_with_len (from + 1) n)) h).1 k (omega (arith, l)))

range_zero : (p : ℕ → Bool) (n : ℕ) → list_all p (range_with_len 0 n) ≡ true → (k : ℕ) → k < n → p k ≡ true
range_zero p n h k l = subst (λ i. p i ≡ true) (omega arith) (range_at p 0 n h k l)

-- ---- the order of places

nat_lt-true : (a b : ℕ) → nat_lt a b ≡ true → a < b
nat_lt-true a b h = grind arith

true-nat_lt : (a b : ℕ) → a < b → nat_lt a b ≡ true
true-nat_lt a b h = grind arith

-- (x, y) is before (u, v) by its first place, or by its second
pub earlier_cases : (x y u v : ℕ) → is_earlier x y u v ≡ true → (x < u) ⊎ ((x ≡ u) × (y < v))
earlier_cases x y u v h = grind arith

pub not_earlier : (x y u v : ℕ) → is_earlier x y u v ≡ false → ((x ≡ u) × (y ≡ v)) ⊎ (is_earlier u v x y ≡ true)
not_earlier x y u v h = grind arith

pub number_is : (o : Option ℕ) (n : ℕ) → is_number o n ≡ true → o ≡ Some n
number_is None n h = let no : false ≡ true = h in cc
number_is (Some m) n h = ap (λ k. Some k) (eqb-true m n h)

-- ---- types and weights, whether a formula is decided or a least set is sought

abbrev pub asked_weights : Bool → Tree → List ℤ
asked_weights true T = weights T
asked_weights false T = map (λ w. pos 0) (weights T)

abbrev pub assigned : Bool → List Bool → ℕ → List Marks
assigned true Z n = assign 0 Z (unmarked n)
assigned false Z n = unmarked n

pub length-assigned : (least : Bool) (Z : List Bool) (n : ℕ) → length (assigned least Z n) ≡ n
length-assigned true Z n = length-assign 0 Z (unmarked n) ∙ length-replicate n no_marks
length-assigned false Z n = length-replicate n no_marks

pub assigned-append : (least : Bool) (A B : List Bool) (n m : ℕ) → length A ≡ n → assigned least (A ++ B) (n + m) ≡ assigned least A n ++ assigned least B m
assigned-append true A B n m e =
    ap (assign 0 (A ++ B)) (sym (replicate-append-replicate n m no_marks))
    ∙ assign-append 0 A B (unmarked n) (unmarked m) (e ∙ sym (length-replicate n no_marks))
assigned-append false A B n m e = sym (replicate-append-replicate n m no_marks)

pub count_of : Tree → ℕ
count_of T = shapes.size (shape T)

module _ (least : Bool) (f : Field) (F : Formula) (g : ℕ → Value) where
  abbrev pub type_at : Tree → List Bool → Value
  type_at T Z = joined f F (lettered (shape T) (assigned least Z (shapes.size (shape T))))

  -- a row is of a set of elements, with its type and its weight
  pub record IsRow (T : Tree) (r : Row) : Type 0 where
    pub count : length r.set ≡ shapes.size (shape T)
    pub types : g r.value ≡ type_at T r.set
    pub weighs : r.weight ≡ weight (asked_weights least T) r.set

  -- The rows stand for a tree: their sets rise, and each set of elements has a row of its type that is at least as good.
  pub record Stands (T : Tree) (rows : List Row) : Type 0 where
    pub each : (k : ℕ) (r : Row) → slice_get rows k ≡ Some r → IsRow T r
    pub rising : (i k : ℕ) (q r : Row) → i < k → slice_get rows i ≡ Some q → slice_get rows k ≡ Some r → precedes q.set r.set ≡ true
    pub every : (Z : List Bool) → length Z ≡ shapes.size (shape T)
        → (k : ℕ) × (r : Row) × (slice_get rows k ≡ Some r) × (type_at T r.set ≡ type_at T Z) × AtMost (asked_weights least T) r.set Z

  -- ---- choices

  -- a choice is of a set of elements, with its weight, and with its type where it has a number
  pub record IsChoice (T : Tree) (x y : ℕ) (c : Choice) : Type 0 where
    pub count : length c.set ≡ shapes.size (shape T)
    pub types : (v : ℕ) → c.value ≡ Some v → g v ≡ type_at T c.set
    pub weighs : c.weight ≡ weight (asked_weights least T) c.set
    pub left : c.x ≡ x
    pub right : c.y ≡ y

  -- Choices are good where their sets rise, and each set has a choice of its type that is at least as good.
  pub record AreGood (T : Tree) (chosen : ℕ → ℕ → Option Choice) (lefts rights : ℕ) : Type 0 where
    pub fits : (x y : ℕ) (c : Choice) → chosen x y ≡ Some c → IsChoice T x y c
    pub ordered : (x y u v : ℕ) (c d : Choice) → is_earlier x y u v ≡ true → chosen x y ≡ Some c → chosen u v ≡ Some d → precedes c.set d.set ≡ true
    pub complete : (Z : List Bool) → length Z ≡ shapes.size (shape T)
        → (x : ℕ) × (y : ℕ) × (c : Choice) × (x < lefts) × (y < rights) × (chosen x y ≡ Some c)
        × (type_at T c.set ≡ type_at T Z) × AtMost (asked_weights least T) c.set Z

  -- a row is the choice of its places, with the value that a claim gives
  pub record IsChosen (chosen : ℕ → ℕ → Option Choice) (r : Row) : Type 0 where
    pub from : Choice
    pub at : chosen r.x r.y ≡ Some from
    pub value : from.value ≡ Some r.value
    pub weighs : r.weight ≡ from.weight
    pub sets : r.set ≡ from.set

  -- rows are choices in rising order
  pub record AreChosen (chosen : ℕ → ℕ → Option Choice) (rows : List Row) : Type 0 where
    pub each : (k : ℕ) (r : Row) → slice_get rows k ≡ Some r → IsChosen chosen r
    pub rising : (i k : ℕ) (q r : Row) → i < k → slice_get rows i ≡ Some q → slice_get rows k ≡ Some r → is_earlier q.x q.y r.x r.y ≡ true

  module _ (T : Tree) (chosen : ℕ → ℕ → Option Choice) (lefts rights : ℕ) (good : AreGood T chosen lefts rights) where
    row_of : (r : Row) → IsChosen chosen r → IsRow T r
    row_of r h =
        let c = good.fits r.x r.y h.from h.at in
        record {
          count = ap length h.sets ∙ c.count;
          types = c.types r.value h.value ∙ ap (type_at T) (sym h.sets);
          weighs = h.weighs ∙ c.weighs ∙ ap (weight (asked_weights least T)) (sym h.sets);
        }

    -- a row that is at least as good as a choice has its type, and a set that is at most its own
    better : (x y : ℕ) (c : Choice) (r : Row) → chosen x y ≡ Some c → IsChosen chosen r → is_as_good c r ≡ true
        → (type_at T r.set ≡ type_at T c.set) × AtMost (asked_weights least T) r.set c.set
    better x y c r e h good_enough =
        let p = and_parts (is_number c.value r.value) (int_lt r.weight c.weight || (not (int_lt c.weight r.weight) && not (is_earlier c.x c.y r.x r.y))) good_enough in
        (sym (mine.types) ∙ its.types r.value (number_is c.value r.value p.0), by (int_lt r.weight c.weight) (int_lt c.weight r.weight) (is_earlier c.x c.y r.x r.y) refl refl refl p.1)
      where
        mine : IsRow T r
        mine = row_of r h

        its : IsChoice T x y c
        its = good.fits x y c e

        ws : List ℤ
        ws = asked_weights least T

        same_weight : r.weight ≡ c.weight → weight ws r.set ≡ weight ws c.set
        same_weight q = sym mine.weighs ∙ q ∙ its.weighs

        ordered_so : ((c.x ≡ r.x) × (c.y ≡ r.y)) ⊎ (is_earlier r.x r.y c.x c.y ≡ true) → r.weight ≡ c.weight → AtMost ws r.set c.set
        ordered_so (inl q) w =
            let at : chosen x y ≡ chosen r.x r.y = ap₂ chosen (sym its.left ∙ q.0) (sym its.right ∙ q.1) in
            let same : c ≡ h.from = cc in
            inl (h.sets ∙ ap (λ d. d.set) (sym same))
        ordered_so (inr q) w =
            inr (inr (
              same_weight w,
              ap (λ Z. precedes Z c.set) h.sets
                  ∙ good.ordered r.x r.y x y h.from c (subst (λ k. is_earlier r.x r.y k y ≡ true) its.left (subst (λ k. is_earlier r.x r.y c.x k ≡ true) its.right q)) h.at e,
            ))

        by : (a b s : Bool) → int_lt r.weight c.weight ≡ a → int_lt c.weight r.weight ≡ b → is_earlier c.x c.y r.x r.y ≡ s
            → (a || (not b && not s)) ≡ true → AtMost ws r.set c.set
        by true b s i k m q = inr (inl (subst (λ w. w <ℤ weight ws c.set) mine.weighs (subst (λ w. r.weight <ℤ w) its.weighs (is_less r.weight c.weight i))))
        by false true s i k m q = let no : false ≡ true = q in cc
        by false false true i k m q = let no : false ≡ true = q in cc
        by false false false i k m q = ordered_so (not_earlier c.x c.y r.x r.y m) (not_less r.weight c.weight i k)

    -- rows that meet all choices stand for the tree
    pub node_stands : (rows : List Row) → AreChosen chosen rows
        → list_all (λ x. list_all (λ y. is_met rows (chosen x y)) (range_with_len 0 rights)) (range_with_len 0 lefts) ≡ true → Stands T rows
    node_stands rows h met = record {
      each = λ k r e. row_of r (h.each k r e);
      rising = λ i k q r l e d.
          let a = h.each i q e in
          let b = h.each k r d in
          ap₂ precedes a.sets b.sets ∙ good.ordered q.x q.y r.x r.y a.from b.from (h.rising i k q r l e d) a.at b.at;
      every = λ Z l.
          let c = good.complete Z l in
          let inner = range_zero (λ x. list_all (λ y. is_met rows (chosen x y)) (range_with_len 0 rights)) lefts met c.0 c.3 in
          let one : is_met rows (chosen c.0 c.1) ≡ true = range_zero (λ y. is_met rows (chosen c.0 y)) rights inner c.1 c.4 in
          let some : list_any (is_as_good c.2) rows ≡ true = sym (ap (is_met rows) c.5) ∙ one in
          let r = any_at (is_as_good c.2) rows some in
          let b = better c.0 c.1 c.2 r.1 c.5 (h.each r.0 r.1 r.2) r.3 in
          (r.0, r.1, r.2, b.0 ∙ c.6, at_most-then (asked_weights least T) r.1.set c.2.set Z b.1 c.7);
    }
