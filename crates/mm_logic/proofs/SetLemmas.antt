-- Sets as lists that rise: what `normal` keeps, and that two sets with the same members are equal.
use Rattle.std.proofs.Common.{◌≡◌, Bool, true, false, not, ◌&&◌, ◌||◌, List, [], ◌∷◌, map, All, refl, sym, ap, ◌∙◌, subst, flat_map}
use Rattle.std.specs.List.{list_any, list_all}
use Rattle.std.specs.Ordering.{is_eq, ordering_reverse, eq_by_cmp}
use Rattle.std.specs.Cmp.{IsTotalOrder}
use Rattle.std.specs.FinMap.{IsAntisymmetric}
use Rattle.std.proofs.lemmas.Cmp.{tied_itself}
use Rattle.std.proofs.lemmas.List.Folds.{list_any-append}
use Rattle.std.proofs.lemmas.List.Elements.{All-nil, All-cons, All-head, All-tail}
use Rattle.std.proofs.Math.Bool.{and-false, and-true}
use Rattle.std.specs.declared.cmp.Ordering.{Ordering}
use Rattle.std.specs.declared.cmp.Ordering.TheVariants.{Less, Equal, Greater}
use Rattle.mm_logic.specs.Order.{SameMembers, by_order, insert, normal, Below, Rising}

pub or_swap : (a b c : Bool) → (a || (b || c)) ≡ (b || (a || c))
or_swap true true c = refl
or_swap true false c = refl
or_swap false b c = refl

pub or_twice : (a c : Bool) → (a || (a || c)) ≡ (a || c)
or_twice true c = refl
or_twice false c = refl

pub list_any-map : {A B : Type 0} (p : B → Bool) (f : A → B) (xs : List A) → list_any p (map f xs) ≡ list_any (λ x. p (f x)) xs
list_any-map p f [] = refl
list_any-map p f (x ∷ xs) = ap (λ b. p (f x) || b) (list_any-map p f xs)

pub list_any-flat_map : {A B : Type 0} (p : B → Bool) (f : A → List B) (xs : List A) → list_any p (flat_map f xs) ≡ list_any (λ x. list_any p (f x)) xs
list_any-flat_map p f [] = refl
list_any-flat_map p f (x ∷ xs) = list_any-append p (f x) (flat_map f xs) ∙ ap (λ b. list_any p (f x) || b) (list_any-flat_map p f xs)

pub list_all-any : {A : Type 0} (p : A → Bool) (xs : List A) → list_all p xs ≡ not (list_any (λ x. not (p x)) xs)
list_all-any p [] = refl
list_all-any p (x ∷ xs) = elim (p x) as (λ b. (b && list_all p xs) ≡ not (not b || list_any (λ y. not (p y)) xs)) [ true ↦ list_all-any p xs | false ↦ refl ]

-- tests that agree everywhere
pub list_any-same : {A : Type 0} (p q : A → Bool) → ((x : A) → p x ≡ q x) → (xs : List A) → list_any p xs ≡ list_any q xs
list_any-same p q e xs = λ i. list_any (λ x. e x i) xs

-- what is true of each value is true of each member of their set
pub All-insert : {A : Type 0} (R : A → A → Ordering) (P : A → Type 0) (v : A) (xs : List A) → P v → All P xs → All P (insert R v xs)
All-insert R P v [] hv h = All-cons P v [] hv (All-nil P)
All-insert R P v (w ∷ ws) hv h = by (All-insert R P v ws hv (All-tail P w ws h)) (R v w)
  where
    by : All P (insert R v ws) → (r : Ordering) → All P (by_order r (v ∷ w ∷ ws) (w ∷ ws) (w ∷ insert R v ws))
    by ih Less = All-cons P v (w ∷ ws) hv h
    by ih Equal = h
    by ih Greater = All-cons P w (insert R v ws) (All-head P w ws h) ih

pub All-normal : {A : Type 0} (R : A → A → Ordering) (P : A → Type 0) (xs : List A) → All P xs → All P (normal R xs)
All-normal R P [] h = All-nil P
All-normal R P (x ∷ xs) h = All-insert R P x (normal R xs) (All-head P x xs h) (All-normal R P xs (All-tail P x xs h))

module _ {A : Type 0} {R : A → A → Ordering} (o : IsTotalOrder R) (exact : IsAntisymmetric R) where
  -- a test of the set with v is the test of v, or of the rest
  pub list_any-insert : (p : A → Bool) (v : A) (xs : List A) → list_any p (insert R v xs) ≡ (p v || list_any p xs)
  list_any-insert p v [] = refl
  list_any-insert p v (w ∷ ws) = by (list_any-insert p v ws) (R v w) refl
    where
      by : list_any p (insert R v ws) ≡ (p v || list_any p ws) → (r : Ordering) → R v w ≡ r → list_any p (by_order r (v ∷ w ∷ ws) (w ∷ ws) (w ∷ insert R v ws)) ≡ (p v || (p w || list_any p ws))
      by ih Less e = refl
      by ih Equal e = sym (or_twice (p w) (list_any p ws)) ∙ ap (λ x. p x || (p w || list_any p ws)) (sym (exact v w e))
      by ih Greater e = ap (λ b. p w || b) ih ∙ or_swap (p w) (p v) (list_any p ws)

  pub list_any-normal : (p : A → Bool) (xs : List A) → list_any p (normal R xs) ≡ list_any p xs
  list_any-normal p [] = refl
  list_any-normal p (x ∷ xs) = list_any-insert p x (normal R xs) ∙ ap (λ b. p x || b) (list_any-normal p xs)

  reversed : (x y : A) → R x y ≡ Greater → R y x ≡ Less
  reversed x y e = o.antisymm y x ∙ ap ordering_reverse e

  below_trans : (x y : A) (zs : List A) → R x y ≡ Less → Below R y zs → Below R x zs
  below_trans x y [] e h = tt
  below_trans x y (z ∷ zs) e h = (o.trans x y z e h.0, below_trans x y zs e h.1)

  Below-insert : (x v : A) (xs : List A) → R x v ≡ Less → Below R x xs → Below R x (insert R v xs)
  Below-insert x v [] e h = (e, tt)
  Below-insert x v (w ∷ ws) e h = by (Below-insert x v ws e h.1) (R v w)
    where
      by : Below R x (insert R v ws) → (r : Ordering) → Below R x (by_order r (v ∷ w ∷ ws) (w ∷ ws) (w ∷ insert R v ws))
      by ih Less = (e, h)
      by ih Equal = h
      by ih Greater = (h.0, ih)

  pub Rising-insert : (v : A) (xs : List A) → Rising R xs → Rising R (insert R v xs)
  Rising-insert v [] h = (tt, tt)
  Rising-insert v (w ∷ ws) h = by (Rising-insert v ws h.1) (R v w) refl
    where
      by : Rising R (insert R v ws) → (r : Ordering) → R v w ≡ r → Rising R (by_order r (v ∷ w ∷ ws) (w ∷ ws) (w ∷ insert R v ws))
      by ih Less e = ((e, below_trans v w ws e h.0), h)
      by ih Equal e = h
      by ih Greater e = (Below-insert w v ws (reversed v w e) h.0, ih)

  pub Rising-normal : (xs : List A) → Rising R (normal R xs)
  Rising-normal [] = tt
  Rising-normal (x ∷ xs) = Rising-insert x (normal R xs) (Rising-normal xs)

  -- what is below all is not among them
  not_among : (x : A) (xs : List A) → Below R x xs → list_any (eq_by_cmp R x) xs ≡ false
  not_among x [] h = refl
  not_among x (y ∷ ys) h = ap (λ r. is_eq r || list_any (eq_by_cmp R x) ys) h.0 ∙ not_among x ys h.1

  -- so leaving it out changes no test
  left_out : (p : A → Bool) (x : A) (xs : List A) → Below R x xs → list_any (λ y. p y && not (eq_by_cmp R x y)) xs ≡ list_any p xs
  left_out p x [] h = refl
  left_out p x (y ∷ ys) h = (λ i. (p y && not (is_eq (h.0 i))) || left_out p x ys h.1 i) ∙ ap (λ b. b || list_any p ys) (and-true (p y))

  -- a set whose least value is not the other's is another set
  apart : (x y : A) (xs ys : List A) → R x y ≡ Less → Below R y ys → SameMembers (x ∷ xs) (y ∷ ys) → ⊥
  apart x y xs ys e h same =
      let here : list_any (eq_by_cmp R x) (x ∷ xs) ≡ true = ap (λ r. is_eq r || list_any (eq_by_cmp R x) xs) (tied_itself o x) in
      let gone : list_any (eq_by_cmp R x) (y ∷ ys) ≡ false = not_among x (y ∷ ys) (e, below_trans x y ys e h) in
      let clash : true ≡ false = sym here ∙ same (eq_by_cmp R x) ∙ gone in
      cc

  -- two sets with the same members are equal
  pub same_set : (xs ys : List A) → Rising R xs → Rising R ys → SameMembers xs ys → xs ≡ ys
  same_set [] [] h k same = refl
  same_set [] (y ∷ ys) h k same = let e : false ≡ true = same (λ z. true) in cc
  same_set (x ∷ xs) [] h k same = let e : true ≡ false = same (λ z. true) in cc
  same_set (x ∷ xs) (y ∷ ys) h k same = by (same_set xs ys h.1 k.1) (R x y) refl
    where
      rest : R x y ≡ Equal → SameMembers xs ys
      rest e p =
          let q : A → Bool = λ z. p z && not (eq_by_cmp R x z) in
          let at_x : q x ≡ false = ap (λ r. p x && not (is_eq r)) (tied_itself o x) ∙ and-false (p x) in
          let at_y : q y ≡ false = ap (λ r. p y && not (is_eq r)) e ∙ and-false (p y) in
          let below : Below R x ys = subst (λ z. Below R z ys) (sym (exact x y e)) k.0 in
          sym (left_out p x xs h.0) ∙ sym (ap (λ b. b || list_any q xs) at_x) ∙ same q ∙ ap (λ b. b || list_any q ys) at_y ∙ left_out p x ys below

      by : (SameMembers xs ys → xs ≡ ys) → (r : Ordering) → R x y ≡ r → (x ∷ xs) ≡ (y ∷ ys)
      by ih Less e = absurd (apart x y xs ys e k.0 same)
      by ih Greater e = absurd (apart y x ys xs (reversed x y e) h.0 (λ p. sym (same p)))
      by ih Equal e = λ i. exact x y e i ∷ ih (rest e) i

  -- the sets of two lists with the same members are equal
  pub normal-same : (xs ys : List A) → SameMembers xs ys → normal R xs ≡ normal R ys
  normal-same xs ys same = same_set _ _ (Rising-normal xs) (Rising-normal ys) (λ p. list_any-normal p xs ∙ same p ∙ sym (list_any-normal p ys))
