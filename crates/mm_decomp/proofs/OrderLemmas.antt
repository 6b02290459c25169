-- Vectors over different names, with their digits in another order of the names.
use Rattle.std.proofs.Common.{ℕ, suc, ◌+◌, ◌<◌, ◌≡◌, Bool, true, false, cond, not, ◌||◌, List, [], ◌∷◌, ◌++◌, length, map, get_or, refl, sym, ap, ap₂, ◌∙◌, subst, arith, ext_get_or}
use Rattle.std.specs.List.{All, AllByRecursion, IsDistinct, list_any, position_or_len}
use Rattle.std.specs.Str.{bytes_eq}
use Rattle.std.proofs.lemmas.Bool.{both_ways, or_left, or_right, or_parts, false_from_ne_true}
use Rattle.std.proofs.lemmas.List.{length-map, get_or-map}
use Rattle.std.proofs.lemmas.Map.Made.{length-le_from_is_member}
use Rattle.std.proofs.lemmas.Cmp.{nat_list_eq_equiv}
use Rattle.std.proofs.lemmas.List.Elements.{All-nil, All-cons, All-head, All-tail}
use Rattle.mm_base.proofs.NameLemmas.{bytes_same, same_bytes}
use Rattle.mm_field.specs.declared.Field.{Field}
use Rattle.mm_field.specs.Digits.{plus, times, order}
use Rattle.mm_field.specs.Vectors.{combination, AreDigits, IsVector, AreVectors, InSpan}
use Rattle.mm_field.proofs.Tables.{plus_assoc, plus_comm}
use Rattle.mm_field.proofs.CombinationLemmas.{IsVector-combination}
use Rattle.mm_field.proofs.PartLemmas.{AreVectors-map}
use Rattle.mm_matrix.specs.Columns.{column}
use Rattle.mm_matrix.specs.Orthogonal.{dot}
use Rattle.mm_matrix.proofs.ColumnLemmas.{digit_of_combination}
use Rattle.mm_present.specs.Comparing.{digit_at, in_order}
use Rattle.mm_tree.specs.NamedTree.{is_one_of}
use Rattle.mm_tree.proofs.NameLemmas.{none_equal, all_unequal, one_of_append, distinct_left, distinct_right, distinct_apart, distinct_append}
use Rattle.mm_decomp.specs.Spaces.{place_in}
use Rattle.mm_decomp.proofs.ShapeLemmas.{place_below, place_is}

-- two lists of different names have the same names
pub record AreSame (names others : List (List ℕ)) : Type 0 where
  pub different : IsDistinct bytes_eq names
  pub others_different : IsDistinct bytes_eq others
  pub there : (name : List ℕ) → is_one_of name names ≡ true → is_one_of name others ≡ true
  pub back : (name : List ℕ) → is_one_of name others ≡ true → is_one_of name names ≡ true

pub same_swapped : (names others : List (List ℕ)) → AreSame names others → AreSame others names
same_swapped names others s = record { different = s.others_different; others_different = s.different; there = s.back; back = s.there }

pub same_count : (names others : List (List ℕ)) → AreSame names others → length names ≡ length others
same_count names others s =
    let up = length-le_from_is_member nat_list_eq_equiv names others s.different s.there in
    let down = length-le_from_is_member nat_list_eq_equiv others names s.others_different s.back in
    omega arith

unequal_swapped : (x y : List ℕ) → bytes_eq x y ≡ false → bytes_eq y x ≡ false
unequal_swapped x y e =
    false_from_ne_true (bytes_eq y x) (λ t. both_ways (bytes_eq x y) e (ap (bytes_eq x) (same_bytes y x t) ∙ bytes_same x))

pub one_of_all : (names : List (List ℕ)) → All (λ name. is_one_of name names ≡ true) names
one_of_all [] = All-nil (λ name. is_one_of name [] ≡ true)
one_of_all (x ∷ xs) =
    All-cons (λ name. is_one_of name (x ∷ xs) ≡ true) x xs (or_left (bytes_eq x x) (is_one_of x xs) (bytes_same x))
    (λ i d l. or_right (bytes_eq (get_or xs i d) x) (is_one_of (get_or xs i d) xs) (one_of_all xs i d l))

-- ---- sums over names

-- the sum of the digits of some names
abbrev total : Field → (List ℕ → ℕ) → List (List ℕ) → ℕ
total f g [] = 0
total f g (x ∷ xs) = plus f (g x) (total f g xs)

dot_is_total : (f : Field) (p q : List ℕ → ℕ) (xs : List (List ℕ)) → dot f (map p xs) (map q xs) ≡ total f (λ x. times f (p x) (q x)) xs
dot_is_total f p q [] = refl
dot_is_total f p q (x ∷ xs) = ap (plus f (times f (p x) (q x))) (dot_is_total f p q xs)

record TakenOut (x : List ℕ) (ys : List (List ℕ)) : Type 0 where
  before : List (List ℕ)
  after : List (List ℕ)
  is : ys ≡ before ++ x ∷ after

taken_out : (x : List ℕ) (ys : List (List ℕ)) → is_one_of x ys ≡ true → TakenOut x ys
taken_out x [] e = cc
taken_out x (y ∷ ys) e = go (bytes_eq x y) refl (taken_out x ys)
  where
    go : (b : Bool) → bytes_eq x y ≡ b → (is_one_of x ys ≡ true → TakenOut x ys) → TakenOut x (y ∷ ys)
    go true q more = record { before = []; after = ys; is = ap (λ z. z ∷ ys) (sym (same_bytes x y q)) }
    go false q more =
        let t = more (sym (ap (λ (b : Bool). b || is_one_of x ys) q) ∙ e) in
        record { before = y ∷ t.before; after = t.after; is = ap (λ zs. y ∷ zs) t.is }

total_middle : (f : Field) (g : List ℕ → ℕ) (x : List ℕ) (before after : List (List ℕ)) →
    total f g (before ++ x ∷ after) ≡ plus f (g x) (total f g (before ++ after))
total_middle f g x [] after = refl
total_middle f g x (y ∷ before) after =
    let rest = total f g (before ++ after) in
    ap (plus f (g y)) (total_middle f g x before after)
    ∙ sym (plus_assoc f (g y) (g x) rest) ∙ ap (λ a. plus f a rest) (plus_comm f (g y) (g x)) ∙ plus_assoc f (g x) (g y) rest

same_total : (f : Field) (g : List ℕ → ℕ) (xs ys : List (List ℕ)) → AreSame xs ys → total f g xs ≡ total f g ys
unfolding IsDistinct
same_total f g [] [] s = refl
same_total f g [] (y ∷ ys) s =
    let bad : is_one_of y [] ≡ true = s.back y (or_left (bytes_eq y y) (is_one_of y ys) (bytes_same y)) in
    cc
same_total f g (x ∷ xs) ys s =
    let t = taken_out x ys (s.there x (or_left (bytes_eq x x) (is_one_of x xs) (bytes_same x))) in
    let rest = t.before ++ t.after in
    ap (plus f (g x)) (same_total f g xs rest (rest_same t)) ∙ sym (total_middle f g x t.before t.after) ∙ ap (total f g) (sym t.is)
  where
    rest_same : (t : TakenOut x ys) → AreSame xs (t.before ++ t.after)
    rest_same t =
        let b = t.before in
        let a = t.after in
        let split : IsDistinct bytes_eq (b ++ x ∷ a) = subst (λ zs. IsDistinct bytes_eq zs) t.is s.others_different in
        let later : IsDistinct bytes_eq (x ∷ a) = distinct_right b (x ∷ a) split in
        let first : is_one_of x (x ∷ a) ≡ true = or_left (bytes_eq x x) (is_one_of x a) (bytes_same x) in
        let apart = distinct_apart b (x ∷ a) split in
        let not_before : is_one_of x b ≡ false = false_from_ne_true (is_one_of x b) (λ p. both_ways (is_one_of x (x ∷ a)) (apart x p) first) in
        let not_after : is_one_of x a ≡ false = none_equal x a later.0 in
        let not_rest : is_one_of x (b ++ a) ≡ false = one_of_append x b a ∙ ap₂ (λ (p q : Bool). p || q) not_before not_after in
        record {
          different = s.different.1;
          others_different =
              distinct_append b a (distinct_left b (x ∷ a) split) later.1
              (λ z p. (or_parts (bytes_eq z x) (is_one_of z a) (apart z p)).1);
          there = λ z p.
              let unlike : bytes_eq z x ≡ false =
              false_from_ne_true (bytes_eq z x) (λ q. both_ways (is_one_of x xs) (none_equal x xs s.different.0) (subst (λ w. is_one_of w xs ≡ true) (same_bytes z x q) p)) in
              sym (kept z b a unlike) ∙ ap (is_one_of z) (sym t.is) ∙ s.there z (or_right (bytes_eq z x) (is_one_of z xs) p);
          back = λ z p.
              let unlike : bytes_eq z x ≡ false =
              false_from_ne_true (bytes_eq z x) (λ q. both_ways (is_one_of x (b ++ a)) not_rest (subst (λ w. is_one_of w (b ++ a) ≡ true) (same_bytes z x q) p)) in
              sym (ap (λ (c : Bool). c || is_one_of z xs) unlike) ∙ s.back z (ap (is_one_of z) t.is ∙ kept z b a unlike ∙ p);
        }
      where
        kept : (z : List ℕ) (b a : List (List ℕ)) → bytes_eq z x ≡ false → is_one_of z (b ++ x ∷ a) ≡ is_one_of z (b ++ a)
        kept z b a unlike =
            one_of_append z b (x ∷ a) ∙ ap (λ (c : Bool). is_one_of z b || (c || is_one_of z a)) unlike ∙ sym (one_of_append z b a)

-- ---- digits by names

-- a row has its own digits in the order of its names
map_later : (x : List ℕ) (xs : List (List ℕ)) (a : ℕ) (u : List ℕ) (zs : List (List ℕ)) → AllByRecursion (λ y. bytes_eq x y ≡ false) zs →
    map (λ y. get_or (a ∷ u) (place_in (x ∷ xs) y) 0) zs ≡ map (λ y. get_or u (place_in xs y) 0) zs
map_later x xs a u [] h = refl
map_later x xs a u (z ∷ zs) h =
    ap₂ (λ (d : ℕ) (ds : List ℕ). d ∷ ds)
    (ap (λ (b : Bool). get_or (a ∷ u) (cond (not b) (1 + place_in xs z) 0) 0) (unequal_swapped x z h.0)
    ∙ ap (λ (n : ℕ). get_or (a ∷ u) n 0) {x = 1 + place_in xs z} {y = suc (place_in xs z)} (omega arith))
    (map_later x xs a u zs h.1)

place_self : (names : List (List ℕ)) (u : List ℕ) → IsDistinct bytes_eq names → length u ≡ length names → map (λ y. get_or u (place_in names y) 0) names ≡ u
unfolding IsDistinct
place_self [] [] d e = refl
place_self [] (a ∷ u) d e = absurd (omega (arith, e))
place_self (x ∷ xs) [] d e = absurd (omega (arith, e))
place_self (x ∷ xs) (a ∷ u) d e =
    ap₂ (λ (h : ℕ) (t : List ℕ). h ∷ t) (ap (λ (b : Bool). get_or (a ∷ u) (cond (not b) (1 + place_in xs x) 0) 0) (bytes_same x))
    (map_later x xs a u xs d.0 ∙ place_self xs u d.1 (omega (arith, e)))

name_at_place : (names : List (List ℕ)) (name : List ℕ) → is_one_of name names ≡ true → get_or names (place_in names name) [] ≡ name
name_at_place [] name e = cc
name_at_place (x ∷ xs) name e = go (bytes_eq name x) refl (name_at_place xs name)
  where
    go : (b : Bool) → bytes_eq name x ≡ b → (is_one_of name xs ≡ true → get_or xs (place_in xs name) [] ≡ name) →
        get_or (x ∷ xs) (place_in (x ∷ xs) name) [] ≡ name
    go true q more = ap (λ (b : Bool). get_or (x ∷ xs) (cond (not b) (1 + place_in xs name) 0) []) q ∙ sym (same_bytes name x q)
    go false q more =
        ap (λ (b : Bool). get_or (x ∷ xs) (cond (not b) (1 + place_in xs name) 0) []) q
        ∙ ap (λ (n : ℕ). get_or (x ∷ xs) n []) {x = 1 + place_in xs name} {y = suc (place_in xs name)} (omega arith)
        ∙ more (sym (ap (λ (b : Bool). b || is_one_of name xs) q) ∙ e)

-- the digits of names that are there, by their places
pub in_order_is : (names others : List (List ℕ)) (u : List ℕ) → All (λ name. is_one_of name names ≡ true) others →
    in_order names others u ≡ map (λ y. get_or u (place_in names y) 0) others
in_order_is names [] u h = refl
in_order_is names (y ∷ others) u h =
    ap₂ (λ (d : ℕ) (ds : List ℕ). d ∷ ds) (ap (digit_at u) (place_is y names (All-head (λ name. is_one_of name names ≡ true) y others h)))
    (in_order_is names others u (All-tail (λ name. is_one_of name names ≡ true) y others h))

module _ (names others : List (List ℕ)) (s : AreSame names others) where
  pub all_there : All (λ name. is_one_of name names ≡ true) others
  all_there = λ i d l. s.back (get_or others i d) (one_of_all others i d l)

  all_back : All (λ name. is_one_of name others ≡ true) names
  all_back = λ i d l. s.there (get_or names i d) (one_of_all names i d l)

  -- products do not depend on the order
  pub dot_in_order : (f : Field) (u v : List ℕ) → length u ≡ length names → length v ≡ length names →
      dot f (in_order names others u) (in_order names others v) ≡ dot f u v
  dot_in_order f u v eu ev =
      let p = λ (y : List ℕ). get_or u (place_in names y) 0 in
      let q = λ (y : List ℕ). get_or v (place_in names y) 0 in
      ap₂ (dot f) (in_order_is names others u all_there) (in_order_is names others v all_there)
      ∙ dot_is_total f p q others
      ∙ sym (same_total f (λ y. times f (p y) (q y)) names others s)
      ∙ sym (dot_is_total f p q names)
      ∙ ap₂ (dot f) (place_self names u s.different eu) (place_self names v s.different ev)

  -- the order of the names, and back
  pub order_back : (x : List ℕ) → length x ≡ length others → in_order names others (in_order others names x) ≡ x
  order_back x e =
      let back = λ (y : List ℕ). get_or x (place_in others y) 0 in
      in_order_is names others (in_order others names x) all_there
      ∙ ap (λ (u : List ℕ). map (λ y. get_or u (place_in names y) 0) others) (in_order_is others names x all_back)
      ∙ same_digits others all_there
      ∙ place_self others x s.others_different e
    where
      same_digits : (zs : List (List ℕ)) → All (λ name. is_one_of name names ≡ true) zs →
          map (λ y. get_or (map (λ z. get_or x (place_in others z) 0) names) (place_in names y) 0) zs ≡ map (λ y. get_or x (place_in others y) 0) zs
      same_digits [] h = refl
      same_digits (z ∷ zs) h =
          let t = All-head (λ name. is_one_of name names ≡ true) z zs h in
          ap₂ (λ (d : ℕ) (ds : List ℕ). d ∷ ds)
          (get_or-map (λ y. get_or x (place_in others y) 0) names (place_in names z) [] 0 (place_below z names t)
          ∙ ap (λ (y : List ℕ). get_or x (place_in others y) 0) (name_at_place names z t))
          (same_digits zs (All-tail (λ name. is_one_of name names ≡ true) z zs h))

  pub length-in_order : (u : List ℕ) → length (in_order names others u) ≡ length others
  length-in_order u = length-map others _

  pub IsVector-in_order : (f : Field) (u : List ℕ) → IsVector f (length names) u → IsVector f (length others) (in_order names others u)
  IsVector-in_order f u h = record {
    len = length-in_order u;
    digits = subst (λ (v : List ℕ). AreDigits f v) (sym (in_order_is names others u all_there)) (λ i d l.
        let e = length-map others (λ y. get_or u (place_in names y) 0) in
        let li : i < length others = omega arith in
        subst (λ x. x < order f) (sym (get_or-map (λ y. get_or u (place_in names y) 0) others i [] d li))
        (h.digits (place_in names (get_or others i [])) 0
        (let b = place_below (get_or others i []) names (all_there i [] li) in let n = h.len in omega (arith, b, n))));
  }

  pub AreVectors-in_order : (f : Field) (rows : List (List ℕ)) → AreVectors f (length names) rows → AreVectors f (length others) (map (in_order names others) rows)
  AreVectors-in_order f rows h = AreVectors-map f (length names) (length others) (in_order names others) (IsVector-in_order f) rows h

  -- combinations, in the other order
  pub combination_in_order : (f : Field) (cs : List ℕ) (rows : List (List ℕ)) → AreVectors f (length names) rows → length cs ≡ length rows →
      in_order names others (combination f (length names) cs rows) ≡ combination f (length others) cs (map (in_order names others) rows)
  combination_in_order f cs rows h e =
      let n = length names in
      let m = length others in
      let v = combination f n cs rows in
      let moved = map (in_order names others) rows in
      let hm = AreVectors-in_order f rows h in
      let lm = length-map rows (in_order names others) in
      ext_get_or 0 (in_order names others v) (combination f m cs moved) (length-in_order v ∙ sym (IsVector-combination f m cs moved hm).len) (λ i l.
      let li : i < m = (let q = length-in_order v in omega arith) in
      let name = get_or others i [] in
      let p = place_in names name in
      let lp : p < n = place_below name names (all_there i [] li) in
      ap (λ (u : List ℕ). get_or u i 0) (in_order_is names others v all_there)
      ∙ get_or-map (λ y. get_or v (place_in names y) 0) others i [] 0 li
      ∙ digit_of_combination f n p cs rows h e lp
      ∙ ap (λ (col : List ℕ). dot f col cs) (column_in_order i li rows)
      ∙ sym (digit_of_combination f m i cs moved hm (e ∙ sym lm) li))
    where
      column_in_order : (i : ℕ) → i < length others → (rows : List (List ℕ)) → column rows (place_in names (get_or others i [])) ≡ column (map (in_order names others) rows) i
      column_in_order i li [] = refl
      column_in_order i li (u ∷ rows) =
          ap₂ (λ (d : ℕ) (ds : List ℕ). d ∷ ds)
          (sym (ap (λ (w : List ℕ). get_or w i 0) (in_order_is names others u all_there) ∙ get_or-map (λ y. get_or u (place_in names y) 0) others i [] 0 li))
          (column_in_order i li rows)

  pub span_in_order : (f : Field) (rows : List (List ℕ)) (v : List ℕ) → AreVectors f (length names) rows → InSpan f (length names) rows v →
      InSpan f (length others) (map (in_order names others) rows) (in_order names others v)
  span_in_order f rows v h p = record {
    coefficients = p.coefficients;
    each = subst (λ n. IsVector f n p.coefficients) (sym (length-map rows (in_order names others))) p.each;
    sum = sym (combination_in_order f p.coefficients rows h p.each.len) ∙ ap (in_order names others) p.sum;
  }
