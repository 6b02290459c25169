-- Numbers that are put behind others, one list after another.
use Rattle.std.proofs.Common.{◌≡◌, ℕ, zero, suc, ◌+◌, ◌<◌, Bool, true, false, List, [], ◌∷◌, ◌++◌, map, length, take, Option, Some, None, refl, sym, ap, ◌∙◌, subst, arith}
use Rattle.std.specs.Prelude.{slice_index_or}
use Rattle.std.specs.Ordering.{nat_cmp}
use Rattle.std.proofs.Math.Seq.{take-suc}
use Rattle.mm_logic.specs.Order.{normal}
use Rattle.mm_checker.specs.Claims.{GlueClaims, all_numbers, with_number, set_of, one_of, glued, glued_pairs}
use Rattle.mm_checker.specs.KeptPlaces.{IsPut}
use Rattle.mm_checker.specs.declared.certificate.Content.TheVariants as content

-- ---- all of two lists

both : Option (List ℕ) → Option (List ℕ) → Option (List ℕ)
both None o = None
both (Some ns) None = None
both (Some ns) (Some ms) = Some (ns ++ ms)

all_append : (xs ys : List (Option ℕ)) → all_numbers (xs ++ ys) ≡ both (all_numbers xs) (all_numbers ys)
unfolding both
all_append [] ys = by (all_numbers ys)
  where
    by : (o : Option (List ℕ)) → o ≡ both (Some []) o
    by None = refl
    by (Some ms) = refl
all_append (x ∷ xs) ys = ap (with_number x) (all_append xs ys) ∙ by x (all_numbers xs) (all_numbers ys)
  where
    by : (o : Option ℕ) (p q : Option (List ℕ)) → with_number o (both p q) ≡ both (with_number o p) q
    by None p q = refl
    by (Some n) None q = refl
    by (Some n) (Some ns) None = refl
    by (Some n) (Some ns) (Some ms) = refl

none_left : (xs ys : List (Option ℕ)) → all_numbers xs ≡ None → all_numbers (xs ++ ys) ≡ None
unfolding both
none_left xs ys e = all_append xs ys ∙ ap (λ o. both o (all_numbers ys)) e

none_right : (xs ys : List (Option ℕ)) → all_numbers ys ≡ None → all_numbers (xs ++ ys) ≡ None
unfolding both
none_right xs ys e = all_append xs ys ∙ ap (both (all_numbers xs)) e ∙ by (all_numbers xs)
  where
    by : (o : Option (List ℕ)) → both o None ≡ None
    by None = refl
    by (Some ns) = refl

append_three : (xs ys zs : List ℕ) → (xs ++ ys) ++ zs ≡ xs ++ (ys ++ zs)
append_three [] ys zs = refl
append_three (x ∷ xs) ys zs = ap (λ ws. x ∷ ws) (append_three xs ys zs)

-- what is put after what was put
pub put_then : (a b c : List ℕ) (xs ys : List (Option ℕ)) (r : Bool) → IsPut a xs true b → IsPut b ys r c → IsPut a (xs ++ ys) r c
unfolding both
put_then a b c xs ys false h k = none_right xs ys k
put_then a b c xs ys true h k =
    (h.0 ++ k.0, all_append xs ys ∙ (λ i. both (h.1 i) (k.1 i)), k.2 ∙ ap (λ zs. zs ++ k.0) h.2 ∙ append_three a h.0 k.0)

pub put_none : (a : List ℕ) → IsPut a [] true a
put_none a = ([], refl, empty a)
  where
    empty : (xs : List ℕ) → xs ≡ xs ++ []
    empty [] = refl
    empty (x ∷ xs) = ap (λ ys. x ∷ ys) (empty xs)

pub put_missing : (a b c : List ℕ) (xs ys : List (Option ℕ)) → IsPut a xs false b → IsPut a (xs ++ ys) false c
put_missing a b c xs ys h = none_left xs ys h

-- ---- one number after another

map_append : (g : ℕ → Option ℕ) (xs ys : List ℕ) → map g (xs ++ ys) ≡ map g xs ++ map g ys
map_append g [] ys = refl
map_append g (x ∷ xs) ys = ap (λ zs. g x ∷ zs) (map_append g xs ys)

suc_is : (n : ℕ) → n + 1 ≡ suc n
suc_is n = grind arith

row_more : (g : ℕ → Option ℕ) (ns : List ℕ) (i : ℕ) → i < length ns → map g (take (i + 1) ns) ≡ map g (take i ns) ++ g (slice_index_or ns i 0) ∷ []
row_more g ns i l = ap (λ k. map g (take k ns)) (suc_is i) ∙ ap (map g) (take-suc ns i 0 l) ∙ map_append g (take i ns) (slice_index_or ns i 0 ∷ [])

pub row_next : (g : ℕ → Option ℕ) (ns : List ℕ) (i : ℕ) (a b c : List ℕ) (r : Bool) → i < length ns → IsPut a (map g (take i ns)) true b
    → IsPut b (g (slice_index_or ns i 0) ∷ []) r c → IsPut a (map g (take (i + 1) ns)) r c
row_next g ns i a b c r l h k =
    subst (λ xs. IsPut a xs r c) (sym (row_more g ns i l)) (put_then a b c (map g (take i ns)) (g (slice_index_or ns i 0) ∷ []) r h k)

head_none : (o : Option ℕ) (p : Option (List ℕ)) → all_numbers (o ∷ []) ≡ None → with_number o p ≡ None
head_none None p e = refl
head_none (Some n) p e = let no : Some (n ∷ []) ≡ None = e in cc

pub row_missing : (g : ℕ → Option ℕ) (ns : List ℕ) (i : ℕ) → i < length ns → all_numbers (g (slice_index_or ns i 0) ∷ []) ≡ None → all_numbers (map g ns) ≡ None
row_missing g [] i l e = absurd (omega (arith, l))
row_missing g (n ∷ ns) zero l e = head_none (g n) (all_numbers (map g ns)) e
row_missing g (n ∷ ns) (suc i) l e = ap (with_number (g n)) (row_missing g ns i (omega (arith, l)) e) ∙ by (g n)
  where
    by : (o : Option ℕ) → with_number o None ≡ None
    by None = refl
    by (Some n) = refl

-- the same as a loop has them
pub row_goes : (g : ℕ → Option ℕ) (ns : List ℕ) (i : ℕ) (a b c : List ℕ) (o : Option ℕ) (r : Bool) → i < length ns → IsPut a (map g (take i ns)) true b
    → o ≡ g (slice_index_or ns i 0) → IsPut b (o ∷ []) r c → r ≡ true → IsPut a (map g (take (i + 1) ns)) true c
row_goes g ns i a b c o r l h e k t =
    row_next g ns i a b c true l h (subst (λ q. IsPut b (q ∷ []) true c) e (subst (λ q. IsPut b (o ∷ []) q c) t k))

pub row_ends : (g : ℕ → Option ℕ) (ns : List ℕ) (i : ℕ) (b c : List ℕ) (o : Option ℕ) (r : Bool) → i < length ns
    → o ≡ g (slice_index_or ns i 0) → IsPut b (o ∷ []) r c → r ≡ false → all_numbers (map g ns) ≡ None
row_ends g ns i b c o r l e k t =
    row_missing g ns i l (subst (λ q. IsPut b (q ∷ []) false c) e (subst (λ q. IsPut b (o ∷ []) q c) t k))

-- ---- one row after another

module _ (claims : GlueClaims) (p : ℕ) (name : List ℕ) where
  append_options : (xs ys zs : List (Option ℕ)) → (xs ++ ys) ++ zs ≡ xs ++ (ys ++ zs)
  append_options [] ys zs = refl
  append_options (x ∷ xs) ys zs = ap (λ ws. x ∷ ws) (append_options xs ys zs)

  empty_options : (xs : List (Option ℕ)) → xs ++ [] ≡ xs
  empty_options [] = refl
  empty_options (x ∷ xs) = ap (λ ys. x ∷ ys) (empty_options xs)

  pairs_append : (ns ks ms : List ℕ) → glued_pairs claims p name (ns ++ ks) ms ≡ glued_pairs claims p name ns ms ++ glued_pairs claims p name ks ms
  pairs_append [] ks ms = refl
  pairs_append (n ∷ ns) ks ms =
      ap (λ xs. map (glued claims p name n) ms ++ xs) (pairs_append ns ks ms)
      ∙ sym (append_options (map (glued claims p name n) ms) (glued_pairs claims p name ns ms) (glued_pairs claims p name ks ms))

  pairs_more : (ns ms : List ℕ) (i : ℕ) → i < length ns
      → glued_pairs claims p name (take (i + 1) ns) ms ≡ glued_pairs claims p name (take i ns) ms ++ map (glued claims p name (slice_index_or ns i 0)) ms
  pairs_more ns ms i l =
      ap (λ k. glued_pairs claims p name (take k ns) ms) (suc_is i)
      ∙ ap (λ xs. glued_pairs claims p name xs ms) (take-suc ns i 0 l)
      ∙ pairs_append (take i ns) (slice_index_or ns i 0 ∷ []) ms
      ∙ ap (λ xs. glued_pairs claims p name (take i ns) ms ++ xs) (empty_options (map (glued claims p name (slice_index_or ns i 0)) ms))

  pub pairs_next : (ns ms : List ℕ) (i : ℕ) (a b c : List ℕ) (r : Bool) → i < length ns → IsPut a (glued_pairs claims p name (take i ns) ms) true b
      → IsPut b (map (glued claims p name (slice_index_or ns i 0)) ms) r c → IsPut a (glued_pairs claims p name (take (i + 1) ns) ms) r c
  pairs_next ns ms i a b c r l h k =
      subst (λ xs. IsPut a xs r c) (sym (pairs_more ns ms i l))
      (put_then a b c (glued_pairs claims p name (take i ns) ms) (map (glued claims p name (slice_index_or ns i 0)) ms) r h k)

  pub pairs_missing : (ns ms : List ℕ) (i : ℕ) → i < length ns → all_numbers (map (glued claims p name (slice_index_or ns i 0)) ms) ≡ None
      → all_numbers (glued_pairs claims p name ns ms) ≡ None
  pairs_missing [] ms i l e = absurd (omega (arith, l))
  pairs_missing (n ∷ ns) ms zero l e = none_left (map (glued claims p name n) ms) (glued_pairs claims p name ns ms) e
  pairs_missing (n ∷ ns) ms (suc i) l e =
      none_right (map (glued claims p name n) ms) (glued_pairs claims p name ns ms) (pairs_missing ns ms i (omega (arith, l)) e)

  pub pairs_go : (ns ms : List ℕ) (i : ℕ) (a b c : List ℕ) (r : Bool) → i < length ns → IsPut a (glued_pairs claims p name (take i ns) ms) true b
      → IsPut b (map (glued claims p name (slice_index_or ns i 0)) ms) r c → r ≡ true → IsPut a (glued_pairs claims p name (take (i + 1) ns) ms) true c
  pairs_go ns ms i a b c r l h k t =
      pairs_next ns ms i a b c true l h (subst (λ q. IsPut b (map (glued claims p name (slice_index_or ns i 0)) ms) q c) t k)

  pub pairs_end : (ns ms : List ℕ) (i : ℕ) (b c : List ℕ) (r : Bool) → i < length ns
      → IsPut b (map (glued claims p name (slice_index_or ns i 0)) ms) r c → r ≡ false → all_numbers (glued_pairs claims p name ns ms) ≡ None
  pairs_end ns ms i b c r l k t =
      pairs_missing ns ms i l (subst (λ q. IsPut b (map (glued claims p name (slice_index_or ns i 0)) ms) q c) t k)

-- ---- their set

pub put_set : (xs : List (Option ℕ)) (new set : List ℕ) → IsPut [] xs true new → set ≡ normal nat_cmp new → Some (content.SetOf set) ≡ set_of (all_numbers xs)
put_set xs new set h e = ap (λ ns. Some (content.SetOf ns)) (e ∙ ap (normal nat_cmp) h.2) ∙ sym (ap set_of h.1)

pub put_one : (o : Option ℕ) (n : ℕ) (xs : List (Option ℕ)) (new set : List ℕ) → o ≡ Some n → IsPut [] xs true new → set ≡ normal nat_cmp new
    → Some (content.OneOf n set) ≡ one_of o (all_numbers xs)
put_one o n xs new set a h e =
    ap (λ ns. Some (content.OneOf n ns)) (e ∙ ap (normal nat_cmp) h.2) ∙ sym (λ i. one_of (a i) (h.1 i))

-- ---- of one list and then another

module _ (xs ys : List (Option ℕ)) where
  pub either_left : (a b : List ℕ) (r : Bool) → IsPut a xs r b → r ≡ false → all_numbers (xs ++ ys) ≡ None
  either_left a b r h e = none_left xs ys (subst (λ q. IsPut a xs q b) e h)

  pub either_right : (b c : List ℕ) (r : Bool) → IsPut b ys r c → r ≡ false → all_numbers (xs ++ ys) ≡ None
  either_right b c r h e = none_right xs ys (subst (λ q. IsPut b ys q c) e h)

  pub either_both : (a b c set : List ℕ) (r q : Bool) → a ≡ [] → IsPut a xs r b → r ≡ true → IsPut b ys q c → q ≡ true → set ≡ normal nat_cmp c
      → (ns : List ℕ) × (all_numbers (xs ++ ys) ≡ Some ns) × (set ≡ normal nat_cmp ns)
  either_both a b c set r q none h e k t w =
      let all : IsPut [] (xs ++ ys) true c =
      put_then [] b c xs ys true (subst (λ z. IsPut z xs true b) none (subst (λ z. IsPut a xs z b) e h)) (subst (λ z. IsPut b ys z c) t k) in
      (all.0, all.1, w ∙ ap (normal nat_cmp) all.2)
