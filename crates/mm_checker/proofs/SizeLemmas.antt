-- The boundaries of the subspaces in values, and how they go on with the next value.
use Rattle.std.proofs.Common.{◌≡◌, ℕ, zero, suc, ◌+◌, ◌==◌, Bool, true, false, not, ◌&&◌, List, [], ◌∷◌, ◌++◌, map, length, refl, sym, ap, ◌∙◌, subst, arith, if◌then◌else◌}
use Rattle.std.specs.List.{list_all}
use Rattle.std.proofs.lemmas.List.{reverse-append, length-reverse, length-append}
use Rattle.std.proofs.lemmas.List.Folds.{list_all-map}
use Rattle.mm_logic.specs.Order.{normal}
use Rattle.mm_logic.specs.Value.{Value, collected, set_of, value_cmp}
use Rattle.mm_logic.proofs.SetLemmas.{list_all-any, list_any-normal}
use Rattle.mm_logic.proofs.ValueLemmas.{value_total, value_exact}
use Rattle.mm_checker.specs.Contents.{meaning, meaning_in, value_of}
use Rattle.mm_checker.specs.Claims.{are_spaces_of}
use Rattle.mm_checker.specs.KeptBoundaries.{allows, kept_at, allowed_in, IsSizeOf, AreSized}
use Rattle.mm_checker.specs.declared.boundaries.Boundaries.{Boundaries}
use Rattle.mm_checker.specs.declared.boundaries.Boundaries.TheVariants as boundaries
use Rattle.mm_checker.specs.declared.certificate.Content.{Content}
use Rattle.mm_checker.specs.declared.certificate.Content.TheVariants as content
use Rattle.mm_checker.specs.declared.certificate.Valued.{Valued}

-- ---- the subspaces in a set

spaces_set : (t : ℕ) (vs : List Value) → are_spaces_of t (set_of vs) ≡ list_all (are_spaces_of t) vs
spaces_set t [] = refl
spaces_set t (v ∷ vs) = ap (λ b. are_spaces_of t v && b) (spaces_set t vs)

spaces_collected : (t : ℕ) (vs : List Value) → are_spaces_of t (collected vs) ≡ list_all (are_spaces_of t) vs
spaces_collected t vs =
    spaces_set t (normal value_cmp vs)
    ∙ list_all-any (are_spaces_of t) (normal value_cmp vs)
    ∙ ap not (list_any-normal value_total value_exact (λ v. not (are_spaces_of t v)) vs)
    ∙ sym (list_all-any (are_spaces_of t) vs)

-- ---- a value more

suc_zero : (n : ℕ) → (suc n == zero) ≡ false
suc_zero n = grind arith

zero_suc : (n : ℕ) → (zero == suc n) ≡ false
zero_suc n = grind arith

suc_suc : (n m : ℕ) → (suc n == suc m) ≡ (n == m)
suc_suc n m = grind arith

kept_push : (sizes : List Boundaries) (b : Boundaries) (n : ℕ) → kept_at (sizes ++ b ∷ []) n ≡ (if n == length sizes then b else kept_at sizes n)
kept_push [] b zero = refl
kept_push [] b (suc n) = ap (λ (x : Bool). if x then b else boundaries.Free) (sym (suc_zero n))
kept_push (s ∷ sizes) b zero = ap (λ (x : Bool). if x then b else s) (sym (zero_suc (length sizes)))
kept_push (s ∷ sizes) b (suc n) = kept_push sizes b n ∙ ap (λ (x : Bool). if x then b else kept_at sizes n) (sym (suc_suc n (length sizes)))

meaning_push : (values : List Valued) (v : Valued) (n : ℕ)
    → meaning (values ++ v ∷ []) n ≡ (if n == length values then value_of (meaning values) v.content else meaning values n)
meaning_push values v n =
    ap (λ vs. meaning_in vs n) (reverse-append values (v ∷ []))
    ∙ ap (λ k. if n == k then value_of (meaning values) v.content else meaning values n) (length-reverse values)

module _ (values : List Valued) (sizes : List Boundaries) (sized : AreSized values sizes) where
  all_sized : (t : ℕ) (ns : List ℕ) → list_all (λ n. allows (kept_at sizes n) t) ns ≡ are_spaces_of t (collected (map (meaning values) ns))
  all_sized t ns =
      (λ i. list_all (λ n. sized.each n t i) ns)
      ∙ sym (list_all-map (are_spaces_of t) (meaning values) ns)
      ∙ sym (spaces_collected t (map (meaning values) ns))

  content_sized : (t : ℕ) (c : Content) → allowed_in sizes t c ≡ are_spaces_of t (value_of (meaning values) c)
  content_sized t (content.Flag n) = refl
  content_sized t content.Dead = refl
  content_sized t (content.Space key) = refl
  content_sized t (content.Parts a b) = λ i. sized.each a t i && sized.each b t i
  content_sized t (content.SetOf ns) = all_sized t ns
  content_sized t (content.OneOf a ns) = λ i. sized.each a t i && all_sized t ns i

  by_place : (t : ℕ) (b : Boundaries) (c : Content) (n : ℕ) → IsSizeOf sizes c b → (x : Bool)
      → allows (if x then b else kept_at sizes n) t ≡ are_spaces_of t (if x then value_of (meaning values) c else meaning values n)
  by_place t b c n h true = h t ∙ content_sized t c
  by_place t b c n h false = sized.each n t

  pub sized_push : (v : Valued) (b : Boundaries) → IsSizeOf sizes v.content b → AreSized (values ++ v ∷ []) (sizes ++ b ∷ [])
  sized_push v b h = record {
    count = length-append sizes (b ∷ []) ∙ ap (λ n. n + 1) sized.count ∙ sym (length-append values (v ∷ []));
    each = λ n t.
        ap (λ s. allows s t) (kept_push sizes b n)
        ∙ ap (λ k. allows (if n == k then b else kept_at sizes n) t) sized.count
        ∙ by_place t b v.content n h (n == length values)
        ∙ ap (are_spaces_of t) (sym (meaning_push values v n));
  }

  pub sized_put : (v : Valued) (b : Boundaries) (sizes' : List Boundaries) (any r : Bool) (now : List Valued) → IsSizeOf sizes v.content b → sizes' ≡ sizes ++ b ∷ []
      → r ≡ not any → now ≡ (if any then values else values ++ v ∷ []) → r ≡ true → AreSized now sizes'
  sized_put v b sizes' true r now h s a k e = let no : false ≡ true = sym a ∙ e in cc
  sized_put v b sizes' false r now h s a k e =
      subst (λ vs. AreSized vs sizes') (sym k) (subst (λ bs. AreSized (values ++ v ∷ []) bs) (sym s) (sized_push v b h))
