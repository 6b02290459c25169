-- A number keeps its value when values are added, and its value is that of its content.
use Rattle.std.proofs.Common.{◌≡◌, ℕ, zero, suc, ◌≤◌, ◌<◌, ◌==◌, Bool, true, false, if◌then◌else◌, List, [], ◌∷◌, ◌++◌, map, length, reverse, Option, Some, None, refl, sym, ap, ap₂, ◌∙◌, subst, arith}
use Rattle.std.specs.List.{slice_get}
use Rattle.std.specs.Ordering.{nat_cmp}
use Rattle.std.specs.Cmp.{nat_cmp_total}
use Rattle.std.specs.FinMap.{nat_cmp-IsAntisymmetric}
use Rattle.std.proofs.lemmas.List.{reverse-append, reverse-reverse, length-reverse}
use Rattle.mm_logic.specs.Order.{normal}
use Rattle.mm_logic.specs.Value.{Value, collected}
use Rattle.mm_logic.specs.Value.{Value as value}
use Rattle.mm_logic.proofs.SetLemmas.{list_any-map, list_any-normal}
use Rattle.mm_logic.proofs.ValueLemmas.{collected-same}
use Rattle.mm_checker.specs.Contents.{value_of, meaning_in, meaning}
use Rattle.mm_checker.specs.declared.certificate.Content.{Content}
use Rattle.mm_checker.specs.declared.certificate.Content.TheVariants as content
use Rattle.mm_checker.specs.declared.certificate.Valued.{Valued}

-- the numbers are all below n
abbrev pub AreBelow : ℕ → List ℕ → Type 0
AreBelow n [] = Unit {0}
AreBelow n (k ∷ ks) = (k < n) × AreBelow n ks

-- a content names numbers below n
abbrev pub IsBelow : ℕ → Content → Type 0
IsBelow n (content.Flag k) = Unit {0}
IsBelow n content.Dead = Unit {0}
IsBelow n (content.Space key) = Unit {0}
IsBelow n (content.Parts a b) = (a < n) × (b < n)
IsBelow n (content.SetOf ks) = AreBelow n ks
IsBelow n (content.OneOf a ks) = (a < n) × AreBelow n ks

-- of values of which the last stands first: each names numbers of earlier ones
abbrev pub AreGrounded : List Valued → Type 0
AreGrounded [] = Unit {0}
AreGrounded (v ∷ earlier) = IsBelow (length earlier) v.content × AreGrounded earlier

are_below-more : (n m : ℕ) → n ≤ m → (ks : List ℕ) → AreBelow n ks → AreBelow m ks
are_below-more n m l [] h = tt
are_below-more n m l (k ∷ ks) h = (omega (arith, l, h.0), are_below-more n m l ks h.1)

below-more : (n m : ℕ) → n ≤ m → (c : Content) → IsBelow n c → IsBelow m c
below-more n m l (content.Flag k) h = tt
below-more n m l content.Dead h = tt
below-more n m l (content.Space key) h = tt
below-more n m l (content.Parts a b) h = (omega (arith, l, h.0), omega (arith, l, h.1))
below-more n m l (content.SetOf ks) h = are_below-more n m l ks h
below-more n m l (content.OneOf a ks) h = (omega (arith, l, h.0), are_below-more n m l ks h.1)

-- ---- two readings of numbers that agree below n

module _ (g h : ℕ → Value) (n : ℕ) (agree : (k : ℕ) → k < n → g k ≡ h k) where
  map_agree : (ks : List ℕ) → AreBelow n ks → map g ks ≡ map h ks
  map_agree [] b = refl
  map_agree (k ∷ ks) b = ap₂ (λ x xs. x ∷ xs) (agree k b.0) (map_agree ks b.1)

  value_agree : (c : Content) → IsBelow n c → value_of g c ≡ value_of h c
  value_agree (content.Flag k) b = refl
  value_agree content.Dead b = refl
  value_agree (content.Space key) b = refl
  value_agree (content.Parts i j) b = ap₂ value.Pair (agree i b.0) (agree j b.1)
  value_agree (content.SetOf ks) b = ap collected (map_agree ks b)
  value_agree (content.OneOf i ks) b = ap₂ value.Pair (agree i b.0) (ap collected (map_agree ks b.1))

-- ---- the value of a number

-- value n of values of which the last stands first
abbrev last_at : List Valued → ℕ → Option Valued
last_at [] n = None
last_at (v ∷ earlier) n = if n == length earlier then Some v else last_at earlier n

suc_zero : (n : ℕ) → (suc n == zero) ≡ false
suc_zero n = grind arith

zero_suc : (n : ℕ) → (zero == suc n) ≡ false
zero_suc n = grind arith

suc_suc : (n m : ℕ) → (suc n == suc m) ≡ (n == m)
suc_suc n m = grind arith

slice_get-push : {A : Type 0} (xs : List A) (v : A) (n : ℕ) → slice_get (xs ++ v ∷ []) n ≡ (if n == length xs then Some v else slice_get xs n)
slice_get-push [] v zero = refl
slice_get-push [] v (suc n) = ap (λ (b : Bool). if b then Some v else None) (sym (suc_zero n))
slice_get-push (x ∷ xs) v zero = ap (λ (b : Bool). if b then Some v else Some x) (sym (zero_suc (length xs)))
slice_get-push (x ∷ xs) v (suc n) = slice_get-push xs v n ∙ ap (λ (b : Bool). if b then Some v else slice_get xs n) (sym (suc_suc n (length xs)))

last_at-reverse : (rev : List Valued) (n : ℕ) → slice_get (reverse rev) n ≡ last_at rev n
last_at-reverse [] n = refl
last_at-reverse (v ∷ rev) n =
    ap (λ vs. slice_get vs n) (reverse-append (v ∷ []) rev)
    ∙ slice_get-push (reverse rev) v n
    ∙ (λ i. if n == length-reverse rev i then Some v else last_at-reverse rev n i)

not_itself : (k n : ℕ) → k < n → (k == n) ≡ false
not_itself k n l = grind arith

earlier_agree : (v : Valued) (earlier : List Valued) (k : ℕ) → k < length earlier → meaning_in earlier k ≡ meaning_in (v ∷ earlier) k
earlier_agree v earlier k l =
    ap (λ (b : Bool). if b then value_of (meaning_in earlier) v.content else meaning_in earlier k) (sym (not_itself k (length earlier) l))

below_all : (rev : List Valued) → AreGrounded rev → (n : ℕ) (v : Valued) → last_at rev n ≡ Some v → IsBelow (length rev) v.content
below_all [] h n v e = let no : None ≡ Some v = e in cc
below_all (w ∷ earlier) h n v e = by (below_all earlier h.1 n v) (n == length earlier) e
  where
    by : (last_at earlier n ≡ Some v → IsBelow (length earlier) v.content) → (b : Bool) → (if b then Some w else last_at earlier n) ≡ Some v → IsBelow (suc (length earlier)) v.content
    by ih true e =
        let same : w ≡ v = cc in
        below-more (length earlier) (suc (length earlier)) (omega arith) v.content (subst (λ z. IsBelow (length earlier) z.content) same h.0)
    by ih false e = below-more (length earlier) (suc (length earlier)) (omega arith) v.content (ih e)

unfold_in : (rev : List Valued) → AreGrounded rev → (n : ℕ) (v : Valued) → last_at rev n ≡ Some v → meaning_in rev n ≡ value_of (meaning_in rev) v.content
unfold_in [] h n v e = let no : None ≡ Some v = e in cc
unfold_in (w ∷ earlier) h n v e = by (unfold_in earlier h.1 n v) (n == length earlier) e
  where
    by : (last_at earlier n ≡ Some v → meaning_in earlier n ≡ value_of (meaning_in earlier) v.content) → (b : Bool) → (if b then Some w else last_at earlier n) ≡ Some v
        → (if b then value_of (meaning_in earlier) w.content else meaning_in earlier n) ≡ value_of (meaning_in (w ∷ earlier)) v.content
    by ih true e =
        let same : w ≡ v = cc in
        ap (λ z. value_of (meaning_in earlier) z.content) same
        ∙ value_agree (meaning_in earlier) (meaning_in (w ∷ earlier)) (length earlier) (earlier_agree w earlier) v.content
        (subst (λ z. IsBelow (length earlier) z.content) same h.0)
    by ih false e =
        ih e
        ∙ value_agree (meaning_in earlier) (meaning_in (w ∷ earlier)) (length earlier) (earlier_agree w earlier) v.content
        (below_all earlier h.1 n v e)

-- the value of a number is that of its content
pub meaning_is : (values : List Valued) → AreGrounded (reverse values) → (n : ℕ) (v : Valued) → slice_get values n ≡ Some v
    → meaning values n ≡ value_of (meaning values) v.content
meaning_is values h n v e =
    unfold_in (reverse values) h n v (sym (last_at-reverse (reverse values) n) ∙ ap (λ vs. slice_get vs n) (reverse-reverse values) ∙ e)

-- ---- sets of numbers

-- the values of a set of numbers, whatever their order
pub collected-normal : (g : ℕ → Value) (ns : List ℕ) → collected (map g (normal nat_cmp ns)) ≡ collected (map g ns)
collected-normal g ns = collected-same _ _ (λ p.
    list_any-map p g (normal nat_cmp ns)
    ∙ list_any-normal nat_cmp_total nat_cmp-IsAntisymmetric (λ n. p (g n)) ns
    ∙ sym (list_any-map p g ns))
