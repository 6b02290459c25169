-- Rows by their marks, and walks over marks from the lowest to the highest.
use Rattle.std.proofs.Common.{ℕ, suc, ◌+◌, ◌-◌, ◌*◌, ◌%◌, ◌^◌, ◌<◌, ◌≤◌, ◌≡◌, ◌≢◌, inl, inr, Bool, true, false, not, eqb, eqb-true, eq-eqb, cond, bit_and, set, List, [], ◌++◌, length, map, get_or, replicate, refl, sym, ap, ap₂, ◌∙◌, subst, arith, length-set, length-append, w64}
use Rattle.std.specs.Int.{bit_at, bit_not, trailing_zeros}
use Rattle.std.specs.List.{range_with_len}
use lib.Count.{count_leading_zeros}
use lib.Lanes.{mask_l}
use Rattle.std.proofs.lemmas.Simd.{bit_mask_l, mask_l-lt}
use Rattle.std.proofs.lemmas.Bool.{cases_lt, cases_eq}
use Rattle.std.proofs.lemmas.Nat.{and_le_l, leading_top, pow-add, mul-add-lt}
use Rattle.std.proofs.lemmas.Nat.Bits.{bit_at-zero, bit_at_above, bit_at_cat_low, bit_at_cat_high, bit_at_clear_same, bit_at_clear_other, bit_at-trailing_zeros}
use Rattle.std.proofs.lemmas.List.{length-map, length-replicate, get_or-append_right, get_or_append_left, get_or-map, get_or-replicate, get_or-set_same, get_or-set_other, ext_get_or}
use Rattle.std.proofs.lemmas.List.FromFn.{length-range_with_len, get_or-range_with_len}
use Rattle.mm_field.specs.Vectors.{zeros}
use Rattle.mm_linear.proofs.SpaceLemmas.{false_true}
use Rattle.mm_space.specs.MarkedRows.{IsHighest, IsSupport, marked_row, marked_rows}

-- ---- rows by their marks

pub length-marked : (n marks : ℕ) (rows : List (List ℕ)) → length (marked_rows n marks rows) ≡ n
unfolding marked_rows
length-marked n marks rows = length-map (range_with_len 0 n) (marked_row n marks rows) ∙ length-range_with_len 0 n

pub marked_at : (n marks : ℕ) (rows : List (List ℕ)) (i : ℕ) → i < n → get_or (marked_rows n marks rows) i [] ≡ marked_row n marks rows i
unfolding marked_rows
marked_at n marks rows i l =
    get_or-map (marked_row n marks rows) (range_with_len 0 n) i 0 [] (omega (arith, length-range_with_len 0 n))
    ∙ ap (marked_row n marks rows) (get_or-range_with_len 0 n i 0 l ∙ omega arith)

pub marked_on : (n marks : ℕ) (rows : List (List ℕ)) (i : ℕ) → i < n → bit_at marks i ≡ 1 → get_or (marked_rows n marks rows) i [] ≡ get_or rows i []
marked_on n marks rows i l e = marked_at n marks rows i l ∙ ap (λ (b : ℕ). cond (eqb b 0) (zeros n) (get_or rows i [])) e

pub marked_off : (n marks : ℕ) (rows : List (List ℕ)) (i : ℕ) → i < n → bit_at marks i ≡ 0 → get_or (marked_rows n marks rows) i [] ≡ zeros n
marked_off n marks rows i l e = marked_at n marks rows i l ∙ ap (λ (b : ℕ). cond (eqb b 0) (zeros n) (get_or rows i [])) e

-- a row put in at a place that is marked from then on
pub marked-put : (n marks more p : ℕ) (rows : List (List ℕ)) (w : List ℕ) → p < n → p < length rows → bit_at more p ≡ 1 →
    ((i : ℕ) → i < n → i ≢ p → bit_at more i ≡ bit_at marks i) → marked_rows n more (set rows p w) ≡ set (marked_rows n marks rows) p w
marked-put n marks more p rows w lp lr on others =
    let M = marked_rows n marks rows in
    let N = marked_rows n more (set rows p w) in
    let lm = length-marked n marks rows in
    let ln = length-marked n more (set rows p w) in
    ext_get_or [] N (set M p w) (ln ∙ sym (length-set M p w ∙ lm))
    (λ k l.
    let lk : k < n = omega arith in
    elim (cases_eq k p) [
      | inl e ↦
          marked_on n more (set rows p w) k lk (ap (bit_at more) e ∙ on)
          ∙ ap (λ j. get_or (set rows p w) j []) e ∙ get_or-set_same rows p w [] lr
          ∙ sym (ap (λ j. get_or (set M p w) j []) e ∙ get_or-set_same M p w [] (omega arith))
      | inr ne ↦
          marked_at n more (set rows p w) k lk
          ∙ ap₂ (λ (b : ℕ) (r : List ℕ). cond (eqb b 0) (zeros n) r) (others k lk ne) (get_or-set_other rows p k w [] ne)
          ∙ sym (marked_at n marks rows k lk)
          ∙ sym (get_or-set_other M p k w [] ne)
    ])

-- without marks nothing counts
pub marked-none : (n : ℕ) (rows : List (List ℕ)) → marked_rows n 0 rows ≡ replicate n (zeros n)
marked-none n rows =
    ext_get_or [] (marked_rows n 0 rows) (replicate n (zeros n)) (length-marked n 0 rows ∙ sym (length-replicate n (zeros n)))
    (λ k l.
    let lk : k < n = omega (arith, length-marked n 0 rows) in
    marked_off n 0 rows k lk (bit_at-zero k) ∙ sym (get_or-replicate n k (zeros n) [] lk))

-- where all places are marked, all rows count
pub marked-all : (n marks : ℕ) (rows : List (List ℕ)) → length rows ≡ n → ((i : ℕ) → i < n → bit_at marks i ≡ 1) → marked_rows n marks rows ≡ rows
marked-all n marks rows e on =
    ext_get_or [] (marked_rows n marks rows) rows (length-marked n marks rows ∙ sym e)
    (λ k l. let lk : k < n = omega (arith, length-marked n marks rows) in marked_on n marks rows k lk (on k lk))

-- ---- walks over marks

-- of the marks at the start, those from place at on are left
pub record IsLeft (start left at : ℕ) : Type 0 where
  pub done : (k : ℕ) → k < at → bit_at left k ≡ 0
  pub rest : (k : ℕ) → at ≤ k → k < 64 → bit_at left k ≡ bit_at start k

-- j is the lowest mark
pub record IsLowest (left j : ℕ) : Type 0 where
  pub small : j < 64
  pub set : bit_at left j ≡ 1
  pub before : (i : ℕ) → i < j → bit_at left i ≡ 0

pub lowest_mark : (left : ℕ) → left ≢ 0 → left < 2 ^ 64 → IsLowest left (trailing_zeros w64 left)
lowest_mark left some fits =
    let l = bit_at-trailing_zeros w64 left (omega arith) fits in record { small = l.0; set = l.1; before = l.2 }

-- the marks without the one at j
abbrev pub without : ℕ → ℕ → ℕ
without left j = bit_and left (bit_not w64 (1 * 2 ^ j % 2 ^ 64))

pub lowest_is_next : (start left at j : ℕ) → IsLeft start left at → IsLowest left j → at ≤ j
lowest_is_next start left at j h m =
    elim (cases_lt j at) [
      | inl early ↦ absurd (let none : bit_at left j ≡ 0 = h.done j early in let some = m.set in omega arith)
      | inr late ↦ late
    ]

pub lowest_is_mark : (start left at j : ℕ) → IsLeft start left at → IsLowest left j → bit_at start j ≡ 1
lowest_is_mark start left at j h m = sym (h.rest j (lowest_is_next start left at j h m) m.small) ∙ m.set

pub none_between : (start left at j : ℕ) → IsLeft start left at → IsLowest left j → (k : ℕ) → at ≤ k → k < j → bit_at start k ≡ 0
none_between start left at j h m k low l = let small = m.small in sym (h.rest k low (omega arith)) ∙ m.before k l

pub without_lowest : (start left at j : ℕ) → IsLeft start left at → IsLowest left j → IsLeft start (without left j) (j + 1)
without_lowest start left at j h m =
    let next = lowest_is_next start left at j h m in
    let small = m.small in
    record {
      done = λ k l. elim (cases_eq k j) [
        | inl e ↦ ap (bit_at (without left j)) e ∙ bit_at_clear_same w64 left j small
        | inr ne ↦ bit_at_clear_other w64 left j small k (omega arith) ne ∙ m.before k (omega arith)
      ];
      rest = λ k low l.
          let ne : k ≢ j = λ e. absurd (omega arith) in
          bit_at_clear_other w64 left j small k l ne ∙ h.rest k (omega arith) l;
    }

-- the walk ends, since each step takes a mark off
pub without_is_less : (left j : ℕ) → IsLowest left j → without left j < left
without_is_less left j m =
    let gone = bit_at_clear_same w64 left j m.small in
    elim (cases_eq (without left j) left) [
      | inl e ↦ absurd (let both : bit_at (without left j) j ≡ bit_at left j = ap (λ x. bit_at x j) e in let some = m.set in omega arith)
      | inr ne ↦ omega (arith, and_le_l left (bit_not w64 (1 * 2 ^ j % 2 ^ 64)))
    ]

pub nothing_left : (start left at : ℕ) → IsLeft start left at → left ≡ 0 → (k : ℕ) → at ≤ k → k < 64 → bit_at start k ≡ 0
nothing_left start left at h e k low l = sym (h.rest k low l) ∙ ap (λ x. bit_at x k) e ∙ bit_at-zero k

-- ---- the highest mark

pub highest : (n p : ℕ) → 0 < n → n < 2 ^ 64 → p ≡ 63 - count_leading_zeros 64 n → IsHighest n p
highest n p some small p_is =
    let t = leading_top 64 n some small in
    let j = t.0 in
    let sum : count_leading_zeros 64 n + suc j ≡ 64 = t.1 in
    let low : 2 ^ j ≤ n = t.2 in
    let high : n < 2 ^ suc j = t.3 in
    let is : p ≡ j = omega (arith, p_is, sum) in
    let e : suc j ≡ 1 + j = omega arith in
    let twice : 2 ^ suc j ≡ 2 * 2 ^ j = ap (λ m. 2 ^ m) e ∙ pow-add 2 1 j in
    let parts : n ≡ 1 * 2 ^ j + (n - 2 ^ j) = omega arith in
    let zero : j - j ≡ 0 = omega arith in
    let at_j : bit_at n j ≡ 1 =
    ap (λ x. bit_at x j) parts ∙ bit_at_cat_high 1 j (n - 2 ^ j) j (omega arith) (omega arith) ∙ ap (bit_at 1) zero in
    record {
      set = ap (bit_at n) is ∙ at_j;
      after = λ k l. bit_at_above n (suc j) k high (omega arith);
    }

-- ---- the places of digits other than 0

abbrev bit : Bool → ℕ
bit b = cond b 1 0

bit_of_digit : (x : ℕ) (b : Bool) → eqb x 0 ≡ b → bit (not b) ≡ 0 → x ≡ 0
bit_of_digit x true e z = eqb-true x 0 e
bit_of_digit x false e z = absurd (omega (arith, z))

digit_of_bit : (x : ℕ) (b : Bool) → eqb x 0 ≡ b → bit (not b) ≡ 1 → x ≢ 0
digit_of_bit x true e o = absurd (omega (arith, o))
digit_of_bit x false e o = λ z. false_true ⊥ (sym e ∙ eq-eqb x 0 z)

mask_bit : (xs : List ℕ) (k : ℕ) → k < length xs → bit_at (mask_l (map (λ x. not (eqb x 0)) xs)) k ≡ bit (not (eqb (get_or xs k 0) 0))
mask_bit xs k l =
    bit_mask_l (map (λ x. not (eqb x 0)) xs) k ∙ ap bit (get_or-map (λ x. not (eqb x 0)) xs k 0 false l)

pub mask_is_support : (xs : List ℕ) (m : ℕ) → m ≡ mask_l (map (λ x. not (eqb x 0)) xs) → IsSupport xs m
mask_is_support xs m e =
    let p = λ (x : ℕ). not (eqb x 0) in
    let lm : length (map p xs) ≡ length xs = length-map xs p in
    let small : m < 2 ^ length xs = subst (λ n. m < 2 ^ n) lm (subst (λ x. x < 2 ^ length (map p xs)) (sym e) (mask_l-lt (map p xs))) in
    record {
      small = small;
      zero = λ k l z. bit_of_digit (get_or xs k 0) (eqb (get_or xs k 0) 0) refl (sym (ap (λ x. bit_at x k) e ∙ mask_bit xs k l) ∙ z);
      nonzero = λ k o.
          let l : k < length xs = elim (cases_lt k (length xs)) [
            | inl low ↦ low
            | inr high ↦ absurd (let none : bit_at m k ≡ 0 = bit_at_above m (length xs) k small high in omega (arith, none, o))
          ] in
          (l, digit_of_bit (get_or xs k 0) (eqb (get_or xs k 0) 0) refl (sym (ap (λ x. bit_at x k) e ∙ mask_bit xs k l) ∙ o));
    }

pub support-append : (xs ys : List ℕ) (n a b : ℕ) → length xs ≡ n → IsSupport xs a → IsSupport ys b → IsSupport (xs ++ ys) (b * 2 ^ n + a)
support-append xs ys n a b e sx sy =
    let all : length (xs ++ ys) ≡ n + length ys = length-append xs ys ∙ omega (arith, e) in
    let small : a < 2 ^ n = subst (λ m. a < 2 ^ m) e sx.small in
    let more : b < 2 ^ length ys = sy.small in
    let high : (k : ℕ) → n ≤ k → bit_at (b * 2 ^ n + a) k ≡ bit_at b (k - n) = λ k l. bit_at_cat_high b n a k small l in
    let back : (k : ℕ) → n ≤ k → get_or (xs ++ ys) k 0 ≡ get_or ys (k - n) 0 = λ k l. get_or-append_right xs ys n k 0 e l in
    record {
      small = subst (λ m. b * 2 ^ n + a < 2 ^ m) (sym all) (subst (λ p. b * 2 ^ n + a < p) (sym (pow-add 2 n (length ys))) (mul-add-lt b (2 ^ n) a (2 ^ length ys) more small));
      zero = λ k l z. elim (cases_lt k n) [
        | inl low ↦ get_or_append_left xs ys 0 k (omega (arith, e, low)) ∙ sx.zero k (omega (arith, e, low)) (sym (bit_at_cat_low b n a k low) ∙ z)
        | inr late ↦ back k late ∙ sy.zero (k - n) (omega (arith, all, l, late)) (sym (high k late) ∙ z)
      ];
      nonzero = λ k o. elim (cases_lt k n) [
        | inl low ↦
            let s = sx.nonzero k (sym (bit_at_cat_low b n a k low) ∙ o) in
            (omega (arith, all, low), subst (λ x. x ≢ 0) (sym (get_or_append_left xs ys 0 k s.0)) s.1)
        | inr late ↦
            let s = sy.nonzero (k - n) (sym (high k late) ∙ o) in
            let l = s.0 in
            (omega (arith, all, late, l), subst (λ x. x ≢ 0) (sym (back k late)) s.1)
      ];
    }

-- without marks there are no digits other than 0
pub no_support : (xs : List ℕ) (m : ℕ) → IsSupport xs m → m ≡ 0 → xs ≡ zeros (length xs)
no_support xs m s e =
    ext_get_or 0 xs (zeros (length xs)) (sym (length-replicate (length xs) 0))
    (λ k l. s.zero k l (ap (λ x. bit_at x k) e ∙ bit_at-zero k) ∙ sym (get_or-replicate (length xs) k 0 0 l))
