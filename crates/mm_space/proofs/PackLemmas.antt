-- Numbers below eight packed in one number, three bits each.
use Rattle.std.proofs.Common.{ℕ, zero, suc, ◌+◌, ◌-◌, ◌*◌, ◌/◌, ◌%◌, ◌^◌, ◌<◌, ◌≤◌, ◌≡◌, List, [], ◌∷◌, ◌++◌, length, map, get_or, take, reverse, refl, sym, ap, ap₂, ◌∙◌, arith, lt_of_lt_of_le, lit<}
use Rattle.std.specs.Prelude.{All}
use Rattle.std.specs.List.{range_with_len}
use Rattle.std.proofs.Math.Nat.{zero-div, div-one, div-div-eq-div-mul, pow-le-pow_right}
use Rattle.std.proofs.lemmas.Nat.{pow-add}
use Rattle.std.proofs.lemmas.List.{get_or-append_right, get_or_append_left, get_or-map, length-map, ext_get_or, take_more, reverse-append}
use Rattle.std.proofs.lemmas.List.FromFn.{length-range_with_len, get_or-range_with_len}
use Rattle.std.proofs.lemmas.List.Elements.{All-head, All-tail, All-append, All-cons, All-nil}
use Rattle.mm_field.specs.declared.Field.{Field}
use Rattle.mm_field.specs.declared.Field.TheVariants.{Two, Three, Four, Five}
use Rattle.mm_space.specs.KeyValue.{KeyValue, number_onto, digit_at, code_of, field_of, joined_rows, packed, unpacked, unpacked_row}

pub number_onto-append : (n : ℕ) (xs ys : List ℕ) → number_onto n (xs ++ ys) ≡ number_onto (number_onto n ys) xs
number_onto-append n [] ys = refl
number_onto-append n (x ∷ xs) ys = ap (λ m. x + 8 * m) (number_onto-append n xs ys)

eight_times : (k : ℕ) → 2 ^ (3 * suc k) ≡ 8 * 2 ^ (3 * k)
eight_times k = (let e : 3 * suc k ≡ 3 + 3 * k = omega arith in ap (λ m. 2 ^ m) e) ∙ pow-add 2 3 (3 * k)

-- one place further
digit_at-next : (d m k : ℕ) → d < 8 → digit_at (d + 8 * m) (suc k) ≡ digit_at m k
digit_at-next d m k l =
    let e : (d + 8 * m) / 8 ≡ m = omega arith in
    ap (λ p. (d + 8 * m) / p % 8) (eight_times k)
    ∙ ap (λ x. x % 8) (sym (div-div-eq-div-mul (d + 8 * m) 8 (2 ^ (3 * k))) ∙ ap (λ x. x / 2 ^ (3 * k)) e)

pub digit_at-number : (ds : List ℕ) → All (λ d. d < 8) ds → (k : ℕ) → digit_at (number_onto 0 ds) k ≡ get_or ds k 0
digit_at-number [] h k = ap (λ x. x % 8) (zero-div (2 ^ (3 * k)))
digit_at-number (d ∷ ds) h zero =
    let l : d < 8 = All-head (λ x. x < 8) d ds h in
    ap (λ x. x % 8) (div-one (d + 8 * number_onto 0 ds)) ∙ omega arith
digit_at-number (d ∷ ds) h (suc k) =
    digit_at-next d (number_onto 0 ds) k (All-head (λ x. x < 8) d ds h) ∙ digit_at-number ds (All-tail (λ x. x < 8) d ds h) k

-- digit j of row i among the digits of all rows
pub joined_rows-get : (t : ℕ) (rows : List (List ℕ)) → All (λ v. length v ≡ t) rows → (i j : ℕ) → i < length rows → j < t →
    get_or (joined_rows rows) (t * i + j) 0 ≡ get_or (get_or rows i []) j 0
joined_rows-get t [] h i j l m = absurd (omega arith)
joined_rows-get t (v ∷ vs) h zero j l m =
    let e : length v ≡ t = All-head (λ v. length v ≡ t) v vs h in
    let z : t * 0 + j ≡ j = omega arith in
    ap (λ k. get_or (v ++ joined_rows vs) k 0) z ∙ get_or_append_left v (joined_rows vs) 0 j (omega arith)
joined_rows-get t (v ∷ vs) h (suc i) j l m =
    let e : length v ≡ t = All-head (λ v. length v ≡ t) v vs h in
    let z : t * suc i + j ≡ t + (t * i + j) = omega arith in
    let y : t + (t * i + j) - t ≡ t * i + j = omega arith in
    ap (λ k. get_or (v ++ joined_rows vs) k 0) z
    ∙ get_or-append_right v (joined_rows vs) t (t + (t * i + j)) 0 e (omega arith)
    ∙ ap (λ k. get_or (joined_rows vs) k 0) y
    ∙ joined_rows-get t vs (All-tail (λ v. length v ≡ t) v vs h) i j (omega arith) m

pub joined_rows-small : (rows : List (List ℕ)) → All (λ v. All (λ d. d < 8) v) rows → All (λ d. d < 8) (joined_rows rows)
joined_rows-small [] h = All-nil (λ d. d < 8)
joined_rows-small (v ∷ vs) h =
    All-append (λ d. d < 8) v (joined_rows vs) (All-head (λ u. All (λ d. d < 8) u) v vs h)
    (joined_rows-small vs (All-tail (λ u. All (λ d. d < 8) u) v vs h))

field-code : (f : Field) → field_of (code_of f) ≡ f
field-code Two = refl
field-code Three = refl
field-code Four = refl
field-code Five = refl

code-small : (f : Field) → code_of f < 8
code-small Two = omega arith
code-small Three = omega arith
code-small Four = omega arith
code-small Five = omega arith

-- a key of which each number fits three bits
pub record Fits (key : KeyValue) : Type 0 where
  pub narrow : key.t < 8
  pub few : length key.rows < 8
  pub each : All (λ v. length v ≡ key.t) key.rows
  pub small : All (λ v. All (λ d. d < 8) v) key.rows

abbrev key_of : Field → ℕ → List (List ℕ) → KeyValue
key_of f t rows = record { f = f; t = t; rows = rows }

same_key : (f g : Field) (t u : ℕ) (rows sows : List (List ℕ)) → f ≡ g → t ≡ u → rows ≡ sows → key_of f t rows ≡ key_of g u sows
same_key f g t u rows sows ef et er = ap (λ x. key_of x t rows) ef ∙ ap (λ x. key_of g x rows) et ∙ ap (key_of g u) er

abbrev header : KeyValue → List ℕ
header key = key.t ∷ code_of key.f ∷ length key.rows ∷ joined_rows key.rows

header-small : (key : KeyValue) → Fits key → All (λ d. d < 8) (header key)
header-small key h =
    let n = length key.rows in
    All-cons (λ d. d < 8) key.t (code_of key.f ∷ n ∷ joined_rows key.rows) h.narrow
    (All-cons (λ d. d < 8) (code_of key.f) (n ∷ joined_rows key.rows) (code-small key.f)
    (All-cons (λ d. d < 8) n (joined_rows key.rows) h.few (joined_rows-small key.rows h.small)))

unpacked_row-packed : (key : KeyValue) → Fits key → (i : ℕ) → i < length key.rows →
    unpacked_row (packed key) key.t i ≡ get_or key.rows i []
unpacked_row-packed key h i l =
    let N = packed key in
    let digit = λ (j : ℕ). digit_at N (3 + key.t * i + j) in
    let lr : length (get_or key.rows i []) ≡ key.t = h.each i [] l in
    let lm : length (map digit (range_with_len 0 key.t)) ≡ key.t = length-map (range_with_len 0 key.t) digit ∙ length-range_with_len 0 key.t in
    ext_get_or 0 (unpacked_row N key.t i) (get_or key.rows i []) (lm ∙ sym lr)
    (λ j m.
    let lj : j < key.t = omega arith in
    let e : 3 + key.t * i + j ≡ suc (suc (suc (key.t * i + j))) = omega arith in
    get_or-map digit (range_with_len 0 key.t) j 0 0 (omega (arith, length-range_with_len 0 key.t))
    ∙ ap digit (get_or-range_with_len 0 key.t j 0 lj ∙ omega arith)
    ∙ digit_at-number (header key) (header-small key h) (3 + key.t * i + j)
    ∙ ap (λ k. get_or (header key) k 0) e
    ∙ joined_rows-get key.t key.rows h.each i j l lj)

-- what is packed is got back
pub unpacked-packed : (key : KeyValue) → Fits key → unpacked (packed key) ≡ key
unpacked-packed key h =
    let n = length key.rows in
    let N = packed key in
    let at = digit_at-number (header key) (header-small key h) in
    let rows_are = ext_get_or [] (map (unpacked_row N key.t) (range_with_len 0 n)) key.rows
    (length-map (range_with_len 0 n) (unpacked_row N key.t) ∙ length-range_with_len 0 n)
    (λ i l.
    let li : i < n = omega (arith, length-map (range_with_len 0 n) (unpacked_row N key.t), length-range_with_len 0 n) in
    get_or-map (unpacked_row N key.t) (range_with_len 0 n) i 0 [] (omega (arith, length-range_with_len 0 n))
    ∙ ap (unpacked_row N key.t) (get_or-range_with_len 0 n i 0 li ∙ omega arith)
    ∙ unpacked_row-packed key h i li) in
    same_key (field_of (digit_at N 1)) key.f (digit_at N 0) key.t (map (unpacked_row N (digit_at N 0)) (range_with_len 0 (digit_at N 2))) key.rows
    (ap field_of (at 1) ∙ field-code key.f)
    (at 0)
    (ap₂ (λ t k. map (unpacked_row N t) (range_with_len 0 k)) (at 0) (at 2) ∙ rows_are)

-- ---- packing a row

pub row_step : (packed all k : ℕ) (row : List ℕ) → k < length row → all ≡ number_onto packed (reverse (take k row)) →
    get_or row k 0 + 8 * all ≡ number_onto packed (reverse (take (k + 1) row))
row_step packed all k row l e =
    ap (λ m. get_or row k 0 + 8 * m) e
    ∙ sym (ap (λ xs. number_onto packed (reverse xs)) (take_more row k 0 l)
    ∙ ap (number_onto packed) (reverse-append (take k row) (get_or row k 0 ∷ [])))

pub room_step : (b k all x : ℕ) → x < 8 → all < 2 ^ (b + 3 * k) → x + 8 * all < 2 ^ (b + 3 * (k + 1))
room_step b k all x small room =
    let e : b + 3 * (k + 1) ≡ 3 + (b + 3 * k) = omega arith in
    let p : 2 ^ (b + 3 * (k + 1)) ≡ 8 * 2 ^ (b + 3 * k) = ap (λ m. 2 ^ m) e ∙ pow-add 2 3 (b + 3 * k) in
    omega arith

pub power_most : (a b n : ℕ) → n < 2 ^ a → a ≤ b → n < 2 ^ b
power_most a b n l m = lt_of_lt_of_le l (pow-le-pow_right (lit< tt) m)

-- where the digits of a packed key stand
pub unpacked-get : (bits i j : ℕ) → i < length (unpacked bits).rows → j < digit_at bits 0 →
    get_or (get_or (unpacked bits).rows i []) j 0 ≡ digit_at bits (3 + digit_at bits 0 * i + j)
unpacked-get bits i j l m =
    let t = digit_at bits 0 in
    let n = digit_at bits 2 in
    let li : i < n = omega (arith, length-map (range_with_len 0 n) (unpacked_row bits t), length-range_with_len 0 n) in
    let digit = λ (k : ℕ). digit_at bits (3 + t * i + k) in
    ap (λ v. get_or v j 0)
    (get_or-map (unpacked_row bits t) (range_with_len 0 n) i 0 [] (omega (arith, length-range_with_len 0 n))
    ∙ ap (unpacked_row bits t) (get_or-range_with_len 0 n i 0 li ∙ omega arith))
    ∙ get_or-map digit (range_with_len 0 t) j 0 0 (omega (arith, length-range_with_len 0 t))
    ∙ ap digit (get_or-range_with_len 0 t j 0 m ∙ omega arith)

-- the numbers below 2 ^ 18 are those of the first six places
low_number : (x j : ℕ) → j < 6 → x % 262144 / 2 ^ (3 * j) % 8 ≡ x / 2 ^ (3 * j) % 8
low_number x zero l = omega arith
low_number x (suc zero) l = omega arith
low_number x (suc (suc zero)) l = omega arith
low_number x (suc (suc (suc zero))) l = omega arith
low_number x (suc (suc (suc (suc zero)))) l = omega arith
low_number x (suc (suc (suc (suc (suc zero))))) l = omega arith
low_number x (suc (suc (suc (suc (suc (suc j)))))) l = absurd (omega arith)

-- six numbers from place k on, cut out together
pub cut_number : (bits k j : ℕ) → j < 6 → bits / 2 ^ (3 * k) % 262144 / 2 ^ (3 * j) % 8 ≡ digit_at bits (k + j)
cut_number bits k j l =
    let e : 3 * k + 3 * j ≡ 3 * (k + j) = omega arith in
    low_number (bits / 2 ^ (3 * k)) j l
    ∙ ap (λ x. x % 8) (div-div-eq-div-mul bits (2 ^ (3 * k)) (2 ^ (3 * j)) ∙ ap (λ p. bits / p) (sym (pow-add 2 (3 * k) (3 * j)) ∙ ap (λ n. 2 ^ n) e))
