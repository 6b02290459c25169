-- Bytes of one length are the same exactly where the numbers are that they spell, the first byte the lowest.
use Rattle.std.proofs.Common.{ℕ, zero, suc, ◌≡◌, ◌<◌, ◌-◌, ◌++◌, nat_le, replicate, ◌+◌, ◌*◌, ◌^◌, ◌==◌, ◌&&◌, List, [], ◌∷◌, length, get_or, Bool, true, false, refl, sym, ap, ap₂, ◌∙◌, subst, arith}
use Rattle.std.specs.Int.{w128, from_le_bytes, byte_worth, sum_through}
use Rattle.std.specs.Char.{is_ascii_lowercase}
use Rattle.std.specs.List.{list_all}
use Rattle.std.specs.Str.{bytes_eq}
use Rattle.std.proofs.lemmas.Bool.Decides.{nat_tests}
use Rattle.std.proofs.lemmas.Bool.{and_parts, eqb-true, eq-eqb, ne_eqb, both_ways}
use Rattle.mm_base.specs.Names.{is_name, is_name_byte}
use Rattle.mm_base.specs.NameFields.{IsPadded, text_of, fields_of-text_of}
use Rattle.mm_base.specs.declared.name.Name.TheInside.{Inside}
use Rattle.mm_base.proofs.NameLemmas.{padded_eq, same_bytes, bytes_same}

-- the number of the first k + 1 bytes
abbrev number : List ℕ → ℕ → ℕ
number bs k = sum_through (λ i. byte_worth i (get_or bs i 0)) k

power : (k b : ℕ) → b * 256 ^ suc k ≡ 256 * byte_worth k b
power zero b = omega arith
power (suc k) b = power_more b (256 ^ suc k) (256 ^ suc (suc k)) (omega arith)
  where
    power_more : (b m n : ℕ) → n ≡ 256 * m → b * n ≡ 256 * (b * m)
    power_more b m n e = ap (λ z. b * z) e ∙ grind arith

-- the number after its lowest byte
shifted : (b : ℕ) (bs : List ℕ) (k : ℕ) → number (b ∷ bs) (suc k) ≡ b + 256 * number bs k
shifted b bs zero = omega arith
shifted b bs (suc k) =
    let low = shifted b bs k in
    let high = power (suc k) (get_or bs (suc k) 0) in
    omega arith

lowest : (a b x y : ℕ) → a < 256 → b < 256 → a + 256 * x ≡ b + 256 * y → (a ≡ b) × (x ≡ y)
lowest a b x y p q e = (omega arith, omega arith)

pub same_from_number : (k : ℕ) (bs cs : List ℕ) → length bs ≡ suc k → length cs ≡ suc k → ((i : ℕ) → get_or bs i 0 < 256) → ((i : ℕ) → get_or cs i 0 < 256) →
    number bs k ≡ number cs k → bs ≡ cs
same_from_number k [] cs m n p q e = absurd (omega arith)
same_from_number k (b ∷ bs) [] m n p q e = absurd (omega arith)
same_from_number zero (b ∷ []) (c ∷ []) m n p q e = ap (λ x. x ∷ []) e
same_from_number zero (b ∷ x ∷ bs) (c ∷ cs) m n p q e = absurd (omega arith)
same_from_number zero (b ∷ []) (c ∷ x ∷ cs) m n p q e = absurd (omega arith)
same_from_number (suc k) (b ∷ bs) (c ∷ cs) m n p q e =
    let parts = lowest b c (number bs k) (number cs k) (p 0) (q 0) (sym (shifted b bs k) ∙ e ∙ shifted c cs k) in
    ap₂ (λ x xs. x ∷ xs) parts.0 (same_from_number k bs cs (omega arith) (omega arith) (λ i. p (suc i)) (λ i. q (suc i)) parts.1)

-- ---- the bytes of a name and the zeros after them

name_byte_small : (b : ℕ) → is_name_byte b ≡ true → b < 256
name_byte_small b h = grind (arith, nat_tests)

letter_small : (b : ℕ) → is_ascii_lowercase b ≡ true → b < 256
letter_small b h = grind (arith, nat_tests)

zeros_small : (k i : ℕ) → get_or (replicate k 0) i 0 < 256
zeros_small zero i = omega arith
zeros_small (suc k) zero = omega arith
zeros_small (suc k) (suc i) = zeros_small k i

rest_small : (bs : List ℕ) → list_all is_name_byte bs ≡ true → (k i : ℕ) → get_or (bs ++ replicate k 0) i 0 < 256
rest_small [] h k i = zeros_small k i
rest_small (b ∷ bs) h k zero = name_byte_small b (and_parts (is_name_byte b) (list_all is_name_byte bs) h).0
rest_small (b ∷ bs) h k (suc i) = rest_small bs (and_parts (is_name_byte b) (list_all is_name_byte bs) h).1 k i

name_small : (bs : List ℕ) → is_name bs ≡ true → (k i : ℕ) → get_or (bs ++ replicate k 0) i 0 < 256
name_small [] h k i = cc
name_small (b ∷ bs) h k zero =
    let front = (and_parts (is_ascii_lowercase b && nat_le (length bs) 15) (list_all is_name_byte bs) h).0 in
    letter_small b (and_parts (is_ascii_lowercase b) (nat_le (length bs) 15) front).0
name_small (b ∷ bs) h k (suc i) = rest_small bs (and_parts (is_ascii_lowercase b && nat_le (length bs) 15) (list_all is_name_byte bs) h).1 k i

bytes_small : (n : Inside) → IsPadded n → (i : ℕ) → get_or n.bytes i 0 < 256
bytes_small n h i =
    subst (λ (bs : List ℕ). get_or bs i 0 < 256) (ap (λ (m : Inside). m.bytes) (fields_of-text_of n h))
    (name_small (text_of n) h.form (16 - length (text_of n)) i)

-- sixteen bytes
number_eq : (bs cs : List ℕ) (x y : ℕ) → length bs ≡ 16 → length cs ≡ 16 → ((i : ℕ) → get_or bs i 0 < 256) → ((i : ℕ) → get_or cs i 0 < 256) →
    x ≡ from_le_bytes w128 bs → y ≡ from_le_bytes w128 cs → (x == y) ≡ bytes_eq bs cs
number_eq bs cs x y m n p q d e = go (x == y) refl (bytes_eq bs cs) refl
  where
    go : (s : Bool) → (x == y) ≡ s → (t : Bool) → bytes_eq bs cs ≡ t → (x == y) ≡ bytes_eq bs cs
    go true f true g = f ∙ sym g
    go false f false g = f ∙ sym g
    go true f false g =
        let same = same_from_number 15 bs cs m n p q (sym d ∙ eqb-true x y f ∙ e) in
        absurd (both_ways (bytes_eq bs cs) g (ap (bytes_eq bs) (sym same) ∙ bytes_same bs))
    go false f true g =
        absurd (both_ways (x == y) f (eq-eqb x y (d ∙ ap (from_le_bytes w128) (same_bytes bs cs g) ∙ sym e)))

-- the numbers of two names, and their lengths
pub names_eq : (a b : Inside) (x y : ℕ) → IsPadded a → IsPadded b → x ≡ from_le_bytes w128 a.bytes → y ≡ from_le_bytes w128 b.bytes → ((x == y) && (a.len == b.len)) ≡ bytes_eq (text_of a) (text_of b)
names_eq a b x y h i d e =
    ap (λ t. t && (a.len == b.len)) (number_eq a.bytes b.bytes x y h.size i.size (bytes_small a h) (bytes_small b i) d e)
    ∙ ap₂ (λ (m n : Inside). bytes_eq m.bytes n.bytes && (m.len == n.len)) (sym (fields_of-text_of a h)) (sym (fields_of-text_of b i))
    ∙ padded_eq (text_of a) (text_of b)

-- names of one number are equal exactly where their lengths are, and those of different numbers never
pub same_numbers : (a b : Inside) (x y : ℕ) → IsPadded a → IsPadded b → x ≡ from_le_bytes w128 a.bytes → y ≡ from_le_bytes w128 b.bytes → x ≡ y → (a.len == b.len) ≡ bytes_eq (text_of a) (text_of b)
same_numbers a b x y h i d e same =
    sym (ap (λ t. t && (a.len == b.len)) (eq-eqb x y same)) ∙ names_eq a b x y h i d e

pub other_numbers : (a b : Inside) (x y : ℕ) → IsPadded a → IsPadded b → x ≡ from_le_bytes w128 a.bytes → y ≡ from_le_bytes w128 b.bytes → (x ≡ y → ⊥) → (x == y) ≡ bytes_eq (text_of a) (text_of b)
other_numbers a b x y h i d e apart =
    ne_eqb x y apart ∙ sym (ap (λ t. t && (a.len == b.len)) (ne_eqb x y apart)) ∙ names_eq a b x y h i d e
