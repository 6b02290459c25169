-- Keys of one field that are packed alike are one.
use Rattle.std.proofs.Common.{◌≡◌, ◌<◌, ◌+◌, ◌*◌, ℕ, List, [], ◌∷◌, length, take, drop, All, refl, sym, ap, ◌∙◌, subst, arith}
use Rattle.std.proofs.lemmas.List.{take_at, drop_at, length-append}
use Rattle.std.proofs.lemmas.List.Elements.{All-head, All-tail, All-append, All-nil}
use Rattle.mm_field.specs.declared.Field.{Field}
use Rattle.mm_field.specs.declared.Field.TheVariants.{Two, Three, Four, Five}
use Rattle.mm_field.specs.Digits.{order}
use Rattle.mm_field.specs.Vectors.{IsVector, AreVectors}
use Rattle.mm_space.specs.KeyValue.{KeyValue, number_onto, code_of, joined_rows, packed}
use Rattle.mm_space.specs.KeyView.{IsReduced}

order-small : (f : Field) → order f < 8
order-small Two = omega arith
order-small Three = omega arith
order-small Four = omega arith
order-small Five = omega arith

code-small : (f : Field) → code_of f < 8
code-small Two = omega arith
code-small Three = omega arith
code-small Four = omega arith
code-small Five = omega arith

-- numbers below eight in one number
first_same : (d e m n : ℕ) → d < 8 → e < 8 → d + 8 * m ≡ e + 8 * n → (d ≡ e) × (m ≡ n)
first_same d e m n l k h = (omega arith, omega arith)

digits_same : (xs ys : List ℕ) → length xs ≡ length ys → All (λ d. d < 8) xs → All (λ d. d < 8) ys → number_onto 0 xs ≡ number_onto 0 ys → xs ≡ ys
digits_same [] [] l h k e = refl
digits_same [] (y ∷ ys) l h k e = absurd (omega arith)
digits_same (x ∷ xs) [] l h k e = absurd (omega arith)
digits_same (x ∷ xs) (y ∷ ys) l h k e =
    let s = first_same x y (number_onto 0 xs) (number_onto 0 ys) (All-head (λ d. d < 8) x xs h) (All-head (λ d. d < 8) y ys k) e in
    let rest = digits_same xs ys (omega arith) (All-tail (λ d. d < 8) x xs h) (All-tail (λ d. d < 8) y ys k) s.1 in
    λ i. s.0 i ∷ rest i

-- rows of one length, one after another
rows_long : (t : ℕ) (rows : List (List ℕ)) → All (λ v. length v ≡ t) rows → length (joined_rows rows) ≡ length rows * t
rows_long t [] h = omega arith
rows_long t (v ∷ rows) h =
    length-append v (joined_rows rows) ∙ omega (arith, All-head (λ v. length v ≡ t) v rows h, rows_long t rows (All-tail (λ v. length v ≡ t) v rows h))

rows_same : (t : ℕ) (rows sows : List (List ℕ)) → All (λ v. length v ≡ t) rows → All (λ v. length v ≡ t) sows → length rows ≡ length sows
    → joined_rows rows ≡ joined_rows sows → rows ≡ sows
rows_same t [] [] h k l e = refl
rows_same t [] (w ∷ sows) h k l e = absurd (omega arith)
rows_same t (v ∷ rows) [] h k l e = absurd (omega arith)
rows_same t (v ∷ rows) (w ∷ sows) h k l e =
    let lv : length v ≡ t = All-head (λ v. length v ≡ t) v rows h in
    let lw : length w ≡ t = All-head (λ v. length v ≡ t) w sows k in
    let front : v ≡ w = sym (take_at v (joined_rows rows) t lv) ∙ ap (take t) e ∙ take_at w (joined_rows sows) t lw in
    let after : joined_rows rows ≡ joined_rows sows = sym (drop_at v (joined_rows rows) t lv) ∙ ap (drop t) e ∙ drop_at w (joined_rows sows) t lw in
    let rest = rows_same t rows sows (All-tail (λ v. length v ≡ t) v rows h) (All-tail (λ v. length v ≡ t) w sows k) (omega arith) after in
    λ i. front i ∷ rest i

rows_small : (f : Field) (t : ℕ) (rows : List (List ℕ)) → AreVectors f t rows → All (λ d. d < 8) (joined_rows rows)
rows_small f t [] h = All-nil (λ d. d < 8)
rows_small f t (v ∷ rows) h =
    All-append (λ d. d < 8) v (joined_rows rows)
    (λ k d l. omega (arith, order-small f, (All-head (λ v. IsVector f t v) v rows h).digits k d l))
    (rows_small f t rows (All-tail (λ v. IsVector f t v) v rows h))

rows_even : (f : Field) (t : ℕ) (rows : List (List ℕ)) → AreVectors f t rows → All (λ v. length v ≡ t) rows
rows_even f t rows h k d l = (h k d l).len

pub packed_same : (f : Field) (a b : KeyValue) → (a.f ≡ f) × IsReduced a → (b.f ≡ f) × IsReduced b → packed a ≡ packed b → a ≡ b
packed_same f a b h k e =
    let la = h.1.few in
    let lb = k.1.few in
    let at_t = first_same a.t b.t _ _ (omega (arith, h.1.narrow)) (omega (arith, k.1.narrow)) e in
    let at_f = first_same (code_of a.f) (code_of b.f) _ _ (code-small a.f) (code-small b.f) at_t.1 in
    let at_n = first_same (length a.rows) (length b.rows) _ _ (omega (arith, h.1.narrow, la)) (omega (arith, k.1.narrow, lb)) at_f.1 in
    let ea = rows_even a.f a.t a.rows h.1.each in
    let eb : All (λ v. length v ≡ a.t) b.rows = subst (λ t. All (λ v. length v ≡ t) b.rows) (sym at_t.0) (rows_even b.f b.t b.rows k.1.each) in
    let long : length (joined_rows a.rows) ≡ length (joined_rows b.rows) = rows_long a.t a.rows ea ∙ ap (λ n. n * a.t) at_n.0 ∙ sym (rows_long a.t b.rows eb) in
    let joined = digits_same (joined_rows a.rows) (joined_rows b.rows) long (rows_small a.f a.t a.rows h.1.each) (rows_small b.f b.t b.rows k.1.each) at_n.1 in
    let rows = rows_same a.t a.rows b.rows ea eb at_n.0 joined in
    (λ i. record { f = (h.0 ∙ sym k.0) i; t = at_t.0 i; rows = rows i })
