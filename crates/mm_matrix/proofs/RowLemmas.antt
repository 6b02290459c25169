-- Rows that are kept as vectors of the heap, seen as lists.
use Rattle.std.proofs.Common.{ℕ, zero, suc, refl, ◌∷◌, ◌++◌, ◌+◌, ◌-◌, ◌≤◌, take, drop, ap₂, ◌<◌, ◌≡◌, List, [], Vec, Global, length, map, get_or, sym, ap, ◌∙◌, subst, arith}
use Rattle.std.proofs.Math.ListN.{set, length-set}
use Rattle.std.specs.Vec.{with_items}
use Rattle.std.proofs.lemmas.List.{map-set, length-map, get_or-map, length-take-le, get_or-append_right, get_or-drop, with_items_is, map-append, take-map, drop-map, take_at, drop_at}
use Rattle.std.proofs.Common.{length-append, length-drop}
use Rattle.std.specs.List.{insert}
use Rattle.std.proofs.lemmas.List.Edits.{map_over_more}
use Rattle.std.proofs.lemmas.List.Elements.{All-set}
use Rattle.mm_field.specs.declared.Field.{Field}
use Rattle.mm_field.specs.Digits.{order}
use Rattle.mm_field.specs.Vectors.{IsVector, AreVectors}

-- the digits of a row
abbrev pub digits_of : Vec ℕ Global → List ℕ
digits_of r = r.items

pub item_is : (rows : List (Vec ℕ Global)) (i : ℕ) (v : Vec ℕ Global) → i < length rows → v ≡ get_or rows i v →
    get_or (map digits_of rows) i [] ≡ v.items
item_is rows i v l e = get_or-map digits_of rows i v [] l ∙ ap digits_of (sym e)

pub item_vector : (f : Field) (n : ℕ) (rows : List (Vec ℕ Global)) → AreVectors f n (map digits_of rows) →
    (i : ℕ) (v : Vec ℕ Global) → i < length rows → v ≡ get_or rows i v → IsVector f n v.items
item_vector f n rows h i v l e =
    subst (λ u. IsVector f n u) (item_is rows i v l e)
    (h i [] (let m : length (map digits_of rows) ≡ length rows = length-map rows digits_of in omega arith))

pub IsVector-set : (f : Field) (n i d : ℕ) (v : List ℕ) → d < order f → IsVector f n v → IsVector f n (set v i d)
IsVector-set f n i d v l h = record { len = length-set v i d ∙ h.len; digits = All-set (λ x. x < order f) v i d l h.digits }

pub AreVectors-set : (f : Field) (n : ℕ) (rows : List (Vec ℕ Global)) (i : ℕ) (w : Vec ℕ Global) → AreVectors f n (map digits_of rows) →
    IsVector f n w.items → AreVectors f n (map digits_of (set rows i w))
AreVectors-set f n rows i w h hw =
    subst (λ xs. AreVectors f n xs) (sym (map-set digits_of rows i w)) (All-set (λ v. IsVector f n v) (map digits_of rows) i w.items hw h)

-- ---- a loop that writes h of each row over it

-- how far such a loop has come
abbrev pub written_to : (List ℕ → List ℕ) → List (List ℕ) → ℕ → List (List ℕ)
written_to h rows i = map h (take i rows) ++ drop i rows

pub length-written : (h : List ℕ → List ℕ) (rows : List (List ℕ)) (i : ℕ) → i ≤ length rows → length (written_to h rows i) ≡ length rows
length-written h rows i l =
    length-append (map h (take i rows)) (drop i rows)
    ∙ ap₂ (λ (a b : ℕ). a + b) (length-map (take i rows) h ∙ length-take-le i rows l) (length-drop i rows) ∙ omega arith

-- a row that it has not come to
pub row_ahead : (h : List ℕ → List ℕ) (rows : List (List ℕ)) (i : ℕ) (d : List ℕ) → i < length rows →
    get_or (written_to h rows i) i d ≡ get_or rows i d
row_ahead h rows i d l =
    let m : length (map h (take i rows)) ≡ i = length-map (take i rows) h ∙ length-take-le i rows (omega arith) in
    get_or-append_right (map h (take i rows)) (drop i rows) i i d m (omega arith)
    ∙ get_or-drop i rows (i - i) d ∙ ap (λ (k : ℕ). get_or rows k d) (let e : i + (i - i) ≡ i = omega arith in e)

pub write_step : (h : List ℕ → List ℕ) (old : List (List ℕ)) (now : List (Vec ℕ Global)) (i : ℕ) (r : Vec ℕ Global) (y : List ℕ) →
    i < length old → length now ≡ length old → map digits_of now ≡ written_to h old i → r ≡ get_or now i r → y ≡ h r.items →
    length y ≡ length r.items → map digits_of (set now i (with_items r y)) ≡ written_to h old (i + 1)
write_step h old now i r y l e is at hy ly =
    let x = get_or old i [] in
    let row : r.items ≡ x =
    sym (item_is now i r (omega arith) at) ∙ ap (λ (ys : List (List ℕ)). get_or ys i []) is ∙ row_ahead h old i [] l in
    let new : (with_items r y).items ≡ h x = with_items_is r y (ly ∙ sym r.ok.0) ∙ hy ∙ ap h row in
    map-set digits_of now i (with_items r y)
    ∙ ap₂ (λ (ys : List (List ℕ)) (z : List ℕ). set ys i z) is new
    ∙ map_over_more h old (written_to h old i) i x l refl
    (get_or_rows old i x [] l ∙ sym (row_ahead h old i x l))
  where
    get_or_rows : (xs : List (List ℕ)) (i : ℕ) (d e : List ℕ) → i < length xs → get_or xs i e ≡ get_or xs i d
    get_or_rows [] i d e l = absurd (omega arith)
    get_or_rows (v ∷ xs) zero d e l = refl
    get_or_rows (v ∷ xs) (suc i) d e l = get_or_rows xs i d e (omega arith)

-- ---- a row that is put in

pub rows-insert : (h : List ℕ → List ℕ) (old : List (List ℕ)) (now : List (Vec ℕ Global)) (i : ℕ) (w : Vec ℕ Global) → i ≤ length old →
    map digits_of now ≡ written_to h old i → map digits_of (insert now i w) ≡ map h (take i old) ++ w.items ∷ drop i old
rows-insert h old now i w l is =
    let m : length (map h (take i old)) ≡ i = length-map (take i old) h ∙ length-take-le i old l in
    map-append digits_of (take i now) (w ∷ drop i now)
    ∙ ap₂ (λ (a b : List (List ℕ)). a ++ w.items ∷ b)
    (sym (take-map digits_of i now) ∙ ap (take i) is ∙ take_at (map h (take i old)) (drop i old) i m)
    (sym (drop-map digits_of i now) ∙ ap (drop i) is ∙ drop_at (map h (take i old)) (drop i old) i m)
