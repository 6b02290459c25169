-- What is read of a text of digits is what the text shows.
use Rattle.std.proofs.Common.{◌≡◌, ℕ, zero, suc, ◌+◌, ◌-◌, ◌<◌, ◌≤◌, Bool, true, false, nat_lt, nat_eq, List, [], ◌∷◌, ◌++◌, length, map, get_or, Option, Some, None, refl, sym, ap, ap₂, ◌∙◌, subst, arith}
use Rattle.std.specs.Prelude.{◌&&◌, nat_le, codes, IfSome, IfNone, if◌then◌else◌}
use Rattle.std.specs.List.{list_all, slice_split, join_with_byte}
use Rattle.std.specs.Str.{bytes_eq}
use Rattle.std.proofs.lemmas.Bool.{le-leb, leb-true, lt-ltb, ltb-true, eqb-true, and_from, and_parts}
use Rattle.std.proofs.lemmas.List.{length-map}
use Rattle.std.proofs.lemmas.List.Splits.{slice_split_none, slice_split_at, length-slice_split, join_with_byte-slice_split}
use Rattle.std.proofs.lemmas.Slice.Eq.{bytes_eq-Decides}
use Rattle.std.proofs.lemmas.Option.{none-some, same_Some}
use Rattle.mm_field.specs.declared.Field.{Field}
use Rattle.mm_field.specs.Digits.{order}
use Rattle.mm_field.specs.Vectors.{AreDigits}
use Rattle.mm_space.specs.VectorText.{vector_text, IsVectorText, joined_text, gen_text, IsGenText}
use Rattle.mm_space.specs.DigitTexts.{is_digit, digit_of, digits_of, vector_of, with_vector, each_vector, is_slash, vectors_of}

-- ---- digits

digit_is_not : (n d : ℕ) (c : Bool) → n < 48 → nat_eq (48 + d) n ≡ c → c ≡ false
digit_is_not n d true h e = absurd (omega (arith, h, eqb-true (48 + d) n e))
digit_is_not n d false h e = refl

shown_digit : (f : Field) (d : ℕ) → d < order f → is_digit f (48 + d) ≡ true
shown_digit f d h = and_from (nat_le 48 (48 + d)) (nat_lt (48 + d) (48 + order f)) (le-leb 48 (48 + d) (omega arith)) (lt-ltb (48 + d) (48 + order f) (omega (arith, h)))

shown_digits : (f : Field) (v : List ℕ) → AreDigits f v → list_all (is_digit f) (map (λ x. 48 + x) v) ≡ true
shown_digits f [] h = refl
shown_digits f (d ∷ v) h =
    and_from (is_digit f (48 + d)) (list_all (is_digit f) (map (λ x. 48 + x) v)) (shown_digit f d (h 0 0 (omega arith)))
    (shown_digits f v (λ k e l. h (suc k) e (omega (arith, l))))

digits_back : (v : List ℕ) → map digit_of (map (λ x. 48 + x) v) ≡ v
digits_back [] = refl
digits_back (d ∷ v) = ap₂ (λ (x : ℕ) (xs : List ℕ). x ∷ xs) {x = 48 + d - 48} {y = d} (omega arith) (digits_back v)

text_back : (f : Field) (t : List ℕ) → list_all (is_digit f) t ≡ true → map (λ x. 48 + x) (map digit_of t) ≡ t
text_back f [] h = refl
text_back f (b ∷ t) h =
    let here = (and_parts (is_digit f b) (list_all (is_digit f) t) h).0 in
    let least : 48 ≤ b = leb-true 48 b (and_parts (nat_le 48 b) (nat_lt b (48 + order f)) here).0 in
    ap₂ (λ (x : ℕ) (xs : List ℕ). x ∷ xs) {x = 48 + (b - 48)} {y = b} (omega (arith, least)) (text_back f t (and_parts (is_digit f b) (list_all (is_digit f) t) h).1)

pub digits_small : (f : Field) (t : List ℕ) → list_all (is_digit f) t ≡ true → (k e : ℕ) → k < length (map digit_of t) → get_or (map digit_of t) k e < order f
digits_small f [] h k e l = absurd (omega (arith, l))
digits_small f (b ∷ t) h zero e l =
    let here = (and_parts (is_digit f b) (list_all (is_digit f) t) h).0 in
    let least : 48 ≤ b = leb-true 48 b (and_parts (nat_le 48 b) (nat_lt b (48 + order f)) here).0 in
    let most : b < 48 + order f = ltb-true b (48 + order f) (and_parts (nat_le 48 b) (nat_lt b (48 + order f)) here).1 in
    omega (arith, least, most)
digits_small f (b ∷ t) h (suc k) e l = digits_small f t (and_parts (is_digit f b) (list_all (is_digit f) t) h).1 k e (omega (arith, l))

pub small_digits : (f : Field) (t ds : List ℕ) → list_all (is_digit f) t ≡ true → ds ≡ map digit_of t → AreDigits f ds
small_digits f t ds h e = subst (λ (l : List ℕ). AreDigits f l) (sym e) (digits_small f t h)

-- ---- one vector

digits_of_text : (f : Field) (v : List ℕ) → AreDigits f v → digits_of f (vector_text v) ≡ Some v
digits_of_text f [] h = refl
digits_of_text f (d ∷ v) h =
    let t = map (λ x. 48 + x) (d ∷ v) in
    let more = bytes_eq (map (λ x. 48 + x) v) [] in
    ap (λ (c : Bool). if c && more then Some [] else if nat_le 1 (length t) && list_all (is_digit f) t then Some (map digit_of t) else None) (digit_is_not 45 d (nat_eq (48 + d) 45) (omega arith) refl)
    ∙ ap (λ (c : Bool). if c then Some (map digit_of t) else None) (and_from (nat_le 1 (length t)) (list_all (is_digit f) t) (le-leb 1 (length t) (omega arith)) (shown_digits f (d ∷ v) h))
    ∙ ap Some (digits_back (d ∷ v))

text_short : (v : List ℕ) → length v ≤ 18 → length (vector_text v) ≤ 18
text_short [] h = omega arith
text_short (d ∷ v) h = omega (arith, h, length-map (d ∷ v) (λ x. 48 + x))

pub vector_of_text : (f : Field) (v t : List ℕ) → IsVectorText f v t → vector_of f t ≡ Some v
vector_of_text f v t h =
    ap (vector_of f) h.text
    ∙ ap (λ (c : Bool). if c then digits_of f (vector_text v) else None) (le-leb (length (vector_text v)) 18 (text_short v h.short))
    ∙ digits_of_text f v h.digits

dash : (t : List ℕ) → bytes_eq t (codes "-") ≡ true → t ≡ 45 ∷ []
dash t h = (bytes_eq-Decides t (codes "-")).0 h

digits_text : (f : Field) (t : List ℕ) → (nat_le 1 (length t) && list_all (is_digit f) t) ≡ true → t ≡ vector_text (map digit_of t)
digits_text f [] h = absurd (omega (arith, leb-true 1 0 h))
digits_text f (b ∷ t) h = sym (text_back f (b ∷ t) (and_parts (nat_le 1 (length (b ∷ t))) (list_all (is_digit f) (b ∷ t)) h).1)

vector_cases : (f : Field) (t v : List ℕ) (short no_digits digits : Bool) → nat_le (length t) 18 ≡ short → bytes_eq t (codes "-") ≡ no_digits
    → (nat_le 1 (length t) && list_all (is_digit f) t) ≡ digits
    → (if short then (if no_digits then Some [] else if digits then Some (map digit_of t) else None) else None) ≡ Some v → IsVectorText f v t
vector_cases f t v false no_digits digits s n d h = absurd (none-some v h)
vector_cases f t v true true digits s n d h =
    subst (λ (w : List ℕ). IsVectorText f w t) (same_Some [] v h)
    (record { digits = λ k e l. absurd (omega (arith, l)); short = omega arith; text = dash t n })
vector_cases f t v true false true s n d h =
    subst (λ (w : List ℕ). IsVectorText f w t) (same_Some (map digit_of t) v h)
    (record {
      digits = digits_small f t (and_parts (nat_le 1 (length t)) (list_all (is_digit f) t) d).1;
      short = omega (arith, leb-true (length t) 18 s, length-map t digit_of);
      text = digits_text f t d;
    })
vector_cases f t v true false false s n d h = absurd (none-some v h)

pub text_of_vector : (f : Field) (t v : List ℕ) → vector_of f t ≡ Some v → IsVectorText f v t
text_of_vector f t v h = vector_cases f t v (nat_le (length t) 18) (bytes_eq t (codes "-")) (nat_le 1 (length t) && list_all (is_digit f) t) refl refl refl h

none_read : {A : Type 0} (P : A → Type 0) (o : Option A) → ((x : A) → o ≡ Some x → P x) → ((x : A) → P x → ⊥) → None ≡ o
none_read P None h never = refl
none_read P (Some x) h never = absurd (never x (h x refl))

pub vector_read : (f : Field) (t : List ℕ) (o : Option (List ℕ)) → IfSome o (λ v. IsVectorText f v t) → IfNone o ((v : List ℕ) → IsVectorText f v t → ⊥) → o ≡ vector_of f t
vector_read f t (Some v) some none = sym (vector_of_text f v t some)
vector_read f t None some none = none_read (λ v. IsVectorText f v t) (vector_of f t) (text_of_vector f t) none

-- where no vector is read, the text is of none
pub no_vector : (f : Field) (v t : List ℕ) → None ≡ vector_of f t → IsVectorText f v t → ⊥
no_vector f v t e h = none-some v (e ∙ vector_of_text f v t h)

-- ---- vectors

no_slash_digits : (v : List ℕ) (k e : ℕ) → k < length (map (λ x. 48 + x) v) → is_slash (get_or (map (λ x. 48 + x) v) k e) ≡ false
no_slash_digits [] k e l = absurd (omega (arith, l))
no_slash_digits (d ∷ v) zero e l = digit_is_not 47 d (nat_eq (48 + d) 47) (omega arith) refl
no_slash_digits (d ∷ v) (suc k) e l = no_slash_digits v k e (omega (arith, l))

no_slash : (v : List ℕ) (k e : ℕ) → k < length (vector_text v) → is_slash (get_or (vector_text v) k e) ≡ false
no_slash [] zero e l = refl
no_slash [] (suc k) e l = absurd (omega (arith, l))
no_slash (d ∷ v) k e l = no_slash_digits (d ∷ v) k e l

split_joined : (v : List ℕ) (vs : List (List ℕ)) → slice_split is_slash (joined_text v vs) ≡ map vector_text (v ∷ vs)
split_joined v [] = slice_split_none is_slash (vector_text v) (no_slash v)
split_joined v (w ∷ ws) = slice_split_at is_slash (vector_text v) 47 (joined_text w ws) (no_slash v) refl ∙ ap (λ (l : List (List ℕ)). vector_text v ∷ l) (split_joined w ws)

each_of_texts : (f : Field) (rows : List (List ℕ)) → ((k : ℕ) (e : List ℕ) → k < length rows → AreDigits f (get_or rows k e))
    → ((k : ℕ) (e : List ℕ) → k < length rows → length (get_or rows k e) ≤ 18) → each_vector f (map vector_text rows) ≡ Some rows
each_of_texts f [] h s = refl
each_of_texts f (v ∷ rows) h s =
    ap (λ o. with_vector o (each_vector f (map vector_text rows))) (vector_of_text f v (vector_text v) (record { digits = h 0 [] (omega arith); short = s 0 [] (omega arith); text = refl }))
    ∙ ap (with_vector (Some v)) (each_of_texts f rows (λ k e l. h (suc k) e (omega (arith, l))) (λ k e l. s (suc k) e (omega (arith, l))))

not_dot : (v : List ℕ) (vs : List (List ℕ)) → bytes_eq (joined_text v vs) (codes ".") ≡ false
not_dot [] [] = refl
not_dot [] (w ∷ ws) = refl
not_dot (d ∷ v) [] = ap (λ (c : Bool). c && bytes_eq (map (λ x. 48 + x) v) []) (digit_is_not 46 d (nat_eq (48 + d) 46) (omega arith) refl)
not_dot (d ∷ v) (w ∷ ws) = ap (λ (c : Bool). c && bytes_eq (map (λ x. 48 + x) v ++ 47 ∷ joined_text w ws) []) (digit_is_not 46 d (nat_eq (48 + d) 46) (omega arith) refl)

vectors_of_joined : (f : Field) (v : List ℕ) (vs : List (List ℕ)) → IsGenText f (v ∷ vs) (joined_text v vs) → vectors_of f (joined_text v vs) ≡ Some (v ∷ vs)
vectors_of_joined f v vs h =
    let t = joined_text v vs in
    let parts = slice_split is_slash t in
    let few : length parts ≤ 6 = omega (arith, h.few, ap length (split_joined v vs), length-map (v ∷ vs) vector_text) in
    ap (λ (c : Bool). if c then Some [] else if nat_le (length parts) 6 then each_vector f parts else None) (not_dot v vs)
    ∙ ap (λ (c : Bool). if c then each_vector f parts else None) (le-leb (length parts) 6 few)
    ∙ ap (each_vector f) (split_joined v vs)
    ∙ each_of_texts f (v ∷ vs) h.digits h.short

pub vectors_of_text : (f : Field) (rows : List (List ℕ)) (t : List ℕ) → IsGenText f rows t → vectors_of f t ≡ Some rows
vectors_of_text f [] t h = ap (vectors_of f) h.text
vectors_of_text f (v ∷ vs) t h = ap (vectors_of f) h.text ∙ vectors_of_joined f v vs (record { digits = h.digits; short = h.short; few = h.few; text = refl })

-- each text of a list shows the vector at its place
pub record ShowEach (f : Field) (ts rows : List (List ℕ)) : Type 0 where
  pub digits : (k : ℕ) (e : List ℕ) → k < length rows → AreDigits f (get_or rows k e)
  pub short : (k : ℕ) (e : List ℕ) → k < length rows → length (get_or rows k e) ≤ 18
  pub texts : ts ≡ map vector_text rows

at_each : {A : Type 0} (P : A → Type 0) (x : A) (xs : List A) → P x → ((k : ℕ) (e : A) → k < length xs → P (get_or xs k e)) → (k : ℕ) (e : A) → k < length (x ∷ xs) → P (get_or (x ∷ xs) k e)
at_each P x xs p ps zero e l = p
at_each P x xs p ps (suc k) e l = ps k e (omega (arith, l))

show_first : (f : Field) (t : List ℕ) (ts : List (List ℕ)) (o : Option (List ℕ)) (os : Option (List (List ℕ))) (rows : List (List ℕ))
    → ((v : List ℕ) → o ≡ Some v → IsVectorText f v t) → ((vs : List (List ℕ)) → os ≡ Some vs → ShowEach f ts vs) → with_vector o os ≡ Some rows → ShowEach f (t ∷ ts) rows
show_first f t ts None os rows h hs e = absurd (none-some rows e)
show_first f t ts (Some v) None rows h hs e = absurd (none-some rows e)
show_first f t ts (Some v) (Some vs) rows h hs e =
    let here = h v refl in
    let after = hs vs refl in
    subst (λ (l : List (List ℕ)). ShowEach f (t ∷ ts) l) (same_Some (v ∷ vs) rows e)
    (record {
      digits = at_each (λ w. AreDigits f w) v vs here.digits after.digits;
      short = at_each (λ w. length w ≤ 18) v vs here.short after.short;
      texts = ap₂ (λ (x : List ℕ) (xs : List (List ℕ)). x ∷ xs) here.text after.texts;
    })

show_each : (f : Field) (ts rows : List (List ℕ)) → each_vector f ts ≡ Some rows → ShowEach f ts rows
show_each f [] rows h =
    subst (λ (l : List (List ℕ)). ShowEach f [] l) (same_Some [] rows h)
    (record { digits = λ k e l. absurd (omega (arith, l)); short = λ k e l. absurd (omega (arith, l)); texts = refl })
show_each f (t ∷ ts) rows h = show_first f t ts (vector_of f t) (each_vector f ts) rows (text_of_vector f t) (show_each f ts) h

joined_again : (v : List ℕ) (vs : List (List ℕ)) → join_with_byte 47 (map vector_text (v ∷ vs)) ≡ joined_text v vs
joined_again v [] = refl
joined_again v (w ∷ ws) = ap (λ (l : List ℕ). vector_text v ++ 47 ∷ l) (joined_again w ws)

some_rows : (rows : List (List ℕ)) → 0 < length rows → join_with_byte 47 (map vector_text rows) ≡ gen_text rows
some_rows [] h = absurd (omega (arith, h))
some_rows (v ∷ vs) h = joined_again v vs

dot : (t : List ℕ) → bytes_eq t (codes ".") ≡ true → t ≡ 46 ∷ []
dot t h = (bytes_eq-Decides t (codes ".")).0 h

vectors_cases : (f : Field) (t : List ℕ) (rows : List (List ℕ)) (none few : Bool) → bytes_eq t (codes ".") ≡ none → nat_le (length (slice_split is_slash t)) 6 ≡ few
    → (if none then Some [] else if few then each_vector f (slice_split is_slash t) else None) ≡ Some rows → IsGenText f rows t
vectors_cases f t rows true few n w h =
    subst (λ (l : List (List ℕ)). IsGenText f l t) (same_Some [] rows h)
    (record { digits = λ k e l. absurd (omega (arith, l)); short = λ k e l. absurd (omega (arith, l)); few = omega arith; text = dot t n })
vectors_cases f t rows false false n w h = absurd (none-some rows h)
vectors_cases f t rows false true n w h =
    let shown = show_each f (slice_split is_slash t) rows h in
    let count : length (slice_split is_slash t) ≡ length rows = ap length shown.texts ∙ length-map rows vector_text in
    record {
      digits = shown.digits;
      short = shown.short;
      few = omega (arith, leb-true (length (slice_split is_slash t)) 6 w, count);
      text = sym (join_with_byte-slice_split 47 t) ∙ ap (join_with_byte 47) shown.texts ∙ some_rows rows (omega (arith, count, length-slice_split is_slash t));
    }

pub text_of_vectors : (f : Field) (t : List ℕ) (rows : List (List ℕ)) → vectors_of f t ≡ Some rows → IsGenText f rows t
text_of_vectors f t rows h = vectors_cases f t rows (bytes_eq t (codes ".")) (nat_le (length (slice_split is_slash t)) 6) refl refl h

pub vectors_read : (f : Field) (t : List ℕ) (o : Option (List (List ℕ))) → IfSome o (λ rows. IsGenText f rows t) → IfNone o ((rows : List (List ℕ)) → IsGenText f rows t → ⊥) → o ≡ vectors_of f t
vectors_read f t (Some rows) some none = sym (vectors_of_text f rows t some)
vectors_read f t None some none = none_read (λ rows. IsGenText f rows t) (vectors_of f t) (text_of_vectors f t) none
