-- Rows in echelon form whose first digits are zero, without these digits.
use Rattle.std.proofs.Common.{ℕ, suc, ◌+◌, ◌<◌, ◌≤◌, ◌≡◌, inl, inr, Bool, true, false, not, cond, Option, List, [], ◌∷◌, ◌++◌, length, map, filter, take, drop, get_or, refl, sym, ap, subst, ◌∙◌, arith, take-append-drop}
use Rattle.std.specs.Prelude.{◌==◌}
use Rattle.std.specs.List.{All, list_all}
use Rattle.std.proofs.lemmas.Bool.{cases_lt, false_from_ne_true}
use Rattle.std.proofs.lemmas.List.{length-map, length-replicate, get_or-replicate, get_or-take, length-take-le, drop_at, map-append, take_more}
use Rattle.std.proofs.lemmas.List.Elements.{All-nil, All-cons, All-weaker, All-filter}
use Rattle.mm_field.specs.declared.Field.{Field}
use Rattle.mm_field.specs.Vectors.{zeros, IsVector, AreVectors, InSpan}
use Rattle.mm_field.proofs.CombinationLemmas.{first_row, other_rows, InSpan-first, InSpan-one_more, drop-vector_sum, drop-multiple}
use Rattle.mm_field.proofs.PartLemmas.{combination-map, AreVectors-map, IsVector-drop, zeros-append}
use Rattle.mm_linear.specs.ReducedEchelon.{Leads}
use Rattle.mm_linear.proofs.BasisLemmas.{ended}
use Rattle.mm_linear.proofs.PivotLemmas.{tail_when_zero, entry_of_cut, take-shorter, cut-ended, last-ended}
use Rattle.mm_logic_laws.proofs.MatrixLemmas.{all_zero, zeros_all}
use Rattle.mm_present.specs.Dependencies.{is_zero_before, tails, with_boundary, least_place}
use Rattle.mm_present.proofs.LeastLemmas.{least_place-append}

pub zero_before : (f : Field) (c m : ℕ) (v : List ℕ) → IsVector f (c + m) v → is_zero_before c v ≡ true → take c v ≡ zeros c
zero_before f c m v h e = all_zero (take c v) e ∙ ap zeros (length-take-le c v (let l = h.len in omega arith))

pub is_zero : (c : ℕ) (v : List ℕ) → take c v ≡ zeros c → is_zero_before c v ≡ true
is_zero c v e = ap (list_all (λ d. d == 0)) e ∙ zeros_all c

-- a row by its tail
pub row_of_tail : (f : Field) (c m : ℕ) (v : List ℕ) → IsVector f (c + m) v → is_zero_before c v ≡ true → v ≡ zeros c ++ drop c v
row_of_tail f c m v h e = sym (take-append-drop c v) ∙ ap (λ u. u ++ drop c v) (zero_before f c m v h e)

-- the tails, with zeros before them, are in the span
pub tails_within : (f : Field) (c m : ℕ) (rows : List (List ℕ)) → AreVectors f (c + m) rows →
    All (λ row. InSpan f (c + m) rows (zeros c ++ row)) (tails c rows)
tails_within f c m [] h = All-nil (λ row. InSpan f (c + m) [] (zeros c ++ row))
tails_within f c m (v ∷ vs) h = go (is_zero_before c v) refl (tails_within f c m vs (other_rows f (c + m) v vs h))
  where
    more : All (λ row. InSpan f (c + m) vs (zeros c ++ row)) (tails c vs) → All (λ row. InSpan f (c + m) (v ∷ vs) (zeros c ++ row)) (tails c vs)
    more = All-weaker (λ row. InSpan f (c + m) vs (zeros c ++ row)) (λ row. InSpan f (c + m) (v ∷ vs) (zeros c ++ row))
        (λ row p. InSpan-one_more f (c + m) v vs (zeros c ++ row) (first_row f (c + m) v vs h) (other_rows f (c + m) v vs h) p) (tails c vs)

    go : (b : Bool) → is_zero_before c v ≡ b → All (λ row. InSpan f (c + m) vs (zeros c ++ row)) (tails c vs) →
        All (λ row. InSpan f (c + m) (v ∷ vs) (zeros c ++ row)) (map (drop c) (cond b (v ∷ filter (is_zero_before c) vs) (filter (is_zero_before c) vs)))
    go false e p = more p
    go true e p =
        All-cons (λ row. InSpan f (c + m) (v ∷ vs) (zeros c ++ row)) _ _
        (subst (λ u. InSpan f (c + m) (v ∷ vs) u) (row_of_tail f c m v (first_row f (c + m) v vs h) e)
        (InSpan-first f (c + m) v vs (first_row f (c + m) v vs h) (other_rows f (c + m) v vs h)))
        (more p)

pub AreVectors-tails : (f : Field) (c m : ℕ) (rows : List (List ℕ)) → AreVectors f (c + m) rows → AreVectors f m (tails c rows)
AreVectors-tails f c m rows h =
    AreVectors-map f (c + m) m (drop c) (λ u hu. IsVector-drop f c m u hu) (filter (is_zero_before c) rows)
    (All-filter (is_zero_before c) (λ v. IsVector f (c + m) v) rows h)

all_pass : (n from c : ℕ) (rows : List (List ℕ)) (ks : List ℕ) → c ≤ from → Leads n from rows ks → filter (is_zero_before c) rows ≡ rows
all_pass n from c [] ks l h = refl
all_pass n from c (v ∷ vs) [] l h = absurd h
all_pass n from c (v ∷ vs) (x ∷ ks) l h =
    let a : from ≤ x = h.0 in
    let cut : take c v ≡ zeros c =
    sym (take-shorter c (suc x) v (omega arith)) ∙ ap (take c) h.2 ∙ cut-ended x c (omega arith) in
    ap (λ b. cond b (v ∷ filter (is_zero_before c) vs) (filter (is_zero_before c) vs)) (is_zero c v cut)
    ∙ ap (λ us. v ∷ us) (all_pass n (suc x) c vs ks (omega arith) h.3)

drop_span : (f : Field) (c m : ℕ) (rows : List (List ℕ)) (w : List ℕ) → AreVectors f (c + m) rows → InSpan f (c + m) rows w →
    InSpan f m (map (drop c) rows) (drop c w)
drop_span f c m rows w h p = record {
  coefficients = p.coefficients;
  each = record { len = p.each.len ∙ sym (length-map rows (drop c)); digits = p.each.digits };
  sum =
      combination-map f (c + m) m (drop c) (λ u v hu hv. drop-vector_sum f c u v (hu.len ∙ sym hv.len)) (λ a u hu. drop-multiple f a c u)
      (sym (ap (drop c) (zeros-append c m)) ∙ drop_at (zeros c) (zeros m) c (length-replicate c 0)) p.coefficients rows h
      ∙ ap (drop c) p.sum;
}

-- a vector of the span with zeros as first digits is, without them, in the span of the tails
pub tails_span : (f : Field) (c m from : ℕ) (rows : List (List ℕ)) (ks w : List ℕ) → Leads (c + m) from rows ks → AreVectors f (c + m) rows →
    InSpan f (c + m) rows w → take c w ≡ zeros c → InSpan f m (tails c rows) (drop c w)
tails_span f c m from [] [] w h hr p z = drop_span f c m [] w hr p
tails_span f c m from [] (x ∷ ks) w h hr p z = absurd h
tails_span f c m from (v ∷ vs) [] w h hr p z = absurd h
tails_span f c m from (v ∷ vs) (x ∷ ks) w h hr p z = elim (cases_lt x c) [
  | inl l ↦
      let zero_here : get_or w x 0 ≡ 0 = sym (get_or-take c w x 0 l) ∙ ap (λ u. get_or u x 0) z ∙ get_or-replicate c x 0 0 l in
      let rest = tails_span f c m (suc x) vs ks w h.3 (other_rows f (c + m) v vs hr) (tail_when_zero f (c + m) from x v vs ks h hr w p zero_here) z in
      subst (λ us. InSpan f m (map (drop c) us) (drop c w)) (sym (ap (λ b. cond b (v ∷ filter (is_zero_before c) vs) (filter (is_zero_before c) vs)) (off l))) rest
  | inr l ↦
      subst (λ us. InSpan f m (map (drop c) us) (drop c w)) (sym (all_pass (c + m) x c (v ∷ vs) (x ∷ ks) l (omega arith, h.1, h.2, h.3)))
      (drop_span f c m (v ∷ vs) w hr p)
]
  where
    off : x < c → is_zero_before c v ≡ false
    off l = false_from_ne_true (is_zero_before c v) (λ t.
        let cut = zero_before f c m v (first_row f (c + m) v vs hr) t in
        let at : get_or v x 0 ≡ 0 = sym (get_or-take c v x 0 l) ∙ ap (λ u. get_or u x 0) cut ∙ get_or-replicate c x 0 0 l in
        let one : get_or v x 0 ≡ 1 = entry_of_cut x v (ended x 1) h.2 ∙ last-ended x 1 in
        let bad : 0 ≡ 1 = sym at ∙ one in absurd (omega (arith, bad)))

-- ---- more rows

filter-append : (p : List ℕ → Bool) (xs ys : List (List ℕ)) → filter p (xs ++ ys) ≡ filter p xs ++ filter p ys
filter-append p [] ys = refl
filter-append p (x ∷ xs) ys = go (p x) (filter-append p xs ys)
  where
    go : (b : Bool) → filter p (xs ++ ys) ≡ filter p xs ++ filter p ys →
        cond b (x ∷ filter p (xs ++ ys)) (filter p (xs ++ ys)) ≡ cond b (x ∷ filter p xs) (filter p xs) ++ filter p ys
    go true e = ap (λ vs. x ∷ vs) e
    go false e = e

pub tails-append : (c : ℕ) (rows sows : List (List ℕ)) → tails c (rows ++ sows) ≡ tails c rows ++ tails c sows
tails-append c rows sows =
    ap (map (drop c)) (filter-append (is_zero_before c) rows sows)
    ∙ map-append (drop c) (filter (is_zero_before c) rows) (filter (is_zero_before c) sows)

pub with_boundary-append : (t : ℕ) (rows sows : List (List ℕ)) → with_boundary t (rows ++ sows) ≡ with_boundary t rows ++ with_boundary t sows
with_boundary-append t rows sows = filter-append (λ row. not (is_zero_before t row)) rows sows

-- one more of the rows of a list
pub next_pairs : (c t i : ℕ) (rows : List (List ℕ)) (row : List ℕ) → i < length rows → row ≡ get_or rows i [] →
    with_boundary t (tails c (take i rows)) ++ with_boundary t (tails c (row ∷ [])) ≡ with_boundary t (tails c (take (i + 1) rows))
next_pairs c t i rows row l e =
    sym (with_boundary-append t (tails c (take i rows)) (tails c (row ∷ [])))
    ∙ ap (with_boundary t) (sym (tails-append c (take i rows) (row ∷ [])))
    ∙ ap (λ vs. with_boundary t (tails c vs)) (ap (λ v. take i rows ++ v ∷ []) e ∙ sym (take_more rows i [] l))

pub next_least : (c t i : ℕ) (rows : List (List ℕ)) (row : List ℕ) (least : Option ℕ) → i < length rows → row ≡ get_or rows i [] →
    least_place (least_place least (tails t (tails c (take i rows)))) (tails t (tails c (row ∷ []))) ≡ least_place least (tails t (tails c (take (i + 1) rows)))
next_least c t i rows row least l e =
    sym (least_place-append least (tails t (tails c (take i rows))) (tails t (tails c (row ∷ []))))
    ∙ ap (least_place least)
    (sym (tails-append t (tails c (take i rows)) (tails c (row ∷ []))) ∙ ap (tails t) (sym (tails-append c (take i rows) (row ∷ [])))
    ∙ ap (λ vs. tails t (tails c vs)) (ap (λ v. take i rows ++ v ∷ []) e ∙ sym (take_more rows i [] l)))
