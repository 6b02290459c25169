-- What a reader of rows owes, over plain lists: it goes from `/` to `/`.
use Rattle.std.proofs.Common.{ℕ, zero, suc, ◌+◌, ◌-◌, ◌<◌, ◌≤◌, ◌≡◌, ◌≢◌, inl, inr, List, [], ◌∷◌, ◌++◌, length, get_or, take, drop, refl, sym, ap, ap₂, ◌∙◌, subst, arith, append_assoc, length-append}
use Rattle.std.specs.Prelude.{All}
use Rattle.std.proofs.lemmas.Bool.{cases_order}
use Rattle.std.proofs.lemmas.List.{length-map, get_or-map, get_or-append_right, get_or_append_left, take_at, drop_at, drop-drop, drop_more, take-append-drop}
use Rattle.std.proofs.lemmas.List.Elements.{All-head, All-drop}
use Rattle.mm_field.specs.declared.Field.{Field}
use Rattle.mm_field.specs.Vectors.{AreDigits}
use Rattle.mm_space.specs.VectorText.{vector_text, joined_text, gen_text, IsVectorText, IsGenText}

-- the texts of rows, a `/` after each, and then the rest
abbrev pub front_text : List (List ℕ) → List ℕ → List ℕ
front_text [] rest = rest
front_text (v ∷ vs) rest = vector_text v ++ 47 ∷ front_text vs rest

pub front_text-push : (rows : List (List ℕ)) (v rest : List ℕ) → front_text (rows ++ v ∷ []) rest ≡ front_text rows (vector_text v ++ 47 ∷ rest)
front_text-push [] v rest = refl
front_text-push (w ∷ rows) v rest = ap (λ x. vector_text w ++ 47 ∷ x) (front_text-push rows v rest)

-- rows, and one more row whose text is the rest
pub front_text-end : (rows : List (List ℕ)) (v : List ℕ) → front_text rows (vector_text v) ≡ gen_text (rows ++ v ∷ [])
front_text-end [] v = refl
front_text-end (w ∷ rows) v = go w rows
  where
    go : (w : List ℕ) (rows : List (List ℕ)) → vector_text w ++ 47 ∷ front_text rows (vector_text v) ≡ joined_text w (rows ++ v ∷ [])
    go w [] = refl
    go w (u ∷ rows) = ap (λ x. vector_text w ++ 47 ∷ x) (go u rows)

-- no byte of a vector's text is a `/`
pub no_slash : (v : List ℕ) (k : ℕ) → k < length (vector_text v) → get_or (vector_text v) k 0 ≡ 47 → ⊥
no_slash [] zero l e = absurd (omega arith)
no_slash [] (suc k) l e = absurd (omega arith)
no_slash (d ∷ v) k l e =
    let n : k < length (d ∷ v) = omega (arith, length-map (d ∷ v) (λ x. 48 + x)) in
    let x = get_or-map (λ x. 48 + x) (d ∷ v) k 0 0 n in
    absurd (omega arith)

-- of the rows, those from k on are v and later ones, and the rest is their text
pub record Remains (k : ℕ) (rows : List (List ℕ)) (rest : List ℕ) : Type 0 where
  pub next : List ℕ
  pub later : List (List ℕ)
  pub all : drop k rows ≡ next ∷ later
  pub text : rest ≡ joined_text next later

-- where the rest has its first `/` at p, it is the text of the next row up to there
pub record Cut (v : List ℕ) (vs : List (List ℕ)) (p : ℕ) (rest : List ℕ) : Type 0 where
  pub next : List ℕ
  pub later : List (List ℕ)
  pub more : vs ≡ next ∷ later
  pub front : take p rest ≡ vector_text v
  pub back : drop (p + 1) rest ≡ joined_text next later

pub cut_at_slash : (v : List ℕ) (vs : List (List ℕ)) (p : ℕ) (rest : List ℕ) → rest ≡ joined_text v vs →
    p < length rest → get_or rest p 0 ≡ 47 → ((k : ℕ) → k < p → get_or rest k 0 ≢ 47) → Cut v vs p rest
cut_at_slash v [] p rest e l here first =
    absurd (no_slash v p (subst (λ x. p < length x) e l) (ap (λ x. get_or x p 0) (sym e) ∙ here))
cut_at_slash v (w ∷ ws) p rest e l here first =
    let n = length (vector_text v) in
    let tail = joined_text w ws in
    let at_n : get_or rest n 0 ≡ 47 =
    ap (λ x. get_or x n 0) e ∙ get_or-append_right (vector_text v) (47 ∷ tail) n n 0 refl (omega arith)
    ∙ let z : n - n ≡ 0 = omega arith in ap (λ k. get_or (47 ∷ tail) k 0) z in
    let p_is : p ≡ n = elim (cases_order p n) [
      | inl q ↦ q
      | inr o ↦ elim o [
        | inl before ↦
            absurd (no_slash v p before
            (sym (get_or_append_left (vector_text v) (47 ∷ tail) 0 p before) ∙ ap (λ x. get_or x p 0) (sym e) ∙ here))
        | inr after ↦ absurd (first n after at_n)
      ]
    ] in
    record {
      next = w;
      later = ws;
      more = refl;
      front = ap (take p) e ∙ take_at (vector_text v) (47 ∷ tail) p (sym p_is);
      back = ap (drop (p + 1)) e ∙ ap (drop (p + 1)) (sym (append_assoc (vector_text v) (47 ∷ []) tail))
          ∙ drop_at (vector_text v ++ 47 ∷ []) tail (p + 1) (length-append (vector_text v) (47 ∷ []) ∙ omega arith);
    }

drop_next : (k : ℕ) (rows : List (List ℕ)) (v : List ℕ) (vs : List (List ℕ)) → drop k rows ≡ v ∷ vs → drop (k + 1) rows ≡ vs
drop_next k rows v vs e = sym (drop-drop 1 k rows) ∙ ap (drop 1) e

-- the row at the head of what remains is a row of digits
row_of_remains : (f : Field) (k : ℕ) (rows : List (List ℕ)) (bytes : List ℕ) (v : List ℕ) (vs : List (List ℕ)) → IsGenText f rows bytes →
    drop k rows ≡ v ∷ vs → AreDigits f v × (length v ≤ 18)
row_of_remains f k rows bytes v vs h e = (
  All-head (λ u. AreDigits f u) v vs (subst (λ X. All (λ u. AreDigits f u) X) e (All-drop (λ u. AreDigits f u) k rows h.digits)),
  All-head (λ u. length u ≤ 18) v vs (subst (λ X. All (λ u. length u ≤ 18) X) e (All-drop (λ u. length u ≤ 18) k rows h.short)),
)

pub remains_next : (f : Field) (rows : List (List ℕ)) (bytes : List ℕ) (k p : ℕ) (rest : List ℕ) → Remains k rows rest →
    p < length rest → get_or rest p 0 ≡ 47 → ((k : ℕ) → k < p → get_or rest k 0 ≢ 47) → Remains (k + 1) rows (drop (p + 1) rest)
remains_next f rows bytes k p rest h l here first =
    let c = cut_at_slash h.next h.later p rest h.text l here first in
    record {
      next = c.next;
      later = c.later;
      all = drop_next k rows h.next h.later h.all ∙ c.more;
      text = c.back;
    }

-- up to the `/` stands the text of a vector
pub vector_before : (f : Field) (rows : List (List ℕ)) (bytes : List ℕ) (k p : ℕ) (rest : List ℕ) → IsGenText f rows bytes →
    (h : Remains k rows rest) →
    p < length rest → get_or rest p 0 ≡ 47 → ((k : ℕ) → k < p → get_or rest k 0 ≢ 47) → IsVectorText f h.next (take p rest)
vector_before f rows bytes k p rest t h l here first =
    let row = row_of_remains f k rows bytes h.next h.later t h.all in
    record { digits = row.0; short = row.1; text = (cut_at_slash h.next h.later p rest h.text l here first).front }

-- where no `/` is left, the rest is the text of a vector
pub vector_at_end : (f : Field) (rows : List (List ℕ)) (bytes : List ℕ) (k : ℕ) (rest : List ℕ) → IsGenText f rows bytes →
    (h : Remains k rows rest) → ((k : ℕ) → k < length rest → get_or rest k 0 ≢ 47) → IsVectorText f h.next rest
vector_at_end f rows bytes k rest t h none =
    let row = row_of_remains f k rows bytes h.next h.later t h.all in
    record { digits = row.0; short = row.1; text = go h.next h.later h.text }
  where
    go : (v : List ℕ) (vs : List (List ℕ)) → rest ≡ joined_text v vs → rest ≡ vector_text v
    go v [] e = e
    go v (w ∷ ws) e =
        let n = length (vector_text v) in
        let tail = joined_text w ws in
        let long : length rest ≡ n + length (47 ∷ tail) = ap length e ∙ length-append (vector_text v) (47 ∷ tail) in
        absurd (none n (omega arith)
        (ap (λ x. get_or x n 0) e ∙ get_or-append_right (vector_text v) (47 ∷ tail) n n 0 refl (omega arith)
        ∙ let z : n - n ≡ 0 = omega arith in ap (λ k. get_or (47 ∷ tail) k 0) z))

-- bytes with a `/` at p are what stands before it, the `/` and what stands after it
pub at_slash : (p : ℕ) (v rest before after : List ℕ) → p < length rest → get_or rest p 0 ≡ 47 → before ≡ take p rest →
    after ≡ drop (p + 1) rest → before ≡ vector_text v → rest ≡ vector_text v ++ 47 ∷ after
at_slash p v rest before after l here front back text =
    sym (take-append-drop p rest)
    ∙ ap₂ (λ x y. x ++ y) (sym front ∙ text)
    (drop_more rest p 0 l ∙ ap₂ (λ x y. x ∷ y) here (sym back))
