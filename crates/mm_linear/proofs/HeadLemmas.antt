-- The vectors of a space that end at t: the upper left t by t part of its rows.
use Rattle.std.proofs.Common.{ℕ, ◌+◌, ◌-◌, ◌<◌, ◌≤◌, ◌≡◌, ◌↔◌, inl, inr, List, [], ◌++◌, length, map, get_or, take, sym, ap, ◌∙◌, subst, arith, take-append-drop}
use Rattle.std.proofs.lemmas.List.{length-map, length-take-le, get_or-take, get_or-map, take-replicate}
use Rattle.std.proofs.lemmas.List.Elements.{All-take, All-from_get_or}
use Rattle.mm_field.specs.declared.Field.{Field}
use Rattle.mm_field.specs.Digits.{order}
use Rattle.mm_field.specs.Vectors.{zeros, IsVector, InSpan}
use Rattle.mm_field.proofs.VectorLemmas.{IsVector-zeros}
use Rattle.mm_field.proofs.PartLemmas.{IsVector-append}
use Rattle.mm_linear.specs.Echelons.{entry, IsEchelon}
use Rattle.mm_linear.proofs.EchelonLemmas.{row_at}
use Rattle.mm_linear.proofs.StepLemmas.{map_from_entries}
use Rattle.mm_linear.proofs.SpaceLemmas.{padded_past}
use Rattle.mm_linear.proofs.SubspaceLemmas.{pad, InSpan-pad, front_span, span_of_front, drop_of_end}

abbrev pub head_rows : ℕ → List (List ℕ) → List (List ℕ)
head_rows t rows = map (take t) (take t rows)

head_row : (n t : ℕ) (rows : List (List ℕ)) → length rows ≡ n → t ≤ n → (i : ℕ) → i < t →
    get_or (head_rows t rows) i [] ≡ take t (get_or rows i [])
head_row n t rows e l i li =
    let lq : length (take t rows) ≡ t = length-take-le t rows (omega arith) in
    get_or-map (take t) (take t rows) i [] [] (omega arith) ∙ ap (take t) (get_or-take t rows i [] li)

head_entry : (n t : ℕ) (rows : List (List ℕ)) → length rows ≡ n → t ≤ n → (i j : ℕ) → i < t → j < t →
    entry (head_rows t rows) i j ≡ entry rows i j
head_entry n t rows e l i j li lj =
    ap (λ r. get_or r j 0) (head_row n t rows e l i li) ∙ get_or-take t (get_or rows i []) j 0 lj

pub IsEchelon-head : (f : Field) (n t : ℕ) (rows : List (List ℕ)) → IsEchelon f n rows → t ≤ n → IsEchelon f t (head_rows t rows)
IsEchelon-head f n t rows h l =
    let c : length rows ≡ n = h.count in
    let lq : length (take t rows) ≡ t = length-take-le t rows (omega arith) in
    let lh : length (head_rows t rows) ≡ t = length-map (take t rows) (take t) ∙ lq in
    record {
      count = lh;
      each =
          All-from_get_or (λ v. IsVector f t v) (head_rows t rows) []
          (λ i li.
          let r = row_at f n rows h i (omega arith) in
          let lr : length (get_or rows i []) ≡ n = r.len in
          subst (λ v. IsVector f t v) (sym (head_row n t rows c l i (omega arith)))
          (record {
            len = length-take-le t (get_or rows i []) (omega arith);
            digits = All-take (λ d. d < order f) t (get_or rows i []) r.digits;
          }));
      after = λ i j lt lj. head_entry n t rows c l i j (omega arith) lj ∙ h.after i j lt (omega arith);
      pivot = λ i li. elim (h.pivot i (omega arith)) [
        | inl z ↦ inl (head_row n t rows c l i li ∙ ap (take t) z ∙ take-replicate t n 0 l)
        | inr one ↦ inr (head_entry n t rows c l i i li li ∙ one)
      ];
      clear = λ i k li lk ne one.
          head_entry n t rows c l i k li lk
          ∙ h.clear i k (omega arith) (omega arith) ne (sym (head_entry n t rows c l k k lk lk) ∙ one);
    }

head_rows_padded : (f : Field) (n t : ℕ) (rows : List (List ℕ)) → IsEchelon f n rows → t ≤ n →
    take t rows ≡ map (pad (n - t)) (head_rows t rows)
head_rows_padded f n t rows h l =
    let c : length rows ≡ n = h.count in
    let lq : length (take t rows) ≡ t = length-take-le t rows (omega arith) in
    let lh : length (head_rows t rows) ≡ t = length-map (take t rows) (take t) ∙ lq in
    map_from_entries (pad (n - t)) (head_rows t rows) (take t rows) (lq ∙ sym lh)
    (λ k lk.
    let lk' : k < t = omega arith in
    let r = row_at f n rows h k (omega arith) in
    get_or-take t rows k [] lk'
    ∙ sym (take-append-drop t (get_or rows k []))
    ∙ ap (λ x. take t (get_or rows k []) ++ x)
    (drop_of_end n t (get_or rows k []) r.len (λ j lj mj. h.after k j (omega arith) mj))
    ∙ ap (pad (n - t)) (sym (head_row n t rows c l k lk')))

-- b is in the head exactly where b followed by zeros is in the space.
pub InSpan-head : (f : Field) (n t : ℕ) (rows : List (List ℕ)) → IsEchelon f n rows → t ≤ n → (b : List ℕ) → IsVector f t b →
    InSpan f t (head_rows t rows) b ↔ InSpan f n rows (b ++ zeros (n - t))
InSpan-head f n t rows h l b hb =
    let w : t + (n - t) ≡ n = omega arith in
    let hp = IsEchelon-head f n t rows h l in
    let both = InSpan-pad f t (n - t) (head_rows t rows) b hp.each hb in
    let hv : IsVector f n (b ++ zeros (n - t)) =
    subst (λ k. IsVector f k (b ++ zeros (n - t))) w
    (IsVector-append f t (n - t) b (zeros (n - t)) hb (IsVector-zeros f (n - t))) in
    let lb : length b ≡ t = hb.len in
    let ends = λ (j : ℕ) (lj : t ≤ j) (mj : j < n).
    ap (λ k. get_or (b ++ zeros (n - k)) j 0) (sym lb) ∙ padded_past n b j (omega arith) mj in (
      (λ p. span_of_front f n t rows h (b ++ zeros (n - t))
          (subst (λ rs. InSpan f n rs (b ++ zeros (n - t))) (sym (head_rows_padded f n t rows h l))
          (subst (λ k. InSpan f k (map (pad (n - t)) (head_rows t rows)) (b ++ zeros (n - t))) w (both.0 p)))),
      (λ p. both.1
          (subst (λ k. InSpan f k (map (pad (n - t)) (head_rows t rows)) (b ++ zeros (n - t))) (sym w)
          (subst (λ rs. InSpan f n rs (b ++ zeros (n - t))) (head_rows_padded f n t rows h l)
          (front_span f n t rows h l (b ++ zeros (n - t)) hv ends p)))),
    )
