-- Steps of elimination that stop at place r, and what an insertion owes.
use Rattle.std.specs.Prelude.{IsTrue, IfSome, IfNone, is_some}
use Rattle.std.proofs.Common.{ℕ, ◌+◌, ◌-◌, ◌<◌, ◌≤◌, ◌≡◌, ◌≢◌, ◌↔◌, inl, inr, Bool, not, Option, Some, None, List, [], ◌∷◌, length, map, get_or, set, drop, sym, ap, ◌∙◌, subst, arith}
use Rattle.std.proofs.lemmas.Bool.{cases_lt, cases_eq}
use Rattle.std.proofs.lemmas.List.{length-set, get_or-set_same, get_or-set_other, get_or-replicate}
use Rattle.mm_field.specs.declared.Field.{Field}
use Rattle.mm_field.specs.Digits.{negative, inverse}
use Rattle.mm_field.specs.Vectors.{zeros, vector_sum, multiple, combination, IsVector, AreVectors, InSpan, SameRowSpace}
use Rattle.mm_field.proofs.VectorLemmas.{vector_sum-zeros, multiple-zeros, IsVector-vector_sum, length-multiple, add_no_multiple}
use Rattle.mm_field.proofs.CombinationLemmas.{combination-zeros}
use Rattle.std.proofs.lemmas.List.Elements.{All-drop}
use Rattle.mm_linear.specs.Echelons.{entry, IsEchelon, EndsAt, ZeroFrom}
use Rattle.mm_linear.specs.Decide.{row_for}
use Rattle.mm_linear.specs.Eliminate.{residue, cleared, inserted}
use Rattle.mm_space.specs.Insertion.{IsInserted}
use Rattle.mm_linear.proofs.EchelonLemmas.{row_at, entry_of_zero_row, negative-zero}
use Rattle.mm_linear.proofs.InsertLemmas.{new_row, scaled_residue, inserted_span, IsEchelon-inserted, no_residue}
use Rattle.mm_linear.proofs.SpaceLemmas.{inserted_within, same_span_inside, contains_decides, residue_past}
use Rattle.mm_linear.proofs.StepLemmas.{reduced_step, map_from_entries}
use Rattle.mm_linear.proofs.SumLemmas.{zero_row}
use Rattle.mm_linear.proofs.SubspaceLemmas.{drop_of_end}

-- ---- reduction: after the rows before j, out is what is left of v

pub record IsUnderway (f : Field) (n : ℕ) (v : List ℕ) (rows : List (List ℕ)) (j : ℕ) (out : List ℕ) : Type 0 where
  pub vector : IsVector f n out
  pub rest :
      vector_sum f out (multiple f (negative f 1) (combination f n (drop j v) (drop j rows)))
      ≡ residue f n v rows

pub underway_step : (f : Field) (n : ℕ) (v : List ℕ) (rows : List (List ℕ)) (j : ℕ) (out : List ℕ) (a : ℕ) (new : List ℕ) →
    IsEchelon f n rows → IsVector f n v → j < n → IsUnderway f n v rows j out → a ≡ negative f (get_or v j 0) →
    new ≡ vector_sum f out (multiple f a (get_or rows j [])) → IsUnderway f n v rows (j + 1) new
underway_step f n v rows j out a new h hv lj o a_is new_is =
    let lv : length v ≡ n = hv.len in
    let lr : length rows ≡ n = h.count in
    let y_is = new_is ∙ ap (λ b. vector_sum f out (multiple f b (get_or rows j []))) a_is in
    record {
      vector =
          subst (λ y. IsVector f n y) (sym y_is)
          (IsVector-vector_sum f n out (multiple f (negative f (get_or v j 0)) (get_or rows j [])) o.vector.len
          (length-multiple f (negative f (get_or v j 0)) (get_or rows j []) ∙ (row_at f n rows h j lj).len));
      rest =
          ap (λ y. vector_sum f y (multiple f (negative f 1) (combination f n (drop (j + 1) v) (drop (j + 1) rows)))) y_is
          ∙ reduced_step f n v out rows j (omega arith) (omega arith)
          ∙ o.rest;
    }

-- a row that is zero changes nothing
pub reduced_step_zero : (f : Field) (n : ℕ) (v out : List ℕ) (rows : List (List ℕ)) (j : ℕ) → IsEchelon f n rows →
    length v ≡ n → j < n → IsVector f n out → entry rows j j ≡ 0 →
    vector_sum f out (multiple f (negative f 1) (combination f n (drop (j + 1) v) (drop (j + 1) rows)))
    ≡ vector_sum f out (multiple f (negative f 1) (combination f n (drop j v) (drop j rows)))
reduced_step_zero f n v out rows j h lv lj ho none =
    let lr : length rows ≡ n = h.count in
    let zero = zero_row f n rows h j lj none in
    ap (λ x. vector_sum f x (multiple f (negative f 1) (combination f n (drop (j + 1) v) (drop (j + 1) rows))))
    (sym (ap (λ x. vector_sum f out (multiple f (negative f (get_or v j 0)) x)) zero
    ∙ ap (λ x. vector_sum f out x) (multiple-zeros f (negative f (get_or v j 0)) n)
    ∙ vector_sum-zeros f n out ho))
    ∙ reduced_step f n v out rows j (omega arith) (omega arith)

-- where v has zeros from place j on, nothing is left to do
pub reduced_stop : (f : Field) (n : ℕ) (v out : List ℕ) (rows : List (List ℕ)) (j : ℕ) → AreVectors f n rows → length v ≡ n →
    EndsAt n j v → IsVector f n out →
    vector_sum f out (multiple f (negative f 1) (combination f n (drop j v) (drop j rows))) ≡ out
reduced_stop f n v out rows j h lv ends ho =
    ap (λ cs. vector_sum f out (multiple f (negative f 1) (combination f n cs (drop j rows)))) (drop_of_end n j v lv ends)
    ∙ ap (λ x. vector_sum f out (multiple f (negative f 1) x))
    (combination-zeros f n (n - j) (drop j rows) (All-drop (λ u. IsVector f n u) j rows h))
    ∙ ap (λ x. vector_sum f out x) (multiple-zeros f (negative f 1) n)
    ∙ vector_sum-zeros f n out ho

pub underway_zero : (f : Field) (n : ℕ) (v : List ℕ) (rows : List (List ℕ)) (j : ℕ) (out : List ℕ) → IsEchelon f n rows →
    IsVector f n v → j < n → IsUnderway f n v rows j out → entry rows j j ≡ 0 → IsUnderway f n v rows (j + 1) out
underway_zero f n v rows j out h hv lj o none = record {
  vector = o.vector;
  rest = reduced_step_zero f n v out rows j h hv.len lj o.vector none ∙ o.rest;
}

pub underway_end : (f : Field) (n : ℕ) (v : List ℕ) (rows : List (List ℕ)) (j : ℕ) (out : List ℕ) → IsEchelon f n rows →
    IsVector f n v → EndsAt n j v → IsUnderway f n v rows j out → out ≡ residue f n v rows
underway_end f n v rows j out h hv ends o = sym (reduced_stop f n v out rows j h.each hv.len ends o.vector) ∙ o.rest

-- ---- insertion

-- a row with 0 at p has no part along w
pub cleared_zero : (f : Field) (n p : ℕ) (w row : List ℕ) → IsVector f n w → IsVector f n row → get_or row p 0 ≡ 0 →
    row ≡ cleared f p w row
cleared_zero f n p w row hw hr none =
    add_no_multiple f (negative f (get_or row p 0)) w row (ap (negative f) none ∙ negative-zero f) (hw.len ∙ sym hr.len) hr.digits

-- rows from place p to r are cleared, and the others have 0 at p
pub cleared_from_rows : (f : Field) (n r p : ℕ) (w : List ℕ) (rows new : List (List ℕ)) → IsVector f n w → IsEchelon f n rows →
    ZeroFrom n r rows → p < r → r ≤ n → length new ≡ n →
    ((k : ℕ) → k < p → get_or new k [] ≡ get_or rows k []) →
    ((k : ℕ) → p ≤ k → k < r → get_or new k [] ≡ cleared f p w (get_or rows k [])) →
    ((k : ℕ) → r ≤ k → get_or new k [] ≡ get_or rows k []) → new ≡ map (cleared f p w) rows
cleared_from_rows f n r p w rows new hw h within lp lr ln before done rest =
    let lrows : length rows ≡ n = h.count in
    map_from_entries (cleared f p w) rows new (ln ∙ sym lrows)
    (λ k l.
    let lk : k < n = omega arith in
    elim (cases_lt k p) [
      | inl early ↦
          before k early ∙ cleared_zero f n p w (get_or rows k []) hw (row_at f n rows h k lk) (h.after k p early (omega arith))
      | inr late ↦ elim (cases_lt k r) [
        | inl inside ↦ done k late inside
        | inr outside ↦
            rest k outside ∙ cleared_zero f n p w (get_or rows k []) hw (row_at f n rows h k lk)
            (entry_of_zero_row n rows k p (omega arith) (zero_row f n rows h k lk (within k k lk outside lk)))
      ]
    ])

-- the rows from place p to i are cleared
pub record IsClearing (f : Field) (n p : ℕ) (w : List ℕ) (rows : List (List ℕ)) (i : ℕ) (new : List (List ℕ)) : Type 0 where
  pub size : length new ≡ n
  pub before : (k : ℕ) → k < p → get_or new k [] ≡ get_or rows k []
  pub done : (k : ℕ) → p ≤ k → k < i → get_or new k [] ≡ cleared f p w (get_or rows k [])
  pub rest : (k : ℕ) → i ≤ k → get_or new k [] ≡ get_or rows k []

pub clearing_step : (f : Field) (n p : ℕ) (w : List ℕ) (rows : List (List ℕ)) (i : ℕ) (new : List (List ℕ)) (a : ℕ) (row : List ℕ) →
    p ≤ i → i < n → IsClearing f n p w rows i new → a ≡ negative f (get_or (get_or new i []) p 0) →
    row ≡ vector_sum f (get_or new i []) (multiple f a w) → IsClearing f n p w rows (i + 1) (set new i row)
clearing_step f n p w rows i new a row low l h a_is row_is =
    let size = h.size in
    let row_at_i : row ≡ cleared f p w (get_or rows i []) =
    row_is ∙ ap (λ b. vector_sum f (get_or new i []) (multiple f b w)) a_is
    ∙ ap (cleared f p w) (h.rest i (omega arith)) in
    record {
      size = length-set new i row ∙ h.size;
      before = λ k lk. get_or-set_other new i k row [] (λ e. absurd (omega arith)) ∙ h.before k lk;
      done = λ k lo hi. elim (cases_eq k i) [
        | inl e ↦
            ap (λ j. get_or (set new i row) j []) e ∙ get_or-set_same new i row [] (omega arith) ∙ row_at_i
            ∙ ap (λ j. cleared f p w (get_or rows j [])) (sym e)
        | inr ne ↦ get_or-set_other new i k row [] ne ∙ h.done k lo (omega arith)
      ];
      rest = λ k lk. get_or-set_other new i k row [] (λ e. absurd (omega arith)) ∙ h.rest k (omega arith);
    }

pub clearing_zero : (f : Field) (n p : ℕ) (w : List ℕ) (rows : List (List ℕ)) (i : ℕ) (new : List (List ℕ)) → IsVector f n w →
    IsEchelon f n rows → p ≤ i → i < n → IsClearing f n p w rows i new → get_or (get_or new i []) p 0 ≡ 0 → IsClearing f n p w rows (i + 1) new
clearing_zero f n p w rows i new hw hr low l h none =
    let same = h.rest i (omega arith) in
    record {
      size = h.size;
      before = h.before;
      done = λ k lo hi. elim (cases_eq k i) [
        | inl e ↦
            ap (λ j. get_or new j []) e ∙ same
            ∙ cleared_zero f n p w (get_or rows i []) hw (row_at f n rows hr i l) (ap (λ v. get_or v p 0) (sym same) ∙ none)
            ∙ ap (λ j. cleared f p w (get_or rows j [])) (sym e)
        | inr ne ↦ h.done k lo (omega arith)
      ];
      rest = λ k lk. h.rest k (omega arith);
    }

-- what insertion of v owes where v has a residue
pub inserted_is : (f : Field) (n r p : ℕ) (v u w : List ℕ) (rows cleared_rows : List (List ℕ)) → IsEchelon f n rows → IsVector f n v →
    u ≡ residue f n v rows → p < n → get_or u p 0 ≢ 0 → ((k : ℕ) → p < k → k < n → get_or u k 0 ≡ 0) →
    w ≡ multiple f (inverse f (get_or u p 0)) u → cleared_rows ≡ map (cleared f p w) rows →
    ZeroFrom n r rows → EndsAt n r v → IsInserted f n r v rows (set cleared_rows p w)
inserted_is f n r p v u w rows cleared_rows h hv u_is lp ne late w_is rows_are z zv =
    let ne' = subst (λ x. get_or x p 0 ≢ 0) u_is ne in
    let late' = subst (λ x. (k : ℕ) → p < k → k < n → get_or x k 0 ≡ 0) u_is late in
    let new = new_row f n p v rows h hv lp ne' late' in
    let w_is' : w ≡ row_for f n p v rows = w_is ∙ ap (λ x. multiple f (inverse f (get_or x p 0)) x) u_is in
    let all_are : set cleared_rows p w ≡ inserted f p (row_for f n p v rows) rows =
    ap (λ m. set m p w) rows_are ∙ ap (λ x. set (map (cleared f p x) rows) p x) w_is' in
    record {
      echelon = subst (λ m. IsEchelon f n m) (sym all_are) (IsEchelon-inserted f n p (row_for f n p v rows) rows h new);
      span = subst (λ m. SameRowSpace f n (v ∷ rows) m) (sym all_are)
          (inserted_span f n p v (row_for f n p v rows) rows h hv new (scaled_residue f n p v rows h hv lp ne'));
      within = subst (λ m. ZeroFrom n r m) (sym all_are) (inserted_within f n r p v rows h hv z zv new);
    }

-- what insertion of v owes where v has no residue
pub nothing_inserted : (f : Field) (n r : ℕ) (v u : List ℕ) (rows : List (List ℕ)) → IsEchelon f n rows → IsVector f n v →
    u ≡ residue f n v rows → u ≡ zeros n → ZeroFrom n r rows → IsInserted f n r v rows rows
nothing_inserted f n r v u rows h hv u_is none z = record {
  echelon = h;
  span = same_span_inside f n v rows h hv (sym u_is ∙ none);
  within = z;
}

-- what is outside has a residue
pub outside_with_residue : (f : Field) (n p : ℕ) (v u : List ℕ) (rows : List (List ℕ)) → IsEchelon f n rows → IsVector f n v →
    u ≡ residue f n v rows → p < n → get_or u p 0 ≢ 0 → InSpan f n rows v → ⊥
outside_with_residue f n p v u rows h hv u_is lp ne inside =
    ne (ap (λ x. get_or x p 0) (u_is ∙ no_residue f n v rows h hv inside) ∙ get_or-replicate n p 0 0 lp)

-- the residue has zeros where v and the rows have
pub residue_ends : (f : Field) (n r : ℕ) (v : List ℕ) (rows : List (List ℕ)) → IsEchelon f n rows → IsVector f n v → ZeroFrom n r rows →
    EndsAt n r v → EndsAt n r (residue f n v rows)
residue_ends f n r v rows h hv z zv j low l = residue_past f n r v rows h hv z j low l (zv j low l)

-- whether there is no residue decides whether v is inside
pub holds_decides : (f : Field) (n r : ℕ) (rows : List (List ℕ)) (v rest : List ℕ) (o : Option ℕ) (b : Bool) →
    IsEchelon f n rows → IsVector f n v → r ≤ n → rest ≡ residue f n v rows →
    IfSome o (λ p. (p < r) × (get_or rest p 0 ≢ 0)) → IfNone o (rest ≡ zeros n) →
    is_some o ≡ not b → IsTrue b ↔ InSpan f n rows v
holds_decides f n r rows v rest o b h hv l e found none i =
    contains_decides f n rows v rest o b h hv e (further o found) none i
  where
    further : (o : Option ℕ) → IfSome o (λ p. (p < r) × (get_or rest p 0 ≢ 0)) → IfSome o (λ p. (p < n) × (get_or rest p 0 ≢ 0))
    further None k = k
    further (Some p) k = (let a = k.0 in omega arith, k.1)
