-- Elimination over marked rows: the steps of its loops.
use Rattle.std.proofs.Common.{ℕ, zero, suc, ◌+◌, ◌-◌, ◌^◌, ◌<◌, ◌≤◌, ◌≡◌, ◌⊎◌, inl, inr, bit_and, set, List, [], length, map, get_or, refl, sym, ap, ◌∙◌, subst, arith}
use Rattle.std.specs.Int.{bit_at}
use Rattle.std.proofs.lemmas.Bool.{cases_lt, cases_eq}
use Rattle.std.proofs.lemmas.Nat.Bits.{bit_at_and, bit_at-lt, bit_at_above, bit_at_mask_inside, bit_at_mask_below}
use Rattle.std.proofs.lemmas.List.{get_or-replicate, length-set}
use Rattle.mm_field.specs.declared.Field.{Field}
use Rattle.mm_field.specs.Digits.{negative}
use Rattle.mm_field.specs.Vectors.{zeros, vector_sum, multiple, IsVector}
use Rattle.mm_field.proofs.VectorLemmas.{add_no_multiple}
use Rattle.mm_linear.specs.Echelons.{IsEchelon}
use Rattle.mm_linear.specs.Eliminate.{residue, cleared}
use Rattle.mm_linear.proofs.EchelonLemmas.{row_at, entry_of_zero_row, negative-zero}
use Rattle.mm_space.specs.MarkedRows.{IsSupport, marked_rows}
use Rattle.mm_space.proofs.MarkLemmas.{length-marked, marked_on, marked_off, marked-put, IsLeft, IsLowest, without, lowest_is_next, lowest_is_mark, none_between, without_lowest, nothing_left}
use Rattle.mm_space.proofs.RowLemmas.{IsUnderway, underway_step, underway_zero, underway_end, IsClearing, clearing_step, clearing_zero, cleared_from_rows}

-- ---- reduction

underway_no_digit : (f : Field) (n : ℕ) (v : List ℕ) (rows : List (List ℕ)) (j : ℕ) (out : List ℕ) → IsEchelon f n rows → IsVector f n v → j < n →
    IsUnderway f n v rows j out → get_or v j 0 ≡ 0 → IsUnderway f n v rows (j + 1) out
underway_no_digit f n v rows j out h hv lj o none =
    underway_step f n v rows j out (negative f (get_or v j 0)) out h hv lj o refl
    (add_no_multiple f (negative f (get_or v j 0)) (get_or rows j []) out (ap (negative f) none ∙ negative-zero f)
    ((row_at f n rows h j lj).len ∙ sym o.vector.len) o.vector.digits)

-- places at which v or the row is zero change nothing
underway_skip : (f : Field) (n : ℕ) (v : List ℕ) (rows : List (List ℕ)) (d j : ℕ) (out : List ℕ) → IsEchelon f n rows → IsVector f n v → j + d ≤ n →
    ((k : ℕ) → j ≤ k → k < j + d → (get_or v k 0 ≡ 0) ⊎ (get_or rows k [] ≡ zeros n)) → IsUnderway f n v rows j out → IsUnderway f n v rows (j + d) out
underway_skip f n v rows zero j out h hv l none o = let e : j ≡ j + 0 = omega arith in subst (λ m. IsUnderway f n v rows m out) e o
underway_skip f n v rows (suc d) j out h hv l none o =
    let e : j + d + 1 ≡ j + suc d = omega arith in
    let lk : j + d < n = omega arith in
    let before = underway_skip f n v rows d j out h hv (omega arith) (λ k a b. none k a (omega arith)) o in
    subst (λ m. IsUnderway f n v rows m out) e
    (elim (none (j + d) (omega arith) (omega arith)) [
      | inl digit ↦ underway_no_digit f n v rows (j + d) out h hv lk before digit
      | inr row ↦ underway_zero f n v rows (j + d) out h hv lk before (entry_of_zero_row n rows (j + d) (j + d) lk row)
    ])

-- what the marks of a walk tell of v and the rows
pub record IsReducing (f : Field) (n : ℕ) (v : List ℕ) (marks : ℕ) (rows : List (List ℕ)) (start left : ℕ) (out : List ℕ) : Type 0 where
  pub at : ℕ
  pub low : at ≤ n
  pub walk : IsLeft start left at
  pub underway : IsUnderway f n v (marked_rows n marks rows) at out
  pub skipped : (k : ℕ) → k < n → bit_at start k ≡ 0 → (get_or v k 0 ≡ 0) ⊎ (bit_at marks k ≡ 0)
  pub marked : (k : ℕ) → bit_at start k ≡ 1 → (k < n) × (bit_at marks k ≡ 1)

one_of_both : (a b i : ℕ) → bit_at (bit_and a b) i ≡ 1 → (bit_at a i ≡ 1) × (bit_at b i ≡ 1)
one_of_both a b i e =
    let both = bit_at_and a b i in
    let la = bit_at-lt a i in
    let lb = bit_at-lt b i in
    (omega (arith, both, la, lb, e), omega (arith, both, la, lb, e))

none_of_both : (a b i : ℕ) → bit_at (bit_and a b) i ≡ 0 → (bit_at a i ≡ 0) ⊎ (bit_at b i ≡ 0)
none_of_both a b i e =
    elim (cases_eq (bit_at a i) 0) [
      | inl none ↦ inl none
      | inr some ↦ inr (omega (arith, bit_at_and a b i, e))
    ]

pub reducing_start : (f : Field) (n : ℕ) (v : List ℕ) (marks digits : ℕ) (rows : List (List ℕ)) → IsVector f n v → IsSupport v digits →
    IsReducing f n v marks rows (bit_and marks digits) (bit_and marks digits) v
reducing_start f n v marks digits rows hv s = record {
  at = 0;
  low = omega arith;
  walk = record { done = λ k l. absurd (omega arith); rest = λ k low l. refl };
  underway = record { vector = hv; rest = refl };
  skipped = λ k l e. elim (none_of_both marks digits k e) [ inl row ↦ inr row | inr digit ↦ inl (s.zero k (let long = hv.len in omega arith) digit) ];
  marked = λ k e. let both = one_of_both marks digits k e in let inside = (s.nonzero k both.1).0 in let long = hv.len in (omega arith, both.0);
}

reducing_to : (f : Field) (n : ℕ) (v : List ℕ) (marks : ℕ) (rows : List (List ℕ)) (start left : ℕ) (out : List ℕ) → IsEchelon f n (marked_rows n marks rows) →
    IsVector f n v → (h : IsReducing f n v marks rows start left out) → (j : ℕ) → h.at ≤ j → j ≤ n →
    ((k : ℕ) → h.at ≤ k → k < j → bit_at start k ≡ 0) → IsUnderway f n v (marked_rows n marks rows) j out
reducing_to f n v marks rows start left out he hv h j low l none =
    let M = marked_rows n marks rows in
    let e : h.at + (j - h.at) ≡ j = omega arith in
    subst (λ m. IsUnderway f n v M m out) e
    (underway_skip f n v M (j - h.at) h.at out he hv (omega arith)
    (λ k a b. elim (h.skipped k (omega arith) (none k a (omega arith))) [
      | inl digit ↦ inl digit
      | inr row ↦ inr (marked_off n marks rows k (omega arith) row)
    ]) h.underway)

-- the lowest mark is a place of the rows, and marked there
pub reducing_place : (f : Field) (n : ℕ) (v : List ℕ) (marks : ℕ) (rows : List (List ℕ)) (start left : ℕ) (out : List ℕ) (j : ℕ) →
    IsReducing f n v marks rows start left out → IsLowest left j → (j < n) × (bit_at marks j ≡ 1)
reducing_place f n v marks rows start left out j h m = h.marked j (lowest_is_mark start left h.at j h.walk m)

pub reducing_row : (f : Field) (n : ℕ) (v : List ℕ) (marks : ℕ) (rows : List (List ℕ)) (start left : ℕ) (out : List ℕ) (j : ℕ) →
    IsEchelon f n (marked_rows n marks rows) → IsReducing f n v marks rows start left out → IsLowest left j → IsVector f n (get_or rows j [])
reducing_row f n v marks rows start left out j he h m =
    let here = reducing_place f n v marks rows start left out j h m in
    subst (λ u. IsVector f n u) (marked_on n marks rows j here.0 here.1) (row_at f n (marked_rows n marks rows) he j here.0)

pub reducing_step : (f : Field) (n : ℕ) (v : List ℕ) (marks : ℕ) (rows : List (List ℕ)) (start left : ℕ) (out : List ℕ) (j a : ℕ) (new : List ℕ) →
    IsEchelon f n (marked_rows n marks rows) → IsVector f n v → IsReducing f n v marks rows start left out → IsLowest left j →
    a ≡ negative f (get_or v j 0) → new ≡ vector_sum f out (multiple f a (get_or rows j [])) →
    IsReducing f n v marks rows start (without left j) new
reducing_step f n v marks rows start left out j a new he hv h m a_is new_is =
    let next = lowest_is_next start left h.at j h.walk m in
    let here = h.marked j (lowest_is_mark start left h.at j h.walk m) in
    let lj : j < n = here.0 in
    let to = reducing_to f n v marks rows start left out he hv h j next (omega arith) (λ k low l. none_between start left h.at j h.walk m k low l) in
    record {
      at = j + 1;
      low = omega arith;
      walk = without_lowest start left h.at j h.walk m;
      underway = underway_step f n v (marked_rows n marks rows) j out a new he hv lj to a_is
          (new_is ∙ ap (λ x. vector_sum f out (multiple f a x)) (sym (marked_on n marks rows j lj here.1)));
      skipped = h.skipped;
      marked = h.marked;
    }

pub reducing_end : (f : Field) (n : ℕ) (v : List ℕ) (marks : ℕ) (rows : List (List ℕ)) (start left : ℕ) (out : List ℕ) → n ≤ 64 →
    IsEchelon f n (marked_rows n marks rows) → IsVector f n v → IsReducing f n v marks rows start left out → left ≡ 0 →
    out ≡ residue f n v (marked_rows n marks rows)
reducing_end f n v marks rows start left out few he hv h e =
    underway_end f n v (marked_rows n marks rows) n out he hv (λ k low l. absurd (omega arith))
    (reducing_to f n v marks rows start left out he hv h n h.low (omega arith) (λ k low l. nothing_left start left h.at h.walk e k low (omega arith)))

-- ---- clearing a column

pub record IsClearingMarked (f : Field) (n p : ℕ) (w : List ℕ) (marks : ℕ) (old : List (List ℕ)) (start left : ℕ) (rows : List (List ℕ)) : Type 0 where
  pub at : ℕ
  pub from : p ≤ at
  pub low : at ≤ n
  pub size : length rows ≡ n
  pub walk : IsLeft start left at
  pub clearing : IsClearing f n p w old at (marked_rows n marks rows)
  pub skipped : (k : ℕ) → p ≤ k → k < 64 → bit_at start k ≡ 0 → bit_at marks k ≡ 0
  pub marked : (k : ℕ) → bit_at start k ≡ 1 → (k < n) × (bit_at marks k ≡ 1)

pub clearing_start : (f : Field) (n p : ℕ) (w : List ℕ) (marks : ℕ) (rows : List (List ℕ)) → p < n → n ≤ 64 → marks < 2 ^ n → length rows ≡ n →
    IsClearingMarked f n p w marks (marked_rows n marks rows) (bit_and marks (2 ^ 64 - 2 ^ p)) (bit_and marks (2 ^ 64 - 2 ^ p)) rows
clearing_start f n p w marks rows lp few small size =
    let H = 2 ^ 64 - 2 ^ p in record {
      at = p;
      from = omega arith;
      low = omega arith;
      size = size;
      walk = record {
        done = λ k l. omega (arith, bit_at_and marks H k, bit_at_mask_below p 64 k l);
        rest = λ k low l. refl;
      };
      clearing = record {
        size = length-marked n marks rows;
        before = λ k l. refl;
        done = λ k low l. absurd (omega arith);
        rest = λ k l. refl;
      };
      skipped = λ k low l e. omega (arith, bit_at_and marks H k, bit_at_mask_inside p 64 k low l, bit_at-lt marks k, e);
      marked = λ k e.
          let both = one_of_both marks H k e in (
            elim (cases_lt k n) [
              | inl l ↦ l
              | inr high ↦ absurd (let none = bit_at_above marks n k small high in let some = both.0 in omega arith)
            ],
            both.0,
          );
    }

clearing_skip : (f : Field) (n p : ℕ) (w : List ℕ) (old : List (List ℕ)) (d i : ℕ) (new : List (List ℕ)) → IsVector f n w → IsEchelon f n old → p < n →
    p ≤ i → i + d ≤ n → ((k : ℕ) → i ≤ k → k < i + d → get_or new k [] ≡ zeros n) → IsClearing f n p w old i new → IsClearing f n p w old (i + d) new
clearing_skip f n p w old zero i new hw ho lp low l none h = let e : i ≡ i + 0 = omega arith in subst (λ m. IsClearing f n p w old m new) e h
clearing_skip f n p w old (suc d) i new hw ho lp low l none h =
    let e : i + d + 1 ≡ i + suc d = omega arith in
    let before = clearing_skip f n p w old d i new hw ho lp low (omega arith) (λ k a b. none k a (omega arith)) h in
    subst (λ m. IsClearing f n p w old m new) e
    (clearing_zero f n p w old (i + d) new hw ho (omega arith) (omega arith) before
    (ap (λ v. get_or v p 0) (none (i + d) (omega arith) (omega arith)) ∙ get_or-replicate n p 0 0 lp))

clearing_to : (f : Field) (n p : ℕ) (w : List ℕ) (marks : ℕ) (old : List (List ℕ)) (start left : ℕ) (rows : List (List ℕ)) → IsVector f n w → IsEchelon f n old →
    p < n → n ≤ 64 → (h : IsClearingMarked f n p w marks old start left rows) → (i : ℕ) → h.at ≤ i → i ≤ n →
    ((k : ℕ) → h.at ≤ k → k < i → bit_at start k ≡ 0) → IsClearing f n p w old i (marked_rows n marks rows)
clearing_to f n p w marks old start left rows hw ho lp few h i low l none =
    let M = marked_rows n marks rows in
    let from = h.from in
    let e : h.at + (i - h.at) ≡ i = omega arith in
    subst (λ m. IsClearing f n p w old m M) e
    (clearing_skip f n p w old (i - h.at) h.at M hw ho lp from (omega arith)
    (λ k a b. marked_off n marks rows k (omega arith) (h.skipped k (omega arith) (omega arith) (none k a (omega arith))))
    h.clearing)

pub clearing_place : (f : Field) (n p : ℕ) (w : List ℕ) (marks : ℕ) (old : List (List ℕ)) (start left : ℕ) (rows : List (List ℕ)) (i : ℕ) →
    IsClearingMarked f n p w marks old start left rows → IsLowest left i → i < n
clearing_place f n p w marks old start left rows i h m = (h.marked i (lowest_is_mark start left h.at i h.walk m)).0

pub clearing_row : (f : Field) (n p : ℕ) (w : List ℕ) (marks : ℕ) (old : List (List ℕ)) (start left : ℕ) (rows : List (List ℕ)) (i : ℕ) →
    IsEchelon f n old → IsClearingMarked f n p w marks old start left rows → IsLowest left i → IsVector f n (get_or rows i [])
clearing_row f n p w marks old start left rows i ho h m =
    let here = h.marked i (lowest_is_mark start left h.at i h.walk m) in
    subst (λ u. IsVector f n u)
    (sym (h.clearing.rest i (lowest_is_next start left h.at i h.walk m)) ∙ marked_on n marks rows i here.0 here.1)
    (row_at f n old ho i here.0)

pub clearing_next : (f : Field) (n p : ℕ) (w : List ℕ) (marks : ℕ) (old : List (List ℕ)) (start left : ℕ) (rows : List (List ℕ)) (i a : ℕ) (row : List ℕ) →
    IsVector f n w → IsEchelon f n old → p < n → n ≤ 64 → IsClearingMarked f n p w marks old start left rows → IsLowest left i →
    a ≡ negative f (get_or (get_or rows i []) p 0) → row ≡ vector_sum f (get_or rows i []) (multiple f a w) →
    IsClearingMarked f n p w marks old start (without left i) (set rows i row)
clearing_next f n p w marks old start left rows i a row hw ho lp few h m a_is row_is =
    let M = marked_rows n marks rows in
    let from = h.from in
    let size = h.size in
    let next = lowest_is_next start left h.at i h.walk m in
    let here = h.marked i (lowest_is_mark start left h.at i h.walk m) in
    let li : i < n = here.0 in
    let to = clearing_to f n p w marks old start left rows hw ho lp few h i next (omega arith) (λ k low l. none_between start left h.at i h.walk m k low l) in
    let same = sym (marked_on n marks rows i li here.1) in
    record {
      at = i + 1;
      from = omega arith;
      low = omega arith;
      size = length-set rows i row ∙ size;
      walk = without_lowest start left h.at i h.walk m;
      clearing = subst (λ X. IsClearing f n p w old (i + 1) X) (sym (marked-put n marks marks i rows row li (omega arith) here.1 (λ k l ne. refl)))
          (clearing_step f n p w old i M a row (omega arith) li to (a_is ∙ ap (λ v. negative f (get_or v p 0)) same) (row_is ∙ ap (λ v. vector_sum f v (multiple f a w)) same));
      skipped = h.skipped;
      marked = h.marked;
    }

pub clearing_next_zero : (f : Field) (n p : ℕ) (w : List ℕ) (marks : ℕ) (old : List (List ℕ)) (start left : ℕ) (rows : List (List ℕ)) (i : ℕ) →
    IsVector f n w → IsEchelon f n old → p < n → n ≤ 64 → IsClearingMarked f n p w marks old start left rows → IsLowest left i →
    get_or (get_or rows i []) p 0 ≡ 0 → IsClearingMarked f n p w marks old start (without left i) rows
clearing_next_zero f n p w marks old start left rows i hw ho lp few h m none =
    let M = marked_rows n marks rows in
    let from = h.from in
    let next = lowest_is_next start left h.at i h.walk m in
    let here = h.marked i (lowest_is_mark start left h.at i h.walk m) in
    let li : i < n = here.0 in
    let to = clearing_to f n p w marks old start left rows hw ho lp few h i next (omega arith) (λ k low l. none_between start left h.at i h.walk m k low l) in
    record {
      at = i + 1;
      from = omega arith;
      low = omega arith;
      size = h.size;
      walk = without_lowest start left h.at i h.walk m;
      clearing = clearing_zero f n p w old i M hw ho (omega arith) li to (ap (λ v. get_or v p 0) (marked_on n marks rows i li here.1) ∙ none);
      skipped = h.skipped;
      marked = h.marked;
    }

pub clearing_marked_end : (f : Field) (n p : ℕ) (w : List ℕ) (marks : ℕ) (old : List (List ℕ)) (start left : ℕ) (rows : List (List ℕ)) →
    IsVector f n w → IsEchelon f n old → p < n → n ≤ 64 → IsClearingMarked f n p w marks old start left rows → left ≡ 0 →
    marked_rows n marks rows ≡ map (cleared f p w) old
clearing_marked_end f n p w marks old start left rows hw ho lp few h e =
    let to = clearing_to f n p w marks old start left rows hw ho lp few h n h.low (omega arith) (λ k low l. nothing_left start left h.at h.walk e k low (omega arith)) in
    cleared_from_rows f n n p w old (marked_rows n marks rows) hw ho (λ i j li lo hi. absurd (omega arith)) lp (omega arith) to.size to.before
    (λ k low l. to.done k low l) (λ k high. to.rest k high)
