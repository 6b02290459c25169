-- Projecting along reduced rows onto the vectors that are orthogonal to them.
use Rattle.std.proofs.Common.{ℕ, zero, suc, ◌-◌, ◌<◌, ◌≡◌, inl, inr, List, [], ◌∷◌, length, map, get_or, refl, sym, ap, ap₂, ◌∙◌, subst, arith, ext_get_or}
use Rattle.std.proofs.lemmas.Bool.{cases_eq, cases_lt}
use Rattle.std.proofs.lemmas.List.{length-map, get_or-map, get_or_default}
use Rattle.std.proofs.lemmas.List.Elements.{All-head, All-tail, All-cons, All-nil}
use Rattle.std.specs.List.{All}
use Rattle.mm_field.specs.declared.Field.{Field}
use Rattle.mm_field.specs.Digits.{order, plus, times, negative}
use Rattle.mm_field.specs.Vectors.{zeros, vector_sum, multiple, combination, IsVector, AreVectors}
use Rattle.mm_field.proofs.Tables.{times_assoc, times_comm, times-plus, plus-negative, negative-times, negative_below}
use Rattle.mm_field.proofs.VectorLemmas.{vector_sum_middle, vector_sum-zeros, multiple-vector_sum, IsVector-vector_sum, IsVector-zeros}
use Rattle.mm_field.proofs.CombinationLemmas.{combination-vector_sum, combination-multiple, combination-zeros, IsVector-combination}
use Rattle.mm_linear.specs.Coordinates.{unit}
use Rattle.mm_linear.specs.ReducedEchelon.{Clear}
use Rattle.mm_linear.proofs.BasisLemmas.{IsVector-unit, get_or-unit, get_or-unit_other}
use Rattle.mm_linear.proofs.LeftUnique.{leads_above}
use Rattle.mm_linear.proofs.PivotLemmas.{count_leads}
use Rattle.mm_linear.proofs.EchelonLemmas.{negative-zero}
use Rattle.mm_matrix.specs.Residues.{AreReduced}
use Rattle.mm_matrix.specs.Orthogonal.{dot, IsOrthogonal}
use Rattle.mm_matrix.specs.Projections.{units, shares, projected}
use Rattle.mm_matrix.proofs.ResidueLemmas.{one_at_lead, zero_at_earlier}
use Rattle.mm_matrix.proofs.DotLemmas.{dot-vector_sum, dot-multiple, dot-zeros, dot-unit, dot-combination}

-- ---- linear

negative-plus : (f : Field) (a b : ℕ) → negative f (plus f a b) ≡ plus f (negative f a) (negative f b)
negative-plus f a b =
    negative-times f (plus f a b) ∙ times-plus f (negative f 1) a b
    ∙ ap₂ (plus f) (sym (negative-times f a)) (sym (negative-times f b))

times-negative : (f : Field) (c a : ℕ) → negative f (times f c a) ≡ times f c (negative f a)
times-negative f c a =
    negative-times f (times f c a) ∙ sym (times_assoc f (negative f 1) c a) ∙ ap (λ x. times f x a) (times_comm f (negative f 1) c)
    ∙ times_assoc f c (negative f 1) a ∙ ap (times f c) (sym (negative-times f a))

shares-vector_sum : (f : Field) (rows : List (List ℕ)) (x y : List ℕ) → length x ≡ length y →
    shares f rows (vector_sum f x y) ≡ vector_sum f (shares f rows x) (shares f rows y)
shares-vector_sum f [] x y e = refl
shares-vector_sum f (v ∷ rows) x y e =
    ap₂ (λ a b. a ∷ b) (ap (negative f) (dot-vector_sum f v x y e) ∙ negative-plus f (dot f v x) (dot f v y)) (shares-vector_sum f rows x y e)

shares-multiple : (f : Field) (c : ℕ) (rows : List (List ℕ)) (x : List ℕ) → shares f rows (multiple f c x) ≡ multiple f c (shares f rows x)
shares-multiple f c [] x = refl
shares-multiple f c (v ∷ rows) x =
    ap₂ (λ a b. a ∷ b) (ap (negative f) (dot-multiple f c v x) ∙ times-negative f c (dot f v x)) (shares-multiple f c rows x)

-- nothing is taken from a vector that is orthogonal to the rows
shares_none : (f : Field) (rows : List (List ℕ)) (x : List ℕ) → IsOrthogonal f rows x → shares f rows x ≡ zeros (length rows)
shares_none f [] x h = refl
shares_none f (v ∷ rows) x h =
    ap₂ (λ a b. a ∷ b) (ap (negative f) (All-head (λ u. dot f u x ≡ 0) v rows h) ∙ negative-zero f)
    (shares_none f rows x (All-tail (λ u. dot f u x ≡ 0) v rows h))

shares_digits : (f : Field) (rows : List (List ℕ)) (x : List ℕ) → IsVector f (length rows) (shares f rows x)
shares_digits f rows x = record {
  len = length-map rows (λ v. negative f (dot f v x));
  digits = go rows;
}
  where
    go : (rows : List (List ℕ)) → All (λ d. d < order f) (shares f rows x)
    go [] = All-nil (λ d. d < order f)
    go (v ∷ rows) = All-cons (λ d. d < order f) _ _ (negative_below f (dot f v x)) (go rows)

pub AreVectors-units : (f : Field) (n : ℕ) (ks : List ℕ) → All (λ k. k < n) ks → AreVectors f n (units n ks)
AreVectors-units f n [] h = All-nil (λ v. IsVector f n v)
AreVectors-units f n (k ∷ ks) h =
    All-cons (λ v. IsVector f n v) _ _ (IsVector-unit f n k (All-head (λ k. k < n) k ks h)) (AreVectors-units f n ks (All-tail (λ k. k < n) k ks h))

pub IsVector-projected : (f : Field) (n : ℕ) (rows : List (List ℕ)) (ks x : List ℕ) → All (λ k. k < n) ks → IsVector f n x →
    IsVector f n (projected f n rows ks x)
IsVector-projected f n rows ks x h hx =
    IsVector-vector_sum f n x (combination f n (shares f rows x) (units n ks)) hx.len
    (IsVector-combination f n (shares f rows x) (units n ks) (AreVectors-units f n ks h)).len

pub projected-vector_sum : (f : Field) (n : ℕ) (rows : List (List ℕ)) (ks x y : List ℕ) → IsVector f n x → IsVector f n y →
    projected f n rows ks (vector_sum f x y) ≡ vector_sum f (projected f n rows ks x) (projected f n rows ks y)
projected-vector_sum f n rows ks x y hx hy =
    ap (λ cs. vector_sum f (vector_sum f x y) (combination f n cs (units n ks))) (shares-vector_sum f rows x y (hx.len ∙ sym hy.len))
    ∙ ap (vector_sum f (vector_sum f x y))
    (combination-vector_sum f n (shares f rows x) (shares f rows y) (units n ks) ((shares_digits f rows x).len ∙ sym (shares_digits f rows y).len))
    ∙ vector_sum_middle f x y (combination f n (shares f rows x) (units n ks)) (combination f n (shares f rows y) (units n ks))

pub projected-multiple : (f : Field) (n c : ℕ) (rows : List (List ℕ)) (ks x : List ℕ) →
    projected f n rows ks (multiple f c x) ≡ multiple f c (projected f n rows ks x)
projected-multiple f n c rows ks x =
    ap (λ cs. vector_sum f (multiple f c x) (combination f n cs (units n ks))) (shares-multiple f c rows x)
    ∙ ap (vector_sum f (multiple f c x)) (combination-multiple f n c (shares f rows x) (units n ks))
    ∙ sym (multiple-vector_sum f c x (combination f n (shares f rows x) (units n ks)))

-- a vector that is orthogonal to the rows stays as it is
pub projected_same : (f : Field) (n : ℕ) (rows : List (List ℕ)) (ks x : List ℕ) → All (λ k. k < n) ks → IsVector f n x →
    IsOrthogonal f rows x → projected f n rows ks x ≡ x
projected_same f n rows ks x h hx orth =
    ap (λ cs. vector_sum f x (combination f n cs (units n ks))) (shares_none f rows x orth)
    ∙ ap (vector_sum f x) (combination-zeros f n (length rows) (units n ks) (AreVectors-units f n ks h))
    ∙ vector_sum-zeros f n x hx

pub projected-zeros : (f : Field) (n : ℕ) (rows : List (List ℕ)) (ks : List ℕ) → All (λ k. k < n) ks →
    projected f n rows ks (zeros n) ≡ zeros n
projected-zeros f n rows ks h =
    projected_same f n rows ks (zeros n) h (IsVector-zeros f n) (λ k d l. dot-zeros f n (get_or rows k d))

-- ---- orthogonal

clear_at : (rows : List (List ℕ)) (ks : List ℕ) → length rows ≡ length ks → Clear rows ks → (i j : ℕ) → i < j → j < length ks →
    get_or (get_or rows i []) (get_or ks j 0) 0 ≡ 0
clear_at [] ks e h i j l m = absurd (omega arith)
clear_at (v ∷ vs) [] e h i j l m = absurd (omega arith)
clear_at (v ∷ vs) (k ∷ ks) e h i zero l m = absurd (omega arith)
clear_at (v ∷ vs) (k ∷ ks) e h zero (suc j) l m = h.0 j 0 (omega arith)
clear_at (v ∷ vs) (k ∷ ks) e h (suc i) (suc j) l m = clear_at vs ks (omega arith) h.1 i j (omega arith) (omega arith)

-- row m at the leads
pub at_leads : (f : Field) (n m : ℕ) (rows : List (List ℕ)) (ks : List ℕ) → AreReduced f n rows ks → m < length ks →
    map (λ k. get_or (get_or rows m []) k 0) ks ≡ unit (length ks) m
at_leads f n m rows ks h l =
    let c = count_leads n 0 rows ks h.leads_are in
    let g : ℕ → ℕ = λ k. get_or (get_or rows m []) k 0 in
    ext_get_or 0 (map g ks) (unit (length ks) m) (length-map ks g ∙ sym (IsVector-unit f (length ks) m l).len)
    (λ i li.
    let j : i < length ks = (let e = length-map ks g in omega arith) in
    get_or-map g ks i 0 0 j ∙ elim (cases_eq i m) [
      | inl e ↦
          subst (λ (x : ℕ). get_or (get_or rows m []) (get_or ks x 0) 0 ≡ get_or (unit (length ks) m) x 0) (sym e)
          (one_at_lead n 0 rows ks h.leads_are m (omega arith) ∙ sym (get_or-unit (length ks) m l))
      | inr ne ↦
          (elim (cases_lt i m) [
            | inl s ↦ zero_at_earlier n 0 rows ks h.leads_are i m s (omega arith)
            | inr s ↦ clear_at rows ks c h.clear m i (omega arith) j
          ])
          ∙ sym (get_or-unit_other m (length ks - suc m) i ne (omega arith))
    ])

pub map_twice : (n : ℕ) (v ks : List ℕ) (f : Field) → IsVector f n v → All (λ k. k < n) ks →
    map (dot f v) (units n ks) ≡ map (λ k. get_or v k 0) ks
map_twice n v [] f hv h = refl
map_twice n v (k ∷ ks) f hv h =
    ap₂ (λ a b. a ∷ b) (dot-unit f n k v hv (All-head (λ k. k < n) k ks h)) (map_twice n v ks f hv (All-tail (λ k. k < n) k ks h))

pub leads_inside : (f : Field) (n : ℕ) (rows : List (List ℕ)) (ks : List ℕ) → AreReduced f n rows ks → All (λ k. k < n) ks
leads_inside f n rows ks h = λ i d l. (leads_above n 0 rows ks h.leads_are i d l).1

pub projected_orthogonal : (f : Field) (n : ℕ) (rows : List (List ℕ)) (ks x : List ℕ) → AreReduced f n rows ks → IsVector f n x →
    IsOrthogonal f rows (projected f n rows ks x)
projected_orthogonal f n rows ks x h hx = λ m d l.
    let c = count_leads n 0 rows ks h.leads_are in
    let v = get_or rows m [] in
    let hv : IsVector f n v = h.each m [] l in
    let cs = shares f rows x in
    let hk = leads_inside f n rows ks h in
    let hu = AreVectors-units f n ks hk in
    let i : m < length ks = omega arith in
    let hcs : IsVector f (length ks) cs = subst (λ k. IsVector f k cs) c (shares_digits f rows x) in
    let a = dot f v x in
    ap (λ (u : List ℕ). dot f u (projected f n rows ks x)) (get_or_default rows m d [] l)
    ∙ dot-vector_sum f v x (combination f n cs (units n ks)) (hx.len ∙ sym (IsVector-combination f n cs (units n ks) hu).len)
    ∙ ap (plus f a)
    (dot-combination f n v cs (units n ks) hu ∙ ap (dot f cs) (map_twice n v ks f hv hk ∙ at_leads f n m rows ks h i)
    ∙ dot-unit f (length ks) m cs hcs i ∙ get_or-map (λ u. negative f (dot f u x)) rows m [] 0 l)
    ∙ plus-negative f a
