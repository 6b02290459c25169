-- A space of F^r in rows of n digits that are zero from place r on.
use Rattle.std.proofs.Common.{ℕ, ◌+◌, ◌-◌, ◌<◌, ◌≤◌, ◌≡◌, ◌↔◌, inl, inr, Bool, List, [], ◌∷◌, ◌++◌, length, map, get_or, take, drop, replicate, refl, sym, ap, ◌∙◌, subst, arith, length-append, length-drop, take-append-drop}
use Rattle.std.proofs.lemmas.Bool.{cases_lt}
use Rattle.std.proofs.lemmas.List.{length-map, length-take-le, length-replicate, get_or-map, get_or-take, get_or-replicate, get_or-append_right, get_or_append_left, get_or-drop, map-append, ext_get_or}
use Rattle.std.proofs.lemmas.List.Elements.{All-nil, All-map, All-append, All-cons, All-drop, All-replicate, All-from_get_or}
use Rattle.mm_field.specs.declared.Field.{Field}
use Rattle.mm_field.specs.Digits.{times}
use Rattle.mm_field.specs.Vectors.{zeros, AreDigits, IsVector, AreVectors, InSpan, IsWithin, SameRowSpace}
use Rattle.mm_field.proofs.Tables.{times-zero}
use Rattle.mm_field.proofs.VectorLemmas.{IsVector-zeros}
use Rattle.mm_field.proofs.CombinationLemmas.{InSpan-zeros, InSpan-within, IsWithin-within, IsWithin-itself}
use Rattle.mm_field.proofs.PartLemmas.{IsVector-append, IsVector-take, AreVectors-map, append_parts, zeros-append}
use Rattle.mm_linear.specs.Echelons.{EndsAt}
use Rattle.mm_linear.specs.Sums.{MeetTrivially}
use Rattle.mm_linear.specs.Padded.{padded}
use Rattle.mm_linear.proofs.EchelonLemmas.{row_at, combination_entry_zero}
use Rattle.mm_linear.proofs.SubspaceLemmas.{pad, InSpan-pad, drop_of_end, IsVector-in_span}
use Rattle.mm_linear.proofs.SumLemmas.{zero_row, same_more, meet_none}
use Rattle.mm_linear.proofs.SpaceLemmas.{IsEchelon-zeros, zeros_within}
use Rattle.mm_linear.proofs.SpanLemmas.{append_left_in, append_right_in}
use Rattle.mm_linear.proofs.HeadLemmas.{IsEchelon-head, InSpan-head}
use Rattle.std.specs.Prelude.{IsTrue}
use Rattle.mm_space.specs.SpaceView.{IsKept}
use Rattle.mm_space.specs.declared.space.Space.TheInside.{Inside}
use Rattle.mm_space.specs.SpaceValue.{corner, IsSpanOf}
use Rattle.mm_space.specs.Insertion.{IsHeld, IsInserted}

pub padded_is : (n r : ℕ) (v : List ℕ) → length v ≡ r → padded n v ≡ pad (n - r) v
padded_is n r v e = ap (λ k. v ++ zeros (n - k)) e

pub ended_is_padded : (n r : ℕ) (u : List ℕ) → length u ≡ n → EndsAt n r u → u ≡ pad (n - r) (take r u)
ended_is_padded n r u e ends = sym (take-append-drop r u) ∙ ap (λ x. take r u ++ x) (drop_of_end n r u e ends)

IsVector-pad : (f : Field) (n r : ℕ) (v : List ℕ) → r ≤ n → IsVector f r v → IsVector f n (pad (n - r) v)
IsVector-pad f n r v l hv =
    let w : r + (n - r) ≡ n = omega arith in
    subst (λ k. IsVector f k (pad (n - r) v)) w (IsVector-append f r (n - r) v (zeros (n - r)) hv (IsVector-zeros f (n - r)))

pub corner_each : (f : Field) (n r : ℕ) (rows : List (List ℕ)) → IsHeld f n r rows → AreVectors f r (corner r rows)
corner_each f n r rows h = (IsEchelon-head f n r rows h.echelon h.narrow).each

-- v is in the space exactly where v with zeros after it is in the span of the rows
pub held_span : (f : Field) (n r : ℕ) (rows : List (List ℕ)) → IsHeld f n r rows → (v : List ℕ) → IsVector f r v →
    InSpan f r (corner r rows) v ↔ InSpan f n rows (pad (n - r) v)
held_span f n r rows h v hv = InSpan-head f n r rows h.echelon h.narrow v hv

-- what the rows span has zeros from place r on
pub span_ends : (f : Field) (n r : ℕ) (rows : List (List ℕ)) → IsHeld f n r rows → (v : List ℕ) → InSpan f n rows v → EndsAt n r v
span_ends f n r rows h v p j low l =
    ap (λ x. get_or x j 0) (sym p.sum)
    ∙ combination_entry_zero f n p.coefficients rows j h.echelon.each l
    (λ i li. ap (times f (get_or p.coefficients i 0)) (h.within i j (let c : length rows ≡ n = h.echelon.count in omega arith) low l)
    ∙ times-zero f (get_or p.coefficients i 0))

-- the rows and those of the space with zeros after them have one span
pub held_same : (f : Field) (n r : ℕ) (rows : List (List ℕ)) → IsHeld f n r rows →
    SameRowSpace f n (map (pad (n - r)) (corner r rows)) rows
held_same f n r rows h =
    let each = corner_each f n r rows h in
    let w : r + (n - r) ≡ n = omega arith in (
      All-map (λ v. InSpan f n rows v) (pad (n - r)) (corner r rows)
          (λ k d l. (held_span f n r rows h (get_or (corner r rows) k d) (each k d l)).0 (IsWithin-itself f r (corner r rows) each k d l)),
      (λ k d l.
          let u = get_or rows k d in
          let hu = h.echelon.each k d l in
          let inside = IsWithin-itself f n rows h.echelon.each k d l in
          let ends = span_ends f n r rows h u inside in
          let u_is = ended_is_padded n r u hu.len ends in
          let ht = IsVector-take f r (n - r) u (subst (λ m. IsVector f m u) (sym w) hu) in
          let narrow = (held_span f n r rows h (take r u) ht).1 (subst (λ x. InSpan f n rows x) u_is inside) in
          subst (λ x. InSpan f n (map (pad (n - r)) (corner r rows)) x) (sym u_is)
          (subst (λ m. InSpan f m (map (pad (n - r)) (corner r rows)) (pad (n - r) (take r u))) w
          ((InSpan-pad f r (n - r) (corner r rows) (take r u) each ht).0 narrow))),
    )

-- vectors whose padded forms span the rows span the space
pub held_spans : (f : Field) (n r : ℕ) (vectors rows : List (List ℕ)) → IsHeld f n r rows → AreVectors f r vectors →
    SameRowSpace f n (map (pad (n - r)) vectors) rows → SameRowSpace f r vectors (corner r rows)
held_spans f n r vectors rows h hv same =
    let each = corner_each f n r rows h in
    let w : r + (n - r) ≡ n = omega arith in
    let hp = AreVectors-map f r n (pad (n - r)) (λ u hu. IsVector-pad f n r u h.narrow hu) vectors hv in (
      (λ k d l.
          let v = get_or vectors k d in
          let lp : k < length (map (pad (n - r)) vectors) = omega (arith, length-map vectors (pad (n - r))) in
          (held_span f n r rows h v (hv k d l)).1
          (subst (λ x. InSpan f n rows x) (get_or-map (pad (n - r)) vectors k d (pad (n - r) d) l) (same.0 k (pad (n - r) d) lp))),
      (λ k d l.
          let v = get_or (corner r rows) k d in
          let wide = (held_span f n r rows h v (each k d l)).0 (IsWithin-itself f r (corner r rows) each k d l) in
          (InSpan-pad f r (n - r) vectors v hv (each k d l)).1
          (subst (λ m. InSpan f m (map (pad (n - r)) vectors) (pad (n - r) v)) (sym w)
          (InSpan-within f n rows (map (pad (n - r)) vectors) (pad (n - r) v) hp same.1 wide))),
    )

-- the rows from their corner: zeros after each, and zero rows
pub held_back : (f : Field) (n r : ℕ) (rows : List (List ℕ)) → IsHeld f n r rows →
    map (padded n) (corner r rows) ++ replicate (n - length (corner r rows)) (zeros n) ≡ rows
held_back f n r rows h =
    let lr : length rows ≡ n = h.echelon.count in
    let narrow = h.narrow in
    let lt : length (take r rows) ≡ r = length-take-le r rows (omega arith) in
    let lc : length (corner r rows) ≡ r = length-map (take r rows) (take r) ∙ lt in
    let front = map (padded n) (corner r rows) in
    let lf : length front ≡ r = length-map (corner r rows) (padded n) ∙ lc in
    let tail = replicate (n - length (corner r rows)) (zeros n) in
    let ll : length tail ≡ n - length (corner r rows) = length-replicate (n - length (corner r rows)) (zeros n) in
    ext_get_or [] (front ++ tail) rows (length-append front tail ∙ omega arith)
    (λ k l.
    let lk : k < n = omega (arith, length-append front tail) in
    elim (cases_lt k r) [
      | inl inside ↦
          let u = get_or rows k [] in
          let hu = row_at f n rows h.echelon k lk in
          let lu : length u ≡ n = hu.len in
          get_or_append_left front tail [] k (omega arith)
          ∙ get_or-map (padded n) (corner r rows) k [] [] (omega arith)
          ∙ ap (padded n) (get_or-map (take r) (take r rows) k [] [] (omega arith) ∙ ap (take r) (get_or-take r rows k [] inside))
          ∙ padded_is n r (take r u) (length-take-le r u (omega arith))
          ∙ sym (ended_is_padded n r u lu (λ j low m. h.within k j lk low m))
      | inr outside ↦
          get_or-append_right front tail r k [] lf outside
          ∙ get_or-replicate (n - length (corner r rows)) (k - r) (zeros n) [] (omega arith)
          ∙ sym (zero_row f n rows h.echelon k lk (h.within k k lk outside lk))
    ])

-- the spaces meet in zero alone exactly where the rows do
pub held_meet : (f : Field) (n r : ℕ) (rows sows : List (List ℕ)) → IsHeld f n r rows → IsHeld f n r sows →
    MeetTrivially n (InSpan f n rows) (InSpan f n sows) ↔ MeetTrivially r (InSpan f r (corner r rows)) (InSpan f r (corner r sows))
held_meet f n r rows sows h k =
    let w : r + (n - r) ≡ n = (let a = h.narrow in omega arith) in
    let wide : zeros r ++ zeros (n - r) ≡ zeros n = zeros-append r (n - r) ∙ ap zeros w in (
      (λ m z p q.
          let hz = IsVector-in_span f r (corner r rows) z (corner_each f n r rows h) p in
          let none = m (pad (n - r) z) ((held_span f n r rows h z hz).0 p) ((held_span f n r sows k z hz).0 q) in
          (append_parts z (zeros r) (zeros (n - r)) (zeros (n - r)) (hz.len ∙ sym (length-replicate r 0)) (none ∙ sym wide)).0),
      (λ m z p q.
          let hz = IsVector-in_span f n rows z h.echelon.each p in
          let z_is = ended_is_padded n r z hz.len (span_ends f n r rows h z p) in
          let ht = IsVector-take f r (n - r) z (subst (λ x. IsVector f x z) (sym w) hz) in
          let none = m (take r z)
          ((held_span f n r rows h (take r z) ht).1 (subst (λ x. InSpan f n rows x) z_is p))
          ((held_span f n r sows k (take r z) ht).1 (subst (λ x. InSpan f n sows x) z_is q)) in
          z_is ∙ ap (pad (n - r)) none ∙ wide),
    )

-- ---- spans

-- the kept rows after an insertion
pub inserted_held : (f : Field) (n r : ℕ) (v : List ℕ) (rows new : List (List ℕ)) → r ≤ n → IsInserted f n r v rows new → IsHeld f n r new
inserted_held f n r v rows new l i = record { narrow = l; echelon = i.echelon; within = i.within }

-- what inserting a vector of F^r owes
pub span_of_inserted : (f : Field) (n r : ℕ) (v : List ℕ) (rows new : List (List ℕ)) → IsHeld f n r rows → IsVector f r v →
    IsInserted f n r (padded n v) rows new → IsSpanOf f r (v ∷ corner r rows) (record { f = f; r = r; rows = corner r new })
span_of_inserted f n r v rows new h hv i =
    let k = inserted_held f n r (padded n v) rows new h.narrow i in
    let each = corner_each f n r rows h in
    let hp = AreVectors-map f r n (pad (n - r)) (λ u hu. IsVector-pad f n r u h.narrow hu) (corner r rows) each in
    record {
      field = refl;
      length = refl;
      each = corner_each f n r new k;
      span = held_spans f n r (v ∷ corner r rows) new k (All-cons (λ u. IsVector f r u) v (corner r rows) hv each)
          (same_more f n (pad (n - r) v) (map (pad (n - r)) (corner r rows)) rows new (IsVector-pad f n r v h.narrow hv) hp
          h.echelon.each i.echelon.each (held_same f n r rows h)
          (subst (λ u. SameRowSpace f n (u ∷ rows) new) (padded_is n r v hv.len) i.span));
    }

pub zero_in_none : (f : Field) (n : ℕ) → InSpan f n [] (zeros n)
zero_in_none f n = InSpan-zeros f n [] (All-nil (λ v. IsVector f n v))

-- the zero space
pub zero_held : (f : Field) (n r : ℕ) → r ≤ n → IsHeld f n r (replicate n (zeros n))
zero_held f n r l = record { narrow = l; echelon = IsEchelon-zeros f n; within = zeros_within n r }

pub span_of_zero : (f : Field) (n r : ℕ) → r ≤ n → IsSpanOf f r [] (record { f = f; r = r; rows = corner r (replicate n (zeros n)) })
span_of_zero f n r l =
    let h = zero_held f n r l in
    record {
      field = refl;
      length = refl;
      each = corner_each f n r (replicate n (zeros n)) h;
      span = held_spans f n r [] (replicate n (zeros n)) h (All-nil (λ v. IsVector f r v)) (
        All-nil (λ v. InSpan f n (replicate n (zeros n)) v),
        All-replicate (λ v. InSpan f n [] v) n (zeros n) (zero_in_none f n),
      );
    }

-- the rows from r on add nothing
pub late_rows_none : (f : Field) (n r : ℕ) (rows : List (List ℕ)) → IsHeld f n r rows → IsWithin f n (drop r rows) []
late_rows_none f n r rows h =
    All-from_get_or (λ v. InSpan f n [] v) (drop r rows) []
    (λ k l.
    let c : length rows ≡ n = h.echelon.count in
    let lk : r + k < n = omega (arith, length-drop r rows) in
    subst (λ v. InSpan f n [] v)
    (sym (get_or-drop r rows k [] ∙ zero_row f n rows h.echelon (r + k) lk (h.within (r + k) (r + k) lk (omega arith) lk)))
    (zero_in_none f n))

none_within : (f : Field) (n : ℕ) (rows : List (List ℕ)) → IsWithin f n [] rows
none_within f n rows = All-nil (λ v. InSpan f n rows v)

pub late_start : (f : Field) (n r : ℕ) (A B : List (List ℕ)) → AreVectors f n A → IsHeld f n r B → SameRowSpace f n (drop r B ++ A) A
late_start f n r A B ha h =
    let hb = All-drop (λ u. IsVector f n u) r B h.echelon.each in (
      All-append (λ v. InSpan f n A v) (drop r B) A
          (IsWithin-within f n (drop r B) [] A ha (late_rows_none f n r B h) (none_within f n A))
          (IsWithin-itself f n A ha),
      (λ k d l. append_right_in f n (drop r B) A (get_or A k d) hb ha (IsWithin-itself f n A ha k d l)),
    )

pub late_meet : (f : Field) (n r : ℕ) (A B : List (List ℕ)) → IsHeld f n r B → MeetTrivially n (InSpan f n A) (InSpan f n (drop r B))
late_meet f n r A B h z p q =
    meet_none f n A z p (InSpan-within f n (drop r B) [] z (All-nil (λ v. IsVector f n v)) (late_rows_none f n r B h) q)

-- the order of two parts does not matter, nor which rows span each
pub same_append : (f : Field) (n : ℕ) (A B C D E : List (List ℕ)) → AreVectors f n C → AreVectors f n D → AreVectors f n A → AreVectors f n B →
    AreVectors f n E → SameRowSpace f n A C → SameRowSpace f n B D → SameRowSpace f n (D ++ C) E → SameRowSpace f n (A ++ B) E
same_append f n A B C D E hc hd ha hb he s t u =
    let hdc = All-append (λ v. IsVector f n v) D C hd hc in
    let hab = All-append (λ v. IsVector f n v) A B ha hb in
    let ac = IsWithin-within f n A C (D ++ C) hdc s.0 (λ k d l. append_right_in f n D C (get_or C k d) hd hc (IsWithin-itself f n C hc k d l)) in
    let bd = IsWithin-within f n B D (D ++ C) hdc t.0 (λ k d l. append_left_in f n D C (get_or D k d) hd hc (IsWithin-itself f n D hd k d l)) in
    let da = IsWithin-within f n D B (A ++ B) hab t.1 (λ k d l. append_right_in f n A B (get_or B k d) ha hb (IsWithin-itself f n B hb k d l)) in
    let ca = IsWithin-within f n C A (A ++ B) hab s.1 (λ k d l. append_left_in f n A B (get_or A k d) ha hb (IsWithin-itself f n A ha k d l)) in (
      IsWithin-within f n (A ++ B) (D ++ C) E he (All-append (λ v. InSpan f n (D ++ C) v) A B ac bd) u.0,
      IsWithin-within f n E (D ++ C) (A ++ B) hab u.1 (All-append (λ v. InSpan f n (A ++ B) v) D C da ca),
    )

-- what adding the rows of another space owes
pub span_of_both : (f : Field) (n r : ℕ) (rows more new : List (List ℕ)) → IsHeld f n r rows → IsHeld f n r more → IsHeld f n r new →
    SameRowSpace f n (more ++ rows) new →
    IsSpanOf f r (corner r rows ++ corner r more) (record { f = f; r = r; rows = corner r new })
span_of_both f n r rows more new h k m same =
    let each_h = corner_each f n r rows h in
    let each_k = corner_each f n r more k in
    let P = map (pad (n - r)) (corner r rows) in
    let Q = map (pad (n - r)) (corner r more) in
    let hp = AreVectors-map f r n (pad (n - r)) (λ u hu. IsVector-pad f n r u h.narrow hu) (corner r rows) each_h in
    let hq = AreVectors-map f r n (pad (n - r)) (λ u hu. IsVector-pad f n r u h.narrow hu) (corner r more) each_k in
    record {
      field = refl;
      length = refl;
      each = corner_each f n r new m;
      span = held_spans f n r (corner r rows ++ corner r more) new m
          (All-append (λ u. IsVector f r u) (corner r rows) (corner r more) each_h each_k)
          (subst (λ X. SameRowSpace f n X new) (sym (map-append (pad (n - r)) (corner r rows) (corner r more)))
          (same_append f n P Q rows more new h.echelon.each k.echelon.each hp hq m.echelon.each
          (held_same f n r rows h) (held_same f n r more k) same));
    }

-- ---- what the fields of a `Space` owe

pub kept_of : (f : Field) (r : ℕ) (rows : List (List ℕ)) → r ≤ 18 → IsHeld f 24 r rows → IsKept (record { field = f; r = r; rows = rows })
kept_of f r rows l h = record { narrow = l; echelon = h.echelon; within = h.within; back = held_back f 24 r rows h }

pub held_of : (s : Inside) → IsKept s → IsHeld s.field 24 s.r s.rows
held_of s k = record { narrow = (let l = k.narrow in omega arith); echelon = k.echelon; within = k.within }

-- whether a vector of F^r is in the rows' span
pub holds_of : (f : Field) (r : ℕ) (rows : List (List ℕ)) (v : List ℕ) (b : Bool) → IsHeld f 24 r rows → length v ≡ r → AreDigits f v →
    IsTrue b ↔ InSpan f 24 rows (padded 24 v) → IsTrue b ↔ InSpan f r (corner r rows) v
holds_of f r rows v b h e d both =
    let hv : IsVector f r v = record { len = e; digits = d } in
    let same = held_span f 24 r rows h v hv in
    let wide = padded_is 24 r v e in (
      (λ t. same.1 (subst (λ x. InSpan f 24 rows x) wide (both.0 t))),
      (λ p. both.1 (subst (λ x. InSpan f 24 rows x) (sym wide) (same.0 p))),
    )

-- another space of the same field and length
pub held_as : (s o : Inside) → o.field ≡ s.field → o.r ≡ s.r → IsKept o → IsHeld s.field 24 s.r o.rows
held_as s o ef er k =
    subst (λ f. IsHeld f 24 s.r o.rows) ef (subst (λ r. IsHeld o.field 24 r o.rows) er (held_of o k))

-- whether the spaces meet in zero alone
pub meet_of : (f : Field) (r : ℕ) (rows sows : List (List ℕ)) (b : Bool) → IsHeld f 24 r rows → IsHeld f 24 r sows →
    IsTrue b ↔ MeetTrivially 24 (InSpan f 24 rows) (InSpan f 24 sows) → IsTrue b ↔ MeetTrivially r (InSpan f r (corner r rows)) (InSpan f r (corner r sows))
meet_of f r rows sows b h k both =
    let same = held_meet f 24 r rows sows h k in
    ((λ t. same.0 (both.0 t)), (λ m. both.1 (same.1 m)))
