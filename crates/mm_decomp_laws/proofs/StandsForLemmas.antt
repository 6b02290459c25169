-- A join by a built operator stands for the given columns of both children.
use Rattle.std.proofs.Common.{ℕ, ◌+◌, ◌-◌, ◌≡◌, List, [], ◌∷◌, ◌++◌, length, map, take, drop, get_or, refl, sym, ap, ap₂, subst, ◌∙◌, arith, length-append, take-append-drop, append_assoc}
use Rattle.std.proofs.lemmas.List.{length-replicate, map-append, drop_at}
use Rattle.std.proofs.lemmas.Simd.{map-map}
use Rattle.std.proofs.lemmas.List.Elements.{All-nil, All-cons, All-append, All-drop}
use Rattle.mm_field.specs.declared.Field.{Field}
use Rattle.mm_field.specs.Vectors.{zeros, vector_sum, combination, times_matrix, IsVector, AreVectors, InSpan, AreIndependent, IsWithin}
use Rattle.mm_field.proofs.VectorLemmas.{IsVector-zeros, vector_sum-zeros, zeros-vector_sum}
use Rattle.mm_field.proofs.CombinationLemmas.{first_row, other_rows, combination-append, combination-zeros, combination-times_matrix, IsVector-combination, InSpan-within, IsWithin-itself, IsWithin-within}
use Rattle.mm_field.proofs.PartLemmas.{IsVector-take, IsVector-drop, IsVector-append}
use Rattle.mm_linear.specs.Coordinates.{completed, coordinates, in_coordinates}
use Rattle.mm_decomp.specs.Meets.{extended}
use Rattle.mm_logic.specs.PresentMatrix.{left_column, right_column}
use Rattle.mm_linear.proofs.BasisLemmas.{completed_is_basis}
use Rattle.mm_linear.proofs.CoordinateLemmas.{coordinates_unique}
use Rattle.mm_linear.proofs.FirstUnits.{first_units, combination-first_units, first_units_independent, first_units_are}
use Rattle.mm_decomp_laws.proofs.ExtendLemmas.{extended_is}
use Rattle.mm_decomp_laws.proofs.IndependenceLemmas.{AreFrames, frame_independent, independent_back, in_front, in_back}
use Rattle.mm_decomp.proofs.OperatorLemmas.{coordinate_vectors, coordinates_back}
use Rattle.mm_decomp.specs.BuiltTree.{built_operator}
use Rattle.mm_logic.specs.PresentMatrix.{columns, internal}
use Rattle.mm_logic.specs.Tree.{Tree, boundary}
use Rattle.mm_logic.specs.Tree.Tree.{Join}

-- The tree's columns are the coordinates of the given columns in independent vectors that span the same: first a basis of the
-- boundary space, then one vector for each internal row.
pub record StandsFor (f : Field) (g : ℕ) (T : Tree) (basis given : List (List ℕ)) : Type 0 where
  pub inner : List (List ℕ)
  pub count : length basis ≡ boundary T
  pub inner_count : length inner ≡ internal T
  pub each : AreVectors f g basis
  pub each_inner : AreVectors f g inner
  pub given_each : AreVectors f g given
  pub independent : AreIndependent f g (basis ++ inner)
  pub within : IsWithin f g (basis ++ inner) given
  pub column_vectors : AreVectors f (boundary T + internal T) (columns f T)
  pub columns : map (times_matrix f g (basis ++ inner)) (columns f T) ≡ given

-- with the first unit vectors as third boundary a vector is its own coordinates
own_coordinates : (f : Field) (t c m : ℕ) (w : List ℕ) → IsVector f ((t + c) + m) w →
    in_coordinates f (t + c) (completed f (t + c) (first_units (t + c) t)) w ≡ w
own_coordinates f t c m w hw =
    let r = t + c in
    let g = first_units r t in
    let x = take r w in
    let hx = IsVector-take f r m w hw in
    let basis = completed_is_basis f r g (first_units_are f t c) (first_units_independent f t c) in
    ap (λ u. u ++ drop r w)
    (ap (coordinates f r (completed f r g)) (sym (combination-first_units f t c x hx)) ∙ coordinates_unique f r (completed f r g) basis x hx)
    ∙ take-append-drop r w

coordinates_are : (f : Field) (n r : ℕ) (list rows : List (List ℕ)) → length list ≡ r → AreVectors f r (map (coordinates f n list) rows)
coordinates_are f n r list rows e = subst (λ k. AreVectors f k (map (coordinates f n list) rows)) e (coordinate_vectors f n list rows)

-- a boundary vector times G, in the list, is the boundary vector in the basis
image_in_list : (f : Field) (n r : ℕ) (list rows : List (List ℕ)) (b : List ℕ) → length list ≡ r → AreVectors f n list → AreVectors f n rows → IsWithin f n rows list →
    combination f n (times_matrix f r (map (coordinates f n list) rows) b) list ≡ combination f n b rows
image_in_list f n r list rows b e hl hr w =
    sym (combination-times_matrix f n r b (map (coordinates f n list) rows) list (coordinates_are f n r list rows e) hl)
    ∙ ap (combination f n b) (coordinates_back f n list rows hl hr w)

-- one side: a column of a child, as a column of the join, combines the frame to what it combines the child's frame to
side : (f : Field) (n r t m : ℕ) (list rows inner all : List (List ℕ)) (u tail : List ℕ) → length list ≡ r → AreVectors f n list → AreVectors f n rows →
    AreVectors f n inner → AreVectors f n all → IsWithin f n rows list → length rows ≡ t → IsVector f (t + m) u →
    combination f n tail all ≡ combination f n (drop t u) inner →
    combination f n (times_matrix f r (map (coordinates f n list) rows) (take t u) ++ tail) (list ++ all) ≡ combination f n u (rows ++ inner)
side f n r t m list rows inner all u tail e hl hr hi ha w ct hu rest =
    let x = times_matrix f r (map (coordinates f n list) rows) (take t u) in
    let hx = IsVector-combination f r (take t u) (map (coordinates f n list) rows) (coordinates_are f n r list rows e) in
    combination-append f n x tail list all (hx.len ∙ sym e) ha
    ∙ ap₂ (λ a b. vector_sum f a b) (image_in_list f n r list rows (take t u) e hl hr w) rest
    ∙ sym (combination-append f n (take t u) (drop t u) rows inner ((IsVector-take f t m u hu).len ∙ sym ct) hi)
    ∙ ap (λ c. combination f n c (rows ++ inner)) (take-append-drop t u)

zeros_after : (f : Field) (n k : ℕ) (y : List ℕ) (inner other : List (List ℕ)) → length y ≡ length inner → AreVectors f n inner → AreVectors f n other →
    combination f n (y ++ zeros k) (inner ++ other) ≡ combination f n y inner
zeros_after f n k y inner other e hi ho =
    combination-append f n y (zeros k) inner other e ho
    ∙ ap (vector_sum f (combination f n y inner)) (combination-zeros f n k other ho)
    ∙ vector_sum-zeros f n (combination f n y inner) (IsVector-combination f n y inner hi)

zeros_before : (f : Field) (n k : ℕ) (y : List ℕ) (inner other : List (List ℕ)) → k ≡ length other → AreVectors f n inner → AreVectors f n other →
    combination f n (zeros k ++ y) (other ++ inner) ≡ combination f n y inner
zeros_before f n k y inner other e hi ho =
    combination-append f n (zeros k) y other inner (length-replicate k 0 ∙ e) hi
    ∙ ap (λ v. vector_sum f v (combination f n y inner)) (combination-zeros f n k other ho)
    ∙ zeros-vector_sum f n (combination f n y inner) (IsVector-combination f n y inner hi)

-- all columns of a side
pub all_columns : (f : Field) (k : ℕ) (old new : List ℕ → List ℕ) (cs : List (List ℕ)) → AreVectors f k cs →
    ((u : List ℕ) → IsVector f k u → new u ≡ old u) → map new cs ≡ map old cs
all_columns f k old new [] h e = refl
all_columns f k old new (u ∷ cs) h e = ap₂ (λ a b. a ∷ b) (e u (first_row f k u cs h)) (all_columns f k old new cs (other_rows f k u cs h) e)

own_all : (f : Field) (t c m : ℕ) (ws : List (List ℕ)) → AreVectors f ((t + c) + m) ws →
    map (in_coordinates f (t + c) (completed f (t + c) (first_units (t + c) t))) ws ≡ ws
own_all f t c m [] h = refl
own_all f t c m (w ∷ ws) h =
    ap₂ (λ a b. a ∷ b) (own_coordinates f t c m w (first_row f _ w ws h)) (own_all f t c m ws (other_rows f _ w ws h))

front_rows : (f : Field) (n : ℕ) (A B : List (List ℕ)) → AreVectors f n A → AreVectors f n B → IsWithin f n A (A ++ B)
front_rows f n A B hA hB = λ k d l. in_front f n A B hA hB (get_or A k d) (IsWithin-itself f n A hA k d l)

back_rows : (f : Field) (n : ℕ) (A B : List (List ℕ)) → AreVectors f n A → AreVectors f n B → IsWithin f n B (A ++ B)
back_rows f n A B hA hB = λ k d l. in_back f n A B hA hB (get_or B k d) (IsWithin-itself f n B hB k d l)

left_vectors : (f : Field) (t r m m2 : ℕ) (g cs : List (List ℕ)) → AreVectors f r g → AreVectors f (t + m) cs →
    AreVectors f (r + (m + m2)) (map (left_column f t r g m2) cs)
left_vectors f t r m m2 g [] hg h = All-nil (λ v. IsVector f (r + (m + m2)) v)
left_vectors f t r m m2 g (u ∷ cs) hg h =
    All-cons (λ v. IsVector f (r + (m + m2)) v) _ _
    (IsVector-append f r (m + m2) _ _ (IsVector-combination f r (take t u) g hg)
    (IsVector-append f m m2 (drop t u) (zeros m2) (IsVector-drop f t m u (first_row f (t + m) u cs h)) (IsVector-zeros f m2)))
    (left_vectors f t r m m2 g cs hg (other_rows f (t + m) u cs h))

right_vectors : (f : Field) (t r m m1 : ℕ) (g cs : List (List ℕ)) → AreVectors f r g → AreVectors f (t + m) cs →
    AreVectors f (r + (m1 + m)) (map (right_column f t r g m1) cs)
right_vectors f t r m m1 g [] hg h = All-nil (λ v. IsVector f (r + (m1 + m)) v)
right_vectors f t r m m1 g (u ∷ cs) hg h =
    All-cons (λ v. IsVector f (r + (m1 + m)) v) _ _
    (IsVector-append f r (m1 + m) _ _ (IsVector-combination f r (take t u) g hg)
    (IsVector-append f m1 m (zeros m1) (drop t u) (IsVector-zeros f m1) (IsVector-drop f t m u (first_row f (t + m) u cs h))))
    (right_vectors f t r m m1 g cs hg (other_rows f (t + m) u cs h))

pub stands_for_join : (f : Field) (g : ℕ) (L R : Tree) (s b1 b2 given1 given2 : List (List ℕ)) → StandsFor f g L b1 given1 → StandsFor f g R b2 given2 →
    AreVectors f g s → AreIndependent f g s → IsWithin f g s (b1 ++ b2) →
    ((v : List ℕ) → InSpan f g given1 v → InSpan f g given2 v → InSpan f g b1 v × InSpan f g b2 v) →
    StandsFor f g (Join (built_operator f g s b1 b2) L R) s (given1 ++ given2)
stands_for_join f g L R s b1 b2 given1 given2 hL hR hs is ws common =
    let rows = b1 ++ b2 in
    let hrows = All-append (λ v. IsVector f g v) b1 b2 hL.each hR.each in
    let x = extended_is f g s rows hs hrows is in
    let list = extended f g s rows in
    let i1 = hL.inner in
    let i2 = hR.inner in
    let ii = i1 ++ i2 in
    let hii = All-append (λ v. IsVector f g v) i1 i2 hL.each_inner hR.each_inner in
    let t = length s in
    let c = length list - length s in
    let m1 = internal L in
    let m2 = internal R in
    let lens : length list ≡ t + length x.more = ap length x.front ∙ length-append s x.more in
    let e : length list ≡ t + c = omega (arith, lens) in
    let inner = x.more ++ ii in
    let frame : s ++ inner ≡ list ++ ii = sym (append_assoc s x.more ii) ∙ ap (λ (l : List (List ℕ)). l ++ ii) (sym x.front) in
    let small = x.within rows hrows ws (IsWithin-itself f g rows hrows) in
    let frames : AreFrames f g list b1 i1 b2 i2 = record {
      each = x.each;
      each1 = hL.each;
      each2 = hR.each;
      eachi1 = hL.each_inner;
      eachi2 = hR.each_inner;
      independent = x.independent;
      independent1 = hL.independent;
      independent2 = hR.independent;
      small = small;
      common = λ v p q. common v (InSpan-within f g (b1 ++ i1) given1 v hL.given_each hL.within p) (InSpan-within f g (b2 ++ i2) given2 v hR.given_each hR.within q);
    } in
    let ind1 = independent_back f g b1 i1 hL.each hL.each_inner hL.independent in
    let ind2 = independent_back f g b2 i2 hR.each hR.each_inner hR.independent in
    let given = given1 ++ given2 in
    let hgiven = All-append (λ v. IsVector f g v) given1 given2 hL.given_each hR.given_each in
    let in1 = front_rows f g given1 given2 hL.given_each hR.given_each in
    let in2 = back_rows f g given1 given2 hL.given_each hR.given_each in
    let w1 : IsWithin f g b1 list = IsWithin-within f g b1 rows list x.each (front_rows f g b1 b2 hL.each hR.each) x.reaches in
    let w2 : IsWithin f g b2 list = IsWithin-within f g b2 rows list x.each (back_rows f g b1 b2 hL.each hR.each) x.reaches in
    let b1_in = IsWithin-within f g b1 given1 given hgiven (IsWithin-within f g b1 (b1 ++ i1) given1 hL.given_each (front_rows f g b1 i1 hL.each hL.each_inner) hL.within) in1 in
    let b2_in = IsWithin-within f g b2 given2 given hgiven (IsWithin-within f g b2 (b2 ++ i2) given2 hR.given_each (front_rows f g b2 i2 hR.each hR.each_inner) hR.within) in2 in
    let i1_in = IsWithin-within f g i1 given1 given hgiven (IsWithin-within f g i1 (b1 ++ i1) given1 hL.given_each (back_rows f g b1 i1 hL.each hL.each_inner) hL.within) in1 in
    let i2_in = IsWithin-within f g i2 given2 given hgiven (IsWithin-within f g i2 (b2 ++ i2) given2 hR.given_each (back_rows f g b2 i2 hR.each hR.each_inner) hR.within) in2 in
    let rows_in = All-append (λ v. InSpan f g given v) b1 b2 b1_in b2_in in
    let list_in = IsWithin-within f g list rows given hgiven small rows_in in
    let ii_in = All-append (λ v. InSpan f g given v) i1 i2 i1_in i2_in in
    let g1 = map (coordinates f g list) b1 in
    let g2 = map (coordinates f g list) b2 in
    let cs1 = columns f L in
    let cs2 = columns f R in
    let h1 : AreVectors f (length b1 + m1) cs1 = subst (λ k. AreVectors f (k + m1) cs1) (sym hL.count) hL.column_vectors in
    let h2 : AreVectors f (length b2 + m2) cs2 = subst (λ k. AreVectors f (k + m2) cs2) (sym hR.count) hR.column_vectors in
    let lc = left_column f (length b1) (t + c) g1 m2 in
    let rc = right_column f (length b2) (t + c) g2 m1 in
    let both = map lc cs1 ++ map rc cs2 in
    let hboth : AreVectors f ((t + c) + (m1 + m2)) both =
    All-append (λ v. IsVector f ((t + c) + (m1 + m2)) v) (map lc cs1) (map rc cs2)
    (left_vectors f (length b1) (t + c) m1 m2 g1 cs1 (coordinates_are f g (t + c) list b1 e) h1)
    (right_vectors f (length b2) (t + c) m2 m1 g2 cs2 (coordinates_are f g (t + c) list b2 e) h2) in
    let own : map (in_coordinates f (t + c) (completed f (t + c) (first_units (t + c) t))) both ≡ both =
    own_all f t c (m1 + m2) both hboth in
    let total : (t + c) + (m1 + m2) ≡ t + (c + (m1 + m2)) = omega arith in
    let lefts : map (times_matrix f g (list ++ ii)) (map lc cs1) ≡ given1 =
    map-map (times_matrix f g (list ++ ii)) lc cs1
    ∙ all_columns f (length b1 + m1) (times_matrix f g (b1 ++ i1)) (λ u. times_matrix f g (list ++ ii) (lc u)) cs1 h1
    (λ u hu. side f g (t + c) (length b1) m1 list b1 i1 ii u (drop (length b1) u ++ zeros m2) e x.each hL.each hL.each_inner hii w1 refl hu
    (zeros_after f g m2 (drop (length b1) u) i1 i2 ((IsVector-drop f (length b1) m1 u hu).len ∙ sym hL.inner_count) hL.each_inner hR.each_inner))
    ∙ hL.columns in
    let rights : map (times_matrix f g (list ++ ii)) (map rc cs2) ≡ given2 =
    map-map (times_matrix f g (list ++ ii)) rc cs2
    ∙ all_columns f (length b2 + m2) (times_matrix f g (b2 ++ i2)) (λ u. times_matrix f g (list ++ ii) (rc u)) cs2 h2
    (λ u hu. side f g (t + c) (length b2) m2 list b2 i2 ii u (zeros m1 ++ drop (length b2) u) e x.each hR.each hR.each_inner hii w2 refl hu
    (zeros_before f g m1 (drop (length b2) u) i2 i1 (sym hL.inner_count) hR.each_inner hL.each_inner))
    ∙ hR.columns in
    record {
      inner = inner;
      count = refl;
      inner_count =
          let a = length-append x.more ii in
          let b = length-append i1 i2 in
          let p = hL.inner_count in
          let q = hR.inner_count in
          omega (arith, lens, a, b, p, q);
      each = hs;
      each_inner = All-append (λ v. IsVector f g v) x.more ii (more_are f g s x.more list x.front x.each) hii;
      given_each = hgiven;
      independent = subst (λ vs. AreIndependent f g vs) (sym frame) (frame_independent f g list b1 i1 b2 i2 frames ind1 ind2);
      within = subst (λ vs. IsWithin f g vs given) (sym frame) (All-append (λ v. InSpan f g given v) list ii list_in ii_in);
      column_vectors = subst (λ us. AreVectors f (t + (c + (m1 + m2))) us) (sym own) (subst (λ k. AreVectors f k both) total hboth);
      columns =
          ap₂ (λ (vs : List (List ℕ)) (us : List (List ℕ)). map (times_matrix f g vs) us) frame own
          ∙ map-append (times_matrix f g (list ++ ii)) (map lc cs1) (map rc cs2)
          ∙ ap₂ (λ a b. a ++ b) lefts rights;
    }
  where
    more_are : (f : Field) (n : ℕ) (A B all : List (List ℕ)) → all ≡ A ++ B → AreVectors f n all → AreVectors f n B
    more_are f n A B all e h =
        subst (λ vs. AreVectors f n vs) (ap (drop (length A)) e ∙ drop_at A B (length A) refl) (All-drop (λ v. IsVector f n v) (length A) all h)
