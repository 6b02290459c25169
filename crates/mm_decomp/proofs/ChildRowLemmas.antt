-- A row of the matrix of a join is at the elements of each child a combination of the rows of the child's matrix.
use Rattle.std.proofs.Common.{ℕ, ◌+◌, ◌≡◌, List, [], ◌∷◌, ◌++◌, length, map, take, drop, refl, sym, ap, ap₂, ◌∙◌, subst, arith, length-append, take-append-drop}
use Rattle.std.specs.List.{All}
use Rattle.std.proofs.lemmas.List.{length-map, length-replicate, map-append, take_at, drop_at}
use Rattle.std.proofs.lemmas.List.Elements.{All-head, All-tail}
use Rattle.std.proofs.lemmas.Simd.{map-map}
use Rattle.mm_field.specs.declared.Field.{Field}
use Rattle.mm_field.specs.Digits.{order, plus, times}
use Rattle.mm_field.specs.Vectors.{zeros, times_matrix, IsVector, AreVectors}
use Rattle.mm_field.proofs.Tables.{plus_assoc, plus_comm, plus_zero_digit}
use Rattle.mm_field.proofs.CombinationLemmas.{IsVector-combination}
use Rattle.mm_field.proofs.PartLemmas.{AreVectors-map, IsVector-append, IsVector-drop, IsVector-take, append_parts}
use Rattle.mm_linear.specs.Coordinates.{completed, coordinates, in_coordinates, IsBasis}
use Rattle.mm_linear.proofs.BasisLemmas.{completed_is_basis}
use Rattle.mm_linear.proofs.CoordinateLemmas.{IsVector-coordinates, coordinates_times_matrix}
use Rattle.mm_logic.specs.Operator.{Op, row_length}
use Rattle.mm_logic.specs.PresentMatrix.{columns, internal, left_column, right_column}
use Rattle.mm_logic.specs.Tree.{Tree, boundary, size, IsValid}
use Rattle.mm_logic.specs.Tree.Tree.{Join}
use Rattle.mm_logic_laws.proofs.MatrixLemmas.{columns_are, length-columns, size_of_join}
use Rattle.mm_matrix.specs.Orthogonal.{dot}
use Rattle.mm_matrix.proofs.DotLemmas.{dot_below, dot-comm, dot-combination, dot-zeros}
use Rattle.mm_decomp.specs.Forms.{IsProduct}
use Rattle.mm_decomp.proofs.CutLemmas.{dots_below}

pub dot-append : (f : Field) (u v x y : List ℕ) → length u ≡ length x → dot f (u ++ v) (x ++ y) ≡ plus f (dot f u x) (dot f v y)
dot-append f [] v [] y e = sym (plus_comm f 0 (dot f v y) ∙ plus_zero_digit f (dot f v y) (dot_below f v y))
dot-append f [] v (b ∷ x) y e = absurd (omega (arith, e))
dot-append f (a ∷ u) v [] y e = absurd (omega (arith, e))
dot-append f (a ∷ u) v (b ∷ x) y e =
    ap (plus f (times f a b)) (dot-append f u v x y (omega (arith, e))) ∙ sym (plus_assoc f (times f a b) (dot f u x) (dot f v y))

-- functions that agree on vectors agree on lists of vectors
pub map_vectors : (f : Field) (n : ℕ) (g h : List ℕ → ℕ) (us : List (List ℕ)) → AreVectors f n us → ((u : List ℕ) → IsVector f n u → g u ≡ h u) → map g us ≡ map h us
map_vectors f n g h [] hu e = refl
map_vectors f n g h (u ∷ us) hu e =
    ap₂ (λ a b. a ∷ b) (e u (All-head (λ v. IsVector f n v) u us hu)) (map_vectors f n g h us (All-tail (λ v. IsVector f n v) u us hu) e)

-- the product with a child's column, from that of its boundary digits times a matrix and that of its internal digits
dot_moved : (f : Field) (r t m : ℕ) (G : List (List ℕ)) (p q u : List ℕ) → AreVectors f r G → length G ≡ t → IsVector f (t + m) u →
    plus f (dot f p (times_matrix f r G (take t u))) (dot f q (drop t u)) ≡ dot f (map (dot f p) G ++ q) u
dot_moved f r t m G p q u hG e hu =
    ap (λ d. plus f d (dot f q (drop t u))) (dot-combination f r p (take t u) G hG ∙ dot-comm f (take t u) (map (dot f p) G))
    ∙ sym (dot-append f (map (dot f p) G) q (take t u) (drop t u) (length-map G (dot f p) ∙ e ∙ sym (IsVector-take f t m u hu).len))
    ∙ ap (dot f (map (dot f p) G ++ q)) (take-append-drop t u)

-- a column of a child, before and after its first digits are exchanged for their coordinates
column_moved : (f : Field) (r : ℕ) (basis g : List (List ℕ)) (b rest : List ℕ) → IsBasis f r basis → AreVectors f r g →
    in_coordinates f r basis (times_matrix f r g b ++ rest) ≡ times_matrix f r (map (coordinates f r basis) g) b ++ rest
column_moved f r basis g b rest hb hg =
    let x = times_matrix f r g b in
    let lx = (IsVector-combination f r b g hg).len in
    ap₂ (λ u v. coordinates f r basis u ++ v) (take_at x rest r lx) (drop_at x rest r lx)
    ∙ ap (λ u. u ++ rest) (coordinates_times_matrix f r basis g b hb hg)

-- a vector of the digits of a join, by those of its space and those of each child's internal digits
record Parts (f : Field) (r m1 m2 : ℕ) (a : List ℕ) : Type 0 where
  p : List ℕ
  q : List ℕ
  s : List ℕ
  first : IsVector f r p
  second : IsVector f m1 q
  third : IsVector f m2 s
  whole : a ≡ p ++ (q ++ s)

parts_of : (f : Field) (r m1 m2 : ℕ) (a : List ℕ) → IsVector f (r + (m1 + m2)) a → Parts f r m1 m2 a
parts_of f r m1 m2 a h =
    let rest = drop r a in
    let hr = IsVector-drop f r (m1 + m2) a h in
    record {
      p = take r a;
      q = take m1 rest;
      s = drop m1 rest;
      first = IsVector-take f r (m1 + m2) a h;
      second = IsVector-take f m1 m2 rest hr;
      third = IsVector-drop f m1 m2 rest hr;
      whole = sym (take-append-drop r a) ∙ ap (λ v. take r a ++ v) (sym (take-append-drop m1 rest));
    }

module _ (f : Field) (r t m m1 m2 : ℕ) (basis g : List (List ℕ)) (hb : IsBasis f r basis) (hg : AreVectors f r g) (e : length g ≡ t)
    (a : List ℕ) (w : Parts f r m1 m2 a) where
  abbrev G : List (List ℕ)
  G = map (coordinates f r basis) g

  hG : AreVectors f r G
  hG = AreVectors-map f r r (coordinates f r basis) (λ x hx. subst (λ n. IsVector f n (coordinates f r basis x)) hb.count (IsVector-coordinates f r basis x)) g hg

  lG : length G ≡ t
  lG = length-map g (coordinates f r basis) ∙ e

  -- the product of a with a column of the join, by the product with the digits after the first r
  whole_dot : (b x y : List ℕ) → length x ≡ m1 → dot f a (in_coordinates f r basis (times_matrix f r g b ++ (x ++ y))) ≡
      plus f (dot f w.p (times_matrix f r G b)) (plus f (dot f w.q x) (dot f w.s y))
  whole_dot b x y lx =
      ap₂ (λ u v. dot f u v) w.whole (column_moved f r basis g b (x ++ y) hb hg)
      ∙ dot-append f w.p (w.q ++ w.s) (times_matrix f r G b) (x ++ y) (w.first.len ∙ sym (IsVector-combination f r b G hG).len)
      ∙ ap (plus f (dot f w.p (times_matrix f r G b))) (dot-append f w.q w.s x y (w.second.len ∙ sym lx))

  abbrev functional : List ℕ → List ℕ
  functional q = map (dot f w.p) G ++ q

  functional_is : (q : List ℕ) → IsVector f m q → IsVector f (t + m) (functional q)
  functional_is q hq = IsVector-append f t m (map (dot f w.p) G) q (record { len = length-map G (dot f w.p) ∙ lG; digits = dots_below f w.p G }) hq

left_dot : (f : Field) (r t m1 m2 : ℕ) (basis g : List (List ℕ)) (hb : IsBasis f r basis) (hg : AreVectors f r g) (e : length g ≡ t) (a : List ℕ)
    (w : Parts f r m1 m2 a) (u : List ℕ) → IsVector f (t + m1) u →
    dot f a (in_coordinates f r basis (left_column f t r g m2 u)) ≡ dot f (map (dot f w.p) (map (coordinates f r basis) g) ++ w.q) u
left_dot f r t m1 m2 basis g hb hg e a w u hu =
    let G = map (coordinates f r basis) g in
    let none : plus f (dot f w.q (drop t u)) (dot f w.s (zeros m2)) ≡ dot f w.q (drop t u) =
    ap (plus f (dot f w.q (drop t u))) (dot-zeros f m2 w.s) ∙ plus_zero_digit f (dot f w.q (drop t u)) (dot_below f w.q (drop t u)) in
    whole_dot f r t m1 m1 m2 basis g hb hg e a w (take t u) (drop t u) (zeros m2) (IsVector-drop f t m1 u hu).len
    ∙ ap (plus f (dot f w.p (times_matrix f r G (take t u)))) none
    ∙ dot_moved f r t m1 G w.p w.q u (hG f r t m1 m1 m2 basis g hb hg e a w) (lG f r t m1 m1 m2 basis g hb hg e a w) hu

right_dot : (f : Field) (r t m1 m2 : ℕ) (basis g : List (List ℕ)) (hb : IsBasis f r basis) (hg : AreVectors f r g) (e : length g ≡ t) (a : List ℕ)
    (w : Parts f r m1 m2 a) (u : List ℕ) → IsVector f (t + m2) u →
    dot f a (in_coordinates f r basis (right_column f t r g m1 u)) ≡ dot f (map (dot f w.p) (map (coordinates f r basis) g) ++ w.s) u
right_dot f r t m1 m2 basis g hb hg e a w u hu =
    let G = map (coordinates f r basis) g in
    let none : plus f (dot f w.q (zeros m1)) (dot f w.s (drop t u)) ≡ dot f w.s (drop t u) =
    ap (λ d. plus f d (dot f w.s (drop t u))) (dot-zeros f m1 w.q)
    ∙ plus_comm f 0 (dot f w.s (drop t u)) ∙ plus_zero_digit f (dot f w.s (drop t u)) (dot_below f w.s (drop t u)) in
    whole_dot f r t m2 m1 m2 basis g hb hg e a w (take t u) (zeros m1) (drop t u) (length-replicate m1 0)
    ∙ ap (plus f (dot f w.p (times_matrix f r G (take t u)))) none
    ∙ dot_moved f r t m2 G w.p w.s u (hG f r t m2 m1 m2 basis g hb hg e a w) (lG f r t m2 m1 m2 basis g hb hg e a w) hu

-- ---- rows

-- x is a combination of the rows of the tree's matrix
abbrev pub IsRow : Field → Tree → List ℕ → Type 0
IsRow f T x = IsProduct f (boundary T + internal T) (columns f T) x

pub rows_of_children : (f : Field) (op : Op) (l r : Tree) (x y : List ℕ) → IsValid f (Join op l r) → length x ≡ size l → IsRow f (Join op l r) (x ++ y) →
    IsRow f l x × IsRow f r y
rows_of_children f op l r x y ok lx p =
    let rr = row_length op in
    let m1 = internal l in
    let m2 = internal r in
    let basis = completed f rr op.g3 in
    let hb = completed_is_basis f rr op.g3 ok.0.third.rows ok.0.third.independent in
    let w = parts_of f rr m1 m2 p.a (subst (λ n. IsVector f n p.a) (sym (size_of_join op m1 m2)) p.vector) in
    let ic = in_coordinates f rr basis in
    let lc = left_column f op.t1 rr op.g1 m2 in
    let rc = right_column f op.t2 rr op.g2 m1 in
    let cl = columns f l in
    let cr = columns f r in
    let hl : AreVectors f (op.t1 + m1) cl = subst (λ t. AreVectors f (t + m1) cl) ok.1 (columns_are f l ok.3) in
    let hr : AreVectors f (op.t2 + m2) cr = subst (λ t. AreVectors f (t + m2) cr) ok.2 (columns_are f r ok.4) in
    let al = map (dot f w.p) (map (coordinates f rr basis) op.g1) ++ w.q in
    let ar = map (dot f w.p) (map (coordinates f rr basis) op.g2) ++ w.s in
    let D = dot f p.a in
    let lefts : map D (map ic (map lc cl)) ≡ map (dot f al) cl =
    map-map D ic (map lc cl) ∙ map-map (λ u. D (ic u)) lc cl
    ∙ map_vectors f (op.t1 + m1) (λ u. D (ic (lc u))) (dot f al) cl hl
    (λ u hu. left_dot f rr op.t1 m1 m2 basis op.g1 hb ok.0.first.rows ok.0.first.count p.a w u hu) in
    let rights : map D (map ic (map rc cr)) ≡ map (dot f ar) cr =
    map-map D ic (map rc cr) ∙ map-map (λ u. D (ic u)) rc cr
    ∙ map_vectors f (op.t2 + m2) (λ u. D (ic (rc u))) (dot f ar) cr hr
    (λ u hu. right_dot f rr op.t2 m1 m2 basis op.g2 hb ok.0.second.rows ok.0.second.count p.a w u hu) in
    let both : map (dot f al) cl ++ map (dot f ar) cr ≡ x ++ y =
    sym (ap (map D) (map-append ic (map lc cl) (map rc cr)) ∙ map-append D (map ic (map lc cl)) (map ic (map rc cr)) ∙ ap₂ (λ a b. a ++ b) lefts rights)
    ∙ p.products in
    let apart = append_parts (map (dot f al) cl) x (map (dot f ar) cr) y (length-map cl (dot f al) ∙ length-columns f l ∙ sym lx) both in (
      record {
        a = al;
        vector = subst (λ t. IsVector f (t + m1) al) (sym ok.1) (functional_is f rr op.t1 m1 m1 m2 basis op.g1 hb ok.0.first.rows ok.0.first.count p.a w w.q w.second);
        products = apart.0;
      },
      record {
        a = ar;
        vector = subst (λ t. IsVector f (t + m2) ar) (sym ok.2) (functional_is f rr op.t2 m2 m1 m2 basis op.g2 hb ok.0.second.rows ok.0.second.count p.a w w.s w.third);
        products = apart.1;
      },
    )
