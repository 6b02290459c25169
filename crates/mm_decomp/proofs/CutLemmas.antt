-- The common vectors of two spans by the dependencies of all columns.
use Rattle.std.proofs.Common.{ℕ, ◌+◌, ◌<◌, ◌≡◌, ◌↔◌, List, [], ◌∷◌, ◌++◌, length, map, take, drop, refl, sym, ap, ap₂, subst, ◌∙◌, arith, length-append, take-append-drop}
use Rattle.std.proofs.lemmas.List.{length-map, map-append}
use Rattle.mm_field.specs.declared.Field.{Field}
use Rattle.mm_field.specs.Digits.{negative}
use Rattle.mm_field.specs.Vectors.{zeros, vector_sum, multiple, combination, IsVector, AreVectors, InSpan}
use Rattle.mm_field.proofs.VectorLemmas.{vector_sum_comm, vector_sum_assoc, vector_sum-zeros, zeros-vector_sum, opposite-vector_sum, IsVector-multiple}
use Rattle.mm_field.proofs.CombinationLemmas.{combination-append, combination-multiple, IsVector-combination, InSpan-multiple}
use Rattle.mm_field.proofs.PartLemmas.{IsVector-append, IsVector-take, IsVector-drop, append_parts}
use Rattle.mm_matrix.specs.Orthogonal.{dot}
use Rattle.mm_decomp.specs.Forms.{gathered}
use Rattle.mm_matrix.proofs.DotLemmas.{dot_below}
use Rattle.std.proofs.lemmas.List.Elements.{All-nil, All-cons}
use Rattle.mm_field.specs.Digits.{order}
use Rattle.mm_field.specs.Vectors.{AreDigits}

-- coefficients of columns below and of columns outside that are the products with one vector
pub record Solution (f : Field) (k : ℕ) (hs ho : List (List ℕ)) (x o : List ℕ) : Type 0 where
  pub a : List ℕ
  pub vector : IsVector f k a
  pub below : map (dot f a) hs ≡ x
  pub outside : map (dot f a) ho ≡ o

-- What lies below and what lies outside share their dependencies, which are the products with the vectors of k digits.
pub record IsCut (f : Field) (k g : ℕ) (hs ms ho mo : List (List ℕ)) : Type 0 where
  pub count : length hs ≡ length ms
  pub count_outside : length ho ≡ length mo
  pub balanced : (a : List ℕ) → IsVector f k a → vector_sum f (gathered f g hs ms a) (gathered f g ho mo a) ≡ zeros g
  pub solved :
      (x o : List ℕ) → IsVector f (length ms) x → IsVector f (length mo) o
      → vector_sum f (combination f g x ms) (combination f g o mo) ≡ zeros g → Solution f k hs ho x o

-- vectors whose sum is zero are multiples of each other by -1
pub opposite : (f : Field) (n : ℕ) (u v : List ℕ) → IsVector f n u → IsVector f n v → vector_sum f u v ≡ zeros n → multiple f (negative f 1) v ≡ u
opposite f n u v hu hv e =
    let w = multiple f (negative f 1) v in
    let hw = IsVector-multiple f n (negative f 1) v hv.len in
    sym (zeros-vector_sum f n w hw)
    ∙ ap (λ x. vector_sum f x w) (sym e)
    ∙ vector_sum_assoc f u v w
    ∙ ap (vector_sum f u) (opposite-vector_sum f v ∙ ap zeros hv.len)
    ∙ vector_sum-zeros f n u hu

pub dots_below : (f : Field) (a : List ℕ) (us : List (List ℕ)) → AreDigits f (map (dot f a) us)
dots_below f a [] = All-nil (λ d. d < order f)
dots_below f a (u ∷ us) = All-cons (λ d. d < order f) _ _ (dot_below f a u) (dots_below f a us)

-- the form of a join is the sum of those of its children
pub gathered-append : (f : Field) (g : ℕ) (h1 h2 m1 m2 : List (List ℕ)) (a : List ℕ) → length h1 ≡ length m1 → AreVectors f g m2 →
    gathered f g (h1 ++ h2) (m1 ++ m2) a ≡ vector_sum f (gathered f g h1 m1 a) (gathered f g h2 m2 a)
gathered-append f g h1 h2 m1 m2 a e hm =
    ap (λ (cs : List ℕ). combination f g cs (m1 ++ m2)) (map-append (dot f a) h1 h2)
    ∙ combination-append f g (map (dot f a) h1) (map (dot f a) h2) m1 m2 (length-map h1 (dot f a) ∙ e) hm

-- the cut at the left child: what lies outside it is what lies outside the join, and the right child
pub cut_left : (f : Field) (k g : ℕ) (hl ml hr mr ho mo : List (List ℕ)) → AreVectors f g ml → AreVectors f g mr → AreVectors f g mo →
    length hl ≡ length ml → length hr ≡ length mr → IsCut f k g (hl ++ hr) (ml ++ mr) ho mo → IsCut f k g hl ml (ho ++ hr) (mo ++ mr)
cut_left f k g hl ml hr mr ho mo al ar ao el er cut = record {
  count = el;
  count_outside =
      let a = length-append ho hr in
      let b = length-append mo mr in
      let c = cut.count_outside in
      omega (arith, a, b, c, er);
  balanced = λ a ha.
      let G = λ (hs ms : List (List ℕ)). gathered f g hs ms a in
      ap (vector_sum f (G hl ml)) (gathered-append f g ho hr mo mr a cut.count_outside ar ∙ vector_sum_comm f (G ho mo) (G hr mr))
      ∙ sym (vector_sum_assoc f (G hl ml) (G hr mr) (G ho mo))
      ∙ ap (λ u. vector_sum f u (G ho mo)) (sym (gathered-append f g hl hr ml mr a el ar))
      ∙ cut.balanced a ha;
  solved = λ x o hx ho' z.
      let no = length mo in
      let ho2 : IsVector f (no + length mr) o = subst (λ n. IsVector f n o) (length-append mo mr) ho' in
      let o1 = take no o in
      let o2 = drop no o in
      let h1 : IsVector f no o1 = IsVector-take f no (length mr) o ho2 in
      let h2 : IsVector f (length mr) o2 = IsVector-drop f no (length mr) o ho2 in
      let C = λ (cs : List ℕ) (ms : List (List ℕ)). combination f g cs ms in
      let parts : C o (mo ++ mr) ≡ vector_sum f (C o1 mo) (C o2 mr) =
      ap (λ (c : List ℕ). C c (mo ++ mr)) (sym (take-append-drop no o)) ∙ combination-append f g o1 o2 mo mr h1.len ar in
      let all : vector_sum f (C (x ++ o2) (ml ++ mr)) (C o1 mo) ≡ zeros g =
      ap (λ u. vector_sum f u (C o1 mo)) (combination-append f g x o2 ml mr hx.len ar)
      ∙ vector_sum_assoc f (C x ml) (C o2 mr) (C o1 mo)
      ∙ ap (vector_sum f (C x ml)) (vector_sum_comm f (C o2 mr) (C o1 mo) ∙ sym parts)
      ∙ z in
      let s = cut.solved (x ++ o2) o1 (subst (λ n. IsVector f n (x ++ o2)) (sym (length-append ml mr)) (IsVector-append f (length ml) (length mr) x o2 hx h2)) h1 all in
      let both = append_parts (map (dot f s.a) hl) x (map (dot f s.a) hr) o2 (length-map hl (dot f s.a) ∙ el ∙ sym hx.len) (sym (map-append (dot f s.a) hl hr) ∙ s.below) in
      record {
        a = s.a;
        vector = s.vector;
        below = both.0;
        outside = map-append (dot f s.a) ho hr ∙ ap₂ (λ u v. u ++ v) s.outside both.1 ∙ take-append-drop no o;
      };
}

-- the same with the children exchanged
cut_swapped : (f : Field) (k g : ℕ) (hl ml hr mr ho mo : List (List ℕ)) → AreVectors f g ml → AreVectors f g mr →
    length hl ≡ length ml → length hr ≡ length mr → IsCut f k g (hl ++ hr) (ml ++ mr) ho mo → IsCut f k g (hr ++ hl) (mr ++ ml) ho mo
cut_swapped f k g hl ml hr mr ho mo al ar el er cut = record {
  count =
      let a = length-append hr hl in
      let b = length-append mr ml in
      omega (arith, a, b, el, er);
  count_outside = cut.count_outside;
  balanced = λ a ha.
      let G = λ (hs ms : List (List ℕ)). gathered f g hs ms a in
      ap (λ u. vector_sum f u (G ho mo))
      (gathered-append f g hr hl mr ml a er al ∙ vector_sum_comm f (G hr mr) (G hl ml) ∙ sym (gathered-append f g hl hr ml mr a el ar))
      ∙ cut.balanced a ha;
  solved = λ x o hx ho' z.
      let n = length mr in
      let hx2 : IsVector f (n + length ml) x = subst (λ n. IsVector f n x) (length-append mr ml) hx in
      let x1 = take n x in
      let x2 = drop n x in
      let h1 : IsVector f n x1 = IsVector-take f n (length ml) x hx2 in
      let h2 : IsVector f (length ml) x2 = IsVector-drop f n (length ml) x hx2 in
      let C = λ (cs : List ℕ) (ms : List (List ℕ)). combination f g cs ms in
      let all : C (x2 ++ x1) (ml ++ mr) ≡ C x (mr ++ ml) =
      combination-append f g x2 x1 ml mr h2.len ar
      ∙ vector_sum_comm f (C x2 ml) (C x1 mr)
      ∙ sym (combination-append f g x1 x2 mr ml h1.len al)
      ∙ ap (λ (c : List ℕ). C c (mr ++ ml)) (take-append-drop n x) in
      let s = cut.solved (x2 ++ x1) o (subst (λ n. IsVector f n (x2 ++ x1)) (sym (length-append ml mr)) (IsVector-append f (length ml) n x2 x1 h2 h1)) ho'
      (ap (λ u. vector_sum f u (C o mo)) all ∙ z) in
      let both = append_parts (map (dot f s.a) hl) x2 (map (dot f s.a) hr) x1 (length-map hl (dot f s.a) ∙ el ∙ sym h2.len) (sym (map-append (dot f s.a) hl hr) ∙ s.below) in
      record {
        a = s.a;
        vector = s.vector;
        below = map-append (dot f s.a) hr hl ∙ ap₂ (λ u v. u ++ v) both.1 both.0 ∙ take-append-drop n x;
        outside = s.outside;
      };
}

-- the cut at the right child
pub cut_right : (f : Field) (k g : ℕ) (hl ml hr mr ho mo : List (List ℕ)) → AreVectors f g ml → AreVectors f g mr → AreVectors f g mo →
    length hl ≡ length ml → length hr ≡ length mr → IsCut f k g (hl ++ hr) (ml ++ mr) ho mo → IsCut f k g hr mr (ho ++ hl) (mo ++ ml)
cut_right f k g hl ml hr mr ho mo al ar ao el er cut =
    cut_left f k g hr mr hl ml ho mo ar al ao er el (cut_swapped f k g hl ml hr mr ho mo al ar el er cut)

-- v is the form's value at some vector
pub record IsValue (f : Field) (k g : ℕ) (hs ms : List (List ℕ)) (v : List ℕ) : Type 0 where
  pub a : List ℕ
  pub vector : IsVector f k a
  pub value : gathered f g hs ms a ≡ v

-- the vectors that the spans of what lies below and of what lies outside have in common are the values of the form
pub space_is_form : (f : Field) (k g : ℕ) (hs ms ho mo : List (List ℕ)) → AreVectors f g ms → AreVectors f g mo → IsCut f k g hs ms ho mo →
    (v : List ℕ) → (InSpan f g ms v × InSpan f g mo v) ↔ IsValue f k g hs ms v
space_is_form f k g hs ms ho mo hm hm' cut v = (
  (λ p.
      let x = p.0.coefficients in
      let o = multiple f (negative f 1) p.1.coefficients in
      let hv : IsVector f g v = subst (λ u. IsVector f g u) p.0.sum (IsVector-combination f g x ms hm) in
      let z : vector_sum f (combination f g x ms) (combination f g o mo) ≡ zeros g =
      ap₂ (λ s t. vector_sum f s t) p.0.sum (combination-multiple f g (negative f 1) p.1.coefficients mo ∙ ap (multiple f (negative f 1)) p.1.sum)
      ∙ opposite-vector_sum f v ∙ ap zeros hv.len in
      let s = cut.solved x o p.0.each (IsVector-multiple f (length mo) (negative f 1) p.1.coefficients p.1.each.len) z in
      record { a = s.a; vector = s.vector; value = ap (λ (c : List ℕ). combination f g c ms) s.below ∙ p.0.sum }),
  (λ q.
      let a = q.a in
      let low : InSpan f g ms v = record { coefficients = map (dot f a) hs; each = digits_of a hs ms cut.count; sum = q.value } in
      let high : InSpan f g mo (gathered f g ho mo a) = record { coefficients = map (dot f a) ho; each = digits_of a ho mo cut.count_outside; sum = refl } in
      let hv : IsVector f g v = subst (λ u. IsVector f g u) q.value (IsVector-combination f g (map (dot f a) hs) ms hm) in
      let z : vector_sum f v (gathered f g ho mo a) ≡ zeros g = ap (λ u. vector_sum f u (gathered f g ho mo a)) (sym q.value) ∙ cut.balanced a q.vector in
      (low, subst (λ u. InSpan f g mo u) (opposite f g v (gathered f g ho mo a) hv (IsVector-combination f g (map (dot f a) ho) mo hm') z) (InSpan-multiple f g (negative f 1) mo _ high))),
)
  where
    digits_of : (a : List ℕ) (us ws : List (List ℕ)) → length us ≡ length ws → IsVector f (length ws) (map (dot f a) us)
    digits_of a us ws e = record { len = length-map us (dot f a) ∙ e; digits = dots_below f a us }
