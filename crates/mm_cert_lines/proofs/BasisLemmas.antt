-- Rows that span a subspace, and those that are its reduced echelon rows.
use Rattle.std.proofs.Common.{◌≡◌, ℕ, ◌-◌, ◌++◌, get_or, append-nil, ◌≤◌, true, false, ◌&&◌, ◌==◌, List, [], ◌∷◌, length, All, suc, Some, None, refl, sym, ap, ◌∙◌, nat_eq, subst, arith}
use Rattle.std.specs.List.{list_all}
use Rattle.std.specs.Cmp.Lexicographic.{pointwise}
use Rattle.std.proofs.lemmas.Bool.{and_parts, eqb-true, le-leb}
use Rattle.std.proofs.lemmas.List.Elements.{All-nil, All-cons}
use Rattle.mm_field.specs.declared.Field.{Field}
use Rattle.mm_field.specs.Vectors.{zeros, AreDigits, IsVector, AreVectors, SameRowSpace}
use Rattle.mm_field.proofs.CombinationLemmas.{InSpan-within, IsWithin-itself}
use Rattle.mm_linear.proofs.ReducedEchelonLemmas.{reduced_basis-same}
use Rattle.mm_linear.specs.ReducedEchelon.{reduced_basis}
use Rattle.mm_space.specs.SpaceValue.{SpaceValue, IsIn, IsSpanOf}
use Rattle.mm_space.specs.Preimages.{IsHead}
use Rattle.mm_space.specs.KeyValue.{KeyValue, IsKeyOf}
use Rattle.mm_cert_lines.specs.Hashing.{same_numbers}
use Rattle.mm_cert_lines.specs.Fields.{only_if}
use Rattle.mm_cert_lines.specs.LineForm.{is_basis, space_of}

pub vectors_are : (f : Field) (t : ℕ) (rows : List (List ℕ)) → list_all (λ v. length v == t) rows ≡ true → All (λ v. AreDigits f v) rows → AreVectors f t rows
vectors_are f t [] e h = All-nil (λ v. IsVector f t v)
vectors_are f t (v ∷ vs) e h =
    let p = and_parts (length v == t) (list_all (λ u. length u == t) vs) e in
    All-cons (λ u. IsVector f t u) v vs (record { len = eqb-true (length v) t p.0; digits = h 0 [] (omega arith) })
    (vectors_are f t vs p.1 (λ k d l. h (suc k) d (omega (arith, l))))

same_rows : (xs ys : List (List ℕ)) → pointwise (pointwise nat_eq) xs ys ≡ true → xs ≡ ys
same_rows [] [] h = refl
same_rows [] (y ∷ ys) h = let e : false ≡ true = h in cc
same_rows (x ∷ xs) [] h = let e : false ≡ true = h in cc
same_rows (x ∷ xs) (y ∷ ys) h =
    let p = and_parts (pointwise nat_eq x y) (pointwise (pointwise nat_eq) xs ys) h in
    λ i. same_numbers x y p.0 i ∷ same_rows xs ys p.1 i

module _ (f : Field) (t : ℕ) (rows : List (List ℕ)) (key : KeyValue) (small : t ≤ 6) (sized : list_all (λ v. length v == t) rows ≡ true)
    (spans : key.rows ≡ reduced_basis f t rows) where
  tested : is_basis f t rows ≡ pointwise (pointwise nat_eq) key.rows rows
  unfolding is_basis
  tested =
      (λ i. le-leb t 6 small i && sized i && pointwise (pointwise nat_eq) (reduced_basis f t rows) rows)
      ∙ ap (λ xs. pointwise (pointwise nat_eq) xs rows) (sym spans)

  pub no_key : (basis : List (List ℕ)) → basis ≡ key.rows → false ≡ pointwise (pointwise nat_eq) basis rows → None ≡ space_of f t rows
  no_key basis b e =
      sym (ap (λ x. only_if x (record { f = f; t = t; rows = rows })) (tested ∙ ap (λ xs. pointwise (pointwise nat_eq) xs rows) (sym b) ∙ sym e))

  pub key_is : (basis : List (List ℕ)) → basis ≡ key.rows → key.f ≡ f → key.t ≡ t → true ≡ pointwise (pointwise nat_eq) basis rows → Some key ≡ space_of f t rows
  key_is basis b ef et e =
      (λ i. Some (record { f = ef i; t = et i; rows = (sym b ∙ same_rows basis rows (sym e)) i }))
      ∙ sym (ap (λ x. only_if x (record { f = f; t = t; rows = rows })) (tested ∙ ap (λ xs. pointwise (pointwise nat_eq) xs rows) (sym b) ∙ sym e))

-- the head of a whole space has its vectors
key_of_head : (s : SpaceValue) (vectors : List (List ℕ)) (key : KeyValue) → AreVectors s.f s.r vectors → AreVectors s.f s.r s.rows →
    SameRowSpace s.f s.r vectors s.rows → IsHead s s.r key → IsKeyOf s.f s.r vectors key
key_of_head s vectors key hv hs same head =
    let none : s.r - s.r ≡ 0 = omega arith in
    let bare = λ (b : List ℕ). ap (λ n. b ++ zeros n) none ∙ append-nil b in
    let within : SameRowSpace s.f s.r key.rows vectors = (
      (λ k d l.
          let b = get_or key.rows k d in
          InSpan-within s.f s.r s.rows vectors b hv same.1
          (subst (λ v. IsIn s v) (bare b) ((head.all b (head.each k d l)).0 (IsWithin-itself s.f s.r key.rows head.each k d l)))),
      (λ k d l.
          let b = get_or vectors k d in
          (head.all b (hv k d l)).1 (subst (λ v. IsIn s v) (sym (bare b)) (same.0 k d l))),
    ) in
    record {
      field = head.field;
      length = head.length;
      each = head.each;
      basis = sym head.reduced ∙ reduced_basis-same s.f s.r key.rows vectors head.each hv within;
    }

-- the key of a whole space that spans some vectors
pub span_key : (f : Field) (t : ℕ) (vectors : List (List ℕ)) (s : SpaceValue) (key : KeyValue) → AreVectors f t vectors → IsSpanOf f t vectors s → IsHead s t key
    → IsKeyOf f t vectors key
span_key f t vectors s key hv is head = go s.f s.r (sym is.field) (sym is.length) head
  where
    go : (g : Field) (n : ℕ) → f ≡ g → t ≡ n → IsHead (record { f = g; r = n; rows = s.rows }) t key → IsKeyOf f t vectors key
    go g n ef en head =
        let h : IsHead (record { f = f; r = t; rows = s.rows }) t key =
        subst (λ x. IsHead (record { f = x; r = t; rows = s.rows }) t key) (sym ef)
        (subst (λ m. IsHead (record { f = g; r = m; rows = s.rows }) t key) (sym en) head) in
        key_of_head (record { f = f; r = t; rows = s.rows }) vectors key hv is.each is.span h
