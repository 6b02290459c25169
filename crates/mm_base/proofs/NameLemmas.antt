-- Names are equal exactly where they are the same bytes, and where they are with the zeros after them.
use Rattle.std.proofs.Common.{ℕ, ◌≡◌, ◌-◌, ◌&&◌, ◌==◌, List, ◌++◌, length, replicate, take, Bool, true, false, refl, sym, ap, ap₂, ◌∙◌, subst}
use Rattle.std.specs.Str.{bytes_eq}
use Rattle.std.proofs.lemmas.Slice.Eq.{bytes_eq-Decides}
use Rattle.std.proofs.lemmas.Bool.{and_parts, eqb-true, eq-eqb, both_ways}
use Rattle.std.proofs.lemmas.List.{take_at}
use Rattle.mm_base.specs.contracts.name.NamePartialEq.TheImpl.{eq-value}

-- bytes with zeros after them, 16 in all where they are no more
abbrev pub padded : List ℕ → List ℕ
padded a = a ++ replicate (16 - length a) 0

pub same_bytes : (x y : List ℕ) → bytes_eq x y ≡ true → x ≡ y
same_bytes x y e = (bytes_eq-Decides x y).0 e

pub bytes_same : (x : List ℕ) → bytes_eq x x ≡ true
bytes_same x = (bytes_eq-Decides x x).1 refl

-- bytes of one length are the same exactly where they are with zeros after them
pub padded_eq : (a b : List ℕ) → (bytes_eq (padded a) (padded b) && (length a == length b)) ≡ bytes_eq a b
padded_eq a b = go (bytes_eq a b) refl (bytes_eq (padded a) (padded b) && (length a == length b)) refl
  where
    go : (t : Bool) → bytes_eq a b ≡ t → (s : Bool) → (bytes_eq (padded a) (padded b) && (length a == length b)) ≡ s →
        (bytes_eq (padded a) (padded b) && (length a == length b)) ≡ bytes_eq a b
    go true e s q =
        let same = same_bytes a b e in
        subst (λ (x : List ℕ). (bytes_eq (padded a) (padded x) && (length a == length x)) ≡ true) same
        (ap₂ (λ p r. p && r) (bytes_same (padded a)) (eq-eqb (length a) (length a) refl)) ∙ sym e
    go false e false q = q ∙ sym e
    go false e true q =
        let parts = and_parts (bytes_eq (padded a) (padded b)) (length a == length b) q in
        let long = eqb-true (length a) (length b) parts.1 in
        let whole = same_bytes (padded a) (padded b) parts.0 in
        let same : a ≡ b =
        sym (take_at a (replicate (16 - length a) 0) (length a) refl) ∙ ap (take (length a)) whole
        ∙ take_at b (replicate (16 - length b) 0) (length a) (sym long) in
        absurd (both_ways (bytes_eq a b) e (ap (bytes_eq a) (sym same) ∙ bytes_same a))

-- names are equal exactly where their bytes are
pub name_eq : (a b : List ℕ) → (eq-value).it a b ≡ bytes_eq a b
name_eq a b = refl
