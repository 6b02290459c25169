-- The entries of a map whose values are right for their keys, where a key is found and where one is added.
use Rattle.std.proofs.Common.{ℕ, suc, ◌+◌, ◌≡◌, Bool, true, false, not, List, [], ◌∷◌, Option, Some, Ok, Err, refl, sym, ap, subst, ◌∙◌, slice_get, All, cond, if◌then◌else◌, arith}
use Rattle.std.specs.Prelude.{OnOk, OnErr}
use Rattle.std.specs.List.{position_or_len}
use Rattle.std.specs.Map.{lookup, keys_of, values_of}
use Rattle.std.specs.declared.result.Result.{Result}
use Rattle.std.proofs.lemmas.List.Elements.{All-cons, All-head, All-tail}
use Rattle.indexmap.specs.IndexMap.{insert_entry}

pub some_same : {V : Type 0} (x y : V) → Some x ≡ Some y → x ≡ y
some_same x y e = cc

-- ---- values that are right for their keys, where equal keys are one key

abbrev AreRight : {K V : Type 0} → (K → V → Type 0) → List (K × V) → Type 0
AreRight {K} {V} P entries = All (λ (e : K × V). P e.0 e.1) entries

module _ {K V : Type 0} (eq : K → K → Bool) (same : (a b : K) → eq a b ≡ true → a ≡ b) (P : K → V → Type 0) where
  -- what is found for a key is right for it
  pub found_right : (k : K) (v : V) (entries : List (K × V)) → AreRight P entries → lookup (eq k) entries ≡ Some v → P k v
  found_right k v [] h e = cc
  found_right k v (entry ∷ entries) h e =
      go (eq k entry.0) refl (λ x. found_right k v entries (All-tail (λ (e : K × V). P e.0 e.1) entry entries h) x)
    where
      go : (t : Bool) → eq k entry.0 ≡ t → (lookup (eq k) entries ≡ Some v → P k v) → P k v
      go true q later =
          let value = some_same entry.1 v (sym (ap (λ (b : Bool). cond b (Some entry.1) (lookup (eq k) entries)) q) ∙ e) in
          subst (λ x. P k x) value (subst (λ x. P x entry.1) (sym (same k entry.0 q)) (All-head (λ (e : K × V). P e.0 e.1) entry entries h))
      go false q later = later (sym (ap (λ (b : Bool). cond b (Some entry.1) (lookup (eq k) entries)) q) ∙ e)

  -- all values stay right where a key is added with a value that is right for it
  pub added_right : (k : K) (v : V) (entries : List (K × V)) → AreRight P entries → P k v → AreRight P (insert_entry eq entries k v)
  added_right k v [] h p = All-cons (λ (e : K × V). P e.0 e.1) (k, v) [] p h
  added_right k v (entry ∷ entries) h p =
      go (eq k entry.0) refl (added_right k v entries (All-tail (λ (e : K × V). P e.0 e.1) entry entries h) p)
    where
      both : Bool → List (K × V)
      both b = if b then (entry.0, v) ∷ entries else entry ∷ insert_entry eq entries k v

      go : (t : Bool) → eq k entry.0 ≡ t → AreRight P (insert_entry eq entries k v) → AreRight P (both (eq k entry.0))
      go true q later =
          subst (λ b. AreRight P (both b)) (sym q)
          (All-cons (λ (e : K × V). P e.0 e.1) (entry.0, v) entries (subst (λ x. P x v) (same k entry.0 q) p)
          (All-tail (λ (e : K × V). P e.0 e.1) entry entries h))
      go false q later =
          subst (λ b. AreRight P (both b)) (sym q)
          (All-cons (λ (e : K × V). P e.0 e.1) entry (insert_entry eq entries k v) (All-head (λ (e : K × V). P e.0 e.1) entry entries h) later)

  -- also where there may be no memory for the key
  pub tried_right : {A E : Type 0} (r : Result A E) (k : K) (v : V) (old new : List (K × V)) → AreRight P old → P k v →
      OnOk r (new ≡ insert_entry eq old k v) → OnErr r (new ≡ old) → AreRight P new
  tried_right (Ok a) k v old new h p added unchanged = subst (AreRight P) (sym added) (added_right k v old h p)
  tried_right (Err e) k v old new h p added unchanged = subst (AreRight P) (sym unchanged) h

-- ---- the place of a key that is added

one_on : {V : Type 0} (x : V) (xs : List V) (n : ℕ) → slice_get (x ∷ xs) (1 + n) ≡ slice_get xs n
one_on x xs n =
    let e : 1 + n ≡ suc n = omega arith in
    ap (λ i. slice_get (x ∷ xs) i) e

module _ {K V : Type 0} (eq : K → K → Bool) where
  -- the value of a key that is added is at its place
  pub added_at : (k : K) (v : V) (entries : List (K × V)) →
      slice_get (values_of (insert_entry eq entries k v)) (position_or_len (eq k) (keys_of entries)) ≡ Some v
  added_at k v [] = refl
  added_at k v (entry ∷ entries) = go (eq k entry.0) refl (added_at k v entries)
    where
      both : Bool → Option V
      both b =
          slice_get (values_of (if b then (entry.0, v) ∷ entries else entry ∷ insert_entry eq entries k v))
          (cond (not b) (1 + position_or_len (eq k) (keys_of entries)) 0)

      go : (t : Bool) → eq k entry.0 ≡ t →
          slice_get (values_of (insert_entry eq entries k v)) (position_or_len (eq k) (keys_of entries)) ≡ Some v → both (eq k entry.0) ≡ Some v
      go true q later = ap both q
      go false q later = ap both q ∙ one_on entry.1 (values_of (insert_entry eq entries k v)) (position_or_len (eq k) (keys_of entries)) ∙ later
