-- What is known of joins by operators: where it is found, where it is kept, and where the lists grow.
use Rattle.std.proofs.Common.{ℕ, zero, suc, ◌+◌, ◌<◌, ◌≡◌, Bool, true, false, not, cond, List, [], ◌∷◌, length, Option, Some, None, Ok, Err, refl, sym, ap, subst, ◌∙◌, slice_get, if◌then◌else◌, nat_lt, position, arith}
use Rattle.std.specs.Prelude.{OnOk, OnErr, Result}
use Rattle.std.specs.List.{position_or_len}
use Rattle.std.specs.Map.{keys_of, values_of}
use Rattle.std.proofs.lemmas.Bool.{ltb-true}
use Rattle.std.proofs.lemmas.Option.{slice_get_within}
use Rattle.indexmap.specs.IndexMap.{insert_entry, set_value_at}
use Rattle.mm_logic.specs.Formula.{Formula}
use Rattle.mm_logic.specs.Value.{Value}
use Rattle.mm_logic.specs.Growth.{AllBegin}
use Rattle.mm_ops.specs.OpValue.{OpValue}
use Rattle.mm_states.specs.Lists.{AllFit}
use Rattle.mm_nodes.specs.Calls.{IsSketchOf}
use Rattle.mm_nodes.specs.Sketches.{AreKnown, IsAt, Learns}
use Rattle.mm_nodes.specs.declared.keeps.Keeps.{Ghosts}
use Rattle.mm_nodes.proofs.StandsLemmas.{Laws}

some_same : {V : Type 0} (x y : V) → Some x ≡ Some y → x ≡ y
some_same x y e = cc

-- ---- entries of a map

module _ {K V : Type 0} where
  -- the entry of the first key that passes
  first_passes : (test : K → Bool) (es : List (K × V)) → position_or_len test (keys_of es) < length (keys_of es)
      → (e : K × V) × (slice_get es (position_or_len test (keys_of es)) ≡ Some e) × (test e.0 ≡ true)
  first_passes test [] l = absurd (omega (arith, l))
  first_passes test (e ∷ es) l = go (test e.0) refl (first_passes test es)
    where
      at : Bool → ℕ
      at b = cond (not b) (1 + position_or_len test (keys_of es)) 0

      one_more : (n : ℕ) → 1 + n ≡ suc n
      one_more n = omega arith

      go : (b : Bool) → test e.0 ≡ b
          → (position_or_len test (keys_of es) < length (keys_of es) → (x : K × V) × (slice_get es (position_or_len test (keys_of es)) ≡ Some x) × (test x.0 ≡ true))
          → (x : K × V) × (slice_get (e ∷ es) (at (test e.0)) ≡ Some x) × (test x.0 ≡ true)
      go true q later = (e, ap (λ b. slice_get (e ∷ es) (at b)) q, q)
      go false q later =
          let place : at (test e.0) ≡ suc (position_or_len test (keys_of es)) = ap at q ∙ one_more (position_or_len test (keys_of es)) in
          let inside : suc (position_or_len test (keys_of es)) < suc (length (keys_of es)) = subst (λ n. n < suc (length (keys_of es))) place l in
          let rest = later (omega (arith, inside)) in
          (rest.0, ap (slice_get (e ∷ es)) place ∙ rest.1, rest.2)

  -- the key of an entry that is found
  pub key_found : (test : K → Bool) (es : List (K × V)) (place : ℕ) → position test (keys_of es) ≡ Some place → (e : K × V) × (slice_get es place ≡ Some e) × (test e.0 ≡ true)
  key_found test es place h = go (nat_lt (position_or_len test (keys_of es)) (length (keys_of es))) refl
    where
      go : (b : Bool) → nat_lt (position_or_len test (keys_of es)) (length (keys_of es)) ≡ b → (e : K × V) × (slice_get es place ≡ Some e) × (test e.0 ≡ true)
      go true q =
          let here : position_or_len test (keys_of es) ≡ place =
          some_same (position_or_len test (keys_of es)) place (sym (ap (λ b. cond b (Some (position_or_len test (keys_of es))) None) q) ∙ h) in
          let found = first_passes test es (ltb-true (position_or_len test (keys_of es)) (length (keys_of es)) q) in
          (found.0, ap (slice_get es) (sym here) ∙ found.1, found.2)
      go false q = let none = sym (ap (λ b. cond b (Some (position_or_len test (keys_of es))) None) q) ∙ h in cc

  module _ (P : K × V → Type 0) where
    -- what each entry is, the one at a place is
    pub fits_at : (es : List (K × V)) (i : ℕ) (e : K × V) → AllFit P es → slice_get es i ≡ Some e → P e
    fits_at [] i e h q = cc
    fits_at (x ∷ es) zero e h q = subst P (some_same x e q) h.0
    fits_at (x ∷ es) (suc i) e h q = fits_at es i e h.1 q

    -- each entry is so where one value is exchanged
    pub fits_set : (es : List (K × V)) (i : ℕ) (e : K × V) (w : V) → AllFit P es → slice_get es i ≡ Some e → P (e.0, w) → AllFit P (set_value_at es i w)
    fits_set [] i e w h q p = tt
    fits_set (x ∷ es) zero e w h q p = (subst (λ (k : K). P (k, w)) (ap (λ (y : K × V). y.0) (sym (some_same x e q))) p, h.1)
    fits_set (x ∷ es) (suc i) e w h q p = (h.0, fits_set es i e w h.1 q p)

    module _ (eq : K → K → Bool) (same : (a b : K) → eq a b ≡ true → a ≡ b) where
      -- each entry is so where one is added
      pub fits_added : (k : K) (v : V) (es : List (K × V)) → AllFit P es → P (k, v) → AllFit P (insert_entry eq es k v)
      fits_added k v [] h p = (p, tt)
      fits_added k v (e ∷ es) h p = go (eq k e.0) refl (fits_added k v es h.1 p)
        where
          both : Bool → List (K × V)
          both b = if b then (e.0, v) ∷ es else e ∷ insert_entry eq es k v

          go : (t : Bool) → eq k e.0 ≡ t → AllFit P (insert_entry eq es k v) → AllFit P (both (eq k e.0))
          go true q later = subst (λ b. AllFit P (both b)) (sym q) (subst (λ (x : K). P (x, v)) (same k e.0 q) p, h.1)
          go false q later = subst (λ b. AllFit P (both b)) (sym q) (h.0, later)

      -- also where there may be no memory for it
      pub fits_tried : {A E : Type 0} (r : Result A E) (k : K) (v : V) (old new : List (K × V)) → AllFit P old → P (k, v) → OnOk r (new ≡ insert_entry eq old k v) → OnErr r (new ≡ old) → AllFit P new
      fits_tried (Ok a) k v old new h p added unchanged = subst (AllFit P) (sym added) (fits_added k v old h p)
      fits_tried (Err e) k v old new h p added unchanged = subst (AllFit P) (sym unchanged) h

module _ {N : Type 0} where
  -- the place of an operator, if it has one
  pub place_is : (eq : OpValue → OpValue → Bool) → ((a b : OpValue) → eq a b ≡ true → a ≡ b) → (op : OpValue) (entries : List (OpValue × N)) (place : Option ℕ) → place ≡ position (eq op) (keys_of entries) → IsAt op entries place
  place_is eq same op entries None e = tt
  place_is eq same op entries (Some place) e =
      let found = key_found (eq op) entries place (sym e) in
      (found.0.1, found.1 ∙ ap (λ (k : OpValue). Some (k, found.0.1)) (sym (same op found.0.0 found.2)))

module _ {K V : Type 0} where
  -- the value of an entry
  pub value_at : (es : List (K × V)) (i : ℕ) (k : K) (n v : V) → slice_get es i ≡ Some (k, n) → slice_get (values_of es) i ≡ Some v → n ≡ v
  value_at [] i k n v p q = cc
  value_at (x ∷ es) zero k n v p q = ap (λ (y : K × V). y.1) (some_same (k, n) x (sym p)) ∙ some_same x.1 v q
  value_at (x ∷ es) (suc i) k n v p q = value_at es i k n v p q

-- ---- what is known

module _ {N : Type 0} (K : Ghosts N) where
  pub none_known : (F : Formula) (lists : List (List Value)) (entries : List (OpValue × N)) → entries ≡ [] → AreKnown K F lists entries
  none_known F lists entries e = subst (λ (es : List (OpValue × N)). AreKnown K F lists es) (sym e) (record { each = tt })

  pub known_at : (F : Formula) (lists : List (List Value)) (op : OpValue) (entries : List (OpValue × N)) (place : ℕ) (v : N) → AreKnown K F lists entries → IsAt op entries (Some place)
      → slice_get (values_of entries) place ≡ Some v → K.Knows (record { f = op.f; F = F; lists = lists }) op.op v
  known_at F lists op entries place v h at q =
      subst (λ (n : N). K.Knows (record { f = op.f; F = F; lists = lists }) op.op n) (value_at entries place op at.0 v at.1 q)
      (fits_at (λ (e : OpValue × N). K.Knows (record { f = e.0.f; F = F; lists = lists }) e.0.op e.1) entries place (op, at.0) h.each at.1)

  pub known_so : (F G : Formula) (lists : List (List Value)) (entries : List (OpValue × N)) → G ≡ F → AreKnown K F lists entries → AreKnown K G lists entries
  known_so F G lists entries e h = subst (λ (H : Formula). AreKnown K H lists entries) (sym e) h

  pub place_within : (op : OpValue) (entries : List (OpValue × N)) (place : ℕ) → IsAt op entries (Some place) → place < length entries
  place_within op entries place at = slice_get_within entries place (op, at.0) at.1

  -- what is known once more is learned, whether or not the operator has a place
  pub learns_nothing : (op : OpValue) (n : N) (entries : List (OpValue × N)) → Learns K op n entries entries
  learns_nothing op n entries = record { right = λ F lists h k. h }

  pub learns_put : (op : OpValue) (n sketch : N) (entries : List (OpValue × N)) (place : ℕ) → IsSketchOf K.Knows n (Some sketch) → IsAt op entries (Some place) → Learns K op n entries (set_value_at entries place sketch)
  learns_put op n sketch entries place s at = record {
    right = λ F lists h k. record {
      each = fits_set (λ (e : OpValue × N). K.Knows (record { f = e.0.f; F = F; lists = lists }) e.0.op e.1) entries place (op, at.0) sketch h.each at.1 (s (record { f = op.f; F = F; lists = lists }) op.op k);
    };
  }

  pub learns_tried : {A E : Type 0} (eq : OpValue → OpValue → Bool) → ((a b : OpValue) → eq a b ≡ true → a ≡ b) → (r : Result A E) (op : OpValue) (n sketch : N) (olds nows : List (OpValue × N))
      → IsSketchOf K.Knows n (Some sketch) → OnOk r (nows ≡ insert_entry eq olds op sketch) → OnErr r (nows ≡ olds) → Learns K op n olds nows
  learns_tried eq same r op n sketch olds nows s added unchanged = record {
    right = λ F lists h k. record {
      each = fits_tried (λ (e : OpValue × N). K.Knows (record { f = e.0.f; F = F; lists = lists }) e.0.op e.1) eq same r op sketch olds nows h.each (s (record { f = op.f; F = F; lists = lists }) op.op k) added unchanged;
    };
  }

  module _ (laws : Laws K) where
    all_later : (F : Formula) (olds nows : List (List Value)) (entries : List (OpValue × N)) → AllBegin olds nows
        → AllFit (λ (e : OpValue × N). K.Knows (record { f = e.0.f; F = F; lists = olds }) e.0.op e.1) entries → AllFit (λ (e : OpValue × N). K.Knows (record { f = e.0.f; F = F; lists = nows }) e.0.op e.1) entries
    all_later F olds nows [] b h = tt
    all_later F olds nows (e ∷ entries) b h = (laws.knows_stays (record { f = e.0.f; F = F; lists = olds }) nows e.0.op e.1 b h.0, all_later F olds nows entries b h.1)

    -- what is known stays right where the lists grow
    pub known_later : (F : Formula) (olds nows : List (List Value)) (entries : List (OpValue × N)) → AllBegin olds nows → AreKnown K F olds entries → AreKnown K F nows entries
    known_later F olds nows entries b h = record { each = all_later F olds nows entries b h.each }
