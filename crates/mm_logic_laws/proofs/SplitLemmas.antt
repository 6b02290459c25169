-- The sets of the elements of a join are those of its left child with those of its right child.
use Rattle.std.proofs.Common.{◌≡◌, ℕ, suc, zero, Bool, true, false, ◌||◌, ◌==◌, List, [], ◌∷◌, ◌++◌, map, length, refl, sym, ap, ◌∙◌, subst, if◌then◌else◌, ◌⊎◌, inl, inr, eq-eqb}
use Rattle.std.proofs.lemmas.List.{map-append}
use borrow.Author.Tests.{eqb-true}
use Rattle.std.specs.List.{list_any}
use Rattle.std.proofs.lemmas.List.Folds.{list_any-append}
use Rattle.std.proofs.lemmas.Bool.{or_parts}
use Rattle.std.proofs.Math.Bool.{or-false, or_assoc}
use Rattle.mm_logic.proofs.SetLemmas.{list_any-map}
use Rattle.mm_logic.specs.Marks.{Marks, mark, assign, none, sets, singles, AtMostOne, column, Singles}

pub length-assign : (k : ℕ) (X : List Bool) (ms : List Marks) → length (assign k X ms) ≡ length ms
length-assign k X [] = refl
length-assign k [] (m ∷ ms) = ap suc (length-assign k [] ms)
length-assign k (b ∷ X) (m ∷ ms) = ap suc (length-assign k X ms)

-- a test of all sets of a list in two parts
pub sets-append : (k : ℕ) (p : List Marks → Bool) (us vs : List Marks)
    → list_any (λ X. p (assign k X (us ++ vs))) (sets (length (us ++ vs)))
    ≡ list_any (λ X. list_any (λ Y. p (assign k X us ++ assign k Y vs)) (sets (length vs))) (sets (length us))
sets-append k p [] vs = sym (or-false _)
sets-append k p (a ∷ us) vs =
    let P : List Bool → Bool = λ X. p (assign k X (a ∷ us ++ vs)) in
    let Q : List Bool → Bool = λ X. list_any (λ Y. p (assign k X (a ∷ us) ++ assign k Y vs)) (sets (length vs)) in
    let S : List (List Bool) = sets (length (us ++ vs)) in
    let U : List (List Bool) = sets (length us) in
    list_any-append P (map (λ X. false ∷ X) S) (map (λ X. true ∷ X) S)
    ∙ (λ i. list_any-map P (λ X. false ∷ X) S i || list_any-map P (λ X. true ∷ X) S i)
    ∙ (λ i. sets-append k (λ z. p (mark k false a ∷ z)) us vs i || sets-append k (λ z. p (mark k true a ∷ z)) us vs i)
    ∙ sym (λ i. list_any-map Q (λ X. false ∷ X) U i || list_any-map Q (λ X. true ∷ X) U i)
    ∙ sym (list_any-append Q (map (λ X. false ∷ X) U) (map (λ X. true ∷ X) U))

pub assign_none-append : (k : ℕ) (us vs : List Marks) → assign k (none (length (us ++ vs))) (us ++ vs) ≡ assign k (none (length us)) us ++ assign k (none (length vs)) vs
assign_none-append k [] vs = refl
assign_none-append k (a ∷ us) vs = ap (λ z. mark k false a ∷ z) (assign_none-append k us vs)

-- a test of all single elements of a list in two parts
pub singles-append : (k : ℕ) (p : List Marks → Bool) (us vs : List Marks)
    → list_any (λ X. p (assign k X (us ++ vs))) (singles (length (us ++ vs)))
    ≡ (list_any (λ X. p (assign k X us ++ assign k (none (length vs)) vs)) (singles (length us)) || list_any (λ Y. p (assign k (none (length us)) us ++ assign k Y vs)) (singles (length vs)))
singles-append k p [] vs = refl
singles-append k p (a ∷ us) vs =
    let P : List Bool → Bool = λ X. p (assign k X (a ∷ us ++ vs)) in
    let Q : List Bool → Bool = λ X. p (assign k X (a ∷ us) ++ assign k (none (length vs)) vs) in
    (λ i. p (mark k true a ∷ assign_none-append k us vs i) || list_any-map P (λ X. false ∷ X) (singles (length (us ++ vs))) i)
    ∙ ap (λ b. p (mark k true a ∷ assign k (none (length us)) us ++ assign k (none (length vs)) vs) || b)
    (singles-append k (λ z. p (mark k false a ∷ z)) us vs
    ∙ ap (λ b. b || list_any (λ Y. p (mark k false a ∷ assign k (none (length us)) us ++ assign k Y vs)) (singles (length vs))) (sym (list_any-map Q (λ X. false ∷ X) (singles (length us)))))
    ∙ sym (or_assoc (p (mark k true a ∷ assign k (none (length us)) us ++ assign k (none (length vs)) vs)) _ _)

-- ---- element variables

abbrev pub any : List Bool → Bool
any bs = list_any (λ c. c) bs

pub any-column : (k : ℕ) (ms : List Marks) → any (column k ms) ≡ list_any (λ m. m k) ms
any-column k ms = list_any-map (λ c. c) (λ (m : Marks). m k) ms

pub Each : {A : Type 0} → (A → Type 0) → List A → Type 0
Each P [] = Unit {0}
Each P (x ∷ xs) = P x × Each P xs

pub list_any-within : {A : Type 0} (P : A → Type 0) (p q : A → Bool) → ((x : A) → P x → p x ≡ q x) → (xs : List A) → Each P xs → list_any p xs ≡ list_any q xs
unfolding Each
list_any-within P p q e [] h = refl
list_any-within P p q e (x ∷ xs) h = λ i. e x h.0 i || list_any-within P p q e xs h.1 i

pub any-none : (n : ℕ) → any (none n) ≡ false
any-none zero = refl
any-none (suc n) = any-none n

AtMostOne-nothing : (bs : List Bool) → any bs ≡ false → AtMostOne bs
AtMostOne-nothing [] h = tt
AtMostOne-nothing (true ∷ bs) h = let e : true ≡ false = h in cc
AtMostOne-nothing (false ∷ bs) h = (λ e. h, AtMostOne-nothing bs h)

pub AtMostOne-none : (n : ℕ) → AtMostOne (none n)
AtMostOne-none n = AtMostOne-nothing (none n) (any-none n)

Each-map : (P : List Bool → Type 0) (f : List Bool → List Bool) → ((X : List Bool) → P X → P (f X)) → (xs : List (List Bool)) → Each P xs → Each P (map f xs)
unfolding Each
Each-map P f e [] h = tt
Each-map P f e (x ∷ xs) h = (e x h.0, Each-map P f e xs h.1)

pub Each-singles : (n : ℕ) → Each AtMostOne (singles n)
unfolding Each
Each-singles zero = tt
Each-singles (suc n) = ((λ e. any-none n, AtMostOne-none n), Each-map AtMostOne (λ X. false ∷ X) (λ X h. (λ e. let c : false ≡ true = e in cc, h)) (singles n) (Each-singles n))

same_number : (k : ℕ) → (k == k) ≡ true
same_number k = eq-eqb k k refl

-- a set that is assigned holds no more than it did
any-assigned : (k : ℕ) (X : List Bool) (ms : List Marks) → any X ≡ false → any (column k (assign k X ms)) ≡ false
any-assigned k X [] h = refl
any-assigned k [] (m ∷ ms) h = ap (λ t. (if t then false else m k) || any (column k (assign k [] ms))) (same_number k) ∙ any-assigned k [] ms h
any-assigned k (b ∷ X) (m ∷ ms) h =
    ap (λ t. (if t then b else m k) || any (column k (assign k X ms))) (same_number k)
    ∙ ap (λ c. c || any (column k (assign k X ms))) (or_parts b (any X) h).0
    ∙ any-assigned k X ms (or_parts b (any X) h).1

pub AtMostOne-assigned : (k : ℕ) (X : List Bool) (ms : List Marks) → AtMostOne X → AtMostOne (column k (assign k X ms))
AtMostOne-assigned k X [] h = tt
AtMostOne-assigned k [] (m ∷ ms) h = (λ e. any-assigned k [] ms refl, AtMostOne-assigned k [] ms tt)
AtMostOne-assigned k (b ∷ X) (m ∷ ms) h =
    (λ e. any-assigned k X ms (h.0 (sym (ap (λ t. if t then b else m k) (same_number k)) ∙ e)), AtMostOne-assigned k X ms h.1)

pub column-other : (j k : ℕ) (X : List Bool) (ms : List Marks) → (j == k) ≡ false → column j (assign k X ms) ≡ column j ms
column-other j k X [] h = refl
column-other j k [] (m ∷ ms) h = λ i. (if h i then false else m j) ∷ column-other j k [] ms h i
column-other j k (b ∷ X) (m ∷ ms) h = λ i. (if h i then b else m j) ∷ column-other j k X ms h i

pub AtMostOne-append : (X Y : List Bool) → AtMostOne X → AtMostOne Y → (any X ≡ true → any Y ≡ false) → AtMostOne (X ++ Y)
AtMostOne-append [] Y h l e = l
AtMostOne-append (true ∷ X) Y h l e = (λ c. list_any-append (λ d. d) X Y ∙ (λ i. h.0 refl i || e refl i), AtMostOne-append X Y h.1 l (λ _. e refl))
AtMostOne-append (false ∷ X) Y h l e = (λ c. let d : false ≡ true = c in cc, AtMostOne-append X Y h.1 l e)

pub AtMostOne-left : (X Y : List Bool) → AtMostOne (X ++ Y) → AtMostOne X
AtMostOne-left [] Y h = tt
AtMostOne-left (b ∷ X) Y h = (λ e. (or_parts (any X) (any Y) (sym (list_any-append (λ d. d) X Y) ∙ h.0 e)).0, AtMostOne-left X Y h.1)

pub AtMostOne-right : (X Y : List Bool) → AtMostOne (X ++ Y) → AtMostOne Y
AtMostOne-right [] Y h = h
AtMostOne-right (b ∷ X) Y h = AtMostOne-right X Y h.1

pub AtMostOne-apart : (X Y : List Bool) → AtMostOne (X ++ Y) → any X ≡ true → any Y ≡ false
AtMostOne-apart [] Y h e = let c : false ≡ true = e in cc
AtMostOne-apart (true ∷ X) Y h e = (or_parts (any X) (any Y) (sym (list_any-append (λ d. d) X Y) ∙ h.0 refl)).1
AtMostOne-apart (false ∷ X) Y h e = AtMostOne-apart X Y h.1 e

pub column-append : (k : ℕ) (us vs : List Marks) → column k (us ++ vs) ≡ column k us ++ column k vs
column-append k us vs = map-append (λ (m : Marks). m k) us vs

-- at most one element has a slot, after the set X was put on the left and Y on the right
pub AtMostOne-both : (k : ℕ) (X Y : List Bool) (us vs : List Marks) → AtMostOne X → AtMostOne Y → (any X ≡ false) ⊎ (any Y ≡ false) → AtMostOne (column k (assign k X us ++ assign k Y vs))
AtMostOne-both k X Y us vs h l e =
    subst AtMostOne (sym (column-append k (assign k X us) (assign k Y vs)))
    (AtMostOne-append _ _ (AtMostOne-assigned k X us h) (AtMostOne-assigned k Y vs l) (by e))
  where
    by : (any X ≡ false) ⊎ (any Y ≡ false) → any (column k (assign k X us)) ≡ true → any (column k (assign k Y vs)) ≡ false
    by (inl x) t = let c : false ≡ true = sym (any-assigned k X us x) ∙ t in cc
    by (inr y) t = any-assigned k Y vs y

-- the slots other than k stay as they were
kept_singles : (k j : ℕ) (X Y : List Bool) (us vs : List Marks) → (j == k) ≡ false → AtMostOne (column j (us ++ vs)) → AtMostOne (column j (assign k X us ++ assign k Y vs))
kept_singles k j X Y us vs h l =
    subst AtMostOne (column-append j us vs ∙ sym ((λ i. column-other j k X us h i ++ column-other j k Y vs h i)) ∙ sym (column-append j (assign k X us) (assign k Y vs))) l

pub Singles-set : (e : ℕ → Bool) (k : ℕ) (X Y : List Bool) (us vs : List Marks) → Singles e (us ++ vs) → Singles (mark k false e) (assign k X us ++ assign k Y vs)
Singles-set e k X Y us vs h j is = by (j == k) refl is
  where
    by : (t : Bool) → (j == k) ≡ t → (if t then false else e j) ≡ true → AtMostOne (column j (assign k X us ++ assign k Y vs))
    by true eq c = let d : false ≡ true = c in cc
    by false eq c = kept_singles k j X Y us vs eq (h j c)

pub Singles-elem : (e : ℕ → Bool) (k : ℕ) (X Y : List Bool) (us vs : List Marks) → Singles e (us ++ vs) → AtMostOne (column k (assign k X us ++ assign k Y vs)) → Singles (mark k true e) (assign k X us ++ assign k Y vs)
Singles-elem e k X Y us vs h own j is = by (j == k) refl is
  where
    by : (t : Bool) → (j == k) ≡ t → (if t then true else e j) ≡ true → AtMostOne (column j (assign k X us ++ assign k Y vs))
    by true eq c = subst (λ i. AtMostOne (column i (assign k X us ++ assign k Y vs))) (sym (eqb-true j k eq)) own
    by false eq c = kept_singles k j X Y us vs eq (h j c)
