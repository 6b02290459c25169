-- Places that are put behind others.
use Rattle.std.proofs.Common.{◌≡◌, ◌≤◌, ◌<◌, ℕ, suc, ◌+◌, Bool, true, false, List, [], ◌∷◌, ◌++◌, length, refl, sym, ap, ◌∙◌, subst, arith, length-append, max}
use Rattle.std.specs.Prelude.{Result, Ok, Err, OnOk, if◌then◌else◌}
use Rattle.mm_formula.specs.Scope.{slotted, depth}
use Rattle.mm_formula.specs.Syntax.{Syntax, nodes}
use Rattle.mm_formula.specs.Variables.{is_set}
use Rattle.mm_formula.specs.declared.formula.Connective.{Connective as Joined}
use Rattle.mm_formula.specs.Syntax.{Syntax as syntax}
use Rattle.mm_logic.specs.Formula.{Formula, Connective}
use Rattle.mm_logic.specs.Formula.Formula.{Bin, ExSet, AllSet, ExElem, AllElem}
use Rattle.mm_checker.specs.Places.{places}
use Rattle.mm_checker.specs.KeptPlaces.{IsPlace}
use Rattle.mm_checker.specs.KeptBinders.{ArePlaces, PutsPlaces, IsPlain, IsQuantifier}
use Rattle.mm_checker.specs.declared.places.Place.{Place}

pub put_one : (old : List Place) (k : Place) (F : Formula) → IsPlace (length old) F k → PutsPlaces old (F ∷ []) (old ++ k ∷ [])
put_one old k F h = (k ∷ [], refl, (h, tt))

append_three : (xs ys zs : List Place) → (xs ++ ys) ++ zs ≡ xs ++ (ys ++ zs)
append_three [] ys zs = refl
append_three (x ∷ xs) ys zs = ap (λ ws. x ∷ ws) (append_three xs ys zs)

one_further : (p n : ℕ) → p + suc n ≡ (p + 1) + n
one_further p n = grind arith

are_append : (p : ℕ) (Fs Gs : List Formula) (ks ls : List Place) → ArePlaces p Fs ks → ArePlaces (p + length ks) Gs ls → ArePlaces p (Fs ++ Gs) (ks ++ ls)
are_append p [] Gs [] ls h g = let e : p + 0 ≡ p = grind arith in subst (λ q. ArePlaces q Gs ls) e g
are_append p [] Gs (k ∷ ks) ls h g = absurd h
are_append p (F ∷ Fs) Gs [] ls h g = absurd h
are_append p (F ∷ Fs) Gs (k ∷ ks) ls h g = (h.0, are_append (p + 1) Fs Gs ks ls h.1 (subst (λ q. ArePlaces q Gs ls) (one_further p (length ks)) g))

pub put_then : (old mid new : List Place) (Fs Gs : List Formula) → PutsPlaces old Fs mid → PutsPlaces mid Gs new → PutsPlaces old (Fs ++ Gs) new
put_then old mid new Fs Gs h g =
    let n : length mid ≡ length old + length h.0 = ap length h.1 ∙ length-append old h.0 in (
      h.0 ++ g.0,
      g.1 ∙ ap (λ xs. xs ++ g.0) h.1 ∙ append_three old h.0 g.0,
      are_append (length old) Fs Gs h.0 g.0 h.2 (subst (λ q. ArePlaces q Gs g.0) n g.2),
    )

count_is : (p : ℕ) (Fs : List Formula) (ks : List Place) → ArePlaces p Fs ks → length ks ≡ length Fs
count_is p [] [] h = refl
count_is p [] (k ∷ ks) h = absurd h
count_is p (F ∷ Fs) [] h = absurd h
count_is p (F ∷ Fs) (k ∷ ks) h = ap suc (count_is (p + 1) Fs ks h.1)

pub put_count : (old new : List Place) (Fs : List Formula) → PutsPlaces old Fs new → length new ≡ length old + length Fs
put_count old new Fs h = ap length h.1 ∙ length-append old h.0 ∙ ap (λ n. length old + n) (count_is (length old) Fs h.0 h.2)

-- ---- the places of a formula, behind those of the formulas before it

pub places_plain : (bs : List (List ℕ)) (F : Syntax) → IsPlain F → places (slotted bs F) ≡ slotted bs F ∷ []
places_plain bs (syntax.Const b) h = refl
places_plain bs (syntax.Ind t) h = absurd h
places_plain bs (syntax.Member x a) h = refl
places_plain bs (syntax.SameElem x y) h = refl
places_plain bs (syntax.Sub a b) h = refl
places_plain bs (syntax.SameSet a b) h = refl
places_plain bs (syntax.Not F) h = absurd h
places_plain bs (syntax.Bin o F G) h = absurd h
places_plain bs (syntax.Ex v F) h = absurd h
places_plain bs (syntax.All v F) h = absurd h

pub put_pair :
    {E : Type 0} (old mid next new : List Place) (o : Connective) (F G : Formula) (r : Result (Unit {0}) E)
    → PutsPlaces old (Bin o F G ∷ []) mid → PutsPlaces mid (places F) next → OnOk r (PutsPlaces next (places G) new)
    → OnOk r (PutsPlaces old (places (Bin o F G)) new)
put_pair old mid next new o F G (Ok x) a b c =
    put_then old mid new (Bin o F G ∷ []) (places F ++ places G) a (put_then mid next new (places F) (places G) b c)
put_pair old mid next new o F G (Err e) a b c = tt

pub put_below :
    {E : Type 0} (old mid new : List Place) (Q F : Formula) (r : Result (Unit {0}) E)
    → PutsPlaces old (Q ∷ []) mid → OnOk r (PutsPlaces mid (places F) new) → OnOk r (PutsPlaces old (Q ∷ places F) new)
put_below old mid new Q F (Ok x) a b = put_then old mid new (Q ∷ []) (places F) a b
put_below old mid new Q F (Err e) a b = tt

pub put_first : (old new : List Place) (Fs : List Formula) → old ≡ [] → PutsPlaces old Fs new → ArePlaces 0 Fs new
put_first [] new Fs e h = subst (ArePlaces 0 Fs) (sym h.1) h.2
put_first (k ∷ ks) new Fs e h = cc

-- ---- how many there are

places_under : (b : Bool) (n m : ℕ) (F : Formula) → length (places F) ≤ m → length (places (if b then ExSet n F else ExElem n F)) ≤ 1 + m
places_under true n m F h = omega arith
places_under false n m F h = omega arith

places_under_all : (b : Bool) (n m : ℕ) (F : Formula) → length (places F) ≤ m → length (places (if b then AllSet n F else AllElem n F)) ≤ 1 + m
places_under_all true n m F h = omega arith
places_under_all false n m F h = omega arith

-- A formula has no more places than nodes.
places_few : (bs : List (List ℕ)) (F : Syntax) → length (places (slotted bs F)) ≤ nodes F
places_few bs (syntax.Const b) = omega arith
places_few bs (syntax.Ind t) = omega arith
places_few bs (syntax.Member x a) = omega arith
places_few bs (syntax.SameElem x y) = omega arith
places_few bs (syntax.Sub a b) = omega arith
places_few bs (syntax.SameSet a b) = omega arith
places_few bs (syntax.Not F) = let h = places_few bs F in omega arith
places_few bs (syntax.Bin o F G) =
    let h = places_few bs F in
    let g = places_few bs G in
    let e = length-append (places (slotted bs F)) (places (slotted bs G)) in
    omega arith
places_few bs (syntax.Ex v F) = places_under (is_set v) (length bs) (nodes F) (slotted (v ∷ bs) F) (places_few (v ∷ bs) F)
places_few bs (syntax.All v F) = places_under_all (is_set v) (length bs) (nodes F) (slotted (v ∷ bs) F) (places_few (v ∷ bs) F)

pub one_more : (old mid : List Place) (Q : Formula) → PutsPlaces old (Q ∷ []) mid → length mid ≡ length old + 1
one_more old mid Q h = put_count old mid (Q ∷ []) h

pub first_falls : (S : Syntax) (o : Joined) (A B X : Syntax) → S ≡ syntax.Bin o A B → X ≡ A → nodes X < nodes S
first_falls S o A B X e x = let k : nodes S ≡ 1 + nodes A + nodes B = ap nodes e in let kx : nodes X ≡ nodes A = ap nodes x in omega arith

pub second_falls : (S : Syntax) (o : Joined) (A B X : Syntax) → S ≡ syntax.Bin o A B → X ≡ B → nodes X < nodes S
second_falls S o A B X e x = let k : nodes S ≡ 1 + nodes A + nodes B = ap nodes e in let kx : nodes X ≡ nodes B = ap nodes x in omega arith

pub body_falls : (S A X : Syntax) → nodes S ≡ 1 + nodes A → X ≡ A → nodes X < nodes S
body_falls S A X k x = let kx : nodes X ≡ nodes A = ap nodes x in omega arith

-- what the formulas of a connective and of a quantifier owe
module _ (n : ℕ) (old mid : List Place) (S : Syntax) where
  pub first_owes : (o : Joined) (A B X : Syntax) → S ≡ syntax.Bin o A B → X ≡ A → n + depth S ≤ 16 → length mid ≡ length old + 1 → length old + nodes S ≤ 512
      → (n + depth X ≤ 16) × (length mid + nodes X ≤ 512)
  first_owes o A B X e x scope one few =
      let d : depth S ≡ max (depth A) (depth B) = ap depth e in
      let k : nodes S ≡ 1 + nodes A + nodes B = ap nodes e in
      let dx : depth X ≡ depth A = ap depth x in
      let kx : nodes X ≡ nodes A = ap nodes x in
      (omega arith, omega arith)

  pub second_owes : (next : List Place) (bs : List (List ℕ)) (o : Joined) (A B X Y : Syntax) → S ≡ syntax.Bin o A B → X ≡ A → Y ≡ B → n + depth S ≤ 16
      → length mid ≡ length old + 1 → length old + nodes S ≤ 512 → PutsPlaces mid (places (slotted bs X)) next
      → (n + depth Y ≤ 16) × (length next + nodes Y ≤ 512)
  second_owes next bs o A B X Y e x y scope one few put =
      let d : depth S ≡ max (depth A) (depth B) = ap depth e in
      let k : nodes S ≡ 1 + nodes A + nodes B = ap nodes e in
      let dy : depth Y ≡ depth B = ap depth y in
      let ky : nodes Y ≡ nodes B = ap nodes y in
      let kx : nodes X ≡ nodes A = ap nodes x in
      let c = put_count mid next (places (slotted bs X)) put in
      let f = places_few bs X in
      (omega arith, omega arith)

  pub body_owes : (A X : Syntax) → (depth S ≡ depth A + 1) → (nodes S ≡ 1 + nodes A) → X ≡ A → n + depth S ≤ 16 → length mid ≡ length old + 1 → length old + nodes S ≤ 512
      → (suc n + depth X ≤ 16) × (length mid + nodes X ≤ 512)
  body_owes A X d k x scope one few =
      let dx : depth X ≡ depth A = ap depth x in
      let kx : nodes X ≡ nodes A = ap nodes x in
      (omega arith, omega arith)

-- ---- connectives

pub pair_pushed :
    (old mid : List Place) (at : ℕ) (k : Place) (bs : List (List ℕ)) (A X : Syntax) → at ≡ length old → X ≡ A
    → ((o : Connective) (bs : List (List ℕ)) (G : Formula) → IsPlace at (Bin o (slotted bs X) G) k)
    → ((F : Formula) → IsPlace (length old) F k → PutsPlaces old (F ∷ []) mid)
    → (o : Connective) (G : Formula) → PutsPlaces old (Bin o (slotted bs A) G ∷ []) mid
pair_pushed old mid at k bs A X a x is put o G =
    put (Bin o (slotted bs A) G) (subst (λ n. IsPlace n (Bin o (slotted bs A) G) k) a (subst (λ Y. IsPlace at (Bin o (slotted bs Y) G) k) x (is o bs G)))

-- ---- quantifiers

pub ex_place : (b : Bool) (p n : ℕ) (F : Formula) (k : Place) → IsQuantifier b n k → IsPlace p (if b then ExSet n F else ExElem n F) k
ex_place true p n F k h = subst (IsPlace p (ExSet n F)) (sym h) refl
ex_place false p n F k h = subst (IsPlace p (ExElem n F)) (sym h) refl

pub all_place : (b : Bool) (p n : ℕ) (F : Formula) (k : Place) → IsQuantifier b n k → IsPlace p (if b then AllSet n F else AllElem n F) k
all_place true p n F k h = subst (IsPlace p (AllSet n F)) (sym h) refl
all_place false p n F k h = subst (IsPlace p (AllElem n F)) (sym h) refl

pub ex_places : (b : Bool) (n : ℕ) (F : Formula) → (if b then ExSet n F else ExElem n F) ∷ places F ≡ places (if b then ExSet n F else ExElem n F)
ex_places true n F = refl
ex_places false n F = refl

pub all_places : (b : Bool) (n : ℕ) (F : Formula) → (if b then AllSet n F else AllElem n F) ∷ places F ≡ places (if b then AllSet n F else AllElem n F)
all_places true n F = refl
all_places false n F = refl
