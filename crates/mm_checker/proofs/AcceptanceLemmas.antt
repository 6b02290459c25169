-- A formula takes a number exactly where it accepts its value.
use Rattle.std.proofs.Common.{◌≡◌, ℕ, Bool, true, false, ◌||◌, ◌&&◌, not, List, [], ◌∷◌, map, length, refl, sym, ap, ap₂, ◌∙◌, Option, Some, None, if◌then◌else◌}
use Rattle.std.specs.List.{list_any, list_all}
use Rattle.std.proofs.lemmas.List.Folds.{list_all-map}
use Rattle.mm_formula.specs.Scope.{slotted, connective}
use Rattle.mm_formula.specs.Syntax.{Syntax}
use Rattle.mm_formula.specs.Syntax.{Syntax as syntax}
use Rattle.mm_formula.specs.Variables.{is_set}
use Rattle.mm_logic.specs.Acceptance.{accepts}
use Rattle.mm_logic.specs.AtomValues.{is_flag, is_alive}
use Rattle.mm_logic.specs.Formula.{Formula, Connective, connect}
use Rattle.mm_logic.specs.Formula.Formula.{ExSet, AllSet, ExElem, AllElem}
use Rattle.mm_logic.specs.Value.{Value, collected, first, second, members}
use Rattle.mm_logic.proofs.SetLemmas.{list_any-map}
use Rattle.mm_logic.proofs.ValueLemmas.{list_any-collected}
use Rattle.mm_logic_laws.proofs.AcceptLemmas.{list_all-collected}
use Rattle.mm_checker.specs.Certificates.{content_of}
use Rattle.mm_checker.specs.Contents.{meaning}
use Rattle.mm_checker.specs.KeptAcceptance.{has_flag, is_dead, parts_in, members_in, takes, IsOfInd, HasFlag, HasParts, HasMembers, Each, IsTyped, AreMeant}
use Rattle.mm_checker.specs.declared.certificate.Content.{Content}
use Rattle.mm_checker.specs.declared.certificate.Content.TheVariants as content
use Rattle.mm_checker.specs.declared.certificate.Valued.{Valued}

module _ (P : ℕ → Type 0) (p q : ℕ → Bool) (same : (n : ℕ) → P n → p n ≡ q n) where
  any_same : (ns : List ℕ) → Each P ns → list_any p ns ≡ list_any q ns
  any_same [] h = refl
  any_same (n ∷ ns) h = ap₂ (λ a b. a || b) (same n h.0) (any_same ns h.1)

  all_same : (ns : List ℕ) → Each P ns → list_all p ns ≡ list_all q ns
  all_same [] h = refl
  all_same (n ∷ ns) h = ap₂ (λ a b. a && b) (same n h.0) (all_same ns h.1)

module _ (values : List Valued) (meant : AreMeant values) (n : ℕ) where
  ind_taken : (o : Option Content) → content_of values n ≡ o → IsOfInd o → not (is_dead o) ≡ is_alive (meaning values n)
  ind_taken (Some content.Dead) e h = sym (ap is_alive (meant n content.Dead e))
  ind_taken (Some (content.Space key)) e h = sym (ap is_alive (meant n (content.Space key) e))
  ind_taken (Some (content.Flag k)) e h = absurd h
  ind_taken (Some (content.Parts a b)) e h = absurd h
  ind_taken (Some (content.SetOf ns)) e h = absurd h
  ind_taken (Some (content.OneOf a ns)) e h = absurd h
  ind_taken None e h = absurd h

  flag_taken : (k : ℕ) (o : Option Content) → content_of values n ≡ o → HasFlag o → has_flag k o ≡ is_flag k (meaning values n)
  flag_taken k (Some (content.Flag m)) e h = sym (ap (is_flag k) (meant n (content.Flag m) e))
  flag_taken k (Some content.Dead) e h = absurd h
  flag_taken k (Some (content.Space key)) e h = absurd h
  flag_taken k (Some (content.Parts a b)) e h = absurd h
  flag_taken k (Some (content.SetOf ns)) e h = absurd h
  flag_taken k (Some (content.OneOf a ns)) e h = absurd h
  flag_taken k None e h = absurd h

  module _ (P Q : ℕ → Type 0) (p q : ℕ → Bool) (o : Connective) (F G : Formula) (f : (a : ℕ) → P a → p a ≡ accepts F (meaning values a))
      (g : (a : ℕ) → Q a → q a ≡ accepts G (meaning values a)) where
    pair_taken : (c : Option Content) → content_of values n ≡ c → HasParts P Q c
        → connect o (p (parts_in c).0) (q (parts_in c).1) ≡ connect o (accepts F (first (meaning values n))) (accepts G (second (meaning values n)))
    pair_taken (Some (content.Parts a b)) e h =
        ap₂ (connect o) (f a h.0) (g b h.1)
        ∙ sym (ap (λ v. connect o (accepts F (first v)) (accepts G (second v))) (meant n (content.Parts a b) e))
    pair_taken (Some (content.Flag k)) e h = absurd h
    pair_taken (Some content.Dead) e h = absurd h
    pair_taken (Some (content.Space key)) e h = absurd h
    pair_taken (Some (content.SetOf ns)) e h = absurd h
    pair_taken (Some (content.OneOf a ns)) e h = absurd h
    pair_taken None e h = absurd h

  module _ (P : ℕ → Type 0) (p : ℕ → Bool) (k : ℕ) (F : Formula) (f : (a : ℕ) → P a → p a ≡ accepts F (meaning values a)) where
    any_of : (ns : List ℕ) (v : Value) → v ≡ collected (map (meaning values) ns) → Each P ns → list_any p ns ≡ list_any (accepts F) (members v)
    any_of ns v e h =
        any_same P p (λ a. accepts F (meaning values a)) f ns h ∙ sym (list_any-map (accepts F) (meaning values) ns)
        ∙ sym (list_any-collected (accepts F) (map (meaning values) ns)) ∙ ap (λ w. list_any (accepts F) (members w)) (sym e)

    all_of : (ns : List ℕ) (v : Value) → v ≡ collected (map (meaning values) ns) → Each P ns → list_all p ns ≡ list_all (accepts F) (members v)
    all_of ns v e h =
        all_same P p (λ a. accepts F (meaning values a)) f ns h ∙ sym (list_all-map (accepts F) (meaning values) ns)
        ∙ sym (list_all-collected (accepts F) (map (meaning values) ns)) ∙ ap (λ w. list_all (accepts F) (members w)) (sym e)

    ex_taken : (b : Bool) (c : Option Content) → content_of values n ≡ c → HasMembers b P c
        → list_any p (members_in c) ≡ accepts (if b then ExSet k F else ExElem k F) (meaning values n)
    ex_taken true (Some (content.SetOf ns)) e h = any_of ns (meaning values n) (meant n (content.SetOf ns) e) h
    ex_taken false (Some (content.OneOf a ns)) e h = any_of ns (second (meaning values n)) (ap second (meant n (content.OneOf a ns) e)) h
    ex_taken true (Some (content.OneOf a ns)) e h = absurd h
    ex_taken false (Some (content.SetOf ns)) e h = absurd h
    ex_taken true (Some (content.Flag m)) e h = absurd h
    ex_taken true (Some content.Dead) e h = absurd h
    ex_taken true (Some (content.Space key)) e h = absurd h
    ex_taken true (Some (content.Parts a m)) e h = absurd h
    ex_taken true None e h = absurd h
    ex_taken false (Some (content.Flag m)) e h = absurd h
    ex_taken false (Some content.Dead) e h = absurd h
    ex_taken false (Some (content.Space key)) e h = absurd h
    ex_taken false (Some (content.Parts a m)) e h = absurd h
    ex_taken false None e h = absurd h

    all_taken : (b : Bool) (c : Option Content) → content_of values n ≡ c → HasMembers b P c
        → list_all p (members_in c) ≡ accepts (if b then AllSet k F else AllElem k F) (meaning values n)
    all_taken true (Some (content.SetOf ns)) e h = all_of ns (meaning values n) (meant n (content.SetOf ns) e) h
    all_taken false (Some (content.OneOf a ns)) e h = all_of ns (second (meaning values n)) (ap second (meant n (content.OneOf a ns) e)) h
    all_taken true (Some (content.OneOf a ns)) e h = absurd h
    all_taken false (Some (content.SetOf ns)) e h = absurd h
    all_taken true (Some (content.Flag m)) e h = absurd h
    all_taken true (Some content.Dead) e h = absurd h
    all_taken true (Some (content.Space key)) e h = absurd h
    all_taken true (Some (content.Parts a m)) e h = absurd h
    all_taken true None e h = absurd h
    all_taken false (Some (content.Flag m)) e h = absurd h
    all_taken false (Some content.Dead) e h = absurd h
    all_taken false (Some (content.Space key)) e h = absurd h
    all_taken false (Some (content.Parts a m)) e h = absurd h
    all_taken false None e h = absurd h

pub taken_as_accepted : (values : List Valued) → AreMeant values → (bs : List (List ℕ)) (F : Syntax) (n : ℕ) → IsTyped values F n
    → takes values F n ≡ accepts (slotted bs F) (meaning values n)
taken_as_accepted values meant bs (syntax.Const b) n h = refl
taken_as_accepted values meant bs (syntax.Ind t) n h = ind_taken values meant n (content_of values n) refl h
taken_as_accepted values meant bs (syntax.Member x a) n h = flag_taken values meant n 1 (content_of values n) refl h
taken_as_accepted values meant bs (syntax.SameElem x y) n h = flag_taken values meant n 3 (content_of values n) refl h
taken_as_accepted values meant bs (syntax.Sub a b) n h = flag_taken values meant n 0 (content_of values n) refl h
taken_as_accepted values meant bs (syntax.SameSet a b) n h = flag_taken values meant n 0 (content_of values n) refl h
taken_as_accepted values meant bs (syntax.Not F) n h = ap not (taken_as_accepted values meant bs F n h)
taken_as_accepted values meant bs (syntax.Bin o F G) n h =
    pair_taken values meant n (IsTyped values F) (IsTyped values G) (takes values F) (takes values G) (connective o) (slotted bs F) (slotted bs G)
    (λ a k. taken_as_accepted values meant bs F a k) (λ a k. taken_as_accepted values meant bs G a k) (content_of values n) refl h
taken_as_accepted values meant bs (syntax.Ex v F) n h =
    ex_taken values meant n (IsTyped values F) (takes values F) (length bs) (slotted (v ∷ bs) F) (λ a k. taken_as_accepted values meant (v ∷ bs) F a k)
    (is_set v) (content_of values n) refl h
taken_as_accepted values meant bs (syntax.All v F) n h =
    all_taken values meant n (IsTyped values F) (takes values F) (length bs) (slotted (v ∷ bs) F) (λ a k. taken_as_accepted values meant (v ∷ bs) F a k)
    (is_set v) (content_of values n) refl h
