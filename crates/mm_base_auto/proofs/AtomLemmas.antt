-- An atom has one list, whose values take a cell each: what putting a key into its table answers is what the atom's call answers.
use Rattle.std.proofs.Common.{◌≡◌, ◌<◌, ◌+◌, ◌^◌, ℕ, Bool, true, false, cond, nat_eq, List, [], ◌∷◌, ◌++◌, map, length, get_or, sum_by, Some, slice_get, refl, sym, ap, ◌∙◌, subst, arith, Result, Ok, Err}
use Rattle.std.specs.List.{list_any}
use Rattle.std.proofs.lemmas.List.{length-map, get_or-map}
use Rattle.std.proofs.lemmas.List.Folds.{list_any_at}
use Rattle.std.proofs.lemmas.List.Sums.{sum_by-cons}
use Rattle.std.proofs.lemmas.Bool.{eqb-true}
use Rattle.std.proofs.lemmas.Option.{slice_get_within, get_or_from_slice_get}
use Rattle.mm_logic.specs.Formula.{Formula}
use Rattle.mm_logic.specs.Formula.Formula.{Const, Ind, Member, SameElem, Sub, SameSet, Not, Bin, ExSet, AllSet, ExElem, AllElem}
use Rattle.mm_logic.specs.Value.{Value}
use Rattle.mm_logic.specs.Value.Value.{Dead, Flag}
use Rattle.mm_logic.specs.Occurrence.{own_cells, fresh, nodes, occurring, list_cells, same}
use Rattle.mm_logic.specs.Growth.{root, type_at, no_values, missing, missing_cells, Grown, AllGrown, AllGrew}
use Rattle.mm_logic.proofs.GrowthLemmas.{Grown-none}
use Rattle.mm_states.specs.declared.letter.AutoFault.{AutoFault}
use Rattle.mm_states.specs.Lists.{AllFit}
use Rattle.mm_ops.specs.OpValue.{OpValue}
use Rattle.mm_states.specs.Letters.{joined_type}
use Rattle.mm_states.specs.Calls.{Answers, IsRoomy, value_of_join}
use Rattle.mm_states.proofs.KeyLemmas.{same_true, same_self, both_ways, put_grown, put_cells, put_fits}
use Rattle.mm_states.proofs.FitLemmas.{AllFit-at}
use Rattle.mm_combine.specs.Puts.{PutKey, PutsKey}
use Rattle.mm_base_auto.specs.Atoms.{IsAtomic, flag_values}

-- each value takes one cell
ones : (F : Formula) → ((v : Value) → own_cells F v ≡ 1) → (vs : List Value) → sum_by (own_cells F) vs ≡ length vs
ones F e [] = refl
ones F e (v ∷ vs) = sum_by-cons (own_cells F) v vs ∙ omega (arith, ones F e vs, e v)

-- an atom is its one node, at which its own values occur
pub record IsOneNode (F : Formula) : Type 0 where
  pub root : (vs : List Value) → root F (vs ∷ []) ≡ vs
  pub occurring : (vs : List Value) → occurring F vs ≡ vs ∷ []
  pub nodes : nodes F ≡ F ∷ []
  pub cells : (v : Value) → own_cells F v ≡ 1

pub one_node : (F : Formula) → IsAtomic F → IsOneNode F
one_node (Const b) h = record { root = λ vs. refl; occurring = λ vs. refl; nodes = refl; cells = λ v. refl }
one_node (Ind u) h = record { root = λ vs. refl; occurring = λ vs. refl; nodes = refl; cells = λ v. refl }
one_node (Member x a) h = record { root = λ vs. refl; occurring = λ vs. refl; nodes = refl; cells = λ v. refl }
one_node (SameElem x y) h = record { root = λ vs. refl; occurring = λ vs. refl; nodes = refl; cells = λ v. refl }
one_node (Sub a b) h = record { root = λ vs. refl; occurring = λ vs. refl; nodes = refl; cells = λ v. refl }
one_node (SameSet a b) h = record { root = λ vs. refl; occurring = λ vs. refl; nodes = refl; cells = λ v. refl }
one_node (Not F) h = absurd h
one_node (Bin o F G) h = absurd h
one_node (ExSet k F) h = absurd h
one_node (AllSet k F) h = absurd h
one_node (ExElem k F) h = absurd h
one_node (AllElem k F) h = absurd h

one_list : (F : Formula) → ((v : Value) → own_cells F v ≡ 1) → (vs : List Value) → list_cells (F ∷ []) (vs ∷ []) ≡ length vs
one_list F e vs = omega (arith, ones F e vs)

pub atom_cells : (F : Formula) → IsAtomic F → (vs : List Value) → list_cells (nodes F) (vs ∷ []) ≡ length vs
atom_cells F a vs = let s = one_node F a in ap (λ Fs. list_cells Fs (vs ∷ [])) s.nodes ∙ one_list F s.cells vs

atom_missing : (F : Formula) → IsAtomic F → (olds : List Value) (v : Value) → missing_cells F (olds ∷ []) (v ∷ []) ≡ length (fresh olds (v ∷ []))
atom_missing F a olds v =
    let s = one_node F a in
    (λ i. list_cells (s.nodes i) (missing (olds ∷ []) (s.occurring (v ∷ []) i)))
    ∙ one_list F s.cells (fresh olds (v ∷ []))

-- a list that is as it was has grown by nothing
grew : (olds nows : List Value) → nows ≡ olds → AllGrew (olds ∷ []) (nows ∷ [])
grew olds nows h = (([], subst (λ z. Grown olds z []) (sym h) (Grown-none olds)), tt)

length-ones : (vs : List Value) → sum_by (λ v. 1) vs ≡ length vs
length-ones [] = refl
length-ones (v ∷ vs) = sum_by-cons (λ x. 1) v vs ∙ omega (arith, length-ones vs)

module _ {K : Type 0} (eq : K → K → Bool) (value : K → Value) (Fits : K → Type 0) (exact : (a b : K) → Fits a → Fits b → eq a b ≡ same (value a) (value b)) where
  -- the cells that a key takes
  key_cells : (k : K) (ks : List K) → Fits k → AllFit Fits ks → length (fresh (map value ks) (value k ∷ [])) ≡ cond (list_any (eq k) ks) 0 1
  key_cells k ks f a = sym (length-ones (fresh (map value ks) (value k ∷ []))) ∙ put_cells eq value Fits exact (λ v. 1) 1 k ks f a refl

  pub key_answers : (F : Formula) → IsAtomic F → (k : K) (olds nows : List K) (room : ℕ) (r : Result ℕ AutoFault) → Fits k → AllFit Fits olds
      → PutsKey eq (λ k. 1) k olds nows room r → Answers F (value k) (map value olds ∷ []) (map value nows ∷ []) room r
  key_answers F a k olds nows room (Ok id) f fs p =
      let s = one_node F a in
      let fits = put_fits eq value Fits exact k olds nows f fs p.values in
      let found : value p.found ≡ value k =
      sym (same_true (value k) (value p.found) (sym (exact k p.found f (AllFit-at Fits nows id p.found fits p.place)) ∙ p.equal)) in
      let within : id < length (map value nows) = rw length-map (slice_get_within nows id p.found p.place) in
      let at : get_or (map value nows) id Dead ≡ value k =
      get_or-map value nows id p.found Dead (slice_get_within nows id p.found p.place)
      ∙ ap value (get_or_from_slice_get nows id p.found p.found p.place)
      ∙ found in (
        record {
          within = subst (λ vs. id < length vs) (sym (s.root (map value nows))) within;
          value = ap (λ vs. get_or vs id Dead) (s.root (map value nows)) ∙ at;
          grown = subst (AllGrown (map value olds ∷ []) (map value nows ∷ [])) (sym (s.occurring (value k ∷ []))) (put_grown eq value Fits exact k olds nows f fs p.values, refl);
        },
        omega (arith, p.within, key_cells k olds f fs, atom_missing F a (map value olds) (value k)),
      )
  key_answers F a k olds nows room (Err e) f fs p = (
    grew (map value olds) (map value nows) (ap (map value) p.0),
    λ h.
        let q = p.1 h in
        omega (arith, q.0, key_cells k olds f fs, ap {B = ℕ} (λ b. cond b 0 1) q.1, atom_missing F a (map value olds) (value k)),
  )

-- ---- flags

abbrev flag_number : Value → ℕ
flag_number (Flag n) = n
flag_number _ = 0

flags_exact : (a b : ℕ) → Unit {0} → Unit {0} → nat_eq a b ≡ same (Flag a) (Flag b)
flags_exact a b u w =
    both_ways (nat_eq a b) (same (Flag a) (Flag b))
    (λ e. ap (λ n. same (Flag a) (Flag n)) (sym (eqb-true a b e)) ∙ same_self (Flag a))
    (λ e. ap (λ n. nat_eq a n) (sym (ap flag_number (same_true (Flag a) (Flag b) e))) ∙ itself a)
  where
    itself : (n : ℕ) → nat_eq n n ≡ true
    itself n = grind (arith)

all_flags : (flags : List ℕ) → AllFit (λ n. Unit {0}) flags
all_flags [] = tt
all_flags (n ∷ flags) = (tt, all_flags flags)

pub flag_answers : (F : Formula) → IsAtomic F → (v : Value) (flag : ℕ) (olds nows : List ℕ) (room : ℕ) (r : Result ℕ AutoFault) → Flag flag ≡ v
    → PutsKey nat_eq (λ k. 1) flag olds nows room r → Answers F v (flag_values olds ∷ []) (flag_values nows ∷ []) room r
flag_answers F a v flag olds nows room r e p =
    subst (λ z. Answers F z (flag_values olds ∷ []) (flag_values nows ∷ []) room r) e
    (key_answers nat_eq Flag (λ n. Unit {0}) flags_exact F a flag olds nows room r tt (all_flags olds) p)

pub flag_cells : (F : Formula) → IsAtomic F → (flags : List ℕ) → list_cells (nodes F) (flag_values flags ∷ []) ≡ length flags
flag_cells F a flags = atom_cells F a (flag_values flags) ∙ length-map flags Flag

pub flag_room : (F : Formula) → IsAtomic F → (flags : List ℕ) (room : ℕ) → IsRoomy F (flag_values flags ∷ []) room → length flags + room < 2 ^ 32
flag_room F a flags room h = omega (arith, h, flag_cells F a flags)

-- a flag that is there, or is not
pub flag_found : (flag : ℕ) (flags : List ℕ) (room id : ℕ) → slice_get flags id ≡ Some flag → PutKey nat_eq (λ k. 1) flag flags flags room id
flag_found flag flags room id h = record {
  found = flag;
  place = h;
  equal = itself flag;
  values = sym (ap (λ b. cond b flags (flags ++ flag ∷ [])) (there flags id h));
  within = omega (arith, ap {B = ℕ} (λ b. cond b 0 1) (there flags id h));
}
  where
    itself : (n : ℕ) → nat_eq n n ≡ true
    itself n = grind (arith)

    there : (xs : List ℕ) (i : ℕ) → slice_get xs i ≡ Some flag → list_any (nat_eq flag) xs ≡ true
    there xs i e = list_any_at (nat_eq flag) xs i flag (slice_get_within xs i flag e) (ap (nat_eq flag) (get_or_from_slice_get xs i flag flag e) ∙ itself flag)

pub flag_put : (flag : ℕ) (olds nows : List ℕ) (room id : ℕ) → list_any (nat_eq flag) olds ≡ false → nows ≡ olds ++ flag ∷ [] → id ≡ length olds → (room ≡ 0 → ⊥)
    → PutKey nat_eq (λ k. 1) flag olds nows room id
flag_put flag olds nows room id none e at some = record {
  found = flag;
  place = ap (slice_get nows) at ∙ ap (λ z. slice_get z (length olds)) e ∙ last olds;
  equal = itself flag;
  values = e ∙ sym (ap (λ b. cond b olds (olds ++ flag ∷ [])) none);
  within = omega (arith, some, ap {B = ℕ} (λ b. cond b 0 1) none);
}
  where
    itself : (n : ℕ) → nat_eq n n ≡ true
    itself n = grind (arith)

    last : (xs : List ℕ) → slice_get (xs ++ flag ∷ []) (length xs) ≡ Some flag
    last [] = refl
    last (x ∷ xs) = last xs

-- the number of a flag is one of the atom, and its type is the flag
pub flag_within : (F : Formula) → IsAtomic F → (flags : List ℕ) (id : ℕ) → id < length (root F (flag_values flags ∷ [])) → id < length flags
flag_within F a flags id h =
    subst (λ n. id < n) (length-map flags Flag) (subst (λ vs. id < length vs) ((one_node F a).root (flag_values flags)) h)

pub flag_type : (F : Formula) → IsAtomic F → (flags : List ℕ) (id n : ℕ) → id < length (root F (flag_values flags ∷ [])) → n ≡ get_or flags id n
    → Flag n ≡ type_at F (flag_values flags ∷ []) id
flag_type F a flags id n h e =
    ap Flag e
    ∙ sym (get_or-map Flag flags id n Dead (flag_within F a flags id h))
    ∙ sym (ap (λ vs. get_or vs id Dead) ((one_node F a).root (flag_values flags)))

-- a join of two flags
pub flag_joined : (F : Formula) → IsAtomic F → (op : OpValue) (left right l r flag : ℕ) (olds nows : List ℕ) (room : ℕ) (res : Result ℕ AutoFault)
    → left < length (root F (flag_values olds ∷ [])) → right < length (root F (flag_values olds ∷ [])) → l ≡ get_or olds left l → r ≡ get_or olds right r
    → Flag flag ≡ joined_type F op (Flag l) (Flag r) → PutsKey nat_eq (λ k. 1) flag olds nows room res
    → Answers F (value_of_join F (flag_values olds ∷ []) op left right) (flag_values olds ∷ []) (flag_values nows ∷ []) room res
flag_joined F a op left right l r flag olds nows room res x y f g e p =
    let first = flag_type F a olds left l x f in
    let second = flag_type F a olds right r y g in
    flag_answers F a (value_of_join F (flag_values olds ∷ []) op left right) flag olds nows room res (e ∙ (λ i. joined_type F op (first i) (second i))) p

-- an atom without values
pub no_flags : (F : Formula) → IsAtomic F → (flags : List ℕ) → flags ≡ [] → flag_values flags ∷ [] ≡ no_values F
no_flags F a flags e = ap (λ z. flag_values z ∷ []) e ∙ sym (ap (map (λ G. [])) (one_node F a).nodes)
