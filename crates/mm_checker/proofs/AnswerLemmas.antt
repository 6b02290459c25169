-- The answer of a certificate that passes is right.
use Rattle.std.proofs.Common.{◌≡◌, ◌⊎◌, ◌↔◌, inl, inr, ℕ, zero, suc, ◌<◌, ◌≤◌, Bool, true, false, not, ◌||◌, if◌then◌else◌, ℤ, pos, int_lt, ◌<ℤ◌, List, [], ◌∷◌, ◌++◌, length, Option, Some, None, refl, sym, ap, ◌∙◌, subst, arith}
use Rattle.std.specs.List.{slice_get, list_any}
use Rattle.std.proofs.lemmas.List.{length-replicate}
use Rattle.mm_field.specs.declared.Field.{Field}
use Rattle.mm_logic.specs.Acceptance.{accepts}
use Rattle.mm_logic.specs.Formula.{Formula}
use Rattle.mm_logic.specs.Least.{weight, Satisfies, IsLeastSet}
use Rattle.mm_logic.specs.Marks.{assign, unmarked, none}
use Rattle.mm_logic.specs.Meaning.{Holds, WellSorted}
use Rattle.mm_logic.specs.Tree as shapes
use Rattle.mm_logic.specs.Value.{Value}
use Rattle.mm_logic_laws.proofs.AcceptLemmas.{accepts-type_of}
use Rattle.mm_logic_laws.proofs.LeastLemmas.{AtMost, at_most-then, not_less, is_less, lt-then}
use Rattle.mm_logic_laws.proofs.MeaningLemmas.{meaning_decided}
use Rattle.mm_logic_laws.proofs.SizeLawLemmas.{types_of_queries}
use Rattle.mm_tree.specs.NamedTree.{Tree, shape, weights, element_names}
use Rattle.mm_checker.specs.NodeLines.{TreeLine, Row, Rooted}
use Rattle.mm_checker.specs.Certificates.{Subject, State, Answer, Next, start, ◌>>=◌, only_if, ended, val_line, leaf_line, glue_line, node_line, has_line, node_ended, is_begun, is_accepted, lighter, lightest, least_answer, answer_of, end_line, goes, done, step, PassesAfter, Passes}
use Rattle.mm_checker.specs.Certificates.Answer.{Truth}
use Rattle.mm_checker.specs.Certificates.Next.{Goes, Done}
use Rattle.mm_checker.specs.Laws.{IsRight, IsSubject, PassingCertificatesAreRight}
use Rattle.mm_cert_lines.specs.declared.certificate.CertLine.{CertLine}
use Rattle.mm_cert_lines.specs.declared.certificate.CertLine.TheVariants.{Val, More, Leaf, Glue, Node, Has, HasSet, End}
use Rattle.mm_checker.proofs.NodeLemmas.{Stands, IsRow, type_at, any_at}
use Rattle.mm_checker.proofs.StateLemmas.{bind_is, only_if_is, meant, tree_of, trees_of, begun_line, AllStand, IsSound, IsEnded, start_sound, ended_sound, val_sound, more_sound, leaf_sound, glue_sound}
use Rattle.mm_checker.proofs.TreeLemmas.{IsIdle, node_ended_sound, node_sound, has_sound}

-- ---- the first of the lightest rows

module _ (p : Row → Bool) where
  pub record IsLightest (rows : List Row) (q : Row) : Type 0 where
    pub place : ℕ
    pub at : slice_get rows place ≡ Some q
    pub passes : p q ≡ true
    pub best : (j : ℕ) (r : Row) → slice_get rows j ≡ Some r → p r ≡ true → (q.weight <ℤ r.weight) ⊎ ((q.weight ≡ r.weight) × (place ≤ j))

  abbrev pub LightestIs : List Row → Option Row → Type 0
  LightestIs rows None = (j : ℕ) (r : Row) → slice_get rows j ≡ Some r → p r ≡ false
  LightestIs rows (Some q) = IsLightest rows q

  lower : (a b c : ℤ) → int_lt b a ≡ false → (k : ℕ) (j : ℕ) → (b <ℤ c) ⊎ ((b ≡ c) × (k ≤ j)) → (a <ℤ c) ⊎ ((a ≡ c) × (0 ≤ suc j))
  lower a b c e k j h = by (int_lt a b) refl h
    where
      by : (t : Bool) → int_lt a b ≡ t → (b <ℤ c) ⊎ ((b ≡ c) × (k ≤ j)) → (a <ℤ c) ⊎ ((a ≡ c) × (0 ≤ suc j))
      by true i (inl l) = inl (lt-then a b c (is_less a b i) l)
      by true i (inr q) = inl (subst (λ z. a <ℤ z) q.0 (is_less a b i))
      by false i (inl l) = inl (subst (λ z. z <ℤ c) (sym (not_less a b i e)) l)
      by false i (inr q) = inr (not_less a b i e ∙ q.0, omega arith)

  some_row : (x y : Row) → Some x ≡ Some y → x ≡ y
  some_row x y e = cc

  head_is : (r : Row) (rows : List Row) → p r ≡ true → ((j : ℕ) (q : Row) → slice_get rows j ≡ Some q → p q ≡ true → (r.weight <ℤ q.weight) ⊎ ((r.weight ≡ q.weight) × (0 ≤ suc j)))
      → IsLightest (r ∷ rows) r
  head_is r rows passes later = record { place = 0; at = refl; passes = passes; best = best }
    where
      best : (j : ℕ) (q : Row) → slice_get (r ∷ rows) j ≡ Some q → p q ≡ true → (r.weight <ℤ q.weight) ⊎ ((r.weight ≡ q.weight) × (0 ≤ j))
      best zero q e h = inr (ap (λ z. z.weight) (some_row r q e), omega arith)
      best (suc j) q e h = later j q e h

  tail_is : (r q : Row) (rows : List Row) → (p r ≡ true → q.weight <ℤ r.weight) → IsLightest rows q → IsLightest (r ∷ rows) q
  tail_is r q rows first h = record { place = suc h.place; at = h.at; passes = h.passes; best = best }
    where
      best : (j : ℕ) (t : Row) → slice_get (r ∷ rows) j ≡ Some t → p t ≡ true → (q.weight <ℤ t.weight) ⊎ ((q.weight ≡ t.weight) × (suc h.place ≤ j))
      best zero t e k =
          let same = some_row r t e in
          inl (subst (λ z. q.weight <ℤ z.weight) same (first (ap p same ∙ k)))
      best (suc j) t e k = elim (h.best j t e k) [ inl l ↦ inl l | inr l ↦ let m = l.1 in inr (l.0, omega (arith, m)) ]

  pub lightest_is : (rows : List Row) → LightestIs rows (lightest p rows)
  lightest_is [] = λ j r e. let no : None ≡ Some r = e in cc
  lightest_is (r ∷ rows) = by (p r) refl (lightest p rows) (lightest_is rows)
    where
      by : (b : Bool) → p r ≡ b → (o : Option Row) → LightestIs rows o → LightestIs (r ∷ rows) (if b then Some (lighter r o) else o)
      by false e None h = nothing
        where
          nothing : (j : ℕ) (t : Row) → slice_get (r ∷ rows) j ≡ Some t → p t ≡ false
          nothing zero t i = ap p (sym (some_row r t i)) ∙ e
          nothing (suc j) t i = h j t i
      by false e (Some q) h = tail_is r q rows (λ k. let no : true ≡ false = sym k ∙ e in cc) h
      by true e None h = head_is r rows e (λ j q i k. let no : true ≡ false = sym k ∙ h j q i in cc)
      by true e (Some q) h = among (int_lt q.weight r.weight) refl
        where
          among : (t : Bool) → int_lt q.weight r.weight ≡ t → LightestIs (r ∷ rows) (Some (if t then q else r))
          among true i = tail_is r q rows (λ k. is_less q.weight r.weight i) h
          among false i = head_is r rows e (λ j z at k. lower r.weight q.weight z.weight i h.place j (h.best j z at k))

-- ---- the answer

any_from : {A : Type 0} (p : A → Bool) (xs : List A) (n : ℕ) (x : A) → slice_get xs n ≡ Some x → p x ≡ true → list_any p xs ≡ true
any_from p [] n x e h = let no : None ≡ Some x = e in cc
any_from p (y ∷ ys) zero x e h = let same : y ≡ x = cc in ap (λ b. b || list_any p ys) (ap p same ∙ h)
any_from p (y ∷ ys) (suc n) x e h = by (p y) (any_from p ys n x e h)
  where
    by : (b : Bool) → list_any p ys ≡ true → (b || list_any p ys) ≡ true
    by true k = refl
    by false k = k

module _ (f : Field) (F : Formula) (T : Tree) (ok : shapes.IsValid f (shape T)) (sorted : WellSorted (λ _. false) F) (g : ℕ → Value) (rows : List Row) where
  p : Row → Bool
  p = λ r. accepts F (g r.value)

  ms : shapes.Tree
  ms = shape T

  satisfied : (Z : List Bool) → (accepts F (type_at true f F g T Z) ≡ true) ↔ Satisfies f F (shape T) Z
  satisfied Z =
      let n = shapes.size (shape T) in
      let e : accepts F (type_at true f F g T Z) ≡ _ =
      ap (accepts F) (sym ((types_of_queries f (shape T) ok F sorted).1 Z)) ∙ accepts-type_of f F (shape T) (assign 0 Z (unmarked n)) in
      let d = meaning_decided f (shape T) ok F (assign 0 Z (unmarked n)) in
      ((λ a. d.0 (sym e ∙ a)), (λ h. e ∙ d.1 h))

  decided : (Z : List Bool) → (accepts F (type_at false f F g T Z) ≡ true) ↔ Holds f F (shape T) (unmarked (shapes.size (shape T)))
  decided Z =
      let n = shapes.size (shape T) in
      let e : accepts F (type_at false f F g T Z) ≡ _ =
      ap (accepts F) (sym (types_of_queries f (shape T) ok F sorted).0) ∙ accepts-type_of f F (shape T) (unmarked n) in
      let d = meaning_decided f (shape T) ok F (unmarked n) in
      ((λ a. d.0 (sym e ∙ a)), (λ h. e ∙ d.1 h))

  truth_right : Stands false f F g T rows → (list_any (λ r. accepts F (g r.value)) rows ≡ true) ↔ Holds f F (shape T) (unmarked (shapes.size (shape T)))
  truth_right h = (
    (λ e.
        let r = any_at (λ r. accepts F (g r.value)) rows e in
        (decided r.1.set).0 (sym (ap (accepts F) (h.each r.0 r.1 r.2).types) ∙ r.3)),
    (λ holds.
        let r = h.every (none (shapes.size (shape T))) (length-replicate (shapes.size (shape T)) false) in
        any_from (λ r. accepts F (g r.value)) rows r.0 r.1 r.2 (ap (accepts F) (h.each r.0 r.1 r.2).types ∙ (decided r.1.set).1 holds)),
  )

  module _ (h : Stands true f F g T rows) where
    passes_of : (Y : List Bool) → length Y ≡ shapes.size (shape T) → Satisfies f F (shape T) Y
        → (k : ℕ) × (r : Row) × (slice_get rows k ≡ Some r) × (accepts F (g r.value) ≡ true) × AtMost (weights T) r.set Y
    passes_of Y l s =
        let r = h.every Y l in
        (r.0, r.1, r.2, ap (accepts F) ((h.each r.0 r.1 r.2).types ∙ r.3) ∙ (satisfied Y).1 s, r.4)

    least_right : (q : Row) → IsLightest (λ r. accepts F (g r.value)) rows q → IsLeastSet f F (shape T) (weights T) q.set
    least_right q light = record {
      size = mine.count;
      member = (satisfied q.set).0 (sym (ap (accepts F) mine.types) ∙ light.passes);
      best = λ Y l s.
          let r = passes_of Y l s in
          at_most-then (weights T) q.set r.1.set Y (before r.0 r.1 r.2 (light.best r.0 r.1 r.2 r.3)) r.4;
    }
      where
        mine : IsRow true f F g T q
        mine = h.each light.place q light.at

        before : (j : ℕ) (r : Row) → slice_get rows j ≡ Some r → (q.weight <ℤ r.weight) ⊎ ((q.weight ≡ r.weight) × (light.place ≤ j)) → AtMost (weights T) q.set r.set
        before j r at (inl l) =
            inr (inl (subst (λ w. w <ℤ weight (weights T) r.set) mine.weighs (subst (λ w. q.weight <ℤ w) (h.each j r at).weighs l)))
        before j r at (inr l) = elim (order_of light.place j l.1) [
          | inl same ↦
              let rows_same : slice_get rows light.place ≡ slice_get rows j = ap (slice_get rows) same in
              let one : q ≡ r = same_row q r (sym light.at ∙ rows_same ∙ at) in
              inl (ap (λ z. z.set) one)
          | inr less ↦ inr (inr (sym mine.weighs ∙ l.0 ∙ (h.each j r at).weighs, h.rising light.place j q r less light.at at))
        ]
          where
            order_of : (a b : ℕ) → a ≤ b → (a ≡ b) ⊎ (a < b)
            order_of a b l = grind arith

            same_row : (x y : Row) → Some x ≡ Some y → x ≡ y
            same_row x y e = cc

    none_right : ((j : ℕ) (r : Row) → slice_get rows j ≡ Some r → accepts F (g r.value) ≡ false)
        → (A : List Bool) → length A ≡ shapes.size (shape T) → Satisfies f F (shape T) A → ⊥
    none_right refused A l s =
        let r = passes_of A l s in
        let clash : true ≡ false = sym r.3 ∙ refused r.0 r.1 r.2 in cc

-- ---- the last line

module _ (s : Subject) (ok : IsSubject s) (st : State) where
  -- rows that stand for the whole tree give the right answer
  rows_right : (least : Bool) → s.least ≡ least → (rows : List Row) → Stands least s.f s.formula (meant st) s.tree rows → (a : Answer)
      → (if least then least_answer (element_names s.tree) (lightest (is_accepted s st) rows) else Truth (list_any (is_accepted s st) rows)) ≡ a → IsRight s a
  rows_right false e rows h a i =
      subst (IsRight s) i (truth_right s.f s.formula s.tree ok.valid ok.sorted (meant st) rows h)
  rows_right true e rows h a i = by (lightest (is_accepted s st) rows) (lightest_is (is_accepted s st) rows) i
    where
      by : (o : Option Row) → LightestIs (is_accepted s st) rows o → least_answer (element_names s.tree) o ≡ a → IsRight s a
      by None refused i = subst (IsRight s) i (none_right s.f s.formula s.tree ok.valid ok.sorted (meant st) rows h refused)
      by (Some q) light i =
          subst (IsRight s) i
          (q.set, least_right s.f s.formula s.tree ok.valid ok.sorted (meant st) rows h q light, (h.each light.place q light.at).weighs, refl)

  root_right : IsIdle s st → (trees : List Rooted) → st.trees ≡ trees → (nodes : List TreeLine) → st.to_come ≡ nodes → (a : Answer)
      → answer_of s st trees nodes ≡ Some a → IsRight s a
  root_right h [] e [] i a j = let no : None ≡ Some a = j in cc
  root_right h [] e (node ∷ nodes) i a j = let no : None ≡ Some a = j in cc
  root_right h (root ∷ []) e (node ∷ nodes) i a j = let no : None ≡ Some a = j in cc
  root_right h (root ∷ (d ∷ ds)) e [] i a j = let no : None ≡ Some a = j in cc
  root_right h (root ∷ (d ∷ ds)) e (node ∷ nodes) i a j = let no : None ≡ Some a = j in cc
  root_right h (root ∷ []) e [] i a j =
      let order : tree_of (trees_of st.trees) (begun_line st.begun ++ st.to_come) ≡ Some s.tree = h.sound.order in
      let idle : tree_of (trees_of st.trees) st.to_come ≡ Some s.tree = subst (λ o. tree_of (trees_of st.trees) (begun_line o ++ st.to_come) ≡ Some s.tree) h.idle order in
      let bare : tree_of (trees_of st.trees) [] ≡ Some s.tree = subst (λ ns. tree_of (trees_of st.trees) ns ≡ Some s.tree) i idle in
      let one : Some root.tree ≡ Some s.tree = subst (λ ds. tree_of (trees_of ds) [] ≡ Some s.tree) e bare in
      let same : root.tree ≡ s.tree = some_tree root.tree s.tree one in
      let all = subst (AllStand s (meant st)) e h.sound.standing in
      rows_right s.least refl root.rows (subst (λ T. Stands s.least s.f s.formula (meant st) T root.rows) same all.0) a (some_answer _ a j)
    where
      some_tree : (x y : Tree) → Some x ≡ Some y → x ≡ y
      some_tree x y e = cc

      some_answer : (x y : Answer) → Some x ≡ Some y → x ≡ y
      some_answer x y e = cc

end_right : (s : Subject) → IsSubject s → (st : State) → IsEnded s st → (a : Answer) → end_line s st ≡ Some a → IsRight s a
end_right s ok st h a e =
    let begun = bind_is (only_if (is_begun st.begun) st) (λ st. node_ended s st >>= λ st. answer_of s st st.trees st.to_come) a e in
    let passes = only_if_is (is_begun st.begun) st begun.0 begun.1 in
    let after = bind_is (node_ended s begun.0) (λ st. answer_of s st st.trees st.to_come) a begun.2 in
    let idle = node_ended_sound s begun.0 after.0 (subst (IsEnded s) passes.1 h) after.1 in
    root_right s ok after.0 idle after.0.trees refl after.0.to_come refl a after.2

-- ---- all lines

goes_is : (o : Option State) (st : State) → goes o ≡ Some (Goes st) → o ≡ Some st
goes_is None st e = let no : None ≡ Some (Goes st) = e in cc
goes_is (Some x) st e = cc

goes_not : (o : Option State) (a : Answer) → goes o ≡ Some (Done a) → ⊥
goes_not None a e = let no : None ≡ Some (Done a) = e in cc
goes_not (Some x) a e = let no : Some (Goes x) ≡ Some (Done a) = e in cc

done_is : (o : Option Answer) (a : Answer) → done o ≡ Some (Done a) → o ≡ Some a
done_is None a e = let no : None ≡ Some (Done a) = e in cc
done_is (Some x) a e = cc

done_not : (o : Option Answer) (st : State) → done o ≡ Some (Goes st) → ⊥
done_not None st e = let no : None ≡ Some (Goes st) = e in cc
done_not (Some x) st e = let no : Some (Done x) ≡ Some (Goes st) = e in cc

-- a line after the value before it has ended
after_ended : (s : Subject) (st next : State) (g : State → Option State) → IsSound s st → (ended st >>= g) ≡ Some next
    → ((mid : State) → IsEnded s mid → g mid ≡ Some next → IsSound s next) → IsSound s next
after_ended s st next g h e sound =
    let mid = bind_is (ended st) g next e in sound mid.0 (ended_sound s st mid.0 h mid.1) mid.2

row_sound : (s : Subject) (st next : State) (b : Bool) (v : ℕ) (w : ℤ) (x y : ℕ) → IsEnded s st → (only_if b st >>= has_line s v w x y) ≡ Some next → IsSound s next
row_sound s st next b v w x y h e =
    let mid = bind_is (only_if b st) (has_line s v w x y) next e in
    let p = only_if_is b st mid.0 mid.1 in
    has_sound s mid.0 next v w x y (subst (IsEnded s) p.1 h) mid.2

step_sound : (s : Subject) (st next : State) (line : CertLine) → IsSound s st → step s st line ≡ Some (Goes next) → IsSound s next
unfolding step
step_sound s st next (Val p told) h e =
    after_ended s st next (val_line s p told) h (goes_is _ next e) (λ mid k i. val_sound s mid next p told k i)
step_sound s st next (More ns) h e = more_sound s st next ns h (goes_is _ next e)
step_sound s st next (Leaf key v) h e = after_ended s st next (leaf_line s key v) h (goes_is _ next e) (λ mid k i. leaf_sound s mid next key v k i)
step_sound s st next (Glue key v) h e = after_ended s st next (glue_line s key v) h (goes_is _ next e) (λ mid k i. glue_sound s mid next key v k i)
step_sound s st next Node h e = after_ended s st next (node_line s) h (goes_is _ next e) (λ mid k i. node_sound s mid next k i)
step_sound s st next (Has v) h e =
    after_ended s st next (λ st. only_if (not s.least) st >>= has_line s v (pos 0) 0 0) h (goes_is _ next e)
    (λ mid k i. row_sound s mid next (not s.least) v (pos 0) 0 0 k i)
step_sound s st next (HasSet v w x y) h e =
    after_ended s st next (λ st. only_if s.least st >>= has_line s v w x y) h (goes_is _ next e)
    (λ mid k i. row_sound s mid next s.least v w x y k i)
step_sound s st next End h e = absurd (done_not _ next e)

step_right : (s : Subject) → IsSubject s → (st : State) (a : Answer) (line : CertLine) → IsSound s st → step s st line ≡ Some (Done a) → IsRight s a
unfolding step
step_right s ok st a (Val p told) h e = absurd (goes_not _ a e)
step_right s ok st a (More ns) h e = absurd (goes_not _ a e)
step_right s ok st a (Leaf key v) h e = absurd (goes_not _ a e)
step_right s ok st a (Glue key v) h e = absurd (goes_not _ a e)
step_right s ok st a Node h e = absurd (goes_not _ a e)
step_right s ok st a (Has v) h e = absurd (goes_not _ a e)
step_right s ok st a (HasSet v w x y) h e = absurd (goes_not _ a e)
step_right s ok st a End h e =
    let mid = bind_is (ended st) (end_line s) a (done_is _ a e) in
    end_right s ok mid.0 (ended_sound s st mid.0 h mid.1) a mid.2

lines_right : (s : Subject) → IsSubject s → (lines : List CertLine) (st : State) (a : Answer) → IsSound s st → Passes s st lines a → IsRight s a
lines_right s ok [] st a h passes = absurd passes
lines_right s ok (line ∷ lines) st a h passes = by (λ next k q. lines_right s ok lines next a k q) (step s st line) refl passes
  where
    by : ((next : State) → IsSound s next → Passes s next lines a → IsRight s a) → (o : Option Next) → step s st line ≡ o
        → PassesAfter (λ next. Passes s next lines a) lines a o → IsRight s a
    by ih None e k = absurd k
    by ih (Some (Goes next)) e k = ih next (step_sound s st next line h e) k
    by ih (Some (Done b)) e k = subst (IsRight s) k.1 (step_right s ok st b line h e)

pub passing_is_right : PassingCertificatesAreRight
passing_is_right s ok lines a passes = lines_right s ok lines (start s) a (start_sound s ok) passes
