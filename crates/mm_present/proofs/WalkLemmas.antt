-- The walk over a tree: what each node's pairs account for.
use Rattle.std.proofs.Common.{ℕ, ◌+◌, ◌<◌, ◌≤◌, ◌≡◌, not, Ok, Err, Option, List, [], ◌∷◌, ◌++◌, length, map, take, drop, get_or, refl, sym, ap, ap₂, subst, ◌∙◌, arith, take-add}
use Rattle.std.specs.Prelude.{IfOk, OnOk}
use Rattle.std.specs.declared.result.Result.{Result}
use Rattle.std.proofs.lemmas.List.{drop_more, length-take-le, length-drop, drop-drop}
use Rattle.std.proofs.lemmas.List.Elements.{All-nil, All-cons, All-append, All-filter, All-take, All-drop}
use Rattle.mm_field.specs.declared.Field.{Field}
use Rattle.mm_field.specs.Vectors.{IsVector, AreVectors, AreDigits}
use Rattle.mm_field.proofs.PartLemmas.{AreVectors-map, IsVector-append}
use Rattle.mm_linear.specs.ReducedEchelon.{reduced_basis}
use Rattle.mm_linear.proofs.ReducedEchelonLemmas.{reduced_basis_is}
use Rattle.mm_logic.specs.Operator.{row_length}
use Rattle.mm_logic.specs.Tree.{Tree, size, boundary, IsValid}
use Rattle.mm_logic.specs.Tree.Tree.{Elem, Void, Join}
use Rattle.mm_logic_laws.specs.MatrixLaws.{digits_at_join}
use Rattle.mm_matrix.specs.MatrixValue.{MatrixValue, reduced}
use Rattle.mm_ops.specs.OpValue.{OpValue}
use Rattle.mm_present.specs.Dependencies.{ArePairs, Finds, candidate, is_zero_before, joined_pairs, least_place, tails, with_boundary}
use Rattle.mm_present.specs.JoinCache.{AreDigitsOf}
use Rattle.mm_present.specs.declared.join_cache.JoinDigits.{JoinDigits}
use Rattle.mm_present.proofs.AccountLemmas.{split_account, join_account}
use Rattle.mm_present.proofs.LeafLemmas.{element_account, void_account}
use Rattle.mm_present.proofs.LeastLemmas.{least_place-append}
use Rattle.mm_present.proofs.NodeLemmas.{op_over}
use Rattle.mm_present.proofs.PairLemmas.{IsLinear-candidate}
use Rattle.mm_present.proofs.ProductLemmas.{digits_are}
use Rattle.mm_present.proofs.RankLemmas.{reduced_are}
use Rattle.mm_present.proofs.TailLemmas.{AreVectors-tails}

abbrev matrix : Field → ℕ → List (List ℕ) → MatrixValue
matrix f n rows = record { f = f; cols = n; rows = rows }

-- ---- a join

module _ (op : OpValue) (g : ℕ) (left right : List (List ℕ)) where
  abbrev first : List (List ℕ)
  first = map (candidate op.f (row_length op.op) op.op.t1 op.op.t3 (digits_at_join op.f op.op op.op.g1)) left

  abbrev second : List (List ℕ)
  second = map (candidate op.f (row_length op.op) op.op.t2 op.op.t3 (digits_at_join op.f op.op op.op.g2)) right

  abbrev width : ℕ
  width = op.op.c + (op.op.t3 + g)

  pub space_is : (digits : JoinDigits) (t1 t2 t3 c cols w : ℕ) (fresh one two space : MatrixValue) → AreDigitsOf op digits →
      t1 ≡ op.op.t1 → t2 ≡ op.op.t2 → t3 ≡ op.op.t3 → c ≡ op.op.c → cols ≡ t3 + g → w ≡ c + cols → fresh ≡ matrix op.f w [] →
      one ≡ record fresh { rows = fresh.rows ++ map (candidate digits.first.f digits.first.cols t1 t3 digits.first.rows) left } →
      two ≡ record one { rows = one.rows ++ map (candidate digits.second.f digits.second.cols t2 t3 digits.second.rows) right } →
      space ≡ reduced two → space ≡ matrix op.f width (reduced_basis op.f width (first ++ second))
  space_is digits t1 t2 t3 c cols w fresh one two space d e1 e2 e3 ec ecols ew ef eone etwo es =
      let n : w ≡ width = ew ∙ ap₂ (λ a b. a + b) ec (ecols ∙ ap (λ t. t + g) e3) in
      let start : fresh ≡ matrix op.f width [] = ef ∙ ap (λ k. matrix op.f k []) n in
      let a : map (candidate digits.first.f digits.first.cols t1 t3 digits.first.rows) left ≡ first =
      ap (λ (m : MatrixValue). map (candidate m.f m.cols t1 t3 m.rows) left) d.first
      ∙ ap₂ (λ s t. map (candidate op.f (row_length op.op) s t (digits_at_join op.f op.op op.op.g1)) left) e1 e3 in
      let b : map (candidate digits.second.f digits.second.cols t2 t3 digits.second.rows) right ≡ second =
      ap (λ (m : MatrixValue). map (candidate m.f m.cols t2 t3 m.rows) right) d.second
      ∙ ap₂ (λ s t. map (candidate op.f (row_length op.op) s t (digits_at_join op.f op.op op.op.g2)) right) e2 e3 in
      let one_is : one ≡ matrix op.f width first =
      eone ∙ ap₂ (λ (m : MatrixValue) rows. record m { rows = m.rows ++ rows }) start a in
      let two_is : two ≡ matrix op.f width (first ++ second) =
      etwo ∙ ap₂ (λ (m : MatrixValue) rows. record m { rows = m.rows ++ rows }) one_is b in
      es ∙ ap reduced two_is

  pub tails_are : (c : ℕ) (space : MatrixValue) → c ≡ op.op.c → space ≡ matrix op.f width (reduced_basis op.f width (first ++ second)) →
      tails c space.rows ≡ joined_pairs op g left right
  unfolding joined_pairs
  tails_are c space ec es = ap₂ (λ k (m : MatrixValue). tails k m.rows) ec es

  pub pairs_end : (c t3 cols : ℕ) (space : MatrixValue) → c ≡ op.op.c → t3 ≡ op.op.t3 → cols ≡ t3 + g →
      space ≡ matrix op.f width (reduced_basis op.f width (first ++ second)) →
      matrix space.f cols (with_boundary t3 (tails c space.rows)) ≡ matrix op.f (op.op.t3 + g) (with_boundary op.op.t3 (joined_pairs op g left right))
  pairs_end c t3 cols space ec e3 ecols es =
      ap (λ h. matrix h cols (with_boundary t3 (tails c space.rows))) (ap (λ (m : MatrixValue). m.f) es)
      ∙ ap₂ (λ n rows. matrix op.f n (with_boundary t3 rows)) (ecols ∙ ap (λ t. t + g) e3) (tails_are c space ec es)
      ∙ ap (λ t. matrix op.f (op.op.t3 + g) (with_boundary t (joined_pairs op g left right))) e3

  pub least_end : (c t3 : ℕ) (space : MatrixValue) (before after : Option ℕ) → c ≡ op.op.c → t3 ≡ op.op.t3 →
      space ≡ matrix op.f width (reduced_basis op.f width (first ++ second)) →
      after ≡ least_place before (tails t3 (tails c space.rows)) → after ≡ least_place before (tails op.op.t3 (joined_pairs op g left right))
  least_end c t3 space before after ec e3 es e =
      e ∙ ap₂ (λ t rows. least_place before (tails t rows)) e3 (tails_are c space ec es)

-- what is known of the result, and of the state after it
pub ok_both : {A E : Type 0} {P R : A → Type 0} {Q : Type 0} (r : Result A E) → IfOk r P → OnOk r Q → ((m : A) → P m → Q → R m) → IfOk r R
ok_both (Ok m) p q go = go m p q
ok_both (Err e) p q go = tt

-- ---- leaves

pub element_walk : (f : Field) (T : Tree) (vec column : List ℕ) (columns m : MatrixValue) (next : ℕ) (before after : Option ℕ) → T ≡ Elem vec → AreDigits f vec →
    column ≡ get_or columns.rows next [] → IsVector f columns.cols column → next < length columns.rows →
    m ≡ matrix f (length vec + length column) (with_boundary (length vec) ((vec ++ column) ∷ [])) →
    after ≡ least_place before (tails (length vec) ((vec ++ column) ∷ [])) →
    ArePairs f (boundary T) columns.cols m × Finds f columns.cols T (take (size T) (drop next columns.rows)) m.rows before after
element_walk f T vec column columns m next before after eT hv ec hc l em el =
    let g = columns.cols in
    let t = length vec in
    let row = vec ++ column in
    let given : take 1 (drop next columns.rows) ≡ column ∷ [] = ap (take 1) (drop_more columns.rows next [] l) ∙ ap (λ c. c ∷ []) (sym ec) in
    let hg : AreVectors f g (column ∷ []) = All-cons (IsVector f g) column [] hc (All-nil (IsVector f g)) in
    let a = split_account f g (Elem vec) (column ∷ []) hg (row ∷ []) [] (element_account f g vec column hv hc) in
    let hrow : IsVector f (t + g) row = IsVector-append f t g vec column (record { len = refl; digits = hv }) hc in
    let each : AreVectors f (t + g) (with_boundary t (row ∷ [])) =
    All-filter (λ r. not (is_zero_before t r)) (IsVector f (t + g)) (row ∷ []) (All-cons (IsVector f (t + g)) row [] hrow (All-nil (IsVector f (t + g)))) in
    let m_is : m ≡ matrix f (t + g) (with_boundary t (row ∷ [])) = em ∙ ap (λ k. matrix f (t + k) (with_boundary t (row ∷ []))) hc.len in
    subst (λ (S : Tree). ArePairs f (boundary S) g m × Finds f g S (take (size S) (drop next columns.rows)) m.rows before after) (sym eT) (
      subst (ArePairs f t g) (sym m_is) (record { field = refl; width = refl; each = each }),
      subst (λ cs. Finds f g (Elem vec) cs m.rows before after) (sym given)
          (subst (λ (k : MatrixValue). Finds f g (Elem vec) (column ∷ []) k.rows before after) (sym m_is)
          (record { faults = tails t (row ∷ []); account = a; least = el })),
    )

pub void_walk : (f : Field) (T : Tree) (t : ℕ) (columns m : MatrixValue) (next : ℕ) (least : Option ℕ) → T ≡ Void t → m ≡ matrix f (t + columns.cols) [] →
    ArePairs f (boundary T) columns.cols m × Finds f columns.cols T (take (size T) (drop next columns.rows)) m.rows least least
void_walk f T t columns m next least eT em =
    let g = columns.cols in
    subst (λ (S : Tree). ArePairs f (boundary S) g m × Finds f g S (take (size S) (drop next columns.rows)) m.rows least least) (sym eT)
    (subst (λ (k : MatrixValue). ArePairs f t g k × Finds f g (Void t) [] k.rows least least) (sym em) (
      record { field = refl; width = refl; each = All-nil (IsVector f (t + g)) },
      record { faults = []; account = void_account f g t; least = refl },
    ))

-- ---- joins

pub join_walk : (f : Field) (op : OpValue) (T L R : Tree) (columns left right m : MatrixValue) (next middle : ℕ) (before between after last : Option ℕ) →
    op.f ≡ f → T ≡ Join op.op L R → IsValid f (Join op.op L R) → AreVectors f columns.cols columns.rows → next + (size L + size R) ≤ length columns.rows →
    middle ≡ next + size L → ArePairs f (boundary L) columns.cols left → ArePairs f (boundary R) columns.cols right →
    Finds f columns.cols L (take (size L) (drop next columns.rows)) left.rows before between →
    Finds f columns.cols R (take (size R) (drop middle columns.rows)) right.rows between after →
    m ≡ matrix op.f (op.op.t3 + columns.cols) (with_boundary op.op.t3 (joined_pairs op columns.cols left.rows right.rows)) →
    last ≡ least_place after (tails op.op.t3 (joined_pairs op columns.cols left.rows right.rows)) →
    ArePairs f (boundary T) columns.cols m × Finds f columns.cols T (take (size T) (drop next columns.rows)) m.rows before last
unfolding joined_pairs
join_walk f op T L R columns left right m next middle before between after last ef eT ok hc room emid pl pr fl fr em el =
    let g = columns.cols in
    let o = op.op in
    let over : op ≡ record { f = f; op = o } = op_over f op ef in
    let gl = take (size L) (drop next columns.rows) in
    let gr = take (size R) (drop middle columns.rows) in
    let hgl : AreVectors f g gl = All-take (IsVector f g) (size L) (drop next columns.rows) (All-drop (IsVector f g) next columns.rows hc) in
    let hgr : AreVectors f g gr = All-take (IsVector f g) (size R) (drop middle columns.rows) (All-drop (IsVector f g) middle columns.rows hc) in
    let long = length-drop next columns.rows in
    let cl : length gl ≡ size L = length-take-le (size L) (drop next columns.rows) (omega arith) in
    let w = o.c + (o.t3 + g) in
    let c1 = candidate f (row_length o) o.t1 o.t3 (digits_at_join f o o.g1) in
    let c2 = candidate f (row_length o) o.t2 o.t3 (digits_at_join f o o.g2) in
    let lin1 = IsLinear-candidate f g o.c o.t1 o.t3 (digits_at_join f o o.g1) (digits_are f o o.g1 ok.0 ok.0.first.rows) in
    let lin2 = IsLinear-candidate f g o.c o.t2 o.t3 (digits_at_join f o o.g2) (digits_are f o o.g2 ok.0 ok.0.second.rows) in
    let vl : AreVectors f (o.t1 + g) left.rows = subst (λ n. AreVectors f n left.rows) (pl.width ∙ ap (λ t. t + g) ok.1) pl.each in
    let vr : AreVectors f (o.t2 + g) right.rows = subst (λ n. AreVectors f n right.rows) (pr.width ∙ ap (λ t. t + g) ok.2) pr.each in
    let cands = map c1 left.rows ++ map c2 right.rows in
    let hcands : AreVectors f w cands =
    All-append (IsVector f w) (map c1 left.rows) (map c2 right.rows) (AreVectors-map f (o.t1 + g) w c1 lin1.vectors left.rows vl)
    (AreVectors-map f (o.t2 + g) w c2 lin2.vectors right.rows vr) in
    let basis = reduced_basis f w cands in
    let b = reduced_basis_is f w cands hcands in
    let joined = join_account f g o L R gl gr ok hgl hgr cl left.rows right.rows fl.faults fr.faults basis b.leads fl.account fr.account
    (reduced_are f w cands hcands) b.span in
    let rows = tails o.c basis in
    let hg = All-append (IsVector f g) gl gr hgl hgr in
    let split = split_account f g (Join o L R) (gl ++ gr) hg rows (fl.faults ++ fr.faults) joined in
    let given : take (size L + size R) (drop next columns.rows) ≡ gl ++ gr =
    take-add (size L) (size R) (drop next columns.rows)
    ∙ ap (λ vs. gl ++ take (size R) vs) (drop-drop (size L) next columns.rows ∙ ap (λ n. drop n columns.rows) (sym emid)) in
    let hrows : AreVectors f (o.t3 + g) rows = AreVectors-tails f o.c (o.t3 + g) basis b.each in
    let m_is : m ≡ matrix f (o.t3 + g) (with_boundary o.t3 rows) =
    em ∙ ap (λ (p : OpValue). matrix p.f (p.op.t3 + g) (with_boundary p.op.t3 (joined_pairs p g left.rows right.rows))) over in
    let last_is : last ≡ least_place before ((fl.faults ++ fr.faults) ++ tails o.t3 rows) =
    el ∙ ap (λ (p : OpValue). least_place after (tails p.op.t3 (joined_pairs p g left.rows right.rows))) over
    ∙ ap (λ a. least_place a (tails o.t3 rows))
    (fr.least ∙ ap (λ a. least_place a fr.faults) fl.least ∙ sym (least_place-append before fl.faults fr.faults))
    ∙ sym (least_place-append before (fl.faults ++ fr.faults) (tails o.t3 rows)) in
    subst (λ (S : Tree). ArePairs f (boundary S) g m × Finds f g S (take (size S) (drop next columns.rows)) m.rows before last) (sym eT) (
      subst (ArePairs f o.t3 g) (sym m_is) (record {
        field = refl;
        width = refl;
        each = All-filter (λ r. not (is_zero_before o.t3 r)) (IsVector f (o.t3 + g)) rows hrows;
      }),
      subst (λ cs. Finds f g (Join o L R) cs m.rows before last) (sym given)
          (subst (λ (k : MatrixValue). Finds f g (Join o L R) (gl ++ gr) k.rows before last) (sym m_is)
          (record { faults = (fl.faults ++ fr.faults) ++ tails o.t3 rows; account = split; least = last_is })),
    )

-- the pairs of a child, as its join takes them
pub child_pairs : (f h : Field) (S T : Tree) (t n g : ℕ) (m : MatrixValue) → h ≡ f → S ≡ T → boundary T ≡ t → n ≡ g → ArePairs f (boundary S) g m → ArePairs h t n m
child_pairs f h S T t n g m eh es et en p =
    subst (λ (k : Field). ArePairs k t n m) (sym eh)
    (subst (λ k. ArePairs f t k m) (sym en) (subst (λ k. ArePairs f k g m) (ap boundary es ∙ et) p))
