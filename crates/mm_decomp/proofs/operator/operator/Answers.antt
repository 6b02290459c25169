use Rattle.std.proofs.Common.{ℕ, ◌+◌, ◌-◌, ◌≡◌, List, ◌++◌, length, map, take, drop, refl, ap, ap₂, sym, subst, ◌∙◌, arith, Ok, Err, None, Result}
use Rattle.std.specs.List.{range_with_len, All}
use Rattle.std.specs.Result.{IsOk}
use Rattle.std.proofs.lemmas.Option.{none-some}
use Rattle.mm_field.specs.declared.Field.{Field}
use Rattle.mm_field.specs.Vectors.{AreDigits}
use Rattle.mm_linear.specs.Coordinates.{unit}
use Rattle.mm_logic.specs.Operator.{Op, IsBoundary}
use Rattle.mm_matrix.specs.MatrixValue.{MatrixValue}
use Rattle.mm_ops.specs.OpFaults.{Makes, fault_of}
use Rattle.mm_ops.specs.OpValue.{OpValue, operator}
use Rattle.mm_ops.specs.declared.op.OpFault.{OpFault}
use Rattle.mm_ops.proofs.ValidOps.{valid_ops_exactly}
use Rattle.mm_decomp.specs.BuiltTree.{built_operator}
use Rattle.mm_decomp.specs.Forms.{AreBases, AreCoordinates}
use Rattle.mm_decomp.proofs.OperatorLemmas.{IsFound, is_found}
use Rattle.mm_decomp.proofs.operator.operator.Goals as goal

found_for : (basis first second stacked all found : MatrixValue) → AreBases basis.f basis.cols basis first second →
    stacked ≡ record { f = basis.f; cols = basis.cols; rows = basis.rows ++ first.rows } →
    all ≡ record { f = stacked.f; cols = stacked.cols; rows = stacked.rows ++ second.rows } → AreCoordinates all found →
    IsFound basis.f basis.cols basis.rows first.rows second.rows found
found_for basis first second stacked all found h es ea a =
    is_found basis.f basis.cols basis.rows first.rows second.rows found h.reduced.0 h.reduced.1 h.reduced.2 h.few.0 h.few.1 h.few.2
    (subst (λ (m : MatrixValue). AreCoordinates m found)
    (ea ∙ ap (λ (m : MatrixValue). record { f = m.f; cols = m.cols; rows = m.rows ++ second.rows }) es) a)

digits_in : (f g : Field) (t r : ℕ) (rows xs : List (List ℕ)) → IsBoundary f t r rows → xs ≡ rows → f ≡ g → All (λ v. AreDigits g v) xs
digits_in f g t r rows xs b e ef =
    subst (λ vs. All (λ v. AreDigits g v) vs) (sym e)
    (subst (λ (h : Field). All (λ v. AreDigits h v) rows) ef (λ k d l. (b.rows k d l).digits))

same_operator : (f : Field) (g : ℕ) (basis first second : List (List ℕ)) (t1 t2 t3 c : ℕ) (g1 g2 : List (List ℕ)) → t1 ≡ length first →
    t2 ≡ length second → t3 ≡ length basis → c ≡ (built_operator f g basis first second).c → g1 ≡ (built_operator f g basis first second).g1 →
    g2 ≡ (built_operator f g basis first second).g2 →
    operator t1 t2 t3 c g1 g2 (map (unit (t3 + c)) (range_with_len 0 t3)) ≡ built_operator f g basis first second
same_operator f g basis first second t1 t2 t3 c g1 g2 e1 e2 e3 e4 e5 e6 =
    ap₂ (λ (x y : ℕ). operator x y t3 c g1 g2 (map (unit (t3 + c)) (range_with_len 0 t3))) e1 e2
    ∙ ap₂ (λ (x y : ℕ). operator (length first) (length second) x y g1 g2 (map (unit (x + y)) (range_with_len 0 x))) e3 e4
    ∙ ap₂ (λ (x y : List (List ℕ)). record (built_operator f g basis first second) { g1 = x; g2 = y }) e5 e6

made_ok : (f : Field) (op : Op) (r : Result OpValue OpFault) → (fault_of f op ≡ None) → Makes f op r → IsOk r
made_ok f op (Ok made) none m = refl
made_ok f op (Err fault) none m = absurd (none-some fault (sym none ∙ m))

made_is : (f : Field) (op : Op) (r : Result OpValue OpFault) (made : OpValue) → r ≡ Ok made → Makes f op r → made ≡ record { f = f; op = op }
made_is f op r made e m = let ok : Makes f op (Ok made) = subst (λ x. Makes f op x) e m in ok.1

pub generator-requires-clause-short : goal.generator-requires-clause-short
generator-requires-clause-short c =
    (found_for c.args.basis.now c.args.first.now c.args.second.now c.in_ok-stack.field-0 c.in_ok-all.all c.in_ok-found.found c.requires
    c.in_ok-stack.ensures c.in_ok-all.ensures c.in_ok-found.ensures).short

pub generator-requires-2-clause-short : goal.generator-requires-2-clause-short
generator-requires-2-clause-short c =
    (found_for c.args.basis.now c.args.first.now c.args.second.now c.in_ok-stack.field-0 c.in_ok-all.all c.in_ok-found.found c.requires
    c.in_ok-stack.ensures c.in_ok-all.ensures c.in_ok-found.ensures).short

pub overflow_cast-c : goal.overflow_cast-c
overflow_cast-c c =
    let h = found_for c.args.basis.now c.args.first.now c.args.second.now c.in_ok-stack.field-0 c.in_ok-all.all c.in_ok-found.found c.requires
    c.in_ok-stack.ensures c.in_ok-all.ensures c.in_ok-found.ensures in
    omega (arith, c.saturating_sub-c.ensures, c.cols.ensures, h.short)

pub new-made-requires-clause-first : goal.new-made-requires-clause-first
new-made-requires-clause-first c =
    let b = c.args.basis.now in
    let h = found_for b c.args.first.now c.args.second.now c.in_ok-stack.field-0 c.in_ok-all.all c.in_ok-found.found c.requires
    c.in_ok-stack.ensures c.in_ok-all.ensures c.in_ok-found.ensures in
    digits_in b.f c.field.result _ _ _ c.in_ok-g1.g1 h.valid.first
    (c.in_ok-g1.ensures ∙ ap₂ (λ (k n : ℕ). take k (drop n c.in_ok-found.found.rows)) c.rows-t1.ensures.count c.rows-t3.ensures.count ∙ h.first_is)
    (sym c.field.ensures)

pub new-made-requires-clause-second : goal.new-made-requires-clause-second
new-made-requires-clause-second c =
    let b = c.args.basis.now in
    let h = found_for b c.args.first.now c.args.second.now c.in_ok-stack.field-0 c.in_ok-all.all c.in_ok-found.found c.requires
    c.in_ok-stack.ensures c.in_ok-all.ensures c.in_ok-found.ensures in
    digits_in b.f c.field.result _ _ _ c.in_ok-g2.g2 h.valid.second
    (c.in_ok-g2.ensures
    ∙ ap₂ (λ (k n : ℕ). take k (drop n c.in_ok-found.found.rows)) c.rows-t2.ensures.count (ap₂ (λ i j. i + j) c.rows-t3.ensures.count c.rows-t1.ensures.count)
    ∙ h.second_is)
    (sym c.field.ensures)

made_of : (basis first second found : MatrixValue) (f : Field) (t1 t2 t3 n : ℕ) (g1 g2 : List (List ℕ)) (r : Result OpValue OpFault) →
    IsFound basis.f basis.cols basis.rows first.rows second.rows found → f ≡ basis.f → t1 ≡ length first.rows → t2 ≡ length second.rows →
    t3 ≡ length basis.rows → n ≡ found.cols - t3 → g1 ≡ take t1 (drop t3 found.rows) → g2 ≡ take t2 (drop (t3 + t1) found.rows) →
    Makes f (operator t1 t2 t3 n g1 g2 (map (unit (t3 + n)) (range_with_len 0 t3))) r →
    IsOk r × ((made : OpValue) → r ≡ Ok made → made ≡ record { f = basis.f; op = built_operator basis.f basis.cols basis.rows first.rows second.rows })
made_of basis first second found f t1 t2 t3 n g1 g2 r h ef e1 e2 e3 en eg1 eg2 m =
    let op = built_operator basis.f basis.cols basis.rows first.rows second.rows in
    let size = h.size in
    let same =
    same_operator basis.f basis.cols basis.rows first.rows second.rows t1 t2 t3 n g1 g2 e1 e2 e3 (en ∙ ap₂ (λ i j. i - j) size e3)
    (eg1 ∙ ap₂ (λ (i j : ℕ). take i (drop j found.rows)) e1 e3 ∙ h.first_is)
    (eg2 ∙ ap₂ (λ (i j : ℕ). take i (drop j found.rows)) e2 (ap₂ (λ i j. i + j) e3 e1) ∙ h.second_is) in
    let m2 : Makes basis.f op r = subst (λ (x : Op). Makes basis.f x r) same (subst (λ (x : Field). Makes x (operator t1 t2 t3 n g1 g2 (map (unit (t3 + n)) (range_with_len 0 t3))) r) ef m) in
    let v = h.valid in
    let none = (valid_ops_exactly basis.f op (λ k d l. (v.first.rows k d l).digits) (λ k d l. (v.second.rows k d l).digits) (λ k d l. (v.third.rows k d l).digits)).1 v in
    (made_ok basis.f op r none m2, λ made e. made_is basis.f op r made e m2)

pub unwrap-requires : goal.unwrap-requires
unwrap-requires c =
    let b = c.args.basis.now in
    let h = found_for b c.args.first.now c.args.second.now c.in_ok-stack.field-0 c.in_ok-all.all c.in_ok-found.found c.requires
    c.in_ok-stack.ensures c.in_ok-all.ensures c.in_ok-found.ensures in
    (made_of b c.args.first.now c.args.second.now c.in_ok-found.found c.field.result c.rows-t1.result c.rows-t2.result c.rows-t3.result c.saturating_sub-c.result
    c.in_ok-g1.g1 c.in_ok-g2.g2 c.new-made.result h c.field.ensures c.rows-t1.ensures.count c.rows-t2.ensures.count c.rows-t3.ensures.count
    (omega (arith, c.saturating_sub-c.ensures, c.cols.ensures)) c.in_ok-g1.ensures c.in_ok-g2.ensures c.new-made.ensures).0

pub returns : goal.returns
returns c =
    let b = c.args.basis.now in
    let h = found_for b c.args.first.now c.args.second.now c.in_ok-stack.field-0 c.in_ok-all.all c.in_ok-found.found c.requires
    c.in_ok-stack.ensures c.in_ok-all.ensures c.in_ok-found.ensures in
    (made_of b c.args.first.now c.args.second.now c.in_ok-found.found c.field.result c.rows-t1.result c.rows-t2.result c.rows-t3.result c.saturating_sub-c.result
    c.in_ok-g1.g1 c.in_ok-g2.g2 c.new-made.result h c.field.ensures c.rows-t1.ensures.count c.rows-t2.ensures.count c.rows-t3.ensures.count
    (omega (arith, c.saturating_sub-c.ensures, c.cols.ensures)) c.in_ok-g1.ensures c.in_ok-g2.ensures c.new-made.ensures).1 c.unwrap.result c.unwrap.ensures
