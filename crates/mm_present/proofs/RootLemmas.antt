-- The whole tree: what its walk finds is the least given row outside its row space.
use Rattle.std.proofs.Common.{ℕ, ◌+◌, ◌≡◌, Option, None, List, [], ◌∷◌, ◌++◌, length, map, take, drop, refl, sym, ap, ap₂, subst, ◌∙◌, arith}
use Rattle.std.specs.List.{range_with_len}
use Rattle.std.proofs.lemmas.List.{drop_at, length-replicate, take_all}
use Rattle.std.proofs.lemmas.List.FromFn.{length-map-range_with_len}
use Rattle.std.proofs.lemmas.List.Elements.{All-nil, All-cons, All-head, All-tail, All-append}
use Rattle.mm_field.specs.declared.Field.{Field}
use Rattle.mm_field.specs.Vectors.{zeros, IsVector, AreVectors}
use Rattle.mm_field.proofs.PartLemmas.{IsVector-drop}
use Rattle.mm_linear.specs.ReducedEchelon.{reduced_basis}
use Rattle.mm_linear.proofs.ReducedEchelonLemmas.{reduced_basis_is}
use Rattle.mm_logic.specs.Tree as shapes
use Rattle.mm_matrix.specs.Columns.{column}
use Rattle.mm_matrix.specs.MatrixValue.{MatrixValue}
use Rattle.mm_present.specs.Comparing.{first_outside, present_rows}
use Rattle.mm_present.specs.Dependencies.{ArePairs, Finds, after_zeros, least_place, tails}
use Rattle.mm_present.proofs.AccountLemmas.{All-right, pairs_are, root_account}
use Rattle.mm_present.proofs.FaultLemmas.{all_rows_are, columns_are_vectors, first_is_least}
use Rattle.mm_present.proofs.LeastLemmas.{least_place-append}
use Rattle.mm_present.proofs.RankLemmas.{reduced_are}
use Rattle.mm_present.proofs.TailLemmas.{AreVectors-tails}
use Rattle.mm_tree.specs.NamedTree.{Tree, shape}

pub tails_none : (rows : List (List ℕ)) → tails 0 rows ≡ rows
tails_none [] = refl
tails_none (v ∷ vs) = ap (λ us. v ∷ us) (tails_none vs)

faults_are : (f : Field) (t g : ℕ) (faults : List (List ℕ)) → AreVectors f (t + g) (after_zeros t faults) → AreVectors f g faults
faults_are f t g [] h = All-nil (IsVector f g)
faults_are f t g (v ∷ vs) h =
    All-cons (IsVector f g) v vs
    (subst (IsVector f g) (drop_at (zeros t) v t (length-replicate t 0)) (IsVector-drop f t g (zeros t ++ v) (All-head (IsVector f (t + g)) _ _ h)))
    (faults_are f t g vs (All-tail (IsVector f (t + g)) _ _ h))

pub root_walk : (f : Field) (tree : Tree) (given : List (List ℕ)) (columns pairs : MatrixValue) (t : ℕ) (least last : Option ℕ) →
    shapes.IsValid f (shape tree) → AreVectors f (shapes.size (shape tree)) given →
    columns ≡ record { f = f; cols = length given; rows = map (column given) (range_with_len 0 (shapes.size (shape tree))) } →
    t ≡ shapes.boundary (shape tree) → ArePairs f (shapes.boundary (shape tree)) columns.cols pairs →
    Finds f columns.cols (shape tree) (take (shapes.size (shape tree)) (drop 0 columns.rows)) pairs.rows None least →
    last ≡ least_place least (tails t (reduced_basis pairs.f pairs.cols pairs.rows)) →
    last ≡ first_outside f (shapes.size (shape tree)) given (present_rows f tree)
unfolding present_rows
root_walk f tree given columns pairs t least last ok hg ec et p finds el =
    let T = shape tree in
    let n = shapes.size T in
    let g = length given in
    let b = shapes.boundary T in
    let cs = map (column given) (range_with_len 0 n) in
    let hcs = columns_are_vectors f n given hg in
    let eg : columns.cols ≡ g = ap (λ (m : MatrixValue). m.cols) ec in
    let whole : take n (drop 0 columns.rows) ≡ cs =
    ap (λ (m : MatrixValue). take n m.rows) ec ∙ take_all n cs (let l = length-map-range_with_len (column given) 0 n in omega arith) in
    let found : Finds f g T cs pairs.rows None least =
    subst (λ k. Finds f k T cs pairs.rows None least) eg (subst (λ us. Finds f columns.cols T us pairs.rows None least) whole finds) in
    let width : pairs.cols ≡ b + g = p.width ∙ ap (λ k. b + k) eg in
    let rows = pairs.rows in
    let hr : AreVectors f (b + g) rows = subst (λ k. AreVectors f k rows) width p.each in
    let basis = reduced_basis f (b + g) rows in
    let made = reduced_basis_is f (b + g) rows hr in
    let hf = faults_are f b g found.faults
    (All-right (IsVector f (b + g)) rows (after_zeros b found.faults) (pairs_are f g T cs hcs (rows ++ after_zeros b found.faults) found.account.sound)) in
    let all = root_account f g T cs rows found.faults basis made.leads hcs hf found.account (reduced_are f (b + g) rows hr) made.span in
    let hall = All-append (IsVector f g) found.faults (tails b basis) hf (AreVectors-tails f b g basis made.each) in
    let last_is : last ≡ least_place None (found.faults ++ tails b basis) =
    el ∙ ap₂ (λ o k. least_place o (tails k (reduced_basis pairs.f pairs.cols rows))) found.least et
    ∙ ap₂ (λ h k. least_place (least_place None found.faults) (tails b (reduced_basis h k rows))) p.field width
    ∙ sym (least_place-append None found.faults (tails b basis)) in
    first_is_least f T ok given (found.faults ++ tails b basis) hg all hall last last_is ∙ ap (first_outside f n given) (sym (all_rows_are f T))
