-- The walk over a tree for the images of its rows.
use Rattle.std.proofs.Common.{ℕ, ◌+◌, ◌≤◌, ◌≡◌, true, false, Bool, ◌&&◌, not, None, List, [], ◌++◌, length, map, take, drop, get_or, refl, sym, ap, ap₂, subst, ◌∙◌, arith, take-add}
use Rattle.std.specs.List.{range_with_len}
use Rattle.std.proofs.lemmas.List.{length-map, length-take-le, length-drop, drop-drop, take_at, drop_at, take_all, map-append}
use Rattle.std.proofs.lemmas.List.FromFn.{length-map-range_with_len}
use Rattle.std.proofs.lemmas.List.Elements.{All-take, All-drop}
use Rattle.mm_field.specs.declared.Field.{Field}
use Rattle.mm_field.specs.Vectors.{times_matrix, IsVector, AreVectors}
use Rattle.mm_linear.specs.Decide.{is_in_span}
use Rattle.mm_linear.specs.ReducedEchelon.{reduced_basis}
use Rattle.mm_linear.proofs.ReducedEchelonLemmas.{reduced_basis_is}
use Rattle.mm_logic.specs.Operator.{row_length}
use Rattle.mm_logic.specs.PresentMatrix.{boundary_rows, internal, internal_row}
use Rattle.mm_logic.specs.Tree as shapes
use Rattle.mm_logic.specs.Tree.Tree.{Join}
use Rattle.mm_logic_laws.specs.MatrixLaws.{digits_at_join}
use Rattle.mm_matrix.specs.Columns.{column}
use Rattle.mm_matrix.specs.MatrixValue.{MatrixValue}
use Rattle.mm_matrix.specs.Orthogonal.{IsNullOf}
use Rattle.mm_matrix.proofs.DotLemmas.{orthogonal_within}
use Rattle.mm_ops.specs.OpValue.{OpValue}
use Rattle.mm_present.specs.Comparing.{first_outside, present_rows}
use Rattle.mm_present.specs.Images.{are_zero, images, joined_images}
use Rattle.mm_present.specs.JoinCache.{AreDigitsOf}
use Rattle.mm_present.specs.Joining.{boundary_matrix, internal_rows, joined_row}
use Rattle.mm_present.specs.declared.join_cache.JoinDigits.{JoinDigits}
use Rattle.mm_present.proofs.CompareLemmas.{position_none, inside_true}
use Rattle.mm_present.proofs.FaultLemmas.{all_rows_are, rows_are_vectors}
use Rattle.mm_present.proofs.ImageLemmas.{all_inside, are_zero-append, images_of_join, internal_images}
use Rattle.mm_present.proofs.NodeLemmas.{op_over}
use Rattle.mm_present.proofs.TreeRows.{length-boundary_rows}
use Rattle.mm_tree.specs.NamedTree.{Tree, shape}

-- ---- one join

pub images_at : (op : OpValue) (digits : JoinDigits) (h : Field) (t3 c : ℕ) (left right none first both coefficients images m : MatrixValue) → AreDigitsOf op digits →
    h ≡ op.f → t3 ≡ op.op.t3 → c ≡ op.op.c → none ≡ record { f = h; cols = t3 + c; rows = [] } → first ≡ record none { rows = none.rows ++ digits.first.rows } →
    both ≡ record first { rows = first.rows ++ digits.second.rows } →
    coefficients ≡ record { f = both.f; cols = length both.rows; rows = map (column both.rows) (range_with_len 0 both.cols) } →
    images ≡ record left { rows = left.rows ++ right.rows } →
    m ≡ record { f = coefficients.f; cols = images.cols; rows = map (times_matrix coefficients.f images.cols images.rows) coefficients.rows } →
    m ≡ record { f = op.f; cols = left.cols; rows = joined_images op left.cols left.rows right.rows }
unfolding joined_images
images_at op digits h t3 c left right none first both coefficients all m d eh e3 ec en e1 e2 eco ei em =
    let d1 = digits_at_join op.f op.op op.op.g1 in
    let d2 = digits_at_join op.f op.op op.op.g2 in
    let n = row_length op.op in
    let none_is : none ≡ record { f = op.f; cols = n; rows = [] } =
    en ∙ ap₂ (λ (k : Field) w. record { f = k; cols = w; rows = [] }) eh (ap₂ (λ a b. a + b) e3 ec) in
    let first_is : first ≡ record { f = op.f; cols = n; rows = d1 } =
    e1 ∙ ap₂ (λ (a b : MatrixValue). record a { rows = a.rows ++ b.rows }) none_is d.first in
    let both_is : both ≡ record { f = op.f; cols = n; rows = d1 ++ d2 } =
    e2 ∙ ap₂ (λ (a b : MatrixValue). record a { rows = a.rows ++ b.rows }) first_is d.second in
    let co_is : coefficients ≡ record { f = op.f; cols = length (d1 ++ d2); rows = map (column (d1 ++ d2)) (range_with_len 0 n) } =
    eco ∙ ap (λ (b : MatrixValue). record { f = b.f; cols = length b.rows; rows = map (column b.rows) (range_with_len 0 b.cols) }) both_is in
    em ∙ ap₂ (λ (a b : MatrixValue). record { f = a.f; cols = b.cols; rows = map (times_matrix a.f b.cols b.rows) a.rows }) co_is ei

-- ---- leaves

and_true : (b : Bool) → b ≡ (b && true)
and_true true = refl
and_true false = refl

pub no_internal : (f : Field) (T : shapes.Tree) (d : ℕ) (cs : List (List ℕ)) (b : Bool) → internal T ≡ 0 → b ≡ (b && are_zero (images f d cs (internal_rows f T)))
unfolding internal_rows
no_internal f T d cs b e =
    and_true b ∙ ap (λ n. b && are_zero (images f d cs (map (internal_row f T) (range_with_len 0 n)))) (sym e)

-- ---- joins

all_four : (a l r o : Bool) → (((a && l) && r) && o) ≡ (a && (o && (l && r)))
all_four true true true o = and_true o
all_four true true false true = refl
all_four true true false false = refl
all_four true false r true = refl
all_four true false r false = refl
all_four false l r o = refl

pub join_images : (f : Field) (op : OpValue) (T L R : shapes.Tree) (columns left right m : MatrixValue) (next middle : ℕ) (before between after last : Bool) →
    op.f ≡ f → T ≡ Join op.op L R → shapes.IsValid f (Join op.op L R) → AreVectors f columns.cols columns.rows →
    next + (shapes.size L + shapes.size R) ≤ length columns.rows → middle ≡ next + shapes.size L →
    left ≡ record { f = f; cols = columns.cols; rows = images f columns.cols (take (shapes.size L) (drop next columns.rows)) (boundary_rows f L) } →
    right ≡ record { f = f; cols = columns.cols; rows = images f columns.cols (take (shapes.size R) (drop middle columns.rows)) (boundary_rows f R) } →
    between ≡ (before && are_zero (images f columns.cols (take (shapes.size L) (drop next columns.rows)) (internal_rows f L))) →
    after ≡ (between && are_zero (images f columns.cols (take (shapes.size R) (drop middle columns.rows)) (internal_rows f R))) →
    m ≡ record { f = op.f; cols = left.cols; rows = take op.op.t3 (joined_images op left.cols left.rows right.rows) } →
    last ≡ (after && are_zero (drop op.op.t3 (joined_images op left.cols left.rows right.rows))) →
    (m ≡ record { f = f; cols = columns.cols; rows = images f columns.cols (take (shapes.size T) (drop next columns.rows)) (boundary_rows f T) })
    × (last ≡ (before && are_zero (images f columns.cols (take (shapes.size T) (drop next columns.rows)) (internal_rows f T))))
unfolding joined_images
join_images f op T L R columns left right m next middle before between after last ef eT ok hc room emid e1 e2 eb ea em el =
    let d = columns.cols in
    let o = op.op in
    let over : op ≡ record { f = f; op = o } = op_over f op ef in
    let gl = take (shapes.size L) (drop next columns.rows) in
    let gr = take (shapes.size R) (drop middle columns.rows) in
    let hl : AreVectors f d gl = All-take (IsVector f d) (shapes.size L) (drop next columns.rows) (All-drop (IsVector f d) next columns.rows hc) in
    let hr : AreVectors f d gr = All-take (IsVector f d) (shapes.size R) (drop middle columns.rows) (All-drop (IsVector f d) middle columns.rows hc) in
    let long = length-drop next columns.rows in
    let cl : length gl ≡ shapes.size L = length-take-le (shapes.size L) (drop next columns.rows) (omega arith) in
    let given : take (shapes.size L + shapes.size R) (drop next columns.rows) ≡ gl ++ gr =
    take-add (shapes.size L) (shapes.size R) (drop next columns.rows)
    ∙ ap (λ vs. gl ++ take (shapes.size R) vs) (drop-drop (shapes.size L) next columns.rows ∙ ap (λ n. drop n columns.rows) (sym emid)) in
    let J = Join o L R in
    let own = images f d (gl ++ gr) (map (joined_row (record { f = f; op = o }) (boundary_matrix f L) (boundary_matrix f R)) (range_with_len o.t3 o.c)) in
    let boundary = images f d (gl ++ gr) (boundary_rows f J) in
    let il = images f d gl (internal_rows f L) in
    let ir = images f d gr (internal_rows f R) in
    let all : joined_images op left.cols left.rows right.rows ≡ boundary ++ own =
    ap (λ (p : OpValue). joined_images p left.cols left.rows right.rows) over
    ∙ ap₂ (λ (a b : MatrixValue). joined_images (record { f = f; op = o }) a.cols a.rows b.rows) e1 e2
    ∙ images_of_join f d o L R gl gr ok hl hr cl in
    let count : length boundary ≡ o.t3 = length-map (boundary_rows f J) (times_matrix f d (gl ++ gr)) ∙ length-boundary_rows f J in
    let first : take o.t3 (joined_images op left.cols left.rows right.rows) ≡ boundary = ap (take o.t3) all ∙ take_at boundary own o.t3 count in
    let rest : drop o.t3 (joined_images op left.cols left.rows right.rows) ≡ own = ap (drop o.t3) all ∙ drop_at boundary own o.t3 count in
    subst (λ (S : shapes.Tree). (m ≡ record { f = f; cols = d; rows = images f d (take (shapes.size S) (drop next columns.rows)) (boundary_rows f S) })
    × (last ≡ (before && are_zero (images f d (take (shapes.size S) (drop next columns.rows)) (internal_rows f S))))) (sym eT) (
      em ∙ ap₂ (λ (k : Field) rows. record { f = k; cols = left.cols; rows = rows }) ef first
          ∙ ap (λ (a : MatrixValue). record { f = f; cols = a.cols; rows = boundary }) e1
          ∙ ap (λ cs. record { f = f; cols = d; rows = images f d cs (boundary_rows f J) }) (sym given),
      el ∙ ap₂ (λ a rows. a && are_zero rows) (ea ∙ ap (λ b. b && are_zero ir) eb) rest
          ∙ all_four before (are_zero il) (are_zero ir) (are_zero own)
          ∙ ap (λ z. before && z) (ap (λ z. are_zero own && z) (sym (are_zero-append il ir)) ∙ sym (are_zero-append own (il ++ ir))
          ∙ ap are_zero (sym (internal_images f d o L R gl gr ok hl hr cl)))
          ∙ ap (λ cs. before && are_zero (images f d cs (internal_rows f J))) (sym given),
    )

-- ---- the whole tree

pub all_images_zero : (f : Field) (tree : Tree) (given : List (List ℕ)) (space kernel columns rows : MatrixValue) (zero : Bool) → shapes.IsValid f (shape tree) →
    AreVectors f (shapes.size (shape tree)) given → space ≡ record { f = f; cols = shapes.size (shape tree); rows = reduced_basis f (shapes.size (shape tree)) given } →
    IsNullOf space kernel → AreVectors kernel.f kernel.cols kernel.rows →
    columns ≡ record { f = kernel.f; cols = length kernel.rows; rows = map (column kernel.rows) (range_with_len 0 kernel.cols) } →
    rows ≡ record {
      f = f;
      cols = columns.cols;
      rows = images f columns.cols (take (shapes.size (shape tree)) (drop 0 columns.rows)) (boundary_rows f (shape tree));
    } →
    zero ≡ (true && are_zero (images f columns.cols (take (shapes.size (shape tree)) (drop 0 columns.rows)) (internal_rows f (shape tree)))) →
    zero ≡ true → are_zero rows.rows ≡ true → None ≡ first_outside f (shapes.size (shape tree)) (present_rows f tree) given
unfolding present_rows
all_images_zero f tree given space kernel columns rows zero ok hg es null hk ec er ez z1 z2 =
    let T = shape tree in
    let n = shapes.size T in
    let basis = reduced_basis f n given in
    let made = reduced_basis_is f n given hg in
    let ns : IsNullOf (record { f = f; cols = n; rows = basis }) kernel = subst (λ (s : MatrixValue). IsNullOf s kernel) es null in
    let hn : AreVectors f n kernel.rows = subst (λ k. AreVectors f k kernel.rows) ns.cols (subst (λ h. AreVectors h kernel.cols kernel.rows) ns.field hk) in
    let d = length kernel.rows in
    let cs = map (column kernel.rows) (range_with_len 0 n) in
    let columns_are : columns ≡ record { f = kernel.f; cols = d; rows = cs } =
    ec ∙ ap (λ k. record { f = kernel.f; cols = d; rows = map (column kernel.rows) (range_with_len 0 k) }) ns.cols in
    let whole : take n (drop 0 columns.rows) ≡ cs =
    ap (λ (m : MatrixValue). take n m.rows) columns_are ∙ take_all n cs (let l = length-map-range_with_len (column kernel.rows) 0 n in omega arith) in
    let width : columns.cols ≡ d = ap (λ (m : MatrixValue). m.cols) columns_are in
    let zero_boundary : are_zero (images f d cs (boundary_rows f T)) ≡ true =
    ap₂ (λ k us. are_zero (images f k us (boundary_rows f T))) (sym width) (sym whole) ∙ ap (λ (m : MatrixValue). are_zero m.rows) (sym er) ∙ z2 in
    let zero_internal : are_zero (images f d cs (internal_rows f T)) ≡ true =
    ap₂ (λ k us. are_zero (images f k us (internal_rows f T))) (sym width) (sym whole) ∙ sym ez ∙ z1 in
    let all = boundary_rows f T ++ internal_rows f T in
    let zero_all : are_zero (images f d cs all) ≡ true =
    ap are_zero (map-append (times_matrix f d cs) (boundary_rows f T) (internal_rows f T))
    ∙ are_zero-append (images f d cs (boundary_rows f T)) (images f d cs (internal_rows f T)) ∙ ap₂ (λ a b. a && b) zero_boundary zero_internal in
    let hall = rows_are_vectors f T ok in
    let inside = all_inside f n given kernel.rows hg hn
    (λ x hx o. (ns.exactly x hx).1 (orthogonal_within f n basis given x hg made.span.1 o)) all hall zero_all in
    position_none (λ row. not (is_in_span f n given row)) all [] (λ k l. inside_true f n given (get_or all k []) hg (hall k [] l) (inside k [] l))
    ∙ ap (λ rows. first_outside f n rows given) (sym (all_rows_are f T))

pub length-joined_images : (op : OpValue) (d : ℕ) (left right : List (List ℕ)) → length (joined_images op d left right) ≡ op.op.t3 + op.op.c
unfolding joined_images
length-joined_images op d left right =
    let rows = map (column (digits_at_join op.f op.op op.op.g1 ++ digits_at_join op.f op.op op.op.g2)) (range_with_len 0 (row_length op.op)) in
    length-map rows (times_matrix op.f d (left ++ right)) ∙ length-map-range_with_len _ 0 (row_length op.op)

-- how many images a child has
pub child_images : (f : Field) (S T : shapes.Tree) (t : ℕ) (cs : List (List ℕ)) (d : ℕ) (m : MatrixValue) → S ≡ T → shapes.boundary T ≡ t →
    m ≡ record { f = f; cols = d; rows = images f d cs (boundary_rows f S) } → length m.rows ≡ t
child_images f S T t cs d m es et em =
    ap (λ (k : MatrixValue). length k.rows) em ∙ length-map (boundary_rows f S) (times_matrix f d cs) ∙ length-boundary_rows f S ∙ ap shapes.boundary es ∙ et
