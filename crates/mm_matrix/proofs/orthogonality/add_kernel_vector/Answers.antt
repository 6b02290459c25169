use Rattle.std.proofs.Common.{ℕ, ◌≡◌, List, [], ◌∷◌, ◌++◌, Bool, false, cond, map, sym, ap, ◌∙◌, subst, Contains, refl}
use Rattle.std.proofs.lemmas.Bool.{both_ways, false_from_ne_true}
use Rattle.std.specs.Result.{OnOk}
use Rattle.mm_field.specs.declared.Field.{Field}
use Rattle.mm_field.specs.Vectors.{IsVector}
use Rattle.mm_linear.specs.Coordinates.{unit, is_pivot}
use Rattle.mm_linear.proofs.BasisLemmas.{IsVector-unit}
use Rattle.mm_matrix.specs.Projections.{kernel_vector, kernel_vector_at}
use Rattle.mm_matrix.proofs.RowLemmas.{digits_of}
use Rattle.mm_matrix.proofs.NullLemmas.{IsVector-projected, leads_inside}
use Rattle.mm_matrix.proofs.FreeLemmas.{is_lead}
use Rattle.mm_matrix.proofs.orthogonality.add_kernel_vector.Goals as goal

no_rows : (xs : List (List ℕ)) → xs ≡ xs ++ []
no_rows [] = refl
no_rows (x ∷ xs) = ap (λ (z : List (List ℕ)). x ∷ z) (no_rows xs)

pub returns-then-is_lead : goal.returns-then-is_lead
returns-then-is_lead c =
    let null = c.args.null.now in
    let rows = map digits_of c.args.rows.now.items in
    let ks = c.args.leads.now.items in
    let at : Contains ks c.args.j =
    subst (λ (x : List ℕ). Contains x c.args.j) c.deref.ensures.value (c.is_lead.ensures.0 c.if-is_lead.true) in
    let pivot = (is_lead c.args.f null.cols c.args.j rows ks c.requires.reduced c.requires.column).1 at in
    ap (λ (x : List (List ℕ)). record { f = null.f; cols = null.cols; rows = x })
    (no_rows null.rows ∙ ap (λ (b : Bool). null.rows ++ cond b [] (kernel_vector c.args.f null.cols rows ks c.args.j ∷ [])) (sym pivot))

pub push_row-requires : goal.push_row-requires
push_row-requires c =
    let f = c.args.f in
    let n = c.args.null.now.cols in
    let rows = map digits_of c.args.rows.now.items in
    let ks = c.args.leads.now.items in
    let j = c.args.j in
    let is : c.deref-2.result.now ≡ kernel_vector f n rows ks j =
    c.deref-2.ensures.value ∙ c.in_ok-row.ensures ∙ ap (λ (k : ℕ). kernel_vector f k rows ks j) c.cols.ensures in
    subst (λ (g : Field). IsVector g n c.deref-2.result.now) (sym c.requires.field)
    (subst (λ (x : List ℕ). IsVector f n x) (sym is)
    (IsVector-projected f n rows ks (unit n j) (leads_inside f n rows ks c.requires.reduced) (IsVector-unit f n j c.requires.column)))

pub returns : goal.returns
returns c =
    let f = c.args.f in
    let null = c.args.null.now in
    let n = null.cols in
    let rows = map digits_of c.args.rows.now.items in
    let ks = c.args.leads.now.items in
    let j = c.args.j in
    let is : c.deref-2.result.now ≡ kernel_vector f n rows ks j =
    c.deref-2.ensures.value ∙ c.in_ok-row.ensures ∙ ap (λ (k : ℕ). kernel_vector f k rows ks j) c.cols.ensures in
    let free : is_pivot f rows j ≡ false = false_from_ne_true (is_pivot f rows j) (λ p.
    both_ways c.is_lead.result c.if-is_lead.false (c.is_lead.ensures.1
    (subst (λ (x : List ℕ). Contains x j) (sym c.deref.ensures.value) ((is_lead f n j rows ks c.requires.reduced c.requires.column).0 p)))) in
    let more : null.rows ++ (c.deref-2.result.now ∷ []) ≡ null.rows ++ kernel_vector_at f n rows ks j =
    ap (λ (x : List ℕ). null.rows ++ (x ∷ [])) is ∙ ap (λ (b : Bool). null.rows ++ cond b [] (kernel_vector f n rows ks j ∷ [])) (sym free) in
    subst (λ (x : List (List ℕ)). OnOk c.push_row.result (c.push_row.new.self ≡ record { f = null.f; cols = n; rows = x })) more c.push_row.ensures.ok
