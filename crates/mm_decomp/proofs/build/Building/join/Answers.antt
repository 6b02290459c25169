use Rattle.std.proofs.Common.{ℕ, ◌≡◌, None, [], List, sym, ap, subst, ◌∙◌, arith, get_or, ◌-◌, ◌∷◌, Vec, Global, reverse}
use Rattle.mm_field.specs.declared.Field.{Field}
use Rattle.mm_ops.specs.OpValue.{OpValue}
use Rattle.mm_tree.specs.Building.{join_fault}
use Rattle.mm_tree.specs.NamedTree.{Tree}
use Rattle.mm_decomp.specs.Steps.{Fit, IsJoined, IsWide, AreOf, LastFit, Joins, JoinsLast, TreesFit}
use Rattle.mm_decomp.specs.declared.build.Joined.{Joined}
use Rattle.mm_decomp.proofs.FaultLemmas.{pair_fits}
use Rattle.mm_decomp.specs.declared.form.Form.{Form}
use Rattle.mm_decomp.proofs.BuildLemmas.{EndsWith, ends_with, last_two, left_form, right_form, join_made, wide_space}
use Rattle.mm_decomp.proofs.build.Building.join.Goals as goal
use Rattle.std.proofs.Common.{Err}
use Rattle.mm_decomp.specs.declared.build.DecompFault.{DecompFault}
use Rattle.mm_decomp.specs.declared.build.DecompFault.TheVariants.{Width, NoMemory}
use Rattle.mm_decomp.specs.declared.build.Building.{Building}

-- the form at the last place but one
is_left : (v : Vec Form Global) (fit : LastFit (reverse v.items)) (n : ℕ) (l : Form) → n ≡ v.len → l ≡ get_or v.items (n - 2) l → l ≡ (ends_with v.items fit).left
is_left v fit n l en e = e ∙ ap (λ k. get_or v.items (k - 2) l) (en ∙ v.ok.0) ∙ left_form v.items (ends_with v.items fit) l

is_right : (v : Vec Form Global) (fit : LastFit (reverse v.items)) (n : ℕ) (r : Form) → n ≡ v.len → r ≡ get_or v.items (n - 1) r → r ≡ (ends_with v.items fit).right
is_right v fit n r en e = e ∙ ap (λ k. get_or v.items (k - 1) r) (en ∙ v.ok.0) ∙ right_form v.items (ends_with v.items fit) r

pub join_forms-requires : goal.join_forms-requires
join_forms-requires c =
    let v = c.args.self.now.forms in
    let w = ends_with v.items c.requires.fit in
    subst (λ l. Fit l c.index-2.result.now) (sym (is_left v c.requires.fit c.len-n.result c.index.result.now c.len-n.ensures c.index.ensures))
    (subst (λ r. Fit w.left r) (sym (is_right v c.requires.fit c.len-n.result c.index-2.result.now c.len-n.ensures c.index-2.ensures)) w.fit)

pub put_join-requires-clause-two : goal.put_join-requires-clause-two
put_join-requires-clause-two c =
    let w = ends_with c.args.self.now.forms.items c.requires.fit in
    omega (arith, last_two c.args.self.now.forms.items w)

left_field : (f : Field) (forms : List Form) (w : EndsWith forms) → AreOf f (reverse forms) → w.left.basis.f ≡ f
left_field f forms w h =
    let all : AreOf f (w.right ∷ w.left ∷ w.rest) = subst (λ fs. AreOf f fs) w.turned h in
    all 1 w.left (omega arith)

pub put_join-requires-clause-field : goal.put_join-requires-clause-field
put_join-requires-clause-field c =
    let v = c.args.self.now.forms in
    let w = ends_with v.items c.requires.fit in
    ap (λ (o : OpValue). o.f) c.in-Ok.ensures.operator
    ∙ ap (λ (l : Form). l.basis.f) (is_left v c.requires.fit c.len-n.result c.index.result.now c.len-n.ensures c.index.ensures)
    ∙ left_field c.args.self.now.field v.items w c.requires.same ∙ sym c.requires.field

pub returns-in_ok-put_join-in-Ok : goal.returns-in_ok-put_join-in-Ok
returns-in_ok-put_join-in-Ok c k left right shapes b =
    let old = c.args.self.now in
    let v = old.forms in
    let w = ends_with v.items c.requires.fit in
    join_made k left right shapes old c.put_join.new.self c.in-Ok.joined w b
    (subst (λ l. IsJoined l w.right c.in-Ok.joined) (is_left v c.requires.fit c.len-n.result c.index.result.now c.len-n.ensures c.index.ensures)
    (subst (λ r. IsJoined c.index.result.now r c.in-Ok.joined) (is_right v c.requires.fit c.len-n.result c.index-2.result.now c.len-n.ensures c.index-2.ensures)
    c.in-Ok.ensures))
    c.in_ok-put_join-in-Ok.ensures

fault_told : (old new : Building) (w : EndsWith old.forms.items) (l r : Form) (step : ℕ) (fault : DecompFault) → l ≡ w.left → r ≡ w.right →
    Joins l r step (Err fault) → JoinsLast old new step (Err fault)
fault_told old new w l r step (Width n) el er m = (
  m.0,
  λ c left right shapes b.
      wide_space c left right shapes old w b (subst (λ x. IsWide x w.right) el (subst (λ x. IsWide l x) er m.1)),
)
fault_told old new w l r step NoMemory el er m = tt

pub returns-in-Err : goal.returns-in-Err
returns-in-Err c =
    let v = c.args.self.now.forms in
    let w = ends_with v.items c.requires.fit in
    fault_told c.args.self.now c.args.self.now w c.index.result.now c.index-2.result.now c.args.step c.in-Err.fault
    (is_left v c.requires.fit c.len-n.result c.index.result.now c.len-n.ensures c.index.ensures)
    (is_right v c.requires.fit c.len-n.result c.index-2.result.now c.len-n.ensures c.index-2.ensures) c.in-Err.ensures

trees_fit_last : (forms : List Form) (w : EndsWith forms) (trees : List Tree) (made : Joined) → TreesFit (reverse forms) trees → IsJoined w.left w.right made →
    join_fault made.op trees ≡ None
trees_fit_last forms w trees made fit j = go trees (subst (λ fs. TreesFit fs trees) w.turned fit)
  where
    go : (trees : List Tree) → TreesFit (w.right ∷ w.left ∷ w.rest) trees → join_fault made.op trees ≡ None
    go [] f = absurd f
    go (t ∷ []) f = absurd f
    go (r ∷ l ∷ ts) f =
        pair_fits made.op l r (f.0 ∙ sym (ap (λ (o : OpValue). o.op.t1) j.operator)) (f.1 ∙ sym (ap (λ (o : OpValue). o.op.t2) j.operator)) f.2

pub put_join-requires-clause-fits : goal.put_join-requires-clause-fits
put_join-requires-clause-fits c =
    let v = c.args.self.now.forms in
    let w = ends_with v.items c.requires.fit in
    trees_fit_last v.items w c.args.self.now.builder.trees c.in-Ok.joined c.requires.trees
    (subst (λ l. IsJoined l w.right c.in-Ok.joined) (is_left v c.requires.fit c.len-n.result c.index.result.now c.len-n.ensures c.index.ensures)
    (subst (λ r. IsJoined c.index.result.now r c.in-Ok.joined) (is_right v c.requires.fit c.len-n.result c.index-2.result.now c.len-n.ensures c.index-2.ensures)
    c.in-Ok.ensures))
