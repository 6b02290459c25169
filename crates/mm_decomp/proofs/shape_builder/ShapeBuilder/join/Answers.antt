use Rattle.std.proofs.Common.{rules, ℕ, ◌+◌, ◌-◌, ◌<◌, ◌≤◌, ◌≡◌, max, [], ◌∷◌, ◌++◌, length, take, get_or, refl, sym, ap, ap₂, subst, ◌∙◌, arith}
use Rattle.std.specs.Vec.{vec_len, vec_capacity}
use Rattle.mm_decomp.specs.declared.shape.Step.TheVariants as steps
use Rattle.mm_decomp.specs.declared.shape_builder.ShapeBuilder.TheInside.{Inside}
use Rattle.mm_decomp.specs.ShapeBuilding.{IsKept, join_fault}
use Rattle.mm_decomp.specs.Shapes.{after_steps, depth}
use Rattle.mm_decomp.proofs.ShapeBuilderLemmas.{HasTwo, has_two, count_kept, left_depth, right_depth, too_deep, may_join, kept_join}
use Rattle.mm_decomp.proofs.shape_builder.ShapeBuilder.join.Goals as goal

-- the greater depth of the last two
greatest : (b : Inside) (h : IsKept b) (w : HasTwo (after_steps [] b.steps.items)) (n l r : ℕ) → n ≡ length (after_steps [] b.steps.items) →
    l ≡ get_or b.depths.items (n - 2) l → r ≡ get_or b.depths.items (n - 1) r → max l r ≡ max (depth w.left) (depth w.right)
greatest b h w n l r en el er =
    ap₂ max (el ∙ left_depth (after_steps [] b.steps.items) w b.depths.items n l h.depths en)
    (er ∙ right_depth (after_steps [] b.steps.items) w b.depths.items n r h.depths en)

pub returns-then-depth-ge-MAX_DEPTH-clause-answers : goal.returns-then-depth-ge-MAX_DEPTH-clause-answers
returns-then-depth-ge-MAX_DEPTH-clause-answers c =
    let b = c.self.inside in
    let n = c.len-n.ensures ∙ count_kept b c.self.invariant in
    let w = has_two (after_steps [] b.steps.items) (let e = n in let l = c.if-n-lt2.false in omega (arith, e, l)) in
    let g = c.max-depth.ensures ∙ greatest b c.self.invariant w c.len-n.result c.index.result.now c.index-2.result.now n c.index.ensures c.index-2.ensures in
    ap join_fault (sym c.self.view_is) ∙ too_deep b.steps.items w (let l = c.if-depth-ge-MAX_DEPTH.true in subst (λ m. 1023 ≤ m) g l)

pub invariant_of-self : goal.invariant_of-self
invariant_of-self c =
    let b = c.self.inside in
    let n = c.len-n.ensures ∙ count_kept b c.self.invariant in
    let w = has_two (after_steps [] b.steps.items) (let e = n in let l = c.if-n-lt2.false in omega (arith, e, l)) in
    let g = c.max-depth.ensures ∙ greatest b c.self.invariant w c.len-n.result c.index.result.now c.index-2.result.now n c.index.ensures c.index-2.ensures in
    let pushed : c.push-2.new.self.items ≡ b.steps.items ++ steps.Join ∷ [] = search rules in
    let deep : c.push.new.self.items ≡ c.truncate.new.self.items ++ (c.max-depth.result + 1) ∷ [] = search rules in
    let l1 : vec_len c.push-2.new.self ≡ vec_len b.steps + 1 = search rules in
    let l2 : vec_len c.push.new.self ≡ vec_len c.truncate.new.self + 1 = search rules in
    let cut : vec_len c.truncate.new.self ≡ c.len-n.result - 2 = search rules in
    let cap : vec_capacity b.steps ≤ vec_capacity c.push-2.new.self = c.push-2.ensures.capacity in
    let room = c.self.invariant.room in
    let two = c.if-n-lt2.false in
    let now = c.len-n.ensures in
    kept_join b _ w c.self.invariant (subst (λ m. m < 1023) g c.if-depth-ge-MAX_DEPTH.false) pushed
    (deep ∙ ap (λ xs. xs ++ (c.max-depth.result + 1) ∷ []) c.truncate.ensures.items ∙ ap₂ (λ (k m : ℕ). take (k - 2) b.depths.items ++ (m + 1) ∷ []) n g) refl (omega (arith, l1, l2, cut, cap, room, two, now))

pub returns-clause-answers : goal.returns-clause-answers
returns-clause-answers c =
    let b = c.self.inside in
    let n = c.len-n.ensures ∙ count_kept b c.self.invariant in
    let w = has_two (after_steps [] b.steps.items) (let e = n in let l = c.if-n-lt2.false in omega (arith, e, l)) in
    let g = c.max-depth.ensures ∙ greatest b c.self.invariant w c.len-n.result c.index.result.now c.index-2.result.now n c.index.ensures c.index-2.ensures in
    ap join_fault (sym c.self.view_is) ∙ may_join b.steps.items w (subst (λ m. m < 1023) g c.if-depth-ge-MAX_DEPTH.false)
