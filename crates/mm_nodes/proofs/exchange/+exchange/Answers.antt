use Rattle.std.proofs.Common.{rules, ◌≡◌, ◌<◌, ◌≤◌, ◌-◌, length, refl, sym, ap, ◌∙◌, subst, arith}
use Rattle.mm_nodes.specs.KeptTrees.{KeptTree, count, row_sum, path_in, remade}
use Rattle.mm_nodes.specs.KeptTrees.KeptTree.{Two}
use Rattle.mm_nodes.specs.KeptNodes.{tree_of, IsCounted}
use Rattle.mm_nodes.proofs.ExchangeLemmas.{left_depth, right_depth, left_few, right_few, left_remade, right_remade}
use Rattle.mm_nodes.proofs.exchange.+exchange.Goals as goal

pub exchange-part-requires : goal.exchange-part-requires
exchange-part-requires g t c =
    let R : KeptTree g.row.N.Denot = tree_of c.args.kept.now in
    let n = c.in-Two.above.entry in
    let a : KeptTree g.row.N.Denot = tree_of c.in-Two.left.value in
    let b : KeptTree g.row.N.Denot = tree_of c.in-Two.right.value in
    let new = tree_of c.args.new.now in
    let kept : R ≡ Two n a b = ap tree_of c.in-Two.is in
    let later = c.take_last-entry.new.made.items in
    let before : c.sums-first.result.nodes ≡ count a = c.sums-first.ensures.nodes ∙ ap (λ x. count (tree_of x)) c.deref.ensures in
    let turn : c.args.at - 1 < count a = subst (λ k. c.args.at - 1 < k) before c.if-at-first.true in
    let x = c.deref_mut.result.now in
    let d : tree_of x ≡ a = ap tree_of c.deref_mut.ensures.value in
    let whole = left_remade g.N.Keeps.rows R new n a b kept c.args.at c.if-at-eq0.false turn (c.args.at - 1) refl c.args.made.now.items later c.take_last-entry.result c.args.depth c.requires.deep c.requires.few c.take_last-entry.ensures in
    let sums = subst (IsCounted g.N.Keeps.rows) c.in-Two.is c.requires.counted in
    let counted : IsCounted g.N.Keeps.rows x = subst (IsCounted g.N.Keeps.rows) (sym c.deref_mut.ensures.value) sums.2 in
    let size = ap count kept in
    let here = ap count d in
    let inside = c.requires.within in
    let within : (c.args.at - 1) < count (tree_of x) = omega (arith, size, here, inside, turn, before) in
    let deep : c.args.depth - 1 ≡ length (path_in (c.args.at - 1) (tree_of x)) = left_depth g.N.Keeps.rows R new n a b kept c.args.at c.if-at-eq0.false turn (c.args.at - 1) refl c.args.made.now.items later c.take_last-entry.result c.args.depth c.requires.deep c.requires.few c.take_last-entry.ensures ∙ ap (λ y. length (path_in (c.args.at - 1) y)) (sym d) in
    let few : length later ≤ c.args.depth - 1 = left_few g.N.Keeps.rows R new n a b kept c.args.at c.if-at-eq0.false turn (c.args.at - 1) refl c.args.made.now.items later c.take_last-entry.result c.args.depth c.requires.deep c.requires.few c.take_last-entry.ensures in
    let all = ap count whole in
    let part = ap (λ y. count (remade (path_in (c.args.at - 1) y) y new later)) d in
    let most = c.requires.nodes in
    let nodes : count (remade (path_in (c.args.at - 1) (tree_of x)) (tree_of x) new later) < 100000 = omega (arith, all, part, most) in
    let all_rows = ap (row_sum g.N.Keeps.rows) whole in
    let part_rows = ap (λ y. row_sum g.N.Keeps.rows (remade (path_in (c.args.at - 1) y) y new later)) d in
    let most_rows = c.requires.rows in
    let rows : row_sum g.N.Keeps.rows (remade (path_in (c.args.at - 1) (tree_of x)) (tree_of x) new later) < 9223372036854775808 = omega (arith, all_rows, part_rows, most_rows) in
    let down = c.decreases in
    search rules

pub exchange-part-requires-else-at-first : goal.exchange-part-requires-else-at-first
exchange-part-requires-else-at-first g t c =
    let R : KeptTree g.row.N.Denot = tree_of c.args.kept.now in
    let n = c.in-Two.above.entry in
    let a : KeptTree g.row.N.Denot = tree_of c.in-Two.left.value in
    let b : KeptTree g.row.N.Denot = tree_of c.in-Two.right.value in
    let new = tree_of c.args.new.now in
    let kept : R ≡ Two n a b = ap tree_of c.in-Two.is in
    let later = c.take_last-entry.new.made.items in
    let before : c.sums-first.result.nodes ≡ count a = c.sums-first.ensures.nodes ∙ ap (λ x. count (tree_of x)) c.deref.ensures in
    let turn : count a ≤ c.args.at - 1 = subst (λ k. k ≤ c.args.at - 1) before c.if-at-first.false in
    let lower : c.args.at - 1 - c.sums-first.result.nodes ≡ c.args.at - 1 - count a = ap (λ k. c.args.at - 1 - k) before in
    let x = c.deref_mut-else-at-first.result.now in
    let d : tree_of x ≡ b = ap tree_of c.deref_mut-else-at-first.ensures.value in
    let whole = right_remade g.N.Keeps.rows R new n a b kept c.args.at c.if-at-eq0.false turn (c.args.at - 1 - c.sums-first.result.nodes) lower c.args.made.now.items later c.take_last-entry.result c.args.depth c.requires.deep c.requires.few c.take_last-entry.ensures in
    let sums = subst (IsCounted g.N.Keeps.rows) c.in-Two.is c.requires.counted in
    let counted : IsCounted g.N.Keeps.rows x = subst (IsCounted g.N.Keeps.rows) (sym c.deref_mut-else-at-first.ensures.value) sums.3 in
    let size = ap count kept in
    let here = ap count d in
    let inside = c.requires.within in
    let within : (c.args.at - 1 - c.sums-first.result.nodes) < count (tree_of x) = omega (arith, size, here, inside, turn, before) in
    let deep : c.args.depth - 1 ≡ length (path_in (c.args.at - 1 - c.sums-first.result.nodes) (tree_of x)) = right_depth g.N.Keeps.rows R new n a b kept c.args.at c.if-at-eq0.false turn (c.args.at - 1 - c.sums-first.result.nodes) lower c.args.made.now.items later c.take_last-entry.result c.args.depth c.requires.deep c.requires.few c.take_last-entry.ensures ∙ ap (λ y. length (path_in (c.args.at - 1 - c.sums-first.result.nodes) y)) (sym d) in
    let few : length later ≤ c.args.depth - 1 = right_few g.N.Keeps.rows R new n a b kept c.args.at c.if-at-eq0.false turn (c.args.at - 1 - c.sums-first.result.nodes) lower c.args.made.now.items later c.take_last-entry.result c.args.depth c.requires.deep c.requires.few c.take_last-entry.ensures in
    let all = ap count whole in
    let part = ap (λ y. count (remade (path_in (c.args.at - 1 - c.sums-first.result.nodes) y) y new later)) d in
    let most = c.requires.nodes in
    let nodes : count (remade (path_in (c.args.at - 1 - c.sums-first.result.nodes) (tree_of x)) (tree_of x) new later) < 100000 = omega (arith, all, part, most) in
    let all_rows = ap (row_sum g.N.Keeps.rows) whole in
    let part_rows = ap (λ y. row_sum g.N.Keeps.rows (remade (path_in (c.args.at - 1 - c.sums-first.result.nodes) y) y new later)) d in
    let most_rows = c.requires.rows in
    let rows : row_sum g.N.Keeps.rows (remade (path_in (c.args.at - 1 - c.sums-first.result.nodes) (tree_of x)) (tree_of x) new later) < 9223372036854775808 = omega (arith, all_rows, part_rows, most_rows) in
    let down = c.decreases in
    search rules

pub renew-requires-clause-few : goal.renew-requires-clause-few
renew-requires-clause-few g t c =
    let R : KeptTree g.row.N.Denot = tree_of c.args.kept.now in
    let n = c.in-Two.above.entry in
    let a : KeptTree g.row.N.Denot = tree_of c.in-Two.left.value in
    let b : KeptTree g.row.N.Denot = tree_of c.in-Two.right.value in
    let new = tree_of c.args.new.now in
    let kept : R ≡ Two n a b = ap tree_of c.in-Two.is in
    let later = c.take_last-entry.new.made.items in
    let before : c.sums-first.result.nodes ≡ count a = c.sums-first.ensures.nodes ∙ ap (λ x. count (tree_of x)) c.deref.ensures in
    let turn : c.args.at - 1 < count a = subst (λ k. c.args.at - 1 < k) before c.if-at-first.true in
    let whole = left_remade g.N.Keeps.rows R new n a b kept c.args.at c.if-at-eq0.false turn (c.args.at - 1) refl c.args.made.now.items later c.take_last-entry.result c.args.depth c.requires.deep c.requires.few c.take_last-entry.ensures in
    let d : tree_of c.deref_mut.result.now ≡ a = ap tree_of c.deref_mut.ensures.value in
    let part : tree_of c.exchange-part.new.kept ≡ remade (path_in (c.args.at - 1) a) a new later = c.exchange-part.ensures.tree ∙ ap (λ y. remade (path_in (c.args.at - 1) y) y new later) d in
    let all = ap count whole in
    let here = ap count part in
    let one = c.exchange-part.ensures.sums.0 in
    let two = c.sums-second.ensures.nodes ∙ ap (λ x. count (tree_of x)) c.deref-in-Two.ensures in
    let most = c.requires.nodes in
    omega (arith, all, here, one, two, most)

pub renew-requires-clause-small : goal.renew-requires-clause-small
renew-requires-clause-small g t c =
    let R : KeptTree g.row.N.Denot = tree_of c.args.kept.now in
    let n = c.in-Two.above.entry in
    let a : KeptTree g.row.N.Denot = tree_of c.in-Two.left.value in
    let b : KeptTree g.row.N.Denot = tree_of c.in-Two.right.value in
    let new = tree_of c.args.new.now in
    let kept : R ≡ Two n a b = ap tree_of c.in-Two.is in
    let later = c.take_last-entry.new.made.items in
    let before : c.sums-first.result.nodes ≡ count a = c.sums-first.ensures.nodes ∙ ap (λ x. count (tree_of x)) c.deref.ensures in
    let turn : c.args.at - 1 < count a = subst (λ k. c.args.at - 1 < k) before c.if-at-first.true in
    let whole = left_remade g.N.Keeps.rows R new n a b kept c.args.at c.if-at-eq0.false turn (c.args.at - 1) refl c.args.made.now.items later c.take_last-entry.result c.args.depth c.requires.deep c.requires.few c.take_last-entry.ensures in
    let d : tree_of c.deref_mut.result.now ≡ a = ap tree_of c.deref_mut.ensures.value in
    let part : tree_of c.exchange-part.new.kept ≡ remade (path_in (c.args.at - 1) a) a new later = c.exchange-part.ensures.tree ∙ ap (λ y. remade (path_in (c.args.at - 1) y) y new later) d in
    let all = ap (row_sum g.N.Keeps.rows) whole in
    let here = ap (row_sum g.N.Keeps.rows) part in
    let one = c.exchange-part.ensures.sums.1 in
    let two = c.sums-second.ensures.rows ∙ ap (λ x. (row_sum g.N.Keeps.rows) (tree_of x)) c.deref-in-Two.ensures in
    let most = c.requires.rows in
    omega (arith, all, here, one, two, most)

pub returns-then-at-first-clause-tree : goal.returns-then-at-first-clause-tree
returns-then-at-first-clause-tree g t c =
    let R : KeptTree g.row.N.Denot = tree_of c.args.kept.now in
    let n = c.in-Two.above.entry in
    let a : KeptTree g.row.N.Denot = tree_of c.in-Two.left.value in
    let b : KeptTree g.row.N.Denot = tree_of c.in-Two.right.value in
    let new = tree_of c.args.new.now in
    let kept : R ≡ Two n a b = ap tree_of c.in-Two.is in
    let later = c.take_last-entry.new.made.items in
    let before : c.sums-first.result.nodes ≡ count a = c.sums-first.ensures.nodes ∙ ap (λ x. count (tree_of x)) c.deref.ensures in
    let turn : c.args.at - 1 < count a = subst (λ k. c.args.at - 1 < k) before c.if-at-first.true in
    let whole = left_remade g.N.Keeps.rows R new n a b kept c.args.at c.if-at-eq0.false turn (c.args.at - 1) refl c.args.made.now.items later c.take_last-entry.result c.args.depth c.requires.deep c.requires.few c.take_last-entry.ensures in
    let d : tree_of c.deref_mut.result.now ≡ a = ap tree_of c.deref_mut.ensures.value in
    let part : tree_of c.exchange-part.new.kept ≡ remade (path_in (c.args.at - 1) a) a new later = c.exchange-part.ensures.tree ∙ ap (λ y. remade (path_in (c.args.at - 1) y) y new later) d in
    (λ i. Two (c.renew.ensures.entry i) (part i) b) ∙ sym whole

pub renew-requires-else-at-first-clause-few : goal.renew-requires-else-at-first-clause-few
renew-requires-else-at-first-clause-few g t c =
    let R : KeptTree g.row.N.Denot = tree_of c.args.kept.now in
    let n = c.in-Two.above.entry in
    let a : KeptTree g.row.N.Denot = tree_of c.in-Two.left.value in
    let b : KeptTree g.row.N.Denot = tree_of c.in-Two.right.value in
    let new = tree_of c.args.new.now in
    let kept : R ≡ Two n a b = ap tree_of c.in-Two.is in
    let later = c.take_last-entry.new.made.items in
    let before : c.sums-first.result.nodes ≡ count a = c.sums-first.ensures.nodes ∙ ap (λ x. count (tree_of x)) c.deref.ensures in
    let turn : count a ≤ c.args.at - 1 = subst (λ k. k ≤ c.args.at - 1) before c.if-at-first.false in
    let lower : c.args.at - 1 - c.sums-first.result.nodes ≡ c.args.at - 1 - count a = ap (λ k. c.args.at - 1 - k) before in
    let whole = right_remade g.N.Keeps.rows R new n a b kept c.args.at c.if-at-eq0.false turn (c.args.at - 1 - c.sums-first.result.nodes) lower c.args.made.now.items later c.take_last-entry.result c.args.depth c.requires.deep c.requires.few c.take_last-entry.ensures in
    let d : tree_of c.deref_mut-else-at-first.result.now ≡ b = ap tree_of c.deref_mut-else-at-first.ensures.value in
    let part : tree_of c.exchange-part-else-at-first.new.kept ≡ remade (path_in (c.args.at - 1 - c.sums-first.result.nodes) b) b new later = c.exchange-part-else-at-first.ensures.tree ∙ ap (λ y. remade (path_in (c.args.at - 1 - c.sums-first.result.nodes) y) y new later) d in
    let all = ap count whole in
    let here = ap count part in
    let one = c.exchange-part-else-at-first.ensures.sums.0 in
    let two = c.sums-first.ensures.nodes ∙ ap (λ x. count (tree_of x)) c.deref.ensures in
    let most = c.requires.nodes in
    omega (arith, all, here, one, two, most)

pub renew-requires-else-at-first-clause-small : goal.renew-requires-else-at-first-clause-small
renew-requires-else-at-first-clause-small g t c =
    let R : KeptTree g.row.N.Denot = tree_of c.args.kept.now in
    let n = c.in-Two.above.entry in
    let a : KeptTree g.row.N.Denot = tree_of c.in-Two.left.value in
    let b : KeptTree g.row.N.Denot = tree_of c.in-Two.right.value in
    let new = tree_of c.args.new.now in
    let kept : R ≡ Two n a b = ap tree_of c.in-Two.is in
    let later = c.take_last-entry.new.made.items in
    let before : c.sums-first.result.nodes ≡ count a = c.sums-first.ensures.nodes ∙ ap (λ x. count (tree_of x)) c.deref.ensures in
    let turn : count a ≤ c.args.at - 1 = subst (λ k. k ≤ c.args.at - 1) before c.if-at-first.false in
    let lower : c.args.at - 1 - c.sums-first.result.nodes ≡ c.args.at - 1 - count a = ap (λ k. c.args.at - 1 - k) before in
    let whole = right_remade g.N.Keeps.rows R new n a b kept c.args.at c.if-at-eq0.false turn (c.args.at - 1 - c.sums-first.result.nodes) lower c.args.made.now.items later c.take_last-entry.result c.args.depth c.requires.deep c.requires.few c.take_last-entry.ensures in
    let d : tree_of c.deref_mut-else-at-first.result.now ≡ b = ap tree_of c.deref_mut-else-at-first.ensures.value in
    let part : tree_of c.exchange-part-else-at-first.new.kept ≡ remade (path_in (c.args.at - 1 - c.sums-first.result.nodes) b) b new later = c.exchange-part-else-at-first.ensures.tree ∙ ap (λ y. remade (path_in (c.args.at - 1 - c.sums-first.result.nodes) y) y new later) d in
    let all = ap (row_sum g.N.Keeps.rows) whole in
    let here = ap (row_sum g.N.Keeps.rows) part in
    let one = c.exchange-part-else-at-first.ensures.sums.1 in
    let two = c.sums-first.ensures.rows ∙ ap (λ x. (row_sum g.N.Keeps.rows) (tree_of x)) c.deref.ensures in
    let most = c.requires.rows in
    omega (arith, all, here, one, two, most)

pub returns-else-at-first-clause-tree : goal.returns-else-at-first-clause-tree
returns-else-at-first-clause-tree g t c =
    let R : KeptTree g.row.N.Denot = tree_of c.args.kept.now in
    let n = c.in-Two.above.entry in
    let a : KeptTree g.row.N.Denot = tree_of c.in-Two.left.value in
    let b : KeptTree g.row.N.Denot = tree_of c.in-Two.right.value in
    let new = tree_of c.args.new.now in
    let kept : R ≡ Two n a b = ap tree_of c.in-Two.is in
    let later = c.take_last-entry.new.made.items in
    let before : c.sums-first.result.nodes ≡ count a = c.sums-first.ensures.nodes ∙ ap (λ x. count (tree_of x)) c.deref.ensures in
    let turn : count a ≤ c.args.at - 1 = subst (λ k. k ≤ c.args.at - 1) before c.if-at-first.false in
    let lower : c.args.at - 1 - c.sums-first.result.nodes ≡ c.args.at - 1 - count a = ap (λ k. c.args.at - 1 - k) before in
    let whole = right_remade g.N.Keeps.rows R new n a b kept c.args.at c.if-at-eq0.false turn (c.args.at - 1 - c.sums-first.result.nodes) lower c.args.made.now.items later c.take_last-entry.result c.args.depth c.requires.deep c.requires.few c.take_last-entry.ensures in
    let d : tree_of c.deref_mut-else-at-first.result.now ≡ b = ap tree_of c.deref_mut-else-at-first.ensures.value in
    let part : tree_of c.exchange-part-else-at-first.new.kept ≡ remade (path_in (c.args.at - 1 - c.sums-first.result.nodes) b) b new later = c.exchange-part-else-at-first.ensures.tree ∙ ap (λ y. remade (path_in (c.args.at - 1 - c.sums-first.result.nodes) y) y new later) d in
    (λ i. Two (c.renew-else-at-first.ensures.entry i) a (part i)) ∙ sym whole
