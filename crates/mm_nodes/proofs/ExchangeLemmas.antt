-- The exchange of a part, from the root downwards.
use Rattle.std.proofs.Common.{◌≡◌, ◌<◌, ◌≤◌, ◌+◌, ◌-◌, ℕ, true, false, List, [], ◌∷◌, length, slice_index_or, Option, Some, None, sym, ap, ◌∙◌, arith, length-append}
use Rattle.mm_tree.specs.Paths.{Path}
use Rattle.mm_nodes.specs.KeptTrees.{KeptTree, count, path_in, remade}
use Rattle.mm_nodes.specs.KeptTrees.KeptTree.{Two}
use Rattle.mm_nodes.specs.Walks.{TakesLast, renewed}
use Rattle.mm_nodes.proofs.MadeLemmas.{get-at, get-after, remade-front}
use Rattle.mm_nodes.proofs.RemakeLemmas.{path_to_left, path_to_right}

fewer : {N : Type 0} (made later : List N) (entry : Option N) (depth : ℕ) → TakesLast made later depth entry → length later ≤ depth - 1
fewer made later (Some e) depth t = let long = ap length t.0 ∙ length-append later (e ∷ []) in let all = t.1 in omega (arith, long, all)
fewer made later None depth t = let long = ap length t.0 in let less = t.1 in omega (arith, long, less)

taken_entry : {N : Type 0} (made later : List N) (entry : Option N) (depth : ℕ) → TakesLast made later depth entry → (k : ℕ) (n : N) → depth ≡ k + 1 → slice_index_or made k n ≡ renewed entry n
taken_entry made later (Some e) depth t k n d =
    let long = ap length t.0 ∙ length-append later (e ∷ []) in
    let all = t.1 in
    ap (λ ms. slice_index_or ms k n) t.0 ∙ get-at later [] e k n (omega (arith, long, all, d))
taken_entry made later None depth t k n d = let less = t.1 in get-after made k n (omega (arith, less, d))

taken_below : {N : Type 0} (made later : List N) (entry : Option N) (depth : ℕ) → TakesLast made later depth entry → (path : Path) (R new : KeptTree N) → depth ≡ length path + 1
    → remade path R new made ≡ remade path R new later
taken_below made later (Some e) depth t path R new d =
    let long = ap length t.0 ∙ length-append later (e ∷ []) in
    let all = t.1 in
    ap (λ ms. remade path R new ms) t.0 ∙ remade-front path R new later (e ∷ []) (omega (arith, long, all, d))
taken_below made later None depth t path R new d = ap (λ ms. remade path R new ms) (sym t.0)

module _ {N : Type 0} (rows : N → ℕ) (R new : KeptTree N) (n : N) (a b : KeptTree N) (kept : R ≡ Two n a b) (at : ℕ) (z : at ≡ 0 → ⊥) (turn : at - 1 < count a) (down : ℕ) (lower : down ≡ at - 1)
    (made later : List N) (entry : Option N) (depth : ℕ) (deep : depth ≡ length (path_in at R)) (few : length made ≤ depth) (takes : TakesLast made later depth entry) where
  lway : path_in at R ≡ true ∷ path_in down a
  lway = ap (path_in at) kept ∙ path_to_left at n a b z turn ∙ ap (λ k. true ∷ path_in k a) (sym lower)

  pub left_depth : depth - 1 ≡ length (path_in down a)
  left_depth = let long = ap length lway in omega (arith, long, deep)

  pub left_few : length later ≤ depth - 1
  left_few = fewer made later entry depth takes

  -- what becomes of a join above the part
  pub left_remade : remade (path_in at R) R new made ≡ Two (renewed entry n) (remade (path_in down a) a new later) b
  left_remade =
      let long = ap length lway in
      let here : slice_index_or made (length (path_in down a)) n ≡ renewed entry n = taken_entry made later entry depth takes (length (path_in down a)) n (omega (arith, long, deep)) in
      let below : remade (path_in down a) a new made ≡ remade (path_in down a) a new later = taken_below made later entry depth takes (path_in down a) a new (omega (arith, long, deep)) in
      ap (λ S. remade (path_in at R) S new made) kept ∙ ap (λ p. remade p (Two n a b) new made) lway ∙ (λ i. Two (here i) (below i) b)

module _ {N : Type 0} (rows : N → ℕ) (R new : KeptTree N) (n : N) (a b : KeptTree N) (kept : R ≡ Two n a b) (at : ℕ) (z : at ≡ 0 → ⊥) (turn : count a ≤ at - 1) (down : ℕ) (lower : down ≡ at - 1 - count a)
    (made later : List N) (entry : Option N) (depth : ℕ) (deep : depth ≡ length (path_in at R)) (few : length made ≤ depth) (takes : TakesLast made later depth entry) where
  rway : path_in at R ≡ false ∷ path_in down b
  rway = ap (path_in at) kept ∙ path_to_right at n a b z turn ∙ ap (λ k. false ∷ path_in k b) (sym lower)

  pub right_depth : depth - 1 ≡ length (path_in down b)
  right_depth = let long = ap length rway in omega (arith, long, deep)

  pub right_few : length later ≤ depth - 1
  right_few = fewer made later entry depth takes

  -- what becomes of a join above the part
  pub right_remade : remade (path_in at R) R new made ≡ Two (renewed entry n) a (remade (path_in down b) b new later)
  right_remade =
      let long = ap length rway in
      let here : slice_index_or made (length (path_in down b)) n ≡ renewed entry n = taken_entry made later entry depth takes (length (path_in down b)) n (omega (arith, long, deep)) in
      let below : remade (path_in down b) b new made ≡ remade (path_in down b) b new later = taken_below made later entry depth takes (path_in down b) b new (omega (arith, long, deep)) in
      ap (λ S. remade (path_in at R) S new made) kept ∙ ap (λ p. remade p (Two n a b) new made) rway ∙ (λ i. Two (here i) a (below i))
