-- Entries that were made on a way to the root, the lowest first.
use Rattle.std.proofs.Common.{◌≡◌, ◌<◌, ◌≤◌, ◌+◌, ℕ, zero, suc, true, false, List, [], ◌∷◌, ◌++◌, length, get_or, slice_index_or, refl, arith}
use Rattle.mm_tree.specs.Paths.{Path}
use Rattle.mm_nodes.specs.KeptTrees.{KeptTree, remade}
use Rattle.mm_nodes.specs.KeptTrees.KeptTree.{One, Two}
use Rattle.mm_nodes.specs.Walks.{highest}

module _ {N : Type 0} where
  last_from : (m : N) (ms : List N) (k : ℕ) (d : N) → k ≡ length ms → get_or (m ∷ ms) k d ≡ highest ms m
  last_from m [] zero d e = refl
  last_from m [] (suc k) d e = absurd (omega (arith, e))
  last_from m (x ∷ ms) zero d e = absurd (omega (arith, e))
  last_from m (x ∷ ms) (suc k) d e = last_from x ms k d (omega (arith, e))

  pub last_is : (ms : List N) (k : ℕ) (d e : N) → k + 1 ≡ length ms → get_or ms k d ≡ highest ms e
  last_is [] k d e h = absurd (omega (arith, h))
  last_is (m ∷ ms) k d e h = last_from m ms k d (omega (arith, h))

  pub highest-append : (ms : List N) (m e : N) → highest (ms ++ m ∷ []) e ≡ m
  highest-append [] m e = refl
  highest-append (x ∷ ms) m e = highest-append ms m x

  pub get-before : (ms more : List N) (k : ℕ) (d : N) → k < length ms → slice_index_or (ms ++ more) k d ≡ slice_index_or ms k d
  get-before [] more k d h = absurd (omega (arith, h))
  get-before (m ∷ ms) more zero d h = refl
  get-before (m ∷ ms) more (suc k) d h = get-before ms more k d (omega (arith, h))

  pub get-at : (ms more : List N) (m : N) (k : ℕ) (d : N) → k ≡ length ms → slice_index_or (ms ++ m ∷ more) k d ≡ m
  get-at [] more m zero d h = refl
  get-at [] more m (suc k) d h = absurd (omega (arith, h))
  get-at (x ∷ ms) more m zero d h = absurd (omega (arith, h))
  get-at (x ∷ ms) more m (suc k) d h = get-at ms more m k d (omega (arith, h))

  pub get-after : (ms : List N) (k : ℕ) (d : N) → length ms ≤ k → slice_index_or ms k d ≡ d
  get-after [] k d h = refl
  get-after (m ∷ ms) zero d h = absurd (omega (arith, h))
  get-after (m ∷ ms) (suc k) d h = get-after ms k d (omega (arith, h))

  -- entries above a way are no matter below
  pub remade-front : (path : Path) (R new : KeptTree N) (ms more : List N) → length path ≤ length ms → remade path R new (ms ++ more) ≡ remade path R new ms
  remade-front [] R new ms more h = refl
  remade-front (true ∷ path) (Two n a b) new ms more h =
      λ i. Two (get-before ms more (length path) n (omega (arith, h)) i) (remade-front path a new ms more (omega (arith, h)) i) b
  remade-front (false ∷ path) (Two n a b) new ms more h =
      λ i. Two (get-before ms more (length path) n (omega (arith, h)) i) a (remade-front path b new ms more (omega (arith, h)) i)
  remade-front (true ∷ path) (One n) new ms more h = refl
  remade-front (false ∷ path) (One n) new ms more h = refl
