-- Kept trees as lists of their entries, each join's after those of its left and its right part, by which proofs tell them apart.
use Rattle.std.specs.Prelude.{◌≡◌, List, [], ◌∷◌, ◌++◌}
use Rattle.std.proofs.Common.{refl, sym, ap, ◌∙◌, append_assoc, append-nil, ◌⊎◌, inl, inr}
use Rattle.std.specs.Coded.{Coded, code_by, coded⊎, coded_list}
use Rattle.mm_nodes.specs.KeptTrees.{KeptTree}
use Rattle.mm_nodes.specs.KeptTrees.KeptTree.{One, Two}

module _ {N : Type 0} where
  abbrev pub cells : KeptTree N → List (N ⊎ N)
  cells (One n) = inl n ∷ []
  cells (Two n a b) = cells a ++ (cells b ++ inr n ∷ [])

  abbrev pub with_join : N → List (KeptTree N) → List (KeptTree N)
  with_join n (b ∷ a ∷ parts) = Two n a b ∷ parts
  with_join n parts = One n ∷ parts

  abbrev pub with_cell : N ⊎ N → List (KeptTree N) → List (KeptTree N)
  with_cell (inl n) parts = One n ∷ parts
  with_cell (inr n) parts = with_join n parts

  abbrev pub parts_of : List (N ⊎ N) → List (KeptTree N) → List (KeptTree N)
  parts_of [] parts = parts
  parts_of (cell ∷ more) parts = parts_of more (with_cell cell parts)

  abbrev pub first_part : KeptTree N → List (KeptTree N) → KeptTree N
  first_part other [] = other
  first_part other (part ∷ parts) = part

  pub parts_of-cells : (R : KeptTree N) (more : List (N ⊎ N)) (parts : List (KeptTree N)) → parts_of (cells R ++ more) parts ≡ parts_of more (R ∷ parts)
  parts_of-cells (One n) more parts = refl
  parts_of-cells (Two n a b) more parts =
      let one : List (N ⊎ N) = inr n ∷ [] in
      ap (λ (cs : List (N ⊎ N)). parts_of cs parts)
      (append_assoc (cells a) (cells b ++ one) more ∙ ap (λ (cs : List (N ⊎ N)). cells a ++ cs) (append_assoc (cells b) one more))
      ∙ parts_of-cells a (cells b ++ (one ++ more)) parts
      ∙ parts_of-cells b (one ++ more) (a ∷ parts)

  pub kept_back : (other R : KeptTree N) → first_part other (parts_of (cells R) []) ≡ R
  kept_back other R =
      ap (λ (cs : List (N ⊎ N)). first_part other (parts_of cs [])) (sym (append-nil (cells R))) ∙ ap (first_part other) (parts_of-cells R [] [])

-- the code of kept trees, from that of entries and some entry
abbrev pub kept_code : {N : Type 0} → N → Coded N → Coded (KeptTree N)
kept_code {N} n code = code_by (List (N ⊎ N)) (coded_list (coded⊎ code code)) cells (λ cs. first_part (One n) (parts_of cs [])) (kept_back (One n))
