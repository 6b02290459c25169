-- The formulas of a machine's parts are the nodes of its formula, in reading order.
use Rattle.std.proofs.Common.{◌≡◌, ◌<◌, ℕ, suc, zero, List, [], ◌∷◌, ◌++◌, length, take, drop, get_or, refl, sym, ap, ◌∙◌, subst, arith}
use Rattle.std.proofs.lemmas.List.{take_all, length-map}
use Rattle.mm_field.specs.declared.Field.{Field}
use Rattle.mm_logic.specs.Formula.{Formula}
use Rattle.mm_logic.specs.Formula.Formula.{Not, Bin, ExSet, AllSet, ExElem, AllElem}
use Rattle.mm_logic.specs.Occurrence.{nodes}
use Rattle.mm_formula.specs.Scope.{connective}
use Rattle.mm_ops.specs.OpValue.{OpValue}
use Rattle.mm_base_auto.specs.OneAtom.{atom_shape}
use Rattle.mm_machine.specs.declared.part.Part.{Part}
use Rattle.mm_machine.specs.declared.part.Parts.{Parts}
use Rattle.mm_machine.specs.declared.part.Node.{Node}
use Rattle.mm_machine.specs.declared.part.Node.TheVariants as node
use Rattle.mm_machine.specs.declared.part.Quantifier.TheVariants.{Ex, All}
use Rattle.mm_machine.specs.Parts.{Memory, views, Keys, IsSound}
use Rattle.mm_machine.specs.Blocks.{node_block, memory, block_of, blocks_of, blocks}
use Rattle.mm_machine.specs.Shapes.{head_shape, shapes, node_shape}
use Rattle.mm_machine.specs.Machines.{IsMachine, shape_in}
use Rattle.mm_machine.proofs.DoneLemmas.{atomic_nodes}
use Rattle.mm_machine.proofs.MachineLemmas.{plain_list, sound_of}
use Rattle.mm_machine.proofs.BuildLemmas.{atomic, plain_count}
use Rattle.mm_machine.proofs.PartLemmas.{length-views}

-- the formulas begin with the nodes of the first one
abbrev pub BeginsWithNodes : List Formula → Type 0
BeginsWithNodes Fs = take (length (nodes (head_shape Fs))) Fs ≡ nodes (head_shape Fs)

take_two : (xs ys zs : List Formula) → take (length xs) zs ≡ xs → take (length ys) (drop (length xs) zs) ≡ ys → take (length (xs ++ ys)) zs ≡ xs ++ ys
take_two [] ys zs a b = b
take_two (x ∷ xs) ys [] a b = absurd (omega (arith, ap length a))
take_two (x ∷ xs) ys (z ∷ zs) a b = λ i. get_or (a i) 0 x ∷ take_two xs ys zs (ap (drop 1) a) b i

first_nodes : (F : Formula) (Fs Gs : List Formula) → take (length Gs) Fs ≡ Gs → take (length (F ∷ Gs)) (F ∷ Fs) ≡ F ∷ Gs
first_nodes F Fs Gs e = ap (λ z. F ∷ z) e

module _ (ops : List OpValue) (ps : List Part) (each : (k : ℕ) → k < length ps → BeginsWithNodes (drop k (shapes ps))) where
  long : length (views (blocks_of ops ps)) ≡ length ps
  long = length-views (blocks_of ops ps) ∙ length-map ps (block_of ops)

  below : 0 < length (views (blocks_of ops ps)) → BeginsWithNodes (shapes ps)
  below l = each 0 (omega (arith, l, long))

  node_nodes : (n : Node) (m : Memory) → Keys (node_block n m) (views (blocks_of ops ps)) → BeginsWithNodes (node_shape n (shapes ps) ∷ shapes ps)
  node_nodes (node.Atom a) m k = subst (λ Gs. take (length Gs) (atom_shape a ∷ shapes ps) ≡ Gs) (sym (atomic_nodes (atom_shape a) (atomic a))) refl
  node_nodes node.Not m k = first_nodes (Not (head_shape (shapes ps))) (shapes ps) (nodes (head_shape (shapes ps))) (below k)
  node_nodes (node.Pair o t skip) m k =
      let F : Formula = head_shape (shapes ps) in
      let G : Formula = head_shape (drop skip (shapes ps)) in
      let count : skip ≡ length (nodes F) = k.1 ∙ ap (λ H. length (nodes H)) (sym (plain_list ops ps)) ∙ plain_count F in
      first_nodes (Bin (connective o) F G) (shapes ps) (nodes F ++ nodes G)
      (take_two (nodes F) (nodes G) (shapes ps) (below (omega (arith, k.0)))
      (subst (λ j. take (length (nodes G)) (drop j (shapes ps)) ≡ nodes G) count (each skip (omega (arith, k.0, long)))))
  node_nodes (node.Set Ex s t) m k = first_nodes (ExSet s.number (head_shape (shapes ps))) (shapes ps) (nodes (head_shape (shapes ps))) (below k.0)
  node_nodes (node.Set All s t) m k = first_nodes (AllSet s.number (head_shape (shapes ps))) (shapes ps) (nodes (head_shape (shapes ps))) (below k.0)
  node_nodes (node.One Ex s t) m k = first_nodes (ExElem s.number (head_shape (shapes ps))) (shapes ps) (nodes (head_shape (shapes ps))) (below k.0)
  node_nodes (node.One All s t) m k = first_nodes (AllElem s.number (head_shape (shapes ps))) (shapes ps) (nodes (head_shape (shapes ps))) (below k.0)

pub each_begins : (ops : List OpValue) (ps : List Part) → IsSound (blocks_of ops ps) → (k : ℕ) → k < length ps → BeginsWithNodes (drop k (shapes ps))
each_begins ops [] s k l = absurd (omega arith)
each_begins ops (p ∷ ps) s zero l = node_nodes ops ps (each_begins ops ps s.1) p.node (memory ops p.memo) s.0.keys
each_begins ops (p ∷ ps) s (suc k) l = each_begins ops ps s.1 k (omega arith)

length-shapes : (ps : List Part) → length (shapes ps) ≡ length ps
length-shapes [] = refl
length-shapes (p ∷ ps) = ap suc (length-shapes ps)

pub shapes_are_nodes : (ps : Parts) (g : Field) → IsMachine ps g → shapes ps.list.items ≡ nodes (shape_in ps)
shapes_are_nodes ps g h =
    sym (take_all (length (nodes (shape_in ps))) (shapes ps.list.items) (omega (arith, h.whole, length-shapes ps.list.items)))
    ∙ each_begins ps.ops ps.list.items (sound_of (blocks ps) h.held) 0 h.some
