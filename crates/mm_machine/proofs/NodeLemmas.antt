-- What the nodes of parts tell, whatever is remembered beside them: formulas, values, and soundness with other memories.
use Rattle.std.proofs.Common.{◌≡◌, ◌<◌, ◌≤◌, ℕ, suc, zero, List, [], ◌∷◌, ◌++◌, map, length, take, slice_get, slice_set, add-one, ◌+◌, Option, Some, None, refl, sym, ap, ◌∙◌, subst, arith}
use Rattle.std.proofs.lemmas.List.{length-append}
use Rattle.mm_logic.specs.Formula.{Formula}
use Rattle.mm_ops.specs.OpValue.{OpValue}
use Rattle.mm_states.specs.Memos.{joins_answer, no_answers}
use Rattle.mm_machine.specs.declared.part.Part.{Part}
use Rattle.mm_machine.specs.declared.part.Parts.{Parts}
use Rattle.mm_machine.specs.declared.part.Node.{Node}
use Rattle.mm_machine.specs.declared.part.Node.TheVariants as node
use Rattle.mm_machine.specs.Parts.{Memory, nothing, View, view_of, views, IsTrue, IsSoundPart, IsSound}
use Rattle.mm_machine.specs.Blocks.{node_block, node_cut, memory, no_memory, block_of, cut_of, blocks_of, cuts_of}
use Rattle.mm_machine.specs.Shapes.{node_shape, sign, shapes}
use Rattle.mm_machine.specs.Operators.{node_of, AreForgotten, KeepsTables}

-- ---- the formulas by what the parts make of those after them

folded : List (List Formula → Formula) → List Formula
folded [] = []
folded (g ∷ gs) = g (folded gs) ∷ folded gs

by_signs : (ps : List Part) → shapes ps ≡ folded (map sign ps)
unfolding folded
by_signs [] = refl
by_signs (p ∷ ps) = ap (λ Fs. node_shape p.node Fs ∷ Fs) (by_signs ps)

pub shapes_stay : (ps qs : List Part) → map sign qs ≡ map sign ps → shapes qs ≡ shapes ps
shapes_stay ps qs e = by_signs qs ∙ ap folded e ∙ sym (by_signs ps)

by_nodes : List Node → List (List Formula → Formula)
by_nodes [] = []
by_nodes (n ∷ ns) = node_shape n ∷ by_nodes ns

signs_by_nodes : (ps : List Part) → map sign ps ≡ by_nodes (map node_of ps)
unfolding by_nodes
signs_by_nodes [] = refl
signs_by_nodes (p ∷ ps) = ap (λ gs. node_shape p.node ∷ gs) (signs_by_nodes ps)

pub signs_stay : (ps qs : List Part) → map node_of qs ≡ map node_of ps → map sign qs ≡ map sign ps
signs_stay ps qs e = signs_by_nodes qs ∙ ap by_nodes e ∙ sym (signs_by_nodes ps)

-- ---- the views

node_views : List Node → List View
node_views [] = []
node_views (n ∷ ns) = view_of (node_block n nothing) (node_views ns) ∷ node_views ns

cut_views : List Node → List View
cut_views [] = []
cut_views (n ∷ ns) = view_of (node_cut n nothing) (cut_views ns) ∷ cut_views ns

view_same : (n : Node) (m o : Memory) (vs : List View) → view_of (node_block n m) vs ≡ view_of (node_block n o) vs
view_same (node.Atom a) m o vs = refl
view_same node.Not m o vs = refl
view_same (node.Pair b t skip) m o vs = refl
view_same (node.Set q k t) m o vs = refl
view_same (node.One q k t) m o vs = refl

cut_same : (n : Node) (m o : Memory) (vs : List View) → view_of (node_cut n m) vs ≡ view_of (node_cut n o) vs
cut_same (node.Atom a) m o vs = refl
cut_same node.Not m o vs = refl
cut_same (node.Pair b t skip) m o vs = refl
cut_same (node.Set q k t) m o vs = refl
cut_same (node.One q k t) m o vs = refl

blocks_views : (ops : List OpValue) (ps : List Part) → views (blocks_of ops ps) ≡ node_views (map node_of ps)
unfolding node_views
blocks_views ops [] = refl
blocks_views ops (p ∷ ps) = λ i. (ap (view_of (block_of ops p)) (blocks_views ops ps) ∙ view_same p.node (memory ops p.memo) nothing (node_views (map node_of ps))) i ∷ blocks_views ops ps i

cuts_views : (ops : List OpValue) (ps : List Part) → views (cuts_of ops ps) ≡ cut_views (map node_of ps)
unfolding cut_views
cuts_views ops [] = refl
cuts_views ops (p ∷ ps) = λ i. (ap (view_of (cut_of ops p)) (cuts_views ops ps) ∙ cut_same p.node (no_memory ops) nothing (cut_views (map node_of ps))) i ∷ cuts_views ops ps i

pub views_stay : (ops pos : List OpValue) (ps qs : List Part) → map node_of qs ≡ map node_of ps → views (blocks_of pos qs) ≡ views (blocks_of ops ps)
views_stay ops pos ps qs e = blocks_views pos qs ∙ ap node_views e ∙ sym (blocks_views ops ps)

pub cut_views_stay : (ops pos : List OpValue) (ps qs : List Part) → map node_of qs ≡ map node_of ps → views (cuts_of pos qs) ≡ views (cuts_of ops ps)
cut_views_stay ops pos ps qs e = cuts_views pos qs ∙ ap cut_views e ∙ sym (cuts_views ops ps)

-- ---- soundness with another memory

Better : Memory → Memory → Type 0
Better m o = (us : List View) → IsTrue us m → IsTrue us o

sound_part : (n : Node) (m o : Memory) (vs : List View) → Better m o → IsSoundPart (node_block n m) vs → IsSoundPart (node_block n o) vs
unfolding Better
sound_part (node.Atom a) m o vs b s = record { keys = s.keys; apart = s.apart; enough = s.enough; memo = b _ s.memo }
sound_part node.Not m o vs b s = record { keys = s.keys; apart = s.apart; enough = s.enough; memo = s.memo }
sound_part (node.Pair c t skip) m o vs b s = record { keys = s.keys; apart = s.apart; enough = s.enough; memo = b _ s.memo }
sound_part (node.Set q k t) m o vs b s = record { keys = s.keys; apart = s.apart; enough = s.enough; memo = b _ s.memo }
sound_part (node.One q k t) m o vs b s = record { keys = s.keys; apart = s.apart; enough = s.enough; memo = b _ s.memo }

cut_part : (n : Node) (m o : Memory) (vs : List View) → Better m o → IsSoundPart (node_cut n m) vs → IsSoundPart (node_cut n o) vs
unfolding Better
cut_part (node.Atom a) m o vs b s = record { keys = s.keys; apart = s.apart; enough = s.enough; memo = b _ s.memo }
cut_part node.Not m o vs b s = record { keys = s.keys; apart = s.apart; enough = s.enough; memo = s.memo }
cut_part (node.Pair c t skip) m o vs b s = record { keys = s.keys; apart = s.apart; enough = s.enough; memo = b _ s.memo }
cut_part (node.Set q k t) m o vs b s = record { keys = s.keys; apart = s.apart; enough = s.enough; memo = b _ s.memo }
cut_part (node.One q k t) m o vs b s = record { keys = s.keys; apart = s.apart; enough = s.enough; memo = b _ s.memo }

-- no answers are true
none_better : (m o : Memory) → o.answers ≡ no_answers → Better m o
unfolding Better
none_better m o e us t n l r id a = let no : None ≡ Some id = sym (ap (λ (g : ℕ → ℕ → ℕ → Option ℕ). g n l r) e) ∙ a in cc

-- the operators of before have their numbers
pub front_slice : {X : Type 0} (xs ys : List X) (n : ℕ) (x : X) → n < length xs → slice_get (xs ++ ys) n ≡ Some x → slice_get xs n ≡ Some x
front_slice [] ys n x l e = absurd (omega arith)
front_slice (z ∷ xs) ys zero x l e = e
front_slice (z ∷ xs) ys (suc n) x l e = front_slice xs ys n x (omega arith) e

more_better : (ops : List OpValue) (op : OpValue) (g : ℕ → ℕ → ℕ → Option ℕ) → Better (record { ops = ops; answers = g }) (record { ops = ops ++ op ∷ []; answers = g })
unfolding Better
more_better ops op g us t n l r id a =
    let e = t n l r id a in
    record {
      operator = omega (arith, e.operator, length-append ops (op ∷ []));
      in_left = e.in_left;
      in_right = e.in_right;
      within = e.within;
      value = λ o at. e.value o (front_slice ops (op ∷ []) n o e.operator at);
    }

more_sound : (ops : List OpValue) (op : OpValue) (ps : List Part) → IsSound (blocks_of ops ps) → IsSound (blocks_of (ops ++ op ∷ []) ps)
more_sound ops op [] s = tt
more_sound ops op (p ∷ ps) s = (
  subst (IsSoundPart (block_of (ops ++ op ∷ []) p)) (views_stay (ops ++ op ∷ []) ops ps ps refl)
      (sound_part p.node (memory ops p.memo) (memory (ops ++ op ∷ []) p.memo) (views (blocks_of ops ps)) (more_better ops op (joins_answer p.memo)) s.0),
  more_sound ops op ps s.1,
)

head_or : {A : Type 0} → A → List A → A
head_or d [] = d
head_or d (x ∷ xs) = x

tail_of : {A : Type 0} → List A → List A
tail_of [] = []
tail_of (x ∷ xs) = xs

forgotten_sound : (ops pos : List OpValue) (ps qs : List Part) → map node_of qs ≡ map node_of ps → AreForgotten qs → IsSound (blocks_of ops ps) → IsSound (blocks_of pos qs)
unfolding head_or tail_of
forgotten_sound ops pos [] [] e g s = tt
forgotten_sound ops pos (p ∷ ps) [] e g s = tt
forgotten_sound ops pos [] (q ∷ qs) e g s = absurd (omega (arith, ap length e))
forgotten_sound ops pos (p ∷ ps) (q ∷ qs) e g s =
    let same : map node_of qs ≡ map node_of ps = ap tail_of e in (
      subst (IsSoundPart (block_of pos q)) (sym (views_stay ops pos ps qs same))
          (subst (λ n. IsSoundPart (node_block n (memory pos q.memo)) (views (blocks_of ops ps))) (sym (ap (head_or p.node) e))
          (sound_part p.node (memory ops p.memo) (memory pos q.memo) (views (blocks_of ops ps)) (none_better (memory ops p.memo) (memory pos q.memo) g.0) s.0)),
      forgotten_sound ops pos ps qs same g.1 s.1,
    )

cuts_sound : (ops pos : List OpValue) (ps qs : List Part) → map node_of qs ≡ map node_of ps → IsSound (cuts_of ops ps) → IsSound (cuts_of pos qs)
unfolding head_or tail_of
cuts_sound ops pos [] [] e s = tt
cuts_sound ops pos (p ∷ ps) [] e s = tt
cuts_sound ops pos [] (q ∷ qs) e s = absurd (omega (arith, ap length e))
cuts_sound ops pos (p ∷ ps) (q ∷ qs) e s =
    let same : map node_of qs ≡ map node_of ps = ap tail_of e in (
      subst (IsSoundPart (cut_of pos q)) (sym (cut_views_stay ops pos ps qs same))
          (subst (λ n. IsSoundPart (node_cut n (no_memory pos)) (views (cuts_of ops ps))) (sym (ap (head_or p.node) e))
          (cut_part p.node (no_memory ops) (no_memory pos) (views (cuts_of ops ps)) (none_better (no_memory ops) (no_memory pos) refl) s.0)),
      cuts_sound ops pos ps qs same s.1,
    )

-- ---- a change of the operators

pub keeps_none : (ps : Parts) → KeepsTables ps ps
keeps_none ps = record { nodes = refl; sound = λ s. s; marked = λ s. s }

pub keeps_then : (ps qs rs : Parts) → KeepsTables ps qs → KeepsTables qs rs → KeepsTables ps rs
keeps_then ps qs rs g h = record { nodes = h.nodes ∙ g.nodes; sound = λ s. h.sound (g.sound s); marked = λ s. h.marked (g.marked s) }

pub keeps_forgotten : (ps qs : Parts) → map node_of qs.list.items ≡ map node_of ps.list.items → AreForgotten qs.list.items → KeepsTables ps qs
keeps_forgotten ps qs e g = record {
  nodes = e;
  sound = forgotten_sound ps.ops qs.ops ps.list.items qs.list.items e g;
  marked = cuts_sound ps.ops qs.ops ps.list.items qs.list.items e;
}

pub keeps_more : (ps qs : Parts) (op : OpValue) → qs.list ≡ ps.list → qs.ops ≡ ps.ops ++ op ∷ [] → KeepsTables ps qs
keeps_more ps qs op l e = record {
  nodes = ap (λ z. map node_of z.items) l;
  sound = λ s. subst (λ z. IsSound (blocks_of qs.ops z.items)) (sym l) (subst (λ z. IsSound (blocks_of z ps.list.items)) (sym e) (more_sound ps.ops op ps.list.items s));
  marked = cuts_sound ps.ops qs.ops ps.list.items qs.list.items (ap (λ z. map node_of z.items) l);
}

-- ---- joins are forgotten part by part

pub forgotten_step : (ps : List Part) (i : ℕ) (q : Part) → i < length ps → joins_answer q.memo ≡ no_answers → AreForgotten (take i ps) → AreForgotten (take (i + 1) (slice_set ps i q))
forgotten_step ps i q l e h = rw add-one (go ps i l h)
  where
    go : (xs : List Part) (n : ℕ) → n < length xs → AreForgotten (take n xs) → AreForgotten (take (suc n) (slice_set xs n q))
    go [] n l h = absurd (omega arith)
    go (x ∷ xs) zero l h = (e, tt)
    go (x ∷ xs) (suc n) l h = (h.0, go xs n (omega arith) h.1)

pub forgotten_all : (ps : List Part) (n : ℕ) → length ps ≤ n → AreForgotten (take n ps) → AreForgotten ps
forgotten_all [] n l h = tt
forgotten_all (p ∷ ps) zero l h = absurd (omega arith)
forgotten_all (p ∷ ps) (suc n) l h = (h.0, forgotten_all ps n (omega arith) h.1)
