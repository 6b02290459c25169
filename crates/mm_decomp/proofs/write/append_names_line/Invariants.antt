use Rattle.std.proofs.Common.{◌≡◌, ◌++◌, ◌∷◌, ◌*◌, take, drop}
use Rattle.std.specs.Prelude.{codes}
use Rattle.mm_tree.specs.TreeText.{spaced}
use Rattle.mm_decomp.proofs.write.append_names_line.Given as goal

abbrev pub invariant-loop-i : goal.invariant-loop-i
invariant-loop-i l = l.text ≡ l.fn.text ++ spaced (codes "elements" ∷ take l.i (drop (64 * l.k) l.names))
