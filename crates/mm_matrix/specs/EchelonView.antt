-- The reduced echelon rows of a row space, and the places of their first digits other than 0.
use Rattle.std.specs.Prelude.{ℕ, List, map}
use Rattle.mm_matrix.specs.MatrixValue.{MatrixValue}
use Rattle.mm_matrix.specs.Residues.{AreReduced}
use Rattle.mm_matrix.specs.declared.echelon.Echelon.TheInside.{Inside}

abbrev pub rows_of : Inside → List (List ℕ)
rows_of e = map (λ r. r.items) e.rows.items

abbrev pub value_of : Inside → MatrixValue
value_of e = record { f = e.field; cols = e.cols; rows = rows_of e }

abbrev pub IsKept : Inside → Type 0
IsKept e = AreReduced e.field e.cols (rows_of e) e.leads.items
