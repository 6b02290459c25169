-- Terms by their slots.
use Rattle.std.specs.Prelude.{ℕ, zero, suc, Bool, List, [], ◌∷◌, ◌++◌, if◌then◌else◌}
use Rattle.mm_logic.specs.Formula.{Term}
use Rattle.mm_states.specs.Letters.{marks_of}

abbrev pub term_of : Bool → List ℕ → Term
term_of whole slots = record { whole = whole; slots = slots }

-- the slots below n that bits tell, rising
abbrev pub slots_below : ℕ → ℕ → List ℕ
slots_below zero bits = []
slots_below (suc n) bits = if marks_of bits n then slots_below n bits ++ n ∷ [] else slots_below n bits

abbrev pub slots_of : ℕ → List ℕ
slots_of bits = slots_below 16 bits
