-- The items after a header: a block is one, and so is every other line.
use Rattle.std.specs.Prelude.{Bool, ◌||◌, List, [], ◌∷◌, codes, Option, Some, None, if◌then◌else◌}
use Rattle.mm_lines.specs.declared.line.Line.{Line}
use Rattle.mm_job_text.specs.Arguments.{begins, is_word}

pub data Items : Type 0 where
  NoMore : Items
  -- a block without its end
  Unended : Items
  Single : Line → Items → Items
  -- a block: its first line, the others with its `end`, and the items after it
  Block : Line → List Line → Items → Items

-- A line that opens a block.
abbrev pub opens : Line → Bool
opens r = begins (codes "replace") r || begins (codes "check") r

-- A line that ends a block.
abbrev pub closes : Line → Bool
closes r = is_word (codes "end") r

-- The rest of a block, and the items after it.
abbrev pub Rest : Type 0
Rest = Option (List Line × Items)

abbrev pub after_line : Line → Rest → Rest
after_line r None = None
after_line r (Some rest) = Some (r ∷ rest.0, rest.1)

abbrev pub block_of : Line → Rest → Items
block_of r None = Unended
block_of r (Some rest) = Block r rest.0 rest.1

unfoldable mutual
  -- The items of some lines.
  pub items : List Line → Items
  items [] = NoMore
  items (r ∷ rs) = if opens r then block_of r (rest_of_block rs) else Single r (items rs)

  -- The lines of a block up to its `end`, and the items after it.
  pub rest_of_block : List Line → Rest
  rest_of_block [] = None
  rest_of_block (r ∷ rs) = if closes r then Some (r ∷ [], items rs) else after_line r (rest_of_block rs)
