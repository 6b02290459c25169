-- What is written for some lines is a front of what is written for these and more.
use Rattle.std.specs.Prelude.{◌≡◌, refl, Bool, true, false, List, [], ◌∷◌, ◌++◌, Some, None, if◌then◌else◌}
use Rattle.std.proofs.Common.{sym, subst, ap}
use Rattle.mm_lines.specs.Fronts.{IsFront}
use Rattle.mm_lines.specs.declared.line.Line.{Line}
use Rattle.mm_job_text.specs.Readers.{Reading, Read, Refused, Short}
use Rattle.mm_job_text.proofs.ReaderLemmas.{Keeps}
use Rattle.mm_job.specs.Edits.{single, block}
use Rattle.mm_job.specs.Header.{Session, header}
use Rattle.mm_job.specs.Items.{Items, Single, Block, Rest, items, rest_of_block, opens, closes, after_line, block_of}
use Rattle.mm_job.specs.Output.{Ending, More, lines_of_items, lines_after_header, written_lines, reply_line, after_reply, answered}
use Rattle.mm_job.specs.Settings.{Settings}
use Rattle.mm_job.proofs.HeaderLemmas.{header_steady}

pub front_of_none : {A : Type 0} (ys : List A) → IsFront [] ys
front_of_none ys = (ys, refl)

pub front_then : {A : Type 0} (x : A) (xs ys : List A) → IsFront xs ys → IsFront (x ∷ xs) (x ∷ ys)
front_then x xs ys p = (p.0, ap (λ l. x ∷ l) p.1)

-- the items of some lines, and of these and more
abbrev GoOn : Ending → Items → Items → Type 0
GoOn e its all = (s : Session) → IsFront (lines_of_items More s its) (lines_of_items e s all)

-- the rest of a block in some lines, and in these and more
abbrev RestGoesOn : Ending → Rest → Rest → Type 0
RestGoesOn e None all = Unit {0}
RestGoesOn e (Some rest) all = (its : Items) × (all ≡ Some (rest.0, its)) × GoOn e rest.1 its

single_goes_on : (e : Ending) (r : Line) (its all : Items) → GoOn e its all → GoOn e (Single r its) (Single r all)
unfolding lines_of_items
single_goes_on e r its all h s = front_then (reply_line (single s r)) _ _ (h (after_reply s (single s r)))

block_goes_on : (e : Ending) (r : Line) (rest all : Rest) → RestGoesOn e rest all → GoOn e (block_of r rest) (block_of r all)
unfolding lines_of_items
block_goes_on e r None all h s = front_of_none _
block_goes_on e r (Some rest) all h s =
    subst (λ a. IsFront (lines_of_items More s (Block r rest.0 rest.1)) (lines_of_items e s (block_of r a))) (sym h.1)
    (front_then (reply_line (block s r rest.0)) _ _ (h.2 (after_reply s (block s r rest.0))))

more_of_block : (e : Ending) (r : Line) (rest all : Rest) → RestGoesOn e rest all → RestGoesOn e (after_line r rest) (after_line r all)
more_of_block e r None all h = tt
more_of_block e r (Some rest) all h = (h.0, ap (after_line r) h.1, h.2)

item_goes_on : (e : Ending) (r : Line) (b : Bool) (its all : Items) (rest rest_all : Rest) → GoOn e its all → RestGoesOn e rest rest_all
    → GoOn e (if b then block_of r rest else Single r its) (if b then block_of r rest_all else Single r all)
item_goes_on e r true its all rest rest_all h k = block_goes_on e r rest rest_all k
item_goes_on e r false its all rest rest_all h k = single_goes_on e r its all h

rest_goes_on : (e : Ending) (r : Line) (b : Bool) (its all : Items) (rest rest_all : Rest) → GoOn e its all → RestGoesOn e rest rest_all
    → RestGoesOn e (if b then Some (r ∷ [], its) else after_line r rest) (if b then Some (r ∷ [], all) else after_line r rest_all)
rest_goes_on e r true its all rest rest_all h k = (all, refl, h)
rest_goes_on e r false its all rest rest_all h k = more_of_block e r rest rest_all k

both_go_on : (e : Ending) (rs more : List Line) → GoOn e (items rs) (items (rs ++ more)) × RestGoesOn e (rest_of_block rs) (rest_of_block (rs ++ more))
unfolding items lines_of_items
both_go_on e [] more = ((λ s. front_of_none _), tt)
both_go_on e (r ∷ rs) more =
    let below = both_go_on e rs more in (
      item_goes_on e r (opens r) (items rs) (items (rs ++ more)) (rest_of_block rs) (rest_of_block (rs ++ more)) below.0 below.1,
      rest_goes_on e r (closes r) (items rs) (items (rs ++ more)) (rest_of_block rs) (rest_of_block (rs ++ more)) below.0 below.1,
    )

after_goes_on : (e : Ending) (more : List Line) (a b : Reading Session) → Keeps more a b → IsFront (lines_after_header More a) (lines_after_header e b)
after_goes_on e more (Read s rest) b p = subst (λ r. IsFront (lines_after_header More (Read s rest)) (lines_after_header e r)) (sym p) (front_then (answered s) _ _ ((both_go_on e rest more).0 s))
after_goes_on e more (Refused why) b p = subst (λ r. IsFront (lines_after_header More (Refused why)) (lines_after_header e r)) (sym p) ([], refl)
after_goes_on e more Short b p = front_of_none _

-- the lines that are written for some lines are the first of those for these and more
pub written_goes_on : (settings : Settings) (e : Ending) (rs more : List Line) → IsFront (written_lines settings More rs) (written_lines settings e (rs ++ more))
unfolding written_lines
written_goes_on settings e rs more = after_goes_on e more (header settings rs) (header settings (rs ++ more)) (header_steady settings rs more)
