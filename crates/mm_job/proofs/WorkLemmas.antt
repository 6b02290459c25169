-- The work of a job depends on which types are kept, and grows with its lines.
use Rattle.std.proofs.Common.{◌≡◌, ◌≤◌, ℕ, ◌+◌, Bool, true, false, ◌||◌, List, [], ◌∷◌, ◌++◌, Option, Some, None, refl, sym, ap, ap₂, subst, ◌∙◌, arith}
use Rattle.std.specs.Prelude.{nat_lt, if◌then◌else◌}
use Rattle.std.specs.List.{list_any}
use Rattle.std.proofs.lemmas.List.{append-nil}
use Rattle.std.proofs.lemmas.List.Folds.{list_any-append}
use Rattle.mm_edit.specs.Edits.{Applied}
use Rattle.mm_job.specs.Edits.{block, single}
use Rattle.mm_job.specs.Header.{Session, header_lines, is_over_limit}
use Rattle.mm_job.specs.Items.{Items, NoMore, Unended, Single, Block, Rest, after_line, block_of, closes, items, opens, rest_of_block}
use Rattle.mm_job.specs.Laws.{WorkGrows}
use Rattle.mm_job.specs.Output.{after_reply}
use Rattle.mm_job.specs.Work.{afresh, block_applied, edit_work, is_full, items_work, kept_after, kept_for, line_applied, types_in, work, work_after}
use Rattle.mm_job.specs.Settings.{Settings}
use Rattle.mm_job.proofs.GrowthLemmas.{settled_next, settled_whole}
use Rattle.mm_job.proofs.HeaderLemmas.{header_lines_steady}
use Rattle.mm_job_text.specs.Readers.{Reading, Read, Refused, Short}
use Rattle.mm_job_text.proofs.ReaderLemmas.{Keeps}
use Rattle.mm_lines.specs.Fronts.{IsFront}
use Rattle.mm_lines.specs.Lines.{settled, lines}
use Rattle.mm_lines.specs.declared.line.Line.{Line}
use Rattle.mm_logic.specs.Formula.{Formula}
use Rattle.mm_logic.specs.Growth.{no_values}
use Rattle.mm_logic.specs.Occurrence.{cells}
use Rattle.mm_logic.specs.Order.{SameMembers}
use Rattle.mm_logic.specs.StateSize.{asked, rows}
use Rattle.mm_logic.specs.Value.{Value}
use Rattle.mm_logic.proofs.GrowthLemmas.{missing-same}
use Rattle.mm_nodes.proofs.RoomLemmas.{cells-missing}
use Rattle.mm_tree.specs.NamedTree.{Tree, nodes, shape}

-- ---- which types are kept

pub same_cells : (F : Formula) (vs ws : List Value) → SameMembers vs ws → cells F vs ≡ cells F ws
same_cells F vs ws h = sym (cells-missing F vs) ∙ missing-same F (no_values F) vs ws h ∙ cells-missing F ws

pub more_same : (vs ws more : List Value) → SameMembers vs ws → SameMembers (vs ++ more) (ws ++ more)
more_same vs ws more h = λ p. list_any-append p vs more ∙ ap (λ b. b || list_any p more) (h p) ∙ sym (list_any-append p ws more)

full_same : (s : Session) (vs ws : List Value) (tree : Tree) → SameMembers vs ws → is_full s vs tree ≡ is_full s ws tree
unfolding is_full
full_same s vs ws tree h =
    ap (λ n. nat_lt s.limit (n + rows s.f s.query (shape tree)))
    (same_cells (asked s.query) (vs ++ types_in s tree) (ws ++ types_in s tree) (more_same vs ws (types_in s tree) h))

kept_by : (over full : Bool) (vs ws ts : List Value) → SameMembers vs ws →
    SameMembers (if over then vs else if full then ts else vs ++ ts) (if over then ws else if full then ts else ws ++ ts)
kept_by true full vs ws ts h = h
kept_by false true vs ws ts h = λ p. refl
kept_by false false vs ws ts h = more_same vs ws ts h

kept_same : (s : Session) (vs ws : List Value) (tree : Tree) → SameMembers vs ws → SameMembers (kept_for s vs tree) (kept_for s ws tree)
unfolding kept_for
kept_same s vs ws tree h =
    let over = is_over_limit s tree in
    let ts = types_in s tree in
    subst (λ (full : Bool). SameMembers (if over then vs else if is_full s vs tree then ts else vs ++ ts) (if over then ws else if full then ts else ws ++ ts))
    (full_same s vs ws tree h) (kept_by over (is_full s vs tree) vs ws ts h)

after_same : (s : Session) (vs ws : List Value) (edit : Option Applied) → SameMembers vs ws → SameMembers (kept_after s vs edit) (kept_after s ws edit)
after_same s vs ws None h = h
after_same s vs ws (Some a) h = kept_same s vs ws a.tree h

work_same : (s : Session) (vs ws : List Value) (edit : Option Applied) → SameMembers vs ws → edit_work s vs edit ≡ edit_work s ws edit
unfolding afresh
work_same s vs ws None h = refl
work_same s vs ws (Some a) h =
    ap (λ (full : Bool). a.cost + (if is_over_limit s a.tree || full then nodes a.tree else 0)) (full_same s vs ws a.tree h)

pub items_same : (its : Items) (vs ws : List Value) (s : Session) → SameMembers vs ws → items_work vs s its ≡ items_work ws s its
unfolding items_work
items_same NoMore vs ws s h = refl
items_same Unended vs ws s h = refl
items_same (Single r rest) vs ws s h =
    ap₂ (λ a b. a + b) (work_same s vs ws (line_applied s r) h)
    (items_same rest (kept_after s vs (line_applied s r)) (kept_after s ws (line_applied s r)) (after_reply s (single s r)) (after_same s vs ws (line_applied s r) h))
items_same (Block r rs rest) vs ws s h =
    ap₂ (λ a b. a + b) (work_same s vs ws (block_applied s r rs) h)
    (items_same rest (kept_after s vs (block_applied s r rs)) (kept_after s ws (block_applied s r rs)) (after_reply s (block s r rs))
    (after_same s vs ws (block_applied s r rs) h))

-- ---- growth

-- the items of some lines, and of these and more
abbrev GoOn : Items → Items → Type 0
GoOn its all = (kept : List Value) (s : Session) → items_work kept s its ≤ items_work kept s all

-- the rest of a block in some lines, and in these and more
abbrev RestGoesOn : Rest → Rest → Type 0
RestGoesOn None all = Unit {0}
RestGoesOn (Some rest) all = (its : Items) × (all ≡ Some (rest.0, its)) × GoOn rest.1 its

none_goes_on : (all : Items) → GoOn NoMore all
unfolding items_work
none_goes_on all kept s = omega arith

single_goes_on : (r : Line) (its all : Items) → GoOn its all → GoOn (Single r its) (Single r all)
unfolding items_work
single_goes_on r its all h kept s =
    let later = h (kept_after s kept (line_applied s r)) (after_reply s (single s r)) in omega (arith, later)

block_more : (r : Line) (rs : List Line) (its all : Items) → GoOn its all → GoOn (Block r rs its) (Block r rs all)
unfolding items_work
block_more r rs its all h kept s =
    let later = h (kept_after s kept (block_applied s r rs)) (after_reply s (block s r rs)) in omega (arith, later)

unended_goes_on : (all : Items) → GoOn Unended all
unfolding items_work
unended_goes_on all kept s = omega arith

block_goes_on : (r : Line) (rest all : Rest) → RestGoesOn rest all → GoOn (block_of r rest) (block_of r all)
block_goes_on r None all h = unended_goes_on (block_of r all)
block_goes_on r (Some rest) all h =
    subst (λ (a : Rest). GoOn (Block r rest.0 rest.1) (block_of r a)) (sym h.1) (block_more r rest.0 rest.1 h.0 h.2)

more_of_block : (r : Line) (rest all : Rest) → RestGoesOn rest all → RestGoesOn (after_line r rest) (after_line r all)
more_of_block r None all h = tt
more_of_block r (Some rest) all h = (h.0, ap (after_line r) h.1, h.2)

item_goes_on : (r : Line) (b : Bool) (its all : Items) (rest rest_all : Rest) → GoOn its all → RestGoesOn rest rest_all
    → GoOn (if b then block_of r rest else Single r its) (if b then block_of r rest_all else Single r all)
item_goes_on r true its all rest rest_all h k = block_goes_on r rest rest_all k
item_goes_on r false its all rest rest_all h k = single_goes_on r its all h

rest_goes_on : (r : Line) (b : Bool) (its all : Items) (rest rest_all : Rest) → GoOn its all → RestGoesOn rest rest_all
    → RestGoesOn (if b then Some (r ∷ [], its) else after_line r rest) (if b then Some (r ∷ [], all) else after_line r rest_all)
rest_goes_on r true its all rest rest_all h k = (all, refl, h)
rest_goes_on r false its all rest rest_all h k = more_of_block r rest rest_all k

both_go_on : (rs more : List Line) → GoOn (items rs) (items (rs ++ more)) × RestGoesOn (rest_of_block rs) (rest_of_block (rs ++ more))
unfolding items
both_go_on [] more = (none_goes_on (items more), tt)
both_go_on (r ∷ rs) more =
    let below = both_go_on rs more in (
      item_goes_on r (opens r) (items rs) (items (rs ++ more)) (rest_of_block rs) (rest_of_block (rs ++ more)) below.0 below.1,
      rest_goes_on r (closes r) (items rs) (items (rs ++ more)) (rest_of_block rs) (rest_of_block (rs ++ more)) below.0 below.1,
    )

unless_over : (over : Bool) (n a b : ℕ) → a ≤ b → n + (if over then 0 else a) ≤ n + (if over then 0 else b)
unless_over true n a b h = omega arith
unless_over false n a b h = omega (arith, h)

after_grows : (more : List Line) (a b : Reading Session) → Keeps more a b → work_after a ≤ work_after b
after_grows more (Read s rest) b p =
    subst (λ (r : Reading Session). work_after (Read s rest) ≤ work_after r) (sym p)
    (unless_over (is_over_limit s s.tree) (nodes s.tree) _ _ ((both_go_on rest more).0 (types_in s s.tree) s))
after_grows more (Refused why) b p = omega arith
after_grows more Short b p = omega arith

pub work_goes_on : (settings : Settings) (rs more : List Line) → work settings rs ≤ work settings (rs ++ more)
unfolding work
work_goes_on settings rs more = after_grows more (header_lines settings rs) (header_lines settings (rs ++ more)) (header_lines_steady settings rs more)

front_works : (settings : Settings) (rs all : List Line) → IsFront rs all → work settings rs ≤ work settings all
front_works settings rs all p = subst (λ (l : List Line). work settings rs ≤ work settings l) p.1 (work_goes_on settings rs p.0)

pub work_grows : (settings : Settings) (a b : List ℕ) → WorkGrows settings a b
work_grows settings a b = record {
  longer = front_works settings (settled a) (settled (a ++ b)) (settled_next a b);
  whole = front_works settings (settled a) (lines a) (subst (λ (t : List ℕ). IsFront (settled a) (lines t)) (append-nil a) (settled_whole a []));
}
