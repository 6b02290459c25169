-- What is written for an item goes on with the lines after it.
use Rattle.std.specs.Prelude.{◌≡◌, refl, ℕ, ◌+◌, Bool, true, false, List, [], ◌∷◌, codes, Option, Some, None, Ok, Err, if◌then◌else◌}
use Rattle.std.proofs.Common.{ap, ap₂, sym, ◌∙◌, arith}
use Rattle.std.specs.declared.result.Result.{Result}
use Rattle.std.specs.Str.{bytes_eq}
use Rattle.std.proofs.lemmas.Slice.Eq.{bytes_eq-Decides}
use Rattle.std.proofs.lemmas.Bool.{and_parts}
use Rattle.mm_field.specs.declared.Field.{Field}
use Rattle.mm_lines.specs.LineBytes.{bytes_of}
use Rattle.mm_lines.specs.Tokens.{tokens}
use Rattle.mm_lines.specs.declared.line.Line.{Line}
use Rattle.mm_lines.specs.declared.line.LineText.{LineText}
use Rattle.mm_lines.specs.declared.line.LineText.TheVariants.{Whole, TooLong}
use Rattle.mm_job_text.specs.Arguments.{begins, first_is, too_long}
use Rattle.mm_job_text.specs.Readers.{Read, Reading, now}
use Rattle.mm_job_text.specs.declared.refusal.Refusal.{Refusal}
use Rattle.mm_edit.specs.Edits.{Applied}
use Rattle.mm_job.specs.State.Blocks.{GoesOn, Opened, block_from, comparison_line, edit_from, lines_from_block, reply_of, rest_work, work_from_block, written_rest}
use Rattle.mm_job.specs.State.Replies.{Replies, SpendsOn}
use Rattle.mm_job.specs.State.Sessions.{IsEditor, kept_of, session_of}
use Rattle.mm_job.specs.State.Spending.{Spends, SpendsAtMost}
use Rattle.mm_job.specs.Edits.{Reply, changed, check_end, check_names, check_rows, compared_or, exchanged, line_edit, read_whole, replaced_path, replacement, single}
use Rattle.mm_job.specs.Work.{edit_work, items_work, kept_after, line_applied}
use Rattle.mm_job.specs.declared.edit.Above.{Above}
use Rattle.mm_job.specs.declared.editor.Editor.{Editor}
use Rattle.mm_job.proofs.WorkLemmas.{items_same}
use Rattle.mm_job_text.specs.Checks.{◌>>=◌}
use Rattle.mm_job_text.specs.TreeLines.{end_line, is_tree_part, tree_lines}
use Rattle.mm_logic.specs.Value.{Value}
use Rattle.mm_present.specs.Comparing.{Named}
use Rattle.mm_tree.specs.NamedTree.{Tree}
use Rattle.mm_tree.specs.Paths.{Path}
use Rattle.mm_job.specs.Header.{Session}
use Rattle.mm_job.specs.Items.{Rest, block_of, closes, items, opens, rest_of_block, after_line, Single}
use Rattle.mm_job.specs.Output.{Ending, after_reply, reply_line, lines_of_items}
use Rattle.mm_job.specs.declared.block.Block.{Block}
use Rattle.mm_job.specs.declared.output_line.OutputLine.{OutputLine}

-- ---- the end of a block

-- a line that begins with `end` begins with no other word
other_word : (word : List ℕ) (ts : List (List ℕ)) → bytes_eq word (codes "end") ≡ false → first_is (codes "end") ts ≡ true → first_is word ts ≡ false
other_word word [] no_end h = refl
other_word word (t ∷ ts) no_end h = ap (bytes_eq word) (sym ((bytes_eq-Decides (codes "end") t).0 h)) ∙ no_end

pub end_is_other : (word : List ℕ) (r : Line) → bytes_eq word (codes "end") ≡ false → closes r ≡ true → begins word r ≡ false
end_is_other word r no_end h = other_word word (tokens (bytes_of r)) no_end (and_parts (begins (codes "end") r) _ h).0

-- it is not too long
text_is_short : (t : LineText) (n : ℕ) → first_is (codes "end") (tokens (bytes_of (record { number = n; text = t }))) ≡ true → too_long t n ≡ None
unfolding tokens
text_is_short (Whole bytes) n h = refl
text_is_short TooLong n h = absurd (let e : false ≡ true = h in cc)

pub end_is_short : (r : Line) → closes r ≡ true → too_long r.text r.number ≡ None
end_is_short r h = text_is_short r.text r.number (and_parts (begins (codes "end") r) _ h).0

pub rows_end : (f : Field) (names rows : List (List ℕ)) (r : Line) → closes r ≡ true → check_rows f names rows (r ∷ []) ≡ Read (record { names = names; rows = rows }) []
unfolding check_rows check_end
rows_end f names rows r h = rw (end_is_other (codes "row") r refl h) (rw (end_is_short r h) (rw h refl))

pub names_end : (f : Field) (names : List (List ℕ)) (r : Line) → closes r ≡ true → check_names f names (r ∷ []) ≡ Read (record { names = names; rows = [] }) []
unfolding check_names
names_end f names r h = rw (end_is_other (codes "elements") r refl h) (rows_end f names [] r h)

-- ---- the lines of a new subtree

-- a line that ends a block is none of a tree
end_is_no_part : (r : Line) → closes r ≡ true → is_tree_part r ≡ false
end_is_no_part r h =
    rw (end_is_other (codes "elem") r refl h) (rw (end_is_other (codes "void") r refl h) (end_is_other (codes "join") r refl h))

pub subtree_end : (s : Session) (above : Above) (trees : List Tree) (r : Line) → closes r ≡ true →
    replacement s above.name above.up trees (r ∷ [])
    ≡ (replaced_path s.tree above.name above.up >>= λ path. end_line trees r >>= λ new. exchanged s.tree path new.0 new.1)
unfolding replacement tree_lines
subtree_end s above trees r h =
    rw (end_is_no_part r h) (rw (end_is_short r h) (by_path (replaced_path s.tree above.name above.up) (end_line trees r)))
  where
    by_path : (o : Result Path Refusal) (e : Result (Tree × ℕ) Refusal) →
        (o >>= λ path. read_whole (now e []) >>= λ new. exchanged s.tree path new.0 new.1) ≡ (o >>= λ path. e >>= λ new. exchanged s.tree path new.0 new.1)
    by_path (Ok path) (Ok new) = refl
    by_path (Ok path) (Err why) = refl
    by_path (Err why) e = refl

pub subtree_taken : (s : Session) (above : Above) (trees : List Tree) (r : Line) (path : Path) (new : Tree × ℕ) → closes r ≡ true
    → replaced_path s.tree above.name above.up ≡ Ok path → end_line trees r ≡ Ok new
    → replacement s above.name above.up trees (r ∷ []) ≡ exchanged s.tree path new.0 new.1
subtree_taken s above trees r path new h at end = subtree_end s above trees r h ∙ rw (at, end) refl

pub subtree_refused : (s : Session) (above : Above) (trees : List Tree) (r : Line) (path : Path) (why : Refusal) → closes r ≡ true
    → replaced_path s.tree above.name above.up ≡ Ok path → end_line trees r ≡ Err why
    → replacement s above.name above.up trees (r ∷ []) ≡ Err why
subtree_refused s above trees r path why h at end = subtree_end s above trees r h ∙ rw (at, end) refl

-- ---- a line that opens a block

opened_rest : (e : Ending) (s : Session) (r : Line) (b : Block) (rest : Rest) → Opened s r b → lines_of_items e s (block_of r rest) ≡ written_rest e s b rest
unfolding lines_of_items
opened_rest e s r b None h = refl
opened_rest e s r b (Some rest) h = ap (λ reply. reply_line reply ∷ lines_of_items e (after_reply s reply) rest.1) (h.reply rest.0)

pub opened : (e : Ending) (s : Session) (r : Line) (b : Block) (rs : List Line) → opens r ≡ true → Opened s r b
    → lines_from_block e s None (r ∷ rs) ≡ lines_from_block e s (Some b) rs
unfolding items
opened e s r b rs h same = ap (λ (c : Bool). lines_of_items e s (if c then block_of r (rest_of_block rs) else Single r (items rs))) h ∙ opened_rest e s r b (rest_of_block rs) same

opened_rest_work : (kept : List Value) (s : Session) (r : Line) (b : Block) (rest : Rest) → Opened s r b → items_work kept s (block_of r rest) ≡ rest_work kept s b rest
unfolding items_work
opened_rest_work kept s r b None h = refl
opened_rest_work kept s r b (Some rest) h =
    ap₂ (λ edit reply. edit_work s kept edit + items_work (kept_after s kept edit) (after_reply s reply) rest.1) (h.edit rest.0) (h.reply rest.0)

pub opened_work : (kept : List Value) (s : Session) (r : Line) (b : Block) (rs : List Line) → opens r ≡ true → Opened s r b
    → work_from_block kept s None (r ∷ rs) ≡ work_from_block kept s (Some b) rs
unfolding items
opened_work kept s r b rs h same =
    ap (λ (c : Bool). items_work kept s (if c then block_of r (rest_of_block rs) else Single r (items rs))) h ∙ opened_rest_work kept s r b (rest_of_block rs) same

-- ---- an item of one line

pub single_item : (e : Ending) (s : Session) (r : Line) (rs : List Line) → opens r ≡ false
    → lines_from_block e s None (r ∷ rs) ≡ reply_line (changed s (line_edit s r)) ∷ lines_from_block e (after_reply s (changed s (line_edit s r))) None rs
unfolding items lines_of_items single
single_item e s r rs h = ap (λ (c : Bool). lines_of_items e s (if c then block_of r (rest_of_block rs) else Single r (items rs))) h

pub single_work : (kept : List Value) (s : Session) (r : Line) (rs : List Line) → opens r ≡ false
    → work_from_block kept s None (r ∷ rs)
    ≡ edit_work s kept (line_applied s r) + work_from_block (kept_after s kept (line_applied s r)) (after_reply s (changed s (line_edit s r))) None rs
unfolding items items_work single
single_work kept s r rs h = ap (λ (c : Bool). items_work kept s (if c then block_of r (rest_of_block rs) else Single r (items rs))) h

-- ---- a line inside a block

inside_rest : (e : Ending) (s : Session) (r : Line) (b new : Block) (rest : Rest) → GoesOn s b r new → written_rest e s b (after_line r rest) ≡ written_rest e s new rest
inside_rest e s r b new None h = refl
inside_rest e s r b new (Some rest) h = ap (λ reply. reply_line reply ∷ lines_of_items e (after_reply s reply) rest.1) (h.reply rest.0)

pub inside : (e : Ending) (s : Session) (r : Line) (b new : Block) (rs : List Line) → closes r ≡ false → GoesOn s b r new
    → lines_from_block e s (Some b) (r ∷ rs) ≡ lines_from_block e s (Some new) rs
unfolding rest_of_block
inside e s r b new rs h same =
    ap (λ (c : Bool). written_rest e s b (if c then Some (r ∷ [], items rs) else after_line r (rest_of_block rs))) h ∙ inside_rest e s r b new (rest_of_block rs) same

inside_rest_work : (kept : List Value) (s : Session) (r : Line) (b new : Block) (rest : Rest) → GoesOn s b r new → rest_work kept s b (after_line r rest) ≡ rest_work kept s new rest
inside_rest_work kept s r b new None h = refl
inside_rest_work kept s r b new (Some rest) h =
    ap₂ (λ edit reply. edit_work s kept edit + items_work (kept_after s kept edit) (after_reply s reply) rest.1) (h.edit rest.0) (h.reply rest.0)

pub inside_work : (kept : List Value) (s : Session) (r : Line) (b new : Block) (rs : List Line) → closes r ≡ false → GoesOn s b r new
    → work_from_block kept s (Some b) (r ∷ rs) ≡ work_from_block kept s (Some new) rs
unfolding rest_of_block
inside_work kept s r b new rs h same =
    ap (λ (c : Bool). rest_work kept s b (if c then Some (r ∷ [], items rs) else after_line r (rest_of_block rs))) h ∙ inside_rest_work kept s r b new (rest_of_block rs) same

-- ---- the end of a block

pub ended : (e : Ending) (s : Session) (r : Line) (b : Block) (rs : List Line) → closes r ≡ true
    → lines_from_block e s (Some b) (r ∷ rs) ≡ reply_line (block_from s b (r ∷ [])) ∷ lines_from_block e (after_reply s (block_from s b (r ∷ []))) None rs
unfolding rest_of_block
ended e s r b rs h = ap (λ (c : Bool). written_rest e s b (if c then Some (r ∷ [], items rs) else after_line r (rest_of_block rs))) h

pub ended_work : (kept : List Value) (s : Session) (r : Line) (b : Block) (rs : List Line) → closes r ≡ true
    → work_from_block kept s (Some b) (r ∷ rs)
    ≡ edit_work s kept (edit_from s b (r ∷ [])) + work_from_block (kept_after s kept (edit_from s b (r ∷ []))) (after_reply s (block_from s b (r ∷ []))) None rs
unfolding rest_of_block
ended_work kept s r b rs h = ap (λ (c : Bool). rest_work kept s b (if c then Some (r ∷ [], items rs) else after_line r (rest_of_block rs))) h

unchanged : (s : Session) (o : Result Bool Refusal) → after_reply s (compared_or o) ≡ s
unchanged s (Ok same) = refl
unchanged s (Err e) = refl

-- a check leaves the session as it is
pub check_unchanged : (s : Session) (given : Reading Named) → after_reply s (reply_of s given) ≡ s
check_unchanged s given = unchanged s _

-- ---- what an editor has replied

pub lines_by : (old new : Editor) (reply : Reply) (edit : Option Applied) (output : OutputLine) (all : Ending → List Line → List OutputLine) → Replies old new reply edit output
    → ((e : Ending) (rs : List Line) → all e rs ≡ reply_line reply ∷ lines_from_block e (after_reply (session_of old) reply) None rs)
    → (e : Ending) (rs : List Line) → all e rs ≡ output ∷ lines_from_block e (session_of new) None rs
lines_by old new reply edit output all r h e rs =
    h e rs ∙ ap₂ (λ (o : OutputLine) (s : Session). o ∷ lines_from_block e s None rs) (sym r.line) (sym r.session)

pub spends_by : (old new : Editor) (reply : Reply) (edit : Option Applied) (output : OutputLine) (before : List Line → ℕ) (r : Line) (steps steps_new : ℕ) → Replies old new reply edit output
    → SpendsOn old edit steps steps_new
    → ((rs : List Line) → before (r ∷ rs) ≡ edit_work (session_of old) (kept_of old) edit
    + work_from_block (kept_after (session_of old) (kept_of old) edit) (after_reply (session_of old) reply) None rs)
    → Spends before (work_from_block (kept_of new) (session_of new) None) (r ∷ []) [] steps steps_new
spends_by old new reply edit output before r steps steps_new replied spent h =
    let w = edit_work (session_of old) (kept_of old) edit in
    let kept = kept_after (session_of old) (kept_of old) edit in
    record {
      work = w;
      within = spent;
      same = λ rs. h rs ∙ ap (λ (n : ℕ). w + n)
          (items_same (items rs) kept (kept_of new) (after_reply (session_of old) reply) (λ p. sym (replied.kept p))
          ∙ ap (λ (s : Session). items_work (kept_of new) s (items rs)) (sym replied.session));
    }

pub most_by : (old : Editor) (edit : Option Applied) (before rest : List Line → ℕ) (r : Line) (steps steps_new : ℕ) → SpendsOn old edit steps steps_new
    → ((rs : List Line) → before (r ∷ rs) ≡ edit_work (session_of old) (kept_of old) edit + rest rs) → SpendsAtMost before (r ∷ []) steps steps_new
most_by old edit before rest r steps steps_new spent h rs = let all = h rs in omega (arith, spent, all)

-- a check is answered, and changes nothing
pub check_closed : (e : Editor) (given : Named) (read : Reading Named) (output : OutputLine) → read ≡ Read given [] → output ≡ comparison_line (session_of e) given
    → IsEditor e → Replies e e (reply_of (session_of e) read) None output
check_closed e given read output is line editor = record {
  line = line ∙ ap (λ (x : Reading Named). reply_line (reply_of (session_of e) x)) (sym is);
  session = sym (check_unchanged (session_of e) read);
  kept = λ p. refl;
  editor = editor;
}
