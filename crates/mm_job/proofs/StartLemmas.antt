-- A session that is started is that of the header.
use Rattle.std.proofs.Common.{◌≡◌, ◌≤◌, ℕ, ◌+◌, Bool, true, false, not, List, [], ◌∷◌, ◌++◌, refl, sym, ap, subst, ◌∙◌, arith}
use Rattle.std.specs.Prelude.{IfOk, Ok, Err, Option, Some, None, if◌then◌else◌}
use Rattle.std.specs.declared.result.Result.{Result}
use Rattle.mm_edit.specs.Edits as kinds
use Rattle.mm_edit.specs.Edits.{Started}
use Rattle.mm_edit.specs.KeptTypes.{IsOver, size_beside}
use Rattle.mm_edit.specs.SessionValue.{SessionValue, kept_types}
use Rattle.mm_edit.specs.declared.query.Query.{Query as Kind}
use Rattle.mm_edit.specs.declared.query.Query.TheVariants as kind
use Rattle.mm_field.specs.declared.Field.{Field}
use Rattle.mm_formula.specs.Scope.{IsScoped, outermost, slotted}
use Rattle.mm_formula.specs.Syntax.{Syntax}
use Rattle.mm_formula.proofs.SlotLemmas.{scoped_sorted}
use Rattle.mm_header.specs.Header.{Parts, matched}
use Rattle.mm_header.specs.Queries.{Question, minor_line, minor_query, query_for, query_line}
use Rattle.mm_header.specs.Queries.Question.{Spelled, Minor}
use Rattle.mm_header.specs.QueryValues.{query_value}
use Rattle.mm_header.specs.State.HeaderStates.{IsHeader, header_value}
use Rattle.mm_header.specs.declared.state.HeaderData.{HeaderData}
use Rattle.mm_job.specs.Header.{Session, after_parts, is_over_limit, query_part, session_part, started}
use Rattle.mm_job.specs.Items.{items}
use Rattle.mm_job.specs.Settings.{Settings}
use Rattle.mm_job.specs.State.Replies.{Begins, Begun, SpendsStart, Starts}
use Rattle.mm_job.specs.Output.{Ending, answered, lines_after_header, lines_of_items}
use Rattle.mm_job.specs.State.Sessions.{IsEditor, kept_of, kind_by, session_of, session_with}
use Rattle.mm_job.specs.Work.{items_work, types_in, work_after}
use Rattle.mm_job.specs.declared.editor.Editor.{Editor}
use Rattle.mm_job.specs.declared.output_line.OutputLine.{OutputLine}
use Rattle.mm_job.specs.declared.output_line.OutputLine.TheVariants.{Refuses}
use Rattle.mm_job.proofs.EditLemmas.{IsFit, is_over, members_are, not_over}
use Rattle.mm_job.proofs.WorkLemmas.{items_same}
use Rattle.mm_job_text.specs.Arguments.{too_long}
use Rattle.mm_job_text.specs.Becoming.{Becomes, Goes, Reads}
use Rattle.mm_job_text.specs.Checks.{◌>>=◌, ◌>>◌, require}
use Rattle.mm_job_text.specs.Readers.{Reader, Reading, Read, Refused, and_then, now, refused_or, whole}
use Rattle.mm_job_text.specs.declared.refusal.Refusal.{Refusal}
use Rattle.mm_job_text.specs.declared.refusal.Refusal.TheVariants as refusal
use Rattle.mm_job_text.specs.declared.refusal.Stop.{Stop}
use Rattle.mm_job_text.specs.declared.refusal.Stop.TheVariants as stop
use Rattle.mm_lines.specs.declared.line.Line.{Line}
use Rattle.mm_logic.specs.Formula.{Formula}
use Rattle.mm_logic.specs.Growth.{Grown}
use Rattle.mm_logic.specs.Meaning.{WellSorted}
use Rattle.mm_logic.specs.StateSize.{Query, asked}
use Rattle.mm_logic.specs.StateSize.Query.{Decide, Least}
use Rattle.mm_nodes.specs.Demands.{made}
use Rattle.mm_tree.specs.NamedTree.{Tree, nodes, shape}
use Rattle.mm_tree.specs.TreeValue.{TreeValue}
use Rattle.mm_tree.specs.ValidTree.{IsValidTree}

-- ---- queries

pub query_sorted : (free : Option (List ℕ)) (F : Syntax) → IsScoped F free → WellSorted (λ k. false) (asked (query_for free F))
query_sorted None F h = scoped_sorted F None h
query_sorted (Some v) F h = scoped_sorted F (Some v) h

-- the formula of a machine, asked as its scoped formula asks
pub query_shaped : (free : Option (List ℕ)) (G : Syntax) (F : Formula) → F ≡ slotted (outermost free) G → kinds.query_of (kind_by free) F ≡ query_for free G
query_shaped None G F h = ap Decide h
query_shaped (Some v) G F h = ap Least h

formula_sorted : (k : Kind) (F : Formula) → WellSorted (λ k. false) (asked (kinds.query_of k F)) → WellSorted (λ k. false) F
formula_sorted kind.Decide F h = h
formula_sorted kind.Least F h = h

pub query_is_sorted : (k : Kind) (F : Formula) → WellSorted (λ k. false) F → WellSorted (λ k. false) (asked (kinds.query_of k F))
query_is_sorted kind.Decide F h = h
query_is_sorted kind.Least F h = h

pub shape_sorted : (k : Kind) (F : Formula) (Q : Query) → kinds.query_of k F ≡ Q → WellSorted (λ k. false) (asked Q) → WellSorted (λ k. false) F
shape_sorted k F Q is h = formula_sorted k F (subst (λ (q : Query). WellSorted (λ k. false) (asked q)) (sym is) h)

-- ---- what was started

pub begun_by : (limit : ℕ) (h : HeaderData) (Q : Query) (T : TreeValue) (t : SessionValue) → IsHeader h → T.f ≡ h.field → IsValidTree T.f T.tree
    → WellSorted (λ k. false) (asked Q) → Started Q T limit t → Begun (session_with limit h Q T.tree) (record { field = h.field; ops = h.ops; session = t })
begun_by limit h Q T t header field valid sorted s =
    let S = session_with limit h Q T.tree in
    let tree : IsValidTree h.field T.tree = subst (λ (f : Field). IsValidTree f T.tree) field valid in
    let fit : IsFit S.f S.query T.tree = record { sorted = sorted; tree = tree } in
    let small : size_beside [] Q h.field T.tree ≤ limit = subst (λ (f : Field). size_beside [] Q f T.tree ≤ limit) field s.size in
    record {
      session = λ i. record { f = h.field; ops = h.ops; query = s.query i; limit = s.limits i; tree = (s.tree i).tree };
      within = not_over S T.tree fit small;
      kept = members_are S [] (kept_types t) T.tree fit (subst (λ (f : Field). Grown [] (kept_types t) (made f Q (shape T.tree))) field s.kept);
      editor = record {
        field = ap (λ (v : TreeValue). v.f) s.tree ∙ field;
        tree = subst (λ (v : TreeValue). IsValidTree h.field v.tree) (sym s.tree) tree;
        ops = header.ops;
        sorted = subst (λ (q : Query). WellSorted (λ k. false) (asked q)) (sym s.query) sorted;
      };
    }

pub over_by : (limit : ℕ) (h : HeaderData) (Q : Query) (T : TreeValue) → T.f ≡ h.field → IsValidTree T.f T.tree → WellSorted (λ k. false) (asked Q)
    → IsOver Q T.f T.tree limit → is_over_limit (session_with limit h Q T.tree) T.tree ≡ true
over_by limit h Q T field valid sorted over =
    is_over (session_with limit h Q T.tree) T.tree (record { sorted = sorted; tree = subst (λ (f : Field). IsValidTree f T.tree) field valid })
    (subst (λ (f : Field). IsOver Q f T.tree limit) field over)

-- ---- what is read of the header then

start_over : (s : Session) (rs : List Line) → is_over_limit s s.tree ≡ true → now (started s) rs ≡ Refused refusal.States
start_over s rs h = ap (λ (over : Bool). now (require (not over) refusal.States >>= λ u. Ok s) rs) h

start_within : (s : Session) (rs : List Line) → is_over_limit s s.tree ≡ false → now (started s) rs ≡ Read s rs
start_within s rs h = ap (λ (over : Bool). now (require (not over) refusal.States >>= λ u. Ok s) rs) h

start_goes : (reader : Reader Session) (lines : List Line) (s : Session) (r : Result Editor Stop) → ((rs : List Line) → reader (lines ++ rs) ≡ Read s rs) → Begins s r
    → (rs : List Line) → Goes r (and_then (reader (lines ++ rs)) (λ s. now (started s))) (λ e. Read (session_of e) rs)
start_goes reader lines s (Ok e) read begun rs =
    ap (λ (x : Reading Session). and_then x (λ s. now (started s))) (read rs) ∙ start_within s rs begun.within ∙ ap (λ (t : Session). Read t rs) (sym begun.session)
start_goes reader lines s (Err (stop.Refused why)) read begun rs =
    ap (λ (x : Reading Session). and_then x (λ s. now (started s))) (read rs) ∙ start_over s rs begun.1 ∙ ap Refused (sym begun.0)
start_goes reader lines s (Err stop.NoMemory) read begun rs = tt

start_editor : (s : Session) (r : Result Editor Stop) → Begins s r → IfOk r IsEditor
start_editor s (Ok e) begun = begun.editor
start_editor s (Err why) begun = tt

-- ---- the steps of a start

work_read : (read : Reading Session) (s : Session) (rs : List Line) (b : Bool) → read ≡ Read s rs → is_over_limit s s.tree ≡ b
    → work_after read ≡ nodes s.tree + (if b then 0 else items_work (types_in s s.tree) s (items rs))
work_read read s rs b is over =
    ap work_after is ∙ ap (λ (c : Bool). nodes s.tree + (if c then 0 else items_work (types_in s s.tree) s (items rs))) over

start_spends : (reader : Reader Session) (lines : List Line) (s : Session) (r : Result Editor Stop) (steps steps_new : ℕ)
    → ((rs : List Line) → reader (lines ++ rs) ≡ Read s rs) → Begins s r → steps_new ≤ steps + nodes s.tree
    → SpendsStart (λ rs. work_after (reader rs)) lines r steps steps_new
start_spends reader lines s (Ok e) steps steps_new read begun few = record {
  work = nodes s.tree;
  within = few;
  same = λ rs. work_read (reader (lines ++ rs)) s rs false (read rs) begun.within
      ∙ ap (λ (n : ℕ). nodes s.tree + n)
      (items_same (items rs) (types_in s s.tree) (kept_of e) s (λ q. sym (begun.kept q))
      ∙ ap (λ (t : Session). items_work (kept_of e) t (items rs)) (sym begun.session));
}
start_spends reader lines s (Err (stop.Refused why)) steps steps_new read begun few = record {
  work = nodes s.tree;
  within = few;
  same = λ rs. work_read (reader (lines ++ rs)) s rs true (read rs) begun.1;
}
start_spends reader lines s (Err stop.NoMemory) steps steps_new read begun few = λ rs.
    let all : work_after (reader (lines ++ rs)) ≡ nodes s.tree + (if is_over_limit s s.tree then 0 else items_work (types_in s s.tree) s (items rs)) =
    work_read (reader (lines ++ rs)) s rs (is_over_limit s s.tree) (read rs) refl in
    omega (arith, all, few)

-- ---- what some lines begin

-- they are read as a session
session_starts : (reader : Reader Session) (lines : List Line) (s : Session) (r : Result Editor Stop) (steps steps_new : ℕ)
    → ((rs : List Line) → reader (lines ++ rs) ≡ Read s rs) → Begins s r → steps_new ≤ steps + nodes s.tree → Starts reader lines r steps steps_new
session_starts reader lines s r steps steps_new read begun few = record {
  editor = start_editor s r begun;
  goes = start_goes reader lines s r read begun;
  spends = start_spends reader lines s r steps steps_new read begun few;
}

-- they are refused
refused_starts : (reader : Reader Session) (lines : List Line) (why : Refusal) (steps : ℕ) → ((rs : List Line) → reader (lines ++ rs) ≡ Refused why)
    → Starts reader lines (Err (stop.Refused why)) steps steps
refused_starts reader lines why steps is = record {
  editor = tt;
  goes = λ rs. ap (λ (x : Reading Session). and_then x (λ s. now (started s))) (is rs);
  spends = record { work = 0; within = omega arith; same = λ rs. ap work_after (is rs) };
}

-- memory ran out
pub nothing_starts : (reader : Reader Session) (lines : List Line) (steps : ℕ) → Starts reader lines (Err stop.NoMemory) steps steps
nothing_starts reader lines steps = record { editor = tt; goes = λ rs. tt; spends = λ rs. omega arith }

spends_later : (first after : Reader Session) (line : Line) (r : Result Editor Stop) (steps steps_new : ℕ) → ((rs : List Line) → first (line ∷ rs) ≡ after rs)
    → SpendsStart (λ rs. work_after (after rs)) [] r steps steps_new → SpendsStart (λ rs. work_after (first rs)) (line ∷ []) r steps steps_new
spends_later first after line (Ok e) steps steps_new is h = record { work = h.work; within = h.within; same = λ rs. ap work_after (is rs) ∙ h.same rs }
spends_later first after line (Err (stop.Refused why)) steps steps_new is h =
    record { work = h.work; within = h.within; same = λ rs. ap work_after (is rs) ∙ h.same rs }
spends_later first after line (Err stop.NoMemory) steps steps_new is h = λ rs.
    subst (λ (x : Reading Session). steps_new ≤ steps + work_after x) (sym (is rs)) (h rs)

-- a line is read, and then what begins without a line more
starts_later : (first after : Reader Session) (line : Line) (r : Result Editor Stop) (steps steps_new : ℕ) → ((rs : List Line) → first (line ∷ rs) ≡ after rs)
    → Starts after [] r steps steps_new → Starts first (line ∷ []) r steps steps_new
starts_later first after line r steps steps_new is h = record {
  editor = h.editor;
  goes = λ rs. subst (λ (x : Reading Session). Goes r (and_then x (λ s. now (started s))) (λ e. Read (session_of e) rs)) (sym (is rs)) (h.goes rs);
  spends = spends_later first after line r steps steps_new is h.spends;
}

-- ---- rows

-- the rows and the tree of a header agree
pub matched_starts : (limit : ℕ) (h : HeaderData) (T : Tree) (Q : Query) (r : Result Editor Stop) (steps steps_new : ℕ) → matched (header_value h, T) ≡ Ok tt
    → Begins (session_with limit h Q T) r → steps_new ≤ steps + nodes T → Starts (session_part limit (header_value h, T) Q) [] r steps steps_new
unfolding session_part
matched_starts limit h T Q r steps steps_new agree begun few =
    session_starts (session_part limit (header_value h, T) Q) [] (session_with limit h Q T) r steps steps_new
    (λ rs. ap (λ (x : Result (Unit {0}) Refusal). and_then (now x rs) (λ u. now (Ok (session_with limit h Q T)))) agree) begun few

-- they differ
pub unmatched_starts : (limit : ℕ) (p : Parts) (Q : Query) (e : Stop) (steps : ℕ) → Becomes {X = Unit {0}} (Err e) tt (matched p)
    → Starts (session_part limit p Q) [] (Err e) steps steps
unfolding session_part
unmatched_starts limit p Q (stop.Refused why) steps is =
    refused_starts (session_part limit p Q) [] why steps
    (λ rs. ap (λ (x : Result (Unit {0}) Refusal).
    and_then (now x rs) (λ u. now (Ok (record { f = p.0.f; ops = p.0.ops; query = Q; limit = limit; tree = p.1 })))) is)
unmatched_starts limit p Q stop.NoMemory steps is = nothing_starts (session_part limit p Q) [] steps

-- ---- the query line

-- it gives a query
pub query_starts : (settings : Settings) (limit : ℕ) (p : Parts) (line : Line) (Q : Query) (r : Result Editor Stop) (steps steps_new : ℕ)
    → whole (query_line settings.question) line ≡ Ok Q → limit ≡ settings.limit → Starts (session_part limit p Q) [] r steps steps_new
    → Starts (query_part settings p) (line ∷ []) r steps steps_new
unfolding query_part
query_starts settings limit p line Q r steps steps_new is same h =
    starts_later (query_part settings p) (session_part settings.limit p Q) line r steps steps_new
    (λ rs. ap (λ (x : Result Query Refusal). and_then (now x rs) (session_part settings.limit p)) is)
    (subst (λ (n : ℕ). Starts (session_part n p Q) [] r steps steps_new) same h)

-- it is refused
pub refused_stops : (settings : Settings) (p : Parts) (line : Line) (why : Refusal) (steps : ℕ) → whole (query_line settings.question) line ≡ Err why
    → Starts (query_part settings p) (line ∷ []) (Err (stop.Refused why)) steps steps
unfolding query_part
refused_stops settings p line why steps is =
    refused_starts (query_part settings p) (line ∷ []) why steps
    (λ rs. ap (λ (x : Result Query Refusal). and_then (now x rs) (session_part settings.limit p)) is)

abbrev error_or : {A : Type 0} → Refusal → Result A Refusal → Refusal
error_or e (Ok x) = e
error_or e (Err why) = why

minor_is : (long : Option Refusal) (word : Result (Unit {0}) Refusal) (Q : Query) → refused_or long word ≡ Ok tt → refused_or long (word >> Ok Q) ≡ Ok Q
minor_is None (Ok u) Q h = refl
minor_is None (Err e) Q h = absurd (let x : Err e ≡ Ok tt = h in cc)
minor_is (Some e) word Q h = absurd (let x : Err e ≡ Ok tt = h in cc)

-- the word stands for the query that is given
pub given_asked : (settings : Settings) (Q : Query) (line : Line) → settings.question ≡ Minor Q → whole minor_line line ≡ Ok tt
    → whole (query_line settings.question) line ≡ Ok Q
unfolding minor_query
given_asked settings Q line is h =
    ap (λ (question : Question). whole (query_line question) line) is ∙ minor_is (too_long line.text line.number) (minor_line line) Q h

not_minor : (long : Option Refusal) (word : Result (Unit {0}) Refusal) (why : Refusal) (Q : Query) → refused_or long word ≡ Err why
    → refused_or long (word >> Ok Q) ≡ Err why
not_minor None (Ok u) why Q h = absurd (let x : Ok u ≡ Err why = h in cc)
not_minor None (Err e) why Q h = ap (λ (x : Refusal). Err x) (ap (error_or why) h)
not_minor (Some e) word why Q h = ap (λ (x : Refusal). Err x) (ap (error_or why) h)

-- another line is refused
pub given_refused : (settings : Settings) (Q : Query) (line : Line) (why : Refusal) → settings.question ≡ Minor Q → whole minor_line line ≡ Err why
    → whole (query_line settings.question) line ≡ Err why
unfolding minor_query
given_refused settings Q line why is h =
    ap (λ (question : Question). whole (query_line question) line) is ∙ not_minor (too_long line.text line.number) (minor_line line) why Q h

-- a line of a text whose query line spells its query
pub spelled_read : (settings : Settings) (line : Line) (read : Result Query Refusal) → settings.question ≡ Spelled → whole (query_line Spelled) line ≡ read
    → whole (query_line settings.question) line ≡ read
spelled_read settings line read is h = ap (λ (question : Question). whole (query_line question) line) is ∙ h

pub spelled_stops : (settings : Settings) (p : Parts) (line : Line) (e : Stop) (steps : ℕ) → settings.question ≡ Spelled
    → Reads query_value (Err e) (whole (query_line Spelled) line) → Starts (query_part settings p) (line ∷ []) (Err e) steps steps
spelled_stops settings p line (stop.Refused why) steps is h = refused_stops settings p line why steps (spelled_read settings line (Err why) is h)
spelled_stops settings p line stop.NoMemory steps is h = nothing_starts (query_part settings p) (line ∷ []) steps

-- ---- what the query line writes

-- the answer, and then the lines of the items
pub query_taken : (settings : Settings) (p : Parts) (line : Line) (r : Result Editor Stop) (new : Editor) (output : OutputLine) → r ≡ Ok new → output ≡ answered (session_of new)
    → ((rs : List Line) → Goes r (after_parts settings p (line ∷ rs)) (λ e. Read (session_of e) rs))
    → (e : Ending) (rs : List Line) → lines_after_header e (after_parts settings p (line ∷ rs)) ≡ output ∷ lines_of_items e (session_of new) (items rs)
query_taken settings p line r new output ok is goes e rs =
    let at : after_parts settings p (line ∷ rs) ≡ Read (session_of new) rs =
    subst (λ (x : Result Editor Stop). Goes x (after_parts settings p (line ∷ rs)) (λ e. Read (session_of e) rs)) ok (goes rs) in
    ap (lines_after_header e) at ∙ ap (λ (o : OutputLine). o ∷ lines_of_items e (session_of new) (items rs)) (sym is)

-- its refusal, and nothing more
pub query_refused : (settings : Settings) (p : Parts) (line : Line) (r : Result Editor Stop) (why : Refusal) → r ≡ Err (stop.Refused why)
    → ((rs : List Line) → Goes r (after_parts settings p (line ∷ rs)) (λ e. Read (session_of e) rs))
    → (e : Ending) (rs : List Line) → lines_after_header e (after_parts settings p (line ∷ rs)) ≡ Refuses why ∷ []
query_refused settings p line r why is goes e rs =
    let at : after_parts settings p (line ∷ rs) ≡ Refused why =
    subst (λ (x : Result Editor Stop). Goes x (after_parts settings p (line ∷ rs)) (λ e. Read (session_of e) rs)) is (goes rs) in
    ap (lines_after_header e) at
