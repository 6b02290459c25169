-- What the output of a job has of the edits that it comes to, and the limit that its trees keep.
use Rattle.std.proofs.Common.{◌≡◌, Bool, true, false, not, List, refl, sym, ap, subst, ◌∙◌}
use Rattle.std.specs.Prelude.{codes, Ok, Err, if◌then◌else◌}
use Rattle.std.specs.declared.result.Result.{Result}
use Rattle.mm_edit.proofs.WeightLemmas.{shape_stays}
use Rattle.mm_edit.specs.Edits.{Applied}
use Rattle.mm_job.specs.Edits.{Changed, Denied, block, changed, checked, compared_or, line_edit, replace_edit, single}
use Rattle.mm_job.specs.Header.{Session, header, header_lines, is_over_limit, started}
use Rattle.mm_job.specs.Items.{Items}
use Rattle.mm_job.specs.Meaning.{answer_line, truth_line}
use Rattle.mm_job.specs.Output.{after_reply}
use Rattle.mm_job.specs.Settings.{Settings}
use Rattle.mm_job_laws.specs.AnswerLaws.{ComesTo}
use Rattle.mm_job_laws.specs.EditLaws.{DecisionsIgnoreWeights, OutputAnswersReplacements, OutputAnswersWeights, SessionsMayBegin}
use Rattle.mm_job_laws.proofs.AnswerLemmas.{headers_give_sessions}
use Rattle.mm_job_laws.proofs.ItemLemmas.{block_line, compared_keeps, keeps, replacements_are_answered, single_line, weights_are_answered}
use Rattle.mm_job_text.specs.Arguments.{begins}
use Rattle.mm_job_text.specs.Checks.{◌>>=◌, require}
use Rattle.mm_job_text.specs.Readers.{Reading, Read, Refused, Short, and_then, now}
use Rattle.mm_job_text.specs.declared.refusal.Refusal.{Refusal}
use Rattle.mm_job_text.specs.declared.refusal.Refusal.TheVariants as refusal
use Rattle.mm_lines.specs.Lines.{lines}
use Rattle.mm_lines.specs.declared.line.Line.{Line}
use Rattle.mm_logic.specs.Marks.{unmarked}
use Rattle.mm_logic.specs.Meaning.{holds}
use Rattle.mm_logic.specs.Tree as shapes
use Rattle.mm_logic.specs.Tree.{size}
use Rattle.mm_tree.specs.NamedTree.{Tree}

-- ---- edits

pub output_answers_weights : OutputAnswersWeights
output_answers_weights settings text rest s t r name weight more asked read comes h =
    let sound = (headers_give_sessions settings (lines text) rest s asked read).1 in (
      weights_are_answered t r name weight (keeps sound comes) h,
      single_line settings text rest s t r more read comes,
    )

pub output_answers_replacements : OutputAnswersReplacements
output_answers_replacements settings text rest s t r rs path new more asked read comes h =
    let sound = (headers_give_sessions settings (lines text) rest s asked read).1 in (
      replacements_are_answered t r rs path new (keeps sound comes) h,
      block_line settings text rest s t r rs more read comes,
    )

pub decisions_ignore_weights : DecisionsIgnoreWeights
unfolding answer_line
decisions_ignore_weights f F tree name weight =
    ap (λ (T : shapes.Tree). truth_line (holds f F T (unmarked (size T)))) (shape_stays name weight tree)

-- ---- the limit

-- the tree of a session is not over its limit
abbrev IsWithin : Session → Type 0
IsWithin s = is_over_limit s s.tree ≡ false

-- the limit of a session does not depend on its tree
same_limit : (s : Session) (tree : Tree) → is_over_limit (record s { tree = tree }) tree ≡ is_over_limit s tree
unfolding is_over_limit
same_limit s tree = refl

changed_within : (s : Session) (res : Result Applied Refusal) → IsWithin s → IsWithin (after_reply s (changed s res))
changed_within s (Err e) h = h
changed_within s (Ok a) h = go (is_over_limit s a.tree) refl
  where
    go : (over : Bool) → is_over_limit s a.tree ≡ over
        → IsWithin (after_reply s (if over then Denied refusal.States else Changed (record s { tree = a.tree })))
    go true e = h
    go false e = same_limit s a.tree ∙ e

single_within : (s : Session) (r : Line) → IsWithin s → IsWithin (after_reply s (single s r))
unfolding single
single_within s r h = changed_within s (line_edit s r) h

block_within : (s : Session) (r : Line) (rs : List Line) → IsWithin s → IsWithin (after_reply s (block s r rs))
unfolding block
block_within s r rs h = go (begins (codes "replace") r)
  where
    go : (b : Bool) → IsWithin (after_reply s (if b then changed s (replace_edit s r rs) else compared_or (checked s r rs)))
    go true = changed_within s (replace_edit s r rs) h
    go false = subst (λ (t : Session). IsWithin t) (sym (compared_keeps s (checked s r rs))) h

comes_within : {s t : Session} {i j : Items} → IsWithin s → ComesTo s i t j → IsWithin t
comes_within h ComesTo.begun = h
comes_within h (ComesTo.after_line {t = t} {r = r} c) = single_within t r (comes_within h c)
comes_within h (ComesTo.after_block {t = t} {r = r} {rs = rs} c) = block_within t r rs (comes_within h c)

started_within : (reading : Reading Session) (s : Session) (rest : List Line) → and_then reading (λ s. now (started s)) ≡ Read s rest → IsWithin s
started_within (Refused why) s rest h = let x : Refused why ≡ Read s rest = h in absurd (cc)
started_within Short s rest h = let x : Short ≡ Read s rest = h in absurd (cc)
started_within (Read t more) s rest h = go (is_over_limit t t.tree) refl h
  where
    go : (over : Bool) → is_over_limit t t.tree ≡ over → now (require (not over) refusal.States >>= λ u. Ok t) more ≡ Read s rest → IsWithin s
    go true e h = let x : Refused refusal.States ≡ Read s rest = h in absurd (cc)
    go false e h =
        let x : Read t more ≡ Read s rest = h in
        let same : t ≡ s = cc in
        subst (λ (s : Session). IsWithin s) same e

header_within : (settings : Settings) (rs rest : List Line) (s : Session) → header settings rs ≡ Read s rest → IsWithin s
unfolding header
header_within settings rs rest s h = started_within (header_lines settings rs) s rest h

pub sessions_may_begin : SessionsMayBegin
sessions_may_begin settings rs rest s t j read comes =
    ap (λ (over : Bool). require (not over) refusal.States >>= λ u. Ok t) (comes_within (header_within settings rs rest s read) comes)
