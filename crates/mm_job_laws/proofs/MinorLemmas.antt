-- Where the word `minor` asks a formula, the output says whether it holds, after each edit too.
use Rattle.std.proofs.Common.{◌≡◌, inl, inr, ℕ, Bool, true, false, List, [], refl, sym, ap, subst, ◌∙◌}
use Rattle.std.specs.Prelude.{Ok, Err, None, codes, if◌then◌else◌}
use Rattle.std.specs.declared.result.Result.{Result}
use Rattle.mm_edit.specs.Edits.{Applied}
use Rattle.mm_field.specs.declared.Field.{Field}
use Rattle.mm_formula.specs.Scope.{slotted}
use Rattle.mm_job.specs.Edits.{Reply, Changed, Denied, block, changed, checked, compared_or, line_edit, replace_edit, single}
use Rattle.mm_job.specs.Header.{Session, is_over_limit}
use Rattle.mm_job.specs.Items.{Items}
use Rattle.mm_job.specs.Meaning.{answer_line}
use Rattle.mm_job.specs.Output.{after_reply, output_lines, reply_line}
use Rattle.mm_job.specs.Settings.{Settings, with_formula}
use Rattle.mm_job.specs.declared.output_line.OutputLine.{OutputLine}
use Rattle.mm_job.specs.declared.output_line.OutputLine.TheVariants.{Says}
use Rattle.mm_job_laws.specs.AnswerLaws.{ComesTo, HasLine, IsAnswer, IsAsked, IsSound, IsTruth}
use Rattle.mm_job_laws.specs.MinorLaws.{AreTold, IsTold, MinorsAreDecided, MinorsAreTold, Telling, tells_minor, tells_truth}
use Rattle.mm_job_laws.proofs.AnswerLemmas.{headers_give_sessions, lines_are_answers, output_begins_with_answer}
use Rattle.mm_job_laws.proofs.ItemLemmas.{block_line, compared_keeps, keeps, single_line}
use Rattle.mm_job_text.specs.Arguments.{begins}
use Rattle.mm_job_text.specs.declared.refusal.Refusal.{Refusal}
use Rattle.mm_job_text.specs.declared.refusal.Refusal.TheVariants as refusal
use Rattle.mm_lines.specs.Lines.{lines}
use Rattle.mm_lines.specs.declared.line.Line.{Line}
use Rattle.mm_logic.specs.Formula.{Formula}
use Rattle.mm_logic.specs.StateSize.{Query}
use Rattle.mm_logic.specs.StateSize.Query.{Decide}
use Rattle.mm_formula.proofs.ScopeLemmas.{scoped}
use Rattle.mm_matrix.specs.MatrixValue.{MatrixValue, IsMatrix}
use Rattle.mm_minor.specs.MinorFormula.{minor_formula}
use Rattle.mm_minor.proofs.MinorLemmas.{minors_asked}
use Rattle.mm_minor.proofs.ScopeLemmas.{minor_formula_scoped, minor_formula_sorted}
use Rattle.mm_tree.specs.NamedTree.{Tree, shape}

-- ---- the query stays

changed_asks : (s : Session) (res : Result Applied Refusal) → (after_reply s (changed s res)).query ≡ s.query
changed_asks s (Err e) = refl
changed_asks s (Ok a) = go (is_over_limit s a.tree)
  where
    go : (over : Bool) → (after_reply s (if over then Denied refusal.States else Changed (record s { tree = a.tree }))).query ≡ s.query
    go true = refl
    go false = refl

single_asks : (s : Session) (r : Line) → (after_reply s (single s r)).query ≡ s.query
unfolding single
single_asks s r = changed_asks s (line_edit s r)

block_asks : (s : Session) (r : Line) (rs : List Line) → (after_reply s (block s r rs)).query ≡ s.query
unfolding block
block_asks s r rs = go (begins (codes "replace") r)
  where
    go : (b : Bool) → (after_reply s (if b then changed s (replace_edit s r rs) else compared_or (checked s r rs))).query ≡ s.query
    go true = changed_asks s (replace_edit s r rs)
    go false = ap (λ (t : Session). t.query) (compared_keeps s (checked s r rs))

comes_asking : {s t : Session} {i j : Items} → ComesTo s i t j → t.query ≡ s.query
comes_asking ComesTo.begun = refl
comes_asking (ComesTo.after_line {t = t} {r = r} c) = single_asks t r ∙ comes_asking c
comes_asking (ComesTo.after_block {t = t} {r = r} {rs = rs} c) = block_asks t r rs ∙ comes_asking c

-- ---- lines

truth_of : (f : Field) (query : Query) (F : Formula) (tree : Tree) (line : List ℕ) → query ≡ Decide F → IsAnswer f query tree line → IsTruth f F tree line
truth_of f query F tree line is h = subst (λ (query : Query). IsAnswer f query tree line) is h

-- an item that is done
decided : (F : Formula) (t : Session) (reply : Reply) (output : List OutputLine) → IsSound (after_reply t reply) → (after_reply t reply).query ≡ Decide F
    → HasLine (reply_line reply) output → IsTold (tells_truth F) reply output
decided F t reply output sound asks has new is =
    let same : after_reply t reply ≡ new = ap (after_reply t) is in
    let valid = subst (λ (s : Session). IsSound s) same sound in
    let decides : new.query ≡ Decide F = ap (λ (s : Session). s.query) (sym same) ∙ asks in
    let line = answer_line new.f new.query new.tree in
    let says : reply_line reply ≡ Says line = ap reply_line is in (
      line,
      truth_of new.f new.query F new.tree line decides (lines_are_answers new.f new.query new.tree valid.tree.valid_shape),
      says,
      subst (λ (l : OutputLine). HasLine l output) says has,
    )

pub minors_are_decided : MinorsAreDecided
minors_are_decided limit F text rest s scoped read =
    let settings : Settings = with_formula limit F in
    let asked : IsAsked settings.question = record { sought = None; formula = F; scoped = scoped; asks = refl } in
    let given = headers_give_sessions settings (lines text) rest s asked read in
    let asks : s.query ≡ Decide (slotted [] F) = given.0.asked.1 in
    let begins = output_begins_with_answer settings text rest s asked read in
    record {
      answer = begins.answer;
      later = begins.later;
      first = begins.first;
      told = truth_of s.f s.query (slotted [] F) s.tree begins.answer asks begins.is_answer;
      singles = λ t r more comes.
          decided (slotted [] F) t (single t r) (output_lines text settings) (keeps given.1 (ComesTo.after_line comes))
          (comes_asking (ComesTo.after_line comes) ∙ asks) (single_line settings text rest s t r more read comes);
      blocks = λ t r rs more comes.
          decided (slotted [] F) t (block t r rs) (output_lines text settings) (keeps given.1 (ComesTo.after_block comes))
          (comes_asking (ComesTo.after_block comes) ∙ asks) (block_line settings text rest s t r rs more read comes);
    }

-- ---- what one telling says, another says

retold : (P Q : Telling) → ((f : Field) (tree : Tree) (line : List ℕ) → P f tree line → Q f tree line) → (reply : Reply) (output : List OutputLine)
    → IsTold P reply output → IsTold Q reply output
retold P Q same reply output told = λ new is.
    let t = told new is in
    (t.0, same new.f new.tree t.0 t.1, t.2, t.3)

all_retold : (P Q : Telling) → ((f : Field) (tree : Tree) (line : List ℕ) → P f tree line → Q f tree line) → (s : Session) (rest : List Line) (output : List OutputLine)
    → AreTold P s rest output → AreTold Q s rest output
all_retold P Q same s rest output told = record {
  answer = told.answer;
  later = told.later;
  first = told.first;
  told = same s.f s.tree told.answer told.told;
  singles = λ t r more comes. retold P Q same (single t r) output (told.singles t r more comes);
  blocks = λ t r rs more comes. retold P Q same (block t r rs) output (told.blocks t r rs more comes);
}

minor_told : (n : MatrixValue) → IsMatrix n → (f : Field) (tree : Tree) (line : List ℕ) → tells_truth (slotted [] (minor_formula n)) f tree line → tells_minor n f tree line
minor_told n m f tree line (inl h) = inl ((minors_asked f (shape tree) n m).0 h.0, h.1)
minor_told n m f tree line (inr h) = inr (λ has. h.0 ((minors_asked f (shape tree) n m).1 has), h.1)

pub minors_are_told : MinorsAreTold
minors_are_told limit n text rest s m few read =
    let F = minor_formula n in
    all_retold (tells_truth (slotted [] F)) (tells_minor n) (minor_told n m) s rest (output_lines text (with_formula limit F))
    (minors_are_decided limit F text rest s (scoped F None (minor_formula_sorted n) refl (minor_formula_scoped n few)) read)
