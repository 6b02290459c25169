-- The line that is written for a query is its answer; and where a header is read, it gives a sound session, whose answer comes first.
use Rattle.std.proofs.Common.{◌≡◌, ◌↔◌, inl, inr, Bool, true, false, not, List, [], ◌∷◌, Option, Some, None, refl, sym, ap, subst, ◌∙◌}
use Rattle.std.specs.Prelude.{Ok, Err}
use Rattle.std.specs.declared.result.Result.{Result}
use Rattle.mm_field.specs.declared.Field.{Field}
use Rattle.mm_header.specs.Header.{Parts, parts, verdict_refusal}
use Rattle.mm_header.specs.Queries.{Question, query_line}
use Rattle.mm_header.specs.Queries.Question.{Spelled, Minor}
use Rattle.mm_header.specs.Rules.{job_rules}
use Rattle.mm_job.specs.Header.{Session, header, header_lines, is_over_limit, query_part, session_part, started}
use Rattle.mm_job.specs.Items.{items}
use Rattle.mm_job.specs.Meaning.{answer_line, least_line, truth_line}
use Rattle.mm_job.specs.Output.{Ended, ending, lines_after_header, lines_of_items, output_lines, written_lines}
use Rattle.mm_job.specs.Settings.{Settings}
use Rattle.mm_job_laws.specs.AnswerLaws.{AnswerLinesAreAnswers, Asks, Gives, HeadersGiveSessions, HoldsOn, IsAsked, IsLeast, IsOfScoped, IsSound, IsTruth, OutputBeginsWithAnswer}
use Rattle.mm_job_laws.specs.HeaderLaws.{given_of, session_of}
use Rattle.mm_job_laws.proofs.AgreementLemmas.{same_exactly_where_they_agree}
use Rattle.mm_job_laws.proofs.QueryLemmas.{minor_asks, whole_spells}
use Rattle.mm_job_laws.proofs.SoundLemmas.{lines_are_sound}
use Rattle.mm_job_text.specs.Checks.{◌>>=◌, require}
use Rattle.mm_job_text.specs.Readers.{Reading, Read, Refused, Short, and_then, now, whole}
use Rattle.mm_job_text.specs.declared.refusal.Refusal.{Refusal}
use Rattle.mm_job_text.specs.declared.refusal.Refusal.TheVariants as refusal
use Rattle.mm_lines.specs.Lines.{lines}
use Rattle.mm_lines.specs.declared.line.Line.{Line}
use Rattle.mm_logic.specs.Formula.{Formula}
use Rattle.mm_logic.specs.Least.{least}
use Rattle.mm_logic.specs.Marks.{unmarked}
use Rattle.mm_logic.specs.Meaning.{holds}
use Rattle.mm_logic.specs.StateSize.{Query}
use Rattle.mm_logic.specs.StateSize.Query.{Decide, Least}
use Rattle.mm_logic.specs.Tree.{IsValid, size}
use Rattle.mm_logic_laws.proofs.LeastLemmas.{least-set_meant}
use Rattle.mm_logic_laws.proofs.MeaningLemmas.{meaning_decided}
use Rattle.mm_present.specs.Comparing.{compared}
use Rattle.mm_present.specs.declared.comparison.Verdict.{Verdict}
use Rattle.mm_present.specs.declared.comparison.Verdict.TheVariants as verdict
use Rattle.mm_tree.proofs.ElementLemmas.{different_elements}
use Rattle.mm_tree.specs.NamedTree.{Tree, shape, weights}

-- ---- answers

truth_is_meant : (f : Field) (F : Formula) (tree : Tree) (b : Bool) → (b ≡ true) ↔ HoldsOn f F tree → IsTruth f F tree (truth_line b)
truth_is_meant f F tree true h = inl (h.0 refl, refl)
truth_is_meant f F tree false h = inr ((λ holds. let e : false ≡ true = h.1 holds in cc), refl)

least_is_meant : (f : Field) (F : Formula) (tree : Tree) (o : Option (List Bool)) → least f F (shape tree) (weights tree) ≡ o → IsValid f (shape tree)
    → IsLeast f F tree (least_line tree o)
least_is_meant f F tree None e ok = inr ((least-set_meant f (shape tree) ok F (weights tree)).1.0 e, refl)
least_is_meant f F tree (Some A) e ok = inl (A, ((least-set_meant f (shape tree) ok F (weights tree)).0 A).0 e, refl)

pub lines_are_answers : AnswerLinesAreAnswers
unfolding answer_line
lines_are_answers f (Decide F) tree ok =
    truth_is_meant f F tree (holds f F (shape tree) (unmarked (size (shape tree)))) (meaning_decided f (shape tree) ok F (unmarked (size (shape tree))))
lines_are_answers f (Least F) tree ok = least_is_meant f F tree (least f F (shape tree) (weights tree)) refl ok

-- ---- query lines

-- a line that gives a query asks it
line_asks : (question : Question) (r : Line) (query : Query) → whole (query_line question) r ≡ Ok query → Asks question r query
line_asks Spelled r query h = whole_spells r query h
line_asks (Minor given) r query h = minor_asks given r query h

asked_scoped : (question : Question) (r : Line) (query : Query) → IsAsked question → Asks question r query → IsOfScoped query
asked_scoped Spelled r query asked h = record { sought = h.sought; formula = h.formula; scoped = h.scoped; asks = h.asks }
asked_scoped (Minor given) r query asked h = subst (λ (q : Query). IsOfScoped q) (sym h.1) asked

-- ---- headers

record Started (settings : Settings) (p : Parts) (r : Line) (rest others : List Line) (s : Session) : Type 0 where
  pub query : Query
  pub read : whole (query_line settings.question) r ≡ Ok query
  pub same : compared p.0.f (given_of p) p.1 ≡ verdict.Same
  pub session : s ≡ session_of settings.limit p query
  pub rest_is : others ≡ rest

-- the header from its query line on
abbrev after_line : Settings → Parts → List Line → Result Query Refusal → Reading Session
after_line settings p rest res =
    and_then
    (and_then (now res rest) (λ query rest. and_then (now (verdict_refusal (compared p.0.f (given_of p) p.1)) rest) (λ u.
    now (Ok (session_of settings.limit p query))))) (λ s. now (started s))

same_read : {A : Type 0} (x y : A) (rest others : List Line) → Read x rest ≡ Read y others → (x ≡ y) × (rest ≡ others)
same_read x y rest others e = (cc, cc)

started_is : (settings : Settings) (p : Parts) (r : Line) (rest others : List Line) (s : Session) (res : Result Query Refusal) → whole (query_line settings.question) r ≡ res →
    after_line settings p rest res ≡ Read s others → Started settings p r rest others s
started_is settings p r rest others s (Err e) q h = let x : Refused e ≡ Read s others = h in absurd (cc)
started_is settings p r rest others s (Ok query) q h = go (compared p.0.f (given_of p) p.1) refl h
  where
    begun : (small : Bool) → compared p.0.f (given_of p) p.1 ≡ verdict.Same →
        now (require small refusal.States >>= λ u. Ok (session_of settings.limit p query)) rest ≡ Read s others → Started settings p r rest others s
    begun false e h = let x : Refused refusal.States ≡ Read s others = h in absurd (cc)
    begun true e h =
        let same = same_read (session_of settings.limit p query) s rest others h in
        record { query = query; read = q; same = e; session = sym same.0; rest_is = sym same.1 }

    go : (v : Verdict) → compared p.0.f (given_of p) p.1 ≡ v →
        and_then (and_then (now (verdict_refusal v) rest) (λ u. now (Ok (session_of settings.limit p query)))) (λ s. now (started s)) ≡ Read s others
        → Started settings p r rest others s
    go (verdict.Elements name) e h = let x : Refused (refusal.Elements name) ≡ Read s others = h in absurd (cc)
    go (verdict.Given i) e h = let x : Refused (refusal.Given i) ≡ Read s others = h in absurd (cc)
    go (verdict.Present j) e h = let x : Refused (refusal.Present j) ≡ Read s others = h in absurd (cc)
    go verdict.Same e h = begun (not (is_over_limit (session_of settings.limit p query) p.1)) e h

gives : (settings : Settings) (rs : List Line) (p : Parts) (r : Line) (rest others : List Line) (s : Session) → IsAsked settings.question → parts job_rules rs ≡ Read p (r ∷ rest) →
    Started settings p r rest others s → Gives settings rs others s × IsSound s
gives settings rs p r rest others s given e h =
    let sound = lines_are_sound job_rules rs (r ∷ rest) p e in
    let asked = line_asks settings.question r h.query h.read in
    let query : h.query ≡ s.query = sym (ap (λ (t : Session). t.query) h.session) in
    let same =
    same_exactly_where_they_agree p.0.f (given_of p) p.1 sound.tree.valid_shape (different_elements p.1 sound.tree.different) sound.different sound.vectors in (
      record {
        p = p;
        r = r;
        read = e ∙ ap (λ (rest : List Line). Read p (r ∷ rest)) (sym h.rest_is);
        asked = subst (λ (query : Query). Asks settings.question r query) query asked;
        session = h.session ∙ ap (λ (query : Query). session_of settings.limit p query) query;
        sound = sound;
        agreeing = same.0 h.same;
      },
      subst (λ (t : Session). IsSound t) (sym h.session)
          (record {
            ops = sound.ops;
            tree = sound.tree;
            query = asked_scoped settings.question r h.query given asked;
          }),
    )

from_parts : (settings : Settings) (rs rest : List Line) (s : Session) (reading : Reading Parts) → IsAsked settings.question → parts job_rules rs ≡ reading →
    and_then (and_then reading (query_part settings)) (λ s. now (started s)) ≡ Read s rest → Gives settings rs rest s × IsSound s
unfolding query_part session_part
from_parts settings rs rest s (Refused why) given e h = let x : Refused why ≡ Read s rest = h in absurd (cc)
from_parts settings rs rest s Short given e h = let x : Short ≡ Read s rest = h in absurd (cc)
from_parts settings rs rest s (Read p []) given e h = let x : Short ≡ Read s rest = h in absurd (cc)
from_parts settings rs rest s (Read p (r ∷ others)) given e h =
    gives settings rs p r others rest s given e (started_is settings p r others rest s (whole (query_line settings.question) r) refl h)

pub headers_give_sessions : HeadersGiveSessions
unfolding header header_lines
headers_give_sessions settings rs rest s given h = from_parts settings rs rest s (parts job_rules rs) given refl h

-- ---- outputs

pub output_begins_with_answer : OutputBeginsWithAnswer
unfolding output_lines written_lines
output_begins_with_answer settings text rest s given h =
    let sound = (headers_give_sessions settings (lines text) rest s given h).1 in
    record {
      answer = answer_line s.f s.query s.tree;
      later = lines_of_items (ending Ended text) s (items rest);
      first = ap (lines_after_header (ending Ended text)) h;
      is_answer = lines_are_answers s.f s.query s.tree sound.tree.valid_shape;
    }
