-- A header is refused for its rows exactly where they do not agree with the tree.
use Rattle.std.specs.Prelude.{◌≡◌, ◌↔◌, refl, ℕ, Bool, true, false, not, nat_lt, List, [], ◌∷◌, Ok}
use Rattle.std.proofs.lemmas.Bool.{lt-ltb, ltb-true}
use Rattle.std.proofs.Common.{sym, ap, subst, ◌∙◌}
use Rattle.std.specs.declared.result.Result.{Result}
use Rattle.mm_header.specs.Header.{Parts, parts, verdict_refusal}
use Rattle.mm_header.specs.Queries.{query_line}
use Rattle.mm_header.specs.Rules.{job_rules}
use Rattle.mm_job.specs.Header.{Session, query_part, header, header_lines, is_over_limit, session_part, started}
use Rattle.mm_job.specs.Meaning.{answer_line}
use Rattle.mm_job.specs.Output.{Ending, More, Ended, Over, answered, ending, lines_after_header, written_lines, output_lines}
use Rattle.mm_job.specs.Settings.{Settings}
use Rattle.mm_job.specs.declared.output_line.OutputLine.{OutputLine}
use Rattle.mm_job.specs.declared.output_line.OutputLine.TheVariants.{Refuses, Says}
use Rattle.mm_lines.specs.Lines.{lines}
use Rattle.mm_lines.specs.declared.line.Line.{Line}
use Rattle.mm_present.specs.Comparing.{compared}
use Rattle.mm_present.specs.declared.comparison.Verdict.{Verdict}
use Rattle.mm_present.specs.declared.comparison.Verdict.TheVariants as verdict
use Rattle.mm_logic.specs.StateSize.{IsOver, Query, state_size}
use Rattle.mm_tree.specs.NamedTree.{Tree, shape}
use Rattle.mm_tree.proofs.ElementLemmas.{different_elements}
use Rattle.mm_job_text.specs.Checks.{◌>>=◌, require}
use Rattle.mm_job_text.specs.Readers.{Reading, Read, Refused, Short, and_then, now, whole}
use Rattle.mm_job_text.specs.declared.refusal.Refusal.{Refusal}
use Rattle.mm_job_text.specs.declared.refusal.Refusal.TheVariants as refusal
use Rattle.mm_job_laws.specs.Agreement.{Agrees}
use Rattle.mm_job_laws.specs.HeaderLaws.{given_of, IsRefusedForRows, session_of, IsDecidedByAgreement, RowsAreRefusedExactly, IsRowRefusalAlone, OutputRefusesRowsExactly, OutputRefusesSizeExactly}
use Rattle.mm_job_laws.proofs.AgreementLemmas.{same_exactly_where_they_agree}
use Rattle.mm_job_laws.proofs.SoundLemmas.{lines_are_sound}

-- the header after a query
abbrev pub after : Session → List Line → Verdict → Reading Session
after s rest v = and_then (and_then (now (verdict_refusal v) rest) (λ u. now (Ok s))) (λ s. now (started s))

after_query : (settings : Settings) (p : Parts) (r : Line) (rest : List Line) (query : Query) → whole (query_line settings.question) r ≡ Ok query →
    and_then (query_part settings p (r ∷ rest)) (λ s. now (started s)) ≡ after (session_of settings.limit p query) rest (compared p.0.f (given_of p) p.1)
unfolding query_part session_part
after_query settings p r rest query e =
    let v = compared p.0.f (given_of p) p.1 in
    ap (λ (line : Result Query Refusal). and_then
    (and_then (now line rest) (λ query rest. and_then (now (verdict_refusal v) rest) (λ u. now (Ok (session_of settings.limit p query))))) (λ s. now (started s))) e

pub header_after : (settings : Settings) (rs : List Line) (p : Parts) (r : Line) (rest : List Line) (query : Query) → parts job_rules rs ≡ Read p (r ∷ rest) →
    whole (query_line settings.question) r ≡ Ok query → header settings rs ≡ after (session_of settings.limit p query) rest (compared p.0.f (given_of p) p.1)
unfolding header header_lines
header_after settings rs p r rest query e q =
    ap (λ (reading : Reading Parts). and_then (and_then reading (query_part settings)) (λ s. now (started s))) e
    ∙ after_query settings p r rest query q

-- ---- sizes

pub over_is : (s : Session) (tree : Tree) → IsOver s.f s.query (shape tree) s.limit → is_over_limit s tree ≡ true
unfolding is_over_limit
over_is s tree h = lt-ltb _ _ h

pub within_is : (s : Session) (tree : Tree) → (IsOver s.f s.query (shape tree) s.limit → ⊥) → is_over_limit s tree ≡ false
unfolding is_over_limit
within_is s tree never = go (nat_lt s.limit (state_size s.f s.query (shape tree))) refl
  where
    go : (b : Bool) → nat_lt s.limit (state_size s.f s.query (shape tree)) ≡ b → b ≡ false
    go true p = absurd (never (ltb-true _ _ p))
    go false p = refl

pub is_within : (s : Session) (tree : Tree) → is_over_limit s tree ≡ false → IsOver s.f s.query (shape tree) s.limit → ⊥
is_within s tree h over = let e : false ≡ true = sym h ∙ over_is s tree over in cc

pub is_over : (s : Session) (tree : Tree) → is_over_limit s tree ≡ true → IsOver s.f s.query (shape tree) s.limit
unfolding is_over_limit
is_over s tree h = ltb-true _ _ h

-- what is started, or refused for its size, is not refused for its rows
not_for_rows : (s : Session) (rest : List Line) → IsRefusedForRows (now (started s) rest) → ⊥
not_for_rows s rest h = go (not (is_over_limit s s.tree)) h
  where
    go : (within : Bool) → IsRefusedForRows (now (require within refusal.States >>= λ u. Ok s) rest) → ⊥
    go true h = h
    go false h = h

start_over : (s : Session) (rest : List Line) → is_over_limit s s.tree ≡ true → now (started s) rest ≡ Refused refusal.States
start_over s rest h = ap (λ (over : Bool). now (require (not over) refusal.States >>= λ u. Ok s) rest) h

start_within : (s : Session) (rest : List Line) → is_over_limit s s.tree ≡ false → now (started s) rest ≡ Read s rest
start_within s rest h = ap (λ (over : Bool). now (require (not over) refusal.States >>= λ u. Ok s) rest) h

decided : (limit : ℕ) (p : Parts) (query : Query) (rest : List Line) (v : Verdict) → (v ≡ verdict.Same) ↔ Agrees p.0.f (given_of p) p.1 →
    IsDecidedByAgreement limit p query rest (after (session_of limit p query) rest v)
decided limit p query rest verdict.Same h =
    let s = session_of limit p query in
    record {
      refused = ((λ t agree. not_for_rows s rest t), (λ never. absurd (never (h.0 refl))));
      over = λ agree large. start_over s rest (over_is s p.1 large);
      within = λ agree small. start_within s rest (within_is s p.1 small);
    }
decided limit p query rest (verdict.Elements name) h = record {
  refused = ((λ t agree. let e : verdict.Elements name ≡ verdict.Same = h.1 agree in cc), (λ never. tt));
  over = λ agree. let e : verdict.Elements name ≡ verdict.Same = h.1 agree in absurd (cc);
  within = λ agree. let e : verdict.Elements name ≡ verdict.Same = h.1 agree in absurd (cc);
}
decided limit p query rest (verdict.Given i) h = record {
  refused = ((λ t agree. let e : verdict.Given i ≡ verdict.Same = h.1 agree in cc), (λ never. tt));
  over = λ agree. let e : verdict.Given i ≡ verdict.Same = h.1 agree in absurd (cc);
  within = λ agree. let e : verdict.Given i ≡ verdict.Same = h.1 agree in absurd (cc);
}
decided limit p query rest (verdict.Present j) h = record {
  refused = ((λ t agree. let e : verdict.Present j ≡ verdict.Same = h.1 agree in cc), (λ never. tt));
  over = λ agree. let e : verdict.Present j ≡ verdict.Same = h.1 agree in absurd (cc);
  within = λ agree. let e : verdict.Present j ≡ verdict.Same = h.1 agree in absurd (cc);
}

pub rows_are_refused_exactly : RowsAreRefusedExactly
rows_are_refused_exactly settings rs rest r p query e q =
    let s = lines_are_sound job_rules rs (r ∷ rest) p e in
    let same = same_exactly_where_they_agree p.0.f (given_of p) p.1 s.tree.valid_shape (different_elements p.1 s.tree.different) s.different s.vectors in
    subst (λ (reading : Reading Session). IsDecidedByAgreement settings.limit p query rest reading) (sym (header_after settings rs p r rest query e q))
    (decided settings.limit p query rest (compared p.0.f (given_of p) p.1) same)

alone_where_refused : (e : Ending) (reading : Reading Session) → IsRowRefusalAlone (lines_after_header e reading) ↔ IsRefusedForRows reading
alone_where_refused e (Read s rest) = ((λ t. t), (λ t. t))
alone_where_refused e (Refused why) = ((λ t. t), (λ t. t))
alone_where_refused More Short = ((λ t. t), (λ t. t))
alone_where_refused Ended Short = ((λ t. t), (λ t. t))
alone_where_refused Over Short = ((λ t. t), (λ t. t))

pub output_refuses_rows_exactly : OutputRefusesRowsExactly
unfolding output_lines written_lines
output_refuses_rows_exactly settings text rest r p query e q =
    let d = rows_are_refused_exactly settings (lines text) rest r p query e q in
    let a = alone_where_refused (ending Ended text) (header settings (lines text)) in
    ((λ t. d.refused.0 (a.0 t)), (λ n. a.1 (d.refused.1 n)))

-- a line that is an answer is no refusal
answer_no_refusal : (s : Session) (more : List OutputLine) (why : Refusal) → answered s ∷ more ≡ Refuses why ∷ [] → ⊥
answer_no_refusal s more why h =
    let first : Says (answer_line s.f s.query s.tree) ≡ Refuses why = cc in absurd (cc)

pub output_refuses_size_exactly : OutputRefusesSizeExactly
unfolding output_lines written_lines
output_refuses_size_exactly settings text rest r p query e q agree = (there, back)
  where
    d : IsDecidedByAgreement settings.limit p query rest (header settings (lines text))
    d = rows_are_refused_exactly settings (lines text) rest r p query e q

    s : Session
    s = session_of settings.limit p query

    back : IsOver p.0.f query (shape p.1) settings.limit → lines_after_header (ending Ended text) (header settings (lines text)) ≡ Refuses refusal.States ∷ []
    back large = ap (lines_after_header (ending Ended text)) (d.over agree large)

    there : lines_after_header (ending Ended text) (header settings (lines text)) ≡ Refuses refusal.States ∷ [] → IsOver p.0.f query (shape p.1) settings.limit
    there h = go (is_over_limit s p.1) refl
      where
        go : (b : Bool) → is_over_limit s p.1 ≡ b → IsOver p.0.f query (shape p.1) settings.limit
        go true over = is_over s p.1 over
        go false small =
            absurd (answer_no_refusal s _ refusal.States
            (sym (ap (lines_after_header (ending Ended text)) (d.within agree (is_within s p.1 small))) ∙ h))
