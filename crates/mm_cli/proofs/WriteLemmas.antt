-- What is known of an answer that was written, maybe not to its end.
use Rattle.std.proofs.Common.{◌≡◌, ◌⊎◌, inl, inr, ℕ, List, Option, refl, sym, ap, subst}
use Rattle.mm_base.specs.declared.status.Status.{Status}
use Rattle.mm_base.specs.declared.status.Status.TheVariants as ends
use Rattle.mm_job.specs.Output.{output_lines}
use Rattle.mm_job.specs.Settings.{spelled}
use Rattle.mm_cli.specs.Answers.{Answer, Writes, sample, sample_job}
use Rattle.mm_cli.specs.Runs.{IsCut, IsEnd}
use Rattle.mm_cli.specs.Words.{most_limit}
use Rattle.mm_cli.specs.declared.words.SampleNumbers.{SampleNumbers}
use Rattle.mm_cli.proofs.EndedLemmas.{end_ends}
use Rattle.mm_cli.proofs.RunLemmas.{end_not_cut, still}

-- The status of what was written, where the run came to its end.
pub own_status : (answer : Answer) (h k : Option (List ℕ)) (s : Status) → Writes answer h k s → IsEnd s → s ≡ answer.status
own_status answer h k s w e = elim w.ends [
  | inl own ↦ own
  | inr (inl fault) ↦ absurd (end_not_cut s e (inr (inl fault)))
  | inr (inr memory) ↦ absurd (end_not_cut s e (inr (inr memory)))
]

-- What was written has come to an end, where its answer is one, or is cut short.
pub ends_or_cut : (answer : Answer) (h k : Option (List ℕ)) (s : Status) → IsEnd answer.status → Writes answer h k s → IsEnd s ⊎ IsCut s
ends_or_cut answer h k s end w = elim w.ends [
  | inl own ↦ inl (subst IsEnd (sym own) end)
  | inr (inl fault) ↦ inr (inr (inl fault))
  | inr (inr memory) ↦ inr (inr (inr memory))
]

-- Memory ran out before anything was written.
pub unwritten : (answer : Answer) (h : Option (List ℕ)) → IsEnd answer.status → Writes answer h h ends.NoMemory
unwritten answer h end = record {
  ends = inr (inr refl);
  grew = λ e. absurd (end_not_cut ends.NoMemory (subst IsEnd (sym e) end) (inr (inr refl)));
  front = λ _. (0, still h);
}

-- ---- the job of a sample comes to its end

pub sample_ends : (s : SampleNumbers) → IsEnd (sample s).status
unfolding sample
sample_ends s = end_ends (output_lines (sample_job s) (spelled most_limit))

pub short_ends : (s : SampleNumbers) (short : Answer) → sample s ≡ short → IsEnd short.status
short_ends s short e = subst IsEnd (ap (λ (a : Answer). a.status) e) (sample_ends s)
