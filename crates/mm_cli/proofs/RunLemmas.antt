-- What a run owes, from what was read and written.
use Rattle.std.proofs.Common.{◌≡◌, ◌⊎◌, inl, inr, ℕ, ◌+◌, ◌≤◌, Bool, true, false, List, [], ◌++◌, length, take, Option, Some, None, refl, sym, ap, ◌∙◌, subst, arith}
use Rattle.std.specs.Io.KnownBytes.{Appends, Consumes, IsAtEnd, Keeps}
use Rattle.std.proofs.KnownBytes.{Appends-trans}
use Rattle.std.proofs.lemmas.List.{append-nil, append_assoc, length-append, take_all}
use Rattle.std.proofs.lemmas.Bool.{le-leb}
use Rattle.mm_base.specs.Causes.{GrowsByFront}
use Rattle.mm_base.specs.declared.status.Status.{Status}
use Rattle.mm_base.specs.declared.status.Status.TheVariants as ends
use Rattle.mm_base.proofs.FrontLemmas.{front_after, front_more}
use Rattle.mm_lines.specs.Fronts.{IsFront}
use Rattle.mm_lines.specs.Lines.{lines_of, most_bytes, settled}
use Rattle.mm_header.specs.Header.{parts}
use Rattle.mm_job.specs.Header.{header, header_lines}
use Rattle.mm_job.specs.Jobs.{Grew, GrewByFront, JobValue, progress, with_piece}
use Rattle.mm_job.specs.Output.{output, output_lines, settled_output, settled_lines, written_lines, end_of}
use Rattle.mm_job.specs.declared.progress.JobFault.{JobFault}
use Rattle.mm_job.specs.declared.progress.JobFault.TheVariants as fault
use Rattle.mm_job.specs.declared.progress.Progress.TheVariants.{Ended}
use Rattle.mm_job.proofs.GrowthLemmas.{output_grows, over_is_final}
use Rattle.mm_cli.specs.Runs.{Answers, IsCut, IsEnd, IsEnough, Ran, Streams, WritesFront, cut, most_asked}
use Rattle.mm_cli.specs.Going.{IsRead, SoFar}
use Rattle.mm_cli.proofs.EndedLemmas.{end_ends, ended_ends, ended_is_enough}
use Rattle.mm_job.proofs.JobLemmas.{ended_is_final}
use Rattle.mm_job.specs.Settings.{Settings}

-- a text that is not longer than one byte too many is not cut
pub whole_piece : (text piece : List ℕ) → length (text ++ piece) ≤ most_bytes + 1 → with_piece text piece ≡ text ++ piece
whole_piece text piece l = take_all (most_bytes + 1) (text ++ piece) l

-- What was written and what was written after it are all that is written for a text.
pub grown : (a b c : Option (List ℕ)) (xs ys : List ℕ) → Appends a b xs → Grew b c xs ys → Appends a c ys
grown a b c xs ys p q = subst (λ z. Appends a c z) q.whole (Appends-trans a b c xs q.wrote p q.grew)

pub grown_front : (a b c : Option (List ℕ)) (xs ys : List ℕ) → Appends a b xs → GrewByFront b c xs ys → GrowsByFront a c ys
grown_front a b c xs ys p q = subst (λ z. GrowsByFront a c z) q.whole (front_after a b c xs q.rest p q.grew)

pub front_of_longer : (a b : Option (List ℕ)) (xs ys : List ℕ) → IsFront xs ys → GrowsByFront a b xs → GrowsByFront a b ys
front_of_longer a b xs ys p q = subst (λ z. GrowsByFront a b z) p.1 (front_more a b xs p.0 q)

-- A piece more was taken from the source.
pub took_more : (a b c : Option (List ℕ)) (text piece : List ℕ) → Consumes a b text → Consumes b c piece → Consumes a c (text ++ piece)
took_more None b c text piece p q = tt
took_more (Some xs) None c text piece p q = absurd p
took_more (Some xs) (Some ys) None text piece p q = absurd q
took_more (Some xs) (Some ys) (Some zs) text piece p q = p ∙ ap (λ r. text ++ r) q ∙ sym (append_assoc text piece zs)

-- The job ended with the text that was taken.
pub answers_ended : (settings : Settings) (a b h k : Option (List ℕ)) (text : List ℕ) (s : Status) → Consumes a b text → length text ≤ most_bytes + 1
    → progress text settings ≡ Ended s → Appends h k (settled_output text settings) → Answers settings a b h k s
answers_ended settings None b h k text s took l e grew = record { grew = tt; ended = tt; read = (text, tt, ended_is_enough settings text b s l e) }
answers_ended settings (Some all) None h k text s took l e grew = absurd took
answers_ended settings (Some all) (Some rest) h k text s took l e grew =
    let both = ended_is_final settings text rest s e in
    let final = both.0 in
    record {
      grew = subst (λ z. Appends h k z) (sym (ap (λ t. output t settings) took ∙ final.longer)) grew;
      ended = sym (ap (λ t. end_of t settings) took ∙ final.status ∙ both.1);
      read = (text, took, ended_is_enough settings text (Some rest) s l e);
    }

-- The text was read to its end, or to one byte more than is used: its output is that of all that the source had.
whole_or_over : (settings : Settings) (text rest : List ℕ) → (rest ≡ []) ⊎ (length text ≡ most_bytes + 1) →
    (output (text ++ rest) settings ≡ output text settings) × (end_of (text ++ rest) settings ≡ end_of text settings)
whole_or_over settings text rest (inl e) =
    let same : text ++ rest ≡ text = ap (λ z. text ++ z) e ∙ append-nil text in
    (ap (λ t. output t settings) same, ap (λ t. end_of t settings) same)
whole_or_over settings text rest (inr e) =
    let final = over_is_final settings text rest (le-leb (most_bytes + 1) (length text) (omega (arith, e))) in
    (final.longer ∙ sym final.whole, final.status)

enough : (settings : Settings) (text : List ℕ) (b : Option (List ℕ)) → IsAtEnd b ⊎ (length text ≡ most_bytes + 1) → IsEnough settings text b
enough settings text b (inl e) = inl e
enough settings text b (inr e) = inr (inr e)

-- The job was finished.
pub answers_finished : (settings : Settings) (a b h k : Option (List ℕ)) (text : List ℕ) (s : Status) → Consumes a b text
    → IsAtEnd b ⊎ (length text ≡ most_bytes + 1) → s ≡ end_of text settings → Appends h k (output text settings) → Answers settings a b h k s
answers_finished settings None b h k text s took stop e grew = record { grew = tt; ended = tt; read = (text, tt, enough settings text b stop) }
answers_finished settings (Some all) None h k text s took stop e grew = absurd took
answers_finished settings (Some all) (Some rest) h k text s took stop e grew =
    let same = whole_or_over settings text rest stop in
    record {
      grew = subst (λ z. Appends h k z) (sym (ap (λ t. output t settings) took ∙ same.0)) grew;
      ended = e ∙ sym (ap (λ t. end_of t settings) took ∙ same.1);
      read = (text, took, enough settings text (Some rest) stop);
    }

-- A front of what is settled was written.
pub front_settled : (settings : Settings) (a b h k : Option (List ℕ)) (text : List ℕ) → Consumes a b text
    → GrowsByFront h k (settled_output text settings) → WritesFront settings a h k
front_settled settings None b h k text took grew = tt
front_settled settings (Some all) None h k text took grew = absurd took
front_settled settings (Some all) (Some rest) h k text took grew =
    subst (λ t. GrowsByFront h k (output t settings)) (sym took)
    (front_of_longer h k (settled_output text settings) (output (text ++ rest) settings) (output_grows settings text rest).longer grew)

-- A front of the output was written.
pub front_finished : (settings : Settings) (a b h k : Option (List ℕ)) (text : List ℕ) → Consumes a b text
    → IsAtEnd b ⊎ (length text ≡ most_bytes + 1) → GrowsByFront h k (output text settings) → WritesFront settings a h k
front_finished settings None b h k text took stop grew = tt
front_finished settings (Some all) None h k text took stop grew = absurd took
front_finished settings (Some all) (Some rest) h k text took stop grew =
    subst (λ z. GrowsByFront h k z) (sym (ap (λ t. output t settings) took ∙ (whole_or_over settings text rest stop).0)) grew

-- all that was appended is a front
pub front_all : (h k : Option (List ℕ)) (xs : List ℕ) → Appends h k xs → GrowsByFront h k xs
front_all h k xs grew = (length xs, subst (λ z. Appends h k z) (sym (take_all (length xs) xs (omega arith))) grew)

-- ---- what was written before the last read

-- All that is settled of what was taken was written, and then a front of something.
pub streams_then : (settings : Settings) (a b h k m : Option (List ℕ)) (text piece : List ℕ) (rest : List ℕ) → Consumes a b (text ++ piece)
    → length piece ≤ most_asked → Appends h k (settled_output text settings) → GrowsByFront k m rest → Streams settings a b h m
streams_then settings a b h k m text piece rest took asked wrote grew = record {
  before = text;
  last = piece;
  took = took;
  asked = asked;
  more = take grew.0 rest;
  wrote = Appends-trans h k m (settled_output text settings) (take grew.0 rest) wrote grew.1;
}

-- All that is settled of what was taken was written.
pub streams_all : (settings : Settings) (a b h k : Option (List ℕ)) (text : List ℕ) → Consumes a b text
    → Appends h k (settled_output text settings) → Streams settings a b h k
streams_all settings a b h k text took wrote = record {
  before = text;
  last = [];
  took = subst (λ t. Consumes a b t) (sym (append-nil text)) took;
  asked = omega arith;
  more = [];
  wrote = subst (λ t. Appends h k t) (sym (append-nil (settled_output text settings))) wrote;
}

-- ---- what a run owes at each of its ends

is_end : Status → Bool
is_end ends.Done = true
is_end ends.Refused = true
is_end ends.EditRefused = true
is_end s = false

end_is : (s : Status) → IsEnd s → is_end s ≡ true
unfolding is_end
end_is s (inl e) = ap is_end e
end_is s (inr (inl e)) = ap is_end e
end_is s (inr (inr e)) = ap is_end e

cut_is : (s : Status) → IsCut s → is_end s ≡ false
unfolding is_end
cut_is s (inl e) = ap is_end e
cut_is s (inr (inl e)) = ap is_end e
cut_is s (inr (inr e)) = ap is_end e

apart : (b : Bool) → b ≡ true → b ≡ false → ⊥
apart true p q = cc
apart false p q = cc

pub end_not_cut : (s : Status) → IsEnd s → IsCut s → ⊥
end_not_cut s e c = apart (is_end s) (end_is s e) (cut_is s c)

-- It came to the end of the job.
pub ran_end : (settings : Settings) (a b h k : Option (List ℕ)) (s : Status) → IsEnd s → Answers settings a b h k s → Ran settings a b h k s
ran_end settings a b h k s e answers = record {
  ends = inl e;
  answers = λ _. answers;
  stops = λ r. absurd (end_not_cut s e (inl r));
  front = λ c. absurd (end_not_cut s e c);
  streams = λ c. absurd (end_not_cut s e c);
}

-- The job stopped by a fault.
pub ran_cut : (settings : Settings) (a b h k : Option (List ℕ)) (e : JobFault) → WritesFront settings a h k → Streams settings a b h k → Ran settings a b h k (cut e)
ran_cut settings a b h k fault.Write front streams = record {
  ends = inr (inr (inl refl));
  answers = λ e. absurd (end_not_cut ends.WriteFault e (inr (inl refl)));
  stops = λ r. cc;
  front = λ c. front;
  streams = λ c. streams;
}
ran_cut settings a b h k fault.NoMemory front streams = record {
  ends = inr (inr (inr refl));
  answers = λ e. absurd (end_not_cut ends.NoMemory e (inr (inr refl)));
  stops = λ r. cc;
  front = λ c. front;
  streams = λ c. streams;
}

-- what a failed read keeps
kept : (a b c : Option (List ℕ)) (text : List ℕ) → Consumes a b text → Keeps b c → Consumes a c text
kept None b c text p q = tt
kept (Some xs) None c text p q = absurd p
kept (Some xs) (Some ys) None text p q = absurd q
kept (Some xs) (Some ys) (Some zs) text p q = p ∙ ap (λ r. text ++ r) (sym q)

-- A read failed.
pub ran_read_fault : (settings : Settings) (a b c h k : Option (List ℕ)) (text : List ℕ) → SoFar settings a b h k text → Keeps b c → Ran settings a c h k ends.ReadFault
ran_read_fault settings a b c h k text far q =
    let took = kept a b c text far.took q in
    record {
      ends = inr (inl refl);
      answers = λ e. absurd (end_not_cut ends.ReadFault e (inl refl));
      stops = λ _. (text, took, far.wrote);
      front = λ _. front_settled settings a c h k text took (front_all h k (settled_output text settings) far.wrote);
      streams = λ _. streams_all settings a c h k text took far.wrote;
    }

-- ---- one piece more

-- how far a run has come with a piece more
pub further : (settings : Settings) (a b c h k m : Option (List ℕ)) (text piece : List ℕ) → SoFar settings a b h k text → Consumes b c piece
    → length text + length piece ≤ most_bytes + 1
    → Grew k m (settled_output text settings) (settled_output (with_piece text piece) settings) → SoFar settings a c h m (text ++ piece)
further settings a b c h k m text piece far took l grew =
    let size : length (text ++ piece) ≤ most_bytes + 1 = omega (arith, length-append text piece, l) in
    record {
      took = took_more a b c text piece far.took took;
      size = size;
      wrote = subst (λ t. Appends h m (settled_output t settings)) (whole_piece text piece size)
          (grown h k m (settled_output text settings) (settled_output (with_piece text piece) settings) far.wrote grew);
    }

-- The job ended with the piece.
pub ran_ended : (settings : Settings) (a b c h k m : Option (List ℕ)) (text piece : List ℕ) (s : Status) → SoFar settings a b h k text → Consumes b c piece
    → length text + length piece ≤ most_bytes + 1
    → Grew k m (settled_output text settings) (settled_output (with_piece text piece) settings)
    → Ended s ≡ progress (with_piece text piece) settings → Ran settings a c h m s
ran_ended settings a b c h k m text piece s far took l grew e =
    let now = further settings a b c h k m text piece far took l grew in
    let size : length (text ++ piece) ≤ most_bytes + 1 = omega (arith, length-append text piece, l) in
    let ended : progress (text ++ piece) settings ≡ Ended s =
    ap (λ t. progress t settings) (sym (whole_piece text piece size)) ∙ sym e in
    ran_end settings a c h m s (ended_ends settings (text ++ piece) s ended)
    (answers_ended settings a c h m (text ++ piece) s now.took now.size ended now.wrote)

-- The job stopped at the piece.
pub ran_stopped : (settings : Settings) (a b c h k m : Option (List ℕ)) (text piece : List ℕ) (e : JobFault) → SoFar settings a b h k text → Consumes b c piece
    → length text + length piece ≤ most_bytes + 1 → length piece ≤ most_asked
    → GrewByFront k m (settled_output text settings) (settled_output (with_piece text piece) settings) → Ran settings a c h m (cut e)
ran_stopped settings a b c h k m text piece e far took l asked grew =
    let size : length (text ++ piece) ≤ most_bytes + 1 = omega (arith, length-append text piece, l) in
    ran_cut settings a c h m e
    (front_settled settings a c h m (text ++ piece) (took_more a b c text piece far.took took)
    (subst (λ t. GrowsByFront h m (settled_output t settings)) (whole_piece text piece size)
    (grown_front h k m (settled_output text settings) (settled_output (with_piece text piece) settings) far.wrote grew)))
    (streams_then settings a c h k m text piece grew.rest (took_more a b c text piece far.took took) asked far.wrote grew.grew)

-- ---- the end of the text

pub ran_finished : (settings : Settings) (a b h k m : Option (List ℕ)) (text : List ℕ) (s : Status) → SoFar settings a b h k text
    → IsAtEnd b ⊎ (length text ≡ most_bytes + 1) → s ≡ end_of text settings → Grew k m (settled_output text settings) (output text settings)
    → Ran settings a b h m s
ran_finished settings a b h k m text s far stop e grew =
    ran_end settings a b h m s (subst IsEnd (sym e) (end_ends (output_lines text settings)))
    (answers_finished settings a b h m text s far.took stop e (grown h k m (settled_output text settings) (output text settings) far.wrote grew))

pub ran_unfinished : (settings : Settings) (a b h k m : Option (List ℕ)) (text : List ℕ) (e : JobFault) → SoFar settings a b h k text
    → IsAtEnd b ⊎ (length text ≡ most_bytes + 1) → GrewByFront k m (settled_output text settings) (output text settings) → Ran settings a b h m (cut e)
ran_unfinished settings a b h k m text e far stop grew =
    ran_cut settings a b h m e
    (front_finished settings a b h m text far.took stop (grown_front h k m (settled_output text settings) (output text settings) far.wrote grew))
    (streams_then settings a b h k m text [] grew.rest (subst (λ t. Consumes a b t) (sym (append-nil text)) far.took) (omega arith) far.wrote grew.grew)

-- ---- the beginning

pub still : (h : Option (List ℕ)) → Appends h h []
still None = tt
still (Some xs) = sym (append-nil xs)

untouched : (a : Option (List ℕ)) → Consumes a a []
untouched None = tt
untouched (Some xs) = refl

nothing_settled : (settings : Settings) → settled_output [] settings ≡ []
unfolding settled_lines settled written_lines lines_of header header_lines parts
nothing_settled settings = refl

pub at_first : (settings : Settings) (a h : Option (List ℕ)) → SoFar settings a a h h []
at_first settings a h = record {
  took = untouched a;
  size = omega arith;
  wrote = subst (λ z. Appends h h z) (sym (nothing_settled settings)) (still h);
}

-- The status that a job ended with is no fault.
pub not_a_fault : (settings : Settings) (text : List ℕ) (s : Status) → progress text settings ≡ Ended s → IsCut s → ⊥
not_a_fault settings text s e c = end_not_cut s (ended_ends settings text s e) c

-- ---- where reading stops

pub finished : (settings : Settings) (a b h k m : Option (List ℕ)) (job : JobValue) (s : Status) → IsRead settings a b h k job
    → s ≡ end_of job.text job.settings → Grew k m (settled_output job.text job.settings) (output job.text job.settings) → Ran settings a b h m s
finished settings a b h k m job s at e grew =
    ran_finished settings a b h k m job.text s at.far at.stop (e ∙ ap (end_of job.text) at.same)
    (subst (λ n. Grew k m (settled_output job.text n) (output job.text n)) at.same grew)

pub unfinished : (settings : Settings) (a b h k m : Option (List ℕ)) (job : JobValue) (e : JobFault) → IsRead settings a b h k job
    → GrewByFront k m (settled_output job.text job.settings) (output job.text job.settings) → Ran settings a b h m (cut e)
unfinished settings a b h k m job e at grew =
    ran_unfinished settings a b h k m job.text e at.far at.stop
    (subst (λ n. GrewByFront k m (settled_output job.text n) (output job.text n)) at.same grew)
