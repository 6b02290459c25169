-- What a command that reads its source as a whole owes, from what was read and written.
use Rattle.std.proofs.Common.{◌≡◌, ◌⊎◌, inl, inr, ℕ, ◌+◌, Bool, true, not, List, [], ◌++◌, length, take, Option, Some, None, refl, sym, ap, ◌∙◌, subst, arith}
use Rattle.std.specs.Prelude.{IfSome, Ok, Err}
use Rattle.std.specs.declared.result.Result.{Result}
use Rattle.std.specs.Io.KnownBytes.{Appends}
use Rattle.std.proofs.lemmas.Bool.{le-leb}
use Rattle.std.proofs.lemmas.List.{append-nil, length-append, take-append-le}
use Rattle.mm_base.specs.Causes.{GrowsByFront}
use Rattle.mm_base.specs.declared.status.Status.{Status}
use Rattle.mm_lines.specs.Lines.{is_over, lines, lines_of, most_bytes}
use Rattle.mm_decomp.specs.BuildOutput.{build_output, header_of, output_of}
use Rattle.mm_decomp.specs.Decompositions.{build_parts, decomposition_of, read_at_end}
use Rattle.mm_decomp.specs.DualOutput.{dual_of_tree, dual_output}
use Rattle.mm_decomp.specs.GivenTrees.{given_tree_of, tree_at_end, tree_parts}
use Rattle.mm_cli.specs.Answers.{Answer, Writes, build, dual, made}
use Rattle.mm_cli.specs.Runs.{IsCut, IsEnd}
use Rattle.mm_cli.specs.Whole.{AnswersText, TookAll}
use Rattle.mm_cli.proofs.RunLemmas.{end_not_cut, still}
use Rattle.mm_cli.proofs.WriteLemmas.{ends_or_cut, own_status}

-- Nothing that comes after the first byte that is too many matters.
abbrev pub IsCutOff : (List ℕ → Answer) → Type 0
IsCutOff answer = (a b : List ℕ) → length a ≡ most_bytes + 1 → answer (a ++ b) ≡ answer a

over_full : (a : List ℕ) → length a ≡ most_bytes + 1 → is_over a ≡ true
over_full a e = le-leb (most_bytes + 1) (length a) (omega (arith, e))

over_longer : (a b : List ℕ) → length a ≡ most_bytes + 1 → is_over (a ++ b) ≡ is_over a
over_longer a b e = le-leb (most_bytes + 1) (length (a ++ b)) (omega (arith, e, length-append a b)) ∙ sym (over_full a e)

pub same_lines : (a b : List ℕ) → length a ≡ most_bytes + 1 → lines (a ++ b) ≡ lines a
unfolding lines
same_lines a b e =
    ap (λ (c : Bool). lines_of (not c) (take most_bytes (a ++ b))) (over_longer a b e)
    ∙ ap (lines_of (not (is_over a))) (take-append-le most_bytes a b (omega (arith, e)))

pub build_is_cut_off : IsCutOff build
unfolding build build_output decomposition_of
build_is_cut_off a b e =
    ap (λ (over : Bool). made (output_of header_of (read_at_end over (build_parts (lines (a ++ b)))))) (over_longer a b e)
    ∙ ap (λ rs. made (output_of header_of (read_at_end (is_over a) (build_parts rs)))) (same_lines a b e)

pub dual_is_cut_off : IsCutOff dual
unfolding dual dual_output given_tree_of
dual_is_cut_off a b e =
    ap (λ (over : Bool). made (output_of (λ t. Ok (dual_of_tree t)) (tree_at_end over (tree_parts (lines (a ++ b)))))) (over_longer a b e)
    ∙ ap (λ rs. made (output_of (λ t. Ok (dual_of_tree t)) (tree_at_end (is_over a) (tree_parts rs)))) (same_lines a b e)

-- What is answered to what was taken is answered to all that the source had.
answer_of_taken : (answer : List ℕ → Answer) → IsCutOff answer → (all taken rest : List ℕ) → all ≡ taken ++ rest
    → (rest ≡ []) ⊎ (length taken ≡ most_bytes + 1) → answer all ≡ answer taken
answer_of_taken answer h all taken rest e (inl z) = ap answer (e ∙ ap (λ r. taken ++ r) z ∙ append-nil taken)
answer_of_taken answer h all taken rest e (inr z) = ap answer e ∙ h taken rest z

pub made_ends : (output : Result (List ℕ) (List ℕ)) → IsEnd (made output).status
made_ends (Ok text) = inl refl
made_ends (Err words) = inr (inl refl)

-- All was read, and the answer to it was written, maybe not to its end.
pub text_answered : (answer : List ℕ → Answer) → IsCutOff answer → (a b h k : Option (List ℕ)) (text : List ℕ) (s : Status)
    → IsEnd (answer text).status → TookAll a b text → Writes (answer text) h k s → AnswersText answer a b h k s
text_answered answer cut None b h k text s end took w = record {
  ends = ends_or_cut (answer text) h k s end w;
  grew = λ _. tt;
  ended = λ _. tt;
  read = λ _. (text, took);
  front = λ _. tt;
}
text_answered answer cut (Some all) None h k text s end took w = absurd took.took
text_answered answer cut (Some all) (Some rest) h k text s end took w =
    let same : answer all ≡ answer text = answer_of_taken answer cut all text rest took.took took.stop in
    record {
      ends = ends_or_cut (answer text) h k s end w;
      grew = λ e. subst (λ (x : Answer). Appends h k x.output) (sym same) (w.grew (own_status (answer text) h k s w e));
      ended = λ e. own_status (answer text) h k s w e ∙ ap (λ (x : Answer). x.status) (sym same);
      read = λ _. (text, took);
      front = λ c. subst (λ (x : Answer). GrowsByFront h k x.output) (sym same) (w.front c);
    }

nothing_written : (answer : List ℕ → Answer) (a h : Option (List ℕ)) → IfSome a (λ text. GrowsByFront h h (answer text).output)
nothing_written answer None h = tt
nothing_written answer (Some all) h = (0, still h)

-- Reading was cut short, and nothing was written.
pub text_unread : (answer : List ℕ → Answer) (a b h : Option (List ℕ)) (s : Status) → IsCut s → AnswersText answer a b h h s
text_unread answer a b h s c = record {
  ends = inr c;
  grew = λ e. absurd (end_not_cut s e c);
  ended = λ e. absurd (end_not_cut s e c);
  read = λ e. absurd (end_not_cut s e c);
  front = λ _. nothing_written answer a h;
}
