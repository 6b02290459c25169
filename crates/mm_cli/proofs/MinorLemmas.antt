-- The matrix that the words of `minor` show, and a run that wants memory before it reads.
use Rattle.std.proofs.Common.{◌≡◌, ◌<◌, ◌≤◌, ◌⊎◌, ◌&&◌, ◌==◌, ◌++◌, ◌∷◌, inl, inr, ℕ, nat_le, List, [], length, take, All, get_or, true, false, Option, Some, None, IfSome, sym, ap, ◌∙◌, subst, arith}
use Rattle.std.specs.List.{list_all}
use Rattle.std.proofs.lemmas.Bool.{leb-true, and_parts}
use Rattle.std.proofs.lemmas.Bool.Decides.{eqb_tells}
use Rattle.std.proofs.lemmas.List.{take_more}
use Rattle.std.proofs.lemmas.List.Elements.{All-from_get_or, All-get_or}
use Rattle.std.proofs.lemmas.List.Folds.{list_all_at}
use Rattle.mm_field.specs.Vectors.{IsVector, AreDigits}
use Rattle.mm_job.specs.Settings.{Settings}
use Rattle.mm_job.specs.declared.progress.JobFault.TheVariants as fault
use Rattle.mm_base.specs.declared.status.Status.TheVariants as ends
use Rattle.mm_cli.proofs.RunLemmas.{at_first, front_settled, front_all, ran_cut, streams_all}
use Rattle.mm_cli.specs.Runs.{Ran}
use Rattle.mm_matrix.specs.MatrixValue.{IsMatrix}
use Rattle.mm_job_laws.proofs.MinorLemmas.{minors_are_told}
use Rattle.mm_cli.specs.Minors.{TellMinors, matrix_in}
use Rattle.mm_cli.specs.Words.{IsSmallMatrix, IsWithinBounds, columns_of, most_limit}
use Rattle.mm_cli.specs.declared.words.Command.{Command}
use Rattle.mm_cli.specs.declared.words.Command.TheVariants.{Run, Sample, Build, Dual, Minor, NotBuilt}
use Rattle.mm_cli.specs.declared.words.MinorMatrix.{MinorMatrix}
use Rattle.mm_job.specs.Output.{settled_output}

apart : true ≡ false → ⊥
apart e = cc

one_length : (rows : List (List ℕ)) (c k : ℕ) → list_all (λ v. length v == c) rows ≡ true → k < length rows
    → ((length (get_or rows k []) == c ≡ true) × (length (get_or rows k []) ≡ c)) ⊎ ((length (get_or rows k []) == c ≡ false) × (length (get_or rows k []) ≡ c → ⊥))
    → length (get_or rows k []) ≡ c
one_length rows c k all l (inl h) = h.1
one_length rows c k all l (inr h) = absurd (apart (sym all ∙ list_all_at (λ v. length v == c) rows k [] l h.0))

-- The facts of a small matrix.
pub record AreFacts (m : MinorMatrix) : Type 0 where
  pub some : 0 < length m.rows
  pub few : columns_of m.rows ≤ 5
  pub row : (k : ℕ) → k < length m.rows → IsVector m.field (columns_of m.rows) (get_or m.rows k [])

pub facts : (m : MinorMatrix) → IsSmallMatrix m → AreFacts m
facts m h =
    let c = columns_of m.rows in
    let whole = and_parts (nat_le 1 (length m.rows) && nat_le 1 c && nat_le c 5) (list_all (λ v. length v == c) m.rows) h.small in
    let bounds = and_parts (nat_le 1 (length m.rows) && nat_le 1 c) (nat_le c 5) whole.0 in
    let least = and_parts (nat_le 1 (length m.rows)) (nat_le 1 c) bounds.0 in
    let some = leb-true 1 (length m.rows) least.0 in
    record {
      some = omega (arith, some);
      few = leb-true c 5 bounds.1;
      row = λ k l. record {
        len = one_length m.rows c k whole.1 l (eqb_tells (length (get_or m.rows k [])) c);
        digits = All-get_or (λ v. AreDigits m.field v) m.rows k [] l h.digits;
      };
    }

pub ran_unread : (settings : Settings) (a h : Option (List ℕ)) → Ran settings a a h h ends.NoMemory
ran_unread settings a h =
    let far = at_first settings a h in
    ran_cut settings a a h h fault.NoMemory
    (front_settled settings a a h h [] far.took (front_all h h (settled_output [] settings) far.wrote))
    (streams_all settings a a h h [] far.took far.wrote)

-- what the words show is a matrix
small_matrix : (m : MinorMatrix) → IsSmallMatrix m → IsMatrix (matrix_in m)
small_matrix m h = All-from_get_or (λ v. IsVector m.field (columns_of m.rows) v) m.rows [] (facts m h).row

pub tell_minors : (command : Option Command) (left : Option (List ℕ)) → IfSome command IsWithinBounds → TellMinors command left
tell_minors None left h = tt
tell_minors (Some (Run limit)) left h = tt
tell_minors (Some (Sample s)) left h = tt
tell_minors (Some Build) left h = tt
tell_minors (Some Dual) left h = tt
tell_minors (Some NotBuilt) left h = tt
tell_minors (Some (Minor m)) None h = tt
tell_minors (Some (Minor m)) (Some text) h =
    λ rest s read. minors_are_told most_limit (matrix_in m) text rest s (small_matrix m h) (facts m h).few read
