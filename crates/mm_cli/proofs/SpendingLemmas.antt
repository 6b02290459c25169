-- The steps of a run are within the bound on the work of its job.
use Rattle.std.proofs.Common.{◌≡◌, ◌∙◌, ◌⊎◌, inl, inr, ℕ, ◌+◌, ◌≤◌, List, [], ◌++◌, length, Option, Some, None, sym, ap, subst, arith}
use Rattle.std.specs.Io.KnownBytes.{Consumes, IsAtEnd}
use Rattle.std.proofs.lemmas.List.{append-nil, length-append}
use Rattle.mm_lines.specs.Lines.{most_bytes}
use Rattle.mm_job.specs.Calls.{SpendsOnText}
use Rattle.mm_job.specs.Jobs.{JobValue, with_piece}
use Rattle.mm_job.specs.Work.{bound_of, settled_work, work}
use Rattle.mm_job.proofs.WorkLemmas.{work_grows}
use Rattle.mm_job.specs.Settings.{Settings}
use Rattle.mm_cli.specs.Going.{IsRead, SoFar}
use Rattle.mm_cli.specs.Spending.{SpendsOnJob, SpendsOnRest}
use Rattle.mm_cli.proofs.RunLemmas.{took_more, whole_piece}
use Rattle.mm_cli.proofs.WholeLemmas.{same_lines}

-- What is settled of a text is within the bound of each longer text.
settled_within : (settings : Settings) (text rest : List ℕ) → settled_work text settings ≤ bound_of (text ++ rest) settings
settled_within settings text rest =
    let longer : settled_work text settings ≤ settled_work (text ++ rest) settings = (work_grows settings text rest).longer in
    let whole : settled_work (text ++ rest) settings ≤ bound_of (text ++ rest) settings = (work_grows settings (text ++ rest) []).whole in
    omega (arith, longer, whole)

-- The steps were spent on what was taken of the source.
pub spent_on_taken : (settings : Settings) (a b : Option (List ℕ)) (before text : List ℕ) (s t : ℕ) → Consumes a b text
    → SpendsOnText s t (settled_work before settings) (settled_work text settings) → SpendsOnRest settings a before s t
spent_on_taken settings None b before text s t took h = tt
spent_on_taken settings (Some all) None before text s t took h = absurd took
spent_on_taken settings (Some all) (Some rest) before text s t took h =
    let within : settled_work text settings ≤ bound_of (text ++ rest) settings = settled_within settings text rest in
    subst (λ (z : List ℕ). SpendsOnText s t (settled_work before settings) (bound_of z settings)) (sym took) (omega (arith, h, within))

-- A read failed, and nothing was spent.
pub spent_on_nothing : (settings : Settings) (a b h k : Option (List ℕ)) (text : List ℕ) (s : ℕ) → SoFar settings a b h k text → SpendsOnRest settings a text s s
spent_on_nothing settings a b h k text s far = spent_on_taken settings a b text text s s far.took (omega arith)

-- The job ended or stopped at a piece.
pub spent_on_piece : (settings : Settings) (a b c h k : Option (List ℕ)) (text piece : List ℕ) (s t : ℕ) → SoFar settings a b h k text → Consumes b c piece
    → length text + length piece ≤ most_bytes + 1 → SpendsOnText s t (settled_work text settings) (settled_work (with_piece text piece) settings)
    → SpendsOnRest settings a text s t
spent_on_piece settings a b c h k text piece s t far took l spent =
    let size : length (text ++ piece) ≤ most_bytes + 1 = omega (arith, length-append text piece, l) in
    spent_on_taken settings a c text (text ++ piece) s t (took_more a b c text piece far.took took)
    (subst (λ (z : List ℕ). SpendsOnText s t (settled_work text settings) (settled_work z settings)) (whole_piece text piece size) spent)

-- The bound of the text that was read is that of all that the source had.
bound_is_same : (settings : Settings) (text rest : List ℕ) → (rest ≡ []) ⊎ (length text ≡ most_bytes + 1) → bound_of text settings ≡ bound_of (text ++ rest) settings
bound_is_same settings text rest (inl e) = ap (λ (z : List ℕ). bound_of z settings) (sym (append-nil text)) ∙ ap (λ (z : List ℕ). bound_of (text ++ z) settings) (sym e)
bound_is_same settings text rest (inr e) = ap (work settings) (sym (same_lines text rest e))

spent_to_end : (settings : Settings) (a b : Option (List ℕ)) (text : List ℕ) (s t : ℕ) → Consumes a b text → IsAtEnd b ⊎ (length text ≡ most_bytes + 1)
    → SpendsOnText s t (settled_work text settings) (bound_of text settings) → SpendsOnRest settings a text s t
spent_to_end settings None b text s t took stop h = tt
spent_to_end settings (Some all) None text s t took stop h = absurd took
spent_to_end settings (Some all) (Some rest) text s t took stop h =
    subst (λ (z : List ℕ). SpendsOnText s t (settled_work text settings) (bound_of z settings)) (sym took)
    (subst (λ (n : ℕ). SpendsOnText s t (settled_work text settings) n) (bound_is_same settings text rest stop) h)

-- First these steps were taken, and then those for the rest.
pub spent_in_all : (settings : Settings) (a : Option (List ℕ)) (text : List ℕ) (first s t : ℕ) → s ≤ first + settled_work text settings
    → SpendsOnRest settings a text s t → SpendsOnJob settings a first t
spent_in_all settings None text first s t h rest = tt
spent_in_all settings (Some all) text first s t h rest = omega (arith, h, rest)

-- The job was finished, or stopped at its end.
pub spent_on_end : (settings : Settings) (a b h k : Option (List ℕ)) (job : JobValue) (first s t : ℕ) → IsRead settings a b h k job
    → s ≤ first + settled_work job.text settings → SpendsOnText s t (settled_work job.text job.settings) (bound_of job.text job.settings)
    → SpendsOnJob settings a first t
spent_on_end settings a b h k job first s t at before spent =
    spent_in_all settings a job.text first s t before
    (spent_to_end settings a b job.text s t at.far.took at.stop
    (subst (λ (n : Settings). SpendsOnText s t (settled_work job.text n) (bound_of job.text n)) at.same spent))
