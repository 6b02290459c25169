-- What a call that may be refused answers.
use Rattle.std.specs.Prelude.{◌≡◌, Option, Some, Ok, Err}
use Rattle.std.specs.declared.result.Result.{Result}
use Rattle.mm_job_text.specs.Readers.{Reading, Refused as RefusedBy}
use Rattle.mm_job_text.specs.declared.refusal.Refusal.{Refusal}
use Rattle.mm_job_text.specs.declared.refusal.Stop.{Stop}
use Rattle.mm_job_text.specs.declared.refusal.Stop.TheVariants.{Refused, NoMemory}

-- A fact of the value or of the refusal that is answered, unless memory ran out.
abbrev pub UnlessMemory : {X : Type 0} → Result X Stop → (X → Type 0) → (Refusal → Type 0) → Type 0
UnlessMemory (Ok x) taken refused = taken x
UnlessMemory (Err (Refused e)) taken refused = refused e
UnlessMemory (Err NoMemory) taken refused = Unit {0}

-- What stands afterwards is what is read, or the refusal is the one that is read.
abbrev pub Becomes : {X Y : Type 0} → Result X Stop → Y → Result Y Refusal → Type 0
Becomes result new read = UnlessMemory result (λ x. read ≡ Ok new) (λ e. read ≡ Err e)

-- What is answered shows what is read, or the refusal is the one that is read.
abbrev pub Reads : {X Y : Type 0} → (X → Y) → Result X Stop → Result Y Refusal → Type 0
Reads shown result read = UnlessMemory result (λ x. read ≡ Ok (shown x)) (λ e. read ≡ Err e)

-- All lines are read as those after are, or the refusal is the one by which they are read, unless memory ran out.
abbrev pub Goes : {X A : Type 0} → Result X Stop → Reading A → (X → Reading A) → Type 0
Goes (Ok x) all after = all ≡ after x
Goes (Err (Refused e)) all after = all ≡ RefusedBy e
Goes (Err NoMemory) all after = Unit {0}

-- A line stops by this refusal, or memory ran out.
abbrev pub StopsAs : Stop → Option Refusal → Type 0
StopsAs (Refused e) refused = refused ≡ Some e
StopsAs NoMemory refused = Unit {0}
