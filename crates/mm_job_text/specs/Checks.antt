-- Tests one after another: the first that fails gives its refusal.
use Rattle.std.specs.Prelude.{ℕ, Bool, true, false, nat_le, Option, Some, None, Ok, Err}
use Rattle.std.specs.declared.result.Result.{Result}
use Rattle.mm_job_text.specs.declared.refusal.Limit.{Limit}
use Rattle.mm_job_text.specs.declared.refusal.Refusal.{Refusal}
use Rattle.mm_job_text.specs.declared.refusal.Refusal.TheVariants as refusal

infixl 10 ◌>>=◌ ◌>>◌
abbrev pub ◌>>=◌ : {A B : Type 0} → Result A Refusal → (A → Result B Refusal) → Result B Refusal
(Ok x) >>= f = f x
(Err e) >>= f = Err e

abbrev pub ◌>>◌ : {A B : Type 0} → Result A Refusal → Result B Refusal → Result B Refusal
(Ok x) >> next = next
(Err e) >> next = Err e

-- Nothing where a test holds, and else a refusal.
abbrev pub require : Bool → Refusal → Result (Unit {0}) Refusal
require true refused = Ok tt
require false refused = Err refused

-- What an option holds, and where it holds nothing a refusal.
abbrev pub found : {A : Type 0} → Option A → Refusal → Result A Refusal
found None refused = Err refused
found (Some x) refused = Ok x

-- A refusal where there is one.
abbrev pub unless : Option Refusal → Result (Unit {0}) Refusal
unless None = Ok tt
unless (Some refused) = Err refused

-- A number that is at most a limit, in the line with number n.
abbrev pub within : ℕ → ℕ → Limit → ℕ → Result (Unit {0}) Refusal
within size most what n = require (nat_le size most) (refusal.Over what n)
