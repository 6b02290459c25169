-- What is true of all that is read: by tests one after another, by a line, and by all lines at the front.
use Rattle.std.specs.Prelude.{◌≡◌, refl, Bool, true, false, List, [], ◌∷◌, Option, Some, None, IfOk, Ok, Err, if◌then◌else◌}
use Rattle.std.proofs.Common.{subst}
use Rattle.std.specs.declared.result.Result.{Result}
use Rattle.mm_lines.specs.declared.line.Line.{Line}
use Rattle.mm_job_text.specs.Arguments.{too_long}
use Rattle.mm_job_text.specs.Checks.{◌>>=◌, ◌>>◌, require, found, unless}
use Rattle.mm_job_text.specs.Readers.{Reading, Read, Refused, Short, and_then, now, refused_or, line, goes_on, each}
use Rattle.mm_job_text.specs.declared.refusal.Refusal.{Refusal}

-- ---- tests one after another

pub if_require : {B : Type 0} (P : B → Type 0) (b : Bool) (e : Refusal) (next : Result B Refusal) → (b ≡ true → IfOk next P) → IfOk (require b e >> next) P
if_require P true e next h = h refl
if_require P false e next h = tt

pub if_found : {A B : Type 0} (P : B → Type 0) (o : Option A) (e : Refusal) (k : A → Result B Refusal) → ((x : A) → o ≡ Some x → IfOk (k x) P) →
    IfOk (found o e >>= k) P
if_found P None e k h = tt
if_found P (Some x) e k h = h x refl

pub if_unless : {B : Type 0} (P : B → Type 0) (o : Option Refusal) (next : Result B Refusal) → (o ≡ None → IfOk next P) → IfOk (unless o >> next) P
if_unless P None next h = h refl
if_unless P (Some e) next h = tt

pub if_ok : {A B : Type 0} (Q : A → Type 0) (P : B → Type 0) (r : Result A Refusal) (k : A → Result B Refusal) → IfOk r Q →
    ((x : A) → Q x → IfOk (k x) P) → IfOk (r >>= k) P
if_ok Q P (Ok x) k q h = h x q
if_ok Q P (Err e) k q h = tt

-- ---- readers

abbrev pub IfRead : {A : Type 0} → (A → Type 0) → Reading A → Type 0
IfRead P (Read x rest) = P x
IfRead P (Refused e) = Unit {0}
IfRead P Short = Unit {0}

pub read_has : {A : Type 0} (P : A → Type 0) (reading : Reading A) (x : A) (rest : List Line) → IfRead P reading → reading ≡ Read x rest → P x
read_has P reading x rest h e = subst (λ r. IfRead P r) e h

pub each_has : {A : Type 0} (P : A → Type 0) (test : Line → Bool) (g : A → Line → Result A Refusal) → ((x : A) (r : Line) → P x → IfOk (g x r) P) →
    (x : A) (rs : List Line) → P x → IfRead P (each test g x rs)
each_has P test g keeps x [] h = tt
each_has {A} P test g keeps x (r ∷ rs) h = go (test r) (g x r) (keeps x r h) (λ y k. each_has P test g keeps y rs k)
  where
    go : (b : Bool) (res : Result A Refusal) → IfOk res P → ((y : A) → P y → IfRead P (each test g y rs)) →
        IfRead P (if b then goes_on res (λ y. each test g y rs) else Read x (r ∷ rs))
    go true (Ok y) k after = after y k
    go true (Err e) k after = tt
    go false res k after = h

pub line_has : {A : Type 0} (P : A → Type 0) (g : Line → Result A Refusal) → ((r : Line) → IfOk (g r) P) → (rs : List Line) → IfRead P (line g rs)
line_has P g h [] = tt
line_has {A} P g h (r ∷ rs) = go (too_long r.text r.number) (g r) (h r)
  where
    go : (o : Option Refusal) (res : Result A Refusal) → IfOk res P → IfRead P (now (refused_or o res) rs)
    go None (Ok x) k = k
    go None (Err e) k = tt
    go (Some e) res k = tt

pub then_has : {A B : Type 0} (Q : A → Type 0) (P : B → Type 0) (reading : Reading A) (k : A → List Line → Reading B) → IfRead Q reading →
    ((x : A) (rs : List Line) → Q x → IfRead P (k x rs)) → IfRead P (and_then reading k)
then_has Q P (Read x rest) k q h = h x rest q
then_has Q P (Refused e) k q h = tt
then_has Q P Short k q h = tt

-- what is read, of which nothing has to be known
pub anything : {A : Type 0} (r : Result A Refusal) → IfOk r (λ x. Unit {0})
anything (Ok x) = tt
anything (Err e) = tt
