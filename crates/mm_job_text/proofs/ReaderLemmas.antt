-- A steady reader makes of some lines what it makes of these and more.
use Rattle.std.specs.Prelude.{◌≡◌, refl, ℕ, Bool, true, false, List, [], ◌∷◌, ◌++◌, Ok, Err, if◌then◌else◌}
use Rattle.std.proofs.Common.{sym, subst}
use Rattle.std.specs.declared.result.Result.{Result}
use Rattle.mm_field.specs.declared.Field.{Field}
use Rattle.mm_lines.specs.declared.line.Line.{Line}
use Rattle.mm_ops.specs.Tables.{OperatorList}
use Rattle.mm_tree.specs.NamedTree.{Tree}
use Rattle.mm_job_text.specs.Readers.{Reader, Reading, Read, Refused, Short, and_then, now, whole, line, goes_on, each}
use Rattle.mm_job_text.specs.TreeLines.{is_tree_part, tree_part, end_line, tree_lines}
use Rattle.mm_job_text.specs.declared.refusal.Refusal.{Refusal}

-- what was read or refused stays, however the lines go on
abbrev pub Keeps : {A : Type 0} → List Line → Reading A → Reading A → Type 0
Keeps more (Read x rest) y = y ≡ Read x (rest ++ more)
Keeps more (Refused e) y = y ≡ Refused e
Keeps more Short y = Unit {0}

abbrev pub IsSteady : {A : Type 0} → Reader A → Type 0
IsSteady p = (rs more : List Line) → Keeps more (p rs) (p (rs ++ more))

pub now_steady : {A : Type 0} (r : Result A Refusal) → IsSteady (now r)
now_steady (Ok x) rs more = refl
now_steady (Err e) rs more = refl

pub line_steady : {A : Type 0} (f : Line → Result A Refusal) → IsSteady (line f)
line_steady f [] more = tt
line_steady f (r ∷ rs) more = now_steady (whole f r) rs more

each_step : {A : Type 0} (next : A → Reader A) (rs more : List Line) (r : Line) (x : A) (b : Bool) (res : Result A Refusal)
    → ((y : A) → Keeps more (next y rs) (next y (rs ++ more)))
    → Keeps more (if b then goes_on res (λ y. next y rs) else Read x (r ∷ rs)) (if b then goes_on res (λ y. next y (rs ++ more)) else Read x (r ∷ rs ++ more))
each_step next rs more r x true (Ok y) h = h y
each_step next rs more r x true (Err e) h = refl
each_step next rs more r x false res h = refl

pub each_steady : {A : Type 0} (test : Line → Bool) (f : A → Line → Result A Refusal) (x : A) → IsSteady (each test f x)
each_steady test f x [] more = tt
each_steady test f x (r ∷ rs) more = each_step (each test f) rs more r x (test r) (f x r) (λ y. each_steady test f y rs more)

then_keeps : {A B : Type 0} (more : List Line) (a b : Reading A) (k : A → Reader B) → Keeps more a b → ((x : A) → IsSteady (k x)) → Keeps more (and_then a k) (and_then b k)
then_keeps more (Read x rest) b k p h = subst (λ y. Keeps more (k x rest) (and_then y k)) (sym p) (h x rest more)
then_keeps more (Refused e) b k p h = subst (λ y. and_then y k ≡ Refused e) (sym p) refl
then_keeps more Short b k p h = tt

pub bind_steady : {A B : Type 0} (p : Reader A) (k : A → Reader B) → IsSteady p → ((x : A) → IsSteady (k x)) → IsSteady (λ rs. and_then (p rs) k)
bind_steady p k hp hk rs more = then_keeps more (p rs) (p (rs ++ more)) k (hp rs more) hk

pub tree_lines_steady : (most : ℕ) (f : Field) (ops : OperatorList) (trees : List Tree) → IsSteady (tree_lines most f ops trees)
unfolding tree_lines
tree_lines_steady most f ops trees =
    bind_steady (each is_tree_part (tree_part most f ops) trees) (λ all. line (end_line all)) (each_steady is_tree_part (tree_part most f ops) trees) (λ all. line_steady (end_line all))
