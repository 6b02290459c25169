-- A stage that is not among the items is before them.
use Rattle.std.specs.Prelude.{◌≡◌, refl, Option}
use Rattle.mm_job.specs.State.Stages.{IsFirst}
use Rattle.mm_job.specs.declared.block.Block.{Block}
use Rattle.mm_job.specs.declared.editor.Editor.{Editor}
use Rattle.mm_job.specs.declared.stage.Stage.{Stage}
use Rattle.mm_job.specs.declared.stage.Stage.TheVariants as stage

pub before_items : (s : Stage) → ((e : Editor) (b : Option Block) → s ≡ stage.Items e b → ⊥) → IsFirst s
before_items (stage.Header h) other = tt
before_items (stage.Query g t) other = tt
before_items (stage.Items e b) other = other e b refl
before_items stage.Refused other = tt
