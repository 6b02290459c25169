-- What is said where no lines are left.
use Rattle.std.specs.Prelude.{◌≡◌, refl, Bool, [], Option, Some, None}
use Rattle.std.proofs.Common.{ap, ◌∙◌}
use Rattle.mm_tree.specs.TreeValue.{TreeValue}
use Rattle.mm_job_text.specs.Readers.{Reading, and_then, now}
use Rattle.mm_job.specs.State.Blocks.{lines_from_block}
use Rattle.mm_job.specs.State.JobStates.{end_by}
use Rattle.mm_header.proofs.HeaderLemmas.{state_short}
use Rattle.mm_header.specs.Header.{Parts}
use Rattle.mm_header.specs.Rules.{job_rules}
use Rattle.mm_header.specs.declared.state.HeaderData.{HeaderData}
use Rattle.mm_header.specs.declared.state.HeaderState.{HeaderState}
use Rattle.mm_job.specs.Header.{Session, query_part, started}
use Rattle.mm_job.specs.Items.{items, rest_of_block}
use Rattle.mm_job.specs.Output.{Ending, More, at_rest, cut_short, lines_after_header, lines_of_items}
use Rattle.mm_job.specs.State.Sessions.{session_of}
use Rattle.mm_job.specs.State.Stages.{lines_from_stage, work_from_stage}
use Rattle.mm_job.specs.Work.{items_work, work_after}
use Rattle.mm_job.specs.declared.block.Block.{Block}
use Rattle.mm_job.specs.declared.stage.Stage.{Stage}
use Rattle.mm_job.specs.declared.stage.Stage.TheVariants as stage
use Rattle.mm_job.specs.Settings.{Settings}

pub end_head : (settings : Settings) (h : HeaderState) (e : Ending) → lines_from_stage settings (stage.Header h) e [] ≡ cut_short e
end_head settings h e = ap (λ (r : Reading Parts). lines_after_header e (and_then (and_then r (query_part settings)) (λ s. now (started s)))) (state_short job_rules h)

pub end_query : (settings : Settings) (g : HeaderData) (t : TreeValue) (e : Ending) → lines_from_stage settings (stage.Query g t) e [] ≡ cut_short e
unfolding query_part
end_query settings g t e = refl

inside : (s : Session) (b : Block) (e : Ending) → lines_from_block e s (Some b) [] ≡ cut_short e
unfolding rest_of_block
inside s b e = refl

between : (s : Session) (e : Ending) → lines_from_block e s None [] ≡ at_rest e
unfolding items lines_of_items
between s e = refl

pub end_inside : (s : Session) (b : Option Block) (begun : Block) (e : Ending) → b ≡ Some begun → lines_from_block e s b [] ≡ cut_short e
end_inside s b begun e is = ap (λ (o : Option Block). lines_from_block e s o []) is ∙ inside s begun e

pub end_between : (s : Session) (b : Option Block) (over known : Bool) → b ≡ None → over ≡ known → lines_from_block (end_by over) s b [] ≡ at_rest (end_by known)
end_between s b over known is same =
    ap (λ (o : Option Block). lines_from_block (end_by over) s o []) is ∙ between s (end_by over) ∙ ap (λ (c : Bool). at_rest (end_by c)) same

-- where more may come, nothing is said
pub quiet : (settings : Settings) (s : Stage) → lines_from_stage settings s More [] ≡ []
quiet settings (stage.Header h) = end_head settings h More
quiet settings (stage.Query g t) = end_query settings g t More
quiet settings (stage.Items s (Some b)) = inside (session_of s) b More
quiet settings (stage.Items s None) = between (session_of s) More
quiet settings stage.Refused = refl

-- no lines are no work
pub nothing_left : (settings : Settings) (s : Stage) → work_from_stage settings s [] ≡ 0
unfolding query_part rest_of_block items items_work
nothing_left settings (stage.Header h) = ap (λ (r : Reading Parts). work_after (and_then r (query_part settings))) (state_short job_rules h)
nothing_left settings (stage.Query g t) = refl
nothing_left settings (stage.Items s (Some b)) = refl
nothing_left settings (stage.Items s None) = refl
nothing_left settings stage.Refused = refl
