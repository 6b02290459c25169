use Rattle.std.proofs.Common.{◌++◌, ◌∙◌, ap, arith}
use Rattle.std.proofs.lemmas.List.{take_all}
use Rattle.mm_job.proofs.NameLemmas.{name_more, spaced_names}
use Rattle.mm_job.proofs.editor.append_names.Goals as goal

pub loop-i-preserved : goal.loop-i-preserved
loop-i-preserved c =
    name_more c.args.names.now c.loop-i.i c.at.result c.args.text.now c.loop-i.text c.append_name.new.text c.at.ensures c.loop-i.invariant c.in_ok-append_name.ensures

pub returns : goal.returns
returns c =
    c.loop-i.invariant ∙ ap (λ l. c.args.text.now ++ spaced_names l) (take_all c.loop-i.i c.args.names.now (omega (arith, c.len-i-end.ensures)))
