use Rattle.std.proofs.Common.{rules, ◌≡◌, ◌∙◌, arith}
use Rattle.std.proofs.lemmas.List.{take_all}
use Rattle.indexmap.specs.IndexSet.{insert_key}
use Rattle.mm_base.specs.contracts.name.NamePartialEq.TheImpl.{eq-value}
use Rattle.mm_present.proofs.CompareLemmas.{set_next}
use Rattle.mm_decomp.proofs.columns.set_of.Goals as goal

pub loop-k-preserved : goal.loop-k-preserved
loop-k-preserved c =
    let keys : c.insert.new.self.keys ≡ insert_key (eq-value).it c.loop-k.set.keys c.at.result = search rules in
    set_next c.args.names.now c.loop-k.set.keys c.insert.new.self.keys c.loop-k.k c.at.result c.requires (omega (arith, c.len-k-end.ensures))
    c.loop-k.invariant c.at.ensures keys

pub returns : goal.returns
returns c = c.loop-k.invariant ∙ take_all c.loop-k.k c.args.names.now (omega (arith, c.len-k-end.ensures))
