use Rattle.std.proofs.Common.{arith}
use Rattle.mm_combine.proofs.TableLemmas.{length-sizes}
use Rattle.mm_combine.proofs.marked.MarkedTable.len.Goals as goal

pub len-requires : goal.len-requires
len-requires g c = let t = c.args.self.now in omega (arith, t.few, t.counted, length-sizes g.K.TableKey.size g.K.TableKey.some t.table)
