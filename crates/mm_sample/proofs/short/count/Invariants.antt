use Rattle.std.proofs.Common.{◌≡◌, ◌+◌, length}
use Rattle.mm_sample.proofs.short.count.Given as goal

abbrev pub invariant-words : goal.invariant-words
invariant-words l = l.count + length l.words ≡ length l.initial.words

abbrev pub decreases-words : goal.decreases-words
decreases-words l = length l.words
