use Rattle.std.proofs.Common.{◌≤◌, length, None, subst, arith}
use Rattle.std.proofs.lemmas.List.{get_or_past}
use Rattle.mm_least.specs.FoundTypes.{IsPlaceAmong}
use Rattle.mm_least.proofs.found.Found.place_of.Goals as goal

pub returns-else-at-len : goal.returns-else-at-len
returns-else-at-len c =
    let size = c.len.ensures in
    let none = c.if-at-len.false in
    let past : length c.args.self.now.places.items ≤ c.args.id = omega (arith, size, none) in
    subst (IsPlaceAmong c.args.self.now.ids.items c.args.id) (get_or_past c.args.self.now.places.items c.args.id None past) (c.requires.placed c.args.id)
