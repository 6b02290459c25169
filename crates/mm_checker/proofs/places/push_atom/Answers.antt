use Rattle.std.proofs.Common.{subst, sym}
use Rattle.std.specs.Prelude.{OnOk}
use Rattle.mm_checker.specs.KeptBinders.{PutsPlaces}
use Rattle.mm_checker.proofs.PutPlaces.{places_plain}
use Rattle.mm_checker.proofs.places.push_atom.Goals as goal

pub returns : goal.returns
returns c = λ h.
    subst (λ Fs. OnOk c.push.result (PutsPlaces c.args.list.now.items Fs c.push.new.list.items)) (sym (places_plain _ _ h))
    (c.push.ensures _ (c.atom.ensures _ h))
