use Rattle.std.specs.List.{list_any}
use Rattle.mm_checker.proofs.EndLemmas.{put_is, same_valued}
use Rattle.mm_checker.proofs.SizeLemmas.{sized_put}
use Rattle.mm_checker.proofs.values.Values.put.Goals as goal

pub returns-clause-value : goal.returns-clause-value
returns-clause-value c = λ f hs h.
    put_is f c.args.self.now.ended.keys c.args.valued c.in_ok-new.new c.insert_full.new.self.keys hs h c.in_ok-new.ensures.added c.in_ok-new.ensures.keys

pub returns-clause-sized : goal.returns-clause-sized
returns-clause-sized c = λ sized e.
    let pushed = c.in_ok-push.ensures in
    sized_put c.args.self.now.ended.keys c.args.self.now.sizes.kept.items sized c.args.valued pushed.0 _
    (list_any (same_valued c.args.valued) c.args.self.now.ended.keys) c.in_ok-new.new c.insert_full.new.self.keys pushed.1 pushed.2 c.in_ok-new.ensures.added
    c.in_ok-new.ensures.keys e
