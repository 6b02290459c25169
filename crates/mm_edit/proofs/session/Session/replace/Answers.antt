use Rattle.std.proofs.Common.{◌≡◌, ◌≤◌, ◌+◌, Some, None, Err, sym, subst}
use Rattle.mm_tree.specs.Places.{path_above, path_of, place_at_end, IsPlaceOf}
use Rattle.mm_tree.specs.Replacing.{Answers, replace_fault}
use Rattle.mm_edit.specs.Edits.{Edits, exchanged, most_steps}
use Rattle.mm_edit.proofs.EditLemmas.{exchange_allowed, exchange_refused}
use Rattle.mm_edit.proofs.session.Session.replace.Goals as goal

pub returns-in-Ok-clause-edits : goal.returns-in-Ok-clause-edits
returns-in-Ok-clause-edits g c =
    let s = c.args.self.now in
    let place = c.in-Some.place in
    let name = c.args.name.now in
    let up = c.args.up in
    let new = c.args.new.tree in
    let found = subst (λ s. Some place ≡ place_at_end s.tree.tree (path_above name up s.tree.tree)) c.self.view_is c.in-Some.ensures.found in
    let is = subst (λ s. IsPlaceOf s.tree.tree place) c.self.view_is c.in-Some.ensures.within in
    let fits = subst (λ s. replace_fault s.tree.tree (path_of place.number s.tree.tree) new ≡ None) c.self.view_is c.in-Ok.ensures in
    subst (λ a. Edits s c.exchange.new.self a c.exchange.result) (sym (exchange_allowed name up new s.tree.tree place found is fits)) c.exchange.ensures.edits

pub returns-in-Ok-clause-ticks : goal.returns-in-Ok-clause-ticks
returns-in-Ok-clause-ticks g c =
    let s = c.args.self.now in
    let place = c.in-Some.place in
    let name = c.args.name.now in
    let up = c.args.up in
    let new = c.args.new.tree in
    let found = subst (λ s. Some place ≡ place_at_end s.tree.tree (path_above name up s.tree.tree)) c.self.view_is c.in-Some.ensures.found in
    let is = subst (λ s. IsPlaceOf s.tree.tree place) c.self.view_is c.in-Some.ensures.within in
    let fits = subst (λ s. replace_fault s.tree.tree (path_of place.number s.tree.tree) new ≡ None) c.self.view_is c.in-Ok.ensures in
    subst (λ a. c.exchange.new.steps ≤ c.args.steps.now + most_steps s a) (sym (exchange_allowed name up new s.tree.tree place found is fits)) c.exchange.ensures.ticks

pub returns-in-Err-clause-edits : goal.returns-in-Err-clause-edits
returns-in-Err-clause-edits g c =
    let s = c.args.self.now in
    let place = c.in-Some.place in
    let name = c.args.name.now in
    let up = c.args.up in
    let new = c.args.new.tree in
    let found = subst (λ s. Some place ≡ place_at_end s.tree.tree (path_above name up s.tree.tree)) c.self.view_is c.in-Some.ensures.found in
    let fault = subst (λ s. Answers (Err c.in-Err.fault) (replace_fault s.tree.tree (path_of place.number s.tree.tree) new)) c.self.view_is c.in-Err.ensures in
    subst (λ e. Edits s s (exchanged name up new s.tree.tree) (Err e)) (sym c.edit_fault.ensures) (exchange_refused name up new s.tree.tree place found s c.in-Err.fault fault)
