use Rattle.std.proofs.Common.{subst, sym, ap, true, ◌∷◌, length, ◌≡◌, ◌+◌, arith, if◌then◌else◌}
use Rattle.std.specs.Prelude.{OnOk}
use Rattle.mm_formula.specs.Scope.{slotted, connective, depth}
use Rattle.mm_formula.specs.Syntax.{syntax_of, nodes}
use Rattle.mm_formula.specs.Variables.{is_set}
use Rattle.mm_logic.specs.Formula.{Connective}
use Rattle.mm_logic.specs.Formula.Formula.{Const, Bin, ExSet, ExElem, AllSet, AllElem}
use Rattle.mm_checker.specs.Places.{places}
use Rattle.mm_checker.specs.KeptBinders.{names, PutsPlaces, IsQuantifier}
use Rattle.mm_checker.proofs.PutPlaces.{first_falls, second_falls, body_falls, first_owes, second_owes, body_owes, one_more, pair_pushed, put_pair, put_below, ex_place, all_place, ex_places, all_places}
use Rattle.mm_checker.proofs.places.+push_places.Goals as goal

pub push_places-requires-in-Bin : goal.push_places-requires-in-Bin
push_places-requires-in-Bin t c =
    let x = ap syntax_of c.deref-in-Bin.ensures in
    let at : c.len.result ≡ length c.args.list.now.items = omega (arith, c.len.ensures, c.args.list.now.ok.0) in
    let put = pair_pushed c.args.list.now.items c.push.new.list.items c.len.result c.pair-place.result (names c.args.binders.now) _ _ at x c.pair-place.ensures c.in_ok-push-in-Bin.ensures Connective.And (Const true) in
    let one = one_more c.args.list.now.items c.push.new.list.items (Bin Connective.And (slotted (names c.args.binders.now) (syntax_of c.in-Bin.first.value)) (Const true)) put in (
      omega (arith, c.decreases, first_falls (syntax_of c.args.formula.now) _ _ _ _ (ap syntax_of c.in-Bin.is) (ap syntax_of c.deref-in-Bin-2.ensures)),
      first_owes (length (names c.args.binders.now)) c.args.list.now.items c.push.new.list.items (syntax_of c.args.formula.now) _ _ _ _ (ap syntax_of c.in-Bin.is) (ap syntax_of c.deref-in-Bin-2.ensures)
          c.requires.scope one c.requires.few,
    )

pub push_places-requires-in-Bin-2 : goal.push_places-requires-in-Bin-2
push_places-requires-in-Bin-2 t c =
    let x = ap syntax_of c.deref-in-Bin.ensures in
    let at : c.len.result ≡ length c.args.list.now.items = omega (arith, c.len.ensures, c.args.list.now.ok.0) in
    let put = pair_pushed c.args.list.now.items c.push.new.list.items c.len.result c.pair-place.result (names c.args.binders.now) _ _ at x c.pair-place.ensures c.in_ok-push-in-Bin.ensures Connective.And (Const true) in
    let one = one_more c.args.list.now.items c.push.new.list.items (Bin Connective.And (slotted (names c.args.binders.now) (syntax_of c.in-Bin.first.value)) (Const true)) put in (
      omega (arith, c.decreases, second_falls (syntax_of c.args.formula.now) _ _ _ _ (ap syntax_of c.in-Bin.is) (ap syntax_of c.deref-in-Bin-3.ensures)),
      second_owes (length (names c.args.binders.now)) c.args.list.now.items c.push.new.list.items (syntax_of c.args.formula.now) c.push_places-in-Bin.new.list.items (names c.args.binders.now) _ _ _ _ _
          (ap syntax_of c.in-Bin.is) (ap syntax_of c.deref-in-Bin-2.ensures) (ap syntax_of c.deref-in-Bin-3.ensures)
          c.requires.scope one c.requires.few c.in_ok-push_places-in-Bin.ensures,
    )

pub push_places-requires-in-Ex : goal.push_places-requires-in-Ex
push_places-requires-in-Ex t c =
    let n = length (names c.args.binders.now) in
    let S = syntax_of c.args.formula.now in
    let A = syntax_of c.in-Ex.body.value in
    let X = syntax_of c.deref-in-Ex.result.now in
    let d : depth S ≡ depth A + 1 = ap (λ F. depth (syntax_of F)) c.in-Ex.is in
    let k : nodes S ≡ 1 + nodes A = ap (λ F. nodes (syntax_of F)) c.in-Ex.is in
    let x : X ≡ A = ap syntax_of c.deref-in-Ex.ensures in
    let F = slotted (names c.args.binders.now) A in
    let Q = if is_set c.in-Ex.v then ExSet n F else ExElem n F in
    let put = c.in_ok-push-in-Ex.ensures Q (ex_place (is_set c.in-Ex.v) (length c.args.list.now.items) n F c.quantifier.result
    (subst (λ m. IsQuantifier (is_set c.in-Ex.v) m c.quantifier.result) c.len-in-Ex.ensures c.quantifier.ensures)) in
    (omega (arith, c.decreases, body_falls S A X k x), body_owes n c.args.list.now.items c.push-in-Ex.new.list.items S A X d k x c.requires.scope (one_more _ _ Q put) c.requires.few)

pub push_places-requires-in-All : goal.push_places-requires-in-All
push_places-requires-in-All t c =
    let n = length (names c.args.binders.now) in
    let S = syntax_of c.args.formula.now in
    let A = syntax_of c.in-All.body.value in
    let X = syntax_of c.deref-in-All.result.now in
    let d : depth S ≡ depth A + 1 = ap (λ F. depth (syntax_of F)) c.in-All.is in
    let k : nodes S ≡ 1 + nodes A = ap (λ F. nodes (syntax_of F)) c.in-All.is in
    let x : X ≡ A = ap syntax_of c.deref-in-All.ensures in
    let F = slotted (names c.args.binders.now) A in
    let Q = if is_set c.in-All.v then AllSet n F else AllElem n F in
    let put = c.in_ok-push-in-All.ensures Q (all_place (is_set c.in-All.v) (length c.args.list.now.items) n F c.quantifier-in-All.result
    (subst (λ m. IsQuantifier (is_set c.in-All.v) m c.quantifier-in-All.result) c.len-in-All.ensures c.quantifier-in-All.ensures)) in
    (omega (arith, c.decreases, body_falls S A X k x), body_owes n c.args.list.now.items c.push-in-All.new.list.items S A X d k x c.requires.scope (one_more _ _ Q put) c.requires.few)

pub returns-in_ok-push_places-in-Bin : goal.returns-in_ok-push_places-in-Bin
returns-in_ok-push_places-in-Bin t c =
    let bs = names c.args.binders.now in
    let at : c.len.result ≡ length c.args.list.now.items = omega (arith, c.len.ensures, c.args.list.now.ok.0) in
    subst (λ F. OnOk c.push_places-in-Bin-2.result (PutsPlaces c.args.list.now.items (places (slotted bs (syntax_of F))) c.push_places-in-Bin-2.new.list.items)) (sym c.in-Bin.is)
    (put_pair c.args.list.now.items c.push.new.list.items c.push_places-in-Bin.new.list.items c.push_places-in-Bin-2.new.list.items (connective c.in-Bin.field-0)
    (slotted bs (syntax_of c.in-Bin.first.value)) (slotted bs (syntax_of c.in-Bin.second.value)) c.push_places-in-Bin-2.result
    (pair_pushed c.args.list.now.items c.push.new.list.items c.len.result c.pair-place.result bs _ _ at (ap syntax_of c.deref-in-Bin.ensures) c.pair-place.ensures c.in_ok-push-in-Bin.ensures
    (connective c.in-Bin.field-0) (slotted bs (syntax_of c.in-Bin.second.value)))
    (subst (λ F. PutsPlaces c.push.new.list.items (places (slotted bs (syntax_of F))) c.push_places-in-Bin.new.list.items) c.deref-in-Bin-2.ensures c.in_ok-push_places-in-Bin.ensures)
    (subst (λ F. OnOk c.push_places-in-Bin-2.result (PutsPlaces c.push_places-in-Bin.new.list.items (places (slotted bs (syntax_of F))) c.push_places-in-Bin-2.new.list.items)) c.deref-in-Bin-3.ensures c.push_places-in-Bin-2.ensures))

pub returns-in_ok-push-in-Ex : goal.returns-in_ok-push-in-Ex
returns-in_ok-push-in-Ex t c =
    let bs = names c.args.binders.now in
    let F = slotted (c.in-Ex.v ∷ bs) (syntax_of c.in-Ex.body.value) in
    let Q = if is_set c.in-Ex.v then ExSet (length bs) F else ExElem (length bs) F in
    subst (λ F. OnOk c.push_places-in-Ex.result (PutsPlaces c.args.list.now.items (places (slotted bs (syntax_of F))) c.push_places-in-Ex.new.list.items)) (sym c.in-Ex.is)
    (subst (λ Fs. OnOk c.push_places-in-Ex.result (PutsPlaces c.args.list.now.items Fs c.push_places-in-Ex.new.list.items)) (ex_places (is_set c.in-Ex.v) (length bs) F)
    (put_below c.args.list.now.items c.push-in-Ex.new.list.items c.push_places-in-Ex.new.list.items Q F c.push_places-in-Ex.result
    (c.in_ok-push-in-Ex.ensures Q (ex_place (is_set c.in-Ex.v) (length c.args.list.now.items) (length bs) F c.quantifier.result
    (subst (λ m. IsQuantifier (is_set c.in-Ex.v) m c.quantifier.result) c.len-in-Ex.ensures c.quantifier.ensures)))
    (subst (λ x. OnOk c.push_places-in-Ex.result (PutsPlaces c.push-in-Ex.new.list.items (places (slotted (c.in-Ex.v ∷ bs) (syntax_of x))) c.push_places-in-Ex.new.list.items)) c.deref-in-Ex.ensures c.push_places-in-Ex.ensures)))

pub returns-in_ok-push-in-All : goal.returns-in_ok-push-in-All
returns-in_ok-push-in-All t c =
    let bs = names c.args.binders.now in
    let F = slotted (c.in-All.v ∷ bs) (syntax_of c.in-All.body.value) in
    let Q = if is_set c.in-All.v then AllSet (length bs) F else AllElem (length bs) F in
    subst (λ F. OnOk c.push_places-in-All.result (PutsPlaces c.args.list.now.items (places (slotted bs (syntax_of F))) c.push_places-in-All.new.list.items)) (sym c.in-All.is)
    (subst (λ Fs. OnOk c.push_places-in-All.result (PutsPlaces c.args.list.now.items Fs c.push_places-in-All.new.list.items)) (all_places (is_set c.in-All.v) (length bs) F)
    (put_below c.args.list.now.items c.push-in-All.new.list.items c.push_places-in-All.new.list.items Q F c.push_places-in-All.result
    (c.in_ok-push-in-All.ensures Q (all_place (is_set c.in-All.v) (length c.args.list.now.items) (length bs) F c.quantifier-in-All.result
    (subst (λ m. IsQuantifier (is_set c.in-All.v) m c.quantifier-in-All.result) c.len-in-All.ensures c.quantifier-in-All.ensures)))
    (subst (λ x. OnOk c.push_places-in-All.result (PutsPlaces c.push-in-All.new.list.items (places (slotted (c.in-All.v ∷ bs) (syntax_of x))) c.push_places-in-All.new.list.items)) c.deref-in-All.ensures c.push_places-in-All.ensures)))
