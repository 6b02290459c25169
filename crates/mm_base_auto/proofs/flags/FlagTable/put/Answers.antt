use Rattle.std.proofs.Common.{◌∙◌, sym, ap, slice_get, nat_eq, arith}
use Rattle.std.specs.List.{list_any}
use Rattle.mm_base_auto.proofs.AtomLemmas.{flag_found, flag_put}
use Rattle.mm_base_auto.proofs.flags.FlagTable.put.Goals as goal

pub returns-in-Some-clause-answer : goal.returns-in-Some-clause-answer
returns-in-Some-clause-answer c =
    flag_found c.args.flag c.args.self.now.flags.items c.args.room c.in-Some.id (ap (λ z. slice_get z c.in-Some.id) (sym c.as_slice.ensures) ∙ c.in-Some.ensures.some)

pub returns-in_ok-push-in-None-clause-answer : goal.returns-in_ok-push-in-None-clause-answer
returns-in_ok-push-in-None-clause-answer c =
    flag_put c.args.flag c.args.self.now.flags.items c.push.new.self.flags.items c.args.room c.len-id.result (ap (list_any (nat_eq c.args.flag)) (sym c.as_slice.ensures) ∙ c.in-None.ensures.none)
    c.in_ok-push-in-None.ensures.ok (omega (arith, c.len-id.ensures.value)) c.if-room-eq0.false
