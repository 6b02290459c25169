use Rattle.std.proofs.Common.{◌≡◌, List, Some, slice_get, sym, ap₂, subst, ◌∙◌}
use Rattle.std.specs.Map.{values_of}
use Rattle.mm_ops.specs.OpValue.{OpValue}
use Rattle.mm_ops.specs.contracts.op.OpPartialEq.TheImpl.{eq-value}
use Rattle.mm_present.specs.JoinCache.{AreDigitsOf}
use Rattle.mm_present.specs.declared.join_cache.JoinDigits.{JoinDigits}
use Rattle.mm_ops.proofs.OpEquality.{op_same}
use Rattle.mm_present.proofs.JoinCacheLemmas.{found_right, tried_right, added_at, some_same}
use Rattle.mm_present.proofs.join_cache.KnownOperators.place.Goals as goal

pub returns-in-Some-clause-known : goal.returns-in-Some-clause-known
returns-in-Some-clause-known c digits e =
    found_right (eq-value).it op_same AreDigitsOf c.args.op.now digits c.args.self.now.digits.entries c.args.self.now.known.each
    (sym c.in-Some.ensures.value ∙ e)

pub invariant_of-self : goal.invariant_of-self
invariant_of-self c = record {
  known = record {
    each = tried_right (eq-value).it op_same AreDigitsOf c.insert_full.result c.args.op.now c.in_ok-digits.digits c.args.self.now.digits.entries
        c.insert_full.new.self.entries c.args.self.now.known.each c.in_ok-digits.ensures c.insert_full.ensures.entries c.insert_full.ensures.err;
  };
}

pub returns-clause-known : goal.returns-clause-known
returns-clause-known c digits e =
    let old = c.args.self.now.digits.entries in
    let made = c.in_ok-digits.digits in
    let there : slice_get (values_of c.insert_full.new.self.entries) c.in_ok-i.i ≡ Some made =
    ap₂ (λ (entries : List (OpValue × JoinDigits)) i. slice_get (values_of entries) i) c.in_ok-i.ensures.entries c.in_ok-i.ensures.index
    ∙ added_at (eq-value).it c.args.op.now made old in
    let same : made ≡ digits = some_same made digits (sym there ∙ e) in
    subst (λ x. AreDigitsOf c.args.op.now x) same c.in_ok-digits.ensures
