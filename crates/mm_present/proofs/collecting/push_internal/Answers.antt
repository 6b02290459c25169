use Rattle.std.proofs.Common.{◌≡◌, ◌+◌, ◌-◌, ℕ, map, reverse, List, ◌++◌, sym, ap, ap₂, ◌∙◌, arith}
use Rattle.std.specs.List.{range_with_len}
use Rattle.mm_present.specs.Joining.{join_row, widened}
use Rattle.std.proofs.Common.{append-nil}
use Rattle.std.proofs.lemmas.List.{map_push}
use Rattle.mm_present.proofs.JoinRowLemmas.{internal_step}
use Rattle.mm_present.proofs.collecting.push_internal.Goals as goal

pub loop-k-init : goal.loop-k-init
loop-k-init c =
    let op = c.args.op.now.op in
    let all : op.c - c.c-k.result ≡ 0 = omega (arith, c.c-k.ensures) in
    record {
      low = omega (arith, c.c-k.ensures);
      rows = sym (ap (λ n. map (λ r. r.items) c.args.internal.now.items
          ++ reverse (map (widened c.args.before c.args.after) (map (join_row c.args.left.now c.args.right.now) (range_with_len (op.t3 + c.c-k.result) n)))) all
          ∙ append-nil (map (λ r. r.items) c.args.internal.now.items));
    }

pub loop-k-preserved : goal.loop-k-preserved
loop-k-preserved c =
    let op = c.args.op.now.op in
    let k = c.loop-k.k in
    let h = join_row c.args.left.now c.args.right.now in
    let below = c.loop-k.invariant.low in
    record {
      low = omega arith;
      rows = internal_step (widened c.args.before c.args.after) h op.t3 op.c k (map (λ r. r.items) c.args.internal.now.items)
          (map (λ r. r.items) c.loop-k.internal.items) (map (λ r. r.items) c.push.new.self.items) c.in_ok-join_row.field-0.items (omega arith) below
          c.loop-k.invariant.rows
          (c.in_ok-join_row.ensures ∙ ap (λ t. widened c.args.before c.args.after (h (t + (k - 1)))) c.t3-t3.ensures)
          (ap (map (λ r. r.items)) c.in_ok-push.ensures.items ∙ map_push (λ r. r.items) c.loop-k.internal.items c.in_ok-join_row.field-0);
    }

pub returns : goal.returns
returns c =
    let op = c.args.op.now.op in
    let done : c.loop-k.k ≡ 0 = omega arith in
    let t : op.t3 + 0 ≡ op.t3 = omega arith in
    let n : op.c - 0 ≡ op.c = omega arith in
    let out : ℕ → ℕ → List (List ℕ) = λ i m. map (λ r. r.items) c.args.internal.now.items
    ++ reverse (map (widened c.args.before c.args.after) (map (join_row c.args.left.now c.args.right.now) (range_with_len i m))) in
    c.loop-k.invariant.rows ∙ ap (λ k. out (op.t3 + k) (op.c - k)) done ∙ ap₂ out t n
