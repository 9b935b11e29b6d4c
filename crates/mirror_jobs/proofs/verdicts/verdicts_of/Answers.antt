use Rattle.std.proofs.Common.{◌<◌, ◌≤◌, ◌+◌, ◌^◌, ◌%◌, List, length, take, drop, ap, ◌∙◌, arith}
use Rattle.std.specs.Prelude.{slice_set}
use Rattle.std.proofs.Math.Nat.{mod-lt}
use Rattle.sftp_model.specs.declared.outcome.Outcome.{Outcome}
use Rattle.mirror_jobs.specs.Verdicts.{verdict_of}
use Rattle.mirror_jobs.proofs.PlaceLaws.{place_fits, so_far_on}
use Rattle.mirror_jobs.proofs.verdicts.verdicts_of.Goals as goal

-- the verdicts have room for as many as there are files
pub overflow_add-place : goal.overflow_add-place
overflow_add-place c =
    let room : length c.args.jobs.now ≤ c.in_ok-verdicts.verdicts.cap = c.in_ok-verdicts.ensures.capacity in
    let small : c.in_ok-verdicts.verdicts.cap < 2 ^ 63 = c.in_ok-verdicts.verdicts.small in
    let lane : c.loop-i.i % c.args.width < c.args.width = mod-lt c.loop-i.i (omega (arith, c.requires)) in
    let few = place_fits c.args.width c.args.jobs.now c.args.outcomes.now c.loop-i.i c.loop-i.places.items
    c.loop-i.verdicts.items _ _ c.loop-i.invariant lane c.loop-i-test.true (omega (arith, room, small))
    c.index-place.ensures c.count_of-count.ensures.few in
    omega (arith, few)

pub loop-i-preserved : goal.loop-i-preserved
loop-i-preserved c =
    let lane : c.loop-i.i % c.args.width < c.args.width = mod-lt c.loop-i.i (omega (arith, c.requires)) in
    so_far_on c.args.width c.args.jobs.now c.args.outcomes.now c.loop-i.i _ _ _ _ _ _ _ c.loop-i.invariant lane
    c.loop-i-test.true c.index-jobs-i.is
    c.index-place.ensures
    (c.in_ok-verdict.ensures ∙ ap (λ (own : List Outcome). verdict_of c.index-jobs-i.result own)
    (c.outcomes_at-own.ensures ∙ (λ k. take (c.count_of-count.ensures.value k)
    (drop c.index-place.result.now (c.outcomes_in.ensures k)))))
    (λ k. slice_set c.loop-i.places.items (c.loop-i.i % c.args.width)
    (c.index-place.result.now + c.count_of-count.ensures.value k))
    c.in_ok-push.ensures.items
