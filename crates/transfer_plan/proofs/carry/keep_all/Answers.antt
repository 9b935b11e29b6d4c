use Rattle.std.proofs.Common.{rules, ◌≡◌, ◌+◌, ◌-◌, ◌<◌, ◌≤◌, ℕ, ◌∷◌, length, reverse, take, arith, sym, ap, ◌∙◌}
use Rattle.transfer_plan.proofs.ActLaws.{ended, last_first, went_on}
use Rattle.transfer_plan.specs.Jobs.{IsKeep, to_keep}
use Rattle.transfer_plan.specs.declared.found.Found.{Found}
use Rattle.transfer_plan.proofs.carry.keep_all.Goals as goal

pub loop-left-preserved : goal.loop-left-preserved
loop-left-preserved g c =
    let some : 0 < c.loop-left.left = search rules in
    let within : c.loop-left.left ≤ length c.args.jobs.now = c.loop-left.invariant.within in
    let last : c.loop-left.left ≡ c.loop-left.left - 1 + 1 = omega (arith, some) in
    let left : reverse (take c.loop-left.left c.args.jobs.now)
    ≡ c.index-jobs-left.result ∷ reverse (take (c.loop-left.left - 1) c.args.jobs.now) =
    ap (λ (n : ℕ). reverse (take n c.args.jobs.now)) last
    ∙ last_first c.args.jobs.now (c.loop-left.left - 1) c.index-jobs-left.result (omega (arith, some, within))
    ∙ ap (λ (f : Found). f ∷ reverse (take (c.loop-left.left - 1) c.args.jobs.now)) (sym c.index-jobs-left.is) in
    record {
      may = c.keep_step.ensures.may;
      within = omega (arith, within);
      acting =
          went_on g.H.Hand.done to_keep IsKeep (reverse c.args.jobs.now) _ _ c.index-jobs-left.result c.args.tally.now
          c.loop-left.tally c.keep_step.new.tally _ _ _ left c.in_ok-keep_step.ensures.works
          c.loop-left.invariant.acting;
    }

pub returns-clause-acts : goal.returns-clause-acts
returns-clause-acts g c =
    let none : c.loop-left.left ≡ 0 = search rules in
    ended g.H.Hand.done to_keep IsKeep (reverse c.args.jobs.now) _ c.args.tally.now c.loop-left.tally _ _
    (ap (λ (n : ℕ). reverse (take n c.args.jobs.now)) none) c.loop-left.invariant.acting
