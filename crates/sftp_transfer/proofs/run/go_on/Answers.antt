use Rattle.std.proofs.Common.{rules, ◌≡◌, ◌-◌, ◌<◌, suc, true, false, arith, sym, ap, ◌∙◌}
use Rattle.sftp_transfer.proofs.GoLaws.{went_again, went_last}
use Rattle.sftp_transfer.specs.Ended.{may_try_again}
use Rattle.transfer_args.specs.Words.{asked_seen, tries_again, work_seen}
use Rattle.sftp_transfer.proofs.run.go_on.Goals as goal

pub returns-then-not-may_try_again : goal.returns-then-not-may_try_again
returns-then-not-may_try_again g c =
    let some : 0 < c.loop-left.left = search rules in
    let is : c.loop-left.left ≡ suc (c.loop-left.left - 1) = omega (arith, some) in
    let last : may_try_again c.go-reach.result ≡ false = search rules in
    went_last g.O.Outside.done (asked_seen c.args.asked.now) (tries_again (work_seen c.args.asked.now.work))
    c.loop-left.left (c.loop-left.left - 1) c.loop-left.pause c.go-reach.result _ _ _ is last c.go-reach.ensures
    c.loop-left.invariant.going

pub loop-left-preserved : goal.loop-left-preserved
loop-left-preserved g c =
    let some : 0 < c.loop-left.left = search rules in
    let is : c.loop-left.left ≡ suc (c.loop-left.left - 1) = omega (arith, some) in
    let again : may_try_again c.go-reach.result ≡ true = search rules in
    record {
      short = c.next_pause-pause.ensures.most;
      going = rw c.next_pause-pause.ensures.is
          (went_again g.O.Outside.done (asked_seen c.args.asked.now) (tries_again (work_seen c.args.asked.now.work))
          c.loop-left.left (c.loop-left.left - 1) c.loop-left.pause c.go-reach.result _ _ _ is again
          (c.pause.ensures ∙ ap (g.O.Outside.done _) c.go-reach.ensures) c.loop-left.invariant.going);
    }
