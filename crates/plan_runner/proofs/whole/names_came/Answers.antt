use Rattle.std.proofs.Common.{◌≡◌, ◌-◌, ◌==◌, rules, false, length, Some}
use Rattle.sftp_model.specs.declared.reply.Reply.TheVariants as reply
use Rattle.plan_runner.specs.declared.next.Running.TheVariants as running
use Rattle.plan_runner.specs.Pending.{one, pends_after, pends_idle, slots_times}
use Rattle.plan_runner.proofs.Going.{names_goes}
use Rattle.plan_runner.proofs.Fewer.{pends_less, taken_off}
use Rattle.plan_runner.proofs.whole.names_came.Goals as goal

pub returns-clause-goes : goal.returns-clause-goes
returns-clause-goes c bytes =
    let some : (length c.args.names == 0) ≡ false = search rules in
    let less : c.saturating_sub-rest.result ≡ c.args.read.bound - 1 = search rules in
    names_goes c.args.read.awaited c.args.read.grant c.args.got c.args.names c.in_ok-entries.entries c.args.read.bound
    c.saturating_sub-rest.result c.args.turn.place bytes c.args.site.now c.args.turn.facts c.list_rest.result
    some c.in_ok-entries.ensures less (c.list_rest.ensures.goes c.args.site.now c.args.turn.facts bytes)

pub returns-clause-left : goal.returns-clause-left
returns-clause-left c bytes = c.list_rest.ensures.left c.args.site.now c.args.turn.facts bytes

pub returns-clause-sound : goal.returns-clause-sound
returns-clause-sound c bytes = c.list_rest.ensures.sound c.args.site.now c.args.turn.facts bytes

pub returns-clause-pends : goal.returns-clause-pends
returns-clause-pends c = pends_less (pends_idle c.args.site.now)
    (pends_after (running.Listing c.args.read.awaited c.args.read.grant c.args.got c.args.read.bound) c.args.site.now
    (Some (reply.Names c.args.names))) c.args.turn.place c.args.site.now c.list_rest.result
    (λ q. taken_off (one c.args.read.awaited q) (slots_times q c.args.site.now.slots))
    (c.list_rest.ensures.pends c.args.site.now)

pub returns-clause-asks : goal.returns-clause-asks
returns-clause-asks c = c.list_rest.ensures.asks c.args.site.now
