use Rattle.std.proofs.Common.{Some}
use Rattle.plan_runner.specs.declared.next.Running.TheVariants as running
use Rattle.plan_runner.specs.Pending.{one, pends_after, pends_idle, slots_times}
use Rattle.plan_runner.proofs.Fewer.{pends_less, taken_off}
use Rattle.plan_runner.proofs.whole.directory_opened.Goals as goal

pub returns-in-Handle-clause-goes : goal.returns-in-Handle-clause-goes
returns-in-Handle-clause-goes c bytes = rw c.in-Handle.is (rw c.no_entries.ensures at
    (c.list_rest.ensures.goes c.args.site.now c.args.turn.facts bytes))

pub returns-in-Handle-clause-left : goal.returns-in-Handle-clause-left
returns-in-Handle-clause-left c bytes = c.list_rest.ensures.left c.args.site.now c.args.turn.facts bytes

pub returns-in-Handle-clause-sound : goal.returns-in-Handle-clause-sound
returns-in-Handle-clause-sound c bytes = c.list_rest.ensures.sound c.args.site.now c.args.turn.facts bytes

pub returns-in-Handle-clause-pends : goal.returns-in-Handle-clause-pends
returns-in-Handle-clause-pends c = pends_less (pends_idle c.args.site.now)
    (pends_after (running.OpeningDirectory c.args.grant c.args.bound) c.args.site.now (Some c.args.reply))
    c.args.turn.place
    c.args.site.now c.list_rest.result
    (λ q. taken_off (one c.args.grant q) (slots_times q c.args.site.now.slots))
    (c.list_rest.ensures.pends c.args.site.now)

pub returns-in-Handle-clause-asks : goal.returns-in-Handle-clause-asks
returns-in-Handle-clause-asks c = rw c.in-Handle.is (c.list_rest.ensures.asks c.args.site.now)
