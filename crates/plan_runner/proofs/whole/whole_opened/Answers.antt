use Rattle.std.proofs.Common.{ap, sym, Some}
use Rattle.sftp_model.specs.declared.slot.FileAt.{FileAt}
use Rattle.plan_runner.specs.declared.next.Running.TheVariants as running
use Rattle.plan_runner.specs.Pending.{one, pends_after, pends_idle, slots_times}
use Rattle.plan_runner.proofs.Fewer.{pends_if_ok, taken_off}
use Rattle.plan_runner.proofs.whole.whole_opened.Goals as goal

pub returns-in-Handle-clause-goes : goal.returns-in-Handle-clause-goes
returns-in-Handle-clause-goes c = rw c.in-Handle.is (rw c.file_to_replace-file.ensures at
    (c.write_rest.ensures.goes c.args.site.now))

pub returns-in-Handle-clause-left : goal.returns-in-Handle-clause-left
returns-in-Handle-clause-left c = c.write_rest.ensures.left c.args.site.now tt

pub returns-in-Handle-clause-pends : goal.returns-in-Handle-clause-pends
returns-in-Handle-clause-pends c = pends_if_ok (pends_idle c.args.site.now)
    (pends_after (running.OpeningToWrite c.args.grant) c.args.site.now (Some c.args.reply)) c.args.turn.place
    c.args.site.now
    c.write_rest.result
    (λ q. taken_off (one c.args.grant q) (slots_times q c.args.site.now.slots))
    (c.write_rest.ensures.pends c.args.site.now)

pub returns-in-Handle-clause-asks : goal.returns-in-Handle-clause-asks
returns-in-Handle-clause-asks c = rw c.in-Handle.is (c.write_rest.ensures.asks.grants c.args.site.now
    (Some c.args.grant)
    (ap (λ (f : FileAt). Some f.grant) (sym c.file_to_replace-file.ensures)))
