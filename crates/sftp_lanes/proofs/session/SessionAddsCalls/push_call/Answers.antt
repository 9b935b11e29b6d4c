use Rattle.std.proofs.Common.{ap}
use Rattle.session_work.specs.Working.{LanesValue}
use Rattle.session_work.proofs.AddedLaws.{on_err, on_ok}
use Rattle.sftp_lanes.proofs.Shown.{adds_to, same_seen}
use Rattle.sftp_lanes.proofs.session.SessionAddsCalls.push_call.Goals as goal

pub returns-clause-adds : goal.returns-clause-adds
returns-clause-adds c = on_ok c.push_call.result _ _ (adds_to c.args.lane c.args.call c.args.self.now
    c.push_call.new.self) c.push_call.ensures.adds

pub returns-clause-calls : goal.returns-clause-calls
returns-clause-calls c = on_ok c.push_call.result _ _ (λ a. ap (λ (x : LanesValue). x.calls) a.is)
    c.push_call.ensures.adds

pub returns-clause-unchanged : goal.returns-clause-unchanged
returns-clause-unchanged c = on_err c.push_call.result _ _ (same_seen c.args.self.now c.push_call.new.self)
    c.push_call.ensures.left
